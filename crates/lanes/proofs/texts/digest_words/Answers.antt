use Rattle.sha2.specs.Sha256.{digest_bytes}
use Rattle.lanes.proofs.ByLane.{splat}
use Rattle.lanes.proofs.Words.{sixteen, word_again}
use Rattle.lanes.proofs.texts.digest_words.Goals as goal

pub returns : goal.returns
unfolding digest_bytes
returns c = λ j lt.
    let none = (splat 0 j lt).is in
    sixteen _
    (word_again c.args.a j lt c.fits-a) (word_again c.args.b j lt c.fits-b) (word_again c.args.c j lt c.fits-c) (word_again c.args.d j lt c.fits-d)
    (word_again c.args.e j lt c.fits-e) (word_again c.args.f j lt c.fits-f) (word_again c.args.g j lt c.fits-g) (word_again c.args.h j lt c.fits-h)
    (splat 0x80000000 j lt).is none none none none none none (splat 768 j lt).is
