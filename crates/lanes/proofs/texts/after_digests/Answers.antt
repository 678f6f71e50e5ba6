use Rattle.sha2.specs.Sha256.{digest_bytes, hash_after}
use Rattle.lanes.proofs.texts.after_digests.Goals as goal

pub returns : goal.returns
unfolding digest_bytes hash_after
returns c = λ j lt. c.compress.ensures j _ lt (c.make_schedule.ensures j _ lt (c.digest_words-words.ensures j lt))
