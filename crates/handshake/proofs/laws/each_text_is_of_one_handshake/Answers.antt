use Rattle.handshake.proofs.Spoken.{ask_says_one, answer_says_one}
use Rattle.handshake.proofs.laws.each_text_is_of_one_handshake.Goals as goal

pub returns : goal.returns
returns c = λ greeted other a b hg ho ha hb. (
  λ e. let one = ask_says_one greeted other a b hg ho ha hb e in (one.nonces, one.asks),
  λ life later e.
      let one = answer_says_one greeted other a b hg ho ha hb life later e in
      (one.nonces, one.asks, one.lives),
)
