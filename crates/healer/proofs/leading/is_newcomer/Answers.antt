use Rattle.std.proofs.Common.{ap, ◌==◌, ◌∙◌, ℕ}
use Rattle.recovery.specs.Correct.{chronicle_of}
use Rattle.healer.proofs.Newcomers.{newcomer-is}
use Rattle.healer.proofs.Tellings.{blocks-are}
use Rattle.healer.proofs.leading.is_newcomer.Goals as goal

pub returns-in-Some : goal.returns-in-Some
returns-in-Some c = λ hs w t l.
    ap (λ (n : ℕ). n == 1) (c.blocks-count.ensures
    ∙ blocks-are w c.args.replica c.in-Some.replica.now (c.in-Some.ensures hs w t l))
    ∙ newcomer-is (chronicle_of w c.args.replica)

pub returns-in-None : goal.returns-in-None
returns-in-None c = λ hs w t l. absurd (c.in-None.ensures hs w t l)
