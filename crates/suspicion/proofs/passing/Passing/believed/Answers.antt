use Rattle.std.proofs.Common.{◌∙◌, ap, sym}
use Rattle.suspicion.specs.Passing.{PassingState}
use Rattle.suspicion.specs.ReplicaSets.{is_in}
use Rattle.suspicion.proofs.Passed.{is_sure}
use Rattle.suspicion.proofs.passing.Passing.believed.Goals as goal

pub returns-then-has : goal.returns-then-has
returns-then-has c =
    is_sure c.args.self.now c.args.from c.args.voters.now c.sure.result
    (ap (λ (p : PassingState). is_in p.unheard c.args.from) (sym c.self.view_is) ∙ sym c.has.ensures ∙ c.if-has.true)
    c.sure.ensures
