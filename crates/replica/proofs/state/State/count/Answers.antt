use Rattle.std.proofs.Common.{length, ap, ◌∙◌}
use Rattle.replica.specs.Kept.{StateParts}
use Rattle.replica.proofs.state.State.count.Goals as goal

pub returns : goal.returns
returns c = c.self.invariant.0 ∙ ap (λ (k : StateParts). length k.variables.chronicle) c.self.view_is
