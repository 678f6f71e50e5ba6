use Rattle.std.proofs.Common.{length, ap, ◌∙◌}
use Rattle.definitions.specs.Histories.{History}
use Rattle.definitions.specs.Replicas.{held_history}
use Rattle.replica.specs.Steps.{Held}
use Rattle.replica.proofs.replica.Replica.executed.Goals as goal

pub returns : goal.returns
returns c =
    c.len.ensures ∙ ap (λ (h : History). length h) c.self.invariant.0.history
    ∙ ap (λ (h : Held). length (held_history h.replica)) c.self.view_is
