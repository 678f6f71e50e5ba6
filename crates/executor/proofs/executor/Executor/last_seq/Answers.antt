use Rattle.std.proofs.Common.{ap, ◌∙◌}
use Rattle.definitions.specs.Histories.{last_seq}
use Rattle.executor.specs.State.{Execution}
use Rattle.executor.proofs.State.{number-by_row}
use Rattle.executor.proofs.executor.Executor.last_seq.Goals as goal

pub returns : goal.returns
returns c = c.last_seq.ensures ∙ number-by_row _ _ _ c.self.invariant c.args.client
    ∙ ap (λ (v : Execution). last_seq c.args.client v.history) c.self.view_is
