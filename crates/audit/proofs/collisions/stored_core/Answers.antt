use Rattle.std.proofs.Common.{◌∙◌, sym, ap}
use Rattle.std.specs.Prelude.{option_map}
use Rattle.definitions.specs.Chronicles.{Chronicle}
use Rattle.definitions.specs.Audit.{core_in, step_after}
use Rattle.audit.specs.Judged.{judged}
use Rattle.audit.specs.Cores.{known}
use Rattle.audit.proofs.Moves.{no-steps}
use Rattle.audit.proofs.collisions.stored_core.Goals as goal

pub returns-in_err-chronicle_of : goal.returns-in_err-chronicle_of
unfolding core_in
returns-in_err-chronicle_of c =
    ap (option_map known) c.from_residual.ensures
    ∙ sym (ap core_in (no-steps (judged c.args.replicas.now) c.args.step c.args.number
    c.in_err-chronicle_of.ensures))

pub returns-in_err-step : goal.returns-in_err-step
unfolding core_in
returns-in_err-step c =
    ap (option_map known) c.from_residual-in_err-step.ensures
    ∙ ap core_in (c.in_err-step.ensures.step
    ∙ ap (λ (x : Chronicle). step_after c.args.step x) c.in_ok-chronicle_of.ensures.1)
