use Rattle.replica.proofs.Archives.{stepped-quiet, no-leave, archived-none}
use Rattle.replica.proofs.archived.Archived.step.Goals as goal

pub invariant_of-self-in-None : goal.invariant_of-self-in-None
invariant_of-self-in-None c =
    let quiet = no-leave c.args.input c.in_default.not-Prune in
    archived-none c.self.inside.archive c.self.inside.replica.replica c.step.new.self.replica
    (λ x. x.steps.items.items) (λ x. x.entries) c.in-None.is c.self.invariant
    (stepped-quiet _ c.args.input _ _ _ quiet c.step.ensures.stepped)
