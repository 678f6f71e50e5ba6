use Rattle.replica.proofs.Archives.{stepped-pruning, archived-still}
use Rattle.replica.proofs.archived.Archived.prune.Goals as goal

pub invariant_of-self : goal.invariant_of-self
invariant_of-self c = stepped-pruning _ c.args.input _ _ _ c.requires.prunes c.in-Ok.ensures.stepped

pub invariant_of-self-in-Err : goal.invariant_of-self-in-Err
invariant_of-self-in-Err c =
    let kept = stepped-pruning _ c.args.input _ _ _ c.requires.prunes c.in-Err.ensures.stepped in
    archived-still c.self.inside.archive _ _ (λ x. x.steps.items.items) (λ x. x.entries) c.self.invariant kept.0
    kept.1
