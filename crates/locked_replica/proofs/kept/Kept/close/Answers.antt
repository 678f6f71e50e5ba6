use Rattle.std.proofs.Common.{refl, ◌≡◌, ◌∙◌, sum, length}
use Rattle.locked_replica.specs.Kept.{AreAll}
use Rattle.locked_replica.proofs.Counts.{all_count}
use Rattle.locked_replica.proofs.kept.Kept.close.Goals as goal

pub returns-then-are_all-clause-counted : goal.returns-then-are_all-clause-counted
returns-then-are_all-clause-counted c =
    let all : AreAll c.args.self c.args.shares.items =
    rw c.deref.ensures.value at (c.if-are_all.ensures.0 refl) in
    let counts : sum c.args.self.shares ≡ length c.self.inside.replica.replica.chronicle =
    rw (← c.self.view_is) c.self.invariant.1.counts in
    all_count c.args.self c.args.shares.items all ∙ counts
