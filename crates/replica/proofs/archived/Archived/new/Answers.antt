use Rattle.std.proofs.Common.{[], refl, reverse, ap, sym, ◌∙◌, subst, List}
use Rattle.definitions.specs.Chronicles.{standing_blocks, was_pruned}
use Rattle.definitions.specs.Histories.{Entry}
use Rattle.definitions.specs.Replicas.{Replica}
use Rattle.replica.specs.declared.stored.StoredStep.{StoredStep}
use Rattle.replica.specs.Steps.{Held}
use Rattle.replica.specs.Replay.{replay}
use Rattle.replica.specs.Logs.{IsArchiveOf}
use Rattle.replica.proofs.First.{first-history}
use Rattle.replica.proofs.archived.Archived.new.Goals as goal

pub invariant_of-result : goal.invariant_of-result
unfolding replay was_pruned
invariant_of-result c =
    subst (λ (r : Replica). IsArchiveOf r c.new-2.result.items.items c.new-3.result)
    (sym (ap (λ (h : Held). h.replica) c.in_ok-replica.ensures.made))
    (record {
      steps_are = ap (λ (xs : List StoredStep). replay (reverse xs) (standing_blocks [])) c.new-2.ensures;
      entries_are = ap (λ (xs : List Entry). reverse xs) c.new-3.ensures ∙ sym first-history;
      unpruned = refl;
    })
