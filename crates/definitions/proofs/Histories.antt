-- Histories, what a replica holds of its own, and answers.
use Rattle.std.proofs.Common.{◌≡◌, ◌==◌, Bool, true, false, [], ◌∷◌, ◌++◌, cond, refl, sym, ap, ◌∙◌, map}
use Rattle.std.proofs.Common.{reverse, append_assoc, ℕ, Option, Some, None}
use Rattle.definitions.specs.Lists.{beginning, IsBeginning}
use Rattle.definitions.proofs.Lists.{beginning-begins}
use Rattle.definitions.specs.Branches.{Branch, Extends}
use Rattle.definitions.specs.Histories.{entry_of, History, history_of, Answer, if_numbered}
use Rattle.definitions.specs.Chronicles.{history}
use Rattle.definitions.specs.Replicas.{Replica, Standing, Standing.running, Standing.stopped}
use Rattle.definitions.specs.Replicas.{Standing.cut_short, held_history}

-- what has a number is what it was
pub numbered-is : (seq : ℕ) (o : Option Answer) (a : Answer) → if_numbered seq o ≡ Some a → o ≡ Some a
numbered-is seq None a e = absurd (none e)
  where
    none : None ≡ Some a → ⊥
    none k = cc
numbered-is seq (Some b) a e = by (b.seq == seq) e
  where
    by : (t : Bool) → cond t (Some b) None ≡ Some a → Some b ≡ Some a
    by true k = k
    by false k = absurd (none k)
      where
        none : None ≡ Some a → ⊥
        none j = cc

-- the history of a branch begins with that of what it extends

pub history_of-grows : (a b : Branch) → Extends a b → IsBeginning (history_of b) (history_of a)
unfolding history_of
history_of-grows a b ([], e) = ([], ap history_of e)
history_of-grows [] b (x ∷ added, e) = absurd (nil (sym e))
  where
    nil : [] ≡ x ∷ (added ++ b) → ⊥
    nil k = cc
history_of-grows (y ∷ a) b (x ∷ added, e) =
    let h = history_of-grows a b (added, (cc)) in (
      reverse (map entry_of y.commands) ++ h.0,
      append_assoc (reverse (map entry_of y.commands)) h.0 (history_of b)
          ∙ ap (λ (l : History). reverse (map entry_of y.commands) ++ l) h.1,
    )

-- what a replica holds is a beginning of its history
pub held-begins : (r : Replica) → IsBeginning (held_history r) (history r.chronicle)
unfolding held_history
held-begins r = by r.standing
  where
    by : (s : Standing)
        → IsBeginning (elim s as (λ x. History) [
          | running ↦ history r.chronicle
          | stopped ↦ history r.chronicle
          | cut_short held ↦ beginning held (history r.chronicle)
        ]) (history r.chronicle)
    by running = ([], refl)
    by stopped = ([], refl)
    by (cut_short held) = beginning-begins held (history r.chronicle)
