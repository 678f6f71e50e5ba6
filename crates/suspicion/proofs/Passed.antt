-- Who is passed over, and what is noted, case by case.
use Rattle.std.proofs.Common.{◌≡◌, ◌<◌, ◌≤◌, ◌∙◌, ℕ, List, Bool, true, refl, ap, nat_lt, subst, sym}
use Rattle.std.proofs.lemmas.Bool.{cond-true, le-leb, lt-leb, lt-ltb}
use Rattle.ids.specs.declared.limits.TheConstants.{MOST_REPLICAS}
use Rattle.suspicion.specs.ReplicaSets.{both, is_in, size}
use Rattle.suspicion.specs.Passing.{PassingState, believed, found, heard, noted, passed, sure}

-- both together, which are few enough
pub with_before : (most : ℕ) → (before new all : List Bool) → all ≡ both before new → size all ≤ most
    → all ≡ passed most before new
with_before most before new all is few =
    rw (le-leb (size (both before new)) most (subst (λ (s : List Bool). size s ≤ most) is few)) is

-- both together would be too many, and the new ones alone aren't
pub alone : (most : ℕ) → (before new all : List Bool) → all ≡ both before new → most < size all → size new ≤ most
    → new ≡ passed most before new
alone most before new all is many few =
    rw (lt-leb (size (both before new)) most (subst (λ (s : List Bool). most < size s) is many))
    (rw (le-leb (size new) most few) refl)

-- the new ones are too many themselves
pub as_before : (most : ℕ) → (before new all : List Bool) → all ≡ both before new → most < size all → most < size new
    → before ≡ passed most before new
as_before most before new all is many more =
    rw (lt-leb (size (both before new)) most (subst (λ (s : List Bool). most < size s) is many))
    (rw (lt-leb (size new) most more) refl)

-- of one that isn't heard
pub is_sure : (p : PassingState) (from : ℕ) (voters set : List Bool) → is_in p.unheard from ≡ true
    → set ≡ sure p.most p.told → set ≡ believed p from voters
is_sure p from voters set is said = rw is said

-- what was noted is found as far as it's believed
pub is_heard : (p q new : PassingState) (from : ℕ) (voters told : List Bool) → from < MOST_REPLICAS
    → q ≡ noted p from voters → told ≡ believed q from voters → new ≡ found q told → new ≡ heard p from voters
is_heard p q new from voters told low q_is told_is new_is =
    let it : new ≡ found (noted p from voters) (believed (noted p from voters) from voters) =
    new_is ∙ ap (found q) told_is ∙ ap (λ (s : PassingState). found s (believed s from voters)) q_is in
    it ∙ sym (cond-true (nat_lt from MOST_REPLICAS) _ p (lt-ltb from MOST_REPLICAS low))
