-- What a world's correct replicas are, and what is assumed of their keys.
use Rattle.std.specs.Prelude.{ℕ, zero, suc, ◌≡◌, true, false, List, [], ◌∷◌, ◌++◌, map, if◌then◌else◌}
use Rattle.std.specs.List.{list_any}
use Rattle.ids.specs.Sizes.{replicas}
use Rattle.definitions.specs.Lists.{count_below}
use Rattle.definitions.specs.Branches.{Branch, branch_eq}
use Rattle.definitions.specs.Chronicles.{Chronicle, lock}
use Rattle.definitions.specs.Replicas.{MemorySupply.ample, Standing.running}
use Rattle.definitions.specs.States.{view}
use Rattle.definitions.specs.Worlds.{World, Event, Happening, is_correct, is_party}

abbrev pub chronicle_of : World → ℕ → Chronicle
chronicle_of w r = (w.replica r).chronicle

abbrev pub lock_of : World → ℕ → Branch
lock_of w r = lock (chronicle_of w r)

abbrev pub view_of : World → ℕ → ℕ
view_of w r = view w.sizes (chronicle_of w r)

-- P holds of each correct replica
abbrev pub OfCorrect : World → (ℕ → Type 0) → Type 0
OfCorrect w P = (r : ℕ) → is_correct w r ≡ true → P r

-- each goes on
abbrev pub AllGoOn : World → Type 0
AllGoOn w = OfCorrect w (λ r. (w.replica r).standing ≡ running)

-- the correct replicas below a number, in order
unfoldable pub correct_below : World → ℕ → List ℕ
correct_below w zero = []
correct_below w (suc n) = correct_below w n ++ (if is_correct w n then n ∷ [] else [])

abbrev pub correct_replicas : World → List ℕ
correct_replicas w = correct_below w (replicas w.sizes)

-- how many correct replicas have this block among those
abbrev pub correct_with : World → (Chronicle → List Branch) → Branch → ℕ
correct_with w those x =
    count_below (replicas w.sizes)
    (λ r. if is_correct w r then list_any (branch_eq x) (those (chronicle_of w r)) else false)

-- each correct party has its own number, and a correct replica has one key with each correct party
pub record ShareKeys (w : World) : Type 0 where
  pub numbers : (p : ℕ) → is_party w p ≡ true → w.is_faulty p ≡ false → (w.ring p).party ≡ p
  pub keys : OfCorrect w (λ r. (p : ℕ) → is_party w p ≡ true → w.is_faulty p ≡ false
      → (w.ring r).key p ≡ (w.ring p).key r)

-- events, with ample memory
abbrev pub amply : List Event → List Happening
amply events = map (λ e. (e, ample)) events
