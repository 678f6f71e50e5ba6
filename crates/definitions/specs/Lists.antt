-- Lists that grow are kept newest first: `x ∷ older` is `older` with x added, and [] is the start.
use Rattle.std.specs.Prelude.{ℕ, zero, suc, ◌≡◌, ◌⊎◌, Bool, List, [], ◌∷◌, ◌++◌, length, if◌then◌else◌}
use Rattle.std.specs.Prelude.{nat_lt, max, ⊤}

-- the oldest k elements
unfoldable pub beginning : {A : Type 0} → ℕ → List A → List A
beginning k [] = []
beginning k (x ∷ older) = if nat_lt (length older) k then x ∷ older else beginning k older

-- `newer` is `older` with some elements added
abbrev pub IsBeginning : {A : Type 0} → List A → List A → Type 0
IsBeginning {A} older newer = (added : List A) × (added ++ older ≡ newer)

-- x is one of these
abbrev pub Among : {A : Type 0} → A → List A → Type 0
Among x [] = ⊥
Among x (y ∷ ys) = (x ≡ y) ⊎ Among x ys

-- no number stands twice
abbrev pub AreDistinct : List ℕ → Type 0
AreDistinct [] = ⊤
AreDistinct (x ∷ xs) = (Among x xs → ⊥) × AreDistinct xs

-- the greatest of these, 0 where there is none
unfoldable pub greatest : List ℕ → ℕ
greatest [] = 0
greatest (x ∷ xs) = max x (greatest xs)

-- how many numbers below n pass
unfoldable pub count_below : ℕ → (ℕ → Bool) → ℕ
count_below zero p = 0
count_below (suc n) p = if p n then suc (count_below n p) else count_below n p
