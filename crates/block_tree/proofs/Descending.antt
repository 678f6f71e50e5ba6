-- A descent by the bits of a distance, the lowest first, and the links of a new block, from its parent's on.
use Rattle.std.proofs.Common.{ℕ, suc, ◌+◌, ◌*◌, ◌-◌, ◌/◌, ◌%◌, ◌^◌, ◌≡◌, ◌<◌, ◌≤◌, List, [], ◌∷◌, ◌++◌}
use Rattle.std.proofs.Common.{length, drop, get_or, refl, sym, ap, subst, ◌∙◌, arith, inl, inr, Option}
use Rattle.std.specs.Prelude.{count_ones, MatchOption}
use Rattle.std.proofs.Math.Nat.{pow-suc, pow-le-pow_right}
use Rattle.std.proofs.Math.Seq.{get_or-append_seam}
use Rattle.std.proofs.lemmas.Nat.{mul-le}
use Rattle.std.proofs.lemmas.Bool.{cases_lt}
use Rattle.std.proofs.lemmas.List.{length-drop, drop-drop, get_or_append_left, length-append}
use Rattle.std.proofs.lemmas.Option.{slice_get-get_or, slice_get_past}
use lib.Count.{ones_step}
use Rattle.definitions.specs.Branches.{Block, Branch}
use Rattle.block_tree.specs.Numbers.{numbered, IsDown, AreLinks}
use Rattle.block_tree.proofs.Numbered.{down-more}

pub double : (k : ℕ) → 2 ^ (k + 1) ≡ 2 * 2 ^ k
double k = let e : k + 1 ≡ suc k = omega arith in rw (e, pow-suc 2 k) (omega arith)

-- a power of two that is at most a number below another is a lower one
pub pow-lower : (i j h : ℕ) → 2 ^ i ≤ h → h < 2 ^ j → i < j
pow-lower i j h low high =
    elim (cases_lt i j) [
      | inl p ↦ p
      | inr q ↦ let more : 2 ^ j ≤ 2 ^ i = pow-le-pow_right (omega arith) q in absurd (omega arith)
    ]

pub pow-some : (k : ℕ) → 1 ≤ 2 ^ k
pow-some k = elim (cases_lt 0 (2 ^ k)) [
  | inl p ↦ p
  | inr q ↦ let lt : 2 ^ k < 2 ^ 0 =
      omega (arith, q) in let bad =
      pow-lower k 0 (2 ^ k) (omega arith) lt in absurd (omega (arith, bad))
]

-- ---- a descent

-- At `at`, with `rest` times `2 ^ level` blocks left of a distance, `done` turns were taken, of `all` in
-- the end. The way ends no lower than at the floor.
pub record Descending (tree : List Branch) (floor from distance at rest level done all : ℕ) : Type 0 where
  pub known : at < length tree
  pub low : rest * 2 ^ level + floor ≤ length (numbered tree at)
  pub is : drop (rest * 2 ^ level) (numbered tree at) ≡ drop distance (numbered tree from)
  pub counted : done + count_ones rest ≡ all

halves : (rest level : ℕ) → (rest % 2) * 2 ^ level + (rest / 2) * 2 ^ (level + 1) ≡ rest * 2 ^ level
halves rest level =
    let split : rest ≡ 2 * (rest / 2) + rest % 2 = omega arith in
    let many : rest * 2 ^ level ≡ (2 * (rest / 2) + rest % 2) * 2 ^ level =
    ap (λ (n : ℕ). n * 2 ^ level) split in
    rw double (omega (arith, many))

module _ (tree : List Branch) (floor from distance at rest level done all : ℕ)
    (w : Descending tree floor from distance at rest level done all) where
  -- a zero bit
  pub descend-even : rest % 2 ≡ 0 → Descending tree floor from distance at (rest / 2) (level + 1) done all
  descend-even even =
      let whole = halves rest level in
      let none : (rest % 2) * 2 ^ level ≡ 0 = rw even (omega arith) in
      let e : (rest / 2) * 2 ^ (level + 1) ≡ rest * 2 ^ level = omega (arith, whole, none) in
      let bits = ones_step rest in
      record { known = w.known; low = rw e w.low; is = rw e w.is; counted = omega (arith, bits, w.counted) }

  -- a one bit
  pub descend-odd : (next : ℕ) → rest % 2 ≡ 1 → IsDown tree (2 ^ level) (numbered tree at) next
      → Descending tree floor from distance next (rest / 2) (level + 1) (done + 1) all
  descend-odd next odd down =
      let whole = halves rest level in
      let one : (rest % 2) * 2 ^ level ≡ 2 ^ level = rw odd (omega arith) in
      let e : 2 ^ level + (rest / 2) * 2 ^ (level + 1) ≡ rest * 2 ^ level = omega (arith, whole, one) in
      let bits = ones_step rest in
      let low = w.low in
      let here : length (numbered tree next) ≡ length (numbered tree at) - 2 ^ level =
      ap (λ (b : Branch). length b) down.is ∙ length-drop (2 ^ level) (numbered tree at) in
      record {
        known = down.known;
        low = omega (arith, here, e, low);
        is =
            ap (λ (b : Branch). drop ((rest / 2) * 2 ^ (level + 1)) b) down.is
            ∙ drop-drop ((rest / 2) * 2 ^ (level + 1)) (2 ^ level) (numbered tree at)
            ∙ ap (λ (n : ℕ). drop n (numbered tree at)) e ∙ w.is;
        counted = omega (arith, bits, w.counted);
      }

  -- it has its link
  pub descend-high : 0 < rest → 2 ^ level + floor ≤ length (numbered tree at)
  descend-high some =
      let more : 1 * 2 ^ level ≤ rest * 2 ^ level =
      mul-le 1 (2 ^ level) rest (2 ^ level) some (omega arith) in
      let low = w.low in
      omega (arith, more, low)

  pub descend-done : rest ≡ 0 → distance ≤ length (numbered tree from)
      → IsDown tree distance (numbered tree from) at
  descend-done none high =
      let e : rest * 2 ^ level ≡ 0 = rw none (omega arith) in
      record { known = w.known; high = high; is = rw e at w.is }

-- ---- the links of a new block

-- The links up to a level, the last of which leads to `at`.
pub record Building (tree : List Branch) (b : Branch) (at level : ℕ) (links : List ℕ) : Type 0 where
  pub many : length links ≡ level + 1
  pub last : IsDown tree (2 ^ level) b at
  pub right : (i : ℕ) → i < level + 1 → IsDown tree (2 ^ i) b (get_or links i 0)

pub build-begin : (tree : List Branch) (b : Block) (at : ℕ) → at < length tree
    → Building tree (b ∷ numbered tree at) at 0 (at ∷ [])
build-begin tree b at known =
    let one : IsDown tree (2 ^ 0) (b ∷ numbered tree at) at =
    record { known = known; high = omega arith; is = refl } in
    record {
      many = omega arith;
      last = one;
      right = λ i h. let e : i ≡ 0 = omega arith in rw e one;
    }

module _ (tree : List Branch) (b : Branch) (at level : ℕ) (links : List ℕ)
    (w : Building tree b at level links) where
  next_down : (next : ℕ) → IsDown tree (2 ^ level) (numbered tree at) next
      → IsDown tree (2 ^ (level + 1)) b next
  next_down next down =
      let sum : 2 ^ level + 2 ^ level ≡ 2 ^ (level + 1) = omega (arith, double level) in
      subst (λ (n : ℕ). IsDown tree n b next) sum
      (down-more tree (2 ^ level) (2 ^ level) b at next w.last down)

  -- so there are few levels
  pub build-few : (floor next : ℕ) → 2 ^ level + floor ≤ length (numbered tree at) → length b < 2 ^ 21 + floor
      → level + 1 < 21
  build-few floor next high low =
      let top = w.last.high in
      let here : length (numbered tree at) ≡ length b - 2 ^ level =
      ap (λ (x : Branch). length x) w.last.is ∙ length-drop (2 ^ level) b in
      let twice = double level in
      pow-lower (level + 1) 21 (length b - floor) (omega (arith, top, here, high, twice)) (omega (arith, low))

  pub build-more : (next : ℕ) → IsDown tree (2 ^ level) (numbered tree at) next
      → Building tree b next (level + 1) (links ++ next ∷ [])
  build-more next down =
      let many = w.many in
      let last = next_down next down in
      record {
        many = omega (arith, length-append links (next ∷ []), many);
        last = last;
        right = λ i h.
            elim (cases_lt i (level + 1)) [
              | inl p ↦ subst (λ (m : ℕ). IsDown tree (2 ^ i) b m)
                  (sym (get_or_append_left links (next ∷ []) 0 i (omega (arith, many, p)))) (w.right i p)
              | inr q ↦
                  let here : i ≡ level + 1 = omega (arith, q, h) in
                  let seam : get_or (links ++ next ∷ []) i 0 ≡ next =
                  ap (λ (k : ℕ). get_or (links ++ next ∷ []) k 0) (here ∙ sym many)
                  ∙ get_or-append_seam links next [] 0 in
                  rw (seam, here) last
            ];
      }

  -- each link takes the way down further
  pub build-lower : (next : ℕ) → IsDown tree (2 ^ level) (numbered tree at) next
      → length (numbered tree next) < length (numbered tree at)
  build-lower next down =
      let some = pow-some level in
      let high = down.high in
      let here : length (numbered tree next) ≡ length (numbered tree at) - 2 ^ level =
      ap (λ (x : Branch). length x) down.is ∙ length-drop (2 ^ level) (numbered tree at) in
      omega (arith, here, some, high)

  pub build-done : (horizon : ℕ) → length (numbered tree at) < 2 ^ level + (horizon - 2)
      → AreLinks horizon tree b links
  build-done horizon end i =
      let many = w.many in
      let twice = double level in
      let top = w.last.high in
      let here : length (numbered tree at) ≡ length b - 2 ^ level =
      ap (λ (x : Branch). length x) w.last.is ∙ length-drop (2 ^ level) b in
      let P = λ (o : Option ℕ). MatchOption o (length b < 2 ^ i + (horizon - 2))
      (λ m. 2 ^ i + (horizon - 2) ≤ length b → IsDown tree (2 ^ i) b m) in
      elim (cases_lt i (length links)) [
        | inl p ↦ subst P (sym (slice_get-get_or links i 0 p)) (λ reach. w.right i (omega (arith, many, p)))
        | inr q ↦
            let more : 2 ^ (level + 1) ≤ 2 ^ i = pow-le-pow_right (omega arith) (omega (arith, many, q)) in
            subst P (sym (slice_get_past links i q)) (omega (arith, more, twice, here, end, top))
      ]
