-- The window of a tree: what stands of its blocks above a horizon.
use Rattle.std.proofs.Common.{ℕ, suc, ◌≡◌, ◌<◌, ◌≤◌, ◌+◌, ◌⊎◌, Bool, true, false, List, [], ◌∷◌}
use Rattle.std.proofs.Common.{length, cond, refl, sym, ap, subst, ◌∙◌, arith, inl, inr, map, filter, nat_lt}
use Rattle.std.proofs.Common.{length-append, zero, ◌-◌}
use Rattle.std.proofs.lemmas.List.{length-map}
use Rattle.std.proofs.lemmas.Bool.{and_parts, eqb-true}
use Rattle.std.proofs.lemmas.Bool.{cond-true, cond-false, leb-true, le-leb, lt-ltb, le-ltb}
use Rattle.definitions.proofs.Lists.{Among-after, Among-before, Among-either, Among-filter, Among-kept}
use Rattle.definitions.proofs.Lists.{Among-map, Among-mapped, filter-fewer, length-beginning}
use Rattle.definitions.proofs.Lists.{beginning-begins}
use Rattle.definitions.specs.Lists.{Among, beginning}
use Rattle.definitions.proofs.Branches.{just1-extends, just2-is, just3-below}
use Rattle.definitions.proofs.Trees.{tree-below}
use Rattle.definitions.specs.Branches.{Branch, just1, just2, just3, Extends}
use Rattle.definitions.specs.Chronicles.{decides}
use Rattle.definitions.specs.Trees.{Stored, blocks, is_in_reach, standing}
use Rattle.definitions.specs.Trees.{IsTree}

-- ---- what stands in it

pub blocks-genesis : (xs : List Stored) → Among [] (blocks xs)
blocks-genesis xs = Among-after [] (map (λ (s : Stored). s.branch) xs) ([] ∷ []) (inl refl)

-- a stored block stands among the blocks
pub stored-block : (xs : List Stored) (s : Stored) → Among s xs → Among s.branch (blocks xs)
stored-block xs s m =
    Among-before s.branch (map (λ (x : Stored). x.branch) xs) ([] ∷ [])
    (Among-mapped (λ (x : Stored). x.branch) xs s m)

-- and each of the blocks is stored, or genesis
pub block-stored : (xs : List Stored) (b : Branch) → Among b (blocks xs)
    → (b ≡ []) ⊎ ((s : Stored) × Among s xs × (b ≡ s.branch))
block-stored xs b m =
    elim (Among-either b (map (λ (s : Stored). s.branch) xs) ([] ∷ []) m) [
      | inl k ↦ inr (Among-map (λ (s : Stored). s.branch) xs b k)
      | inr k ↦ (elim k [ inl e ↦ inl e | inr n ↦ absurd n ])
    ]

-- a block that is in reach stays
pub standing-stays : (h : ℕ) (xs : List Stored) (b : Branch) → Among b (blocks xs) → h ≤ length b + 2
    → Among b (blocks (standing h xs))
standing-stays h xs b m l =
    elim (block-stored xs b m) [
      | inl e ↦ subst (λ (x : Branch). Among x (blocks (standing h xs))) (sym e)
          (blocks-genesis (standing h xs))
      | inr r ↦ (
          let k : h ≤ length r.0.branch + 2 = subst (λ (x : Branch). h ≤ length x + 2) r.2 l in
          subst (λ (x : Branch). Among x (blocks (standing h xs))) (sym r.2)
          (stored-block (standing h xs) r.0
          (Among-kept (λ (s : Stored). is_in_reach h s.branch) xs r.0 r.1
          (le-leb h (length r.0.branch + 2) k))))
    ]

-- what stands is genesis, or a block that is in reach
pub standing-cases : (h : ℕ) (xs : List Stored) (b : Branch) → Among b (blocks (standing h xs))
    → (b ≡ []) ⊎ (Among b (blocks xs) × (h ≤ length b + 2))
standing-cases h xs b m =
    elim (block-stored (standing h xs) b m) [
      | inl e ↦ inl e
      | inr r ↦ (
          let f = Among-filter (λ (s : Stored). is_in_reach h s.branch) xs r.0 r.1 in
          inr (
            subst (λ (x : Branch). Among x (blocks xs)) (sym r.2) (stored-block xs r.0 f.0),
            subst (λ (x : Branch). h ≤ length x + 2) (sym r.2)
                (leb-true h (length r.0.branch + 2) f.1),
          ))
    ]

pub standing-among : (h : ℕ) (xs : List Stored) (b : Branch) → Among b (blocks (standing h xs))
    → Among b (blocks xs)
standing-among h xs b m =
    elim (standing-cases h xs b m) [
      | inl e ↦ subst (λ (x : Branch). Among x (blocks xs)) (sym e) (blocks-genesis xs)
      | inr r ↦ r.0
    ]

-- ---- one pruning after another

-- a new block that is in reach
pub standing-grown : (h : ℕ) (s : Stored) (xs : List Stored) → h ≤ length s.branch + 2
    → standing h (s ∷ xs) ≡ s ∷ standing h xs
standing-grown h s xs l = cond-true _ _ _ (le-leb h (length s.branch + 2) l)

filter_step : {A : Type 0} (p q : A → Bool) (x : A) (xs : List A) → (q x ≡ true → p x ≡ true)
    → filter q (filter p xs) ≡ filter q xs → (t : Bool) → p x ≡ t
    → filter q (cond t (x ∷ filter p xs) (filter p xs)) ≡ cond (q x) (x ∷ filter q xs) (filter q xs)
filter_step p q x xs f rest true e = ap (λ (l : List _). cond (q x) (x ∷ l) l) rest
filter_step {A} p q x xs f rest false e = rest ∙ sym (passed (q x) refl)
  where
    passed : (t : Bool) → q x ≡ t → cond t (x ∷ filter q xs) (filter q xs) ≡ filter q xs
    passed false k = refl
    passed true k = absurd (let same : false ≡ true = sym e ∙ f k in cc)

filter_twice : {A : Type 0} (p q : A → Bool) → ((x : A) → q x ≡ true → p x ≡ true) → (xs : List A)
    → filter q (filter p xs) ≡ filter q xs
filter_twice p q f [] = refl
filter_twice p q f (x ∷ xs) = filter_step p q x xs (f x) (filter_twice p q f xs) (p x) refl

pub reach-lower : (h k : ℕ) → h ≤ k → (s : Stored) → is_in_reach k s.branch ≡ true
    → is_in_reach h s.branch ≡ true
reach-lower h k le s e =
    le-leb h (length s.branch + 2) (let l = leb-true k (length s.branch + 2) e in omega (arith, l, le))

-- the higher horizon decides
pub standing-again : (h k : ℕ) (xs : List Stored) → h ≤ k → standing k (standing h xs) ≡ standing k xs
standing-again h k xs le =
    filter_twice (λ (s : Stored). is_in_reach h s.branch) (λ (s : Stored). is_in_reach k s.branch)
    (reach-lower h k le) xs

filter_whole : {A : Type 0} (p : A → Bool) → ((x : A) → p x ≡ true) → (xs : List A) → filter p xs ≡ xs
filter_whole p h [] = refl
filter_whole p h (x ∷ xs) =
    cond-true (p x) (x ∷ filter p xs) (filter p xs) (h x) ∙ ap (λ (l : List _). x ∷ l) (filter_whole p h xs)

-- what was never pruned stands whole: no block is below a horizon of 2
pub standing-whole : (h : ℕ) (xs : List Stored) → h ≤ 2 → standing h xs ≡ xs
standing-whole h xs low =
    filter_whole (λ (s : Stored). is_in_reach h s.branch)
    (λ s. le-leb h (length s.branch + 2) (omega (arith, low))) xs

-- ---- how many there are

pub blocks-length : (xs : List Stored) → length (blocks xs) ≡ length xs + 1
blocks-length xs =
    length-append (map (λ (s : Stored). s.branch) xs) ([] ∷ [])
    ∙ ap (λ (n : ℕ). n + 1) (length-map xs (λ (s : Stored). s.branch))

-- a pruning adds none
pub standing-fewer : (h k : ℕ) (xs : List Stored) → h ≤ k
    → length (blocks (standing k xs)) ≤ length (blocks (standing h xs))
standing-fewer h k xs le =
    let fewer = filter-fewer (λ (s : Stored). is_in_reach k s.branch)
    (λ (s : Stored). is_in_reach h s.branch) (reach-lower h k le) xs in
    omega (arith, fewer, blocks-length (standing k xs), blocks-length (standing h xs))

-- ---- a tree stays one

pub standing-tree : (h k : ℕ) (xs : List Stored) → h ≤ k → IsTree h (blocks xs)
    → IsTree k (blocks (standing k xs))
standing-tree h k xs le tr = record {
  branches = λ x m. tr.branches x (standing-among k xs x m);
  one = λ x y m n e. tr.one x y (standing-among k xs x m) (standing-among k xs y n) e;
  parents = λ b parent m l.
      standing-stays k xs parent
      (tr.parents b parent (standing-among k xs (b ∷ parent) m) (omega (arith, l, le))) l;
  genesis = blocks-genesis (standing k xs);
}

-- ---- the chain below a block

-- the block that one justifies, the next one where the two are in direct succession, and the third where they
-- decide it
pub record IsChainSeen (t : List Branch) (b : Branch) : Type 0 where
  pub first : Among (just1 b) t
  pub second : length (just1 b) ≡ suc (length (just2 b)) → Among (just2 b) t
  pub third : decides b ≡ true → Among (just3 b) t

-- a block that justifies none below the horizon has it whole
pub chain-seen : (h : ℕ) (t : List Branch) → IsTree h t → (b : Branch) → Among (just1 b) t
    → h ≤ length (just1 b) → IsChainSeen t b
unfolding decides
chain-seen h t tr b m l = record {
  first = m;
  second = λ e. tree-below h t tr (just1 b) (just2 b) m
      (subst (λ (x : Branch). Extends (just1 b) x) (just2-is b) (just1-extends (just1 b)))
      (omega (arith, l, e));
  third = λ d. (
      let p = and_parts _ _ d in
      let upper = eqb-true (length (just1 b)) (suc (length (just2 b))) p.1 in
      let lower = eqb-true (length (just2 b)) (suc (length (just3 b))) p.0 in
      tree-below h t tr (just1 b) (just3 b) m (just3-below b) (omega (arith, l, upper, lower)));
}

-- ---- how far down blocks are in reach

filter_least_step : {A : Type 0} (y : A) (ys xs : List A) (t : Bool) → length ys ≤ length xs
    → length (cond t (y ∷ ys) ys) ≤ length (y ∷ xs)
filter_least_step y ys xs true l = omega (arith, l)
filter_least_step y ys xs false l = omega (arith, l)

filter_least : {A : Type 0} (p : A → Bool) (xs : List A) → length (filter p xs) ≤ length xs
filter_least p [] = omega arith
filter_least p (y ∷ xs) = filter_least_step y (filter p xs) xs (p y) (filter_least p xs)

filter_drops_step : {A : Type 0} (y : A) (ys xs : List A) (t : Bool) → length ys < length xs
    → length (cond t (y ∷ ys) ys) < length (y ∷ xs)
filter_drops_step y ys xs true l = omega (arith, l)
filter_drops_step y ys xs false l = omega (arith, l)

-- a filter that drops one of the elements leaves fewer
filter_drops : {A : Type 0} (p : A → Bool) (xs : List A) (x : A) → Among x xs → p x ≡ false
    → length (filter p xs) < length xs
filter_drops p [] x m e = absurd m
filter_drops {A} p (y ∷ xs) x (inl i) e =
    let none : filter p (y ∷ xs) ≡ filter p xs = cond-false _ _ _ (sym (ap p i) ∙ e) in
    let short = ap (λ (l : List A). length l) none in
    omega (arith, short, filter_least p xs)
filter_drops p (y ∷ xs) x (inr m) e =
    filter_drops_step y (filter p xs) xs (p y) (filter_drops p xs x m e)

-- where each of n numbers in a row is that of an element, there are n elements
pigeons : {A : Type 0} (f : A → ℕ) (n : ℕ) (xs : List A) (a : ℕ)
    → ((k : ℕ) → a ≤ k → k < a + n → (x : A) × Among x xs × (f x ≡ k)) → n ≤ length xs
pigeons f zero xs a has = omega arith
pigeons {A} f (suc n) xs a has =
    let low : A → Bool = λ x. nat_lt (f x) (a + n) in
    let top = has (a + n) (omega arith) (omega arith) in
    let out : low top.0 ≡ false = le-ltb (f top.0) (a + n) (omega (arith, top.2)) in
    let fewer = filter_drops low xs top.0 top.1 out in
    let rest = pigeons f n (filter low xs) a (λ k above below.
    let r = has k above (omega (arith, below)) in
    (r.0, Among-kept low xs r.0 r.1 (lt-ltb (f r.0) (a + n) (omega (arith, r.2, below))), r.2)) in
    omega (arith, fewer, rest)

-- the blocks from a height in reach up to one of the tree
pub reach-few : (h : ℕ) (t : List Branch) → IsTree h t → (x : Branch) → Among x t → (k : ℕ) → h ≤ k + 2
    → k ≤ length x → length x - k < length t
reach-few h t tr x m k reach low =
    let many = pigeons (λ (b : Branch). length b) (length x - k + 1) t k (λ j above below.
    let same = length-beginning j x (omega (arith, below, low)) in (
      beginning j x,
      tree-below h t tr x (beginning j x) m (beginning-begins j x)
          (omega (arith, same, reach, above)),
      same,
    )) in
    omega (arith, many)
