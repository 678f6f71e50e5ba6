-- What all the shares of a kept replica count together.
use Rattle.std.proofs.Common.{◌≡◌, ℕ, ◌+◌, ◌*◌, ◌<◌, ◌≤◌, ◌≢◌, inl, inr, cond, List, [], ◌∷◌, length}
use Rattle.std.proofs.Common.{get_or, count_by, sum_by, sum, ◌==◌, refl, sym, ap, ◌∙◌, arith, suc, zero}
use Rattle.std.proofs.Common.{take, add-one}
use Rattle.std.proofs.lemmas.Bool.Decides.{nat_tests, eqb_tells}
use Rattle.std.proofs.lemmas.List.Sums.{sum_by-cons, sum_by_more}
use Rattle.std.proofs.lemmas.List.Elements.{recursion_from_All}
use Rattle.std.proofs.Math.Seq.{take-length}
use Rattle.std.specs.List.{AllByRecursion}
use Rattle.std.specs.Prelude.{IsTrue}
use Rattle.turns.specs.Shares.{ShareState}
use Rattle.locked_replica.specs.Kept.{KeptState, AreAll, is_own}

-- the sum of a function over the numbers below n
abbrev total : (ℕ → ℕ) → ℕ → ℕ
total f zero = 0
total f (suc n) = total f n + f n

total_ext : (f g : ℕ → ℕ) (n : ℕ) → ((i : ℕ) → i < n → f i ≡ g i) → total f n ≡ total g n
total_ext f g zero same = refl
total_ext f g (suc n) same =
    omega (arith, total_ext f g n (λ i h. same i (omega arith)), same n (omega arith))

total_add : (f g : ℕ → ℕ) (n : ℕ) → total (λ i. f i + g i) n ≡ total f n + total g n
total_add f g zero = refl
total_add f g (suc n) = omega (arith, total_add f g n)

-- what one number adds, where it is k and where it is not
weight_other : (a k i : ℕ) → k ≢ i → a * cond (k == i) 1 0 ≡ 0
weight_other a k i other = grind (arith, nat_tests)

weight_same : (a k i : ℕ) → k ≡ i → a * cond (k == i) 1 0 ≡ a
weight_same a k i same = grind (arith, nat_tests)

total_none : (f : ℕ → ℕ) (k n : ℕ) → n ≤ k → total (λ i. f i * cond (k == i) 1 0) n ≡ 0
total_none f k zero above = refl
total_none f k (suc n) above =
    omega (arith, total_none f k n (omega arith), weight_other (f n) k n (omega arith))

-- one number alone has a weight
total_one : (f : ℕ → ℕ) (k n : ℕ) → k < n → total (λ i. f i * cond (k == i) 1 0) n ≡ f k
total_one f k zero below = absurd (omega arith)
total_one f k (suc n) below =
    elim (eqb_tells k n) [
      | inl same ↦
          omega (arith, total_none f k n (omega (arith, same.1)), weight_same (f n) k n same.1, ap f same.1)
      | inr other ↦ omega (arith, total_one f k n (omega (arith, other.1)), weight_other (f n) k n other.1)
    ]

-- with no shares nothing is counted
total_of_none : (f : ℕ → ℕ) (n : ℕ) → total (λ i. f i * 0) n ≡ 0
total_of_none f zero = refl
total_of_none f (suc n) = omega (arith, total_of_none f n)

-- the counts of the shares of one number
abbrev of_number : ℕ → List ShareState → ℕ
of_number i shares = count_by (λ s. s.number == i) shares

-- a product with one more
times_more : (a b c : ℕ) → a * (b + c) ≡ a * b + a * c
times_more a b c = omega arith

-- what an own share says
own_parts : (kept : KeptState) (s : ShareState) → IsTrue (is_own kept s)
    → (s.number < length kept.shares) × (get_or kept.shares s.number 0 ≡ s.count)
own_parts kept s own = (grind (arith, nat_tests), grind (arith, nat_tests))

-- own shares count what the book has under their numbers
shares_total : (kept : KeptState) (shares : List ShareState)
    → AllByRecursion (λ s. IsTrue (is_own kept s)) shares →
    sum_by (λ s. s.count) shares
    ≡ total (λ i. get_or kept.shares i 0 * of_number i shares) (length kept.shares)
shares_total kept [] own = sym (total_of_none (λ i. get_or kept.shares i 0) (length kept.shares))
shares_total kept (s ∷ rest) own =
    let mine = own_parts kept s own.0 in
    let first : sum_by (λ s. s.count) (s ∷ rest) ≡ s.count + sum_by (λ s. s.count) rest =
    sum_by-cons (λ s. s.count) s rest in
    let split : total (λ i. get_or kept.shares i 0 * of_number i (s ∷ rest)) (length kept.shares)
    ≡ total
    (λ i. get_or kept.shares i 0 * cond (s.number == i) 1 0 + get_or kept.shares i 0 * of_number i rest)
    (length kept.shares) =
    total_ext _ _ (length kept.shares)
    (λ i _. ap (λ m. get_or kept.shares i 0 * m) (sum_by-cons (λ s. cond (s.number == i) 1 0) s rest)
    ∙ times_more (get_or kept.shares i 0) (cond (s.number == i) 1 0) (of_number i rest)) in
    let added = total_add (λ i. get_or kept.shares i 0 * cond (s.number == i) 1 0)
    (λ i. get_or kept.shares i 0 * of_number i rest) (length kept.shares) in
    let one = total_one (λ i. get_or kept.shares i 0) s.number (length kept.shares) mine.0 in
    omega (arith, first, split, added, one, mine.1, shares_total kept rest own.1)

-- one of each number: the products are the counts
times_one : (a b : ℕ) → b ≡ 1 → a * b ≡ a
times_one a b one = grind arith

-- the sum over the numbers is the sum of the list
total_of_list : (counts : List ℕ) (n : ℕ) → n ≤ length counts
    → total (λ i. get_or counts i 0) n ≡ sum (take n counts)
total_of_list counts zero within = refl
total_of_list counts (suc n) within =
    let more : sum (take (n + 1) counts) ≡ sum (take n counts) + get_or counts n 0 =
    sum_by_more (λ x. x) counts n 0 (omega arith) in
    rw (← add-one) (omega (arith, more, total_of_list counts n (omega arith)))

-- all the shares made, each once, count what the book counts
pub all_count : (kept : KeptState) (shares : List ShareState) → AreAll kept shares
    → sum_by (λ s. s.count) shares ≡ sum kept.shares
all_count kept shares all =
    shares_total kept shares (recursion_from_All _ shares all.own)
    ∙ total_ext _ (λ i. get_or kept.shares i 0) (length kept.shares)
    (λ i h. times_one (get_or kept.shares i 0) (of_number i shares) (all.once i h))
    ∙ total_of_list kept.shares (length kept.shares) (omega arith)
    ∙ ap sum (take-length kept.shares)
