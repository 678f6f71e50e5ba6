-- The counts of the heights, as blocks come and go.
use Rattle.std.proofs.Common.{ℕ, suc, ◌≡◌, ◌<◌, ◌≤◌, ◌+◌, ◌-◌, ◌==◌, Bool, true, false, cond, List, [], ◌∷◌}
use Rattle.std.proofs.Common.{length, refl, sym, ap, ◌∙◌, arith, inl, inr, count_by, filter, get_or, not, sum}
use Rattle.std.proofs.Common.{true≢false, max}
use Rattle.std.proofs.lemmas.Bool.{ne_eqb, eq-eqb, eqb-true}
use Rattle.std.proofs.lemmas.List.Sums.{sum_by-cons, length-filter}
use Rattle.std.proofs.lemmas.List.Filters.{length-filter_both}
use Rattle.definitions.specs.Branches.{Branch}
use Rattle.definitions.specs.Lists.{Among}
use Rattle.definitions.specs.Trees.{Stored, blocks, is_in_reach, standing}
use Rattle.definitions.proofs.Lists.{Among-filter}
use Rattle.definitions.proofs.Windows.{standing-among, stored-block}
use Rattle.std.proofs.lemmas.Bool.{leb-true, le-leb}
use Rattle.block_tree.specs.Numbers.{CountsState, count_of, AreCounts}

count_cons : {X : Type 0} (p : X → Bool) (x : X) (xs : List X)
    → count_by p (x ∷ xs) ≡ cond (p x) 1 0 + count_by p xs
count_cons {X} p x xs = sum_by-cons (λ (y : X). cond (p y) 1 0) x xs

-- genesis has no height above 0
count_stored : (h : ℕ) → 0 < h → (stored : List Stored)
    → count_by (λ (b : Branch). length b == h) (blocks stored)
    ≡ count_by (λ (s : Stored). length s.branch == h) stored
count_stored h some [] =
    let none : (0 == h) ≡ false = ne_eqb 0 h (λ e. omega (arith, e, some)) in
    count_cons (λ (b : Branch). length b == h) [] [] ∙ ap (λ (t : Bool). cond t 1 0 + 0) none
count_stored h some (s ∷ older) =
    count_cons (λ (b : Branch). length b == h) s.branch (blocks older)
    ∙ ap (λ (n : ℕ). cond (length s.branch == h) 1 0 + n) (count_stored h some older)
    ∙ sym (count_cons (λ (x : Stored). length x.branch == h) s older)

count_kept_step : {A : Type 0} (p q : A → Bool) (x : A) (xs : List A) (t u : Bool) → p x ≡ t → q x ≡ u
    → (t ≡ true → u ≡ true) → count_by p (filter q xs) ≡ count_by p xs
    → count_by p (cond u (x ∷ filter q xs) (filter q xs)) ≡ cond (p x) 1 0 + count_by p xs
count_kept_step p q x xs t true i j f rest =
    count_cons p x (filter q xs) ∙ ap (λ (n : ℕ). cond (p x) 1 0 + n) rest
count_kept_step p q x xs true false i j f rest = absurd (true≢false (sym (f refl)))
count_kept_step p q x xs false false i j f rest =
    let none : count_by p xs ≡ 0 + count_by p xs = omega arith in
    rest ∙ (none ∙ ap (λ (b : Bool). cond b 1 0 + count_by p xs) (sym i))

-- a filter that drops none of those counted
count_kept : {A : Type 0} (p q : A → Bool) → ((x : A) → p x ≡ true → q x ≡ true) → (xs : List A)
    → count_by p (filter q xs) ≡ count_by p xs
count_kept p q f [] = refl
count_kept p q f (x ∷ xs) =
    count_kept_step p q x xs (p x) (q x) refl refl (f x) (count_kept p q f xs) ∙ sym (count_cons p x xs)

-- ---- in all

other_height : (a base : ℕ) → not (a == base) ≡ true → a ≡ base → ⊥
other_height a base e i = true≢false (sym e ∙ ap not (eq-eqb a base i))

-- the counts of all heights are the number of all elements
totals : {A : Type 0} (f : A → ℕ) (counts : List ℕ) (base : ℕ) (xs : List A)
    → ((h : ℕ) → base ≤ h → get_or counts (h - base) 0 ≡ count_by (λ (x : A). f x == h) xs)
    → ((x : A) → Among x xs → base ≤ f x) → ((x : A) → Among x xs → f x < base + length counts)
    → length xs ≡ sum counts
totals f [] base [] right low high = refl
totals f [] base (x ∷ xs) right low high =
    absurd (omega (arith, low x (inl refl), high x (inl refl)))
totals {A} f (c ∷ counts) base xs right low high =
    let here : A → Bool = λ x. f x == base in
    let other : A → Bool = λ x. not (f x == base) in
    let split = length-filter_both here other (λ x. refl) xs in
    let now = length-filter here xs in
    let none : base - base ≡ 0 = omega arith in
    let first : c ≡ count_by here xs =
    ap (λ (n : ℕ). get_or (c ∷ counts) n 0) (sym none) ∙ right base (omega arith) in
    let rest = totals f counts (base + 1) (filter other xs)
    (λ h above. let next : h - base ≡ suc (h - (base + 1)) =
    omega (arith, above) in ap (λ (n : ℕ). get_or (c ∷ counts) n 0) (sym next)
    ∙ (right h (omega (arith, above))
    ∙ sym (count_kept (λ (x : A). f x == h) other (λ x e. let same = eqb-true (f x) h e in
    ap not (ne_eqb (f x) base (λ i. omega (arith, same, i, above)))) xs)))
    (λ x m. let r = Among-filter other xs x m in
    let l = low x r.0 in
    let n = other_height (f x) base r.1 in omega (arith, l, n))
    (λ x m. let r = Among-filter other xs x m in let l = high x r.0 in omega (arith, l)) in
    let all = sum_by-cons (λ (n : ℕ). n) c counts in
    omega (arith, split, now, first, rest, all)

pub total-of : (counts : CountsState) (stored : List Stored) → AreCounts counts stored
    → length stored ≡ sum counts.heights
total-of counts stored are =
    totals (λ (s : Stored). length s.branch) counts.heights counts.base stored
    (λ h above. let some = are.some in are.right h above ∙ count_stored h (omega (arith, some, above)) stored)
    are.low (λ s m. are.high s.branch (stored-block stored s m))

-- ---- a block that comes

-- room for more
pub same-counts : (counts wide : CountsState) (stored : List Stored) → AreCounts counts stored
    → wide.base ≡ counts.base → ((h : ℕ) → count_of wide h ≡ count_of counts h)
    → length counts.heights ≤ length wide.heights → AreCounts wide stored
same-counts counts wide stored was base same longer = record {
  right = λ h above. same h ∙ was.right h (omega (arith, base, above));
  some = (let some = was.some in omega (arith, base, some));
  low = λ s m. (let low = was.low s m in omega (arith, base, low));
  high = λ b m. (let high = was.high b m in omega (arith, base, high, longer));
}

plus : (t : Bool) (n : ℕ) → cond t (n + 1) n ≡ cond t 1 0 + n
plus true n = omega arith
plus false n = omega arith

-- one more block
pub one-more : (counts new : CountsState) (s : Stored) (stored : List Stored) (height : ℕ)
    → height ≡ length s.branch → AreCounts counts stored → counts.base ≤ height
    → height < counts.base + length counts.heights → new.base ≡ counts.base
    → ((h : ℕ) → counts.base ≤ h
    → count_of new h ≡ cond (height == h) (count_of counts h + 1) (count_of counts h))
    → length new.heights ≡ length counts.heights → AreCounts new (s ∷ stored)
one-more counts new s stored height e was above reach base is long = record {
  right = λ h k.
      is h (omega (arith, base, k)) ∙ plus (height == h) (count_of counts h)
      ∙ ap (λ (n : ℕ). cond (height == h) 1 0 + n) (was.right h (omega (arith, base, k)))
      ∙ ap (λ (k : ℕ). cond (k == h) 1 0 + count_by (λ (x : Branch). length x == h) (blocks stored)) e
      ∙ sym (count_cons (λ (x : Branch). length x == h) s.branch (blocks stored));
  some = (let some = was.some in omega (arith, base, some));
  low = λ x m.
      elim m [
        | inl i ↦ let l = ap (λ (y : Stored). length y.branch) i in omega (arith, l, e, above, base)
        | inr n ↦ let low = was.low x n in omega (arith, low, base)
      ];
  high = λ x m.
      elim m [
        | inl i ↦ let l = ap (λ (y : Branch). length y) i in omega (arith, l, e, reach, long, base)
        | inr n ↦ let h = was.high x n in omega (arith, h, long, base)
      ];
}

-- ---- blocks that go

pub pruned-counts : (counts new : CountsState) (stored : List Stored) (horizon base : ℕ)
    → AreCounts counts stored → base ≡ horizon - 2 → new.base ≡ max base counts.base
    → ((h : ℕ) → new.base ≤ h → count_of new h ≡ count_of counts h)
    → counts.base + length counts.heights ≤ new.base + length new.heights
    → AreCounts new (standing horizon stored)
pruned-counts counts new stored horizon base was floor is same longer = record {
  right = λ h above.
      let some = was.some in
      let old : counts.base ≤ h = omega (arith, is, above) in
      same h above ∙ (was.right h old ∙ (count_stored h (omega (arith, some, old)) stored
      ∙ (sym (count_kept (λ (s : Stored). length s.branch == h) (λ (s : Stored). is_in_reach horizon s.branch)
      (λ s e. let here = eqb-true (length s.branch) h e in
      le-leb horizon (length s.branch + 2) (omega (arith, here, is, above, floor))) stored)
      ∙ sym (count_stored h (omega (arith, some, old)) (standing horizon stored)))));
  some = (let some = was.some in omega (arith, is, some));
  low = λ s m.
      let f = Among-filter (λ (x : Stored). is_in_reach horizon x.branch) stored s m in
      let reach = leb-true horizon (length s.branch + 2) f.1 in
      let low = was.low s f.0 in
      omega (arith, reach, low, is, floor);
  high = λ b m. (let high = was.high b (standing-among horizon stored b m) in omega (arith, high, longer));
}

-- genesis is not counted
pub genesis-counted : AreCounts (record { base = 1; heights = [] }) []
genesis-counted = record {
  right = λ h above. sym (count_stored h (omega (arith, above)) []);
  some = omega arith;
  low = λ s m. absurd m;
  high = λ b m. elim m
      [ inl e ↦ let l = ap (λ (x : Branch). length x) e in omega (arith, l) | inr n ↦ absurd n ];
}
