-- What a replica gains by blocks that it fetches.
use Rattle.std.specs.Prelude.{count_by}
use Rattle.std.proofs.Common.{ℕ, suc, ◌≡◌, ◌<◌, ◌≤◌, ◌+◌, ◌⊎◌, ◌==◌, Bool, true, false, cond, List, ◌∷◌, length, min}
use Rattle.std.proofs.Common.{refl, []}
use Rattle.std.proofs.Common.{sym, ap, subst, ◌∙◌, arith, inl, inr}
use Rattle.std.proofs.lemmas.Bool.{cond-false, cases_lt}
use Rattle.std.proofs.lemmas.List.Sums.{sum_by-cons}
use Rattle.definitions.specs.Lists.{Among}
use Rattle.definitions.specs.Branches.{Block, Branch, Extends}
use Rattle.definitions.specs.Checks.{Identity}
use Rattle.definitions.specs.Chronicles.{Admitted, Chronicle, Step.took_block, taken_blocks, voted_blocks, window}
use Rattle.definitions.specs.Chronicles.{horizon, executed}
use Rattle.definitions.specs.States.{view}
use Rattle.definitions.proofs.Branches.{length-extends}
use Rattle.recovery.specs.Fetching.{OnlyAsked, OnlyTook, OnlyGained}
use Rattle.recovery.proofs.Climbing.{window-new, window-old, window-longer, window-count}
use Rattle.recovery.proofs.Fetched.{window-told}

-- how many blocks of a height stand there
abbrev pub of_height : ℕ → Chronicle → ℕ
of_height h c = count_by (λ y. length y == h) (window c)

-- blocks of x's branch were gained, all above this height
pub record Gains (self : Identity) (k : ℕ) (x : Branch) (before now : Chronicle) : Type 0 where
  pub in_view : view self.sizes now ≡ view self.sizes before
  pub voted : voted_blocks now ≡ voted_blocks before
  pub forgotten : horizon now ≡ horizon before
  pub kept : (y : Branch) → Among y (window before) → Among y (window now)
  pub taken : (a : Admitted) → Among a (taken_blocks now) → Among a (taken_blocks before) ⊎ Extends x a.branch
  pub longer : length (window now) + k ≤ length (window before) + length x
  pub below : (h : ℕ) → h ≤ k → of_height h now ≤ of_height h before
  pub above : (h : ℕ) → length x < h → of_height h now ≤ of_height h before
  pub heights : (h : ℕ) → of_height h now ≤ suc (of_height h before)

-- nothing is gained by who is only asked
pub asked-gains : (self : Identity) (k : ℕ) (x : Branch) (before now : Chronicle) → k ≤ length x
    → OnlyAsked self before now → Gains self k x before now
asked-gains self k x before now low h =
    let w = window-told before now h.0.taken h.0.forgotten in
    let long = ap (λ (l : List Branch). length l) w in
    let same : (n : ℕ) → of_height n now ≡ of_height n before =
    λ n. ap (λ (l : List Branch). count_by (λ y. length y == n) l) w in
    record {
      in_view = h.1;
      voted = h.0.voted;
      forgotten = h.0.forgotten;
      kept = λ y m. subst (λ (l : List Branch). Among y l) (sym w) m;
      taken = λ a m. inl (subst (λ (l : List Admitted). Among a l) h.0.taken m);
      longer = omega (arith, long, low);
      below = λ n l. (let e = same n in omega (arith, e));
      above = λ n l. (let e = same n in omega (arith, e));
      heights = λ n. (let e = same n in omega (arith, e));
    }

-- what is gained above what was gained
pub gains-both : (self : Identity) (k : ℕ) (x y : Branch) (a b c : Chronicle) → k ≤ length x → Extends y x
    → ((z : Branch) → Extends x z → Extends y z) → Gains self k x a b → Gains self (length x) y b c → Gains self k y a c
gains-both self k x y a b c low over wider h g =
    let up = over-longer in
    let l1 = h.longer in
    let l2 = g.longer in
    record {
      in_view = g.in_view ∙ h.in_view;
      voted = g.voted ∙ h.voted;
      forgotten = g.forgotten ∙ h.forgotten;
      kept = λ z m. g.kept z (h.kept z m);
      taken = λ z m. elim (g.taken z m) [
        | inr e ↦ inr e
        | inl n ↦ (elim (h.taken z n) [ inl o ↦ inl o | inr e ↦ inr (wider z.branch e) ])
      ];
      longer = omega (arith, l1, l2);
      below = λ n l. (let p = h.below n l in let q = g.below n (omega (arith, l, low)) in omega (arith, p, q));
      above = λ n l. (let q = g.above n l in let p = h.above n (omega (arith, l, up)) in omega (arith, p, q));
      heights = λ n. elim (cases_lt (length x) n) [
        | inl l ↦ (let p = h.above n l in let q = g.heights n in omega (arith, p, q))
        | inr l ↦ (let p = h.heights n in let q = g.below n (omega (arith, l)) in omega (arith, p, q))
      ];
    }
  where
    over-longer : length x ≤ length y
    over-longer = length-extends y x over

-- nothing is gained before or after by being asked
pub asked-first : (self : Identity) (b : Block) (y : Branch) (u v w : Chronicle) → OnlyAsked self u v
    → Gains self (length y) (b ∷ y) v w → Gains self (length y) (b ∷ y) u w
asked-first self b y u v w o g =
    gains-both self (length y) y (b ∷ y) u v w (omega arith) (b ∷ [], refl)
    (λ z e. (b ∷ e.0, ap (λ (l : Branch). b ∷ l) e.1)) (asked-gains self (length y) y u v (omega arith) o) g

pub asked-last : (self : Identity) (k : ℕ) (x : Branch) (a b c : Chronicle) → k ≤ length x → Gains self k x a b
    → OnlyAsked self b c → Gains self k x a c
asked-last self k x a b c low g o =
    gains-both self k x x a b c low ([], refl) (λ z e. e) g (asked-gains self (length x) x b c (omega arith) o)

-- ---- one block

count-own : (h : ℕ) (x : Branch) (l : List Branch)
    → count_by (λ y. length y == h) (x ∷ l) ≤ suc (count_by (λ y. length y == h) l)
count-own h x l =
    let f : Branch → ℕ = λ y. cond (length y == h) 1 0 in
    let s = sum_by-cons f x l in
    let b = by (length x == h) in
    omega (arith, s, b)
  where
    by : (t : Bool) → cond {A = ℕ} t 1 0 ≤ 1
    by true = omega arith
    by false = omega arith

-- a block more, of any height
pub took-heights : (c : Chronicle) (a : Admitted) → horizon c ≤ length a.branch + 2 → (a.new ≡ true) ⊎ (a.new ≡ false)
    → (h : ℕ) → of_height h (took_block a ∷ c) ≤ suc (of_height h c)
took-heights c a reach n h = elim n [
  | inl t ↦ (let w = ap (λ (x : List Branch). count_by (λ z. length z == h) x) (window-new c a t reach) in
      let o = count-own h a.branch (window c) in omega (arith, w, o))
  | inr t ↦ (let w = ap (λ (x : List Branch). count_by (λ z. length z == h) x) (window-old c a t) in omega (arith, w))
]

voted-not : (a : Admitted) (c : Chronicle) → a.voted ≡ false → voted_blocks (took_block a ∷ c) ≡ voted_blocks c
unfolding voted_blocks
voted-not a c e = cond-false a.voted (a.branch ∷ voted_blocks c) (voted_blocks c) e

pub view-took : (self : Identity) (a : Admitted) (c : Chronicle)
    → view self.sizes (took_block a ∷ c) ≡ view self.sizes c
unfolding view
view-took self a c = refl

pub horizon-took : (a : Admitted) (c : Chronicle) → horizon (took_block a ∷ c) ≡ horizon c
unfolding horizon
horizon-took a c = refl

taken-cases : (a : Admitted) (c : Chronicle) (z : Admitted) → Among z (taken_blocks (took_block a ∷ c))
    → (z ≡ a) ⊎ Among z (taken_blocks c)
unfolding taken_blocks
taken-cases a c z m = by a.new m
  where
    by : (t : Bool) → Among z (cond t (a ∷ taken_blocks c) (taken_blocks c)) → (z ≡ a) ⊎ Among z (taken_blocks c)
    by true (inl i) = inl i
    by true (inr k) = inr k
    by false k = inr k

-- a block that was taken without a vote is gained
step-gains : (self : Identity) (b : Block) (y : Branch) (c : Chronicle) (a : Admitted) → a.branch ≡ b ∷ y
    → horizon c ≤ length y → a.voted ≡ false → (a.new ≡ true) ⊎ (a.new ≡ false)
    → Gains self (length y) (b ∷ y) c (took_block a ∷ c)
step-gains self b y c a e low unvoted n =
    let long = ap (λ (z : Branch). length z) e in
    let reach : horizon c ≤ length a.branch + 2 = omega (arith, low, long) in
    let l = window-longer c a reach n in
    let other : (h : ℕ) → (suc (length y) ≡ h → ⊥) → of_height h (took_block a ∷ c) ≤ of_height h c =
    λ h d. (let w = window-count c a h reach n (λ i. d (sym long ∙ i)) in omega (arith, w)) in
    record {
      in_view = view-took self a c;
      voted = voted-not a c unvoted;
      forgotten = horizon-took a c;
      kept = λ z m. elim n [
        | inl t ↦ subst (λ (x : List Branch). Among z x) (sym (window-new c a t reach)) (inr m)
        | inr t ↦ subst (λ (x : List Branch). Among z x) (sym (window-old c a t)) m
      ];
      taken = λ z m. elim (taken-cases a c z m) [
        | inl i ↦ inr (subst (λ (x : Admitted). Extends (b ∷ y) x.branch) (sym i)
            (subst (λ (x : Branch). Extends (b ∷ y) x) (sym e) ([], refl)))
        | inr o ↦ inl o
      ];
      longer = omega (arith, l);
      below = λ h k. other h (λ i. absurd (omega (arith, i, k)));
      above = λ h k. other h (λ i. absurd (omega (arith, i, k)));
      heights = λ h. took-heights c a reach n h;
    }

-- so is one that was fetched
pub took-gains : (self : Identity) (b : Block) (y : Branch) (before now : Chronicle) → horizon before ≤ length y
    → OnlyTook self (b ∷ y) before now → Gains self (length y) (b ∷ y) before now
took-gains self b y before now low t =
    let h = t.only.0.forgotten in
    subst (Gains self (length y) (b ∷ y) before) (sym t.is)
    (asked-first self b y before t.asked (took_block t.taken ∷ t.asked) t.only
    (step-gains self b y t.asked t.taken t.block_is (omega (arith, h, low)) t.no_vote
    (elim t.new_or_there [ inl n ↦ inl n | inr o ↦ inr o.0 ])))

-- ---- a whole branch

-- who gained nothing of the parent gained nothing of a block over it
pub gains-up : (self : Identity) (b : Block) (y : Branch) (before now : Chronicle)
    → Gains self (length y) y before now → Gains self (length (b ∷ y)) (b ∷ y) before now
gains-up self b y before now g =
    let l = g.longer in
    record {
      in_view = g.in_view;
      voted = g.voted;
      forgotten = g.forgotten;
      kept = g.kept;
      taken = λ a m. elim (g.taken a m) [
        | inl o ↦ inl o
        | inr e ↦ inr (b ∷ e.0, ap (λ (z : Branch). b ∷ z) e.1)
      ];
      longer = omega (arith, l);
      below = λ h k. elim (cases_lt (length y) h) [
        | inl above ↦ g.above h above
        | inr low ↦ g.below h (omega (arith, low))
      ];
      above = λ h k. g.above h (omega (arith, k));
      heights = g.heights;
    }

-- how high a replica that executed so high lacks nothing of a branch
abbrev pub least : ℕ → Branch → ℕ
least h x = min h (length x)

pub gains-only : (self : Identity) (x : Branch) (before now : Chronicle)
    → Gains self (least (length (executed before)) x) x before now → OnlyGained self x before now
gains-only self x before now g = record {
  in_view = g.in_view;
  voted = g.voted;
  forgotten = g.forgotten;
  kept = g.kept;
  taken = g.taken;
  longer = (let l = g.longer in omega (arith, l));
  heights = g.heights;
}
