-- The tests on branches decide what they test.
use Rattle.std.proofs.Common.{◌≡◌, ◌≤◌, ◌⊎◌, Bool, true, List, [], ◌∷◌, ◌++◌, length, refl, sym, subst}
use Rattle.std.proofs.Common.{arith, inl, inr, ◌<◌, cond, ap}
use Rattle.std.proofs.lemmas.Bool.{and_parts, and_from, eqb-true, eq-eqb, cond_both, ltb-true, ltb-false}
use lib.Dec.{ltb}
use lib.Pointwise.{pointwise, pointwise_decides, bytes_decides}
use Rattle.definitions.proofs.Lists.{beginning-begins, length-beginning, IsBeginning-beginning}
use Rattle.definitions.specs.Lists.{beginning, IsBeginning, Among}
use Rattle.definitions.specs.Frames.{Command}
use Rattle.definitions.specs.Branches.{Block, Branch, command_eq, block_eq, branch_eq, extends, Extends}
use Rattle.definitions.specs.Branches.{IsBranch, just1, justify_height, highest, just2, just3}

abbrev Decided : {K : Type 0} → (K → K → Bool) → Type 0
Decided {K} E = (x y : K) → (E x y ≡ true → x ≡ y) × (x ≡ y → E x y ≡ true)

decided_from : {K : Type 0} (E : K → K → Bool) → ((x y : K) → E x y ≡ true → x ≡ y)
    → ((x : K) → E x x ≡ true) → Decided E
decided_from {K} E same own x y = (same x y, λ e. subst (λ (z : K). E x z ≡ true) e (own x))

command_same : (a b : Command) → command_eq a b ≡ true → a ≡ b
unfolding command_eq
command_same a b h =
    let p = and_parts _ _ h in
    let q = and_parts _ _ p.1 in
    let r = and_parts _ _ q.1 in
    λ i. record {
      client = eqb-true a.client b.client p.0 i;
      seq = eqb-true a.seq b.seq q.0 i;
      payload = (bytes_decides a.payload b.payload).0 r.0 i;
      vector = (bytes_decides a.vector b.vector).0 r.1 i;
    }

command_own : (a : Command) → command_eq a a ≡ true
unfolding command_eq
command_own a = and_from _ _ (eq-eqb a.client a.client refl)
    (and_from _ _ (eq-eqb a.seq a.seq refl) (and_from _ _ ((bytes_decides a.payload a.payload).1 refl)
    ((bytes_decides a.vector a.vector).1 refl)))

commands_decides : Decided (pointwise command_eq)
commands_decides = pointwise_decides (decided_from command_eq command_same command_own)

block_same : (a b : Block) → block_eq a b ≡ true → a ≡ b
unfolding block_eq
block_same a b h =
    let p = and_parts _ _ h in
    λ i. record {
      commands = (commands_decides a.commands b.commands).0 p.0 i;
      justify = eqb-true a.justify b.justify p.1 i;
    }

block_own : (a : Block) → block_eq a a ≡ true
unfolding block_eq
block_own a = and_from _ _ ((commands_decides a.commands a.commands).1 refl) (eq-eqb a.justify a.justify refl)

pub branch_eq-decides : (a b : Branch) → (branch_eq a b ≡ true → a ≡ b) × (a ≡ b → branch_eq a b ≡ true)
unfolding branch_eq
branch_eq-decides = pointwise_decides (decided_from block_eq block_same block_own)

pub extends-true : (a b : Branch) → extends a b ≡ true → Extends a b
unfolding extends
extends-true a b h = subst (λ (x : Branch). IsBeginning x a)
    ((branch_eq-decides (beginning (length b) a) b).0 h) (beginning-begins (length b) a)

-- what a branch extends is it or what its parent extends
pub extends-cases : (b : Block) (parent x : Branch) → Extends (b ∷ parent) x
    → (x ≡ b ∷ parent) ⊎ Extends parent x
extends-cases b parent x ([], e) = inl e
extends-cases b parent x (a ∷ added, e) = inr (added, (cc))

pub length-extends : (a x : Branch) → Extends a x → length x ≤ length a
length-extends a x ([], e) = subst (λ (y : Branch). length x ≤ length y) e (omega arith)
length-extends [] x (b ∷ added, e) = absurd (nil (sym e))
  where
    nil : [] ≡ b ∷ (added ++ x) → ⊥
    nil h = cc
length-extends (c ∷ a) x (b ∷ added, e) = let h = length-extends a x (added, (cc)) in omega (arith, h)

pub length-just1 : (b : Block) (parent : Branch) → IsBranch (b ∷ parent)
    → length (just1 (b ∷ parent)) ≡ b.justify
unfolding just1 justify_height
length-just1 b parent h = length-beginning b.justify (b ∷ parent) (let k = h.0 in omega (arith, k))

pub justify_height-just1 : (x : Branch) → IsBranch x → length (just1 x) ≡ justify_height x
unfolding just1 justify_height beginning
justify_height-just1 [] h = refl
justify_height-just1 (b ∷ parent) h = length-just1 b parent h

pub extends-from : (a b : Branch) → Extends a b → extends a b ≡ true
unfolding extends
extends-from a b h = (branch_eq-decides (beginning (length b) a) b).1 (IsBeginning-beginning b a h)

pub highest-among : (xs : List Branch) → (highest xs ≡ []) ⊎ Among (highest xs) xs
unfolding highest
highest-among [] = inl refl
highest-among (b ∷ older) =
    cond_both (ltb (length (highest older)) (length b)) b (highest older)
    (λ (x : Branch). (x ≡ []) ⊎ Among x (b ∷ older)) (λ e. inr (inl refl))
    (λ e. elim (highest-among older) [ inl k ↦ inl k | inr k ↦ inr (inr k) ])

pub just1-extends : (b : Branch) → Extends b (just1 b)
unfolding just1
just1-extends b = beginning-begins (justify_height b) b

pub Extends-trans : (a b c : Branch) → Extends a b → Extends b c → Extends a c
Extends-trans a b c ([], e) k = subst (λ (x : Branch). Extends x c) e k
Extends-trans [] b c (x ∷ added, e) k = absurd (nil (sym e))
  where
    nil : [] ≡ x ∷ (added ++ b) → ⊥
    nil h = cc
Extends-trans (y ∷ a) b c (x ∷ added, e) k =
    let r = Extends-trans a b c (added, (cc)) k in (y ∷ r.0, ap (λ (l : Branch). y ∷ l) r.1)

pub just3-below : (x : Branch) → Extends (just1 x) (just3 x)
unfolding just3 just2
just3-below x = Extends-trans (just1 x) (just1 (just1 x)) (just1 (just1 (just1 x)))
    (just1-extends (just1 x)) (just1-extends (just1 (just1 x)))

-- ---- below a certified block

-- of two blocks of one branch the higher goes through the lower
pub extends-between : (b x y : Branch) → Extends b x → Extends b y → length y ≤ length x → Extends x y
extends-between b x y ([], e) h l = subst (λ (z : Branch). Extends z y) (sym e) h
extends-between [] x y (c ∷ added, e) h l = absurd (nil (sym e))
  where
    nil : [] ≡ c ∷ (added ++ x) → ⊥
    nil k = cc
extends-between (d ∷ b) x y (c ∷ added, e) ([], k) l =
    absurd (let m = length-extends b x (added, (cc)) in let n = ap (λ (z : Branch). length z) k in
    omega (arith, m, n, l))
extends-between (d ∷ b) x y (c ∷ added, e) (f ∷ more, k) l =
    extends-between b x y (added, (cc)) (more, (cc)) l

pub just1-below : (b : Branch) → IsBranch b → 0 < length b → length (just1 b) < length b
unfolding justify_height
just1-below [] h l = absurd (omega arith)
just1-below (c ∷ parent) h l =
    let k = justify_height-just1 (c ∷ parent) h in let j = h.0 in omega (arith, k, j)

-- just2 and just3 by just1, for where they stay shut
pub just2-is : (x : Branch) → just1 (just1 x) ≡ just2 x
unfolding just2
just2-is x = refl

pub just3-is : (x : Branch) → just1 (just2 x) ≡ just3 x
unfolding just3
just3-is x = refl

-- ---- the lock

pub highest-step : (x h b : Branch) (xs : List Branch) → (Among b xs → length b ≤ length h)
    → Among b (x ∷ xs) → length b ≤ length (cond (ltb (length h) (length x)) x h)
highest-step x h b xs rest m =
    cond_both (ltb (length h) (length x)) x h (λ (y : Branch). length b ≤ length y)
    (λ e. elim m [
      | inl i ↦ omega (arith, ap (λ (z : Branch). length z) i)
      | inr k ↦ omega (arith, rest k, ltb-true (length h) (length x) e)
    ])
    (λ e. elim m [
      | inl i ↦ omega (arith, ap (λ (z : Branch). length z) i, ltb-false (length h) (length x) e)
      | inr k ↦ rest k
    ])

-- no branch of a list is higher than the highest
pub highest-above : (bs : List Branch) (b : Branch) → Among b bs → length b ≤ length (highest bs)
unfolding highest
highest-above [] b m = absurd m
highest-above (x ∷ xs) b m = highest-step x (highest xs) b xs (highest-above xs b) m
