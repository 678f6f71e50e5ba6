-- What the tests on a block's place in a tree establish, and that a tree stays one.
use Rattle.ids.specs.declared.limits.TheConstants.{MOST_OF_HEIGHT, HEIGHT_LIMIT}
use Rattle.ids.specs.declared.fault.Fault.{Fault}
use Rattle.ids.specs.declared.fault.Fault.TheVariants as fault
use Rattle.std.proofs.Common.{ℕ, suc, ◌≡◌, ◌<◌, ◌≤◌, ◌+◌, ◌==◌, ◌&&◌, not, true, List, [], ◌∷◌, ◌++◌}
use Rattle.std.proofs.Common.{length, refl, sym, ap, subst, ◌∙◌, arith, ◌⊎◌, inl, inr, Option, Some, None}
use Rattle.std.proofs.Common.{nat_lt, count_by, bytes_eq}
use Rattle.std.proofs.lemmas.Bool.{cond_both, not-false, eqb-true, ltb-true, ltb-false, and_parts}
use lib.Pointwise.{bytes_decides}
use Rattle.definitions.proofs.Lists.{find_some, find_none}
use Rattle.definitions.specs.Lists.{Among}
use Rattle.definitions.specs.Frames.{Core, Certificate}
use Rattle.definitions.specs.Branches.{Block, Branch, justify_height, just1, Extends, IsBranch}
use Rattle.definitions.proofs.Branches.{length-extends}
use Rattle.definitions.specs.Bytes.{Bytes}
use Rattle.definitions.specs.Digests.{digest, core_over, digest_of, core_of}
use Rattle.definitions.specs.Trees.{find_in, block_of, justifies, Placing, Placing.stands, Placing.grows}
use Rattle.definitions.specs.Trees.{Placing.lacks_parent, Placing.unfit, placing_known, placing_new}
use Rattle.definitions.specs.Trees.{placing_over, placing, IsTree}

pub same_bytes : (a b : Bytes) → bytes_eq a b ≡ true → a ≡ b
same_bytes a b h = (bytes_decides a b).0 h

-- ---- finding

-- what is found stands in the tree and has the digest
pub found-in : (d : Bytes) (t : List Branch) (b : Branch) → find_in d t ≡ Some b
    → Among b t × (digest_of b ≡ d)
found-in d t b e =
    let r = find_some (λ (x : Branch). bytes_eq (digest_of x) d) t b e in (r.0, same_bytes _ _ r.1)

-- where nothing is found no block has the digest
pub not-found : (d : Bytes) (t : List Branch) (b : Branch) → find_in d t ≡ None → Among b t
    → digest_of b ≡ d → ⊥
not-found d t b e m k =
    find_none (λ (x : Branch). bytes_eq (digest_of x) d) t b e m ((bytes_decides (digest_of b) d).1 k)

-- in a tree each block is found by its digest
pub found-itself : (h : ℕ) (t : List Branch) → IsTree h t → (b : Branch) → Among b t
    → find_in (digest_of b) t ≡ Some b
found-itself h t tr b m = go (find_in (digest_of b) t) refl
  where
    go : (o : Option Branch) → find_in (digest_of b) t ≡ o → o ≡ Some b
    go None e = absurd (not-found (digest_of b) t b e m refl)
    go (Some x) e = let r = found-in (digest_of b) t x e in ap (λ (y : Branch). Some y) (tr.one x b r.0 m r.1)

-- ---- a core's block over its parent

pub digest-core : (core : Core) (parent : Branch) → core.parent ≡ digest_of parent
    → core.height ≡ suc (length parent) → digest_of (block_of core ∷ parent) ≡ digest core
unfolding digest_of core_over
digest-core core parent ep eh =
    λ i. digest (record {
      parent = sym ep i;
      height = sym eh i;
      justify_height = core.justify_height;
      commands = core.commands;
    })

pub core-known : (core : Core) (parent : Branch) → core.parent ≡ digest_of parent
    → core.height ≡ suc (length parent) → core_of (block_of core ∷ parent) ≡ core
unfolding core_of core_over
core-known core parent ep eh =
    λ i. record {
      parent = sym ep i;
      height = sym eh i;
      justify_height = core.justify_height;
      commands = core.commands;
    }

-- ---- the tests

-- what was found of a block that may stand over its parent
pub record IsGrowth (horizon most : ℕ) (core : Core) (q : Certificate) (t : List Branch)
    (b parent : Branch) :
    Type 0 where
  pub is : b ≡ block_of core ∷ parent
  pub parent_found : find_in core.parent t ≡ Some parent
  pub new : find_in (digest core) t ≡ None
  pub height : core.height ≡ suc (length parent)
  pub justified : q.digest ≡ digest_of (just1 (block_of core ∷ parent))
  pub room : length t < most
  pub low : length (block_of core ∷ parent) < HEIGHT_LIMIT
  pub above : horizon ≤ core.justify_height

-- the refusals of a block
abbrev pub IsUnfit : Fault → Type 0
IsUnfit n =
    (n ≡ fault.WrongJustify)
    ⊎ ((n ≡ fault.BadHeight) ⊎ ((n ≡ fault.Crowded) ⊎ ((n ≡ fault.Full) ⊎ (n ≡ fault.Pruned))))

-- no conflict is among them
pub unfit-calm : (n : Fault) → IsUnfit n → n ≡ fault.Conflict → ⊥
unfit-calm n (inl e) k = cc
unfit-calm n (inr (inl e)) k = cc
unfit-calm n (inr (inr (inl e))) k = cc
unfit-calm n (inr (inr (inr (inl e)))) k = cc
unfit-calm n (inr (inr (inr (inr e)))) k = cc

-- what the tests establish
abbrev pub IsPlaced : (horizon most : ℕ) → Core → Certificate → List Branch → Placing → Type 0
IsPlaced horizon most core q t (stands b) =
    (find_in (digest core) t ≡ Some b) × (q.digest ≡ digest_of (just1 b)) × (horizon ≤ justify_height b)
IsPlaced horizon most core q t (grows b) = (parent : Branch) × IsGrowth horizon most core q t b parent
IsPlaced horizon most core q t lacks_parent = find_in core.parent t ≡ None
IsPlaced horizon most core q t (unfit n) = IsUnfit n

placed-known : (horizon most : ℕ) (core : Core) (q : Certificate) (t : List Branch) (b : Branch)
    → find_in (digest core) t ≡ Some b → IsPlaced horizon most core q t (placing_known horizon b q)
unfolding placing_known
placed-known horizon most core q t b e =
    cond_both (nat_lt (justify_height b) horizon) _ _ (IsPlaced horizon most core q t)
    (λ l. inr (inr (inr (inr refl)))) (λ l.
    cond_both (justifies q b) _ _ (IsPlaced horizon most core q t)
    (λ j. (e, same_bytes _ _ j, ltb-false (justify_height b) horizon l)) (λ j. inl refl))

placed-new : (horizon most : ℕ) (core : Core) (q : Certificate) (t : List Branch) (parent : Branch)
    → find_in core.parent t ≡ Some parent → find_in (digest core) t ≡ None → horizon ≤ core.justify_height
    → IsPlaced horizon most core q t (placing_new most parent core q t)
unfolding placing_new
placed-new horizon most core q t parent found none above =
    cond_both (not (core.height == suc (length parent))) _ _ P (λ e. inr (inl refl)) (λ h.
    cond_both (not (justifies q (block_of core ∷ parent))) _ _ P (λ e. inl refl) (λ j.
    cond_both (not (nat_lt (count_by (λ x. length x == suc (length parent)) t) MOST_OF_HEIGHT)) _ _ P
    (λ e. inr (inr (inl refl))) (λ r.
    cond_both (not (nat_lt (length t) most && nat_lt (suc (length parent)) HEIGHT_LIMIT)) _ _ P
    (λ e. inr (inr (inr (inl refl)))) (λ f. (
      parent,
      record {
        is = refl;
        parent_found = found;
        new = none;
        height = eqb-true core.height (suc (length parent)) (not-false _ h);
        justified = same_bytes _ _ (not-false _ j);
        room = ltb-true _ _ (and_parts _ _ (not-false _ f)).0;
        low = ltb-true _ _ (and_parts _ _ (not-false _ f)).1;
        above = above;
      },
    )))))
  where
    P : Placing → Type 0
    P = IsPlaced horizon most core q t

-- the place of a block is what the tests establish
pub placed : (horizon most : ℕ) (core : Core) (q : Certificate) (t : List Branch)
    → IsPlaced horizon most core q t (placing horizon most core q t)
unfolding placing
placed horizon most core q t = known (find_in (digest core) t) refl
  where
    over : find_in (digest core) t ≡ None → horizon ≤ core.justify_height → (o : Option Branch)
        → find_in core.parent t ≡ o
        → IsPlaced horizon most core q t
        (elim o [ Some parent ↦ placing_new most parent core q t | None ↦ lacks_parent ])
    over n l None e = e
    over n l (Some parent) e = placed-new horizon most core q t parent e n l

    known : (o : Option Branch) → find_in (digest core) t ≡ o
        → IsPlaced horizon most core q t (elim o [
          | Some b ↦ placing_known horizon b q
          | None ↦ placing_over horizon most core q t
        ])
    known (Some b) e = placed-known horizon most core q t b e
    known None e =
        cond_both (nat_lt core.justify_height horizon) _ _ (IsPlaced horizon most core q t)
        (λ l. inr (inr (inr (inr refl))))
        (λ l. over e (ltb-false core.justify_height horizon l) (find_in core.parent t) refl)

-- ---- a tree stays one

-- all below a block of the tree that is in reach stands in it
pub tree-below : (h : ℕ) (t : List Branch) → IsTree h t → (b x : Branch) → Among b t → Extends b x
    → h ≤ length x + 2 → Among x t
tree-below h t tr b x m ([], e) l = subst (λ (y : Branch). Among y t) (sym e) m
tree-below h t tr [] x m (c ∷ added, e) l = absurd (nil (sym e))
  where
    nil : [] ≡ c ∷ (added ++ x) → ⊥
    nil k = cc
tree-below h t tr (b ∷ parent) x m (c ∷ added, e) l =
    let on : Extends parent x = (added, (cc)) in
    let k = length-extends parent x on in
    tree-below h t tr parent x (tr.parents b parent m (omega (arith, k, l))) on l

-- a block that is put on its parent keeps the tree one
grown : (h : ℕ) (t : List Branch) (b : Block) (parent : Branch) → IsTree h t → Among parent t
    → b.justify < suc (length parent)
    → ((x : Branch) → Among x t → digest_of x ≡ digest_of (b ∷ parent) → ⊥) → IsTree h ((b ∷ parent) ∷ t)
grown h t b parent tr m below fresh = record {
  branches = branches;
  one = one;
  parents = parents;
  genesis = inr tr.genesis;
}
  where
    branches : (x : Branch) → Among x ((b ∷ parent) ∷ t) → IsBranch x
    branches x (inl e) = subst IsBranch (sym e) (below, tr.branches parent m)
    branches x (inr k) = tr.branches x k

    one : (x y : Branch) → Among x ((b ∷ parent) ∷ t) → Among y ((b ∷ parent) ∷ t)
        → digest_of x ≡ digest_of y → x ≡ y
    one x y (inl e) (inl k) d = e ∙ sym k
    one x y (inl e) (inr k) d = absurd (fresh y k (sym d ∙ ap digest_of e))
    one x y (inr e) (inl k) d = absurd (fresh x e (d ∙ ap digest_of k))
    one x y (inr e) (inr k) d = tr.one x y e k d

    parents : (a : Block) (p : Branch) → Among (a ∷ p) ((b ∷ parent) ∷ t) → h ≤ length p + 2
        → Among p ((b ∷ parent) ∷ t)
    parents a p (inl e) l = let k : p ≡ parent = cc in inr (subst (λ (y : Branch). Among y t) (sym k) m)
    parents a p (inr k) l = inr (tr.parents a p k l)

-- a block that the tests let stand keeps the tree one
pub growth-tree : (horizon most : ℕ) (core : Core) (q : Certificate) (t : List Branch) (b parent : Branch)
    → IsTree horizon t → core.justify_height < core.height → IsGrowth horizon most core q t b parent
    → IsTree horizon (b ∷ t)
growth-tree horizon most core q t b parent tr below g =
    let ep = sym (found-in core.parent t parent g.parent_found).1 in
    let of : digest_of (block_of core ∷ parent) ≡ digest core = digest-core core parent ep g.height in
    subst (λ (x : Branch). IsTree horizon (x ∷ t)) (sym g.is)
    (grown horizon t (block_of core) parent tr (found-in core.parent t parent g.parent_found).0
    (subst (λ (h : ℕ). core.justify_height < h) g.height below)
    (λ x k d. not-found (digest core) t x g.new k (d ∙ of)))

-- and was none of it
pub growth-new : (horizon most : ℕ) (core : Core) (q : Certificate) (t : List Branch) (b parent : Branch)
    → IsGrowth horizon most core q t b parent → Among b t → ⊥
growth-new horizon most core q t b parent g k =
    let ep = sym (found-in core.parent t parent g.parent_found).1 in
    not-found (digest core) t b g.new k (ap digest_of g.is ∙ digest-core core parent ep g.height)
