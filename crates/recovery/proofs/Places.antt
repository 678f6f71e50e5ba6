-- Where a block comes to stand that has a place.
use Rattle.ids.specs.declared.limits.TheConstants.{MOST_BLOCKS, MOST_OF_HEIGHT, HEIGHT_LIMIT}
use Rattle.std.proofs.Common.{ℕ, suc, ◌≡◌, ◌<◌, ◌≤◌, ◌⊎◌, ◌==◌, not, true, false, List, ◌∷◌}
use Rattle.std.proofs.Common.{length, refl, sym, ap, subst, ◌∙◌, inl, inr, nat_lt, arith, Option, Some, None}
use Rattle.std.proofs.lemmas.Bool.{cond-true, cond-false, and_from, lt-ltb, eq-eqb}
use Rattle.std.specs.Cmp.Lexicographic.{bytes_decides}
use Rattle.std.specs.Prelude.{count_by}
use Rattle.definitions.specs.Lists.{Among}
use Rattle.definitions.specs.Branches.{Block, Branch, just1, justify_height}
use Rattle.definitions.specs.Chronicles.{Chronicle, window, horizon}
use Rattle.definitions.specs.Digests.{digest, digest_of, core_of, core_over}
use Rattle.definitions.specs.Frames.{Certificate}
use Rattle.definitions.specs.Trees.{Placing, Placing.stands, Placing.grows, Placing.lacks_parent}
use Rattle.definitions.specs.Trees.{placing, placing_known, placing_over, placing_new, find_in, justifies}
use Rattle.definitions.specs.Trees.{IsTree}
use Rattle.definitions.proofs.Trees.{found-in, found-itself}
use Rattle.recovery.specs.Fetching.{HasPlace}

-- a number that is no lower isn't below
not-below : (a b : ℕ) → b ≤ a → nat_lt a b ≡ false
not-below a b h = grind (arith, h)

-- a certificate for what the block justifies
pub justifies-from : (q : Certificate) (x : Branch) → q.digest ≡ digest_of (just1 x) → justifies q x ≡ true
justifies-from q x e = (bytes_decides q.digest (digest_of (just1 x))).1 e

-- it stands already
placed-known : (h : ℕ) (x : Branch) (q : Certificate) → h ≤ justify_height x → q.digest ≡ digest_of (just1 x)
    → placing_known h x q ≡ stands x
unfolding placing_known
placed-known h x q low e =
    cond-false (nat_lt (justify_height x) h) _ _ (not-below (justify_height x) h low)
    ∙ cond-true (justifies q x) _ _ (justifies-from q x e)

-- it is new
placed-new : (b : Block) (parent : Branch) (q : Certificate) (t : List Branch)
    → q.digest ≡ digest_of (just1 (b ∷ parent)) → length t < MOST_BLOCKS
    → count_by (λ x. length x == suc (length parent)) t < MOST_OF_HEIGHT → suc (length parent) < HEIGHT_LIMIT
    → placing_new MOST_BLOCKS parent (core_of (b ∷ parent)) q t ≡ grows (b ∷ parent)
unfolding placing_new core_of core_over
placed-new b parent q t e room free low =
    cond-false _ _ _ (ap not (eq-eqb (suc (length parent)) (suc (length parent)) refl))
    ∙ (cond-false _ _ _ (ap not (justifies-from q (b ∷ parent) e))
    ∙ (cond-false _ _ _ (ap not (lt-ltb _ MOST_OF_HEIGHT free))
    ∙ cond-false _ _ _ (ap not (and_from _ _ (lt-ltb _ MOST_BLOCKS room) (lt-ltb _ HEIGHT_LIMIT low)))))

pub digest-own : (b : Block) (parent : Branch) → digest_of (b ∷ parent) ≡ digest (core_of (b ∷ parent))
unfolding digest_of core_of
digest-own b parent = refl

-- the block stands there, or comes to
abbrev pub IsPlaced : Chronicle → Branch → Placing → Type 0
IsPlaced c x place = ((place ≡ stands x) × Among x (window c)) ⊎ (place ≡ grows x)

-- A block that has a place stands there, or comes to stand there.
pub placed : (c : Chronicle) (b : Block) (parent : Branch) (q : Certificate) → IsTree (horizon c) (window c)
    → HasPlace c b parent → q.digest ≡ digest_of (just1 (b ∷ parent))
    → ((y : Branch) → Among y (window c) → digest_of y ≡ digest_of (b ∷ parent) → y ≡ b ∷ parent)
    → IsPlaced c (b ∷ parent) (placing (horizon c) MOST_BLOCKS (core_of (b ∷ parent)) q (window c))
unfolding placing core_of core_over justify_height
placed c b parent q tree p e one = known (find_in (digest (core_of (b ∷ parent))) (window c)) refl
  where
    h : ℕ
    h = horizon c

    t : List Branch
    t = window c

    Placed : Placing → Type 0
    Placed x = IsPlaced c (b ∷ parent) x

    over : (o : Option Branch) → o ≡ Some parent
        → elim o [
          | Some y ↦ placing_new MOST_BLOCKS y (core_of (b ∷ parent)) q t
          | None ↦ lacks_parent
        ] ≡ grows (b ∷ parent)
    over (Some y) i =
        let same : y ≡ parent = cc in
        subst (λ (z : Branch). placing_new MOST_BLOCKS z (core_of (b ∷ parent)) q t ≡ grows (b ∷ parent)) (sym same)
        (placed-new b parent q t e p.room p.uncrowded p.low)
    over None i = absurd (none i)
      where
        none : None ≡ Some parent → ⊥
        none k = cc

    known : (o : Option Branch) → find_in (digest (core_of (b ∷ parent))) t ≡ o
        → Placed (elim o [
          | Some y ↦ placing_known h y q
          | None ↦ placing_over h MOST_BLOCKS (core_of (b ∷ parent)) q t
        ])
    known (Some y) i =
        let f = found-in (digest (core_of (b ∷ parent))) t y i in
        let same : y ≡ b ∷ parent = one y f.0 (f.1 ∙ sym (digest-own b parent)) in
        subst (λ (z : Branch). Placed (placing_known h z q)) (sym same)
        (inl (placed-known h (b ∷ parent) q p.reach e, subst (λ (z : Branch). Among z t) same f.0))
    known None i = inr (cond-false _ _ _ (not-below b.justify h p.reach)
        ∙ over (find_in (digest_of parent) t) (found-itself h t tree parent p.stands))
