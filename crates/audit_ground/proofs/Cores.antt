-- The cores that judged replicas know, each with its place: no two of them collide, or two do.
use Rattle.std.proofs.Common.{ℕ, ◌≡◌, ◌<◌, ◌⊎◌, List, [], ◌∷◌, ◌++◌, length, refl, sym, ap, subst, ◌∙◌}
use Rattle.std.proofs.Common.{arith, inl, inr, Option, Some, None}
use Rattle.definitions.specs.Lists.{Among, AreDistinct}
use Rattle.definitions.specs.Frames.{Core, genesis_core}
use Rattle.definitions.specs.Digests.{digest, NoCollision}
use Rattle.definitions.specs.Chronicles.{Admitted, Step, Step.took_block, Chronicle}
use Rattle.definitions.specs.Audit.{Member, Judged, step_after, CorePlace, CorePlace.at_genesis}
use Rattle.definitions.specs.Audit.{CorePlace.at_step, core_in, core_at, IsCollision}
use Rattle.definitions.proofs.Lists.{Among-before, Among-after, Among-either}
use Rattle.audit_ground.specs.Law.{KnownTo, numbers}
use Rattle.audit_ground.proofs.Lists.{step_after-newest, step_after-older}
use Rattle.audit_ground.proofs.Members.{chronicle-own}
use Rattle.audit_ground.proofs.Decisions.{OrNot, all-pairs, same_core-or_not, same_bytes-or_not}

-- a core and its place
abbrev Placed : Type 0
Placed = CorePlace × Core

-- with the core at this place, if there is one
abbrev with_core : CorePlace → Option Core → List Placed → List Placed
with_core place None rest = rest
with_core place (Some c) rest = (place, c) ∷ rest

-- the cores of a chronicle's steps
abbrev cores_of : ℕ → Chronicle → List Placed
cores_of i [] = []
cores_of i (s ∷ earlier) = with_core (at_step i (length earlier)) (core_in (Some s)) (cores_of i earlier)

-- those of all judged chronicles
abbrev cores_in : Judged → List Placed
cores_in [] = []
cores_in (m ∷ rest) = cores_of m.number m.replica.chronicle ++ cores_in rest

-- and genesis's
abbrev all_cores : Judged → List Placed
all_cores ks = (at_genesis, genesis_core) ∷ cores_in ks

-- ---- each stands at its place

-- the place is a step of this chronicle, which has the core
abbrev StandsIn : ℕ → Chronicle → Placed → Type 0
StandsIn i c p = (n : ℕ) × (p.0 ≡ at_step i n) × (n < length c) × (core_in (step_after n c) ≡ Some p.1)

-- what stands in a chronicle stands in a longer one
stands-later : (i : ℕ) (s : Step) (earlier : Chronicle) (p : Placed) → StandsIn i earlier p
    → StandsIn i (s ∷ earlier) p
stands-later i s earlier p h =
    let l = h.2 in
    (h.0, h.1, omega (arith, l), ap core_in (step_after-older h.0 s earlier (λ e. omega (arith, l, e))) ∙ h.3)

-- so does the newest step's core, if it has one
stands-here : (i : ℕ) (s : Step) (earlier : Chronicle) (p : Placed) → (o : Option Core)
    → core_in (Some s) ≡ o → (Among p (cores_of i earlier) → StandsIn i earlier p)
    → Among p (with_core (at_step i (length earlier)) o (cores_of i earlier)) → StandsIn i (s ∷ earlier) p
stands-here i s earlier p None e rest m = stands-later i s earlier p (rest m)
stands-here i s earlier p (Some c) e rest (inl h) = (
  length earlier,
  ap (λ (q : Placed). q.0) h,
  omega arith,
  ap core_in (step_after-newest s earlier) ∙ (e ∙ ap (λ (q : Placed). Some q.1) (sym h)),
)
stands-here i s earlier p (Some c) e rest (inr m) = stands-later i s earlier p (rest m)

-- each listed core stands in its chronicle
cores-stand : (i : ℕ) (c : Chronicle) (p : Placed) → Among p (cores_of i c) → StandsIn i c p
cores-stand i [] p m = absurd m
cores-stand i (s ∷ earlier) p m =
    stands-here i s earlier p (core_in (Some s)) refl (cores-stand i earlier p) m

-- each is a member's
cores_in-member : (ks : Judged) (p : Placed) → Among p (cores_in ks)
    → (m : Member) × Among m ks × Among p (cores_of m.number m.replica.chronicle)
cores_in-member [] p n = absurd n
cores_in-member (m ∷ rest) p n =
    elim (Among-either p (cores_of m.number m.replica.chronicle) (cores_in rest) n) [
      | inl own ↦ (m, inl refl, own)
      | inr later ↦ let r = cores_in-member rest p later in (r.0, inr r.1, r.2)
    ]

-- where the numbers are distinct, each listed core stands at its place
all_cores-stand : (ks : Judged) → AreDistinct (numbers ks) → (p : Placed) → Among p (all_cores ks)
    → core_at ks p.0 ≡ Some p.1
unfolding core_at
all_cores-stand ks d p (inl e) = ap (λ (q : Placed). core_at ks q.0) e ∙ ap (λ (q : Placed). Some q.1) (sym e)
all_cores-stand ks d p (inr n) =
    let r = cores_in-member ks p n in
    let s = cores-stand r.0.number r.0.replica.chronicle p r.2 in
    ap (core_at ks) s.1
    ∙ (ap (λ (c : Chronicle). core_in (step_after s.0 c)) (chronicle-own ks d r.0 r.1) ∙ s.3)

-- ---- all that are known stand there

-- what is listed stays listed
with_core-keeps : (place : CorePlace) (o : Option Core) (rest : List Placed) (p : Placed) → Among p rest
    → Among p (with_core place o rest)
with_core-keeps place None rest p m = m
with_core-keeps place (Some c) rest p m = inr m

-- the core of each block that was admitted is listed
took-placed : (i : ℕ) (a : Admitted) (c : Chronicle) → Among (took_block a) c
    → (n : ℕ) × Among (at_step i n, a.core) (cores_of i c)
unfolding core_in
took-placed i a [] m = absurd m
took-placed i a (s ∷ earlier) (inl e) =
    (length earlier, placed (core_in (Some s)) (ap (λ (x : Step). core_in (Some x)) (sym e)))
  where
    placed : (o : Option Core) → o ≡ Some a.core
        → Among (at_step i (length earlier), a.core)
        (with_core (at_step i (length earlier)) o (cores_of i earlier))
    placed None h = absurd (none_some h)
      where
        none_some : None ≡ Some a.core → ⊥
        none_some k = cc
    placed (Some c) h =
        let k : c ≡ a.core = cc in inl (ap (λ (x : Core). (at_step i (length earlier), x)) (sym k))
took-placed i a (s ∷ earlier) (inr m) =
    let r = took-placed i a earlier m in (
      r.0,
      with_core-keeps (at_step i (length earlier)) (core_in (Some s)) (cores_of i earlier)
          (at_step i r.0, a.core) r.1,
    )

-- so are those of each member
member-cores : (ks : Judged) (m : Member) (p : Placed) → Among m ks
    → Among p (cores_of m.number m.replica.chronicle) → Among p (cores_in ks)
member-cores [] m p n k = absurd n
member-cores (x ∷ rest) m p (inl e) k =
    Among-before p (cores_of x.number x.replica.chronicle) (cores_in rest) (own k)
  where
    own : Among p (cores_of m.number m.replica.chronicle) → Among p (cores_of x.number x.replica.chronicle)
    own h = subst (λ (y : Member). Among p (cores_of y.number y.replica.chronicle)) e h
member-cores (x ∷ rest) m p (inr n) k =
    Among-after p (cores_of x.number x.replica.chronicle) (cores_in rest) (member-cores rest m p n k)

-- each known core is listed
known-placed : (ks : Judged) (c : Core) → KnownTo ks c → (p : Placed) × Among p (all_cores ks) × (p.1 ≡ c)
known-placed ks c (inl e) = ((at_genesis, genesis_core), inl refl, sym e)
known-placed ks c (inr (m, n, inl e)) = ((at_genesis, genesis_core), inl refl, sym e)
known-placed ks c (inr (m, n, inr (a, t, e))) =
    let r = took-placed m.number a m.replica.chronicle t in
    ((at_step m.number r.0, a.core), inr (member-cores ks m (at_step m.number r.0, a.core) n r.1), e)

-- ---- collisions

-- of one digest, only where they are one core
abbrev DoNotCollide : Placed → Placed → Type 0
DoNotCollide a b = digest a.1 ≡ digest b.1 → a.1 ≡ b.1

-- two of them collide, or not
collide-or_not : (a b : Placed) → OrNot (DoNotCollide a b)
collide-or_not a b =
    elim (same_core-or_not a.1 b.1) [
      | inl e ↦ inl (λ d. e)
      | inr n ↦ elim (same_bytes-or_not (digest a.1) (digest b.1))
          [ inl d ↦ inr (λ h. n (h d)) | inr f ↦ inl (λ d. absurd (f d)) ]
    ]

-- no two known cores collide, or two of them do
pub apart-or_collision : (ks : Judged) → AreDistinct (numbers ks)
    → NoCollision (KnownTo ks) ⊎ ((p q : CorePlace) × IsCollision ks p q)
apart-or_collision ks d =
    elim (all-pairs DoNotCollide collide-or_not (all_cores ks) (all_cores ks)) [
      | inl h ↦ inl (λ a b ka kb e.
          let p = known-placed ks a ka in
          let q = known-placed ks b kb in
          sym p.2 ∙ (h p.0 q.0 p.1 q.1 (ap digest p.2 ∙ (e ∙ ap digest (sym q.2))) ∙ q.2))
      | inr r ↦ inr (
        r.0.0,
        r.1.0,
        record {
          a = r.0.1;
          b = r.1.1;
          first_is = all_cores-stand ks d r.0 r.2;
          second_is = all_cores-stand ks d r.1 r.3;
          unequal = λ e. r.4 (λ x. e);
          one_digest = elim (same_bytes-or_not (digest r.0.1) (digest r.1.1))
              [ inl e ↦ e | inr n ↦ absurd (r.4 (λ e. absurd (n e))) ];
        },
      )
    ]
