-- What the digests of judged replicas stand for, where no two cores that they know collide.
use Rattle.std.proofs.Common.{ℕ, ◌≡◌, true, [], ◌∷◌, refl, sym, subst, ◌∙◌, inl, inr}
use Rattle.std.proofs.lemmas.Bool.{cases_Bool}
use Rattle.ids.specs.Sizes.{Sizes}
use Rattle.definitions.specs.Bytes.{Bytes}
use Rattle.definitions.specs.Lists.{Among}
use Rattle.definitions.specs.Frames.{Core, genesis_core}
use Rattle.definitions.specs.Branches.{Branch, just1}
use Rattle.definitions.specs.Digests.{digest, StandsFor, NoCollision}
use Rattle.definitions.specs.Chronicles.{Admitted, Step.took_block, Chronicle, IsLawful}
use Rattle.definitions.specs.Audit.{Member, Judged, is_judged, chronicle_of}
use Rattle.definitions.proofs.Digests.{stands_for-digest, digest_of-one}
use Rattle.audit_ground.specs.Law.{KnownIn, KnownTo, IsNamed, IsLawfullyKept, IsKeptWell, AreJudged}
use Rattle.audit_ground.proofs.Members.{judged-member, unjudged-none}

-- what stands for a branch still does where more is known
pub stands_for-more : (Known More : Core → Type 0) → ((c : Core) → Known c → More c)
    → (d : Bytes) (b : Branch) → StandsFor Known d b → StandsFor More d b
stands_for-more Known More up d [] h = h
stands_for-more Known More up d (b ∷ parent) h =
    (h.0, up h.0 h.1, h.2, h.3, h.4, h.5, stands_for-more Known More up h.0.parent parent h.6)

-- with no collision a digest stands for one branch
pub stands_for-one : (Known : Core → Type 0) → NoCollision Known → Known genesis_core
    → (d : Bytes) (a b : Branch) → StandsFor Known d a → StandsFor Known d b → a ≡ b
stands_for-one Known apart g d a b h k =
    let p = stands_for-digest Known d a h in
    let q = stands_for-digest Known d b k in
    digest_of-one Known apart g refl a b p.1 q.1 (sym p.0 ∙ q.0)

-- what names a block still does where more is known
named-more : (Known More : Core → Type 0) → ((c : Core) → Known c → More c) → (a : Admitted)
    → IsNamed Known a → IsNamed More a
named-more Known More up a n = record {
  block = stands_for-more Known More up (digest a.core) a.branch n.block;
  justified = stands_for-more Known More up a.certificate.digest (just1 a.branch) n.justified;
}

-- genesis's core is known to all
pub known-genesis : (ks : Judged) → KnownTo ks genesis_core
known-genesis ks = inl refl

-- so is what a judged replica knows
pub known-member : (ks : Judged) (m : Member) → Among m ks → (c : Core) → KnownIn m.replica.chronicle c
    → KnownTo ks c
known-member ks m n c k = inr (m, n, k)

-- with no collision of what all know, each that is kept well is lawfully kept
pub kept-lawfully : (sizes : Sizes) (ks : Judged) → ((m : Member) → Among m ks → IsKeptWell sizes m)
    → NoCollision (KnownTo ks) → (m : Member) → Among m ks → IsLawfullyKept sizes m.replica.chronicle
kept-lawfully sizes ks kept apart m n =
    kept m n (λ a b p q. apart a b (known-member ks m n a p) (known-member ks m n b q))

-- from here on: judged replicas, and no collision of what they know
module _ (sizes : Sizes) (ks : Judged) (judged : AreJudged sizes ks) (apart : NoCollision (KnownTo ks)) where
  -- each member's chronicle is lawful, and its digests stand for its branches
  pub member-kept : (m : Member) → Among m ks → IsLawfullyKept sizes m.replica.chronicle
  member-kept = kept-lawfully sizes ks judged.kept apart

  -- the chronicle of a judged number is lawful
  pub judged-lawful : (i : ℕ) → is_judged ks i ≡ true → IsLawful sizes (chronicle_of ks i)
  judged-lawful i t =
      let r = judged-member ks i t in subst (IsLawful sizes) (sym r.3) (member-kept r.0 r.1).lawful

  -- and its digests stand for its branches
  pub judged-named : (i : ℕ) (a : Admitted) → Among (took_block a) (chronicle_of ks i)
      → IsNamed (KnownTo ks) a
  judged-named i a n =
      elim (cases_Bool (is_judged ks i)) [
        | inl t ↦
            let r = judged-member ks i t in
            named-more (KnownIn r.0.replica.chronicle) (KnownTo ks) (known-member ks r.0 r.1) a
            ((member-kept r.0 r.1).named a (subst (λ (c : Chronicle). Among (took_block a) c) r.3 n))
        | inr f ↦ absurd (subst (λ (c : Chronicle). Among (took_block a) c) (unjudged-none ks i f) n)
      ]
