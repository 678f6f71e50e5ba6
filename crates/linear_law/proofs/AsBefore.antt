-- Where no step leads, and each certificate has votes, the highest one is the first of the greatest height.
use Rattle.std.proofs.Common.{◌&&◌, ◌≡◌, ◌||◌, Bool, true, false, [], ◌∷◌, length, nat_lt, refl, sym, ap}
use Rattle.std.proofs.Common.{subst, ◌∙◌, arith, inl, inr, Option, Some, None, cond}
use Rattle.std.specs.Prelude.{IfSome}
use Rattle.std.proofs.lemmas.Bool.{cases_Bool, and_parts, cond_both, ltb-true, eqb-true}
use Rattle.ids.specs.Sizes.{Sizes}
use Rattle.definitions.specs.Chronicles.{Chronicle}
use Rattle.definitions.specs.States.{Justified, raised, fills, comes_whole, higher, qc_high}
use Rattle.definitions.proofs.Horizons.{qc_high-cases}
use Rattle.linear_law.specs.AsBefore.{first_of, first_highest, HasVotes, NoneLeads}

-- nothing takes the place of a certificate that has votes
fills-none : (p q : Justified) → HasVotes q → fills p q ≡ false
fills-none p q h =
    elim (cases_Bool (fills p q)) [
      | inl t ↦
          let a = and_parts _ _ t in
          let above = h (ltb-true 0 (length q.block) (and_parts _ _ a.0).0) in
          let none = eqb-true (length q.certificate.votes) 0 (and_parts _ _ a.1).0 in
          absurd (omega (arith, above, none))
      | inr f ↦ f
    ]

or-none : (x t y : Bool) → y ≡ false → (x || (t && y)) ≡ x
or-none true t y e = refl
or-none false true y e = e
or-none false false y e = refl

-- so the higher one is the first of the greater height
higher-first : (whole : Bool) (o : Option Justified) (q : Justified) → HasVotes q
    → higher whole o q ≡ first_of o q
higher-first whole None q h = refl
higher-first whole (Some p) q h =
    ap (λ (t : Bool). cond t p q) (or-none (nat_lt (length q.block) (length p.block)) whole (fills p q)
    (fills-none p q h))

higher-votes : (whole : Bool) (o : Option Justified) (q : Justified) → IfSome o HasVotes → HasVotes q
    → HasVotes (higher whole o q)
higher-votes whole None q b h = h
higher-votes whole (Some p) q b h =
    cond_both (nat_lt (length q.block) (length p.block) || (whole && fills p q)) p q HasVotes (λ e. b) (λ e. h)

pub highest : (s : Sizes) (c : Chronicle) → NoneLeads s c
    → (qc_high s c ≡ first_highest s c) × HasVotes (qc_high s c)
unfolding qc_high first_highest
highest s [] h = (refl, λ l. absurd (omega (arith, l)))
highest s (st ∷ c) h =
    let old = highest s c h.2 in
    elim (qc_high-cases s st c) [
      | inl led ↦ absurd (h.0 led.0 led.1)
      | inr e ↦ (
        e ∙ (higher-first (comes_whole st) (raised s st c) (qc_high s c) old.1 ∙ ap (first_of (raised s st c)) old.0),
        subst HasVotes (sym e) (higher-votes (comes_whole st) (raised s st c) (qc_high s c) h.1 old.1),
      )
    ]
