-- Counting votes one after the other.
use Rattle.std.proofs.Common.{ℕ, ◌≡◌, true, false, List, [], ◌∷◌, ◌++◌, map, filter, refl, sym, ap, subst}
use Rattle.std.proofs.Common.{◌∙◌, ◌≤◌, length, inl, inr, arith}
use Rattle.std.proofs.lemmas.Bool.{cond-true, cond-false}
use Rattle.std.proofs.lemmas.List.{append_assoc, append-nil}
use Rattle.std.specs.List.{AllByRecursion}
use Rattle.definitions.specs.Bytes.{Bytes}
use Rattle.definitions.specs.Frames.{Vote, Certificate}
use Rattle.ids.specs.Sizes.{Sizes, replicas}
use Rattle.definitions.specs.FrameLimits.{IsCertificate}
use Rattle.definitions.specs.Checks.{Identity, vote_verifies, counted_voters}

module _ (self : Identity) (digest : Bytes) where
  -- the voters of these votes whose tags verify
  abbrev pub counted_among : List Vote → List ℕ
  counted_among votes = map (λ (b : Vote). b.voter) (filter (vote_verifies self digest) votes)

  -- one more is counted
  pub counted_more : (voters total : List ℕ) (v : Vote) (rest : List Vote)
      → vote_verifies self digest v ≡ true
      → voters ++ counted_among (v ∷ rest) ≡ total → (voters ++ v.voter ∷ []) ++ counted_among rest ≡ total
  counted_more voters total v rest passed so_far =
      let one : counted_among (v ∷ rest) ≡ v.voter ∷ counted_among rest
      = ap (λ (l : List Vote). map (λ (b : Vote). b.voter) l)
      (cond-true (vote_verifies self digest v) (v ∷ filter (vote_verifies self digest) rest)
      (filter (vote_verifies self digest) rest) passed) in
      append_assoc voters (v.voter ∷ []) (counted_among rest) ∙ ap (λ (l : List ℕ). voters ++ l) (sym one)
      ∙ so_far

  -- one isn't counted
  pub counted_same : (voters total : List ℕ) (v : Vote) (rest : List Vote)
      → vote_verifies self digest v ≡ false
      → voters ++ counted_among (v ∷ rest) ≡ total → voters ++ counted_among rest ≡ total
  counted_same voters total v rest failed so_far =
      let one : counted_among (v ∷ rest) ≡ counted_among rest
      = ap (λ (l : List Vote). map (λ (b : Vote). b.voter) l)
      (cond-false (vote_verifies self digest v) (v ∷ filter (vote_verifies self digest) rest)
      (filter (vote_verifies self digest) rest) failed) in
      ap (λ (l : List ℕ). voters ++ l) (sym one) ∙ so_far

-- those of a certificate
pub counted-is : (self : Identity) (q : Certificate)
    → counted_voters self q ≡ counted_among self q.digest q.votes
unfolding counted_voters
counted-is self q = refl

-- at first
pub counted_first : (self : Identity) (q : Certificate) (votes : List Vote) → votes ≡ q.votes
    → [] ++ counted_among self q.digest votes ≡ counted_voters self q
counted_first self q votes e = ap (counted_among self q.digest) e ∙ sym (counted-is self q)

-- at last
pub counted_last : (self : Identity) (q : Certificate) (voters : List ℕ) (votes : List Vote) → votes ≡ []
    → voters ++ counted_among self q.digest votes ≡ counted_voters self q → voters ≡ counted_voters self q
counted_last self q voters votes none so_far =
    sym (append-nil voters) ∙ ap (λ (l : List Vote). voters ++ counted_among self q.digest l) (sym none)
    ∙ so_far

-- what is left of a list of votes, each of which has a property, has it too
pub all-left : (P : Vote → Type 0) (v : Vote) (votes rest : List Vote) → votes ≡ v ∷ rest
    → AllByRecursion P votes → P v × AllByRecursion P rest
all-left P v votes rest e h = subst (AllByRecursion P) e h

-- a certificate has at most as many votes as there are replicas
pub votes-few : (sizes : Sizes) (q : Certificate) → IsCertificate sizes q → length q.votes ≤ replicas sizes
votes-few sizes q h = elim h.count [ inl none ↦ omega (arith, none) | inr some ↦ some.1 ]
