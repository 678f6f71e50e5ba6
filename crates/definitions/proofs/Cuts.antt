-- A certificate as it is passed on: its votes, their order and their number.
use Rattle.std.proofs.Common.{ℕ, zero, suc, ◌≡◌, ◌<◌, ◌≤◌, Bool, true, List, [], ◌∷◌, length, sym}
use Rattle.std.proofs.Common.{◌∙◌, ◌⊎◌, ap, subst, arith, inl, inr, take, filter, refl}
use Rattle.std.proofs.lemmas.Bool.{cond_both, cond-true, cond-false, cases_Bool, eqb-true, leb-true}
use Rattle.std.proofs.lemmas.List.{length-map, length-take-le, nil_from_length}
use Rattle.std.specs.List.{AllByRecursion}
use Rattle.ids.specs.Sizes.{replicas, quorum}
use Rattle.definitions.specs.Frames.{Vote, Certificate}
use Rattle.definitions.specs.FrameLimits.{IsVote, IsCertificate, IsCut, Rise}
use Rattle.definitions.specs.Checks.{Identity, vote_verifies, counted_voters, cut, is_genesis, is_good}
use Rattle.definitions.specs.Grounds.{IsKept}
use Rattle.definitions.proofs.Certificates.{all-filter, rise-below, rise-rest, rise-first}

-- ---- lists

-- what holds of each holds of each of the first
pub all-take : {A : Type 0} (P : A → Type 0) (n : ℕ) (xs : List A) → AllByRecursion P xs
    → AllByRecursion P (take n xs)
all-take P zero xs h = tt
all-take P (suc n) [] h = tt
all-take P (suc n) (x ∷ xs) h = (h.0, all-take P n xs h.1)

-- what is kept of rising votes rises
rise-filter : (p : Vote → Bool) (xs : List Vote) → Rise xs → Rise (filter p xs)
rise-filter p [] r = tt
rise-filter p (x ∷ xs) r =
    cond_both (p x) (x ∷ filter p xs) (filter p xs) Rise
    (λ e. rise-first x (filter p xs)
    (all-filter (λ (y : Vote). x.voter < y.voter) p xs (rise-below x xs r))
    (rise-filter p xs (rise-rest x xs r)))
    (λ e. rise-filter p xs (rise-rest x xs r))

-- the first of them rise
rise-take : (n : ℕ) (xs : List Vote) → Rise xs → Rise (take n xs)
rise-take zero xs r = tt
rise-take (suc n) [] r = tt
rise-take (suc n) (x ∷ xs) r =
    rise-first x (take n xs) (all-take (λ (y : Vote). x.voter < y.voter) n xs (rise-below x xs r))
    (rise-take n xs (rise-rest x xs r))

-- ---- what is passed on

-- what holds of each vote of a certificate holds of each that is passed on
pub all-cut : (P : Vote → Type 0) (self : Identity) (q : Certificate) → AllByRecursion P q.votes
    → AllByRecursion P (cut self q).votes
unfolding cut
all-cut P self q h =
    all-take P (quorum self.sizes) (filter (vote_verifies self q.digest) q.votes)
    (all-filter P (vote_verifies self q.digest) q.votes h)

-- nothing is the front of nothing
take-nil : (n : ℕ) → take {A = Vote} n [] ≡ []
take-nil zero = refl
take-nil (suc n) = refl

-- of a good certificate, which has no votes if it is that of genesis, a quorum is passed on, or none
pub IsCut-cut : (self : Identity) (q : Certificate) → is_good self q ≡ true → IsCut self.sizes (cut self q)
unfolding cut is_good counted_voters
IsCut-cut self q g =
    elim (cases_Bool (is_genesis q.digest)) [
      | inl k ↦ inl (ap (λ (vs : List Vote). length (take (quorum self.sizes) (filter p vs)))
          (nil_from_length q.votes (eqb-true _ _ (sym (cond-true _ _ _ k) ∙ g)))
          ∙ ap (λ (vs : List Vote). length vs) (take-nil (quorum self.sizes)))
      | inr k ↦ inr (length-take-le (quorum self.sizes) kept
          (subst (λ (n : ℕ). quorum self.sizes ≤ n) (length-map kept (λ (b : Vote). b.voter))
          (leb-true _ _ (sym (cond-false _ _ _ k) ∙ g))))
    ]
  where
    p : Vote → Bool
    p = vote_verifies self q.digest

    kept : List Vote
    kept = filter p q.votes

-- so of one that is kept
pub IsCut-kept : (self : Identity) (q : Certificate) → IsKept self q → IsCut self.sizes (cut self q)
unfolding cut
IsCut-kept self q (inl g) = IsCut-cut self q g
IsCut-kept self q (inr e) = inl (none q.votes e)
  where
    none : (vs : List Vote) → vs ≡ []
        → length (take (quorum self.sizes) (filter (vote_verifies self q.digest) vs)) ≡ 0
    none vs h = ap (λ (xs : List Vote). length (take (quorum self.sizes)
        (filter (vote_verifies self q.digest) xs))) h ∙ ap (λ (xs : List Vote). length xs) (take-nil (quorum self.sizes))

-- what is cut is a certificate at these sizes, as what it was cut from is
certificate-from : (self : Identity) (q : Certificate) → IsCertificate self.sizes q
    → IsCut self.sizes (cut self q) → IsCertificate self.sizes (cut self q)
unfolding cut
certificate-from self q c h =
    record {
      digest = c.digest;
      count = few h;
      votes = all-cut (IsVote self.sizes) self q c.votes;
      rising = rise-take (quorum self.sizes) kept (rise-filter (vote_verifies self q.digest) q.votes c.rising);
    }
  where
    kept : List Vote
    kept = filter (vote_verifies self q.digest) q.votes

    n : ℕ
    n = length (take (quorum self.sizes) kept)

    few : (n ≡ 0) ⊎ (n ≡ quorum self.sizes)
        → (n ≡ 0) ⊎ ((quorum self.sizes ≤ n) × (n ≤ replicas self.sizes))
    few (inl e) = inl e
    few (inr e) = inr (omega (arith, e), omega (arith, e))

-- what was kept
pub IsCertificate-kept : (self : Identity) (q : Certificate) → IsCertificate self.sizes q
    → IsKept self q → IsCertificate self.sizes (cut self q)
IsCertificate-kept self q c k = certificate-from self q c (IsCut-kept self q k)

-- what is good
pub IsCertificate-cut : (self : Identity) (q : Certificate) → IsCertificate self.sizes q
    → is_good self q ≡ true → IsCertificate self.sizes (cut self q)
IsCertificate-cut self q c g = certificate-from self q c (IsCut-cut self q g)
