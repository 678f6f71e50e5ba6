-- Which versions of a frame are read, and which votes of a certificate are passed on.
use Rattle.std.proofs.Common.{ℕ, ◌≡◌, true, false, List, [], ◌∷◌, length, filter, take, refl, sym}
use Rattle.std.proofs.Common.{ap, subst, arith, inl, inr, ◌∙◌, get_or}
use Rattle.std.proofs.lemmas.Bool.{cond-true, cond-false}
use Rattle.ids.specs.Sizes.{Sizes, quorum}
use Rattle.definitions.specs.Bytes.{Bytes}
use Rattle.definitions.specs.Frames.{Vote, Certificate, Frame, request, proposal, vote, new_view, reply}
use Rattle.definitions.specs.Frames.{fetch, block, kind_of, old_spelling, spelling}
use Rattle.definitions.specs.FrameLimits.{IsCut, CarriesCut, Spells}
use Rattle.definitions.specs.Checks.{Identity, vote_verifies, cut}
use Rattle.definitions.proofs.Spellings.{kind_number-mark, spelling_injective}
use Rattle.worked_examples.specs.Frames.{AreFour, VersionsAreTold, HeadsAreShort, BothVersionsAreRead}
use Rattle.worked_examples.specs.Frames.{FourthVoteIsOfVersionOne, VersionTwoAloneIsRead}
use Rattle.worked_examples.specs.Frames.{FirstThreeArePassedOn, OthersArePassedOn}

-- the first byte tells the version
pub told : VersionsAreTold
told (request c) = (refl, refl, refl)
told (proposal view k q vector) = (refl, refl, refl)
told (vote digest v) = (refl, refl, refl)
told (new_view view sender q vector) = (refl, refl, refl)
told (reply replica client seq place text tag) = (refl, refl, refl)
told (fetch sender digest tag) = (refl, refl, refl)
told (block sender k q tag) = (refl, refl, refl)

-- its head is what stands before its middle
pub short : HeadsAreShort
short (request c) = (refl, refl, refl, refl)
short (proposal view k q vector) = (refl, refl, refl, refl)
short (vote digest v) = (refl, refl, refl, refl)
short (new_view view sender q vector) = (refl, refl, refl, refl)
short (reply replica client seq place text tag) = (refl, refl, refl, refl)
short (fetch sender digest tag) = (refl, refl, refl, refl)
short (block sender k q tag) = (refl, refl, refl, refl)

-- with one faulty replica both are read
pub both : BothVersionsAreRead
both sizes f four h = ((h.0, inl (omega (arith, four), refl)), (h.0, inr (h.1, refl)))

-- bytes of version 1 are none of version 2
apart : (f g : Frame) → old_spelling f ≡ spelling g → ⊥
apart f g e = kind_number-mark (kind_of f) (ap (λ (l : Bytes). get_or l 0 0) e)

-- four votes are no quorum of four replicas, and not none
not-cut : (sizes : Sizes) (q : Certificate) → AreFour sizes → length q.votes ≡ 4 → IsCut sizes q → ⊥
not-cut sizes q four n (inl e) = omega (arith, n, e)
not-cut sizes q four n (inr e) = omega (arith, four, n, e)

pub fourth : FourthVoteIsOfVersionOne
fourth sizes view k q vector are four h n = ((h, inl (omega (arith, four), refl)), none)
  where
    f : Frame
    f = proposal view k q vector

    none : (g : Frame) → Spells sizes (spelling f) g → ⊥
    none g (hg, inl s) = apart g f (sym s.1)
    none g (hg, inr s) =
        not-cut sizes q four n
        (subst (CarriesCut sizes) (sym (spelling_injective sizes are f g h hg s.1)) s.0)

-- with five version 2 alone is
pub alone : VersionTwoAloneIsRead
alone sizes f sixteen h = (none, (h.0, inr (h.1, refl)))
  where
    none : (g : Frame) → Spells sizes (old_spelling f) g → ⊥
    none g (hg, inl s) = let l = s.0 in omega (arith, sixteen, l)
    none g (hg, inr s) = apart f g s.1

-- ---- votes

module _ (self : Identity) (d : Bytes) where
  -- one that verifies is kept
  kept : (a : Vote) (vs : List Vote) → vote_verifies self d a ≡ true
      → filter (vote_verifies self d) (a ∷ vs) ≡ a ∷ filter (vote_verifies self d) vs
  kept a vs h = cond-true _ _ _ h

  -- another one isn't
  left-out : (a : Vote) (vs : List Vote) → vote_verifies self d a ≡ false
      → filter (vote_verifies self d) (a ∷ vs) ≡ filter (vote_verifies self d) vs
  left-out a vs h = cond-false _ _ _ h

  -- three that verify are kept, before others
  three : (a b c : Vote) (vs : List Vote) → vote_verifies self d a ≡ true → vote_verifies self d b ≡ true
      → vote_verifies self d c ≡ true
      → filter (vote_verifies self d) (a ∷ b ∷ c ∷ vs) ≡ a ∷ b ∷ c ∷ filter (vote_verifies self d) vs
  three a b c vs ha hb hc =
      kept a (b ∷ c ∷ vs) ha
      ∙ (ap (λ (l : List Vote). a ∷ l) (kept b (c ∷ vs) hb)
      ∙ ap (λ (l : List Vote). a ∷ b ∷ l) (kept c vs hc))

-- a quorum of four is three
quorum-three : (sizes : Sizes) → AreFour sizes → quorum sizes ≡ 3
quorum-three sizes four = omega (arith, four)

-- the first three of the votes that verify
first-three : (self : Identity) (q : Certificate) (vs rest : List Vote) (a b c : Vote) → AreFour self.sizes
    → q.votes ≡ vs
    → filter (vote_verifies self q.digest) vs ≡ a ∷ b ∷ c ∷ rest → (cut self q).votes ≡ a ∷ b ∷ c ∷ []
unfolding cut
first-three self q vs rest a b c four is e =
    ap (λ (n : ℕ). take n (filter (vote_verifies self q.digest) q.votes)) (quorum-three self.sizes four)
    ∙ ap (λ (l : List Vote). take 3 l) (ap (λ (l : List Vote). filter (vote_verifies self q.digest) l) is ∙ e)

pub all-verify : FirstThreeArePassedOn
all-verify self q a b c d four is ha hb hc hd =
    first-three self q (a ∷ b ∷ c ∷ d ∷ []) _ a b c four is (three self q.digest a b c (d ∷ []) ha hb hc)

pub others-verify : OthersArePassedOn
others-verify self q a b c d four is ha hb hc hd =
    first-three self q (a ∷ b ∷ c ∷ d ∷ []) _ b c d four is
    (left-out self q.digest a (b ∷ c ∷ d ∷ []) ha ∙ three self q.digest b c d [] hb hc hd)
