-- Votes put in order of their voters, and the certificate that a quorum of them makes.
use Rattle.std.proofs.Common.{suc, ◌≡◌, ◌<◌, ◌≤◌, Bool, true, false, List, [], ◌∷◌, length, refl, ap, ◌∙◌}
use Rattle.std.proofs.Common.{arith, inr, map, filter, nat_lt}
use Rattle.std.proofs.lemmas.Bool.{cond_both, cond-true, cond-false, ltb-true, ltb-false, le-leb}
use Rattle.std.proofs.lemmas.List.{length-map}
use Rattle.std.specs.Bool.{⊤}
use Rattle.std.specs.List.{AllByRecursion}
use Rattle.sha2.proofs.Facts256.{length-sha256}
use Rattle.ids.specs.Sizes.{Sizes, quorum}
use Rattle.definitions.specs.Bytes.{Bytes}
use Rattle.definitions.specs.Frames.{Core, Vote}
use Rattle.definitions.specs.FrameLimits.{IsDigest, IsVote, IsCertificate, Rise}
use Rattle.definitions.specs.Branches.{Branch}
use Rattle.definitions.specs.Digests.{digest, digest_of}
use Rattle.definitions.specs.Checks.{Identity, vote_verifies, counted_voters, is_good, is_genesis}
use Rattle.definitions.specs.States.{insert_vote, by_voter}

-- ---- digests

-- a digest has 32 bytes
pub IsDigest-digest : (c : Core) → IsDigest (digest c)
unfolding digest
IsDigest-digest c = length-sha256 _

-- so has that of a branch
pub IsDigest-digest_of : (b : Branch) → IsDigest (digest_of b)
unfolding digest_of
IsDigest-digest_of [] = IsDigest-digest _
IsDigest-digest_of (b ∷ parent) = IsDigest-digest _

-- ---- lists of which each element has a property

-- what is kept of such a list is one
pub all-filter : {A : Type 0} (P : A → Type 0) (p : A → Bool) (xs : List A) → AllByRecursion P xs
    → AllByRecursion P (filter p xs)
all-filter P p [] h = tt
all-filter {A} P p (x ∷ xs) h =
    cond_both (p x) (x ∷ filter p xs) (filter p xs) (λ (l : List A). AllByRecursion P l)
    (λ e. (h.0, all-filter P p xs h.1)) (λ e. all-filter P p xs h.1)

-- a property that follows from another
pub all-implied : {A : Type 0} (P Q : A → Type 0) → ((x : A) → P x → Q x) → (xs : List A)
    → AllByRecursion P xs → AllByRecursion Q xs
all-implied P Q f [] h = tt
all-implied P Q f (x ∷ xs) h = (f x h.0, all-implied P Q f xs h.1)

-- where each passes all are kept
pub filter-all : {A : Type 0} (p : A → Bool) (xs : List A) → AllByRecursion (λ x. p x ≡ true) xs
    → filter p xs ≡ xs
filter-all p [] h = refl
filter-all {A} p (x ∷ xs) h =
    cond-true (p x) (x ∷ filter p xs) (filter p xs) h.0 ∙ ap (λ (l : List A). x ∷ l) (filter-all p xs h.1)

-- ---- votes by number of voter

-- one more
pub length-insert_vote : (b : Vote) (xs : List Vote) → length (insert_vote b xs) ≡ suc (length xs)
unfolding insert_vote
length-insert_vote b [] = refl
length-insert_vote b (x ∷ xs) =
    cond_both (nat_lt b.voter x.voter) (b ∷ x ∷ xs) (x ∷ insert_vote b xs)
    (λ (l : List Vote). length l ≡ suc (length (x ∷ xs))) (λ e. refl)
    (λ e. ap suc (length-insert_vote b xs))

-- as many as before
pub length-by_voter : (bs : List Vote) → length (by_voter bs) ≡ length bs
unfolding by_voter
length-by_voter [] = refl
length-by_voter (b ∷ bs) = length-insert_vote b (by_voter bs) ∙ ap suc (length-by_voter bs)

-- what holds of each, and of the one that is put in
pub all-insert_vote : (P : Vote → Type 0) (b : Vote) (xs : List Vote) → P b → AllByRecursion P xs
    → AllByRecursion P (insert_vote b xs)
unfolding insert_vote
all-insert_vote P b [] hb h = (hb, tt)
all-insert_vote P b (x ∷ xs) hb h =
    cond_both (nat_lt b.voter x.voter) (b ∷ x ∷ xs) (x ∷ insert_vote b xs)
    (λ (l : List Vote). AllByRecursion P l) (λ e. (hb, h)) (λ e. (h.0, all-insert_vote P b xs hb h.1))

-- what holds of each vote
pub all-by_voter : (P : Vote → Type 0) (bs : List Vote) → AllByRecursion P bs → AllByRecursion P (by_voter bs)
unfolding by_voter
all-by_voter P [] h = tt
all-by_voter P (b ∷ bs) h = all-insert_vote P b (by_voter bs) h.0 (all-by_voter P bs h.1)

-- no two votes are of one voter
abbrev pub AreOfEach : List Vote → Type 0
AreOfEach [] = ⊤
AreOfEach (b ∷ bs) = AllByRecursion (λ x. x.voter ≡ b.voter → ⊥) bs × AreOfEach bs

-- the first of rising votes is below each other
pub rise-below : (x : Vote) (xs : List Vote) → Rise (x ∷ xs) → AllByRecursion (λ y. x.voter < y.voter) xs
rise-below x [] r = tt
rise-below x (y ∷ ys) r = (
  r.0,
  all-implied (λ (z : Vote). y.voter < z.voter) (λ (z : Vote). x.voter < z.voter)
      (λ z l. (let k = r.0 in omega (arith, l, k))) ys (rise-below y ys r.1),
)

-- the others rise
pub rise-rest : (x : Vote) (xs : List Vote) → Rise (x ∷ xs) → Rise xs
rise-rest x [] r = tt
rise-rest x (y ∷ ys) r = r.1

-- one below the others is put first
pub rise-first : (x : Vote) (xs : List Vote) → AllByRecursion (λ y. x.voter < y.voter) xs → Rise xs
    → Rise (x ∷ xs)
rise-first x [] h r = tt
rise-first x (y ∷ ys) h r = (h.0, r)

-- a vote of another voter is put in its place
rise-insert_vote : (b : Vote) (xs : List Vote) → AllByRecursion (λ x. x.voter ≡ b.voter → ⊥) xs → Rise xs
    → Rise (insert_vote b xs)
unfolding insert_vote
rise-insert_vote b [] d r = tt
rise-insert_vote b (x ∷ xs) d r =
    cond_both (nat_lt b.voter x.voter) (b ∷ x ∷ xs) (x ∷ insert_vote b xs) Rise
    (λ e. (ltb-true b.voter x.voter e, r))
    (λ e. rise-first x (insert_vote b xs) (all-insert_vote (λ y. x.voter < y.voter) b xs
    (above (ltb-false b.voter x.voter e) d.0) (rise-below x xs r))
    (rise-insert_vote b xs d.1 (rise-rest x xs r)))
  where
    above : x.voter ≤ b.voter → (x.voter ≡ b.voter → ⊥) → x.voter < b.voter
    above l n = omega arith

-- votes of distinct voters rise
pub rise-by_voter : (bs : List Vote) → AreOfEach bs → Rise (by_voter bs)
unfolding by_voter
rise-by_voter [] d = tt
rise-by_voter (b ∷ bs) d =
    rise-insert_vote b (by_voter bs) (all-by_voter (λ x. x.voter ≡ b.voter → ⊥) bs d.0) (rise-by_voter bs d.1)

-- ---- the certificate of a quorum of votes

-- a quorum of votes of distinct voters makes a certificate
pub IsCertificate-by_voter : (sizes : Sizes) (d : Bytes) (bs : List Vote) → IsDigest d
    → AllByRecursion (IsVote sizes) bs → AreOfEach bs → length bs ≡ quorum sizes
    → IsCertificate sizes (record { digest = d; votes = by_voter bs })
IsCertificate-by_voter sizes d bs hd votes each enough =
    let n = length-by_voter bs in
    record {
      digest = hd;
      count = inr (omega (arith, n, enough), omega (arith, n, enough));
      votes = all-by_voter (IsVote sizes) bs votes;
      rising = rise-by_voter bs each;
    }

-- where each verifies and the digest isn't genesis's, it is good
pub is_good-by_voter : (self : Identity) (d : Bytes) (bs : List Vote)
    → AllByRecursion (λ b. vote_verifies self d b ≡ true) bs → length bs ≡ quorum self.sizes
    → is_genesis d ≡ false → is_good self (record { digest = d; votes = by_voter bs }) ≡ true
unfolding is_good counted_voters
is_good-by_voter self d bs verify enough apart =
    let kept = filter-all (vote_verifies self d) (by_voter bs)
    (all-by_voter (λ b. vote_verifies self d b ≡ true) bs verify) in
    let n = length-by_voter bs in
    let l : length (map (λ (b : Vote). b.voter) (filter (vote_verifies self d) (by_voter bs))) ≡ length bs =
    length-map (filter (vote_verifies self d) (by_voter bs)) (λ (b : Vote). b.voter)
    ∙ (ap (λ (x : List Vote). length x) kept ∙ n) in
    cond-false _ _ _ apart
    ∙ le-leb (quorum self.sizes)
    (length (map (λ (b : Vote). b.voter) (filter (vote_verifies self d) (by_voter bs))))
    (omega (arith, l, enough))
