-- What the checks on a frame establish.
use Rattle.ids.specs.declared.fault.Fault.TheVariants as fault
use Rattle.std.proofs.Common.{ℕ, ◌≡◌, ◌<◌, ◌≤◌, ◌⊎◌, ◌∙◌, length, Bool, true, false, List, [], ◌∷◌, ◌&&◌}
use Rattle.std.proofs.Common.{cond, refl, sym, subst, arith, inl, inr, map, filter}
use Rattle.std.specs.Bool.{⊤}
use Rattle.std.specs.List.{AllByRecursion}
use Rattle.std.proofs.lemmas.Bool.{and_parts, cases_Bool, leb-true, cond-false}
use Rattle.ids.specs.Sizes.{Sizes, replicas, quorum}
use Rattle.definitions.specs.Bytes.{Bytes}
use Rattle.definitions.specs.Lists.{Among, AreDistinct}
use Rattle.definitions.specs.Frames.{Core, Vote, Certificate}
use Rattle.definitions.specs.Frames as frame
use Rattle.definitions.specs.FrameLimits.{IsCore, IsVote, IsCertificate, IsFrame, Rise}
use Rattle.definitions.specs.Checks.{Identity, vote_verifies, counted_voters, is_genesis, is_good, findings}
use Rattle.definitions.specs.Rulings.{Input}
use Rattle.definitions.specs.Admission.{passes, rejected, when, own_tag_verifies}
use Rattle.definitions.proofs.Sound.{IsChecked}

pub when-good : (ok : Bool) (i j : Input) → when ok i ≡ passes j → (ok ≡ true) × (i ≡ j)
when-good true i j e = (refl, cc)
when-good false i j e = absurd (apart e)
  where
    apart : rejected fault.BadTag ≡ passes j → ⊥
    apart h = cc

-- votes by number of voter
abbrev EachAbove : ℕ → List Vote → Type 0
EachAbove v [] = ⊤
EachAbove v (b ∷ bs) = (v < b.voter) × EachAbove v bs

abbrev AreVotes : ℕ → List Vote → Type 0
AreVotes n [] = ⊤
AreVotes n (b ∷ bs) = (b.voter < n) × EachAbove b.voter bs × AreVotes n bs

rise-above : (v : ℕ) (b : Vote) (bs : List Vote) → v < b.voter → Rise (b ∷ bs) → EachAbove v (b ∷ bs)
rise-above v b [] l r = (l, tt)
rise-above v b (c ∷ bs) l r = (l, rise-above v c bs (let k = r.0 in omega (arith, l, k)) r.1)

are-votes : (s : Sizes) (bs : List Vote) → AllByRecursion (IsVote s) bs → Rise bs → AreVotes (replicas s) bs
are-votes s [] h r = tt
are-votes s (b ∷ []) h r = (h.0.voter, tt, tt)
are-votes s (b ∷ c ∷ bs) h r = (h.0.voter, rise-above b.voter c bs r.0 r.1, are-votes s (c ∷ bs) h.1 r.1)

-- the voters of votes in rising order are distinct, whichever are kept
kept-above-step : (p : Vote → Bool) (v : ℕ) (b : Vote) (bs : List Vote) → v < b.voter
    → ((x : ℕ) → Among x (map (λ b. b.voter) (filter p bs)) → v < x) → (t : Bool) → (x : ℕ)
    → Among x (map (λ b. b.voter) (cond t (b ∷ filter p bs) (filter p bs))) → v < x
kept-above-step p v b bs h rest true x (inl e) = subst (λ (y : ℕ). v < y) (sym e) h
kept-above-step p v b bs h rest true x (inr k) = rest x k
kept-above-step p v b bs h rest false x k = rest x k

kept-above : (p : Vote → Bool) (v : ℕ) (bs : List Vote) → EachAbove v bs → (x : ℕ)
    → Among x (map (λ b. b.voter) (filter p bs)) → v < x
kept-above p v [] h x m = absurd m
kept-above p v (b ∷ bs) h x m = kept-above-step p v b bs h.0 (λ y k. kept-above p v bs h.1 y k) (p b) x m

kept-distinct-step : (p : Vote → Bool) (b : Vote) (bs : List Vote)
    → (Among b.voter (map (λ b. b.voter) (filter p bs)) → ⊥)
    → AreDistinct (map (λ b. b.voter) (filter p bs)) → (t : Bool)
    → AreDistinct (map (λ b. b.voter) (cond t (b ∷ filter p bs) (filter p bs)))
kept-distinct-step p b bs h d true = (h, d)
kept-distinct-step p b bs h d false = d

kept-distinct : (p : Vote → Bool) (n : ℕ) (bs : List Vote) → AreVotes n bs
    → AreDistinct (map (λ b. b.voter) (filter p bs))
kept-distinct p n [] h = tt
kept-distinct p n (b ∷ bs) h =
    kept-distinct-step p b bs (λ k. let l = kept-above p b.voter bs h.1 b.voter k in omega (arith, l))
    (kept-distinct p n bs h.2) (p b)

kept-within-step : (p : Vote → Bool) (n : ℕ) (b : Vote) (bs : List Vote) → b.voter < n
    → AllByRecursion (λ v. v < n) (map (λ b. b.voter) (filter p bs)) → (t : Bool)
    → AllByRecursion (λ v. v < n) (map (λ b. b.voter) (cond t (b ∷ filter p bs) (filter p bs)))
kept-within-step p n b bs h d true = (h, d)
kept-within-step p n b bs h d false = d

kept-within : (p : Vote → Bool) (n : ℕ) (bs : List Vote) → AreVotes n bs
    → AllByRecursion (λ v. v < n) (map (λ b. b.voter) (filter p bs))
kept-within p n [] h = tt
kept-within p n (b ∷ bs) h = kept-within-step p n b bs h.0 (kept-within p n bs h.2) (p b)

-- a good certificate is that of genesis, or a quorum of its voters is counted
good-either : (self : Identity) (q : Certificate) → is_good self q ≡ true
    → (is_genesis q.digest ≡ true) ⊎ (quorum self.sizes ≤ length (counted_voters self q))
unfolding is_good
good-either self q g =
    elim (cases_Bool (is_genesis q.digest)) [
      | inl k ↦ inl k
      | inr k ↦ inr (leb-true _ _ (sym (cond-false _ _ _ k) ∙ g))
    ]

-- what is known of a certificate and a core at these sizes, where the certificate is good
pub block-checked : (self : Identity) (core : Core) (q : Certificate) → IsCore self.sizes core
    → IsCertificate self.sizes q → is_good self q ≡ true
    → IsChecked self.sizes core q (findings self core q)
unfolding counted_voters
block-checked self core q k c g = record {
  below = k.justify_height;
  distinct = kept-distinct (vote_verifies self q.digest) (replicas self.sizes) q.votes
      (are-votes self.sizes q.votes c.votes c.rising);
  voters = kept-within (vote_verifies self q.digest) (replicas self.sizes) q.votes
      (are-votes self.sizes q.votes c.votes c.rising);
  good = good-either self q g;
}

-- so is it of a proposal that passes
pub proposal-checked : (self : Identity) (view : ℕ) (core : Core) (q : Certificate) (v : Bytes)
    → IsFrame self.sizes (frame.proposal view core q v)
    → own_tag_verifies self (frame.proposal view core q v) && is_good self q ≡ true
    → IsChecked self.sizes core q (findings self core q)
proposal-checked self view core q v fr ok = block-checked self core q fr.1 fr.2 (and_parts _ _ ok).1
