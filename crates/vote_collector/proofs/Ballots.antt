-- Votes by number of voter, and what one more vote of a block is.
use Rattle.std.proofs.Common.{ℕ, suc, ◌≡◌, ◌+◌, ◌<◌, ◌==◌, ◌&&◌, ◌||◌, Bool, true, false, not, cond, Option}
use Rattle.std.proofs.Common.{Some, None, List, [], ◌∷◌, length, refl, sym, ap, ◌∙◌, arith, nat_lt}
use Rattle.std.proofs.Common.{bytes_eq, true≢false}
use Rattle.std.specs.List.{list_any}
use Rattle.std.proofs.lemmas.Bool.{cond_both, cond-true, cond-false, eqb-true, lt-ltb, le-ltb, ne_eqb}
use Rattle.std.proofs.lemmas.Slice.Eq.{bytes_eq-Decides}
use Rattle.ids.specs.Sizes.{Sizes, quorum}
use Rattle.definitions.specs.Bytes.{Bytes}
use Rattle.definitions.specs.Frames.{Vote}
use Rattle.definitions.specs.Branches.{Branch, branch_eq}
use Rattle.definitions.proofs.Branches.{branch_eq-decides}
use Rattle.definitions.specs.Digests.{digest_of}
use Rattle.definitions.specs.Chronicles.{Chronicle, Step.noted, Note.got_vote}
use Rattle.definitions.specs.States.{votes, insert_vote, by_voter, raised, Justified, higher}
use Rattle.vote_collector.specs.declared.added.Added.{Added}
use Rattle.vote_collector.specs.declared.added.Added.TheVariants.{First, Doubled, Complete}
use Rattle.vote_collector.specs.Collecting.{has_voter, judged}

-- ---- a test of each vote, whatever their order

swap : (a b c : Bool) → (a || (b || c)) ≡ (b || (a || c))
swap true true c = refl
swap true false c = refl
swap false true c = refl
swap false false c = refl

any-insert : (p : Vote → Bool) (b : Vote) (xs : List Vote)
    → list_any p (insert_vote b xs) ≡ (p b || list_any p xs)
unfolding insert_vote
any-insert p b [] = refl
any-insert p b (x ∷ xs) =
    cond_both (nat_lt b.voter x.voter) (b ∷ x ∷ xs) (x ∷ insert_vote b xs)
    (λ (l : List Vote). list_any p l ≡ (p b || (p x || list_any p xs)))
    (λ e. refl) (λ e. ap (λ (t : Bool). p x || t) (any-insert p b xs) ∙ swap (p x) (p b) (list_any p xs))

pub any-by_voter : (p : Vote → Bool) (xs : List Vote) → list_any p (by_voter xs) ≡ list_any p xs
unfolding by_voter
any-by_voter p [] = refl
any-by_voter p (x ∷ xs) = any-insert p x (by_voter xs) ∙ ap (λ (t : Bool). p x || t) (any-by_voter p xs)

-- ---- one more vote

-- what a judgement says
abbrev pub Says : ℕ → ℕ → List Vote → Added → Type 0
Says most voter xs First = (has_voter voter xs ≡ false) × (length xs + 1 ≡ most → ⊥)
Says most voter xs Doubled = has_voter voter xs ≡ true
Says most voter xs Complete = (has_voter voter xs ≡ false) × (length xs + 1 ≡ most)

pub judged-says : (most voter : ℕ) (xs : List Vote) → Says most voter xs (judged most voter xs)
judged-says most voter xs =
    cond_both (has_voter voter xs) Doubled (cond (length xs + 1 == most) Complete First) (Says most voter xs)
    (λ e. e)
    (λ e. cond_both (length xs + 1 == most) Complete First (Says most voter xs)
    (λ full. (e, eqb-true (length xs + 1) most full))
    (λ few. (e, λ full. true≢false (sym (same_eqb (length xs + 1) most full) ∙ few))))
  where
    same_eqb : (a b : ℕ) → a ≡ b → (a == b) ≡ true
    same_eqb a b e = grind (arith, e)

pub same_digest : (d : Bytes) → bytes_eq d d ≡ true
same_digest d = (bytes_eq-Decides d d).1 refl

same_branch : (b : Branch) → branch_eq b b ≡ true
same_branch b = (branch_eq-decides b b).1 refl

-- blocks of other digests are other blocks
pub other_branch : (b x : Branch) → bytes_eq (digest_of b) (digest_of x) ≡ false → branch_eq b x ≡ false
other_branch b x other = by (branch_eq b x) refl
  where
    by : (t : Bool) → branch_eq b x ≡ t → t ≡ false
    by false e = refl
    by true e = absurd (true≢false (sym ((bytes_eq-Decides (digest_of b) (digest_of x)).1
        (ap digest_of ((branch_eq-decides b x).0 e))) ∙ other))

module _ (s : Sizes) (c : Chronicle) (voter : ℕ) (v : Bytes) (b : Branch) where
  abbrev pub vote_of_it : Vote
  vote_of_it = record { voter = voter; vector = v }

  -- votes for other blocks stay
  pub votes-other : (x : Branch) → branch_eq b x ≡ false
      → votes s x (noted (got_vote voter v b) ∷ c) ≡ votes s x c
  unfolding votes
  votes-other x other =
      ap (λ (t : Bool). cond (t
      && (not (list_any (λ (y : Vote). y.voter == voter) (votes s x c)) && nat_lt
      (length (votes s x c)) (quorum s))) (vote_of_it ∷ votes s x c) (votes s x c)) other

  -- a second vote isn't kept
  pub votes-doubled : has_voter voter (votes s b c) ≡ true
      → votes s b (noted (got_vote voter v b) ∷ c) ≡ votes s b c
  unfolding votes
  votes-doubled doubled =
      let xs = votes s b c in
      ap (λ (t : Bool). cond
      (t && (not (list_any (λ (x : Vote). x.voter == voter) xs) && nat_lt (length xs) (quorum s)))
      (vote_of_it ∷ xs) xs) (same_branch b)
      ∙ ap (λ (t : Bool). cond (not t && nat_lt (length xs) (quorum s)) (vote_of_it ∷ xs) xs) doubled

  -- a first one is, below a quorum
  pub votes-first : has_voter voter (votes s b c) ≡ false
      → length (votes s b c) < quorum s
      → votes s b (noted (got_vote voter v b) ∷ c) ≡ vote_of_it ∷ votes s b c
  unfolding votes
  votes-first first few =
      let xs = votes s b c in
      ap (λ (t : Bool). cond
      (t && (not (list_any (λ (x : Vote). x.voter == voter) xs) && nat_lt (length xs) (quorum s)))
      (vote_of_it ∷ xs) xs) (same_branch b)
      ∙ ap (λ (t : Bool). cond (not t && nat_lt (length xs) (quorum s)) (vote_of_it ∷ xs) xs) first
      ∙ ap (λ (t : Bool). cond t (vote_of_it ∷ xs) xs) (lt-ltb (length xs) (quorum s) few)

  -- what such a step may raise
  abbrev Made : Justified
  Made = record {
    block = b;
    certificate =
        record {
          digest = digest_of b;
          votes = by_voter (votes s b (noted (got_vote voter v b) ∷ c));
        };
  }

  raised-is : raised s (noted (got_vote voter v b)) c
      ≡ cond (nat_lt (length (votes s b c)) (quorum s)
      && (length (votes s b (noted (got_vote voter v b) ∷ c)) == quorum s)) (Some Made) None
  unfolding raised
  raised-is = refl

  higher-lower : (t : Bool) (p q : Justified) → length p.block < suc (length q.block)
      → higher false (cond t (Some p) None) q ≡ q
  higher-lower true p q le = cond-false (nat_lt (length q.block) (length p.block) || false) p q
      (ap (λ (t : Bool). t || false) (le-ltb (length q.block) (length p.block) (omega (arith, le))))
  higher-lower false p q le = refl

  -- nothing that is higher than q, where the block isn't
  pub raised-lower : (q : Justified) → length b < suc (length q.block)
      → higher false (raised s (noted (got_vote voter v b)) c) q ≡ q
  raised-lower q le =
      ap (λ (o : Option Justified). higher false o q) raised-is
      ∙ higher-lower (nat_lt (length (votes s b c)) (quorum s)
      && (length (votes s b (noted (got_vote voter v b) ∷ c)) == quorum s)) Made q le

  both_false : (a t : Bool) → t ≡ false → (a && t) ≡ false
  both_false true t e = e
  both_false false t e = refl

  -- nothing, where it doesn't make a quorum
  pub raised-none : (length (votes s b (noted (got_vote voter v b) ∷ c)) ≡ quorum s → ⊥)
      → raised s (noted (got_vote voter v b)) c ≡ None
  raised-none few =
      raised-is
      ∙ cond-false _ (Some Made) None (both_false (nat_lt (length (votes s b c)) (quorum s))
      (length (votes s b (noted (got_vote voter v b) ∷ c)) == quorum s)
      (ne_eqb (length (votes s b (noted (got_vote voter v b) ∷ c))) (quorum s) few))

  -- the certificate of a quorum
  pub raised-made : has_voter voter (votes s b c) ≡ false
      → length (votes s b c) + 1 ≡ quorum s
      → raised s (noted (got_vote voter v b)) c
      ≡ Some (record {
        block = b;
        certificate =
            record {
              digest = digest_of b;
              votes = insert_vote vote_of_it (by_voter (votes s b c));
            };
      })
  unfolding by_voter
  raised-made first full =
      let xs = votes s b c in
      let now = votes-first first (omega (arith, full)) in
      let count : (length (votes s b (noted (got_vote voter v b) ∷ c)) == quorum s) ≡ true =
      same_eqb _ _ (ap length now ∙ more (length xs) (quorum s) full) in
      raised-is
      ∙ cond-true _ (Some Made) None (both_true (nat_lt (length xs) (quorum s)) _
      (lt-ltb (length xs) (quorum s) (omega (arith, full))) count)
      ∙ ap (λ (l : List Vote). Some
      (record { block = b; certificate = record { digest = digest_of b; votes = by_voter l } })) now
    where
      same_eqb : (a b : ℕ) → a ≡ b → (a == b) ≡ true
      same_eqb a b e = grind (arith, e)

      more : (n m : ℕ) → n + 1 ≡ m → suc n ≡ m
      more n m e = omega (arith, e)

      both_true : (a t : Bool) → a ≡ true → t ≡ true → (a && t) ≡ true
      both_true true t e f = f
      both_true false t e f = absurd (true≢false (sym e))
