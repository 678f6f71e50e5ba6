-- What a collector keeps of its replica's chronicle, step by step.
use Rattle.std.proofs.Common.{ℕ, ◌≡◌, ◌<◌, true, Some, None, [], ◌∷◌, length, refl, sym, ap, subst, ◌∙◌, arith}
use Rattle.std.proofs.Common.{nat_lt, bytes_eq}
use Rattle.std.specs.List.{AllByRecursion}
use Rattle.std.proofs.lemmas.Bool.{cond-true, lt-ltb}
use Rattle.ids.specs.Sizes.{Sizes}
use Rattle.definitions.specs.Bytes.{Bytes}
use Rattle.definitions.specs.Lists.{Among}
use Rattle.definitions.specs.Frames.{Vote}
use Rattle.definitions.specs.Branches.{Branch}
use Rattle.definitions.specs.Digests.{digest_of}
use Rattle.definitions.specs.Trees.{IsTree}
use Rattle.definitions.specs.Chronicles.{Chronicle, Step, Step.noted, Note.got_vote, Note.led_from, horizon}
use Rattle.definitions.specs.Chronicles.{window, IsLawful}
use Rattle.definitions.specs.States.{Justified, qc_high}
use Rattle.definitions.proofs.Horizons.{horizon-certified}
use Rattle.definitions.proofs.Trees.{found-in}
use Rattle.definitions.proofs.Chronicles.{tree-grows}
use Rattle.definitions.proofs.Certificates.{all-implied, filter-all}
use Rattle.vote_collector.specs.Collecting.{Entry, VotesByDigest, entry_for, with_vote, kept_above}
use Rattle.vote_collector.specs.Following.{IsVotesOf, IsOfBlock, certified}
use Rattle.vote_collector.specs.Lawful.{Leaves, FollowsVote, BeginsEmpty, IsFollowedAtVote, IsFollowedAtLead}
use Rattle.vote_collector.specs.Lawful.{IsFollowedElse, NoneAreLow, made_with}
use Rattle.vote_collector.proofs.Entries.{Seen, seen, entry_with, seen_with, seen_above, seen-with}
use Rattle.vote_collector.proofs.Entries.{seen-above, all-found, all-with, all-above}
use Rattle.vote_collector.proofs.Ballots.{same_digest}
use Rattle.vote_collector.proofs.Seen.{IsVotesIn, IsLeft, tree-none, votes-none, left-none, one-high, seen-else}
use Rattle.vote_collector.proofs.Seen.{low-vote, doubled-vote, first-vote, complete-vote}

-- ---- a step

-- an entry of a chronicle
abbrev OfBlock : Sizes → Chronicle → Bytes × Entry → Type 0
OfBlock s c e = IsOfBlock s c e.0 e.1

into : (s : Sizes) (c : Chronicle) (kept : VotesByDigest) → IsVotesOf s c kept → IsVotesIn s c (seen kept)
into s c kept of = record {
  above = of.above;
  alone = λ d e is. all-found (OfBlock s c) kept d e of.alone is;
  unknown = of.unknown;
}

back : (s : Sizes) (c : Chronicle) (kept : VotesByDigest) (other : Seen)
    → ((x : Bytes) → other x ≡ seen kept x)
    → IsVotesIn s c other → AllByRecursion (OfBlock s c) kept → IsVotesOf s c kept
back s c kept other is of all =
    let w : IsVotesIn s c (seen kept) = subst (IsVotesIn s c) (λ i x. is x i) of in
    record { above = w.above; alone = all; unknown = w.unknown }

module _ (s : Sizes) (st : Step) (c : Chronicle) (kept : VotesByDigest) (law : IsLawful s c)
    (of : IsVotesOf s c kept) where
  next-one : (e : Bytes × Entry) → OfBlock s c e → certified s (st ∷ c) < e.1.height → OfBlock s (st ∷ c) e
  next-one e w l = record {
    block = w.block;
    among = tree-grows st c w.block w.among;
    its_digest = w.its_digest;
    its_height = w.its_height;
    higher = omega (arith, l, w.its_height);
  }

  -- where the highest certificate stays
  next-all : qc_high s (st ∷ c) ≡ qc_high s c → AllByRecursion (OfBlock s (st ∷ c)) kept
  next-all stays =
      all-implied (OfBlock s c) (OfBlock s (st ∷ c))
      (λ e w. next-one e w (let h =
      ap (λ (q : Justified). length q.block) stays in omega (arith, h, w.higher, w.its_height))) kept
      of.alone

  one-height : IsTree (horizon c) (window c) → (x y : Bytes × Entry) → OfBlock s c x → OfBlock s c y
      → x.0 ≡ y.0 → x.1.height ≡ y.1.height
  one-height tr x y v w e =
      v.its_height
      ∙ ap (λ (b : Branch). length b) (one-high s c (horizon-certified s c law) tr v.block w.block v.among w.among v.higher w.higher
      (v.its_digest ∙ e ∙ sym w.its_digest)) ∙ sym w.its_height

  -- dropping, up to a height that no higher block has
  dropped : IsTree (horizon c) (window c) → (height : ℕ) → certified s (st ∷ c) ≡ height
      → IsVotesIn s (st ∷ c) (seen_above height (seen kept)) → IsVotesOf s (st ∷ c) (kept_above height kept)
  dropped tr height is w =
      back s (st ∷ c) (kept_above height kept) (seen_above height (seen kept))
      (λ x. sym (seen-above (OfBlock s c) (one-height tr) height x kept of.alone)) w
      (all-above (OfBlock s c) (OfBlock s (st ∷ c)) height (λ e v l. next-one e v (omega (arith, l, is)))
      kept of.alone)

pub followed-else : (s : Sizes) (c : Chronicle) (kept : VotesByDigest) → IsFollowedElse s c kept
followed-else s c kept st silent law old tr of =
    dropped s st c kept law of old (certified s (st ∷ c)) refl
    (seen-else s c (seen kept) st silent law old tr (into s c kept of))

-- ---- a lead

pub followed-lead : (s : Sizes) (c : Chronicle) (b : Branch) → IsFollowedAtLead s c b
followed-lead s c b =
    back s (noted (led_from b) ∷ c) [] (λ d. None) (λ x. refl) (left-none s b c) tt

-- ---- a vote

module _ (s : Sizes) (c : Chronicle) (kept : VotesByDigest) (b : Branch) (vote : Vote)
    (law : IsLawful s c) (tr : IsTree (horizon c) (window c)) (m : Among b (window c))
    (of : IsVotesOf s c kept) where
  abbrev step : Step
  step = noted (got_vote vote.voter vote.vector b)

  unchanged : IsLeft s (step ∷ c) (seen kept) (qc_high s c) → Leaves s (step ∷ c) kept (qc_high s c)
  unchanged l = (back s (step ∷ c) kept (seen kept) (λ x. refl) l.0 (next-all s step c kept law of l.1), l.1)

  more : IsLeft s (step ∷ c) (seen_with (digest_of b) (length b) vote (seen kept)) (qc_high s c)
      → Leaves s (step ∷ c) (with_vote (digest_of b) (length b) vote kept) (qc_high s c)
  more l =
      let d = digest_of b in
      let e = entry_with (length b) vote (entry_for d kept) in
      let new : OfBlock s (step ∷ c) (d, e) =
      l.0.alone d e (cond-true (bytes_eq d d) (Some e) (entry_for d kept) (same_digest d)) in (
        back s (step ∷ c) (with_vote d (length b) vote kept) (seen_with d (length b) vote (seen kept))
            (λ x. sym (seen-with d (length b) vote kept x)) l.0
            (all-with (OfBlock s (step ∷ c)) kept d (length b) vote new (next-all s step c kept law of l.1)),
        l.1,
      )

  fewer : IsLeft s (step ∷ c) (seen_above (length b) (seen kept))
      (record { block = b; certificate = made_with (digest_of b) vote kept })
      → Leaves s (step ∷ c) (kept_above (length b) kept)
      (record { block = b; certificate = made_with (digest_of b) vote kept })
  fewer l = (
    dropped s step c kept law of tr (length b) (ap (λ (q : Justified). length q.block) l.1) l.0,
    l.1,
  )

  at-digest : FollowsVote s c kept (digest_of b) b vote
  at-digest = record {
    low = λ le. unchanged (low-vote s c (seen kept) b vote law tr m (into s c kept of) le);
    doubled =
        λ l judgement. unchanged (doubled-vote s c (seen kept) b vote law tr m (into s c kept of) l judgement);
    first = λ l judgement. more (first-vote s c (seen kept) b vote law tr m (into s c kept of) l judgement);
    complete =
        λ l judgement. fewer (complete-vote s c (seen kept) b vote law tr m (into s c kept of) l judgement);
  }

pub followed-vote : (s : Sizes) (c : Chronicle) (kept : VotesByDigest) → IsFollowedAtVote s c kept
followed-vote s c kept d b vote law tr found of =
    let r = found-in d (window c) b found in
    subst (λ (x : Bytes). FollowsVote s c kept x b vote) r.1 (at-digest s c kept b vote law tr r.0 of)

-- ---- at the start, and where nothing is low

pub none-low : (s : Sizes) (c : Chronicle) (kept : VotesByDigest) → NoneAreLow s c kept
none-low s c kept height of le =
    filter-all (λ (e : Bytes × Entry). nat_lt height e.1.height) kept
    (all-implied (OfBlock s c) (λ (e : Bytes × Entry). nat_lt height e.1.height ≡ true)
    (λ e w. lt-ltb height e.1.height (omega (arith, le, w.higher, w.its_height))) kept of.alone)

pub begins-empty : (s : Sizes) → BeginsEmpty s
begins-empty s = record {
  above = λ b m l. absurd (let e = ap (λ (x : Branch). length x) (tree-none b m) in omega (arith, e, l));
  alone = tt;
  unknown = λ b none. votes-none s b;
}
