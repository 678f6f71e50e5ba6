-- What is kept of a replica's chronicle, step by step, where it is seen as a function of the digest.
use Rattle.std.proofs.Common.{ℕ, suc, ◌≡◌, ◌+◌, ◌<◌, ◌≤◌, ◌==◌, ◌||◌, inl, inr, Bool, true, false, Option, Some}
use Rattle.std.proofs.Common.{None, List, [], ◌∷◌, length, refl, sym, ap, subst, ◌∙◌, arith, nat_lt}
use Rattle.std.proofs.Common.{bytes_eq}
use Rattle.std.proofs.lemmas.Bool.{cond-true, cond-false, lt-ltb, ltb-true, cases_lt}
use Rattle.std.proofs.lemmas.Slice.Eq.{bytes_eq-Decides}
use Rattle.ids.specs.Sizes.{Sizes, quorum}
use Rattle.definitions.specs.Bytes.{Bytes}
use Rattle.definitions.specs.Lists.{Among}
use Rattle.definitions.specs.Frames.{Vote}
use Rattle.definitions.specs.Branches.{Branch, branch_eq}
use Rattle.definitions.proofs.Branches.{branch_eq-decides}
use Rattle.definitions.proofs.Horizons.{window-tree, tree-window, window-cases, window-genesis}
use Rattle.definitions.proofs.Horizons.{higher-rises, qc_high-cases, horizon-before, horizon-certified}
use Rattle.definitions.proofs.Horizons.{executed-locked, lock-certified}
use Rattle.definitions.specs.Digests.{digest_of}
use Rattle.definitions.specs.Trees.{find_in, IsTree}
use Rattle.definitions.specs.Chronicles.{Chronicle, Step, Note, Step.took_block, Step.noted, Note.got_vote}
use Rattle.definitions.specs.Chronicles.{Note.got_new_view, Note.got_request, Note.got_fetch}
use Rattle.definitions.specs.Chronicles.{Note.timed_out, Note.beat, Note.pruned, Note.seen_view}
use Rattle.definitions.specs.Chronicles.{Note.led_from, Admitted, stored_blocks, taken_blocks, tree}
use Rattle.definitions.specs.Chronicles.{horizon, standing_blocks, window, IsLawful}
use Rattle.definitions.specs.States.{Justified, votes, by_voter, insert_vote, raised, comes_whole}
use Rattle.definitions.specs.States.{higher, qc_high}
use Rattle.definitions.proofs.Trees.{found-in, not-found}
use Rattle.definitions.proofs.Chronicles.{tree-grows}
use Rattle.definitions.proofs.Certificates.{length-by_voter}
use Rattle.vote_collector.specs.declared.added.Added.{Added}
use Rattle.vote_collector.specs.declared.added.Added.TheVariants.{First, Doubled, Complete}
use Rattle.vote_collector.specs.Collecting.{Entry, votes_in, has_voter, judged}
use Rattle.vote_collector.specs.Following.{AreCollected, IsOfBlock, certified}
use Rattle.vote_collector.specs.Lawful.{LeavesVotes}
use Rattle.vote_collector.proofs.Entries.{Seen, entry_with, votes-with, seen_with, votes_at, entry_above}
use Rattle.vote_collector.proofs.Entries.{seen_above}
use Rattle.vote_collector.proofs.Ballots.{Says, any-by_voter, judged-says, same_digest, votes-other}
use Rattle.vote_collector.proofs.Ballots.{other_branch}
use Rattle.vote_collector.proofs.Ballots.{votes-doubled, votes-first, raised-lower, raised-none}
use Rattle.vote_collector.proofs.Ballots.{raised-made}

-- these are the votes of a replica of this chronicle
pub record IsVotesIn (s : Sizes) (c : Chronicle) (kept : Seen) : Type 0 where
  pub above : (b : Branch) → Among b (tree c) → certified s c < length b
      → AreCollected s c (votes_at (digest_of b) kept) b
  pub alone : (d : Bytes) (e : Entry) → kept d ≡ Some e → IsOfBlock s c d e
  pub unknown : (b : Branch) → (Among b (tree c) → ⊥) → votes s b c ≡ []

-- so they are, with this highest certificate
abbrev pub IsLeft : Sizes → Chronicle → Seen → Justified → Type 0
IsLeft s c kept q = IsVotesIn s c kept × (qc_high s c ≡ q)

none≢some : {A : Type 0} (x : A) → None ≡ Some x → ⊥
none≢some x e = cc

height_in : Option Entry → ℕ
height_in None = 0
height_in (Some e) = e.height

height_of : (x y : Entry) → Some x ≡ Some y → x.height ≡ y.height
unfolding height_in
height_of x y e = ap height_in e

-- ---- dropping

-- what is above the height stays
above-stays : (h : ℕ) (e : Entry) → h < e.height → entry_above h (Some e) ≡ Some e
above-stays h e l = cond-true (nat_lt h e.height) (Some e) None (lt-ltb h e.height l)

-- what stays is above the height
stays-above : (h : ℕ) (o : Option Entry) (e : Entry) → entry_above h o ≡ Some e
    → (o ≡ Some e) × (h < e.height)
stays-above h None e is = absurd (none≢some e is)
stays-above h (Some x) e is = go (nat_lt h x.height) refl
  where
    go : (t : Bool) → nat_lt h x.height ≡ t → (Some x ≡ Some e) × (h < e.height)
    go true lt =
        let same : Some x ≡ Some e = sym (cond-true (nat_lt h x.height) (Some x) None lt) ∙ is in
        (same, (let k = height_of x e same in let w = ltb-true h x.height lt in omega (arith, w, k)))
    go false le = absurd (none≢some e (sym (cond-false (nat_lt h x.height) (Some x) None le) ∙ is))

module _ (s : Sizes) (c : Chronicle) (kept : Seen) (of : IsVotesIn s c kept) where
  -- nothing is as low as the highest certificate's block
  above-all : (h : ℕ) → h ≤ certified s c → (d : Bytes) → entry_above h (kept d) ≡ kept d
  above-all h le d = go (kept d) refl
    where
      go : (o : Option Entry) → kept d ≡ o → entry_above h o ≡ o
      go None e = refl
      go (Some x) e = let w = of.alone d x e in above-stays h x (omega (arith, w.higher, w.its_height, le))

-- ---- at the start

pub tree-none : (b : Branch) → Among b (tree []) → b ≡ []
unfolding tree stored_blocks taken_blocks
tree-none b (inl e) = e
tree-none b (inr m) = absurd m

pub votes-none : (s : Sizes) (b : Branch) → votes s b [] ≡ []
unfolding votes
votes-none s b = refl

by_voter-none : [] ≡ by_voter []
unfolding by_voter
by_voter-none = refl

-- ---- after a lead

votes-led : (s : Sizes) (b : Branch) (c : Chronicle) (x : Branch) → votes s x (noted (led_from b) ∷ c) ≡ []
unfolding votes
votes-led s b c x = refl

pub left-none : (s : Sizes) (b : Branch) (c : Chronicle) → IsVotesIn s (noted (led_from b) ∷ c) (λ d. None)
left-none s b c = record {
  above = λ x m l. record {
    same = by_voter-none ∙ ap by_voter (sym (votes-led s b c x));
    few = let n = ap (λ (l : List Vote). length l) (votes-led s b c x) in omega (arith, n);
  };
  alone = λ d e is. absurd (none≢some e is);
  unknown = λ x none. votes-led s b c x;
}

-- ---- the window

-- a block above the highest certificate's, where that isn't below the horizon
above-window : (s : Sizes) (c : Chronicle) → horizon c ≤ certified s c → (x : Branch) → Among x (tree c)
    → certified s c < length x → Among x (window c)
above-window s c low x m l = tree-window c x m (omega (arith, low, l))

-- of such blocks each digest has one
pub one-high : (s : Sizes) (c : Chronicle) → horizon c ≤ certified s c → IsTree (horizon c) (window c)
    → (x y : Branch) → Among x (tree c) → Among y (tree c) → certified s c < length x
    → certified s c < length y → digest_of x ≡ digest_of y → x ≡ y
one-high s c low tr x y m n l k e = tr.one x y (above-window s c low x m l) (above-window s c low y n k) e

-- a block that is taken takes nothing out
window-took : (a : Admitted) (c : Chronicle) (y : Branch) → Among y (window c)
    → Among y (window (took_block a ∷ c))
unfolding horizon
window-took a c y m =
    elim (window-cases c y m) [
      | inl e ↦ subst (λ (x : Branch). Among x (window (took_block a ∷ c))) (sym e)
          (window-genesis (took_block a ∷ c))
      | inr r ↦ tree-window (took_block a ∷ c) y (tree-grows (took_block a) c y r.0) r.1
    ]

-- ---- one step

-- a vote
vote-next : (s : Sizes) (voter : ℕ) (v : Bytes) (b : Branch) (c : Chronicle)
    → qc_high s (noted (got_vote voter v b) ∷ c)
    ≡ higher false (raised s (noted (got_vote voter v b)) c) (qc_high s c)
unfolding qc_high
vote-next s voter v b c = refl

vote-rises : (s : Sizes) (voter : ℕ) (v : Bytes) (b : Branch) (c : Chronicle)
    → certified s c ≤ certified s (noted (got_vote voter v b) ∷ c)
vote-rises s voter v b c =
    let e = ap (λ (q : Justified). length q.block) (vote-next s voter v b c) in
    let r = higher-rises false (raised s (noted (got_vote voter v b)) c) (qc_high s c) in
    omega (arith, e, r)

-- a step that is neither vote nor lead
silent-rises : (s : Sizes) (st : Step) (c : Chronicle) → LeavesVotes st
    → certified s c ≤ certified s (st ∷ c)
silent-rises s st c silent =
    elim (qc_high-cases s st c) [
      | inl led ↦ absurd (subst LeavesVotes led.1 silent)
      | inr e ↦
          let h = ap (λ (q : Justified). length q.block) e in
          let r = higher-rises (comes_whole st) (raised s st c) (qc_high s c) in
          omega (arith, h, r)
    ]

-- after a step that lowers no highest certificate, it isn't below the horizon
low-next : (s : Sizes) (st : Step) (c : Chronicle) → IsLawful s c → certified s c ≤ certified s (st ∷ c)
    → horizon (st ∷ c) ≤ certified s (st ∷ c)
low-next s st c law rises =
    let h = horizon-before st c in
    let e = executed-locked c in
    let l = lock-certified s c law in
    omega (arith, h, e, l, rises)

module _ (s : Sizes) (st : Step) (c : Chronicle) (kept : Seen) (law : IsLawful s c)
    (rises : certified s c ≤ certified s (st ∷ c)) (of : IsVotesIn s c kept) where
  -- what stays is of a block of the tree
  alone-next : (new : Seen) (d : Bytes) (e : Entry) → new d ≡ entry_above (certified s (st ∷ c)) (kept d)
      → new d ≡ Some e → IsOfBlock s (st ∷ c) d e
  alone-next new d e is some =
      let both = stays-above (certified s (st ∷ c)) (kept d) e (sym is ∙ some) in
      let w = of.alone d e both.0 in
      record {
        block = w.block;
        among = tree-grows st c w.block w.among;
        its_digest = w.its_digest;
        its_height = w.its_height;
        higher = omega (arith, both.1, w.its_height);
      }

  module _ (old : IsTree (horizon c) (window c)) (tr : IsTree (horizon (st ∷ c)) (window (st ∷ c)))
      (x : Branch) (above : certified s (st ∷ c) < length x) where
    -- the votes for a higher block stay
    votes-stay : Among x (tree c)
        → votes_at (digest_of x) (seen_above (certified s (st ∷ c)) kept) ≡ votes_at (digest_of x) kept
    votes-stay m = go (kept (digest_of x)) refl
      where
        go : (o : Option Entry) → kept (digest_of x) ≡ o
            → votes_in (entry_above (certified s (st ∷ c)) o) ≡ votes_in o
        go None e = refl
        go (Some y) e =
            let w = of.alone (digest_of x) y e in
            let same : w.block ≡ x =
            one-high s c (horizon-certified s c law) old w.block x w.among m w.higher (omega (arith, rises, above)) w.its_digest in
            ap votes_in (above-stays (certified s (st ∷ c)) y
            (let h = ap (λ (z : Branch). length z) same in omega (arith, above, h, w.its_height)))

    above-next : (new : Seen) → Among x (tree c)
        → new (digest_of x) ≡ entry_above (certified s (st ∷ c)) (kept (digest_of x))
        → votes s x (st ∷ c) ≡ votes s x c
        → AreCollected s (st ∷ c) (votes_at (digest_of x) new) x
    above-next new m is same =
        let w = of.above x m (omega (arith, rises, above)) in
        record {
          same = ap votes_in is ∙ votes-stay m ∙ w.same ∙ ap by_voter (sym same);
          few = let n = ap (λ (l : List Vote). length l) same in omega (arith, n, w.few);
        }

    -- no votes were there for a block that is new
    above-new : (Among x (tree c) → ⊥) → Among x (tree (st ∷ c)) → votes s x (st ∷ c) ≡ votes s x c
        → AreCollected s (st ∷ c) (votes_at (digest_of x) (seen_above (certified s (st ∷ c)) kept)) x
    above-new none m same =
        let no_votes : votes s x (st ∷ c) ≡ [] = same ∙ of.unknown x none in
        record {
          same = go (kept (digest_of x)) refl ∙ by_voter-none ∙ ap by_voter (sym no_votes);
          few = let n = ap (λ (l : List Vote). length l) no_votes in omega (arith, n);
        }
      where
        some : (y z : Entry) → kept (digest_of x) ≡ Some y → (Some y ≡ Some z)
            × (certified s (st ∷ c) < z.height) → ⊥
        some y z e both =
            let w = of.alone (digest_of x) y e in
            let same_height = height_of y z both.0 in
            let same_block : w.block ≡ x =
            one-high s (st ∷ c) (low-next s st c law rises) tr w.block x (tree-grows st c w.block w.among) m
            (let i = w.its_height in let h = both.1 in omega (arith, i, h, same_height)) above
            w.its_digest in
            none (subst (λ (b : Branch). Among b (tree c)) same_block w.among)

        left : (y : Entry) → kept (digest_of x) ≡ Some y → (p : Option Entry)
            → entry_above (certified s (st ∷ c)) (Some y) ≡ p → votes_in p ≡ []
        left y e None is = refl
        left y e (Some z) is =
            absurd (some y z e (stays-above (certified s (st ∷ c)) (Some y) z is))

        go : (o : Option Entry) → kept (digest_of x) ≡ o
            → votes_in (entry_above (certified s (st ∷ c)) o) ≡ []
        go None e = refl
        go (Some y) e = left y e (entry_above (certified s (st ∷ c)) (Some y)) refl

-- ---- a step that brings no vote

votes-silent : (s : Sizes) (x : Branch) (st : Step) (c : Chronicle) → LeavesVotes st
    → votes s x (st ∷ c) ≡ votes s x c
unfolding votes
votes-silent s x (took_block a) c h = refl
votes-silent s x (noted (got_vote voter v b)) c h = absurd h
votes-silent s x (noted (got_new_view view sender q b)) c h = refl
votes-silent s x (noted (got_request r)) c h = refl
votes-silent s x (noted (got_fetch sender b)) c h = refl
votes-silent s x (noted timed_out) c h = refl
votes-silent s x (noted beat) c h = refl
votes-silent s x (noted (pruned height)) c h = refl
votes-silent s x (noted (seen_view view sender)) c h = refl
votes-silent s x (noted (led_from b)) c h = absurd h

pub tree-noted : (n : Note) (c : Chronicle) → tree (noted n ∷ c) ≡ tree c
unfolding tree stored_blocks taken_blocks
tree-noted n c = refl

pub seen-else : (s : Sizes) (c : Chronicle) (kept : Seen) (st : Step) → LeavesVotes st → IsLawful s c
    → IsTree (horizon c) (window c) → IsTree (horizon (st ∷ c)) (window (st ∷ c)) → IsVotesIn s c kept
    → IsVotesIn s (st ∷ c) (seen_above (certified s (st ∷ c)) kept)
seen-else s c kept st silent law old tr of = record {
  above = λ x m l. above st silent tr x m l;
  alone = λ d e is. alone-next s st c kept law (silent-rises s st c silent) of (seen_above (certified s (st ∷ c)) kept) d e refl is;
  unknown = λ b none. votes-silent s b st c silent ∙ of.unknown b (λ m. none (tree-grows st c b m));
}
  where
    above : (st : Step) → LeavesVotes st → IsTree (horizon (st ∷ c)) (window (st ∷ c)) → (x : Branch)
        → Among x (tree (st ∷ c)) → certified s (st ∷ c) < length x
        → AreCollected s (st ∷ c) (votes_at (digest_of x) (seen_above (certified s (st ∷ c)) kept)) x
    above (noted n) silent tr x m l =
        above-next s (noted n) c kept law (silent-rises s (noted n) c silent) of old tr x l (seen_above (certified s (noted n ∷ c)) kept)
        (subst (λ (t : List Branch). Among x t) (tree-noted n c) m) refl (votes-silent s x (noted n) c silent)
    above (took_block a) silent tr x m l = go (find_in (digest_of x) (window c)) refl
      where
        next : Step
        next = took_block a

        rises : certified s c ≤ certified s (next ∷ c)
        rises = silent-rises s next c silent

        high : certified s c < length x
        high = omega (arith, rises, l)

        go : (o : Option Branch) → find_in (digest_of x) (window c) ≡ o
            → AreCollected s (next ∷ c) (votes_at (digest_of x) (seen_above (certified s (next ∷ c)) kept)) x
        go None e = above-new s next c kept law rises of old tr x l
            (λ k. not-found (digest_of x) (window c) x e
            (above-window s c (horizon-certified s c law) x k high) refl) m
            (votes-silent s x next c silent)
        go (Some y) e =
            let r = found-in (digest_of x) (window c) y e in
            let same : y ≡ x =
            tr.one y x (window-took a c y r.0)
            (above-window s (next ∷ c) (low-next s next c law rises) x m l) r.1 in
            above-next s next c kept law rises of old tr x l (seen_above (certified s (next ∷ c)) kept)
            (subst (λ (z : Branch). Among z (tree c)) same (window-tree c y r.0)) refl
            (votes-silent s x next c silent)

-- ---- a vote

by_voter-more : (b : Vote) (xs : List Vote) → insert_vote b (by_voter xs) ≡ by_voter (b ∷ xs)
unfolding by_voter
by_voter-more b xs = refl

-- neither the horizon nor the window
vote-window : (voter : ℕ) (v : Bytes) (b : Branch) (c : Chronicle) → IsTree (horizon c) (window c)
    → IsTree (horizon (noted (got_vote voter v b) ∷ c)) (window (noted (got_vote voter v b) ∷ c))
unfolding horizon window standing_blocks stored_blocks taken_blocks
vote-window voter v b c tr = tr

module _ (s : Sizes) (c : Chronicle) (kept : Seen) (b : Branch) (vote : Vote)
    (law : IsLawful s c) (tr : IsTree (horizon c) (window c)) (m : Among b (window c))
    (of : IsVotesIn s c kept) where
  -- the step
  abbrev pub it : Step
  it = noted (got_vote vote.voter vote.vector b)

  rising : certified s c ≤ certified s (it ∷ c)
  rising = vote-rises s vote.voter vote.vector b c

  -- a block of the same digest is the same
  known : Among b (tree c)
  known = window-tree c b m

  now_tree : IsTree (horizon (it ∷ c)) (window (it ∷ c))
  now_tree = vote-window vote.voter vote.vector b c tr

  one-block : (x : Branch) → Among x (tree (it ∷ c)) → certified s (it ∷ c) < length x
      → digest_of b ≡ digest_of x → b ≡ x
  one-block x k l e = tr.one b x m
      (above-window s c (horizon-certified s c law) x
      (subst (λ (t : List Branch). Among x t) (tree-noted (got_vote vote.voter vote.vector b) c) k)
      (let rises = rising in omega (arith, rises, l))) e

  after-vote : (new : Seen)
      → ((d : Bytes) → bytes_eq (digest_of b) d ≡ false → new d
      ≡ entry_above (certified s (it ∷ c)) (kept d))
      → (certified s (it ∷ c) < length b → AreCollected s (it ∷ c) (votes_at (digest_of b) new) b)
      → ((e : Entry) → new (digest_of b) ≡ Some e → IsOfBlock s (it ∷ c) (digest_of b) e)
      → IsVotesIn s (it ∷ c) new
  after-vote new others its_votes its_entry = record {
    above = above;
    alone = alone;
    unknown = unknown;
  }
    where
      above : (x : Branch) → Among x (tree (it ∷ c)) → certified s (it ∷ c) < length x
          → AreCollected s (it ∷ c) (votes_at (digest_of x) new) x
      above x k l = go (bytes_eq (digest_of b) (digest_of x)) refl
        where
          go : (t : Bool) → bytes_eq (digest_of b) (digest_of x) ≡ t
              → AreCollected s (it ∷ c) (votes_at (digest_of x) new) x
          go true e =
              let same = one-block x k l ((bytes_eq-Decides (digest_of b) (digest_of x)).0 e) in
              subst (λ (z : Branch). AreCollected s (it ∷ c) (votes_at (digest_of z) new) z) same
              (its_votes (let h = ap (λ (z : Branch). length z) same in omega (arith, h, l)))
          go false e =
              above-next s it c kept law rising of tr now_tree x l new
              (subst (λ (t : List Branch). Among x t) (tree-noted (got_vote vote.voter vote.vector b) c) k)
              (others (digest_of x) e)
              (votes-other s c vote.voter vote.vector b x (other_branch b x e))

      alone : (d : Bytes) (e : Entry) → new d ≡ Some e → IsOfBlock s (it ∷ c) d e
      alone d e is = go (bytes_eq (digest_of b) d) refl
        where
          go : (t : Bool) → bytes_eq (digest_of b) d ≡ t → IsOfBlock s (it ∷ c) d e
          go true same =
              let k : digest_of b ≡ d = (bytes_eq-Decides (digest_of b) d).0 same in
              subst (λ (x : Bytes). IsOfBlock s (it ∷ c) x e) k (its_entry e (ap new k ∙ is))
          go false other = alone-next s it c kept law rising of new d e (others d other) is

      unknown : (x : Branch) → (Among x (tree (it ∷ c)) → ⊥) → votes s x (it ∷ c) ≡ []
      unknown x none = go (branch_eq b x) refl
        where
          go : (t : Bool) → branch_eq b x ≡ t → votes s x (it ∷ c) ≡ []
          go true same =
              absurd (none (subst (λ (y : Branch). Among y (tree (it ∷ c))) ((branch_eq-decides b x).0 same)
              (tree-grows it c b known)))
          go false other =
              votes-other s c vote.voter vote.vector b x other
              ∙ of.unknown x (λ k. none (tree-grows it c x k))

  -- where the highest certificate stays
  module _ (stays : qc_high s (it ∷ c) ≡ qc_high s c) where
    all-above : (d : Bytes) → kept d ≡ entry_above (certified s (it ∷ c)) (kept d)
    all-above d = sym (above-all s c kept of (certified s (it ∷ c))
        (let e = ap (λ (q : Justified). length q.block) stays in omega (arith, e)) d)

    unchanged : (certified s (it ∷ c) < length b → AreCollected s (it ∷ c) (votes_at (digest_of b) kept) b)
        → IsLeft s (it ∷ c) kept (qc_high s c)
    unchanged its_votes = (
      after-vote kept (λ d e. all-above d) its_votes
          (λ e is. alone-next s it c kept law rising of kept (digest_of b) e (all-above (digest_of b)) is),
      stays,
    )

  pub low-vote : length b ≤ certified s c → IsLeft s (it ∷ c) kept (qc_high s c)
  low-vote le =
      let stays =
      vote-next s vote.voter vote.vector b c ∙ raised-lower s c vote.voter vote.vector b (qc_high s c) (omega (arith, le)) in
      unchanged stays
      (λ l. absurd (let e = ap (λ (q : Justified). length q.block) stays in omega (arith, e, l, le)))

  -- a vote for a higher block
  module _ (l : certified s c < length b) where
    -- the votes for it
    abbrev ours : List Vote
    ours = votes s b c

    found-ours : votes_at (digest_of b) kept ≡ by_voter ours
    found-ours = (of.above b known l).same

    few-ours : length ours < quorum s
    few-ours = (of.above b known l).few

    same-count : length (votes_at (digest_of b) kept) ≡ length ours
    same-count = ap (λ (v : List Vote). length v) found-ours ∙ length-by_voter ours

    same-voters : has_voter vote.voter (votes_at (digest_of b) kept) ≡ has_voter vote.voter ours
    same-voters =
        ap (has_voter vote.voter) found-ours ∙ any-by_voter (λ (x : Vote). x.voter == vote.voter) ours

    says : (a : Added) → judged (quorum s) vote.voter (votes_at (digest_of b) kept) ≡ a
        → Says (quorum s) vote.voter (votes_at (digest_of b) kept) a
    says a e = subst (Says (quorum s) vote.voter (votes_at (digest_of b) kept)) e
        (judged-says (quorum s) vote.voter (votes_at (digest_of b) kept))

    pub doubled-vote : judged (quorum s) vote.voter (votes_at (digest_of b) kept) ≡ Doubled
        → IsLeft s (it ∷ c) kept (qc_high s c)
    doubled-vote judgement =
        let same = votes-doubled s c vote.voter vote.vector b (sym same-voters ∙ says Doubled judgement) in
        let stays : qc_high s (it ∷ c) ≡ qc_high s c =
        vote-next s vote.voter vote.vector b c ∙ ap (λ (o : Option Justified). higher false o (qc_high s c))
        (raised-none s c vote.voter vote.vector b (λ e. let n =
        ap (λ (v : List Vote). length v) same in let f = few-ours in omega (arith, e, n, f))) in
        unchanged stays
        (λ above. above-next s it c kept law rising of tr now_tree b above kept known (all-above stays
        (digest_of b)) same)

    entry-height : (entry_with (length b) vote (kept (digest_of b))).height ≡ length b
    entry-height = go (kept (digest_of b)) refl
      where
        go : (o : Option Entry) → kept (digest_of b) ≡ o → (entry_with (length b) vote o).height ≡ length b
        go None e = refl
        go (Some y) e =
            let w =
            of.alone (digest_of b) y e in
            w.its_height
            ∙ ap (λ (z : Branch). length z) (one-high s c (horizon-certified s c law) tr w.block b w.among known w.higher l w.its_digest)

    pub first-vote : judged (quorum s) vote.voter (votes_at (digest_of b) kept) ≡ First
        → IsLeft s (it ∷ c) (seen_with (digest_of b) (length b) vote kept) (qc_high s c)
    first-vote judgement =
        let new : Seen = seen_with (digest_of b) (length b) vote kept in
        let told = says First judgement in
        let now = votes-first s c vote.voter vote.vector b (sym same-voters ∙ told.0) few-ours in
        let count : length (votes s b (it ∷ c)) ≡ suc (length ours) =
        ap (λ (v : List Vote). length v) now in
        let few : suc (length ours) ≡ quorum s → ⊥ =
        λ e. told.1 (let n = same-count in omega (arith, e, n)) in
        let stays : qc_high s (it ∷ c) ≡ qc_high s c =
        vote-next s vote.voter vote.vector b c ∙ ap (λ (o : Option Justified). higher false o (qc_high s c))
        (raised-none s c vote.voter vote.vector b (λ e. few (sym count ∙ e))) in
        let put : new (digest_of b) ≡ Some (entry_with (length b) vote (kept (digest_of b)))
        =
        cond-true (bytes_eq (digest_of b) (digest_of b))
        (Some (entry_with (length b) vote (kept (digest_of b)))) (kept (digest_of b))
        (same_digest (digest_of b)) in (
          after-vote new
              (λ d other. cond-false (bytes_eq (digest_of b) d)
              (Some (entry_with (length b) vote (kept (digest_of b)))) (kept d) other
              ∙ all-above stays d)
              (λ above. record {
                same =
                    ap votes_in put ∙ votes-with (length b) vote (kept (digest_of b))
                    ∙ ap (insert_vote vote) found-ours ∙ by_voter-more vote ours ∙ ap by_voter (sym now);
                few = less (length ours) (quorum s) few-ours few count;
              })
              (λ e is. record {
                block = b;
                among = tree-grows it c b known;
                its_digest = refl;
                its_height =
                    sym (height_of (entry_with (length b) vote (kept (digest_of b))) e (sym put ∙ is))
                    ∙ entry-height;
                higher = let h = ap (λ (q : Justified). length q.block) stays in omega (arith, h, l);
              }),
          stays,
        )
      where
        less : (n q : ℕ) → n < q → (suc n ≡ q → ⊥) → {k : ℕ} → k ≡ suc n → k < q
        less n q lt ne e = elim (cases_lt (suc n) q)
            [ inl more ↦ omega (arith, more, e) | inr most ↦ absurd (ne (omega (arith, lt, most))) ]

    pub complete-vote : judged (quorum s) vote.voter (votes_at (digest_of b) kept) ≡ Complete
        → IsLeft s (it ∷ c) (seen_above (length b) kept)
        (record {
          block = b;
          certificate =
              record { digest = digest_of b; votes = insert_vote vote (votes_at (digest_of b) kept) };
        })
    complete-vote judgement =
        let told = says Complete judgement in
        let full : length ours + 1 ≡ quorum s = let n = same-count in let f = told.1 in omega (arith, n, f) in
        let q : Justified = record {
          block = b;
          certificate = record { digest = digest_of b; votes = insert_vote vote (by_voter ours) };
        } in
        let made : qc_high s (it ∷ c) ≡ q =
        vote-next s vote.voter vote.vector b c
        ∙ ap (λ (o : Option Justified). higher false o (qc_high s c))
        (raised-made s c vote.voter vote.vector b (sym same-voters ∙ told.0) full)
        ∙ cond-true (nat_lt (length (qc_high s c).block) (length b) || false) q (qc_high s c)
        (ap (λ (t : Bool). t || false) (lt-ltb (length (qc_high s c).block) (length b) l)) in
        let height : certified s (it ∷ c) ≡ length b = ap (λ (j : Justified). length j.block) made in
        let new : Seen = seen_above (length b) kept in
        let is : (d : Bytes) → new d ≡ entry_above (certified s (it ∷ c)) (kept d) =
        λ d. ap (λ (h : ℕ). entry_above h (kept d)) (sym height) in (
          after-vote new (λ d other. is d) (λ above. absurd (omega (arith, above, height)))
              (λ e some. alone-next s it c kept law rising of new (digest_of b) e (is (digest_of b)) some),
          made
              ∙ ap (λ (v : List Vote). record {
                block = b;
                certificate = record { digest = digest_of b; votes = insert_vote vote v };
              })
              (sym found-ours),
        )
