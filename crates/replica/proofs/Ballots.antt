-- What a vote changes is what its step changes.
use Rattle.ids.specs.declared.fault.Fault.{Fault}
use Rattle.std.proofs.Common.{◌≡◌, ◌<◌, ◌≤◌, Bool, true, false, ◌∷◌, length, cond, nat_lt, refl, sym, ap}
use Rattle.std.proofs.Common.{◌∙◌, arith, subst, Option, Some, None, Result, Ok, Err}
use Rattle.std.proofs.lemmas.Bool.{cond_both, ltb-true, ltb-false}
use Rattle.ids.specs.Sizes.{Sizes, quorum}
use Rattle.definitions.specs.Bytes.{Bytes}
use Rattle.definitions.specs.Frames.{Vote}
use Rattle.definitions.specs.Branches.{Branch}
use Rattle.definitions.specs.Keyrings.{Keys}
use Rattle.definitions.specs.Checks.{identity_of}
use Rattle.definitions.specs.Trees.{blocks, find_in}
use Rattle.definitions.specs.Chronicles.{Note, Step.noted, Note.got_vote, Chronicle, standing_blocks, window}
use Rattle.definitions.specs.Chronicles.{IsSound}
use Rattle.definitions.specs.States.{Justified, qc_high, find_block, leaf}
use Rattle.definitions.specs.Rulings.{Input.vote_in, ruling, conflicts, with_block}
use Rattle.definitions.specs.Rulings as rulings
use Rattle.definitions.specs.Sendings.{sendings}
use Rattle.definitions.proofs.Sound.{OnStands, ruling-sound}
use Rattle.definitions.proofs.Trees.{found-in}
use Rattle.vote_collector.specs.declared.added.Added.{Added}
use Rattle.vote_collector.specs.declared.added.Added.TheVariants.{First, Doubled, Complete}
use Rattle.vote_collector.specs.Collecting.{votes_for, judged}
use Rattle.vote_collector.specs.Following.{IsVotesOf, certified}
use Rattle.vote_collector.specs.Lawful.{made_with, FollowsVote}
use Rattle.vote_collector.proofs.Steps.{followed-vote}
use Rattle.replica_rules.specs.declared.block_ref.BlockRef.{BlockRef}
use Rattle.replica_rules.specs.Ruled.{ref_of}
use Rattle.replica.specs.declared.change.Change.{Change}
use Rattle.replica.specs.Replay.{or_genesis}
use Rattle.replica.specs.Kept.{Variables, StateParts, variables_of, IsStateOf}
use Rattle.replica.specs.Changes.{pended, changed, changed_variables, votes_after, IsStep}
use Rattle.replica.specs.Ballots.{vote_noted, vote_counted, vote_change, IsVoteAt, IsVoteDecided}
use Rattle.replica.specs.StepsTo.{Follows, StepsTo, answer, after}
use Rattle.pacemaker.proofs.Reached.{paced-still}
use Rattle.replica.proofs.Steps.{no-memory, asks, refused, stands, calm}
use Rattle.replica.proofs.Stays.{leaf-same, leaf-raised, variables-noted}

module _ (keys : Keys) (c : Chronicle) (s : StateParts) (is : IsStateOf keys c s) (d : Bytes) (vote : Vote)
    (b : Branch) (found : find_in d (window c) ≡ Some b) where
  abbrev note : Note
  note = got_vote vote.voter vote.vector b

  abbrev block : BlockRef
  block = record { digest = d; height = length b }

  block-is : block ≡ ref_of b
  block-is = λ i. record { digest = sym (found-in d (window c) b found).1 i; height = length b }

  -- the vote as it is stored
  note-is : noted (got_vote vote.voter vote.vector (or_genesis (find_in d (blocks (standing_blocks c)))))
      ≡ noted note
  unfolding window
  note-is = ap (λ (o : Option Branch). noted (got_vote vote.voter vote.vector (or_genesis o))) found

  follows : FollowsVote keys.sizes c s.votes.kept d b vote
  follows = followed-vote keys.sizes c s.votes.kept d b vote is.sound.lawful is.sound.is_tree found is.votes

  -- what comes of it: the step, and the votes that are kept
  record Comes (x : Change) : Type 0 where
    step : IsStep keys c (noted note) s.pace x
    votes : IsVotesOf keys.sizes (noted note ∷ c) (votes_after x s.votes.kept)

  -- where the highest certificate stays
  noted-step : qc_high keys.sizes (noted note ∷ c) ≡ qc_high keys.sizes c
      → IsStep keys c (noted note) s.pace (vote_noted s block vote)
  unfolding sendings
  noted-step q = record {
    variables = (λ i. changed_variables (vote_noted (record s { variables = is.same i }) block vote)
        (variables_of keys c))
        ∙ (λ i. record (variables_of keys c) { chronicle = note-is i ∷ c })
        ∙ sym (variables-noted keys note c (qc_high keys.sizes c) (leaf (identity_of keys) c) refl refl q
        (leaf-same (identity_of keys) (noted note) c refl (ap (λ (j : Justified). length j.block) q)));
    sizes = is.sizes;
    pace = paced-still (noted note) c s.pace tt is.pace;
    out = refl;
  }

  -- the first vote of a voter
  first-step : qc_high keys.sizes (noted note ∷ c) ≡ qc_high keys.sizes c
      → IsStep keys c (noted note) s.pace (vote_counted s block vote First)
  first-step q =
      let x = noted-step q in record { variables = x.variables; sizes = x.sizes; pace = x.pace; out = x.out }

  -- the one that completes a quorum
  complete-step : certified keys.sizes c < length b
      → qc_high keys.sizes (noted note ∷ c)
      ≡ record { block = b; certificate = made_with d vote s.votes.kept }
      → IsStep keys c (noted note) s.pace (vote_counted s block vote Complete)
  unfolding sendings
  complete-step lt q =
      let made : Justified = record { block = b; certificate = made_with d vote s.votes.kept } in
      record {
        variables = (λ i. changed_variables
            (vote_counted (record s { variables = is.same i }) block vote Complete) (variables_of keys c))
            ∙ (λ i. record (variables_of keys c) {
              chronicle = note-is i ∷ c;
              high = record { block = block-is i; certificate = made.certificate };
              leaf = block-is i;
            })
            ∙ sym (variables-noted keys note c made b refl refl q
            (leaf-raised (identity_of keys) (noted note) c made q lt refl));
        sizes = is.sizes;
        pace = paced-still (noted note) c s.pace tt is.pace;
        out = refl;
      }

  -- by what the vote is to those that are kept
  counted-comes : certified keys.sizes c < length b → (a : Added)
      → judged (quorum keys.sizes) vote.voter (votes_for d s.votes.kept) ≡ a
      → Comes (vote_counted s block vote a)
  counted-comes lt Doubled e = let l = follows.doubled lt e in record { step = noted-step l.1; votes = l.0 }
  counted-comes lt First e = let l = follows.first lt e in record { step = first-step l.1; votes = l.0 }
  counted-comes lt Complete e =
      let l = follows.complete lt e in record { step = complete-step lt l.1; votes = l.0 }

  low-comes : length b ≤ certified keys.sizes c → Comes (vote_noted s block vote)
  low-comes le = let l = follows.low le in record { step = noted-step l.1; votes = l.0 }

  change-comes : Comes (vote_change s block vote)
  change-comes = by (nat_lt s.variables.high.block.height (length b)) refl
    where
      height : s.variables.high.block.height ≡ certified keys.sizes c
      height = ap (λ (v : Variables). v.high.block.height) is.same

      judgement : Added
      judgement = judged (quorum s.votes.sizes) vote.voter (votes_for d s.votes.kept)

      same-judgement : judged (quorum keys.sizes) vote.voter (votes_for d s.votes.kept) ≡ judgement
      same-judgement =
          ap (λ (z : Sizes). judged (quorum z) vote.voter (votes_for d s.votes.kept)) (sym is.vote_sizes)

      by : (t : Bool) → nat_lt s.variables.high.block.height (length b) ≡ t
          → Comes (cond t (vote_counted s block vote judgement) (vote_noted s block vote))
      by true t = counted-comes
          (let k = ltb-true s.variables.high.block.height (length b) t in omega (arith, k, height))
          judgement same-judgement
      by false t =
          low-comes (let k = ltb-false s.variables.high.block.height (length b) t in omega (arith, k, height))

  vote-sound : IsSound keys.sizes (noted note ∷ c)
  unfolding ruling find_block
  vote-sound = subst (OnStands (λ st. IsSound keys.sizes (st ∷ c)))
      (ap (λ (o : Option Branch). with_block o vote.voter d
      (λ x. rulings.due (noted (got_vote vote.voter vote.vector x)))) found)
      (ruling-sound (identity_of keys) (vote_in d vote) c tt is.sound)

-- it leaves the requests that wait
counted-waits : (s : StateParts) (block : BlockRef) (vote : Vote)
    → pended (vote_change s block vote).growth s.pending ≡ s.pending
counted-waits s block vote =
    cond_both (nat_lt s.variables.high.block.height block.height) _ (vote_noted s block vote) P
    (λ t. by (judged (quorum s.votes.sizes) vote.voter (votes_for block.digest s.votes.kept))) (λ t. refl)
  where
    P : Change → Type 0
    P d = pended d.growth s.pending ≡ s.pending

    by : (a : Added) → P (vote_counted s block vote a)
    by First = refl
    by Doubled = refl
    by Complete = refl

-- by what is found
vote-by :
    (keys : Keys) (c : Chronicle) (s : StateParts) (d : Bytes) (vote : Vote) (result : Result Change Fault)
    → IsStateOf keys c s → (o : Option Branch) → find_in d (window c) ≡ o → IsVoteAt s d vote result o
    → Follows keys
    (with_block o vote.voter d (λ x. rulings.due (noted (got_vote vote.voter vote.vector x)))) c
    (answer result) (after result s)
unfolding conflicts
vote-by keys c s d vote result is None e h =
    refused keys _ c _ s result h (asks keys c vote.voter d s is)
vote-by keys c s d vote (Ok x) is (Some b) e h =
    let st = noted (note keys c s is d vote b e) in
    let comes = change-comes keys c s is d vote b e in
    subst (λ (y : Change). Follows keys (rulings.due st) c (Ok y.out) (changed y s)) (sym h)
    (stands keys c st (vote_change s (record { digest = d; height = length b }) vote) s refl
    (vote-sound keys c s is d vote b e)
    (counted-waits s (record { digest = d; height = length b }) vote ∙ calm st c s.pending refl refl is.waits)
    is comes.step comes.votes)
vote-by keys c s d vote (Err f) is (Some b) e h =
    no-memory keys c (noted (got_vote vote.voter vote.vector b)) f s h is

-- what a vote comes to
pub vote-decided :
    (keys : Keys) (c : Chronicle) (s : StateParts) (d : Bytes) (vote : Vote) (result : Result Change Fault)
    → IsVoteDecided s d vote result → IsStateOf keys c s
    → StepsTo keys (vote_in d vote) c (answer result) (after result s)
unfolding ruling find_block window
vote-decided keys c s d vote result h is =
    let same = ap (λ (v : Variables). find_in d (blocks v.stored)) is.same in
    vote-by keys c s d vote result is (find_in d (blocks (standing_blocks c))) refl
    (subst (IsVoteAt s d vote result) same h)
