-- Each decided change can be made.
use Rattle.std.proofs.Common.{◌≡◌, cond, refl, sym, subst, Option, Some, None, Result, Ok, Err, IfOk}
use Rattle.std.proofs.lemmas.Bool.{cond_both}
use Rattle.ids.specs.declared.fault.Fault.{Fault}
use Rattle.ids.specs.declared.fault.Fault.TheVariants as fault
use Rattle.definitions.specs.Branches.{Branch}
use Rattle.definitions.specs.Keyrings.{Keys}
use Rattle.definitions.specs.Trees.{blocks, find_in, Placing, Placing.stands, Placing.grows}
use Rattle.definitions.specs.Trees.{Placing.lacks_parent, Placing.unfit, placing}
use Rattle.replica.specs.declared.change.Change.{Change}
use Rattle.replica.specs.declared.stored.GotNewView.{GotNewView}
use Rattle.replica.specs.Kept.{StateParts}
use Rattle.replica.specs.Changes.{Fits}
use Rattle.replica.specs.Offers.{Offered, again_change, IsGrown, IsDecidedAt, IsDecided}
use Rattle.definitions.specs.Grounds.{without_votes}
use Rattle.replica.specs.declared.stored.SeenView.{SeenView}
use Rattle.replica.specs.Grounds.{bare, own_as, IsGroundedIf, IsOfferAt, IsOffer, IsRelayedIf, IsRelayAt, IsRelay}
use Rattle.replica.specs.Grounds.{lead_change, IsLeadAt, IsLead}
use Rattle.replica.specs.Announcements.{IsSeen}
use Rattle.replica.specs.Announcements.{IsTimeout, IsNewViewAt, IsNewView}
use Rattle.std.specs.Prelude.{nat_lt, length, MatchResult, Bool, true, false}
use Rattle.ids.specs.Sizes.{quorum}
use Rattle.definitions.specs.Bytes.{Bytes}
use Rattle.definitions.specs.Frames.{Vote}
use Rattle.definitions.specs.FrameLimits.{IsVote}
use Rattle.vote_collector.specs.declared.added.Added.{Added}
use Rattle.vote_collector.specs.declared.added.Added.TheVariants.{First, Doubled, Complete}
use Rattle.vote_collector.specs.Collecting.{votes_for, judged}
use Rattle.replica_rules.specs.declared.block_ref.BlockRef.{BlockRef}
use Rattle.replica.specs.Ballots.{vote_noted, vote_counted, vote_change, IsVoteAt, IsVoteDecided}

pub fits-timeout : (keys : Keys) (s : StateParts) (result : Result Change Fault)
    → IfOk result (IsTimeout keys s)
    → IfOk result (λ d. Fits s d)
fits-timeout keys s (Ok d) t = subst (Fits s) (sym t.change)
    (record { growth = tt; step = refl; pruning = refl })
fits-timeout keys s (Err n) t = tt

pub fits-new-view : (keys : Keys) (s : StateParts) (n : GotNewView) (result : Result Change Fault)
    → IsNewView keys s n result → IfOk result (λ d. Fits s d)
fits-new-view keys s n result h = by result (find_in n.certificate.digest (blocks s.variables.stored)) h
  where
    by : (r : Result Change Fault) (o : Option Branch) → IsNewViewAt keys s n r o → IfOk r (λ d. Fits s d)
    by (Ok d) None h = absurd (let k : Ok d ≡ Err fault.UnknownParent = h in cc)
    by (Ok d) (Some b) h = subst (Fits s) (sym h.change) (record { growth = tt; step = refl; pruning = refl })
    by (Err n) o h = tt

again-fits : (keys : Keys) (s : StateParts) (o : Offered) (result : Result Change Fault)
    → MatchResult result (λ d. d ≡ again_change keys s o) (λ n. n ≡ fault.Memory) → IfOk result (λ d. Fits s d)
again-fits keys s o (Ok d) h = subst (Fits s) (sym h) (record { growth = tt; step = refl; pruning = refl })
again-fits keys s o (Err n) h = tt

pub fits-block : (keys : Keys) (s : StateParts) (o : Offered) (result : Result Change Fault)
    → IsDecided keys s o result → IfOk result (λ d. Fits s d)
fits-block keys s o result h =
    by result (placing s.variables.horizon s.variables.most o.core o.certificate
    (blocks s.variables.stored)) h
  where
    by : (r : Result Change Fault) (p : Placing) → IsDecidedAt keys s o r p → IfOk r (λ d. Fits s d)
    by (Ok d) (stands b) h = subst (Fits s) (sym h) (record { growth = tt; step = refl; pruning = refl })
    by (Ok d) (grows b) h =
        subst (Fits s) (sym h.change) (record { growth = h.its_node.may_stand; step = refl; pruning = refl })
    by (Ok d) lacks_parent h = absurd (let k : Ok d ≡ Err fault.UnknownParent = h in cc)
    by (Ok d) (unfit n) h = absurd (let k : Ok d ≡ Err n = h in cc)
    by (Err n) p h = tt

grown-fits : (keys : Keys) (s : StateParts) (o : Offered) (result : Result Change Fault)
    → IsGrown keys s o result → IfOk result (λ d. Fits s d)
grown-fits keys s o (Ok d) h =
    subst (Fits s) (sym h.change) (record { growth = h.its_node.may_stand; step = refl; pruning = refl })
grown-fits keys s o (Err n) h = tt

-- a refusal is no change
refusal-fits : (s : StateParts) (n : Fault) (result : Result Change Fault) → result ≡ Err n
    → IfOk result (λ d. Fits s d)
refusal-fits s n (Ok d) h = absurd (let k : Ok d ≡ Err n = h in cc)
refusal-fits s n (Err m) h = tt

pub fits-offer : (keys : Keys) (s : StateParts) (o : Offered) (result : Result Change Fault)
    → IsOffer keys s o result → IfOk result (λ d. Fits s d)
fits-offer keys s o result h =
    by (placing s.variables.horizon s.variables.most o.core (without_votes o.certificate) (blocks s.variables.stored)) h
  where
    grounded : (j k : Bool) → IsGroundedIf keys s o result j k → IfOk result (λ d. Fits s d)
    grounded true k h = grown-fits keys s (bare o) result h
    grounded false true h = fits-block keys s (own_as keys s.variables o) result h
    grounded false false h = refusal-fits s fault.BadTag result h

    by : (p : Placing) → IsOfferAt keys s o result p → IfOk result (λ d. Fits s d)
    by (stands b) h = again-fits keys s (bare o) result h
    by (grows b) h = grounded _ _ h
    by lacks_parent h = refusal-fits s fault.UnknownParent result h
    by (unfit n) h = refusal-fits s n result h

pub fits-relay : (keys : Keys) (s : StateParts) (o : Offered) (result : Result Change Fault)
    → IsRelay keys s o result → IfOk result (λ d. Fits s d)
fits-relay keys s o result h =
    by (placing s.variables.horizon s.variables.most o.core (without_votes o.certificate) (blocks s.variables.stored)) h
  where
    relayed : (t : Bool) → IsRelayedIf keys s o result t → IfOk result (λ d. Fits s d)
    relayed true h = grown-fits keys s (bare o) result h
    relayed false h = refusal-fits s fault.BadTag result h

    by : (p : Placing) → IsRelayAt keys s o result p → IfOk result (λ d. Fits s d)
    by (stands b) h = again-fits keys s (bare o) result h
    by (grows b) h = relayed _ h
    by lacks_parent h = refusal-fits s fault.UnknownParent result h
    by (unfit n) h = refusal-fits s n result h

pub fits-lead : (keys : Keys) (s : StateParts) (d : Bytes) (result : Result Change Fault)
    → IsLead keys s d result → IfOk result (λ x. Fits s x)
fits-lead keys s d result h = by (find_in d (blocks s.variables.stored)) h
  where
    led : (b : Branch) (t : Bool)
        → result ≡ cond t (Ok (lead_change s.variables (record { digest = d; height = length b })))
        (Err fault.UnknownParent)
        → IfOk result (λ x. Fits s x)
    led b true h = subst (λ (r : Result Change Fault). IfOk r (λ x. Fits s x)) (sym h)
        (record { growth = tt; step = refl; pruning = refl })
    led b false h = refusal-fits s fault.UnknownParent result h

    by : (o : Option Branch) → IsLeadAt keys s d result o → IfOk result (λ x. Fits s x)
    by None h = refusal-fits s fault.UnknownParent result h
    by (Some b) h = led b _ h

pub fits-seen : (keys : Keys) (s : StateParts) (n : SeenView) (result : Result Change Fault)
    → IfOk result (IsSeen keys s n) → IfOk result (λ d. Fits s d)
fits-seen keys s n (Ok d) t = subst (Fits s) (sym t.change) (record { growth = tt; step = refl; pruning = refl })
fits-seen keys s n (Err m) t = tt

counted-fits : (s : StateParts) (block : BlockRef) (vote : Vote) (a : Added) → IsVote s.votes.sizes vote
    → Fits s (vote_counted s block vote a)
counted-fits s block vote First h = record { growth = h; step = refl; pruning = refl }
counted-fits s block vote Doubled h = record { growth = tt; step = refl; pruning = refl }
counted-fits s block vote Complete h = record { growth = tt; step = refl; pruning = refl }

vote-fits : (s : StateParts) (block : BlockRef) (vote : Vote) → IsVote s.votes.sizes vote
    → Fits s (vote_change s block vote)
vote-fits s block vote h =
    cond_both (nat_lt s.variables.high.block.height block.height)
    (vote_counted s block vote
    (judged (quorum s.votes.sizes) vote.voter (votes_for block.digest s.votes.kept)))
    (vote_noted s block vote) (λ d. Fits s d)
    (λ t. counted-fits s block vote
    (judged (quorum s.votes.sizes) vote.voter (votes_for block.digest s.votes.kept)) h)
    (λ t. record { growth = tt; step = refl; pruning = refl })

pub fits-vote : (s : StateParts) (d : Bytes) (vote : Vote) (result : Result Change Fault)
    → IsVote s.votes.sizes vote → IsVoteDecided s d vote result → IfOk result (λ x. Fits s x)
fits-vote s d vote result v h = by result (find_in d (blocks s.variables.stored)) h
  where
    by : (r : Result Change Fault) (o : Option Branch) → IsVoteAt s d vote r o → IfOk r (λ x. Fits s x)
    by (Ok x) None h = absurd (let k : Ok x ≡ Err fault.UnknownParent = h in cc)
    by (Ok x) (Some b) h =
        subst (Fits s) (sym h) (vote-fits s (record { digest = d; height = length b }) vote v)
    by (Err n) o h = tt
