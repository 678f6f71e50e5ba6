use Rattle.std.proofs.Common.{◌≡◌, ◌<◌, [], true, ◌^◌, Ok, refl, sym, IfOk, length, ap, ◌∙◌, subst, arith}
use Rattle.ids.specs.Sizes.{Sizes, leader}
use Rattle.definitions.specs.FrameLimits.{IsCore, IsCertificate}
use Rattle.definitions.specs.Rulings.{ruling}
use Rattle.frames_view.specs.Fields.{frame_core, frame_certificate, frame_view, frame_replica, frame_digest}
use Rattle.frames_view.specs.Fields.{frame_vote}
use Rattle.frames_view.specs.Views.{command_of, proposal_of, block_of, vote_frame_of, new_view_of}
use Rattle.frames_view.specs.declared.frame_views.NewViewView.{NewViewView}
use Rattle.frames_view.specs.declared.frame_views.FetchView.{FetchView}
use Rattle.definitions.specs.Checks.{identity_of, counted_voters, is_clear_core}
use Rattle.definitions.proofs.Sound.{ruling-sound}
use Rattle.admission.specs.declared.input.Input.TheVariants.{Proposal, Block, OfferedProposal, OfferedBlock}
use Rattle.admission.specs.declared.input.Input.TheVariants.{Relayed}
use Rattle.replica.specs.Kept.{Variables, StateParts}
use Rattle.admission.specs.Inputs.{input_of, same_replica}
use Rattle.replica.specs.Inputs.{proposal_offered, block_offered, tagged_proposal, tagged_block, announced_by}
use Rattle.replica.specs.Inputs.{seen_in, asked_by}
use Rattle.replica.specs.Grounds.{IsOffer, IsRelay}
use Rattle.replica.specs.Announcements.{IsSeen}
use Rattle.replica.specs.Offers.{Offered, IsDecided}
use Rattle.replica.specs.Announcements.{IsNewView}
use Rattle.replica.specs.Fetches.{fetch_change}
use Rattle.replica.proofs.Beats.{beat-decided}
use Rattle.replica.proofs.Offers.{block-decided}
use Rattle.replica.proofs.Announcements.{timeout-decided, new-view-decided, seen-decided}
use Rattle.replica.proofs.OnGrounds.{offer-decided, relay-decided}
use Rattle.replica.proofs.Leads.{lead-decided}
use Rattle.replica.proofs.Steps.{asks}
use Rattle.replica.proofs.Fetches.{fetch-decided}
use Rattle.replica.proofs.Ballots.{vote-decided}
use Rattle.replica.specs.Ballots.{IsVoteDecided}
use Rattle.frames_view.specs.declared.frame_views.VoteFrameView.{VoteFrameView}
use Rattle.replica.proofs.Checked.{addressed-sizes, checked-proposal, checked-block, checked-vote}
use Rattle.replica.proofs.Fits.{fits-timeout, fits-new-view, fits-block, fits-vote, fits-offer, fits-relay}
use Rattle.replica.specs.Requests.{IsRequested}
use Rattle.replica.proofs.Requests.{request-decided}
use Rattle.frames_view.specs.declared.views.CommandView.{CommandView}
use Rattle.replica.proofs.Prunings.{prune-decided}
use Rattle.replica.proofs.Advancing.{state-going, history-going}
use Rattle.definitions.specs.Rulings.{Input.prune_in}
use Rattle.replica.specs.declared.change.Change.{Change}
use Rattle.replica.specs.StepsTo.{StepsTo, answer, after}
use Rattle.replica.proofs.replica.decide.Goals as goal

pub returns-in-Proposal-clause-decided : goal.returns-in-Proposal-clause-decided
unfolding ruling
returns-in-Proposal-clause-decided c c' w =
    let o = state-going c.args.keyring.now c' c.args.state.now c.args.executor.now.history w in
    let keys = c.args.keyring.now in
    let p = c.in-Proposal.proposal in
    let own : same_replica p.keys keys ≡ true = rw c.in-Proposal.is at c.requires.own in
    let ch = checked-proposal p keys own c.of_proposal.ensures.frame c.of_proposal.ensures.passed in
    let decided = subst (λ (x : Offered). IsDecided keys c.args.state.now x c.decide_block.result)
    c.of_proposal.ensures.offered c.decide_block.ensures in
    rw c.in-Proposal.is (block-decided keys c' c.args.state.now (proposal_offered p)
    (leader keys.sizes (frame_view (proposal_of p.view))) c.decide_block.result refl decided o ch.below
    (ruling-sound (identity_of keys) (input_of (Proposal p)) c' ch o.sound))

pub returns-in-Block-clause-decided : goal.returns-in-Block-clause-decided
unfolding ruling
returns-in-Block-clause-decided c c' w =
    let o = state-going c.args.keyring.now c' c.args.state.now c.args.executor.now.history w in
    let keys = c.args.keyring.now in
    let b = c.in-Block.block in
    let own : same_replica b.keys keys ≡ true = rw c.in-Block.is at c.requires.own in
    let ch = checked-block b keys own c.of_block.ensures.frame c.of_block.ensures.passed in
    let decided = subst (λ (x : Offered). IsDecided keys c.args.state.now x c.decide_block-in-Block.result)
    c.of_block.ensures.offered c.decide_block-in-Block.ensures in
    rw c.in-Block.is (block-decided keys c' c.args.state.now (block_offered b)
    (frame_replica (block_of b.view)) c.decide_block-in-Block.result refl decided o ch.below
    (ruling-sound (identity_of keys) (input_of (Block b)) c' ch o.sound))

pub returns-in-NewView-clause-decided : goal.returns-in-NewView-clause-decided
returns-in-NewView-clause-decided c c' w =
    let o = state-going c.args.keyring.now c' c.args.state.now c.args.executor.now.history w in
    let keys = c.args.keyring.now in
    let n = c.in-NewView.announced in
    let decided = subst
    (λ (x : NewViewView). IsNewView keys c.args.state.now (announced_by x) c.decide_new_view.result)
    c.view-in-NewView.ensures.view c.decide_new_view.ensures in
    rw c.in-NewView.is
    (new-view-decided keys c' c.args.state.now (announced_by n.view) c.decide_new_view.result decided o)

pub returns-in-Fetch-clause-decided : goal.returns-in-Fetch-clause-decided
returns-in-Fetch-clause-decided c c' w =
    let o = state-going c.args.keyring.now c' c.args.state.now c.args.executor.now.history w in
    let keys = c.args.keyring.now in
    let s = c.args.state.now in
    let f = c.in-Fetch.asked in
    let made = subst (λ (x : FetchView). IfOk c.decide_fetch.result
    (λ d. d ≡ fetch_change keys s.variables (asked_by x))) c.view-in-Fetch.ensures.view
    c.decide_fetch.ensures.made in
    rw c.in-Fetch.is
    (fetch-decided keys c' s (asked_by f.view) c.decide_fetch.result made c.decide_fetch.ensures.memory o)

pub returns-in-Timeout-clause-decided : goal.returns-in-Timeout-clause-decided
returns-in-Timeout-clause-decided c c' w =
    let o = state-going c.args.keyring.now c' c.args.state.now c.args.executor.now.history w in
    rw c.in-Timeout.is (timeout-decided c.args.keyring.now c' c.args.state.now c.decide_timeout.result
    c.decide_timeout.ensures.made c.decide_timeout.ensures.memory o)

pub returns-in-Beat-clause-decided : goal.returns-in-Beat-clause-decided
returns-in-Beat-clause-decided c c' w =
    let o = state-going c.args.keyring.now c' c.args.state.now c.args.executor.now.history w in
    let chronicle =
    c.state.invariant.0 ∙ ap (λ (k : StateParts). length k.variables.chronicle) c.state.view_is
    ∙ ap (λ (v : Variables). length v.chronicle) o.same in
    let few : length c' < 2 ^ 63 = (let k = c.state.invariant.1 in omega (arith, chronicle, k)) in
    rw c.in-Beat.is (beat-decided c.args.keyring.now c' c.args.state.now c.decide_beat.result few
    c.decide_beat.ensures.made c.decide_beat.ensures.memory o)

pub returns-in-Proposal-clause-fits : goal.returns-in-Proposal-clause-fits
returns-in-Proposal-clause-fits c =
    fits-block c.args.keyring.now c.args.state.now c.of_proposal.result c.decide_block.result
    c.decide_block.ensures

pub returns-in-Block-clause-fits : goal.returns-in-Block-clause-fits
returns-in-Block-clause-fits c =
    fits-block c.args.keyring.now c.args.state.now c.of_block.result c.decide_block-in-Block.result
    c.decide_block-in-Block.ensures

pub returns-in-NewView-clause-fits : goal.returns-in-NewView-clause-fits
returns-in-NewView-clause-fits c =
    fits-new-view c.args.keyring.now c.args.state.now (announced_by c.view-in-NewView.result.now)
    c.decide_new_view.result c.decide_new_view.ensures

pub returns-in-Timeout-clause-fits : goal.returns-in-Timeout-clause-fits
returns-in-Timeout-clause-fits c =
    fits-timeout c.args.keyring.now c.args.state.now c.decide_timeout.result c.decide_timeout.ensures.made

pub returns-in-Vote-clause-decided : goal.returns-in-Vote-clause-decided
returns-in-Vote-clause-decided c c' w =
    let o = state-going c.args.keyring.now c' c.args.state.now c.args.executor.now.history w in
    let v = c.in-Vote.vote in
    let decided = subst (λ (x : VoteFrameView). IsVoteDecided c.args.state.now
    (frame_digest (vote_frame_of x)) (frame_vote (vote_frame_of x)) c.decide_vote.result)
    c.view.ensures.view c.decide_vote.ensures in
    rw c.in-Vote.is (vote-decided c.args.keyring.now c' c.args.state.now
    (frame_digest (vote_frame_of v.view)) (frame_vote (vote_frame_of v.view)) c.decide_vote.result
    decided o)

pub returns-in-Vote-clause-fits : goal.returns-in-Vote-clause-fits
returns-in-Vote-clause-fits c =
    fits-vote c.args.state.now (frame_digest (vote_frame_of c.view.result.now))
    (frame_vote (vote_frame_of c.view.result.now)) c.decide_vote.result
    (checked-vote c.in-Vote.vote c.args.keyring.now c.view.result.now c.args.state.now.votes.sizes
    (rw c.in-Vote.is at c.requires.own) c.view.ensures.fits c.view.ensures.view c.requires.votes)
    c.decide_vote.ensures

pub decide_vote-requires : goal.decide_vote-requires
decide_vote-requires c =
    checked-vote c.in-Vote.vote c.args.keyring.now c.view.result.now c.args.state.now.votes.sizes
    (rw c.in-Vote.is at c.requires.own) c.view.ensures.fits c.view.ensures.view c.requires.votes

pub returns-in-Proposal-clause-fit : goal.returns-in-Proposal-clause-fit
returns-in-Proposal-clause-fit c =
    let keys = c.args.keyring.now in
    let p = c.in-Proposal.proposal in
    let own : same_replica p.keys keys ≡ true = rw c.in-Proposal.is at c.requires.own in
    rw c.in-Proposal.is (subst (λ (s : Sizes). IsCore s (frame_core (proposal_of p.view))
    × IsCertificate s (frame_certificate (proposal_of p.view)))
    (addressed-sizes p.keys keys own) (c.of_proposal.ensures.frame.1, c.of_proposal.ensures.frame.2))

pub returns-in-Block-clause-fit : goal.returns-in-Block-clause-fit
returns-in-Block-clause-fit c =
    let keys = c.args.keyring.now in
    let b = c.in-Block.block in
    let own : same_replica b.keys keys ≡ true = rw c.in-Block.is at c.requires.own in
    rw c.in-Block.is (subst (λ (s : Sizes). IsCore s (frame_core (block_of b.view))
    × IsCertificate s (frame_certificate (block_of b.view)))
    (addressed-sizes b.keys keys own) (c.of_block.ensures.frame.1, c.of_block.ensures.frame.2))

pub returns-in-Vote-clause-fit : goal.returns-in-Vote-clause-fit
returns-in-Vote-clause-fit c =
    let keys = c.args.keyring.now in
    let v = c.in-Vote.vote in
    rw c.in-Vote.is (checked-vote v keys v.view keys.sizes (rw c.in-Vote.is at c.requires.own)
    c.view.ensures.fits refl refl)

pub returns-in-NewView-clause-fit : goal.returns-in-NewView-clause-fit
returns-in-NewView-clause-fit c =
    let keys = c.args.keyring.now in
    let n = c.in-NewView.announced in
    rw c.in-NewView.is (subst (λ (s : Sizes). IsCertificate s (frame_certificate (new_view_of n.view)))
    (addressed-sizes n.keys keys (rw c.in-NewView.is at c.requires.own))
    c.view-in-NewView.ensures.fits.2)

pub decide_new_view-requires-clause-certificate : goal.decide_new_view-requires-clause-certificate
decide_new_view-requires-clause-certificate c =
    let keys = c.args.keyring.now in
    let n = c.in-NewView.announced in
    rw c.view-in-NewView.ensures.view
    (subst (λ (s : Sizes). IsCertificate s (frame_certificate (new_view_of n.view)))
    (addressed-sizes n.keys keys (rw c.in-NewView.is at c.requires.own))
    c.view-in-NewView.ensures.fits.2)

pub returns-in-Request-clause-decided : goal.returns-in-Request-clause-decided
unfolding ruling
returns-in-Request-clause-decided c c' w =
    let keys = c.args.keyring.now in
    let s = c.args.state.now in
    let h = c.args.executor.now.history in
    let r = c.in-Request.asked in
    let o = state-going keys c' s h w in
    let made = subst (λ (x : CommandView). IsRequested keys s h (command_of x) c.decide_request.result)
    c.view-in-Request.ensures.view c.decide_request.ensures in
    rw c.in-Request.is (request-decided keys c' s h (command_of r.view) o (history-going keys c' s h w)
    w.fit c.decide_request.result made)

pub returns-in-Prune-clause-decided : goal.returns-in-Prune-clause-decided
returns-in-Prune-clause-decided c c' w =
    let keys = c.args.keyring.now in
    let s = c.args.state.now in
    let o = state-going keys c' s c.args.executor.now.history w in
    rw c.in-Prune.is (subst (λ (d : Change). StepsTo keys (prune_in c.in-Prune.height) c' (answer (Ok d))
    (after (Ok d) s)) (sym c.decide_prune.ensures) (prune-decided keys c' c.in-Prune.height s o))

-- ---- on grounds

pub returns-in-OfferedProposal-clause-decided : goal.returns-in-OfferedProposal-clause-decided
unfolding ruling
returns-in-OfferedProposal-clause-decided c c' w =
    let keys = c.args.keyring.now in
    let s = c.args.state.now in
    let o = state-going keys c' s c.args.executor.now.history w in
    let p = c.in-OfferedProposal.proposal in
    let below = c.of_offered_proposal.ensures.frame.1.justify_height in
    let decided = subst (λ (x : Offered). IsOffer keys s x c.decide_offer.result)
    c.of_offered_proposal.ensures.offered c.decide_offer.ensures in
    rw c.in-OfferedProposal.is (offer-decided keys c' s (tagged_proposal p)
    (counted_voters (identity_of p.keys) (frame_certificate (proposal_of p.view)))
    (leader p.keys.sizes (frame_view (proposal_of p.view))) c.decide_offer.result refl decided o w.sized below
    (ruling-sound (identity_of keys) (input_of (OfferedProposal p)) c' below o.sound))

pub returns-in-OfferedBlock-clause-decided : goal.returns-in-OfferedBlock-clause-decided
unfolding ruling
returns-in-OfferedBlock-clause-decided c c' w =
    let keys = c.args.keyring.now in
    let s = c.args.state.now in
    let o = state-going keys c' s c.args.executor.now.history w in
    let b = c.in-OfferedBlock.block in
    let below = c.of_offered_block.ensures.frame.1.justify_height in
    let decided = subst (λ (x : Offered). IsOffer keys s x c.decide_offer-in-OfferedBlock.result)
    c.of_offered_block.ensures.offered c.decide_offer-in-OfferedBlock.ensures in
    rw c.in-OfferedBlock.is (offer-decided keys c' s (tagged_block [] b)
    (counted_voters (identity_of b.keys) (frame_certificate (block_of b.view)))
    (frame_replica (block_of b.view)) c.decide_offer-in-OfferedBlock.result refl decided o w.sized below
    (ruling-sound (identity_of keys) (input_of (OfferedBlock b)) c' below o.sound))

pub returns-in-Relayed-clause-decided : goal.returns-in-Relayed-clause-decided
unfolding ruling
returns-in-Relayed-clause-decided c c' w =
    let keys = c.args.keyring.now in
    let s = c.args.state.now in
    let o = state-going keys c' s c.args.executor.now.history w in
    let g = c.in-Relayed.copies in
    let b = g.first in
    let core = frame_core (block_of b.view) in
    let q = frame_certificate (block_of b.view) in
    let below = c.of_copies.ensures.frame.1.justify_height in
    let decided = subst (λ (x : Offered). IsRelay keys s x c.decide_relay.result)
    c.of_copies.ensures.offered c.decide_relay.ensures in
    rw c.in-Relayed.is (relay-decided keys c' s core q (is_clear_core (identity_of b.keys) core)
    (counted_voters (identity_of b.keys) q) g.senders c.decide_relay.result decided o below
    (ruling-sound (identity_of keys) (input_of (Relayed g)) c' below o.sound))

pub returns-in-SeenView-clause-decided : goal.returns-in-SeenView-clause-decided
returns-in-SeenView-clause-decided c c' w =
    let keys = c.args.keyring.now in
    let s = c.args.state.now in
    let o = state-going keys c' s c.args.executor.now.history w in
    let n = c.in-SeenView.announced in
    let made = subst (λ (x : NewViewView). IfOk c.decide_seen_view.result (IsSeen keys s (seen_in x)))
    c.view-in-SeenView.ensures.view c.decide_seen_view.ensures.made in
    rw c.in-SeenView.is
    (seen-decided keys c' s (seen_in n.view) c.decide_seen_view.result made c.decide_seen_view.ensures.memory o)

pub returns-in-Lead-clause-decided : goal.returns-in-Lead-clause-decided
returns-in-Lead-clause-decided c c' w =
    let keys = c.args.keyring.now in
    let s = c.args.state.now in
    let o = state-going keys c' s c.args.executor.now.history w in
    rw c.in-Lead.is (lead-decided keys c' s c.in-Lead.block c.decide_lead.result c.decide_lead.ensures o)

pub returns-in-Ask-clause-decided : goal.returns-in-Ask-clause-decided
unfolding ruling
returns-in-Ask-clause-decided c c' w =
    let keys = c.args.keyring.now in
    let s = c.args.state.now in
    let o = state-going keys c' s c.args.executor.now.history w in
    rw c.in-Ask.is (asks keys c' c.in-Ask.field-0 c.in-Ask.field-1 s o)

pub returns-in-OfferedProposal-clause-fits : goal.returns-in-OfferedProposal-clause-fits
returns-in-OfferedProposal-clause-fits c =
    fits-offer c.args.keyring.now c.args.state.now c.of_offered_proposal.result c.decide_offer.result
    c.decide_offer.ensures

pub returns-in-OfferedBlock-clause-fits : goal.returns-in-OfferedBlock-clause-fits
returns-in-OfferedBlock-clause-fits c =
    fits-offer c.args.keyring.now c.args.state.now c.of_offered_block.result c.decide_offer-in-OfferedBlock.result
    c.decide_offer-in-OfferedBlock.ensures

pub returns-in-Relayed-clause-fits : goal.returns-in-Relayed-clause-fits
returns-in-Relayed-clause-fits c =
    fits-relay c.args.keyring.now c.args.state.now c.of_copies.result c.decide_relay.result
    c.decide_relay.ensures

pub returns-in-OfferedProposal-clause-fit : goal.returns-in-OfferedProposal-clause-fit
returns-in-OfferedProposal-clause-fit c =
    let keys = c.args.keyring.now in
    let p = c.in-OfferedProposal.proposal in
    let own : same_replica p.keys keys ≡ true = rw c.in-OfferedProposal.is at c.requires.own in
    rw c.in-OfferedProposal.is (subst (λ (s : Sizes). IsCore s (frame_core (proposal_of p.view))
    × IsCertificate s (frame_certificate (proposal_of p.view)))
    (addressed-sizes p.keys keys own)
    (c.of_offered_proposal.ensures.frame.1, c.of_offered_proposal.ensures.frame.2))

pub returns-in-OfferedBlock-clause-fit : goal.returns-in-OfferedBlock-clause-fit
returns-in-OfferedBlock-clause-fit c =
    let keys = c.args.keyring.now in
    let b = c.in-OfferedBlock.block in
    let own : same_replica b.keys keys ≡ true = rw c.in-OfferedBlock.is at c.requires.own in
    rw c.in-OfferedBlock.is (subst (λ (s : Sizes). IsCore s (frame_core (block_of b.view))
    × IsCertificate s (frame_certificate (block_of b.view)))
    (addressed-sizes b.keys keys own)
    (c.of_offered_block.ensures.frame.1, c.of_offered_block.ensures.frame.2))

pub returns-in-Relayed-clause-fit : goal.returns-in-Relayed-clause-fit
returns-in-Relayed-clause-fit c =
    let keys = c.args.keyring.now in
    let b = c.in-Relayed.copies.first in
    let own : same_replica b.keys keys ≡ true = rw c.in-Relayed.is at c.requires.own in
    rw c.in-Relayed.is (subst (λ (s : Sizes). IsCore s (frame_core (block_of b.view))
    × IsCertificate s (frame_certificate (block_of b.view)))
    (addressed-sizes b.keys keys own) (c.of_copies.ensures.frame.1, c.of_copies.ensures.frame.2))
