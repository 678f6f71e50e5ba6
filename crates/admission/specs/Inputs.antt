-- What is taken in, as the definitions have it.
use Rattle.std.specs.Prelude.{◌==◌, ◌&&◌, Bool, true, Some, None, nat_lt}
use Rattle.ids.specs.Sizes.{Sizes, leader, replicas}
use Rattle.definitions.specs.Frames.{Core, Certificate}
use Rattle.definitions.specs.Keyrings.{Keys}
use Rattle.definitions.specs.Checks.{findings, identity_of}
use Rattle.definitions.specs.Rulings as rulings
use Rattle.certificates.specs.Outcomes.{CheckedView}
use Rattle.certificates.specs.Copying.{Gathered}
use Rattle.frames_view.specs.declared.frame_views.ProposalView.{ProposalView}
use Rattle.frames_view.specs.declared.frame_views.BlockView.{BlockView}
use Rattle.frames_view.specs.Fields.{frame_view, frame_replica, frame_core, frame_certificate, frame_digest}
use Rattle.frames_view.specs.Fields.{frame_vote}
use Rattle.frames_view.specs.Views.{proposal_of, block_of, vote_frame_of, new_view_of, fetch_of, command_of}
use Rattle.admission.specs.declared.input.Input.{Input}
use Rattle.admission.specs.declared.input.Input.TheVariants.{Proposal, Block, Vote as AVote, NewView, Request}
use Rattle.admission.specs.declared.input.Input.TheVariants.{Fetch, Timeout, Beat, Prune}
use Rattle.admission.specs.declared.input.Input.TheVariants.{OfferedProposal, OfferedBlock, SeenView}
use Rattle.admission.specs.declared.input.Input.TheVariants.{Relayed, Lead, Ask}

-- a proposal
abbrev pub proposal_input : CheckedView ProposalView → rulings.Input
proposal_input p =
    let core : Core = frame_core (proposal_of p.view) in
    let q : Certificate = frame_certificate (proposal_of p.view) in
    rulings.proposal_in (frame_view (proposal_of p.view)) core q (findings (identity_of p.keys) core q)

-- a block that was asked for
abbrev pub block_input : CheckedView BlockView → rulings.Input
block_input b =
    let core : Core = frame_core (block_of b.view) in
    let q : Certificate = frame_certificate (block_of b.view) in
    rulings.block_in (frame_replica (block_of b.view)) core q (findings (identity_of b.keys) core q)

-- a proposal whose certificate needn't be good
abbrev pub offered_proposal : CheckedView ProposalView → rulings.Input
offered_proposal p =
    let core : Core = frame_core (proposal_of p.view) in
    let q : Certificate = frame_certificate (proposal_of p.view) in
    let view = frame_view (proposal_of p.view) in
    rulings.offered_in (Some view) (leader p.keys.sizes view) core q (findings (identity_of p.keys) core q)

-- a block that was asked for, whose certificate needn't be good
abbrev pub offered_block : CheckedView BlockView → rulings.Input
offered_block b =
    let core : Core = frame_core (block_of b.view) in
    let q : Certificate = frame_certificate (block_of b.view) in
    rulings.offered_in None (frame_replica (block_of b.view)) core q (findings (identity_of b.keys) core q)

-- a block that several replicas sent
abbrev pub relayed_block : Gathered → rulings.Input
relayed_block g =
    let core : Core = frame_core (block_of g.first.view) in
    let q : Certificate = frame_certificate (block_of g.first.view) in
    rulings.relayed_in g.senders core q (findings (identity_of g.first.keys) core q)

-- what is taken in
abbrev pub input_of : Input → rulings.Input
input_of (Proposal p) = proposal_input p
input_of (Block b) = block_input b
input_of (AVote b) = rulings.vote_in (frame_digest (vote_frame_of b.view)) (frame_vote (vote_frame_of b.view))
input_of (NewView n) = rulings.new_view_in (frame_view (new_view_of n.view))
    (frame_replica (new_view_of n.view)) (frame_certificate (new_view_of n.view))
input_of (Request r) = rulings.request_in (command_of r.view)
input_of (Fetch f) = rulings.fetch_in (frame_replica (fetch_of f.view)) (frame_digest (fetch_of f.view))
input_of Timeout = rulings.timeout_in
input_of Beat = rulings.beat_in
input_of (Prune height) = rulings.prune_in height
input_of (OfferedProposal p) = offered_proposal p
input_of (OfferedBlock b) = offered_block b
input_of (SeenView n) =
    rulings.view_in (frame_view (new_view_of n.view)) (frame_replica (new_view_of n.view))
input_of (Relayed copies) = relayed_block copies
input_of (Lead block) = rulings.lead_in block
input_of (Ask replica block) = rulings.ask_in replica block

-- the same sizes
abbrev pub same_sizes : Sizes → Sizes → Bool
same_sizes a b = (a.faults == b.faults) && (a.clients == b.clients) && (a.most_keys == b.most_keys)

-- they are for the same replica at the same sizes
abbrev pub same_replica : Keys → Keys → Bool
same_replica a b = (a.party == b.party) && same_sizes a.sizes b.sizes

-- the input was checked for the replica of these keys, at its sizes, or else is for anyone; who is to be
-- asked is a replica
abbrev pub is_addressed : Keys → Input → Bool
is_addressed keys (Proposal p) = same_replica p.keys keys
is_addressed keys (Block b) = same_replica b.keys keys
is_addressed keys (AVote b) = same_replica b.keys keys
is_addressed keys (NewView n) = same_replica n.keys keys
is_addressed keys (Request r) = same_replica r.keys keys
is_addressed keys (Fetch f) = same_replica f.keys keys
is_addressed keys Timeout = true
is_addressed keys Beat = true
is_addressed keys (Prune height) = true
is_addressed keys (OfferedProposal p) = same_replica p.keys keys
is_addressed keys (OfferedBlock b) = same_replica b.keys keys
is_addressed keys (SeenView n) = same_replica n.keys keys
is_addressed keys (Relayed copies) = same_replica copies.first.keys keys
is_addressed keys (Lead block) = true
is_addressed keys (Ask replica block) = nat_lt replica (replicas keys.sizes)
