-- The parts of what is taken in, as the state keeps them.
use Rattle.std.specs.Prelude.{ℕ, Bool, true, false, List, [], Some, None, ⊤}
use Rattle.ids.specs.Sizes.{Sizes}
use Rattle.definitions.specs.Frames.{Core, Certificate}
use Rattle.definitions.specs.FrameLimits.{IsVote, IsCertificate, IsCore}
use Rattle.definitions.specs.Checks.{findings, is_clear_core, identity_of}
use Rattle.definitions.specs.Rulings as rulings
use Rattle.certificates.specs.Outcomes.{CheckedView}
use Rattle.frames_view.specs.declared.frame_views.ProposalView.{ProposalView}
use Rattle.frames_view.specs.declared.frame_views.BlockView.{BlockView}
use Rattle.frames_view.specs.declared.frame_views.NewViewView.{NewViewView}
use Rattle.frames_view.specs.declared.frame_views.FetchView.{FetchView}
use Rattle.frames_view.specs.Fields.{frame_view, frame_replica, frame_core, frame_certificate, frame_digest}
use Rattle.frames_view.specs.Views.{proposal_of, block_of, new_view_of, fetch_of}
use Rattle.admission.specs.declared.input.Input.{Input}
use Rattle.admission.specs.declared.input.Input.TheVariants.{Prune}
use Rattle.replica.specs.declared.stored.GotNewView.{GotNewView}
use Rattle.replica.specs.declared.stored.GotFetch.{GotFetch}
use Rattle.replica.specs.declared.stored.SeenView.{SeenView}
use Rattle.replica.specs.Offers.{Offered}

-- a proposed block, with what its check found
abbrev pub proposal_offered : CheckedView ProposalView → Offered
proposal_offered p =
    let core : Core = frame_core (proposal_of p.view) in
    let q : Certificate = frame_certificate (proposal_of p.view) in
    record {
      core = core;
      certificate = q;
      found = findings (identity_of p.keys) core q;
      senders = [];
      view = Some (frame_view (proposal_of p.view));
    }

-- a block that was asked for
abbrev pub block_offered : CheckedView BlockView → Offered
block_offered b =
    let core : Core = frame_core (block_of b.view) in
    let q : Certificate = frame_certificate (block_of b.view) in
    record {
      core = core;
      certificate = q;
      found = findings (identity_of b.keys) core q;
      senders = [];
      view = None;
    }

-- a proposed block whose certificate needn't be good
abbrev pub tagged_proposal : CheckedView ProposalView → Offered
tagged_proposal p =
    let core : Core = frame_core (proposal_of p.view) in
    record {
      core = core;
      certificate = frame_certificate (proposal_of p.view);
      found = record { counted = []; clear = is_clear_core (identity_of p.keys) core };
      senders = [];
      view = Some (frame_view (proposal_of p.view));
    }

-- a block that these sent, or that was asked for, whose certificate needn't be good
abbrev pub tagged_block : List ℕ → CheckedView BlockView → Offered
tagged_block senders b =
    let core : Core = frame_core (block_of b.view) in
    record {
      core = core;
      certificate = frame_certificate (block_of b.view);
      found = record { counted = []; clear = is_clear_core (identity_of b.keys) core };
      senders = senders;
      view = None;
    }

-- what a view announces
abbrev pub announced_by : NewViewView → GotNewView
announced_by n = record {
  view = frame_view (new_view_of n);
  sender = frame_replica (new_view_of n);
  certificate = frame_certificate (new_view_of n);
}

-- the view alone
abbrev pub seen_in : NewViewView → SeenView
seen_in n = record { view = frame_view (new_view_of n); sender = frame_replica (new_view_of n) }

-- what is asked for
abbrev pub asked_by : FetchView → GotFetch
asked_by f = record { sender = frame_replica (fetch_of f); block = frame_digest (fetch_of f) }

-- leave to prune
abbrev pub prunes : Input → Bool
prunes (Prune height) = true
prunes i = false

-- what comes is of a frame at these sizes
abbrev pub IsFitInput : Sizes → rulings.Input → Type 0
IsFitInput sizes (rulings.proposal_in w core q found) = IsCore sizes core × IsCertificate sizes q
IsFitInput sizes (rulings.block_in sender core q found) = IsCore sizes core × IsCertificate sizes q
IsFitInput sizes (rulings.vote_in d b) = IsVote sizes b
IsFitInput sizes (rulings.new_view_in w sender q) = IsCertificate sizes q
IsFitInput sizes (rulings.offered_in w sender core q found) = IsCore sizes core × IsCertificate sizes q
IsFitInput sizes (rulings.relayed_in senders core q found) = IsCore sizes core × IsCertificate sizes q
IsFitInput sizes i = ⊤
