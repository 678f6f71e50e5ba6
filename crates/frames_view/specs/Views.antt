-- What the views say.
use Rattle.std.specs.Prelude.{◌≡◌, List, Option, option_map}
use Rattle.definitions.specs.Frames as frames
use Rattle.definitions.specs.Frames.{Command, Vote}
use Rattle.frames_view.specs.declared.views.VoteView.{VoteView}
use Rattle.frames_view.specs.declared.views.CommandView.{CommandView}
use Rattle.frames_view.specs.declared.views.Votes.{Votes}
use Rattle.frames_view.specs.declared.views.Commands.{Commands}
use Rattle.frames_view.specs.declared.frame_views.ProposalView.{ProposalView}
use Rattle.frames_view.specs.declared.frame_views.VoteFrameView.{VoteFrameView}
use Rattle.frames_view.specs.declared.frame_views.NewViewView.{NewViewView}
use Rattle.frames_view.specs.declared.frame_views.ReplyView.{ReplyView}
use Rattle.frames_view.specs.declared.frame_views.FetchView.{FetchView}
use Rattle.frames_view.specs.declared.frame_views.BlockView.{BlockView}
use Rattle.frames_view.specs.declared.frame_views.Frame.{Frame}
use Rattle.frames_view.specs.declared.frame_views.Frame.TheVariants.{Request, Proposal, Vote as AVote}
use Rattle.frames_view.specs.declared.frame_views.Frame.TheVariants.{NewView, Reply, Fetch, Block}
use Rattle.frames_view.specs.Readings.{elements}
use Rattle.frames_view.specs.Parts.{vote_in, command_in}
pub use Rattle.frames_view.specs.PartViews.{core_of, certificate_of}

-- what was read, seen so, is what reading gives
abbrev pub Gives : {X Y : Type 0} → (X → Y) → Option X → Option Y → Type 0
Gives view result read = option_map view result ≡ read

-- the vote that a view shows
abbrev pub vote_of : VoteView → Vote
vote_of v = record { voter = v.voter; vector = v.vector.now }

-- the command that a view shows
abbrev pub command_of : CommandView → Command
command_of c = record { client = c.client; seq = c.seq; payload = c.payload.now; vector = c.vector.now }

-- the frame that a view shows
abbrev pub proposal_of : ProposalView → frames.Frame
proposal_of f = frames.proposal f.view (core_of f.core) (certificate_of f.certificate) f.vector.now

abbrev pub vote_frame_of : VoteFrameView → frames.Frame
vote_frame_of f = frames.vote f.digest.now (vote_of f.vote)

abbrev pub new_view_of : NewViewView → frames.Frame
new_view_of f = frames.new_view f.view f.sender (certificate_of f.certificate) f.vector.now

abbrev pub reply_of : ReplyView → frames.Frame
reply_of f = frames.reply f.replica f.client f.seq f.place f.text.now f.tag.now

abbrev pub fetch_of : FetchView → frames.Frame
fetch_of f = frames.fetch f.sender f.digest.now f.tag.now

abbrev pub block_of : BlockView → frames.Frame
block_of f = frames.block f.sender (core_of f.core) (certificate_of f.certificate) f.tag.now

abbrev pub frame_of : Frame → frames.Frame
frame_of (Request c) = frames.request (command_of c)
frame_of (Proposal f) = proposal_of f
frame_of (AVote f) = vote_frame_of f
frame_of (NewView f) = new_view_of f
frame_of (Reply f) = reply_of f
frame_of (Fetch f) = fetch_of f
frame_of (Block f) = block_of f

-- the votes that an iterator has still to give
abbrev pub votes_left : Votes → List Vote
votes_left v = elements (vote_in v.replicas) v.count v.rest.now

-- the commands that an iterator has still to give
abbrev pub commands_left : Commands → List Command
commands_left c = elements (command_in c.replicas c.clients) c.count c.rest.now
