-- Where the parts of a frame lie in the bytes that it was read from. A digest and one tag are told by their
-- bytes alone, and all else by its address too: nothing was copied.
use Rattle.std.specs.Prelude.{ℕ, ◌+◌, length}
use Rattle.std.specs.Borrow.{Bor}
use Rattle.definitions.specs.Bytes.{Bytes}
use Rattle.definitions.specs.Slices.{LiesAt, LentAt, LeftAt}
use Rattle.frames_view.specs.declared.core_fields.CoreFields.{CoreFields}
use Rattle.frames_view.specs.declared.views.VoteView.{VoteView}
use Rattle.frames_view.specs.declared.views.CertificateView.{CertificateView}
use Rattle.frames_view.specs.declared.views.CommandView.{CommandView}
use Rattle.frames_view.specs.declared.views.CoreView.{CoreView}
use Rattle.frames_view.specs.declared.frame_views.ProposalView.{ProposalView}
use Rattle.frames_view.specs.declared.frame_views.VoteFrameView.{VoteFrameView}
use Rattle.frames_view.specs.declared.frame_views.NewViewView.{NewViewView}
use Rattle.frames_view.specs.declared.frame_views.ReplyView.{ReplyView}
use Rattle.frames_view.specs.declared.frame_views.FetchView.{FetchView}
use Rattle.frames_view.specs.declared.frame_views.BlockView.{BlockView}
use Rattle.frames_view.specs.declared.frame_views.Frame.{Frame}
use Rattle.frames_view.specs.declared.frame_views.Frame.TheVariants.{Request, Proposal, Vote, NewView}
use Rattle.frames_view.specs.declared.frame_views.Frame.TheVariants.{Reply, Fetch, Block}

-- the part is the source's front, and the rest all that stands behind it
abbrev pub IsSplit : (source part rest : Bor Bytes) → Type 0
IsSplit source part rest = LentAt source 0 part × LeftAt source (length part.now) rest

-- ---- parts

-- a command: client, number and length before the payload, and the tags behind what they speak of
abbrev pub IsCommandAt : Bor Bytes → ℕ → CommandView → Type 0
IsCommandAt source place c = LentAt source place c.content × LentAt source (place + 12) c.payload
    × LentAt source (place + length c.content.now) c.vector

-- how many bytes it takes
abbrev pub command_len : CommandView → ℕ
command_len c = length c.content.now + length c.vector.now

-- a vote: the tags behind the voter
abbrev pub IsVoteAt : Bor Bytes → ℕ → VoteView → Type 0
IsVoteAt source place v = LentAt source (place + 2) v.vector

abbrev pub vote_len : VoteView → ℕ
vote_len v = 2 + length v.vector.now

-- the fields of a core: the digest of the parent, and the commands behind two heights and their number
abbrev pub AreFieldsAt : Bor Bytes → ℕ → CoreFields → Type 0
AreFieldsAt source place k = LiesAt source.now place k.parent.now × LentAt source (place + 49) k.commands

-- a core, raw and by its fields
abbrev pub IsCoreAt : Bor Bytes → ℕ → CoreView → Type 0
IsCoreAt source place k = LentAt source place k.raw × AreFieldsAt source place k.fields

-- a certificate: the digest, and the votes behind their number
abbrev pub IsCertificateAt : Bor Bytes → ℕ → CertificateView → Type 0
IsCertificateAt source place q = LiesAt source.now place q.digest.now × LentAt source (place + 33) q.votes

abbrev pub certificate_len : CertificateView → ℕ
certificate_len q = 33 + length q.votes.now

-- ---- frames, behind the number of their kind; the tags stand behind what they speak of

abbrev pub IsProposalAt : Bor Bytes → ℕ → ProposalView → Type 0
IsProposalAt source place f = LentAt source place f.content × IsCoreAt source (place + 8) f.core
    × IsCertificateAt source (place + 8 + length f.core.raw.now) f.certificate
    × LentAt source (place + length f.content.now) f.vector

abbrev pub IsVoteFrameAt : Bor Bytes → ℕ → VoteFrameView → Type 0
IsVoteFrameAt source place f = LiesAt source.now place f.digest.now × IsVoteAt source (place + 32) f.vote

abbrev pub IsNewViewAt : Bor Bytes → ℕ → NewViewView → Type 0
IsNewViewAt source place f = LentAt source place f.content × IsCertificateAt source (place + 10) f.certificate
    × LentAt source (place + length f.content.now) f.vector

abbrev pub IsReplyAt : Bor Bytes → ℕ → ReplyView → Type 0
IsReplyAt source place f = LentAt source place f.content × LentAt source (place + 24) f.text
    × LiesAt source.now (place + length f.content.now) f.tag.now

abbrev pub IsFetchAt : Bor Bytes → ℕ → FetchView → Type 0
IsFetchAt source place f = LentAt source place f.content × LiesAt source.now (place + 2) f.digest.now
    × LiesAt source.now (place + length f.content.now) f.tag.now

abbrev pub IsBlockAt : Bor Bytes → ℕ → BlockView → Type 0
IsBlockAt source place f = LentAt source place f.content × IsCoreAt source (place + 2) f.core
    × IsCertificateAt source (place + 2 + length f.core.raw.now) f.certificate
    × LiesAt source.now (place + length f.content.now) f.tag.now

-- a frame of any kind
abbrev pub IsFrameAt : Bor Bytes → ℕ → Frame → Type 0
IsFrameAt source place (Request c) = IsCommandAt source place c
IsFrameAt source place (Proposal f) = IsProposalAt source place f
IsFrameAt source place (Vote f) = IsVoteFrameAt source place f
IsFrameAt source place (NewView f) = IsNewViewAt source place f
IsFrameAt source place (Reply f) = IsReplyAt source place f
IsFrameAt source place (Fetch f) = IsFetchAt source place f
IsFrameAt source place (Block f) = IsBlockAt source place f
