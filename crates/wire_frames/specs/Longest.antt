-- How long the frames of a deployment can be.
use Rattle.std.specs.Prelude.{◌≡◌, ℕ, ◌+◌, ◌*◌, ◌≤◌, nat_le, length, if◌then◌else◌}
use Rattle.ids.specs.Sizes.{Sizes, AreSizes, replicas, quorum}
use Rattle.ids.specs.declared.limits.TheConstants.{MOST_COMMANDS, MOST_PAYLOAD, MOST_FAULTS_OF_VERSION_ONE}
use Rattle.definitions.specs.Bytes.{Bytes}
use Rattle.definitions.specs.Frames.{Frame}
use Rattle.definitions.specs.FrameLimits.{Spells}
use Rattle.definitions.specs.Tags.{tag_len}
use Rattle.wire_frames.specs.declared.longest.TheConstants.{MOST_BEFORE}

-- a tag for each replica
abbrev pub vector_len : Sizes → ℕ
vector_len sizes = tag_len * replicas sizes

-- the longest command: client, number, length, payload and vector
abbrev pub command_len : Sizes → ℕ
command_len sizes = 2 + 8 + 2 + MOST_PAYLOAD + vector_len sizes

-- the most votes that a certificate has in a frame: all replicas' in version 1, where that is read
abbrev pub most_votes : Sizes → ℕ
most_votes sizes =
    if nat_le sizes.faults MOST_FAULTS_OF_VERSION_ONE then replicas sizes else quorum sizes

-- the bytes before a frame's middle in that version: its kind, in version 2 behind the mark
abbrev pub longest_head : Sizes → ℕ
longest_head sizes = if nat_le sizes.faults MOST_FAULTS_OF_VERSION_ONE then 1 else 2

-- The longest frame at these sizes is a proposal: its head, view, parent, two heights and count of commands, the
-- commands, the certificate's digest and count of votes, the votes, and its vector.
abbrev pub longest_frame : Sizes → ℕ
longest_frame sizes = longest_head sizes + 8 + (32 + 8 + 8 + 1) + MOST_COMMANDS * command_len sizes
    + (32 + 1) + most_votes sizes * (2 + vector_len sizes) + vector_len sizes

-- the longest item on a wire: the longest frame, with what may stand before it
abbrev pub longest_item : Sizes → ℕ
longest_item sizes = longest_frame sizes + MOST_BEFORE

-- Bytes that spell a frame at these sizes, in either version, have at most so many bytes.
abbrev pub NoneIsLonger : Type 0
NoneIsLonger = (sizes : Sizes) (bytes : Bytes) (frame : Frame) → AreSizes sizes
    → Spells sizes bytes frame → length bytes ≤ longest_frame sizes

-- Some do have so many.
abbrev pub OneIsAsLong : Type 0
OneIsAsLong = (sizes : Sizes) → AreSizes sizes
    → (bytes : Bytes) × (frame : Frame) × Spells sizes bytes frame × (length bytes ≡ longest_frame sizes)
