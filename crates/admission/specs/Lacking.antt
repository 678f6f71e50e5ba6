-- Whom to ask for the block that a frame lacks.
use Rattle.std.specs.Prelude.{ℕ, ◌≡◌, Option, Some, None}
use Rattle.ids.specs.Sizes.{Sizes, leader}
use Rattle.definitions.specs.Bytes.{Bytes}
use Rattle.definitions.specs.Frames.{Frame, request, proposal, vote, new_view, reply, fetch, block}
use Rattle.definitions.specs.FrameLimits.{IsReadAs}

-- the sender of a frame, and the block without which a replica can't take it: the parent of the frame's
-- block, or the block that is voted for or certified
abbrev pub lacked : Sizes → Frame → Option (ℕ × Bytes)
lacked sizes (proposal view core q vector) = Some (leader sizes view, core.parent)
lacked sizes (block sender core q tag) = Some (sender, core.parent)
lacked sizes (vote digest v) = Some (v.voter, digest)
lacked sizes (new_view view sender q vector) = Some (sender, q.digest)
lacked sizes (request c) = None
lacked sizes (reply replica client seq place text tag) = None
lacked sizes (fetch sender digest tag) = None

-- what is read of bytes lacks it
abbrev pub lacked_by : Sizes → Option Frame → Option (ℕ × Bytes)
lacked_by sizes None = None
lacked_by sizes (Some f) = lacked sizes f

-- it is what the bytes lack, as they are read
abbrev pub IsLackedBy : Sizes → Bytes → Option (ℕ × Bytes) → Type 0
IsLackedBy sizes bytes lack =
    (frame : Option Frame) × IsReadAs sizes bytes frame × (lack ≡ lacked_by sizes frame)
