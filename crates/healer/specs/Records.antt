-- Frames of the record by their kind.
use Rattle.ids.specs.Numbers.{kind_number}
use Rattle.ids.specs.declared.kind.Kind.{Kind}
use Rattle.std.specs.Prelude.{◌≡◌, ◌==◌, Bool, true, false, Option, Some, None}
use Rattle.definitions.specs.Frames.{Frame, kind_of}
use Rattle.definitions.specs.Worlds.{Sent}
use Rattle.signed_frames.specs.declared.out.To.{To}
use Rattle.signed_frames.specs.Outs.{to_of}

-- the frame is of this kind
abbrev pub is_of : Kind → Frame → Bool
is_of kind f = kind_number (kind_of f) == kind_number kind

-- to whom a frame of the record goes, or that it isn't of this kind
abbrev pub GoesTo : Kind → Sent → Option To → Type 0
GoesTo kind s None = is_of kind s.frame ≡ false
GoesTo kind s (Some to) = (is_of kind s.frame ≡ true) × (to_of to ≡ s.to)
