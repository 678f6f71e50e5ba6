-- Copies of a block that several replicas sent.
use Rattle.std.specs.Prelude.{ℕ, Bool, List}
use Rattle.definitions.specs.Frames.{Frame}
use Rattle.definitions.specs.Checks.{identity_of}
use Rattle.definitions.specs.Admission.{is_copy}
use Rattle.frames_view.specs.declared.frame_views.BlockView.{BlockView}
use Rattle.frames_view.specs.Fields.{frame_core, frame_certificate}
use Rattle.frames_view.specs.Views.{block_of}
use Rattle.certificates.specs.Outcomes.{CheckedView}

-- the first copy, and who sent one, in order
pub record Gathered : Type 0 where
  pub first : CheckedView BlockView
  pub senders : List ℕ

-- the frame is a copy of the block of the first
abbrev pub is_another : Gathered → Frame → Bool
is_another g f =
    is_copy (identity_of g.first.keys) (frame_core (block_of g.first.view))
    (frame_certificate (block_of g.first.view)) f
