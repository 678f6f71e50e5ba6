-- A frame that was read, and the bytes that spell it.
use Rattle.std.specs.Borrow.{Bor}
use Rattle.ids.specs.Sizes.{Sizes}
use Rattle.definitions.specs.Bytes.{Bytes}
use Rattle.frames_view.specs.declared.frame_views.Frame.{Frame}

-- the frame, the bytes, and the sizes at which they spell it
pub record FrameRead : Type 0 where
  pub sizes : Sizes
  pub bytes : Bor Bytes
  pub frame : Frame
