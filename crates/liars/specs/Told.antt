-- What goes out in place of a frame.
use Rattle.std.specs.Prelude.{ℕ, List, [], ◌∷◌, map, Vec}
use Rattle.std.specs.Global.{Global}
use Rattle.definitions.specs.Bytes.{Bytes}
use Rattle.signed_frames.specs.Outs.{SentBytes, sent_of}
use Rattle.liars.specs.declared.lies.Lies.{Lies}

-- what is sent, and what a liar hands to its own replica
pub record Told : Type 0 where
  pub out : List SentBytes
  pub own : List Bytes

-- the bytes of frames
abbrev pub bytes_of : Vec ℕ Global → Bytes
bytes_of frame = frame.items

-- what a liar's answer says
abbrev pub told_by : Lies → Told
told_by lies = record { out = map sent_of lies.out.items; own = map bytes_of lies.own.items }

-- the frame as it is
abbrev pub as_it_is : SentBytes → Told
as_it_is sent = record { out = sent ∷ []; own = [] }
