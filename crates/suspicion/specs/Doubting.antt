-- What is wrong with a frame that a replica refuses.
use Rattle.std.specs.Prelude.{◌≡◌, ◌==◌, ◌&&◌, ◌<◌, ℕ, Bool, List, Some, false, true, not}
use Rattle.std.specs.List.{list_any}
use Rattle.ids.specs.declared.limits.TheConstants.{MOST_REPLICAS}
use Rattle.definitions.specs.Admission.{own_tag_verifies}
use Rattle.definitions.specs.Bytes.{Bytes}
use Rattle.definitions.specs.Checks.{identity_of, is_good, vote_verifies}
use Rattle.definitions.specs.Frames.{Certificate, Frame, Vote, sender_of}
use Rattle.definitions.specs.Keyrings.{Keys}
use Rattle.definitions.specs.FrameLimits.{IsReadAs}
use Rattle.suspicion.specs.ReplicaSets.{is_in, size}
use Rattle.frames_view.specs.Fields.{frame_certificate}
use Rattle.suspicion.specs.declared.doubts.Doubt.{Doubt}

-- one of these votes is a replica's, and isn't right for the holder of the keys
abbrev pub is_wrong_among : Keys → (digest : Bytes) → List Vote → (voter : ℕ) → Bool
is_wrong_among keys digest votes voter =
    list_any (λ vote. (voter == vote.voter) && not (vote_verifies (identity_of keys) digest vote)) votes

abbrev pub is_wrong : Keys → Certificate → (voter : ℕ) → Bool
is_wrong keys q voter = is_wrong_among keys q.digest q.votes voter

-- Its sender made it, and its certificate isn't right for the holder of the keys; whose votes in it aren't is told, and some
-- aren't.
pub record IsDoubt (keys : Keys) (f : Frame) (doubt : Doubt) : Type 0 where
  pub sender : doubt.sender ≡ sender_of keys.sizes f
  pub own : own_tag_verifies (identity_of keys) f ≡ true
  pub certificate : is_good (identity_of keys) (frame_certificate f) ≡ false
  pub wrong : (voter : ℕ) → voter < MOST_REPLICAS → is_in doubt.wrong voter ≡ is_wrong keys (frame_certificate f) voter
  pub some : 0 < size doubt.wrong

-- the bytes are such a frame
pub record IsDoubtIn (keys : Keys) (bytes : Bytes) (doubt : Doubt) : Type 0 where
  pub frame : Frame
  pub read : IsReadAs keys.sizes bytes (Some frame)
  pub is : IsDoubt keys frame doubt
