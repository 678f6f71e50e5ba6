-- What is told of a run.
use Rattle.std.specs.Prelude.{ℕ, ◌≡◌, not, List, map, filter, reverse}
use Rattle.std.specs.List.{range_with_len}
use Rattle.ids.specs.Sizes.{replicas}
use Rattle.definitions.specs.Replicas.{held_history}
use Rattle.definitions.specs.Worlds.{World, Sent, AcceptedBy, is_correct}
use Rattle.replica.specs.Steps.{bytes_of}
use Rattle.replica.specs.Steps as steps
use Rattle.signed_frames.specs.Outs.{SentBytes, to_of}
use Rattle.world_schedule.specs.Told.{Told}
use Rattle.world_schedule.specs.Settings.{Setting, is_faulty_in}
use Rattle.world_schedule.specs.declared.outcome.SentFrame.{SentFrame}
use Rattle.world_schedule.specs.declared.outcome.Accepted.{Accepted}
use Rattle.world_schedule.specs.declared.outcome.Outcome.{Outcome}

-- an event, and the bytes that were sent in it with their kind and destination
abbrev pub Shown : Type 0
Shown = ℕ × SentBytes

-- as a frame is told
abbrev pub shown_frame : SentFrame → Shown
shown_frame f = (f.event, (to_of f.to, f.kind, f.frame.items))

-- as the definitions have it: the frame is spelled
abbrev pub shown_sent : Sent → Shown
shown_sent s = (s.event, bytes_of (s.to, s.frame))

-- a receipt as it is told
abbrev pub accepted_by : Accepted → AcceptedBy
accepted_by a = record { event = a.event; client = a.client; receipt = a.receipt }

-- what a replica of the world executed
abbrev pub told_of : World → ℕ → Told
told_of w i = record { replica = i; history = held_history (w.replica i) }

-- what the correct replicas executed, by their numbers
abbrev pub histories_of : World → List Told
histories_of w = map (told_of w) (filter (is_correct w) (range_with_len 0 (replicas w.sizes)))

-- what those of these replicas executed that are correct
abbrev pub told_by : Setting → List steps.Held → List Told
told_by s held = map (λ h. record { replica = h.keys.party; history = held_history h.replica })
    (filter (λ h. not (is_faulty_in s h.keys.party)) held)

-- an outcome tells of the world at the end of a run: the record, the answers, the receipts and the histories
pub record TellsOf (w : World) (o : Outcome) : Type 0 where
  pub frames : map shown_frame o.frames.items ≡ map shown_sent w.sent
  pub answers : o.answers.items ≡ reverse w.answers
  pub receipts : map accepted_by o.receipts.items ≡ reverse w.receipts
  pub histories : o.histories.items ≡ histories_of w
