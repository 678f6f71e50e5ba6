-- What is told of a run.
use Rattle.std.specs.Prelude.{ℕ, suc, ◌+◌, ◌==◌, not, List, [], ◌∷◌, ◌++◌, length, take, drop, codes}
use Rattle.std.specs.Prelude.{decimal, position, unwrap_or, Option, Some, None}
use Rattle.std.specs.List.{flat_map}
use Rattle.hex.specs.Hex.{encode_lower}
use Rattle.ids.specs.Numbers.{fault_number, kind_name}
use Rattle.ids.specs.declared.fault.Fault.{Fault}
use Rattle.definitions.specs.Bytes.{Bytes}
use Rattle.signed_frames.specs.declared.out.To.{To}
use Rattle.signed_frames.specs.declared.out.To.TheVariants.{All, Replica, Client}
use Rattle.world_schedule.specs.Told.{Told}
use Rattle.world_schedule.specs.declared.outcome.SentFrame.{SentFrame}
use Rattle.world_schedule.specs.declared.outcome.Accepted.{Accepted}
use Rattle.world_schedule.specs.declared.outcome.Outcome.{Outcome}
use Rattle.run_report.specs.Names.{replica_text, client_text}

-- a text, and the LF that ends its line
abbrev pub lf : Bytes
lf = 10 ∷ []

-- an event, and what it was answered: nothing, or a refusal
abbrev pub answer_text : ℕ → Option Fault → Bytes
answer_text event None = codes "e" ++ decimal event ++ codes " ok" ++ lf
answer_text event (Some fault) =
    codes "e" ++ decimal event ++ codes " fault " ++ decimal (fault_number fault) ++ lf

-- where a frame goes
abbrev pub destination_text : To → Bytes
destination_text All = codes "all"
destination_text (Replica r) = replica_text r
destination_text (Client c) = client_text c

-- a sent frame, by its number in the record
abbrev pub frame_text : ℕ → SentFrame → Bytes
frame_text number f =
    codes "f" ++ decimal number ++ codes " " ++ kind_name f.kind ++ codes " "
    ++ decimal (length f.frame.items) ++ codes " to " ++ destination_text f.to ++ lf

abbrev pub frames_text : ℕ → List SentFrame → Bytes
frames_text number [] = []
frames_text number (f ∷ fs) = frame_text number f ++ frames_text (suc number) fs

-- a receipt
abbrev pub receipt_text : Accepted → Bytes
receipt_text a =
    codes "accepted " ++ client_text a.client ++ codes " seq " ++ decimal a.receipt.seq ++ codes " place "
    ++ decimal a.receipt.place ++ codes " " ++ encode_lower a.receipt.text ++ lf

-- a replica, and the length of its history
abbrev pub history_text : Told → Bytes
history_text t = codes "h" ++ decimal t.replica ++ codes " " ++ decimal (length t.history) ++ lf

-- how many of these, from the first on, are of an event: as many as stand before the first of another, if
-- there is one
abbrev pub other_frame : ℕ → List SentFrame → Option ℕ
other_frame event frames = position (λ f. not (f.event == event)) frames

abbrev pub sent_in : ℕ → List SentFrame → ℕ
sent_in event frames = unwrap_or (other_frame event frames) (length frames)

abbrev pub other_receipt : ℕ → List Accepted → Option ℕ
other_receipt event receipts = position (λ a. not (a.event == event)) receipts

abbrev pub accepted_in : ℕ → List Accepted → ℕ
accepted_in event receipts = unwrap_or (other_receipt event receipts) (length receipts)

-- Events from one on, with what they were answered. Behind each stands what was sent in it, and then what
-- was accepted in it: of the frames that are left, with the number of the first of them, and of the
-- receipts that are left.
abbrev pub events_text : ℕ → ℕ → List (Option Fault) → List SentFrame → List Accepted → Bytes
events_text event number [] frames receipts = []
events_text event number (answer ∷ answers) frames receipts =
    answer_text event answer ++ frames_text number (take (sent_in event frames) frames)
    ++ flat_map receipt_text (take (accepted_in event receipts) receipts)
    ++ events_text (suc event) (number + sent_in event frames) answers (drop (sent_in event frames) frames)
    (drop (accepted_in event receipts) receipts)

-- all that is told of a run: its events, and then the histories
abbrev pub outcome_text : Outcome → Bytes
outcome_text o =
    events_text 1 0 o.answers.items o.frames.items o.receipts.items ++ flat_map history_text o.histories.items
