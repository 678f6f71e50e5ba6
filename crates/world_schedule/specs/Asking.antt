-- What a replica answers, and what it asks for where a block was lacking.
use Rattle.ids.specs.declared.fault.Fault.{Fault}
use Rattle.ids.specs.declared.fault.Fault.TheVariants as fault
use Rattle.std.specs.Prelude.{ℕ, ◌≡◌, Bool, true, false, List, [], map, Option, Some, None, Result, Ok, Err}
use Rattle.std.specs.List.{flat_map}
use Rattle.std.specs.Borrow.{Bor}
use Rattle.definitions.specs.Bytes.{Bytes}
use Rattle.definitions.specs.Frames.{Frame}
use Rattle.definitions.specs.FrameLimits.{IsReadAs}
use Rattle.definitions.specs.Checks.{Identity}
use Rattle.definitions.specs.Admission.{Checked, check, check_offer, check_gathered}
use Rattle.definitions.specs.Events.{listed}
use Rattle.definitions.specs.Replicas.{MemorySupply, Replica, asks_for}
use Rattle.admission.specs.Gathering.{AreReadAs}
use Rattle.signed_frames.specs.Outs.{SentBytes, sent_of}
use Rattle.replica.specs.Steps.{Shows}
use Rattle.world_schedule.specs.Turns.{admits, checked, TellsReaction}
use Rattle.world_schedule.specs.declared.effect.Effect.{Effect}
use Rattle.world_schedule.specs.declared.way.Way.{Way}
use Rattle.world_schedule.specs.declared.way.Way.TheVariants.{Brought, Offered}

-- the checks that bytes meet that come this way
abbrev pub checks_of : Way → Identity → Frame → Checked
checks_of Brought = check
checks_of Offered = check_offer

-- what a replica answers to what was checked
pub record AnswersTo (self : Identity) (x : Checked) (old new : Replica)
    (result : Result (List SentBytes) Fault)
    : Type 0 where
  pub memory : MemorySupply
  pub state : new ≡ (admits self memory x old).0
  pub answer : Shows (admits self memory x old).1 result

-- what it answers to bytes, where it makes these checks
pub record Answers (checks : Identity → Frame → Checked) (self : Identity) (bytes : Bytes) (old new : Replica)
    (result : Result (List SentBytes) Fault)
    : Type 0 where
  pub read : Option Frame
  pub is_read : IsReadAs self.sizes bytes read
  pub answers : AnswersTo self (checked checks self read) old new result

-- what it answers to frames that come together
pub record AnswersCopies (self : Identity) (frames : List (Bor Bytes)) (old new : Replica)
    (result : Result (List SentBytes) Fault)
    : Type 0 where
  pub reads : List (Option Frame)
  pub are_read : AreReadAs self.sizes frames reads
  pub answers : AnswersTo self (check_gathered self (flat_map listed reads)) old new result

-- the effect is a question to a replica for a block, with some choice of memory
pub record Asks (self : Identity) (to : ℕ) (block : Bytes) (e : Effect) : Type 0 where
  pub memory : MemorySupply
  pub tells : TellsReaction self memory (asks_for to block) e

-- the effect is a refusal alone
pub record OnlyRefuses (n : Fault) (e : Effect) : Type 0 where
  pub out : e.out.items ≡ []
  pub accepted : e.accepted ≡ None
  pub answer : e.answer ≡ Some n

-- the refusal for want of a block
abbrev pub is_lack : Fault → Bool
is_lack fault.UnknownParent = true
is_lack n = false

-- what is told of a refusal: a question where this block was lacking, and else the refusal alone
pub record Refuses (self : Identity) (lack : Option (ℕ × Bytes)) (n : Fault) (e : Effect) : Type 0 where
  pub asks : (to : ℕ) (block : Bytes) → lack ≡ Some (to, block) → n ≡ fault.UnknownParent
      → Asks self to block e
  pub only : (n ≡ fault.UnknownParent → lack ≡ None) → OnlyRefuses n e

-- what is told of an answer, where this block may have been lacking
abbrev pub TellsAnswer : Identity → Option (ℕ × Bytes) → Result (List SentBytes) Fault → Effect → Type 0
TellsAnswer self lack (Ok sent) e =
    (map sent_of e.out.items ≡ sent) × (e.accepted ≡ None) × (e.answer ≡ None)
TellsAnswer self lack (Err n) e = Refuses self lack n e
