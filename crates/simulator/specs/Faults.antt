-- Why a text has no schedule, or a schedule no outcome.
use Rattle.std.specs.Prelude.{◌≡◌, ◌⊎◌, ℕ, Option, Some, None, IfSome}
use Rattle.std.specs.declared.io.ErrorKind.{ErrorKind}
use Rattle.std.specs.declared.io.ErrorKind.TheVariants.{OutOfMemory}
use Rattle.ids.specs.declared.fault.Fault as refusal
use Rattle.ids.specs.declared.fault.Fault.TheVariants.{Memory, BadSize, ReadFailed, WriteFailed}
use Rattle.ids.specs.Sizes.{AreSizes}
use Rattle.definitions.specs.Bytes.{Bytes}
use Rattle.world_schedule.specs.Settings.{why_not}
use Rattle.world_schedule.specs.Schedules.{IsRefusedFor}
use Rattle.simulator.specs.Schedules.{IsFirstBadLine, IsTextOf}
use Rattle.simulator.specs.Simulations.{setting_of, sizes_of}
use Rattle.simulator.specs.declared.lines.Heading.{Heading}
use Rattle.simulator.specs.declared.schedule.Schedule.{Schedule}
use Rattle.simulator.specs.declared.words.NotRead.{NotRead}
use Rattle.simulator.specs.declared.words.NotRead.TheVariants as not_read
use Rattle.simulator.specs.declared.sim_fault.SimFault.{SimFault}
use Rattle.simulator.specs.declared.sim_fault.SimFault.TheVariants.{Line, Fault}

-- the fault is the text's first bad line, or out of memory
abbrev pub IsWhyNot : Bytes → SimFault → Type 0
IsWhyNot text (Line number) = IsFirstBadLine text number
IsWhyNot text (Fault fault) = fault ≡ Memory

-- the fault of a line that gave nothing
abbrev pub fault_of_line : NotRead → ℕ → SimFault
fault_of_line not_read.Bad number = Line number
fault_of_line not_read.Memory number = Fault Memory

-- why a heading has no world: for want of memory; or its sizes are out of their limits; or else a faulty party
-- isn't there, or more replicas are faulty than are tolerated
abbrev pub IsWhyNoWorld : Heading → refusal.Fault → Type 0
IsWhyNoWorld h fault =
    (fault ≡ Memory)
    ⊎ (AreSizes (sizes_of h) → ⊥) × (fault ≡ BadSize)
    ⊎ AreSizes (sizes_of h) × (why_not (sizes_of h) h.faulty.items ≡ Some fault)

-- why a schedule has no run: its heading has no world; or else for the first event that is refused
abbrev pub IsWhyNoRun : Schedule → refusal.Fault → Type 0
IsWhyNoRun s fault =
    IsWhyNoWorld s.heading fault
    ⊎ AreSizes (sizes_of s.heading) × (why_not (sizes_of s.heading) s.heading.faulty.items ≡ None)
    × IsRefusedFor (setting_of s.heading) s.events.items fault

-- Why what a reader gives has no outcome, as far as its bytes are known: a line that is named is the text's
-- first bad one; else memory, the reader or the writer failed, or the text is a schedule that has no run.
abbrev pub IsWhyNoOutcome : Option Bytes → SimFault → Type 0
IsWhyNoOutcome known (Line number) = IfSome known (λ text. IsFirstBadLine text number)
IsWhyNoOutcome known (Fault fault) =
    (fault ≡ Memory) ⊎ (fault ≡ ReadFailed) ⊎ (fault ≡ WriteFailed)
    ⊎ (s : Schedule) × IfSome known (IsTextOf s) × IsWhyNoRun s fault

-- a reader's error, as a refusal: out of memory is told apart
abbrev pub read_fault_of : ErrorKind → refusal.Fault
read_fault_of OutOfMemory = Memory
read_fault_of _ = ReadFailed
