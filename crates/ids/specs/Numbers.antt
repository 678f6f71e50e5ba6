-- The numbers of refusals, and the numbers and names of kinds of frames.
use Rattle.std.specs.Prelude.{ℕ, ◌==◌, List, [], ◌∷◌, find, Option, codes}
use Rattle.ids.specs.declared.fault.Fault.{Fault}
use Rattle.ids.specs.declared.fault.Fault.TheVariants.{BadSize, UnknownName, BadFields, TooLarge, BadChunk}
use Rattle.ids.specs.declared.fault.Fault.TheVariants.{LineTooLong, FeedFull, NotAFrame, BadTag}
use Rattle.ids.specs.declared.fault.Fault.TheVariants.{WrongJustify, UnknownParent, BadHeight, Crowded}
use Rattle.ids.specs.declared.fault.Fault.TheVariants.{PoolFull, Full, Conflict, Memory, Stopped, NotMine}
use Rattle.ids.specs.declared.fault.Fault.TheVariants.{WrongSeq, Doubled, Busy, Spent, NoSuchFrame}
use Rattle.ids.specs.declared.fault.Fault.TheVariants.{NoSuchParty, NotARequest, TooManyFaulty, TooFew}
use Rattle.ids.specs.declared.fault.Fault.TheVariants.{NotAll, BadKeys, ReadFailed, WriteFailed}
use Rattle.ids.specs.declared.fault.Fault.TheVariants.{AcceptFailed, Pruned}
use Rattle.ids.specs.declared.kind.Kind.{Kind}
use Rattle.ids.specs.declared.kind.Kind.TheVariants.{Request, Proposal, Vote, NewView, Reply, Fetch, Block}
use Rattle.ids.specs.declared.line_fault.LineFault.{LineFault}
use Rattle.ids.specs.declared.line_fault.LineFault.TheVariants as line

-- the number of a refusal
abbrev pub fault_number : Fault → ℕ
fault_number BadSize = 1
fault_number UnknownName = 2
fault_number BadFields = 3
fault_number TooLarge = 4
fault_number BadChunk = 5
fault_number LineTooLong = 6
fault_number FeedFull = 7
fault_number NotAFrame = 10
fault_number BadTag = 11
fault_number WrongJustify = 12
fault_number UnknownParent = 13
fault_number BadHeight = 14
fault_number Crowded = 15
fault_number PoolFull = 16
fault_number Full = 17
fault_number Conflict = 18
fault_number Memory = 19
fault_number Stopped = 20
fault_number Pruned = 21
fault_number NotMine = 30
fault_number WrongSeq = 31
fault_number Doubled = 32
fault_number Busy = 33
fault_number Spent = 34
fault_number NoSuchFrame = 40
fault_number NoSuchParty = 41
fault_number NotARequest = 42
fault_number TooManyFaulty = 43
fault_number TooFew = 44
fault_number NotAll = 45
fault_number BadKeys = 46
fault_number ReadFailed = 50
fault_number WriteFailed = 51
fault_number AcceptFailed = 52

-- what is wrong with a request line, as a refusal
abbrev pub fault_of_line : LineFault → Fault
fault_of_line line.UnknownName = UnknownName
fault_of_line line.BadFields = BadFields
fault_of_line line.TooLarge = TooLarge
fault_of_line line.BadChunk = BadChunk
fault_of_line line.LineTooLong = LineTooLong

-- the first byte of a frame of this kind, which is also the label of its tags
abbrev pub kind_number : Kind → ℕ
kind_number Request = 1
kind_number Proposal = 2
kind_number Vote = 3
kind_number NewView = 4
kind_number Reply = 5
kind_number Fetch = 6
kind_number Block = 7

-- all kinds, and the one of a number
abbrev pub kinds : List Kind
kinds = Request ∷ Proposal ∷ Vote ∷ NewView ∷ Reply ∷ Fetch ∷ Block ∷ []

abbrev pub kind_numbered : ℕ → Option Kind
kind_numbered number = find (λ kind. kind_number kind == number) kinds

-- how it is named
abbrev pub kind_name : Kind → List ℕ
kind_name Request = codes "Request"
kind_name Proposal = codes "Proposal"
kind_name Vote = codes "Vote"
kind_name NewView = codes "NewView"
kind_name Reply = codes "Reply"
kind_name Fetch = codes "Fetch"
kind_name Block = codes "Block"
