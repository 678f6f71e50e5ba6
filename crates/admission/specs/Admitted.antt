-- What the bytes of a frame bring to a replica.
use Rattle.std.specs.Prelude.{◌≡◌, IsTrue, Option, Some, None, Result, Ok, Err}
use Rattle.std.specs.Borrow.{Bor}
use Rattle.ids.specs.declared.fault.Fault.{Fault}
use Rattle.ids.specs.declared.fault.Fault.TheVariants as fault
use Rattle.definitions.specs.Bytes.{Bytes}
use Rattle.definitions.specs.Keyrings.{Keys}
use Rattle.definitions.specs.Frames.{Frame, head_len}
use Rattle.definitions.specs.FrameLimits.{IsReadAs}
use Rattle.definitions.specs.Checks.{Identity, identity_of}
use Rattle.definitions.specs.Admission.{Checked, passes, rejected, check}
use Rattle.frames_view.specs.Places.{IsProposalAt, IsBlockAt, IsVoteFrameAt, IsNewViewAt, IsCommandAt}
use Rattle.frames_view.specs.Places.{IsFetchAt}
use Rattle.admission.specs.declared.input.Input.{Input}
use Rattle.admission.specs.declared.input.Input.TheVariants.{Proposal, Block, Vote as AVote, NewView, Request}
use Rattle.admission.specs.declared.input.Input.TheVariants.{Fetch, Timeout, Beat, Prune}
use Rattle.admission.specs.declared.input.Input.TheVariants.{OfferedProposal, OfferedBlock, SeenView}
use Rattle.admission.specs.declared.input.Input.TheVariants.{Relayed, Lead, Ask}
use Rattle.admission.specs.Inputs.{input_of, is_addressed}

-- each part of the frame that it lends lies in the bytes, at the place where the grammar has it
abbrev pub LiesIn : Bor Bytes → Input → Type 0
LiesIn bytes (Proposal p) = IsProposalAt bytes (head_len bytes.now) p.view
LiesIn bytes (Block b) = IsBlockAt bytes (head_len bytes.now) b.view
LiesIn bytes (AVote b) = IsVoteFrameAt bytes (head_len bytes.now) b.view
LiesIn bytes (NewView n) = IsNewViewAt bytes (head_len bytes.now) n.view
LiesIn bytes (Request r) = IsCommandAt bytes (head_len bytes.now) r.view
LiesIn bytes (Fetch f) = IsFetchAt bytes (head_len bytes.now) f.view
LiesIn bytes Timeout = ⊥
LiesIn bytes Beat = ⊥
LiesIn bytes (Prune height) = ⊥
LiesIn bytes (OfferedProposal p) = IsProposalAt bytes (head_len bytes.now) p.view
LiesIn bytes (OfferedBlock b) = IsBlockAt bytes (head_len bytes.now) b.view
LiesIn bytes (SeenView n) = IsNewViewAt bytes (head_len bytes.now) n.view
LiesIn bytes (Relayed copies) = ⊥
LiesIn bytes (Lead block) = ⊥
LiesIn bytes (Ask replica block) = ⊥

-- it says what passed, was checked for the replica of these keys, and lies in the bytes
pub record Brings (keys : Keys) (bytes : Bor Bytes) (i : Input) : Type 0 where
  pub addressed : IsTrue (is_addressed keys i)
  pub lent : LiesIn bytes i

-- what the checks come to is what is answered
abbrev pub Answers : Keys → Bor Bytes → Checked → Result Input Fault → Type 0
Answers keys bytes (passes i) (Ok input) = (input_of input ≡ i) × Brings keys bytes input
Answers keys bytes (passes i) (Err n) = ⊥
Answers keys bytes (rejected m) (Ok input) = ⊥
Answers keys bytes (rejected m) (Err n) = n ≡ m

-- by what the bytes are read as, where these are the checks of a frame
abbrev pub AnswersReadBy : (Identity → Frame → Checked) → Keys → Bor Bytes → Result Input Fault → Option Frame
    → Type 0
AnswersReadBy checks keys bytes result None = result ≡ Err fault.NotAFrame
AnswersReadBy checks keys bytes result (Some f) = Answers keys bytes (checks (identity_of keys) f) result

-- Bytes that spell no frame are refused with `NotAFrame`; else the one frame that they spell is checked,
-- and what the checks come to is the answer.
abbrev pub AdmitsBy : (Identity → Frame → Checked) → Keys → Bor Bytes → Result Input Fault → Type 0
AdmitsBy checks keys bytes result =
    (frame : Option Frame) × IsReadAs keys.sizes bytes.now frame
    × AnswersReadBy checks keys bytes result frame

-- so of a frame that comes
abbrev pub AnswersRead : Keys → Bor Bytes → Result Input Fault → Option Frame → Type 0
AnswersRead keys bytes result frame = AnswersReadBy check keys bytes result frame

abbrev pub Admits : Keys → Bor Bytes → Result Input Fault → Type 0
Admits keys bytes result = AdmitsBy check keys bytes result
