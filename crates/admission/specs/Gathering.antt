-- What frames bring to a replica that come to it together.
use Rattle.std.specs.Prelude.{◌≡◌, ◌≤◌, ◌++◌, IsTrue, List, [], ◌∷◌, map, length, Option, Result, Ok, Err, ⊤}
use Rattle.std.specs.List.{list_all, flat_map}
use Rattle.std.specs.Borrow.{Bor}
use Rattle.ids.specs.declared.fault.Fault.{Fault}
use Rattle.ids.specs.Sizes.{Sizes, replicas}
use Rattle.definitions.specs.Bytes.{Bytes}
use Rattle.definitions.specs.Keyrings.{Keys}
use Rattle.definitions.specs.Frames.{Frame, sender_of}
use Rattle.definitions.specs.FrameLimits.{IsReadAs}
use Rattle.definitions.specs.Checks.{identity_of}
use Rattle.definitions.specs.Admission.{Checked, passes, rejected, check_gathered}
use Rattle.definitions.specs.Events.{listed}
use Rattle.frames_view.specs.Views.{block_of}
use Rattle.certificates.specs.Copying.{Gathered, is_another}
use Rattle.admission.specs.declared.gathering.Gathering.{Gathering}
use Rattle.admission.specs.declared.gathering.Gathering.TheVariants.{Nothing, Together, Refused}
use Rattle.admission.specs.declared.input.Input.{Input}
use Rattle.admission.specs.Inputs.{input_of, is_addressed}

-- each of these bytes is read so
abbrev pub AreReadAs : Sizes → List (Bor Bytes) → List (Option Frame) → Type 0
AreReadAs sizes [] [] = ⊤
AreReadAs sizes [] (r ∷ rs) = ⊥
AreReadAs sizes (b ∷ bs) [] = ⊥
AreReadAs sizes (b ∷ bs) (r ∷ rs) = IsReadAs sizes b.now r × AreReadAs sizes bs rs

-- what the checks come to is what is answered
abbrev pub AnswersGathered : Keys → Checked → Result Input Fault → Type 0
AnswersGathered keys (passes i) (Ok input) = (input_of input ≡ i) × IsTrue (is_addressed keys input)
AnswersGathered keys (passes i) (Err n) = ⊥
AnswersGathered keys (rejected m) (Ok input) = ⊥
AnswersGathered keys (rejected m) (Err n) = n ≡ m

-- The frames that are read among these bytes are checked together, and what the checks come to is the answer.
abbrev pub Gathers : Keys → List (Bor Bytes) → Result Input Fault → Type 0
Gathers keys frames result =
    (reads : List (Option Frame)) × AreReadAs keys.sizes frames reads
    × AnswersGathered keys (check_gathered (identity_of keys) (flat_map listed reads)) result

-- ---- how far it has come

-- these frames are copies of the first one's block, and this was gathered of them
pub record AreCopies (keys : Keys) (fs : List Frame) (g : Gathered) : Type 0 where
  pub rest : List Frame
  pub first : fs ≡ block_of g.first.view ∷ rest
  pub keyed : g.first.keys ≡ keys
  pub few : length fs ≤ replicas keys.sizes
  pub copies : IsTrue (list_all (is_another g) fs)
  pub senders : g.senders ≡ map (sender_of keys.sizes) fs

-- so far these frames were read; where they are refused they are so whatever comes behind
abbrev pub IsSoFar : Keys → List Frame → Gathering → Type 0
IsSoFar keys fs Nothing = fs ≡ []
IsSoFar keys fs (Together g) = AreCopies keys fs g
IsSoFar keys fs (Refused n) =
    (more : List Frame) → check_gathered (identity_of keys) (fs ++ more) ≡ rejected n

-- what was gathered was checked under these keys
abbrev pub IsKeyed : Keys → Gathering → Type 0
IsKeyed keys (Together g) = g.first.keys ≡ keys
IsKeyed keys Nothing = ⊤
IsKeyed keys (Refused n) = ⊤

-- these bytes were read, and this was gathered of them
pub record HasGathered (keys : Keys) (frames : List (Bor Bytes)) (g : Gathering) : Type 0 where
  pub reads : List (Option Frame)
  pub read : AreReadAs keys.sizes frames reads
  pub so_far : IsSoFar keys (flat_map listed reads) g
