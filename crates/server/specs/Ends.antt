-- How a deployment ends.
use Rattle.std.specs.Prelude.{ℕ, ◌≡◌, ◌<◌, ◌≤◌, ◌-◌, ◌⊎◌, Bool, not, Option, Some, List, length, map, ⊤}
use Rattle.std.specs.List.{filter, range_with_len, slice_get}
use Rattle.ids.specs.Sizes.{Sizes, replicas}
use Rattle.ids.specs.declared.limits.TheConstants.{MOST_REPLICAS}
use Rattle.ids.specs.declared.fault.Fault.{Fault}
use Rattle.ids.specs.declared.fault.Fault.TheVariants.{Memory, AcceptFailed, NoSuchParty, TooFew}
use Rattle.std.specs.Borrow.{Bor}
use Rattle.definitions.specs.Audit.{IsVerdict, HistoriesAgree}
use Rattle.definitions.specs.Chronicles.{was_pruned}
use Rattle.definitions.specs.Digests.{NoCollision}
use Rattle.definitions.specs.WindowAudit.{WindowsShow}
use Rattle.audit_ground.specs.Law.{KnownTo}
use Rattle.replica.specs.Steps.{Held}
use Rattle.audit.specs.Judged.{judged, AreEnough}
use Rattle.audit.specs.Verdicts.{verdict_of, window_verdict_of}
use Rattle.audit.specs.declared.verdict.Verdict.{Verdict}
use Rattle.audit.specs.declared.verdict.WindowVerdict.{WindowVerdict}
use Rattle.audit.specs.declared.verdict.WindowVerdict.TheVariants.{Agree}
use Rattle.server.specs.declared.ending.EndAudit.{EndAudit}
use Rattle.server.specs.declared.ending.EndAudit.TheVariants.{Whole, Part, Windows}

-- it has all its past: it was never given leave to prune
abbrev pub is_whole : Held → Bool
is_whole r = not (was_pruned r.replica.chronicle)

-- those of these replicas that have all their past, in order
abbrev pub whole_of : List Held → List Held
whole_of all = filter is_whole all

-- these replicas are lent, in order
abbrev pub AreLent : List Held → List (Bor Held) → Type 0
AreLent replicas lent = map (λ (r : Bor Held). r.now) lent ≡ replicas

-- a row has at each place the replica of that place, as far as there is one
pub record Shows (row : List (Option Held)) (replicas : List Held) : Type 0 where
  pub room : length replicas ≤ MOST_REPLICAS
  pub at : (k : ℕ) → k < length replicas → slice_get row k ≡ Some (slice_get replicas k)

-- what the audit says of exactly these replicas, which are of the same sizes, at least a quorum, each once
pub record IsOfAudit (replicas : List Held) (verdict : Verdict) : Type 0 where
  pub lent : List (Bor Held)
  pub these : AreLent replicas lent
  pub enough : AreEnough lent
  pub is : IsVerdict (judged lent) (verdict_of verdict)

-- What the windows of exactly these replicas show, which are of the same sizes, at least a quorum, each once. Where
-- they agree, and no two cores that these replicas ever knew collide, the histories agree.
pub record IsOfWindows (replicas : List Held) (verdict : WindowVerdict) : Type 0 where
  pub lent : List (Bor Held)
  pub these : AreLent replicas lent
  pub enough : AreEnough lent
  pub is : WindowsShow (judged lent) (window_verdict_of verdict)
  pub agree : verdict ≡ Agree → NoCollision (KnownTo (judged lent)) → HistoriesAgree (judged lent)

-- these replicas can't be judged
pub record AreFew (replicas : List Held) : Type 0 where
  pub lent : List (Bor Held)
  pub these : AreLent replicas lent
  pub few : AreEnough lent → ⊥

-- What is said of these replicas: the audit's verdict on all of them; or its verdict on those that have all their
-- past, which are so many, with what the windows of all show; or what these show alone.
abbrev pub IsEndAudit : List Held → EndAudit → Type 0
IsEndAudit all (Whole verdict) = (length (whole_of all) ≡ length all) × IsOfAudit (whole_of all) verdict
IsEndAudit all (Part count verdict windows) =
    (length (whole_of all) ≡ count) × (count < length all) × IsOfAudit (whole_of all) verdict
    × IsOfWindows all windows
IsEndAudit all (Windows windows) = AreFew (whole_of all) × IsOfWindows all windows

-- these replicas are those of a deployment of these sizes from a number on, so many, in order
abbrev pub AreFrom : Sizes → (first count : ℕ) → List Held → Type 0
AreFrom sizes first count all =
    map {B = Sizes × ℕ} (λ (one : Held). (one.keys.sizes, one.keys.party)) all
    ≡ map (λ (number : ℕ). (sizes, number)) (range_with_len first count)

-- it is said of all replicas of a deployment of these sizes but the first so many, which were to lie
pub record IsEnd (sizes : Sizes) (liars : ℕ) (audit : EndAudit) : Type 0 where
  pub all : List Held
  pub others : AreFrom sizes liars (replicas sizes - liars) all
  pub is : IsEndAudit all audit

-- an audit's verdict is among what is said
abbrev pub IsAudited : EndAudit → Type 0
IsAudited (Whole verdict) = ⊤
IsAudited (Part count verdict windows) = ⊤
IsAudited (Windows windows) = ⊥

-- Why there was no deployment: memory was refused, or there is no second handle of the listener; or there
-- was an end too few; or too few replicas could be judged.
abbrev pub IsNoRun : Fault → Type 0
IsNoRun fault = (fault ≡ Memory) ⊎ (fault ≡ AcceptFailed) ⊎ (fault ≡ NoSuchParty) ⊎ (fault ≡ TooFew)
