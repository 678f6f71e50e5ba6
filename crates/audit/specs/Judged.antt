-- The replicas that are handed in to an audit.
use Rattle.std.specs.Prelude.{◌≡◌, ◌<◌, ◌≤◌, ◌⊎◌, List, map, length}
use Rattle.std.specs.List.{All}
use Rattle.std.specs.Borrow.{Bor}
use Rattle.ids.specs.Sizes.{Sizes, replicas, quorum}
use Rattle.definitions.specs.Lists.{IsBeginning, AreDistinct}
use Rattle.definitions.specs.Histories.{History}
use Rattle.definitions.specs.Audit.{Member, Judged}
use Rattle.audit_ground.specs.Law.{numbers, IsLawfullyKept}
use Rattle.replica.specs.Steps.{Held}

-- a replica with its number, as it is judged
abbrev pub member_of : Held → Member
member_of r = record { number = r.keys.party; replica = r.replica }

-- the judged replicas, in their order, by what they hold
abbrev pub judged_by : {T : Type 0} → (T → Held) → List (Bor T) → Judged
judged_by held rs = map (λ r. member_of (held r.now)) rs

-- at least a quorum of replicas of the same sizes, each once, by what they hold
pub record AreEnoughBy {T : Type 0} (held : T → Held) (rs : List (Bor T)) : Type 0 where
  pub sizes : Sizes
  pub same : All (λ r. (held r.now).keys.sizes ≡ sizes) rs
  pub enough : quorum sizes ≤ length rs
  pub distinct : AreDistinct (numbers (judged_by held rs))

-- the same of replicas
abbrev pub judged : List (Bor Held) → Judged
judged rs = judged_by (λ r. r) rs

abbrev pub AreEnough : List (Bor Held) → Type 0
AreEnough rs = AreEnoughBy (λ r. r) rs

-- one of two histories is a beginning of the other
unfoldable pub Agree : History → History → Type 0
Agree a b = IsBeginning a b ⊎ IsBeginning b a

-- one of the replicas of its sizes, with a chronicle that is kept well
abbrev pub IsHeld : Held → Type 0
IsHeld r = (r.keys.party < replicas r.keys.sizes) × IsLawfullyKept r.keys.sizes r.replica.chronicle
