-- What stations are made of.
use Rattle.std.specs.Prelude.{◌≡◌, ℕ, ◌++◌, All, List, [], Option, map, replicate}
use Rattle.clock.specs.declared.forgetting.Keep.{Keep}
use Rattle.definitions.specs.Keyrings.{Keys}
use Rattle.definitions.specs.Replicas.{running}
use Rattle.marks.specs.Eyes.{EyeState}
use Rattle.locked_replica.specs.Kept.{KeptState}

-- which replica stands there, and how much it keeps
pub record Station : Type 0 where
  pub number : ℕ
  pub keep : Option Keep

-- a kept replica of these keys that has made no step, and of which no share is made
abbrev pub fresh : Keys → EyeState → KeptState
fresh keys eye = record { keys = keys; replica = record { chronicle = []; standing = running }; shares = []; eye = eye }

-- so many shares more are made of it, which have made no step
abbrev pub shared : ℕ → KeptState → KeptState
shared count kept = record kept { shares = kept.shares ++ replicate count 0 }

-- which replicas stand there, in order
abbrev pub numbers_of : List Station → List ℕ
numbers_of stations = map (λ (station : Station). station.number) stations

-- each keeps so much
abbrev pub AllKeep : Option Keep → List Station → Type 0
AllKeep keep stations = All (λ (station : Station). station.keep ≡ keep) stations
