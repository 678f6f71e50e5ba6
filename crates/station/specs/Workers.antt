-- The workers of replicas: how many there are, and how they lie.
use Rattle.std.specs.Prelude.{◌≡◌, ℕ, ◌+◌, ⊤, All, List, [], ◌∷◌, Vec, Option, None, Some, nat_lt, option_map}
use Rattle.std.specs.Prelude.{if◌then◌else◌}
use Rattle.std.specs.Global.{Global}
use Rattle.liars.specs.declared.lying.Liar.{Liar}
use Rattle.station.specs.declared.terms.Liars.{Liars}
use Rattle.station.specs.declared.terms.Workers.{Workers}
use Rattle.station.specs.declared.terms.Workers.TheVariants.{One, Two}

-- how many workers each replica has
abbrev pub worker_count : Workers → ℕ
worker_count One = 1
worker_count Two = 2

-- how a replica is to lie, if it is: those of the lowest numbers do
abbrev pub liar_at : Option Liars → ℕ → Option Liars
liar_at (Some liars) number = if nat_lt number liars.count then Some liars else None
liar_at None number = None

-- how many replicas are to lie
abbrev pub liar_count : Option Liars → ℕ
liar_count (Some liars) = liars.count
liar_count None = 0

-- how these lie, and after how many seconds they fall silent
abbrev pub lie_by : Liars → Liar × Option ℕ
lie_by liars = (liars.liar, liars.until)

-- how a worker's replica lies by it, and after how many seconds it falls silent, if it lies
pub record Worker : Type 0 where
  pub lie : Option (Liar × Option ℕ)

-- all workers lie so, or none lies
abbrev pub AllLieBy : Option Liars → List Worker → Type 0
AllLieBy liars workers = All (λ (worker : Worker). worker.lie ≡ option_map lie_by liars) workers

-- the workers of one replica after another, from this number on, lie as the terms say of their replica
abbrev pub LieFrom : Option Liars → ℕ → List (Vec Worker Global) → Type 0
LieFrom liars first [] = ⊤
LieFrom liars first (workers ∷ others) = AllLieBy (liar_at liars first) workers.items × LieFrom liars (first + 1) others
