-- What comes of a check.
use Rattle.std.specs.Prelude.{◌≡◌, ◌↔◌, Bool, Result, Err, IsTrue, IsOk, IfOk, OnErr}
use Rattle.ids.specs.declared.fault.Fault.{Fault}
use Rattle.ids.specs.declared.fault.Fault.TheVariants as fault
use Rattle.definitions.specs.Keyrings.{Keys}

-- a view, and the keys under which it passed
pub record CheckedView (V : Type 0) : Type 0 where
  pub keys : Keys
  pub view : V

-- the view is given with the keys exactly where it passes, and else refused for its tags
pub record IsGivenIf {V : Type 0} (passed : Bool) (keys : Keys) (view : V)
    (result : Result (CheckedView V) Fault) : Type 0 where
  pub exactly : IsOk result ↔ IsTrue passed
  pub given : IfOk result (λ c. c ≡ record { keys = keys; view = view })
  pub refused : OnErr result (result ≡ Err fault.BadTag)
