-- Requests that are no retrieval.
use Rattle.definitions.specs.Requests.{Asked, store, cas, get, gets, delete, incr, decr}

-- it counts no use of a key that it asks for
abbrev pub IsChanging : Asked → Type 0
IsChanging (get keys) = ⊥
IsChanging (gets keys) = ⊥
IsChanging (store verb key flags stored) = Unit {0}
IsChanging (cas key flags stored cas_unique) = Unit {0}
IsChanging (incr key value) = Unit {0}
IsChanging (decr key value) = Unit {0}
IsChanging (delete key) = Unit {0}
