-- The view of a replica that hears of greater ones.
use Rattle.std.specs.Prelude.{◌≡◌, ℕ, ◌-◌, ◌^◌, [], ◌∷◌}
use Rattle.ids.specs.Sizes.{Sizes}
use Rattle.definitions.specs.Chronicles.{Step, Step.noted, Note.got_new_view, Note.timed_out}
use Rattle.definitions.specs.States.{view}

-- four replicas
abbrev pub four : Sizes
four = record { faults = 1; clients = 1; most_keys = 65536 }

-- a replica announced this view
abbrev pub announces : ℕ → ℕ → Step
announces replica view = noted (got_new_view view replica (record { digest = []; votes = [] }) [])

-- replica 2 announced view 3: one replica alone moves nobody
abbrev pub OneAlone : Type 0
OneAlone = view four (announces 2 3 ∷ []) ≡ 0

-- then replica 3 announced view 5: two have announced or passed view 3
abbrev pub TwoTogether : Type 0
TwoTogether = view four (announces 3 5 ∷ announces 2 3 ∷ []) ≡ 3

-- a replica's lower announcement after a higher one changes nothing
abbrev pub Lower : Type 0
Lower = view four (announces 2 1 ∷ announces 3 5 ∷ announces 2 3 ∷ []) ≡ 3

-- a timeout adds one
abbrev pub TimesOut : Type 0
TimesOut = view four (noted timed_out ∷ announces 3 5 ∷ announces 2 3 ∷ []) ≡ 4

-- the greatest view stays
abbrev pub StaysGreatest : Type 0
StaysGreatest =
    view four (noted timed_out ∷ announces 3 (2 ^ 64 - 1) ∷ announces 2 (2 ^ 64 - 1) ∷ []) ≡ 2 ^ 64 - 1
