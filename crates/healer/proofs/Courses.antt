-- What a healer's run is, one event after the other.
use Rattle.std.proofs.Common.{ℕ, ◌≡◌, ◌≤◌, List, [], ◌∷◌, ◌++◌, length, take, sym, ap, subst, ◌∙◌, refl, Option, Some, None}
use Rattle.std.proofs.Common.{is_some, true, append_assoc}
use Rattle.std.proofs.lemmas.List.{take_all}
use Rattle.definitions.specs.Worlds.{World, Happening}
use Rattle.world_schedule.specs.declared.event.Event.{Event}
use Rattle.world_schedule.specs.declared.outcome.Outcome.{Outcome}
use Rattle.world_schedule.specs.declared.running.State.{State}
use Rattle.world_schedule.specs.Settings.{Setting, Holds}
use Rattle.world_schedule.specs.Outcomes.{TellsOf}
use Rattle.world_schedule.specs.Progress.{Stand, StandsAt, Happened, HasRun}
use Rattle.world_schedule.specs.Running.{IsRunOf}
use Rattle.world_schedule.proofs.Runs.{next-run, whole-run}
use Rattle.healer.specs.Courses.{Origin, IsTheirs}

pub nothing-behind : {A : Type 0} (xs : List A) → xs ++ [] ≡ xs
nothing-behind [] = refl
nothing-behind (x ∷ xs) = ap (λ l. x ∷ l) (nothing-behind xs)

-- a run of these is one in its own setting
in-own : (s : Setting) (these : List Event) (r : Stand) → HasRun s these r → HasRun r.setting these r
in-own s these r h = subst (λ (z : Setting). HasRun z these r) (sym h.setting) h

-- the whole schedule ran, and nothing was added
pub begins : (s : Setting) (events : List Event) (i : ℕ) (r : Stand) → length events ≤ i
    → HasRun s (take i events) r
    → IsTheirs (record { origin = record { setting = r.setting; schedule = events }; added = []; stand = r })
begins s events i r l h = λ state goes.
    subst (λ (es : List Event). HasRun r.setting es r) (take_all i events l ∙ sym (nothing-behind events))
    (in-own s (take i events) r h)

-- which state a stand has
found : (o : Option State) → is_some o ≡ true → (state : State) × (o ≡ Some state)
found (Some x) h = (x, refl)
found None h = let no : ⊥ = cc in absurd no

-- one event more
pub goes-on : (schedule added more : List Event) (event : Event) (old new : Stand)
    → IsTheirs (record { origin = record { setting = old.setting; schedule = schedule }; added = added; stand = old })
    → is_some old.state ≡ true → new.setting ≡ old.setting → more ≡ added ++ event ∷ []
    → ((hs : List Happening) (w : World) → StandsAt old hs w → Happened old.setting hs w event new)
    → IsTheirs (record { origin = record { setting = new.setting; schedule = schedule }; added = more; stand = new })
goes-on schedule added more event old new h was same is next = λ state goes.
    let f = found old.state was in
    let r : HasRun old.setting (schedule ++ added) old = h f.0 f.1 in
    subst (λ (es : List Event). HasRun new.setting es new)
    (append_assoc schedule added (event ∷ []) ∙ ap (λ (l : List Event). schedule ++ l) (sym is))
    (in-own old.setting ((schedule ++ added) ++ event ∷ []) new
    (next-run old.setting (schedule ++ added) event old new r same (next r.happenings r.world r.stands)))

-- a refusal ended it
pub is-over : (origin : Origin) (added : List Event) (r : Stand) → r.state ≡ None
    → IsTheirs (record { origin = origin; added = added; stand = r })
is-over origin added r over = λ state goes. let no : ⊥ = cc in absurd no

-- what it came to
pub ends : (schedule added : List Event) (r : Stand) (o : Outcome)
    → IsTheirs (record { origin = record { setting = r.setting; schedule = schedule }; added = added; stand = r })
    → Holds r.setting → is_some r.state ≡ true
    → ((hs : List Happening) (w : World) → StandsAt r hs w → TellsOf w o)
    → IsRunOf r.setting (schedule ++ added) o
ends schedule added r o h holds was tells =
    let f = found r.state was in
    let ran : HasRun r.setting (schedule ++ added) r = h f.0 f.1 in
    whole-run r.setting (schedule ++ added) r o holds ran (tells ran.happenings ran.world ran.stands)
