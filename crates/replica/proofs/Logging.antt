-- Steps that are written down.
use Rattle.std.proofs.Common.{◌≡◌, false, true≢false, List, ◌∷◌, refl, sym, ap, ◌∙◌}
use Rattle.replica.specs.declared.stored.StoredStep.TheVariants.{TookNew, TookAgain, GotVote, GotNewView}
use Rattle.replica.specs.declared.stored.StoredStep.TheVariants.{GotRequest, GotFetch, TimedOut, Beat, Pruned, SeenView, Led}
use Rattle.definitions.specs.Trees.{Stored}
use Rattle.definitions.specs.Chronicles.{Chronicle, was_pruned}
use Rattle.replica.specs.declared.stored.StoredStep.{StoredStep}
use Rattle.replica.specs.declared.change.Change.{Change}
use Rattle.replica.specs.Replay.{is_pruning, step_of, replay}
use Rattle.replica.specs.Kept.{StateParts}
use Rattle.replica.specs.Changes.{grown, Fits, changed}
use Rattle.replica.specs.Logs.{Logs}
use Rattle.replica.proofs.Replaying.{before-grown}

-- the log of a state
abbrev pub LogsOf : (List StoredStep → Type 0) → StateParts → Type 0
LogsOf holds s = Logs holds s.variables.stored s.variables.chronicle

-- another log holds the same steps
pub logged-still : (old new : List StoredStep → Type 0) (s : StateParts)
    → ((xs : List StoredStep) → old xs → new xs) → LogsOf old s → LogsOf new s
logged-still old new s h l =
    record { steps = l.steps; held = h l.steps l.held; replayed = l.replayed; unpruned = l.unpruned }

-- a step that is no pruning leaves a chronicle as unpruned as it was
unpruned-still : (s : StoredStep) (stored : List Stored) (c : Chronicle) → is_pruning s ≡ false
    → was_pruned (step_of s stored ∷ c) ≡ was_pruned c
unfolding was_pruned
unpruned-still (TookNew t) stored c e = refl
unpruned-still (TookAgain t) stored c e = refl
unpruned-still (GotVote g) stored c e = refl
unpruned-still (GotNewView n) stored c e = refl
unpruned-still (GotRequest r) stored c e = refl
unpruned-still (GotFetch f) stored c e = refl
unpruned-still TimedOut stored c e = refl
unpruned-still Beat stored c e = refl
unpruned-still (Pruned height) stored c e = absurd (true≢false e)
unpruned-still (SeenView v) stored c e = refl
unpruned-still (Led d) stored c e = refl

-- one step more is written down
pub logged-one : (old new : List StoredStep → Type 0) (d : Change) (s : StateParts) → Fits s d
    → is_pruning d.step ≡ false → ((xs : List StoredStep) → old xs → new (d.step ∷ xs)) → LogsOf old s
    → LogsOf new (changed d s)
unfolding replay
logged-one old new d s fits stays h l = record {
  steps = d.step ∷ l.steps;
  held = h l.steps l.held;
  replayed =
      ap (λ (x : List Stored). step_of d.step (grown d.growth s.variables.stored) ∷ replay l.steps x)
      (before-grown d.step d.growth s.variables.stored fits.step (sym fits.pruning ∙ stays))
      ∙ ap (λ (x : Chronicle). step_of d.step (grown d.growth s.variables.stored) ∷ x) l.replayed;
  unpruned =
      unpruned-still d.step (grown d.growth s.variables.stored) s.variables.chronicle stays ∙ l.unpruned;
}

-- the same blocks, and the same chronicle
pub logs-at : (holds : List StoredStep → Type 0) (stored others : List Stored) (c d : Chronicle)
    → stored ≡ others → c ≡ d → Logs holds stored c → Logs holds others d
logs-at holds stored others c d e k l =
    record {
      steps = l.steps;
      held = l.held;
      replayed = ap (replay l.steps) (sym e) ∙ l.replayed ∙ k;
      unpruned = ap was_pruned (sym k) ∙ l.unpruned;
    }
