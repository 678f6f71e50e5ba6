-- What healing comes to, by its law.
use Rattle.std.proofs.Common.{ℕ, Bool, subst, ◌≡◌, List}
use Rattle.std.specs.Prelude.{Ok}
use Rattle.ids.specs.Sizes.{Sizes, AreSizes}
use Rattle.definitions.specs.Premises.{ArePremises}
use Rattle.definitions.specs.Runs.{run}
use Rattle.definitions.specs.Worlds.{World, Happening, new_world}
use Rattle.recovery.specs.Inventions.{NothingForgedInvented, RunsAreHealed}
use Rattle.recovery.specs.NeverWedged.{IsAsked, IsAnswered, MayHeal}
use Rattle.worked_examples.specs.Healed.{IsHealedFrom}
use Rattle.worked_examples.specs.Runs.{ring}

pub healed : (sizes : Sizes) (is_faulty : ℕ → Bool) (hs : List Happening) (k seq : ℕ) (w : World)
    → ArePremises (new_world sizes is_faulty ring) hs → NothingForgedInvented (new_world sizes is_faulty ring) hs
    → run (new_world sizes is_faulty ring) hs ≡ Ok w → AreSizes w.sizes → MayHeal w → IsAsked w k 0
    → (w.session 0).used ≡ seq → RunsAreHealed → IsHealedFrom (new_world sizes is_faulty ring) hs k seq w
healed sizes is_faulty hs k seq w premises honest taken are may asks number law apart =
    let x = law k 0 sizes is_faulty ring hs w premises honest apart taken are may asks in
    (x.0, x.1, subst (λ (n : ℕ). IsAnswered x.0 0 n) number x.3)
