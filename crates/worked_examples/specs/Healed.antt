-- What healing comes to.
use Rattle.std.specs.Prelude.{◌≡◌, ◌++◌, ℕ, List, Ok}
use Rattle.definitions.specs.Digests.{NoCollision}
use Rattle.definitions.specs.Premises.{CoreOfRun}
use Rattle.definitions.specs.Runs.{run}
use Rattle.definitions.specs.Worlds.{World, Happening}
use Rattle.recovery.specs.Healing.{heal}
use Rattle.recovery.specs.NeverWedged.{IsAnswered}

-- These happenings led from one world to another one, in which frame k is client 0's request of this number. Where no two
-- cores collide in healing too, healing is refused no event, and the client has its receipt.
abbrev pub IsHealedFrom : World → List Happening → (k seq : ℕ) → World → Type 0
IsHealedFrom start hs k seq w =
    NoCollision (CoreOfRun start (hs ++ heal k w))
    → (last : World) × (run w (heal k w) ≡ Ok last) × IsAnswered last 0 seq
