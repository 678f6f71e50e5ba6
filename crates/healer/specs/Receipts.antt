-- What the healing of a request comes to.
use Rattle.std.specs.Prelude.{ℕ, List, ◌++◌}
use Rattle.definitions.specs.Premises.{ArePremises}
use Rattle.definitions.specs.Worlds.{World, Happening}
use Rattle.recovery.specs.Healing.{heal}
use Rattle.recovery.specs.NeverWedged.{IsAnswered, IsAsked, MayHeal}
use Rattle.world_schedule.specs.Progress.{StandsAt}
use Rattle.world_schedule.specs.Settings.{start_of}
use Rattle.healer.specs.Courses.{Course, Told}

-- Where a correct client waited that asked by this frame of the record, where the premises held, and held of healing, and
-- where it might heal, the client has its receipt.
abbrev pub Answers : Course → ℕ → Course → Type 0
Answers old request new =
    (client : ℕ) (hs : List Happening) (w : World) → StandsAt old.stand hs w → IsAsked w request client
    → ArePremises (start_of old.origin.setting) (hs ++ heal request w) → MayHeal w
    → Told new (λ last. IsAnswered last client (w.session client).used)
