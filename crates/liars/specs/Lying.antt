-- What a liar remembers, and what it does with a frame.
use Rattle.std.specs.Prelude.{◌≡◌, ℕ, List, [], None}
use Rattle.definitions.specs.Keyrings.{Keys}
use Rattle.signed_frames.specs.Outs.{SentBytes}
use Rattle.liars.specs.declared.lying.Liar.{Liar}
use Rattle.liars.specs.declared.lying.Liar.TheVariants.{Plain, LowJustifier, FalseClaims, Any}
use Rattle.liars.specs.Any.{Whims, any_step}
use Rattle.liars.specs.Claims.{Claims, IsClaimsStep}
use Rattle.liars.specs.Lies.{IsLie}
use Rattle.liars.specs.Low.{Kept, IsLowStep}
use Rattle.liars.specs.Told.{Told}

pub record Lying : Type 0 where
  pub liar : Liar
  pub keys : Keys
  pub kept : List Kept
  pub whims : Whims
  pub claims : Claims

-- from which word a liar draws
abbrev pub seed_of : Liar → ℕ
seed_of (Any seed) = seed
seed_of other = 0

-- one that has seen no frame
abbrev pub new_lying : Liar → Keys → Lying
new_lying liar keys = record { liar = liar; keys = keys; kept = []; whims = (seed_of liar, None); claims = (0, 0) }

-- What a liar does with a frame: what it remembers before, the frame, what it remembers then, and what goes out.
abbrev pub IsStepOf : Liar → Lying → SentBytes → Lying → Told → Type 0
IsStepOf (Plain lie) lying sent after told =
    (after ≡ lying) × IsLie lying.keys lie sent told.out × (told.own ≡ [])
IsStepOf LowJustifier lying sent after told =
    (after ≡ record lying { kept = after.kept }) × IsLowStep lying.keys lying.kept sent after.kept told
IsStepOf FalseClaims lying sent after told = (after ≡ record lying { claims = after.claims })
    × IsClaimsStep lying.keys lying.claims sent after.claims told.out × (told.own ≡ [])
IsStepOf (Any seed) lying sent after told =
    (after ≡ record lying { whims = after.whims })
    × (after.whims ≡ (any_step lying.keys.sizes lying.whims sent).0)
    × (told.out ≡ (any_step lying.keys.sizes lying.whims sent).1) × (told.own ≡ [])

abbrev pub IsStep : Lying → SentBytes → Lying → Told → Type 0
IsStep lying sent after told = IsStepOf lying.liar lying sent after told
