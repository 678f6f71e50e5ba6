-- Which prompts a kept replica heeds.
use Rattle.std.specs.Prelude.{Bool, ◌==◌}
use Rattle.turns.specs.declared.prompt.Prompt.{Prompt}
use Rattle.turns.specs.declared.prompt.Prompt.TheVariants.{Beat, Timeout}
use Rattle.definitions.specs.States.{view}
use Rattle.replica.specs.Wanting.{wants_beat_now}
use Rattle.locked_replica.specs.Kept.{KeptState}

-- a beat where it brings something at once, and a timeout in the view that it is for
abbrev pub heeds : KeptState → Prompt → Bool
heeds kept Beat = wants_beat_now (record { keys = kept.keys; replica = kept.replica })
heeds kept (Timeout number) = view kept.keys.sizes kept.replica.chronicle == number
