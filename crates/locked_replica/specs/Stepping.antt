-- What a step does to a kept replica.
use Rattle.std.specs.Prelude.{List, Result}
use Rattle.ids.specs.declared.fault.Fault.{Fault}
use Rattle.admission.specs.declared.input.Input.{Input}
use Rattle.signed_frames.specs.Outs.{SentBytes}
use Rattle.turns.specs.Shares.{ShareState}
use Rattle.locked_replica.specs.Kept.{KeptState, Holds}
use Rattle.locked_replica.specs.Addressed.{KeptStep}

-- a kept replica makes this step, and what holds of each kept replica holds before and after
abbrev pub WholeStep : KeptState → ShareState → Input → Result (List SentBytes) Fault → KeptState → ShareState
    → Type 0
WholeStep old share input answer new share' = Holds old × Holds new × KeptStep old share input answer new share'
