-- Certificates that a low justifier keeps, as they stand in memory.
use Rattle.std.specs.Prelude.{option_map}
use Rattle.std.specs.Borrow.{Bor}
use Rattle.definitions.specs.Bytes.{Bytes}
use Rattle.liars.specs.declared.low.KeptCertificate.{KeptCertificate}
use Rattle.liars.specs.declared.low.Plan.{Plan as MadePlan}
use Rattle.liars.specs.Low.{Kept, Plan}
use Rattle.liars.specs.Told.{told_by}

-- its height and its bytes
abbrev pub kept_of : KeptCertificate → Kept
kept_of one = (one.height, one.bytes.items)

-- what a reference to bytes points to
abbrev pub lent_of : Bor Bytes → Bytes
lent_of bytes = bytes.now

-- what is planned for a proposal
abbrev pub plan_of : MadePlan → Plan
plan_of plan = (kept_of plan.certificate, option_map told_by plan.instead)
