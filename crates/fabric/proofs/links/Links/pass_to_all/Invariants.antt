use Rattle.std.proofs.Common.{◌≡◌, ◌⊎◌, OnErr, Err}
use Rattle.ids.specs.declared.fault.Fault.TheVariants as fault
use Rattle.fabric.proofs.links.Links.pass_to_all.Given as goal

abbrev pub invariant-loop-number : goal.invariant-loop-number
invariant-loop-number g l = OnErr l.all ((l.all ≡ Err fault.Memory) ⊎ (l.all ≡ Err fault.NoSuchParty))
