use Rattle.executor.proofs.Payloads.{rows-behind}
use Rattle.executor.proofs.entries.EntryIterIterator.next.Goals as goal

pub invariant_of-self : goal.invariant_of-self
invariant_of-self c = rows-behind _ _ _ _ c.in_ok-row.ensures.cases.0 c.self.invariant
