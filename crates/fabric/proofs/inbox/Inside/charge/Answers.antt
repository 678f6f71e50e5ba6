use Rattle.std.proofs.Common.{◌∙◌, sym}
use Rattle.fabric.proofs.Counting.{as_many}
use Rattle.fabric.proofs.inbox.Inside.charge.Goals as goal

pub invariant_of-self-clause-counted : goal.invariant_of-self-clause-counted
invariant_of-self-clause-counted c =
    c.args.self.now.counted ∙ sym (as_many c.args.self.now.queue c.args.row _ _ c.charge.new.self c.charge.ensures)
