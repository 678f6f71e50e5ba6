use Rattle.std.proofs.Common.{refl, arith}
use Rattle.std.proofs.lemmas.Bool.{false≢true}
use Rattle.audit.proofs.Numbers.{AreDistinctFrom-next, free-from_distinct}
use Rattle.audit.proofs.enough.are_distinct.Goals as goal

pub returns-then-not-is_free : goal.returns-then-not-is_free
returns-then-not-is_free g c =
    let free = free-from_distinct g.J.Judged.held c.args.replicas.now c.loop-i.i c.index-replicas-i.result
    c.number.result (omega arith) c.index-replicas-i.is c.number.ensures c.loop-i.invariant in
    (λ no. absurd (false≢true no), λ d. absurd (false≢true (c.if-not-is_free.ensures.1 (free d))))

pub loop-i-preserved : goal.loop-i-preserved
loop-i-preserved g c =
    AreDistinctFrom-next g.J.Judged.held c.args.replicas.now c.loop-i.i c.index-replicas-i.result
    c.number.result (omega arith) c.index-replicas-i.is c.number.ensures (c.if-not-is_free.ensures.0 refl)
    c.loop-i.invariant
