use Rattle.std.proofs.Common.{rules}
use Rattle.locked_replica.specs.Kept.{Holds}
use Rattle.locked_replica.proofs.Bundles.{kept_step}
use Rattle.locked_replica.proofs.under_lock.KeptUnderLock.step.Goals as goal

pub returns-clause-made : goal.returns-clause-made
returns-clause-made c =
    let s = c.step-answer.ensures in
    let before : Holds c.args.self.now = search rules in
    let after : Holds c.step-answer.new.self = search rules in
    let step = kept_step c.args.self.now c.args.share.now c.args.input c.step-answer.result
    c.step-answer.new.self c.step-answer.new.share
    s.not_mine s.not_all s.unchanged s.same_share s.stepped s.share s.shares s.eye s.keys in
    (before, after, step)
