use Rattle.std.proofs.Common.{ap}
use Rattle.audit.specs.Judged.{member_of}
use Rattle.window_files.specs.declared.head.Head.{Head}
use Rattle.window_files.proofs.Shown.{is_window_of}
use Rattle.window_files.proofs.window.Window.of.Goals as goal

pub invariant_of-result : goal.invariant_of-result
invariant_of-result c =
    (c.head_of-head.ensures.fits, c.in_ok-digests.ensures.long, c.in_ok-digests.ensures.fit)

pub returns-clause-own : goal.returns-clause-own
returns-clause-own c =
    let own = c.head_of-head.ensures.own in
    is_window_of (record { head = c.head_of-head.result; digests = c.in_ok-digests.digests.items })
    (member_of c.args.replica.now) (ap (λ (h : Head). h.number) own) (ap (λ (h : Head). h.height) own)
    (ap (λ (h : Head). h.lowest) own) c.in_ok-digests.ensures
