use Rattle.run_report.specs.Names.{replica_text}
use Rattle.simulator.proofs.Fields.{parted, unparted}
use Rattle.simulator.proofs.ground_lines.offer_of.Goals as goal

pub returns-in_err-frame : goal.returns-in_err-frame
returns-in_err-frame c =
    rw c.from_residual.ensures (λ o fits spelled. unparted c.args.fields.now c.split_once.result
    c.split_once.ensures.cases c.in_err-frame.was o.0 fits.0 (replica_text o.1) spelled)

pub returns-in_err-number_of : goal.returns-in_err-number_of
returns-in_err-number_of c =
    rw c.from_residual-in_err-number_of.ensures (λ o fits spelled.
    let parts = parted c.args.fields.now c.split_once.result _ c.split_once.ensures.cases c.in_ok-frame.was
    o.0 fits.0 (replica_text o.1) spelled in
    c.in_err-number_of.ensures o.0 fits.0 parts.0)

pub returns-in_err-replica_of : goal.returns-in_err-replica_of
returns-in_err-replica_of c =
    rw c.from_residual-in_err-replica_of.ensures (λ o fits spelled.
    let parts = parted c.args.fields.now c.split_once.result _ c.split_once.ensures.cases c.in_ok-frame.was
    o.0 fits.0 (replica_text o.1) spelled in
    c.in_err-replica_of.ensures o.1 fits.1 parts.1)
