use Rattle.run_report.specs.Names.{replica_text}
use Rattle.simulator.proofs.Fields.{parted_word, unparted_word}
use Rattle.simulator.proofs.Parties.{replica_word}
use Rattle.simulator.proofs.ground_lines.digits_behind.Goals as goal

pub returns-in_err-to : goal.returns-in_err-to
returns-in_err-to c =
    rw c.from_residual.ensures (λ d fits spelled. unparted_word c.args.fields.now c.split_once.result
    c.split_once.ensures.cases c.in_err-to.was (replica_text d.0) d.1 (replica_word d.0 fits) spelled)

pub returns-in_err-replica_of : goal.returns-in_err-replica_of
returns-in_err-replica_of c =
    rw c.from_residual-in_err-replica_of.ensures (λ d fits spelled.
    let parts = parted_word c.args.fields.now c.split_once.result _ c.split_once.ensures.cases
    c.in_ok-to.was (replica_text d.0) d.1 (replica_word d.0 fits) spelled in
    c.in_err-replica_of.ensures d.0 fits parts.0)
