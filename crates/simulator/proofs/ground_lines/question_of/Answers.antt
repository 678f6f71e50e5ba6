use Rattle.run_report.specs.Names.{replica_text}
use Rattle.simulator.specs.Lines.{lead_text}
use Rattle.simulator.proofs.Fields.{parted_word, unparted_word}
use Rattle.simulator.proofs.Parties.{replica_word}
use Rattle.simulator.proofs.ground_lines.question_of.Goals as goal

pub returns-in_err-replica : goal.returns-in_err-replica
returns-in_err-replica c =
    rw c.from_residual.ensures (λ q fits spelled. unparted_word c.args.fields.now c.split_once.result
    c.split_once.ensures.cases c.in_err-replica.was (replica_text q.0) (lead_text (q.1, q.2))
    (replica_word q.0 fits.0) spelled)

pub returns-in_err-to : goal.returns-in_err-to
returns-in_err-to c =
    rw c.from_residual-in_err-to.ensures (λ q fits spelled.
    let parts = parted_word c.args.fields.now c.split_once.result _ c.split_once.ensures.cases
    c.in_ok-replica.was (replica_text q.0) (lead_text (q.1, q.2)) (replica_word q.0 fits.0) spelled in
    c.in_err-to.ensures (q.1, q.2) fits.1 parts.1)

pub returns-in_err-replica_of : goal.returns-in_err-replica_of
returns-in_err-replica_of c =
    rw c.from_residual-in_err-replica_of.ensures (λ q fits spelled.
    let parts = parted_word c.args.fields.now c.split_once.result _ c.split_once.ensures.cases
    c.in_ok-replica.was (replica_text q.0) (lead_text (q.1, q.2)) (replica_word q.0 fits.0) spelled in
    c.in_err-replica_of.ensures q.0 fits.0 parts.0)
