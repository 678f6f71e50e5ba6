use Rattle.hex.specs.Hex.{encode_lower}
use Rattle.run_report.specs.Names.{replica_text}
use Rattle.simulator.proofs.Fields.{parted_word, unparted_word}
use Rattle.simulator.proofs.Parties.{replica_word}
use Rattle.simulator.proofs.ground_lines.lead_of.Goals as goal

pub returns-in_err-replica : goal.returns-in_err-replica
returns-in_err-replica c =
    rw c.from_residual.ensures (λ l fits spelled. unparted_word c.args.fields.now c.split_once.result
    c.split_once.ensures.cases c.in_err-replica.was (replica_text l.0) (encode_lower l.1)
    (replica_word l.0 fits.0) spelled)

pub returns-in_err-replica_of : goal.returns-in_err-replica_of
returns-in_err-replica_of c =
    rw c.from_residual-in_err-replica_of.ensures (λ l fits spelled.
    let parts = parted_word c.args.fields.now c.split_once.result _ c.split_once.ensures.cases
    c.in_ok-replica.was (replica_text l.0) (encode_lower l.1) (replica_word l.0 fits.0) spelled in
    c.in_err-replica_of.ensures l.0 fits.0 parts.0)

pub returns-in_err-digest_of : goal.returns-in_err-digest_of
returns-in_err-digest_of c =
    rw c.from_residual-in_err-digest_of.ensures (λ l fits spelled.
    let parts = parted_word c.args.fields.now c.split_once.result _ c.split_once.ensures.cases
    c.in_ok-replica.was (replica_text l.0) (encode_lower l.1) (replica_word l.0 fits.0) spelled in
    c.in_err-digest_of.ensures l.1 fits.1 parts.1)
