use Rattle.std.proofs.Common.{◌≡◌, arith, ap, sym, length}
use Rattle.std.proofs.lemmas.Bool.{eqb-true}
use Rattle.run_report.specs.Names.{client_text}
use Rattle.simulator.proofs.Fields.{parted_word, unparted_word}
use Rattle.simulator.proofs.Parties.{client_word}
use Rattle.simulator.proofs.lines.submitter_of.Goals as goal

pub returns-in_err-client : goal.returns-in_err-client
returns-in_err-client c =
    rw c.from_residual.ensures (λ d fits spelled. unparted_word c.args.fields.now c.split_once.result
    c.split_once.ensures.cases c.in_err-client.was (client_text d.0) d.1 (client_word d.0 fits.0)
    spelled)

pub returns-in_err-client-2 : goal.returns-in_err-client-2
returns-in_err-client-2 c =
    rw c.from_residual-in_err-client-2.ensures (λ d fits spelled.
    let parts = parted_word c.args.fields.now c.split_once.result _ c.split_once.ensures.cases
    c.in_ok-client.was (client_text d.0) d.1 (client_word d.0 fits.0) spelled in
    c.in_err-client-2.ensures d.0 fits.0 parts.0)

pub returns-then-is_empty : goal.returns-then-is_empty
returns-then-is_empty c = λ d fits spelled.
    let parts = parted_word c.args.fields.now c.split_once.result _ c.split_once.ensures.cases
    c.in_ok-client.was (client_text d.0) d.1 (client_word d.0 fits.0) spelled in
    let long = ap length parts.1 in
    let some = fits.1 in
    let none : length c.in_ok-client.digits.now ≡ 0 =
    eqb-true (length c.in_ok-client.digits.now) 0 (sym c.if-is_empty.ensures) in
    omega (arith, long, some, none)
