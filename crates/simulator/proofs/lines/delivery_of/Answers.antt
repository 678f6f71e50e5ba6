use Rattle.simulator.specs.Texts.{party_text}
use Rattle.simulator.proofs.Fields.{parted, unparted}
use Rattle.simulator.proofs.lines.delivery_of.Goals as goal

pub returns-in_err-frame : goal.returns-in_err-frame
returns-in_err-frame c =
    rw c.from_residual.ensures (λ d fits spelled. unparted c.args.fields.now c.split_once.result
    c.split_once.ensures.cases c.in_err-frame.was d.0 fits.0 (party_text d.1) spelled)

pub returns-in_err-number_of : goal.returns-in_err-number_of
returns-in_err-number_of c =
    rw c.from_residual-in_err-number_of.ensures (λ d fits spelled.
    let parts = parted c.args.fields.now c.split_once.result _ c.split_once.ensures.cases c.in_ok-frame.was
    d.0 fits.0 (party_text d.1) spelled in
    c.in_err-number_of.ensures d.0 fits.0 parts.0)

pub returns-in_err-party_of : goal.returns-in_err-party_of
returns-in_err-party_of c =
    rw c.from_residual-in_err-party_of.ensures (λ d fits spelled.
    let parts = parted c.args.fields.now c.split_once.result _ c.split_once.ensures.cases c.in_ok-frame.was
    d.0 fits.0 (party_text d.1) spelled in
    c.in_err-party_of.ensures d.1 fits.1 parts.1)
