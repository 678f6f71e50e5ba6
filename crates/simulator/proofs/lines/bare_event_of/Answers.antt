use Rattle.std.proofs.Common.{◌≡◌, ◌++◌, codes}
use Rattle.simulator.proofs.Fields.{no_delivery, no_offer}
use Rattle.simulator.proofs.lines.bare_event_of.Goals as goal

pub returns-in_err-frame : goal.returns-in_err-frame
returns-in_err-frame c =
    let front = c.in-Some.ensures.cases in
    let whole : c.args.words.now ≡ codes "relay " ++ c.in-Some.fields.now = rw front.2 front.1.1 in
    rw c.from_residual.ensures
    (no_delivery c.args.words.now c.in-Some.fields.now whole c.in_err-frame.ensures)

pub returns-in_err-frame-2 : goal.returns-in_err-frame-2
returns-in_err-frame-2 c =
    let front = c.in-Some-strip_prefix.ensures.cases in
    let whole : c.args.words.now ≡ codes "offer " ++ c.in-Some-strip_prefix.fields.now =
    rw front.2 front.1.1 in
    rw c.from_residual-in_err-frame-2.ensures
    (no_offer c.args.words.now c.in-Some-strip_prefix.fields.now whole c.in_err-frame-2.ensures)
