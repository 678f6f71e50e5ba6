use Rattle.std.proofs.Common.{◌≡◌, ◌++◌, codes}
use Rattle.std.proofs.lemmas.Result.{err_from_is_err_and}
use Rattle.simulator.proofs.Fields.{not_submitted, not_injected, not_offered, not_gathered}
use Rattle.simulator.proofs.lines.event_of.Goals as goal

pub returns-in_err-client : goal.returns-in_err-client
returns-in_err-client c =
    let p = err_from_is_err_and c.from_residual.result c.from_residual.ensures.1 in
    let front = c.in-Some.ensures.cases in
    let whole : c.args.words.now ≡ codes "submit " ++ c.in-Some.fields.now = rw front.2 front.1.1 in
    rw (p.1, p.2) (not_submitted c.args.words.now c.in-Some.fields.now whole c.in_err-client.field-0.0
    c.in_err-client.ensures)

pub returns-in_err-to : goal.returns-in_err-to
returns-in_err-to c =
    let p = err_from_is_err_and c.from_residual-in_err-to.result c.from_residual-in_err-to.ensures.1 in
    let front = c.in-Some-strip_prefix.ensures.cases in
    let whole : c.args.words.now ≡ codes "inject " ++ c.in-Some-strip_prefix.fields.now =
    rw front.2 front.1.1 in
    rw (p.1, p.2) (not_injected c.args.words.now c.in-Some-strip_prefix.fields.now whole
    c.in_err-to.field-0.0 c.in_err-to.ensures)

pub returns-in_err-to-2 : goal.returns-in_err-to-2
returns-in_err-to-2 c =
    let p = err_from_is_err_and c.from_residual-in_err-to-2.result c.from_residual-in_err-to-2.ensures.1 in
    let front = c.in-Some-strip_prefix-2.ensures.cases in
    let whole : c.args.words.now ≡ codes "offer-bytes " ++ c.in-Some-strip_prefix-2.fields.now =
    rw front.2 front.1.1 in
    rw (p.1, p.2) (not_offered c.args.words.now c.in-Some-strip_prefix-2.fields.now whole
    c.in_err-to-2.field-0.0 c.in_err-to-2.ensures)

pub returns-in_err-to-3 : goal.returns-in_err-to-3
returns-in_err-to-3 c =
    let p = err_from_is_err_and c.from_residual-in_err-to-3.result c.from_residual-in_err-to-3.ensures.1 in
    let front = c.in-Some-strip_prefix-3.ensures.cases in
    let whole : c.args.words.now ≡ codes "gather " ++ c.in-Some-strip_prefix-3.fields.now =
    rw front.2 front.1.1 in
    rw (p.1, p.2) (not_gathered c.args.words.now c.in-Some-strip_prefix-3.fields.now whole
    c.in_err-to-3.field-0.0 c.in_err-to-3.ensures)
