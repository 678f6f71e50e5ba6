use Rattle.std.proofs.Common.{◌≡◌, ◌++◌, codes}
use Rattle.simulator.proofs.Fields.{no_pruning, no_lead, no_question}
use Rattle.simulator.proofs.lines.quiet_event_of.Goals as goal

pub returns-in_err-replica : goal.returns-in_err-replica
returns-in_err-replica c =
    let front = c.in-Some.ensures.cases in
    let whole : c.args.words.now ≡ codes "prune " ++ c.in-Some.fields.now = rw front.2 front.1.1 in
    rw c.from_residual.ensures
    (no_pruning c.args.words.now c.in-Some.fields.now whole c.in_err-replica.ensures)

pub returns-in_err-replica-2 : goal.returns-in_err-replica-2
returns-in_err-replica-2 c =
    let front = c.in-Some-strip_prefix.ensures.cases in
    let whole : c.args.words.now ≡ codes "lead " ++ c.in-Some-strip_prefix.fields.now =
    rw front.2 front.1.1 in
    rw c.from_residual-in_err-replica-2.ensures
    (no_lead c.args.words.now c.in-Some-strip_prefix.fields.now whole c.in_err-replica-2.ensures)

pub returns-in_err-replica-3 : goal.returns-in_err-replica-3
returns-in_err-replica-3 c =
    let front = c.in-Some-strip_prefix-2.ensures.cases in
    let whole : c.args.words.now ≡ codes "ask " ++ c.in-Some-strip_prefix-2.fields.now =
    rw front.2 front.1.1 in
    rw c.from_residual-in_err-replica-3.ensures
    (no_question c.args.words.now c.in-Some-strip_prefix-2.fields.now whole c.in_err-replica-3.ensures)
