use Rattle.std.proofs.Common.{◌≡◌, arith}
use Rattle.ids.specs.Sizes.{replicas}
use Rattle.key_file.specs.Holders.{has_pair}
use Rattle.key_file.proofs.Files.{one_more_row, no_row, too_long}
use Rattle.key_file.proofs.held_keys.HeldKeys.read.Goals as goal

pub returns-in-Err-clause-bad : goal.returns-in-Err-clause-bad
returns-in-Err-clause-bad c = λ same.
    no_row (has_pair c.args.holder) c.args.config c.loop-one.one c.args.text.now c.loop-one.rest.now
    c.loop-one.keys.items (omega arith) c.loop-one.invariant (c.in-Err.ensures.bad (cc same))

pub loop-one-preserved : goal.loop-one-preserved
loop-one-preserved c =
    let row = c.in-Ok.ensures.read in
    rw row.1 (one_more_row (has_pair c.args.holder) c.args.config c.loop-one.one c.args.text.now
    c.loop-one.rest.now c.in-Ok.behind.now c.loop-one.keys.items row.0 c.loop-one.invariant row.2)

pub returns-then-not-is_empty-clause-bad : goal.returns-then-not-is_empty-clause-bad
returns-then-not-is_empty-clause-bad c = λ same.
    let last : c.loop-one.one ≡ replicas c.args.config = omega arith in
    too_long (has_pair c.args.holder) c.args.config c.args.text.now c.loop-one.rest.now c.loop-one.keys.items
    (rw last at c.loop-one.invariant)
    (λ e. let empty = rw e at c.if-not-is_empty.ensures in cc empty)
