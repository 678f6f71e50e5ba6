use Rattle.std.proofs.Common.{◌++◌, ◌∙◌, ap, append_assoc, arith}
use Rattle.key_file.specs.Holders.{has_pair}
use Rattle.key_file.proofs.Files.{one_more, none_at}
use Rattle.key_file.proofs.rows.read_with.Goals as goal

pub returns-in-Err-clause-bad : goal.returns-in-Err-clause-bad
returns-in-Err-clause-bad c = λ same.
    none_at (has_pair c.args.holder.now) c.args.one c.args.first c.loop-i.i c.args.count c.args.text.now
    c.loop-i.rest.now c.loop-i.invariant.0 (omega arith) c.loop-i.invariant.2
    (rw (← c.first.view_is) (c.in-Err.ensures.bad (cc same)))

pub loop-i-preserved : goal.loop-i-preserved
loop-i-preserved c =
    let row = c.in-Ok.ensures.read in (
      c.loop-i.invariant.0 ++ row.0,
      row.1 ∙ ap (λ ks. ks ++ row.0) c.loop-i.invariant.1
          ∙ append_assoc c.args.keys.now.items c.loop-i.invariant.0 row.0,
      one_more (has_pair c.args.holder.now) c.args.one c.args.first c.loop-i.i c.args.text.now
          c.loop-i.rest.now c.in-Ok.behind.now c.loop-i.invariant.0 row.0 c.loop-i.invariant.2
          (rw (← c.first.view_is) row.2),
    )
