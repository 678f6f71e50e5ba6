use Rattle.std.proofs.Common.{◌≡◌, ◌+◌, [], ◌∷◌, refl, length, arith}
use Rattle.std.proofs.lemmas.Slice.{pushed}
use Rattle.executor.specs.declared.entries.Row.{Row}
use Rattle.executor.proofs.Payloads.{entry-more}
use Rattle.executor.proofs.entries.put_last.Goals as goal

pub returns-clause-entered : goal.returns-clause-entered
returns-clause-entered c =
    let payloads = c.args.payloads.now.items in
    let rows = c.args.rows.now.items in
    let row : Row = record {
      client = c.client.result;
      seq = c.seq.result;
      start = c.len-start.result;
      end = c.len.result;
    } in
    let more = pushed (row ∷ []) refl c.unwrap.ensures c.push.ensures.items in
    let start : row.start ≡ length payloads = omega (arith, c.len-start.ensures) in
    let end : row.end ≡ length payloads + length c.payload.result.now =
    omega (arith, c.len.ensures, c.put.ensures.len) in
    rw (more, c.put.ensures.items) (entry-more payloads c.payload.result.now rows row c.args.entry.now
    c.requires.kept c.client.ensures c.seq.ensures start end c.payload.ensures)
