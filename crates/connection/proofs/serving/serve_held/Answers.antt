use Rattle.std.proofs.lemmas.Result.{err_from_is_err_and}
use Rattle.connection.specs.Serving.{state}
use Rattle.connection.proofs.Fronts.{front_then}
use Rattle.connection.proofs.Outcomes.{next_cut}
use Rattle.connection.proofs.serving.serve_held.Goals as goal

pub returns-in_err-serve_next : goal.returns-in_err-serve_next
returns-in_err-serve_next g c =
    let p = err_from_is_err_and c.from_residual.result c.from_residual.ensures.1 in
    rw (p.1, p.2)
    (next_cut g.S.Service.answers (state g.W.Write.contents c.args.service.now c.args.writer.now)
    (state g.W.Write.contents c.loop-end.service c.loop-end.writer)
    (state g.W.Write.contents c.serve_next.new.service c.serve_next.new.writer) c.args.feed.now
    c.loop-end.feed c.serve_next.new.feed c.serve_next.new.feed c.in_err-serve_next.field-0.0
    c.loop-end.invariant c.in_err-serve_next.ensures)

pub loop-end-preserved : goal.loop-end-preserved
loop-end-preserved g c =
    front_then g.S.Service.answers (state g.W.Write.contents c.args.service.now c.args.writer.now)
    (state g.W.Write.contents c.serve_next.new.service c.serve_next.new.writer)
    (state g.W.Write.contents c.loop-end.service c.loop-end.writer) c.args.feed.now c.loop-end.feed
    c.serve_next.new.feed
    c.loop-end.invariant ((rw c.in-Served.is at c.in_ok-serve_next.ensures).0)

pub returns-in-Ended : goal.returns-in-Ended
returns-in-Ended g c = (
  state g.W.Write.contents c.loop-end.service c.loop-end.writer,
  c.loop-end.feed,
  c.loop-end.invariant,
  rw c.in-Ended.is at c.in_ok-serve_next.ensures,
)
