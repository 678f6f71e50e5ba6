use Rattle.std.proofs.Common.{refl, inr}
use Rattle.std.proofs.lemmas.Result.{err_from_is_err_and}
use Rattle.connection.specs.Serving.{state}
use Rattle.connection.proofs.Outcomes.{held_flushed, same_error}
use Rattle.connection.proofs.serving.serve_round.Goals as goal

pub returns-in_err-flush : goal.returns-in_err-flush
returns-in_err-flush g c =
    let p = err_from_is_err_and c.from_residual-in_err-flush.result c.from_residual-in_err-flush.ensures.1 in
    rw (p.1, p.2, same_error _ _ c.in_err-flush.ensures.failed.0)
    (inr (
      state g.W.Write.contents c.serve_held.new.service c.serve_held.new.writer,
      c.in_ok-end.end,
      c.in_ok-end.ensures,
      record {
        same = refl {a = c.serve_held.new.service};
        kept = c.flush.ensures.bytes;
        failed = c.in_err-flush.ensures.failed.1;
      },
    ))

pub returns : goal.returns
returns g c =
    held_flushed g.S.Service.answers (state g.W.Write.contents c.args.service.now c.args.writer.now)
    (state g.W.Write.contents c.serve_held.new.service c.serve_held.new.writer)
    (g.W.Write.contents c.flush.new.self.device) c.flush.new.self.failures c.args.feed.now
    c.serve_held.new.feed c.in_ok-end.end
    c.in_ok-end.ensures c.flush.ensures.bytes c.in_ok-flush.ensures.kept
