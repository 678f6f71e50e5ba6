use Rattle.std.proofs.Common.{◌++◌, arith, length-append, ◌∙◌}
use Rattle.std.proofs.KnownBytes.{Consumes-trans}
use Rattle.std.proofs.lemmas.Result.{err_from_is_err_and}
use Rattle.line_feed.proofs.Streams.{unfinished_short}
use Rattle.connection.specs.Serving.{state}
use Rattle.connection.proofs.Fronts.{front_then, front_more}
use Rattle.connection.proofs.Outcomes.{ends_cut, ends_by_item, ends_by_reader, ends_by_input}
use Rattle.connection.proofs.Outcomes.{Consumes-and_none, same_error}
use Rattle.connection.proofs.serving.serve_pieces.Goals as goal

pub returns-in_err-end : goal.returns-in_err-end
returns-in_err-end g c =
    let p = err_from_is_err_and c.from_residual.result c.from_residual.ensures.1 in
    let i = c.loop-reads.invariant in
    rw (p.1, p.2)
    (ends_cut g.S.Service.answers (state g.W.Write.contents c.args.service.now c.args.writer.now)
    (state g.W.Write.contents c.loop-reads.service c.loop-reads.writer)
    (state g.W.Write.contents c.serve_round.new.service c.serve_round.new.writer)
    (g.R.Read.remaining c.args.reader.now.device) (g.R.Read.remaining c.loop-reads.reader.device)
    c.args.reader.now.failures c.loop-reads.reader.failures i.0 c.loop-reads.feed c.serve_round.new.feed
    i.1 i.3 i.4 c.in_err-end.field-0.0 c.in_err-end.ensures)

pub returns-in-Some : goal.returns-in-Some
returns-in-Some g c =
    let i = c.loop-reads.invariant in
    ends_by_item g.S.Service.answers (state g.W.Write.contents c.args.service.now c.args.writer.now)
    (state g.W.Write.contents c.loop-reads.service c.loop-reads.writer)
    (state g.W.Write.contents c.serve_round.new.service c.serve_round.new.writer)
    (g.R.Read.remaining c.args.reader.now.device) (g.R.Read.remaining c.loop-reads.reader.device)
    c.args.reader.now.failures c.loop-reads.reader.failures i.0 c.loop-reads.feed c.serve_round.new.feed
    i.1 i.3 i.4 c.in-Some.end (rw c.in-Some.is at c.in_ok-end.ensures)

pub pull-requires : goal.pull-requires
pull-requires g c = unfinished_short c.serve_round.new.feed ((rw c.in-None.is at c.in_ok-end.ensures).1)

pub returns-in_err-pull : goal.returns-in_err-pull
returns-in_err-pull g c =
    let p = err_from_is_err_and c.from_residual-in_err-pull.result c.from_residual-in_err-pull.ensures.1 in
    let i = c.loop-reads.invariant in
    rw (p.1, p.2, same_error _ _ c.in_err-pull.ensures.failed.0)
    (ends_by_reader g.S.Service.answers (state g.W.Write.contents c.args.service.now c.args.writer.now)
    (state g.W.Write.contents c.loop-reads.service c.loop-reads.writer)
    (state g.W.Write.contents c.serve_round.new.service c.serve_round.new.writer)
    (g.R.Read.remaining c.args.reader.now.device) (g.R.Read.remaining c.pull.new.reader.device)
    c.args.reader.now.failures c.pull.new.reader.failures i.0 c.loop-reads.feed c.serve_round.new.feed
    (Consumes-and_none (g.R.Read.remaining c.args.reader.now.device)
    (g.R.Read.remaining c.loop-reads.reader.device) (g.R.Read.remaining c.pull.new.reader.device) i.0
    i.1 c.in_err-pull.ensures.nothing) i.3
    (rw i.4 at c.in_err-pull.ensures.failed.1) (rw c.in-None.is at c.in_ok-end.ensures))

pub returns-then-not-branch : goal.returns-then-not-branch
returns-then-not-branch g c =
    let i = c.loop-reads.invariant in
    let pulled = rw c.if-not-branch.true at c.in_ok-pull.ensures.read in
    ends_by_input g.S.Service.answers (state g.W.Write.contents c.args.service.now c.args.writer.now)
    (state g.W.Write.contents c.loop-reads.service c.loop-reads.writer)
    (state g.W.Write.contents c.serve_round.new.service c.serve_round.new.writer)
    (g.R.Read.remaining c.args.reader.now.device) (g.R.Read.remaining c.pull.new.reader.device)
    c.args.reader.now.failures c.pull.new.reader.failures i.0 c.loop-reads.feed c.serve_round.new.feed
    (Consumes-and_none (g.R.Read.remaining c.args.reader.now.device)
    (g.R.Read.remaining c.loop-reads.reader.device) (g.R.Read.remaining c.pull.new.reader.device) i.0
    i.1 pulled.0) i.3
    (c.in_ok-pull.ensures.kept ∙ i.4) pulled.1 (rw c.in-None.is at c.in_ok-end.ensures)

pub loop-reads-preserved : goal.loop-reads-preserved
loop-reads-preserved g c =
    let i = c.loop-reads.invariant in
    let all = rw c.in-None.is at c.in_ok-end.ensures in
    let pulled = rw c.if-not-branch.false at c.in_ok-pull.ensures.read in (
      i.0 ++ pulled.0,
      Consumes-trans (g.R.Read.remaining c.args.reader.now.device)
          (g.R.Read.remaining c.loop-reads.reader.device) (g.R.Read.remaining c.pull.new.reader.device) i.0
          pulled.0 i.1 pulled.1,
      omega (arith, i.2, pulled.2, length-append i.0 pulled.0),
      rw pulled.3
          (front_more g.S.Service.answers (state g.W.Write.contents c.args.service.now c.args.writer.now)
          (state g.W.Write.contents c.serve_round.new.service c.serve_round.new.writer) i.0
          c.serve_round.new.feed pulled.0
          (front_then g.S.Service.answers (state g.W.Write.contents c.args.service.now c.args.writer.now)
          (state g.W.Write.contents c.serve_round.new.service c.serve_round.new.writer)
          (state g.W.Write.contents c.loop-reads.service c.loop-reads.writer) i.0 c.loop-reads.feed
          c.serve_round.new.feed i.3 all.0)),
      c.in_ok-pull.ensures.kept ∙ i.4,
    )
