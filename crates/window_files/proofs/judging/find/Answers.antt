use Rattle.std.proofs.Common.{refl, arith}
use Rattle.std.specs.Borrow.{Bor}
use Rattle.std.proofs.lemmas.Bool.{false≢true}
use Rattle.window_files.specs.Files.{Window}
use Rattle.window_files.specs.Judging.{Lacks}
use Rattle.window_files.proofs.Leading.{file-among, none_more, none_of_all}
use Rattle.window_files.proofs.judging.find.Goals as goal

pub returns-then-lacks : goal.returns-then-lacks
returns-then-lacks c = (
  file-among c.args.windows.now c.loop-window.window-index c.window-item.result c.loop-window-test.true
      c.window-item.is,
  c.if-lacks.ensures.0 refl,
)

pub loop-window-preserved : goal.loop-window-preserved
loop-window-preserved c =
    none_more (λ (x : Bor Window). Lacks c.args.lack x.now c.args.leader.now) c.args.windows.now c.loop-window.window-index
    c.window-item.result c.loop-window-test.true c.window-item.is c.loop-window.invariant
    (λ h. false≢true (c.if-lacks.ensures.1 h))

pub returns : goal.returns
returns c =
    none_of_all (λ (x : Bor Window). Lacks c.args.lack x.now c.args.leader.now) c.args.windows.now c.loop-window.window-index
    (omega (arith, c.loop-window-test.false)) c.loop-window.invariant
