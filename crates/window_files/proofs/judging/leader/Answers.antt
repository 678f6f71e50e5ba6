use Rattle.std.proofs.Common.{refl, arith}
use Rattle.std.specs.Borrow.{Bor}
use Rattle.std.proofs.lemmas.Bool.{false≢true}
use Rattle.window_files.specs.Files.{Window}
use Rattle.window_files.proofs.Leading.{IsHighest, first_highest, none_highest, none_more, none_of_all}
use Rattle.window_files.proofs.judging.leader.Goals as goal

pub returns-then-is_highest : goal.returns-then-is_highest
returns-then-is_highest c =
    first_highest c.args.windows.now c.loop-window.window-index c.window-item.result c.loop-window-test.true
    c.window-item.is c.loop-window.invariant (c.if-is_highest.ensures.0 refl)

pub loop-window-preserved : goal.loop-window-preserved
loop-window-preserved c =
    none_more (λ (x : Bor Window). IsHighest c.args.windows.now x) c.args.windows.now c.loop-window.window-index
    c.window-item.result c.loop-window-test.true c.window-item.is c.loop-window.invariant
    (λ h. false≢true (c.if-is_highest.ensures.1 h))

pub returns : goal.returns
returns c =
    none_highest c.args.windows.now (none_of_all (λ (x : Bor Window). IsHighest c.args.windows.now x)
    c.args.windows.now c.loop-window.window-index (omega (arith, c.loop-window-test.false)) c.loop-window.invariant)
