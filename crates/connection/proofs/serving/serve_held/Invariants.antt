use Rattle.std.proofs.Common.{length}
use Rattle.connection.specs.Serving.{ServesFront, state}
use Rattle.connection.proofs.serving.serve_held.Given as goal

abbrev pub invariant-loop-end : goal.invariant-loop-end
invariant-loop-end g l =
    ServesFront g.S.Service.answers (state g.W.Write.contents l.initial.service l.initial.writer)
    (state g.W.Write.contents l.service l.writer) l.initial.feed l.feed

abbrev pub decreases-loop-end : goal.decreases-loop-end
decreases-loop-end g l = length l.feed
