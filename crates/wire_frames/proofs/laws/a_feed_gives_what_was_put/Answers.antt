use Rattle.std.proofs.Common.{[]}
use Rattle.wire_frames.proofs.Streams.{gives_of_put, nothing_left}
use Rattle.wire_frames.proofs.laws.a_feed_gives_what_was_put.Goals as goal

pub returns : goal.returns
returns c = λ longest frames calls held coming limit short lead e.
    let g = gives_of_put longest calls frames [] held coming limit short lead e in
    (g.never, g.rest, g.first, g.behind, nothing_left longest g.rest held coming limit g.short g.behind)
