use Rattle.std.proofs.Common.{◌≡◌, ◌∙◌, ℕ, [], inl, ap, sym, subst, arith}
use Rattle.std.proofs.KnownBytes.{Consumes-nil}
use Rattle.definitions.specs.Bytes.{Bytes}
use Rattle.wire_frames.specs.Framing.{Holding, IsUnfinished}
use Rattle.wires.specs.Receiving.{IsLeft, Passes}
use Rattle.wires.proofs.Passing.{Passes-none, Receives-then}
use Rattle.wires.proofs.receiving.receive.Goals as goal

pub returns-in_default : goal.returns-in_default
returns-in_default g c = record {
  read = [];
  left = [];
  consumed = Consumes-nil (g.D.Read.remaining c.args.reader.now.device);
  passed = Passes-none g.A.Arrivals.takes c.args.peer.now.party c.args.rows.now [];
  ended = inl (omega arith);
}

pub loop-init : goal.loop-init
loop-init g c =
    let takes = g.A.Arrivals.takes in
    let held : c.in-Ok.feed.held ≡ [] = ap (λ (feed : Holding). feed.held) c.in-Ok.ensures.empty in
    record {
      so_far = (
        [],
        Consumes-nil (g.D.Read.remaining c.args.reader.now.device),
        subst (λ (left : Bytes). Passes takes c.party-from.result c.args.rows.now c.args.rows.now [] left) (sym held)
            (Passes-none takes c.party-from.result c.args.rows.now []),
      );
      unfinished = subst (λ (left : Bytes). IsUnfinished c.in-Ok.feed.longest left) (sym held) (inl (omega arith));
      longest = ap (λ (feed : Holding). feed.longest) c.in-Ok.ensures.empty;
      room = omega (arith, c.in-Ok-vec.ensures.len, ap (λ (feed : Holding). feed.piece) c.in-Ok.ensures.empty);
    }

pub receive_some-requires-clause-unfinished : goal.receive_some-requires-clause-unfinished
receive_some-requires-clause-unfinished g c = c.loop.invariant.unfinished

pub receive_some-requires-clause-piece : goal.receive_some-requires-clause-piece
receive_some-requires-clause-piece g c =
    rw c.deref_mut.ensures.value (omega (arith, c.loop.invariant.room, c.loop.piece.ok.0))

pub loop-preserved : goal.loop-preserved
loop-preserved g c =
    let i = c.loop.invariant in
    let sizes = c.receive_some.ensures.sizes in
    record {
      so_far = Receives-then g.A.Arrivals.takes c.party-from.result c.args.rows.now c.loop.rows c.receive_some.new.rows
          (g.D.Read.remaining c.args.reader.now.device) (g.D.Read.remaining c.loop.reader.device)
          (g.D.Read.remaining c.receive_some.new.reader.device) i.so_far.0 c.loop.feed c.receive_some.new.feed
          i.so_far.1 i.so_far.2 c.receive_some.ensures.read;
      unfinished = subst (λ (longest : ℕ). IsUnfinished longest c.receive_some.new.feed.held) (sym sizes.0)
          c.in_default-receive_some.ensures.left;
      longest = sizes.0 ∙ i.longest;
      room = omega (arith, sizes.1, i.room);
    }

pub returns-in-Err : goal.returns-in-Err
returns-in-Err g c =
    let i = c.loop.invariant in
    let all = Receives-then g.A.Arrivals.takes c.party-from.result c.args.rows.now c.loop.rows c.receive_some.new.rows
    (g.D.Read.remaining c.args.reader.now.device) (g.D.Read.remaining c.loop.reader.device)
    (g.D.Read.remaining c.receive_some.new.reader.device) i.so_far.0 c.loop.feed c.receive_some.new.feed
    i.so_far.1 i.so_far.2 c.receive_some.ensures.read in
    record {
      read = all.0;
      left = c.receive_some.new.feed.held;
      consumed = all.1;
      passed = subst
          (λ (from : ℕ). Passes g.A.Arrivals.takes from c.args.rows.now c.receive_some.new.rows all.0
          c.receive_some.new.feed.held)
          c.party-from.ensures all.2;
      ended = subst (λ (longest : ℕ). IsLeft longest c.receive_some.new.feed.held c.in-Err.end) i.longest
          c.in-Err.ensures.left;
    }

pub returns : goal.returns
returns g c =
    let i = c.loop.invariant in
    record {
      read = i.so_far.0;
      left = c.loop.feed.held;
      consumed = i.so_far.1;
      passed = rw c.party-from.ensures at i.so_far.2;
      ended = subst (λ (longest : ℕ). IsUnfinished longest c.loop.feed.held) i.longest i.unfinished;
    }
