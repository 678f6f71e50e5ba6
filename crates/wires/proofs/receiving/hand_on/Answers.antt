use Rattle.std.proofs.Common.{◌∙◌, sym, subst}
use Rattle.definitions.specs.Bytes.{Bytes}
use Rattle.wires.specs.Receiving.{Passes}
use Rattle.wires.proofs.Passing.{Passes-trans, Passes-one, Passes-ping}
use Rattle.wires.proofs.receiving.hand_on.Goals as goal

pub loop-frame-preserved-in-Some-Ping : goal.loop-frame-preserved-in-Some-Ping
loop-frame-preserved-in-Some-Ping g c =
    let i = c.loop-frame.invariant in
    let left = c.next.follows.lender-at-none.held in
    let h = rw (c.in_ok-next.was, c.in-Some-Ping.is, c.in-Some-Ping.field-0-is) at c.next.follows.holds-at-none in
    record {
      passes = Passes-trans g.A.Arrivals.takes c.args.from c.args.rows.now c.loop-frame.rows c.loop-frame.rows
          c.args.feed.now.held c.loop-frame.feed.held left i.passes
          (subst
          (λ (l : Bytes). Passes g.A.Arrivals.takes c.args.from c.loop-frame.rows c.loop-frame.rows l left)
          (sym h.2.1) (Passes-ping g.A.Arrivals.takes c.args.from c.loop-frame.rows left));
      longest = h.0 ∙ i.longest;
      piece = h.1 ∙ i.piece;
    }

pub loop-frame-preserved : goal.loop-frame-preserved
loop-frame-preserved g c =
    let i = c.loop-frame.invariant in
    let left = c.next.follows.lender-at-none.held in
    let h = rw (c.in_ok-next.was, c.in-Some-Frame.is, c.in-Some-Frame.field-0-is)
    at c.next.follows.holds-at-none in
    let some = rw (c.in-Some-Frame.is, c.in-Some-Frame.field-0-is) at c.in_ok-next.ensures.bytes in
    record {
      passes = Passes-trans g.A.Arrivals.takes c.args.from c.args.rows.now c.loop-frame.rows c.take.new.self
          c.args.feed.now.held c.loop-frame.feed.held left i.passes
          (subst (λ (l : Bytes). Passes g.A.Arrivals.takes c.args.from c.loop-frame.rows c.take.new.self l left)
          (sym h.2.1)
          (Passes-one g.A.Arrivals.takes c.args.from c.loop-frame.rows c.take.new.self c.in-Some-Frame.frame.now
          left some c.take.ensures));
      longest = h.0 ∙ i.longest;
      piece = h.1 ∙ i.piece;
    }
