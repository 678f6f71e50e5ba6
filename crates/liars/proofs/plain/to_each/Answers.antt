use Rattle.std.proofs.Common.{◌≡◌, ◌%◌, ◌==◌, arith, refl}
use Rattle.std.specs.Prelude.{if◌then◌else◌}
use Rattle.std.proofs.lemmas.Bool.Decides.{nat_tests}
use Rattle.ids.specs.declared.kind.Kind.TheVariants as kind
use Rattle.signed_frames.specs.declared.out.To.TheVariants as to
use Rattle.signed_frames.specs.declared.out.Sending.{Sending}
use Rattle.liars.specs.Lies.{faces}
use Rattle.liars.proofs.Sent.{one_more}
use Rattle.liars.proofs.plain.to_each.Goals as goal
use Rattle.liars.proofs.plain.to_each.Goals.{then-number-eq0, else-number-eq0}

pub loop-number-preserved : goal.loop-number-preserved
loop-number-preserved c =
    let sending : Sending =
    record { to = to.Replica c.loop-number.number; kind = kind.Proposal; frame = c.in_ok-frame.frame } in
    let face : c.if-number-eq0.from_slice.now
    ≡ (if c.loop-number.number % 2 == 0 then c.args.even.now else c.args.odd.now) =
    elim c.if-number-eq0.branch [
      | then-number-eq0 w ↦ grind (arith, nat_tests)
      | else-number-eq0 w ↦ grind (arith, nat_tests)
    ] in
    one_more (faces c.args.even.now c.args.odd.now) c.loop-number.out.items c.push.new.self.items
    c.loop-number.number sending c.loop-number.invariant c.in_ok-push.ensures.items
    (rw (c.in_ok-frame.ensures.items, face) refl)
