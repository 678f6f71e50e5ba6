use Rattle.std.proofs.Common.{◌≡◌, ◌+◌, ◌∙◌, arith, length, map, sym}
use Rattle.std.specs.Borrow.{Bor}
use Rattle.definitions.specs.Bytes.{Bytes}
use Rattle.deployment.proofs.Lines.{more_addresses}
use Rattle.deployment.proofs.Only.{no_replica}
use Rattle.deployment.proofs.replicas.read_replicas.Goals as goal

pub loop-replica-preserved : goal.loop-replica-preserved
loop-replica-preserved c =
    more_addresses c.loop-replica.replica c.args.text.now c.loop-replica.rest.now c.in-Some.line.1.now
    c.loop-replica.addresses.items c.push.new.self.items c.in-Some.line.0 c.loop-replica.invariant.0
    c.loop-replica.invariant.1 c.in-Some.ensures.0 c.in-Some.ensures.1 c.in_ok-push.ensures.items

pub returns-in_default-clause-bad : goal.returns-in_default-clause-bad
returns-in_default-clause-bad c = λ line same found rest are e.
    let so_far = c.loop-replica.invariant.0 in
    let place : 0 + length (map (λ (a : Bor Bytes). a.now) c.loop-replica.addresses.items) ≡ c.loop-replica.replica
    = omega (arith, so_far.0) in
    no_replica 0 (map (λ (a : Bor Bytes). a.now) c.loop-replica.addresses.items) found c.loop-replica.rest.now rest
    so_far.1 are.1 (omega (arith, so_far.0, are.0)) (rw place c.in_default.ensures)
    (sym c.loop-replica.invariant.1 ∙ e)
