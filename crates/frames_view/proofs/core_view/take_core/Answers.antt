use Rattle.std.proofs.Common.{arith, sym, ◌∙◌, ◌<◌}
use Rattle.ids.specs.Sizes.{replicas}
use Rattle.definitions.specs.Frames.{core_bytes}
use Rattle.definitions.specs.FrameLimits.{IsCore}
use Rattle.frames_view.specs.Cores.{core_of_fields}
use Rattle.frames_view.specs.Parts.{core_in}
use Rattle.frames_view.proofs.Exact.{rest_shorter, front_spelled}
use Rattle.frames_view.proofs.Parts.{IsExact-core}
use Rattle.frames_view.proofs.Places.{left_behind}
use Rattle.frames_view.proofs.core_view.take_core.Goals as goal

pub before-raw-requires : goal.before-raw-requires
before-raw-requires c =
    let sizes = c.args.config.now in
    let few : replicas sizes < 256 = omega (arith, c.n-replicas.ensures.count, c.n-replicas.type_inv) in
    let few_clients : sizes.clients < 256 =
    omega (arith, c.clients-clients.ensures, c.clients-clients.type_inv) in
    rest_shorter (IsCore sizes) core_bytes (core_in sizes) (IsExact-core sizes (few, few_clients))
    c.args.bytes.now (core_of_fields c.in_ok-fields.fields) c.in_ok-fields.rest.now
    (λ i. omega (arith, c.type_inv.bytes i)) (sym c.in_ok-fields.ensures.taken)

pub invariant_of-result : goal.invariant_of-result
invariant_of-result c =
    let sizes = c.args.config.now in
    let few : replicas sizes < 256 = omega (arith, c.n-replicas.ensures.count, c.n-replicas.type_inv) in
    let few_clients : sizes.clients < 256 =
    omega (arith, c.clients-clients.ensures, c.clients-clients.type_inv) in
    record {
      spelled =
          c.before-raw.ensures.value
          ∙ front_spelled (IsCore sizes) core_bytes (core_in sizes) (IsExact-core sizes (few, few_clients))
          c.args.bytes.now (core_of_fields c.in_ok-fields.fields) c.in_ok-fields.rest.now
          (λ i. omega (arith, c.type_inv.bytes i)) (sym c.in_ok-fields.ensures.taken);
    }

pub returns-clause-spelled : goal.returns-clause-spelled
returns-clause-spelled c =
    let sizes = c.args.config.now in
    let few : replicas sizes < 256 = omega (arith, c.n-replicas.ensures.count, c.n-replicas.type_inv) in
    let few_clients : sizes.clients < 256 =
    omega (arith, c.clients-clients.ensures, c.clients-clients.type_inv) in
    ((IsExact-core sizes (few, few_clients)).found c.args.bytes.now (core_of_fields c.in_ok-fields.fields)
    c.in_ok-fields.rest.now (λ i. omega (arith, c.type_inv.bytes i)) (sym c.in_ok-fields.ensures.taken)).1

pub returns-clause-lent : goal.returns-clause-lent
returns-clause-lent c =
    let one = c.in_ok-fields in (
      (c.before-raw.ensures.lent, one.ensures.lent.0),
      left_behind c.args.bytes one.rest _ one.ensures.lent.1 c.before-raw.result.now
          c.before-raw.ensures.value,
    )
