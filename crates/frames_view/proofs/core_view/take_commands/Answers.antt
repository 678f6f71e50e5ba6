use Rattle.std.proofs.Common.{◌≡◌, ℕ, ◌<◌, List, Option, Some, arith, sym, subst, ap, ◌∙◌}
use Rattle.ids.specs.Sizes.{replicas}
use Rattle.definitions.specs.Frames.{command_bytes}
use Rattle.definitions.specs.FrameLimits.{IsCommand}
use Rattle.frames_view.specs.Readings.{IsRead, behind}
use Rattle.frames_view.specs.Parts.{command_in}
use Rattle.frames_view.proofs.Exact.{behind_shorter, behind_read, behind_left}
use Rattle.frames_view.proofs.Parts.{IsExact-command}
use Rattle.frames_view.proofs.core_view.take_commands.Goals as goal

pub overflow_sub-bytes : goal.overflow_sub-bytes
overflow_sub-bytes c =
    let sizes = c.args.config.now in
    let few : replicas sizes < 256 = omega (arith, c.n-replicas.ensures.count, c.n-replicas.type_inv) in
    let few_clients : sizes.clients < 256 =
    omega (arith, c.clients-clients.ensures, c.clients-clients.type_inv) in
    let read = command_in (replicas sizes) sizes.clients in
    let left : behind read c.args.count c.args.bytes.now ≡ Some c.in_ok-rest.rest.now =
    sym (c.in_ok-rest.ensures
    ∙ (ap (λ (n : ℕ). behind (command_in n c.clients-clients.result) c.args.count c.args.bytes.now)
    c.n-replicas.ensures.count
    ∙ ap (λ (n : ℕ). behind (command_in (replicas sizes) n) c.args.count c.args.bytes.now)
    c.clients-clients.ensures)) in
    behind_shorter (IsCommand sizes) command_bytes read (IsExact-command sizes (few, few_clients))
    c.args.count c.args.bytes.now c.in_ok-rest.rest.now
    (λ i. omega (arith, c.type_inv.bytes i)) left

pub returns-clause-left : goal.returns-clause-left
returns-clause-left c =
    let sizes = c.args.config.now in
    let few : replicas sizes < 256 = omega (arith, c.n-replicas.ensures.count, c.n-replicas.type_inv) in
    let few_clients : sizes.clients < 256 =
    omega (arith, c.clients-clients.ensures, c.clients-clients.type_inv) in
    let read = command_in (replicas sizes) sizes.clients in
    let left : behind read c.args.count c.args.bytes.now ≡ Some c.in_ok-rest.rest.now =
    sym (c.in_ok-rest.ensures
    ∙ (ap (λ (n : ℕ). behind (command_in n c.clients-clients.result) c.args.count c.args.bytes.now)
    c.n-replicas.ensures.count
    ∙ ap (λ (n : ℕ). behind (command_in (replicas sizes) n) c.args.count c.args.bytes.now)
    c.clients-clients.ensures)) in
    let some : List ℕ → Option (List ℕ) = λ rest. Some rest in
    ap some (c.split.ensures.value.1
    ∙ behind_left (IsCommand sizes) command_bytes read (IsExact-command sizes (few, few_clients))
    c.args.count c.args.bytes.now c.in_ok-rest.rest.now
    (λ i. omega (arith, c.type_inv.bytes i)) left) ∙ sym left

pub returns-clause-taken : goal.returns-clause-taken
returns-clause-taken c =
    let sizes = c.args.config.now in
    let few : replicas sizes < 256 = omega (arith, c.n-replicas.ensures.count, c.n-replicas.type_inv) in
    let few_clients : sizes.clients < 256 =
    omega (arith, c.clients-clients.ensures, c.clients-clients.type_inv) in
    let read = command_in (replicas sizes) sizes.clients in
    let left : behind read c.args.count c.args.bytes.now ≡ Some c.in_ok-rest.rest.now =
    sym (c.in_ok-rest.ensures
    ∙ (ap (λ (n : ℕ). behind (command_in n c.clients-clients.result) c.args.count c.args.bytes.now)
    c.n-replicas.ensures.count
    ∙ ap (λ (n : ℕ). behind (command_in (replicas sizes) n) c.args.count c.args.bytes.now)
    c.clients-clients.ensures)) in
    subst (IsRead command_bytes read c.args.count c.args.bytes.now) (sym c.split.ensures.value.0)
    (behind_read (IsCommand sizes) command_bytes read (IsExact-command sizes (few, few_clients))
    c.args.count c.args.bytes.now c.in_ok-rest.rest.now
    (λ i. omega (arith, c.type_inv.bytes i)) left)
