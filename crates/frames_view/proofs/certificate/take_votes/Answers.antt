use Rattle.std.proofs.Common.{◌≡◌, ℕ, ◌<◌, List, Option, Some, arith, sym, subst, ap, ◌∙◌}
use Rattle.ids.specs.Sizes.{Sizes, replicas}
use Rattle.definitions.specs.Frames.{Vote, vote_bytes}
use Rattle.definitions.specs.FrameLimits.{IsVote}
use Rattle.frames_view.specs.Readings.{IsRead, behind_rising}
use Rattle.frames_view.specs.Parts.{vote_in}
use Rattle.frames_view.proofs.Exact.{rising_shorter, rising_read, rising_left}
use Rattle.frames_view.proofs.Parts.{IsExact-vote}
use Rattle.frames_view.proofs.certificate.take_votes.Goals as goal

-- The sizes without their clients: votes are of replicas.
of_replicas : Sizes → Sizes
of_replicas sizes = record sizes { clients = 0 }

pub overflow_sub-bytes : goal.overflow_sub-bytes
unfolding of_replicas
overflow_sub-bytes c =
    let sizes = of_replicas c.args.config.now in
    let few : replicas sizes < 256 = omega (arith, c.n.ensures.count, c.n.type_inv) in
    let none : sizes.clients < 256 = omega arith in
    let rank : Vote → ℕ = λ v. v.voter in
    let left : behind_rising rank (vote_in (replicas sizes)) 0 c.args.count c.args.bytes.now
    ≡ Some c.in_ok-rest.rest.now =
    sym (c.in_ok-rest.ensures
    ∙ ap (λ (n : ℕ). behind_rising rank (vote_in n) 0 c.args.count c.args.bytes.now) c.n.ensures.count) in
    rising_shorter (IsVote sizes) vote_bytes (vote_in (replicas sizes)) (IsExact-vote sizes (few, none))
    rank c.args.count c.args.bytes.now c.in_ok-rest.rest.now
    (λ i. omega (arith, c.type_inv.bytes i)) left

pub returns-clause-left : goal.returns-clause-left
unfolding of_replicas
returns-clause-left c =
    let sizes = of_replicas c.args.config.now in
    let few : replicas sizes < 256 = omega (arith, c.n.ensures.count, c.n.type_inv) in
    let none : sizes.clients < 256 = omega arith in
    let rank : Vote → ℕ = λ v. v.voter in
    let left : behind_rising rank (vote_in (replicas sizes)) 0 c.args.count c.args.bytes.now
    ≡ Some c.in_ok-rest.rest.now =
    sym (c.in_ok-rest.ensures
    ∙ ap (λ (n : ℕ). behind_rising rank (vote_in n) 0 c.args.count c.args.bytes.now) c.n.ensures.count) in
    let some : List ℕ → Option (List ℕ) = λ rest. Some rest in
    ap some (c.split.ensures.value.1
    ∙ rising_left (IsVote sizes) vote_bytes (vote_in (replicas sizes)) (IsExact-vote sizes (few, none))
    rank c.args.count c.args.bytes.now c.in_ok-rest.rest.now
    (λ i. omega (arith, c.type_inv.bytes i)) left) ∙ sym left

pub returns-clause-taken : goal.returns-clause-taken
unfolding of_replicas
returns-clause-taken c =
    let sizes = of_replicas c.args.config.now in
    let few : replicas sizes < 256 = omega (arith, c.n.ensures.count, c.n.type_inv) in
    let none : sizes.clients < 256 = omega arith in
    let rank : Vote → ℕ = λ v. v.voter in
    let left : behind_rising rank (vote_in (replicas sizes)) 0 c.args.count c.args.bytes.now
    ≡ Some c.in_ok-rest.rest.now =
    sym (c.in_ok-rest.ensures
    ∙ ap (λ (n : ℕ). behind_rising rank (vote_in n) 0 c.args.count c.args.bytes.now) c.n.ensures.count) in
    subst (IsRead vote_bytes (vote_in (replicas sizes)) c.args.count c.args.bytes.now)
    (sym c.split.ensures.value.0)
    (rising_read (IsVote sizes) vote_bytes (vote_in (replicas sizes)) (IsExact-vote sizes (few, none)) rank
    c.args.count c.args.bytes.now c.in_ok-rest.rest.now
    (λ i. omega (arith, c.type_inv.bytes i)) left)
