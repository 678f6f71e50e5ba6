use Rattle.std.proofs.Common.{refl, ◌≡◌, ◌+◌, ◌++◌, ℕ, suc, [], arith, sym, ap, subst, ◌∙◌, option_map}
use Rattle.executor.proofs.Texts.{on_err}
use Rattle.definitions.specs.Frames.{Core}
use Rattle.replica.specs.Execution.{commands_at, Work, work, stretch, after_blocks, told}
use Rattle.executor.specs.State.{Execution, new_answers}
use Rattle.replica.proofs.Executing.{all-heights, IsUpTo, commands-some, commands-none, begins-up, goes-up}
use Rattle.replica.proofs.Executing.{passes-up, told-up, cuts-up}
use Rattle.replica.proofs.execution.execute_all.Goals as goal
use Rattle.replica.proofs.execution.execute_all.Goals.{in-Some+in_ok-execute_block, in_default}

pub loop-height-init : goal.loop-height-init
loop-height-init g c = (
  begins-up c.args.teller.now.keyring.now c.args.decided.now.tip.now c.args.decided.now.tree.now
      c.args.decided.now.from c.args.executor.now.history
      c.args.pool.now c.args.out.now,
  refl,
  λ l. refl,
  λ k. k,
)

pub returns-in_err-execute_block-clause-cut : goal.returns-in_err-execute_block-clause-cut
returns-in_err-execute_block-clause-cut g c =
    let all = c.args.decided.now.tree.now in
    let tip = c.args.decided.now.tip.now in
    let h : ℕ = c.loop-height.height in
    let up : suc h ≡ h + 1 = omega arith in
    let core : Core = c.in-Some.block.now.core in
    let cs =
    ap (λ (n : ℕ). commands_at tip n all) up
    ∙ commands-some tip (h + 1) all core
    (ap (option_map (λ n. n.now.core)) (sym c.in-Some.is) ∙ c.block_at.ensures) in
    on_err c.from_residual.result
    (cuts-up c.args.teller.now.keyring.now tip all c.args.decided.now.from c.args.executor.now.history
    c.args.pool.now c.args.out.now h
    c.args.decided.now.to c.loop-height.executor.history c.execute_block.new.executor.history
    c.loop-height.pool
    c.execute_block.new.pool c.loop-height.out _ c.loop-height.invariant.0 cs c.loop-height-test.true
    c.in_err-execute_block.ensures.cut)

pub loop-height-preserved : goal.loop-height-preserved
loop-height-preserved g c =
    let keys = c.args.teller.now.keyring.now in
    let all = c.args.decided.now.tree.now in
    let tip = c.args.decided.now.tip.now in
    let h : ℕ = c.loop-height.height in
    let up : suc h ≡ h + 1 = omega arith in (
      elim c.match-block_at.branch [
        | in-Some+in_ok-execute_block w ↦
            let core : Core = w.in-Some.block.now.core in
            let cs =
            ap (λ (n : ℕ). commands_at tip n all) up
            ∙ commands-some tip (h + 1) all core
            (ap (option_map (λ n. n.now.core)) (sym w.in-Some.is) ∙ c.block_at.ensures) in
            subst (λ (n : ℕ). IsUpTo keys tip all c.args.decided.now.from n c.args.executor.now.history
            c.match-block_at.executor.history c.args.pool.now c.match-block_at.pool c.args.out.now
            c.match-block_at.out) up
            (goes-up keys tip all c.args.decided.now.from c.args.executor.now.history c.args.pool.now
            c.args.out.now h
            c.loop-height.executor.history c.match-block_at.executor.history c.loop-height.pool
            c.match-block_at.pool
            c.loop-height.out c.match-block_at.out _ c.loop-height.invariant.0 cs
            (ap (λ (x : Execution). x.history) w.executor-is
            ∙ ap (λ (x : Work). x.history) w.in_ok-execute_block.ensures.executed)
            (w.pool-is ∙ ap (λ (x : Work). x.waits) w.in_ok-execute_block.ensures.executed)
            (w.out-is ∙ w.in_ok-execute_block.ensures.told
            ∙ ap (λ (x : Execution). c.loop-height.out
            ++ told keys (new_answers keys.sizes.most_keys c.loop-height.executor.history x.history))
            (sym w.executor-is)))
        | in_default w ↦ rw (w.executor-is, w.pool-is, w.out-is)
            (subst (λ (n : ℕ). IsUpTo keys tip all c.args.decided.now.from n c.args.executor.now.history
            c.loop-height.executor.history
            c.args.pool.now c.loop-height.pool c.args.out.now c.loop-height.out) up
            (passes-up keys tip all c.args.decided.now.from c.args.executor.now.history c.args.pool.now
            c.args.out.now h
            c.loop-height.executor.history c.loop-height.pool c.loop-height.out c.loop-height.invariant.0
            (ap (λ (n : ℕ). commands_at tip n all) up
            ∙ commands-none tip (h + 1) all
            (sym c.block_at.ensures ∙ ap (option_map (λ n. n.now.core)) w.in_default.is))))
      ],
      elim c.match-block_at.branch [
        | in-Some+in_ok-execute_block w ↦
            ap (λ (x : Execution). x.most_keys) w.executor-is ∙ w.in_ok-execute_block.ensures.room
            ∙ c.loop-height.invariant.1
        | in_default w ↦ ap (λ (x : Execution). x.most_keys) w.executor-is ∙ c.loop-height.invariant.1
      ],
      λ l. let t = c.loop-height-test.true in let f = c.loop-height.invariant.0.low in omega (arith, l, t, f),
      elim c.match-block_at.branch [
        | in-Some+in_ok-execute_block w ↦
            rw (w.executor-is, w.ledger-is)
            (λ k. w.in_ok-execute_block.ensures.written (c.loop-height.invariant.3 k))
        | in_default w ↦ rw (w.executor-is, w.ledger-is) c.loop-height.invariant.3
      ],
    )

pub returns-clause-executed : goal.returns-clause-executed
returns-clause-executed g c =
    let d = c.args.decided.now in
    (λ i. work (c.loop-height.invariant.0.now_is i) (c.loop-height.invariant.0.left_are i))
    ∙ ap (λ (n : ℕ). after_blocks (stretch d.tip.now d.tree.now d.from d.to) n
    (work c.args.executor.now.history c.args.pool.now))
    (all-heights c.args.decided.now.from c.args.decided.now.to c.loop-height.height c.loop-height.invariant.2
    c.loop-height-test.false c.loop-height.auto.height-end)

pub returns-clause-told : goal.returns-clause-told
returns-clause-told g c = told-up c.args.teller.now.keyring.now c.args.decided.now.tip.now
    c.args.decided.now.tree.now c.args.decided.now.from
    c.args.executor.now.history c.args.pool.now c.args.out.now c.loop-height.height
    c.loop-height.executor.history
    c.loop-height.pool c.loop-height.out c.loop-height.invariant.0
