use Rattle.std.proofs.Common.{◌≡◌, ◌+◌, ◌∷◌, [], length, reverse, drop, sym, ap, ◌∙◌, arith}
use Rattle.definitions.specs.Chronicles.{Chronicle}
use Rattle.block_tree.proofs.Numbers.{blocks-count}
use Rattle.replica.specs.Replay.{step_of, replay}
use Rattle.replica.proofs.Lent.{none-left, replay-last, counted-last}
use Rattle.replica.proofs.chronicle.ChronicleViewIterator.next.Goals as goal

pub returns-in_err-step-clause-steps : goal.returns-in_err-step-clause-steps
returns-in_err-step-clause-steps c =
    let view = c.self.inside in
    let none : c.args.self.now ≡ [] =
    sym c.self.view_is
    ∙ none-left view.steps.now (drop view.newer view.tree.now.stored) c.in_err-step.ensures.cases
    in rw c.from_residual.ensures (none, none)

pub overflow_add-self : goal.overflow_add-self
overflow_add-self c =
    let view = c.self.inside in
    let count = counted-last view.steps.now c.in_ok-step.earlier.now c.in_ok-step.step.now c.inserted.result
    c.in_ok-step.ensures.cases.0 c.inserted.ensures in
    omega (arith, count, c.self.invariant, c.len-blocks.ensures, blocks-count view.tree.now.stored)

pub invariant_of-self : goal.invariant_of-self
invariant_of-self c =
    let view = c.self.inside in
    let count = counted-last view.steps.now c.in_ok-step.earlier.now c.in_ok-step.step.now c.inserted.result
    c.in_ok-step.ensures.cases.0 c.inserted.ensures in
    omega (arith, count, c.self.invariant)

pub returns-clause-steps : goal.returns-clause-steps
returns-clause-steps c =
    let view = c.self.inside in
    sym c.self.view_is
    ∙ replay-last view.steps.now c.in_ok-step.earlier.now c.in_ok-step.step.now view.newer c.inserted.result
    view.tree.now.stored c.in_ok-step.ensures.cases.0 c.inserted.ensures

pub returns-clause-goes : goal.returns-clause-goes
returns-clause-goes c =
    let view = c.self.inside in
    let rest = replay (reverse c.in_ok-step.earlier.now)
    (drop (view.newer + c.inserted.result) view.tree.now.stored) in
    let e : c.args.self.now ≡ step_of c.in_ok-step.step.now (drop view.newer view.tree.now.stored) ∷ rest =
    sym c.self.view_is
    ∙ replay-last view.steps.now c.in_ok-step.earlier.now c.in_ok-step.step.now view.newer c.inserted.result
    view.tree.now.stored c.in_ok-step.ensures.cases.0 c.inserted.ensures in
    let less = ap (λ (x : Chronicle). length x) e in
    record { on = λ f. (tt, f, omega (arith, less)); keeps = tt; rests = λ f. tt }
