use Rattle.std.proofs.Common.{◌≡◌, ◌≤◌, ℕ, ap, sym, ◌∙◌, arith, max}
use Rattle.std.proofs.Math.Nat.{max-eq_left, max-eq_right}
use Rattle.block_tree.specs.Numbers.{CountsState}
use Rattle.block_tree.proofs.counts.Counts.prune.Goals as goal

pub returns-in_default-clause-base : goal.returns-in_default-clause-base
returns-in_default-clause-base c =
    let was : c.self.inside.base ≡ c.args.self.now.base = ap (λ (k : CountsState). k.base) c.self.view_is in
    let own : c.self-inside.inside.0.0.0 ≡ c.prune.self-inside.base = ap (λ k. k.base) c.self-inside.view_is
    in
    let low : c.prune.self-inside.base ≤ c.args.base =
    omega (arith, c.prune-test.true, own, c.base.view_is, c.prune.invariant.own) in
    c.prune.invariant.own ∙ sym (max-eq_left low) ∙ c.prune.invariant.base ∙ ap (λ (n : ℕ). max c.args.base
    n) was

pub returns-clause-base : goal.returns-clause-base
returns-clause-base c =
    let was : c.self.inside.base ≡ c.args.self.now.base = ap (λ (k : CountsState). k.base) c.self.view_is in
    let own : c.self-inside.inside.0.0.0 ≡ c.prune.self-inside.base = ap (λ k. k.base) c.self-inside.view_is
    in
    let high : c.args.base ≤ c.prune.self-inside.base =
    omega (arith, c.prune-test.false, own, c.base.view_is, c.prune.invariant.own) in
    sym (max-eq_right high) ∙ c.prune.invariant.base ∙ ap (λ (n : ℕ). max c.args.base n) was
