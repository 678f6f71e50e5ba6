use Rattle.std.proofs.Common.{◌≡◌, ℕ, ◌+◌, ◌-◌, ◌≤◌, ◌<◌, ◌∙◌, length, arith, sym}
use Rattle.deployment.proofs.Lines.{all_push, length_push, sum_push, more_fronts}
use Rattle.deployment.proofs.Only.{HasNoFront, no_front, nothing_more, same_front}
use Rattle.deployment.proofs.fronts.read_fronts.Goals as goal
use Rattle.deployment.proofs.fronts.read_fronts.Goals.{then-line-eq0-via-then-line-eq0}
use Rattle.deployment.proofs.fronts.read_fronts.Goals.{then-line-eq0-via-else-line-eq0+then-line-from}

pub loop-placed-preserved : goal.loop-placed-preserved
loop-placed-preserved c =
    let before = c.loop-placed.invariant in
    let some : 1 ≤ c.in-Some.line.0 = omega arith in
    record {
      fronts = rw c.in_ok-push.ensures.items (
        all_push (λ n. 1 ≤ n) c.loop-placed.fronts.items c.in-Some.line.0 before.fronts.0 some,
        omega (arith, sum_push c.loop-placed.fronts.items c.in-Some.line.0, before.fronts.1),
      );
      text = more_fronts c.loop-placed.front c.in-Some.line.0 c.args.text.now c.loop-placed.rest.now
          c.in-Some.line.1.now c.loop-placed.fronts.items c.push.new.self.items before.text before.count
          c.in-Some.ensures.1 c.in_ok-push.ensures.items;
      count = rw c.in_ok-push.ensures.items (omega (arith, length_push c.loop-placed.fronts.items c.in-Some.line.0, before.count));
      few = omega arith;
      within = omega arith;
    }

pub returns-in_default-clause-bad : goal.returns-in_default-clause-bad
returns-in_default-clause-bad c = λ line same found are e.
    let before = c.loop-placed.invariant in
    let left = c.args.config.clients - c.loop-placed.placed in
    let place : 0 + length c.loop-placed.fronts.items ≡ c.loop-placed.front = omega (arith, before.count) in
    let none : HasNoFront (0 + length c.loop-placed.fronts.items) left c.loop-placed.rest.now =
    rw place (λ n rest low high spelled. c.in_default.ensures n rest (omega (arith, high)) spelled) in
    no_front 0 left c.loop-placed.fronts.items found c.loop-placed.rest.now (omega arith) (omega (arith, are.1))
    are.0 (omega (arith, are.1, before.fronts.1)) none (sym before.text ∙ e)

pub returns-then-line-eq0-clause-bad : goal.returns-then-line-eq0-clause-bad
returns-then-line-eq0-clause-bad c = λ line same found are e.
    let before = c.loop-placed.invariant in
    let left = c.args.config.clients - c.loop-placed.placed in
    let place : 0 + length c.loop-placed.fronts.items ≡ c.loop-placed.front = omega (arith, before.count) in
    let out : (n : ℕ) → 1 ≤ n → n ≤ left → c.in-Some.line.0 ≡ n → ⊥ =
    λ n low high is.
    elim c.then-line-eq0.branch [
      | then-line-eq0-via-then-line-eq0 w ↦ omega (arith, low, is)
      | then-line-eq0-via-else-line-eq0+then-line-from w ↦ omega (arith, high, is)
    ] in
    let none : HasNoFront (0 + length c.loop-placed.fronts.items) left c.loop-placed.rest.now =
    rw place (λ n rest low high spelled.
    let both = same_front c.loop-placed.front c.in-Some.line.0 n c.in-Some.line.1.now rest c.in-Some.ensures.0
    (omega (arith, high)) (sym c.in-Some.ensures.1 ∙ spelled) in
    out n low high both.0) in
    no_front 0 left c.loop-placed.fronts.items found c.loop-placed.rest.now (omega arith) (omega (arith, are.1))
    are.0 (omega (arith, are.1, before.fronts.1)) none (sym before.text ∙ e)

pub returns-else-is_empty-clause-bad : goal.returns-else-is_empty-clause-bad
returns-else-is_empty-clause-bad c = λ line same found are e.
    let before = c.loop-placed.invariant in
    let all : c.loop-placed.placed ≡ c.args.config.clients = omega arith in
    nothing_more 0 c.loop-placed.fronts.items found c.loop-placed.rest.now (omega (arith, are.1)) are.0
    (omega (arith, are.1, before.fronts.1, all))
    (λ empty. let none = rw empty at c.if-is_empty.ensures in cc none) (sym before.text ∙ e)
