use Rattle.std.proofs.Common.{◌≡◌, ◌-◌, ◌+◌, ◌<◌, ◌≤◌, ℕ, Some, length, arith, ap, sym, ◌∙◌}
use Rattle.std.specs.Prelude.{option_map}
use Rattle.definitions.specs.Bytes.{Bytes}
use Rattle.definitions.specs.Frames.{Core}
use Rattle.definitions.specs.Trees.{blocks, find_in}
use Rattle.block_tree.specs.Finding.{kept, justifies_in}
use Rattle.block_tree.proofs.Sound.{sound-of}
use Rattle.block_tree.proofs.Steps.{walk-missing, walk-lower}
use Rattle.block_tree.proofs.Justifying.{justifies-none, walk-below, walk-end, walk-on}
use Rattle.block_tree.proofs.tree.Tree.justifies_from.Goals as goal

pub returns-then-top-height : goal.returns-then-top-height
returns-then-top-height c reach =
    justifies-none c.args.self.now.stored c.args.digest.now c.args.least c.in-Some.top c.args.height
    (sym c.in-Some.ensures) (omega (arith, c.if-top-height.true, c.top.view_is, c.height-2.view_is))

pub returns-in_default-block : goal.returns-in_default-block
returns-in_default-block c reach =
    let t = c.args.self.now in
    let k = c.top.inside.0 - (c.loop.counter - c.args.height) in
    let high : c.args.height < k = omega (arith, c.height-2.view_is, c.loop.auto.counter, c.loop-test.true) in
    absurd (walk-missing t.stored c.loop.at k c.args.height c.in_default-block.ensures
    (c.loop.invariant.reached reach c.loop-test.true) high)

pub returns-then-justify_height-least : goal.returns-then-justify_height-least
returns-then-justify_height-least c reach =
    let t = c.args.self.now in
    let sound = sound-of c.self.inside.most c.self.inside.forest c.self.inside.counts t c.self.view_is
    c.self.invariant in
    let k = c.top.inside.0 - (c.loop.counter - c.args.height) in
    let high : c.args.height < k = omega (arith, c.height-2.view_is, c.loop.auto.counter, c.loop-test.true) in
    let node = kept c.in-Some-block.node.now in
    let low : node.core.justify_height < c.args.least =
    omega (arith, c.if-justify_height-least.true, c.justify_height.ensures, c.justify_height-in-loop.view_is, c.least.view_is, ap (λ (x : Core). x.justify_height) c.view-core.ensures) in
    walk-below t.stored sound.once c.loop.at node c.in-Some-block.ensures c.args.least k c.args.height
    (c.loop.invariant.reached reach c.loop-test.true) high low
    ∙ c.loop.invariant.same reach c.loop-test.true

pub loop-preserved : goal.loop-preserved
loop-preserved c =
    let t = c.args.self.now in
    let sound = sound-of c.self.inside.most c.self.inside.forest c.self.inside.counts t c.self.view_is
    c.self.invariant in
    let k = c.top.inside.0 - (c.loop.counter - c.args.height) in
    let high : c.args.height < k = omega (arith, c.height-2.view_is, c.loop.auto.counter, c.loop-test.true) in
    let lower : k - 1 ≡ c.top.inside.0 - (c.loop.counter + 1 - c.args.height) =
    omega (arith, c.height-2.view_is, c.loop.auto.counter) in
    let node = kept c.in-Some-block.node.now in
    let fine : c.args.least ≤ node.core.justify_height =
    omega (arith, c.if-justify_height-least.false, c.justify_height.ensures, c.justify_height-in-loop.view_is, c.least.view_is, ap (λ (x : Core). x.justify_height) c.view-core.ensures) in
    let next : c.parent.result.now ≡ node.core.parent =
    c.parent.ensures.value ∙ ap (λ (x : Core). x.parent) c.view-core.ensures in
    record {
      reached = λ reach more.
          ap (λ (d : Bytes). option_map length (find_in d (blocks t.stored))) next
          ∙ (walk-lower t.horizon t.stored sound.tree sound.once c.loop.at node c.in-Some-block.ensures k
          c.args.height (c.loop.invariant.reached reach c.loop-test.true) high
          (omega (arith, reach, high)) ∙ ap (λ (n : ℕ). Some n) lower);
      same = λ reach more.
          ap (λ (d : Bytes). justifies_in c.args.least c.args.height d (blocks t.stored)) next
          ∙ (walk-on t.horizon t.stored sound.tree sound.once c.loop.at node c.in-Some-block.ensures c.args.least k
          c.args.height (c.loop.invariant.reached reach c.loop-test.true) high fine (omega (arith, reach, high))
          ∙ c.loop.invariant.same reach c.loop-test.true);
      done = λ reach end.
          sym (walk-end t.stored sound.once c.loop.at node c.in-Some-block.ensures c.args.least k c.args.height
          (c.loop.invariant.reached reach c.loop-test.true) high fine
          (omega (arith, end, c.height-2.view_is, c.loop.auto.counter)))
          ∙ c.loop.invariant.same reach c.loop-test.true;
    }
