use Rattle.std.proofs.Common.{◌≡◌, ◌+◌, ◌-◌, ◌<◌, ◌%◌, length, reverse, arith, subst}
use Rattle.std.specs.Prelude.{count_ones}
use lib.Count.{ones_step}
use Rattle.definitions.specs.Trees.{blocks}
use Rattle.block_tree.specs.Nodes.{ForestState, IsForest}
use Rattle.block_tree.specs.Numbers.{numbered}
use Rattle.block_tree.proofs.Kept.{reach-here, reach-short}
use Rattle.block_tree.proofs.Descending.{pow-lower, descend-high, descend-even, descend-odd, descend-done}
use Rattle.block_tree.proofs.forest.Forest.descend.Goals as goal
use Rattle.block_tree.proofs.forest.Forest.descend.Goals.{then-rest-eq1, else-rest-eq1}

pub turn-at-requires-clause-room : goal.turn-at-requires-clause-room
turn-at-requires-clause-room c =
    omega (arith, ones_step c.descend.rest, c.descend.invariant.counted, c.requires.room, c.if-rest-eq1.true)

pub turn-at-requires-clause-here : goal.turn-at-requires-clause-here
turn-at-requires-clause-here c =
    let f = c.args.self.now in
    let w = subst (λ (f : ForestState). IsForest f c.self.inside.genesis
    (reverse c.self.inside.entries.items) c.self.inside.index) c.self.view_is c.self.invariant in
    let all = c.args.turns.now + count_ones c.args.distance in
    let high = descend-high (blocks f.all) (f.horizon - 2) c.args.from c.args.distance c.descend.at
    c.descend.rest c.descend.level c.descend.turns all c.descend.invariant
    (omega (arith, c.descend-test.true)) in
    reach-here f c.self.inside.genesis (reverse c.self.inside.entries.items) c.self.inside.index w
    c.descend.at c.descend.invariant.known (omega (arith, high))

pub turn-at-requires-clause-high : goal.turn-at-requires-clause-high
turn-at-requires-clause-high c =
    let f = c.args.self.now in
    descend-high (blocks f.all) (f.horizon - 2) c.args.from c.args.distance c.descend.at c.descend.rest
    c.descend.level c.descend.turns (c.args.turns.now + count_ones c.args.distance) c.descend.invariant
    (omega (arith, c.descend-test.true))

pub overflow_add-level : goal.overflow_add-level
overflow_add-level c =
    let f = c.args.self.now in
    let w = subst (λ (f : ForestState). IsForest f c.self.inside.genesis
    (reverse c.self.inside.entries.items) c.self.inside.index) c.self.view_is c.self.invariant in
    let all = c.args.turns.now + count_ones c.args.distance in
    let high = descend-high (blocks f.all) (f.horizon - 2) c.args.from c.args.distance c.descend.at
    c.descend.rest c.descend.level c.descend.turns all c.descend.invariant
    (omega (arith, c.descend-test.true)) in
    let short = reach-short f c.self.inside.genesis (reverse c.self.inside.entries.items) c.self.inside.index
    w c.descend.at c.descend.invariant.known (omega (arith, high)) in
    let few : c.descend.level < 64 =
    pow-lower c.descend.level 64 (length (numbered (blocks f.all) c.descend.at) - (f.horizon - 2))
    (omega (arith, high)) (omega (arith, short)) in
    omega (arith, few)

pub descend-preserved : goal.descend-preserved
descend-preserved c =
    let f = c.args.self.now in
    let tree = blocks f.all in
    let floor = f.horizon - 2 in
    let all = c.args.turns.now + count_ones c.args.distance in
    elim c.if-rest-eq1.branch [
      | then-rest-eq1 w ↦
          rw (w.at-is, w.turns-is, w.turn-at.ensures.counted)
          (descend-odd tree floor c.args.from c.args.distance c.descend.at c.descend.rest c.descend.level
          c.descend.turns all c.descend.invariant w.turn-at.result w.if-rest-eq1.true
          w.turn-at.ensures.down)
      | else-rest-eq1 w ↦
          let even : c.descend.rest % 2 ≡ 0 = omega (arith, w.if-rest-eq1.false) in
          rw (w.at-is, w.turns-is) (descend-even tree floor c.args.from c.args.distance c.descend.at
          c.descend.rest c.descend.level c.descend.turns all c.descend.invariant even)
    ]

pub returns-clause-down : goal.returns-clause-down
returns-clause-down c =
    let f = c.args.self.now in
    let high = c.requires.high in
    descend-done (blocks f.all) (f.horizon - 2) c.args.from c.args.distance c.descend.at
    c.descend.rest c.descend.level c.descend.turns (c.args.turns.now + count_ones c.args.distance)
    c.descend.invariant (omega (arith, c.descend-test.false)) (omega (arith, high))
