use Rattle.std.proofs.Common.{◌≡◌, ◌-◌, ℕ, Some, length, arith, sym, ap, subst, ◌∙◌, reverse}
use lib.Count.{ones-le}
use Rattle.definitions.specs.Bytes.{Bytes}
use Rattle.definitions.specs.Trees.{blocks, find_in}
use Rattle.block_tree.specs.Nodes.{ForestState, IsForest, window}
use Rattle.block_tree.specs.Numbers.{numbered, IsDown}
use Rattle.block_tree.proofs.Kept.{genesis-digest, reach-short}
use Rattle.block_tree.proofs.Ancestors.{genesis-below, down-found}
use Rattle.block_tree.proofs.forest.Forest.ancestor.Goals as goal

pub returns-then-height-eq0-clause-seen : goal.returns-then-height-eq0-clause-seen
returns-then-height-eq0-clause-seen c seen =
    let f = c.args.self.now in
    ap (λ (d : Bytes). Some d) (c.self.invariant.genesis ∙ sym genesis-digest)
    ∙ genesis-below c.args.height (find_in c.args.digest.now (blocks (window f)))
    (numbered (blocks f.all) c.in_ok-from.from) c.in_ok-from.ensures.found
    (omega (arith, c.if-height-eq0.true, c.height.view_is))

pub returns-clause-seen : goal.returns-clause-seen
returns-clause-seen c seen =
    let f = c.args.self.now in
    let tree = blocks f.all in
    let b = numbered tree c.in_ok-from.from in
    let distance : c.top.inside.0 - c.height.inside.0 ≡ length b - c.args.height =
    omega (arith, c.top.view_is, c.height.view_is, c.height_at-top.ensures) in
    ap (λ (d : Bytes). Some d) c.digest_at.ensures
    ∙ down-found c.args.height (find_in c.args.digest.now (blocks (window f))) b c.in_ok-from.ensures.found
    tree c.descend-ancestor.result
    (omega (arith, c.if-top-height.false, c.top.view_is, c.height.view_is, c.height_at-top.ensures))
    (subst (λ (n : ℕ). IsDown tree n b c.descend-ancestor.result) distance c.descend-ancestor.ensures.down)

pub returns-clause-few : goal.returns-clause-few
returns-clause-few c =
    let f = c.args.self.now in
    let w = subst (λ (f : ForestState). IsForest f c.self.inside.genesis
    (reverse c.self.inside.entries.items) c.self.inside.index) c.self.view_is c.self.invariant in
    let here = c.in_ok-from.ensures.here in
    let short = reach-short f c.self.inside.genesis (reverse c.self.inside.entries.items) c.self.inside.index
    w c.in_ok-from.from here.known
    (omega (
      arith,
      c.if-top-height.false,
      c.if-height-floor.false,
      c.top.view_is,
      c.height.view_is,
      c.height_at-top.ensures,
      c.floor.ensures,
    )) in
    let bits = ones-le 20 (c.top.inside.0 - c.height.inside.0)
    (omega (
      arith,
      short,
      c.if-height-floor.false,
      c.top.view_is,
      c.height.view_is,
      c.height_at-top.ensures,
      c.floor.ensures,
    )) in
    omega (arith, bits, c.descend-ancestor.ensures.counted)
