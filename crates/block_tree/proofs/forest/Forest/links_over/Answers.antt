use Rattle.ids.specs.declared.limits.TheConstants.{MOST_BLOCKS}
use Rattle.std.proofs.Common.{◌≡◌, ◌<◌, ◌+◌, ◌-◌, ◌^◌, ℕ, Some, None, ◌∷◌, [], length, reverse, sym, ap}
use Rattle.std.proofs.Common.{subst, ◌∙◌, arith, Option, refl}
use Rattle.std.specs.Prelude.{MatchOption, IsSome}
use Rattle.std.proofs.lemmas.List.{length-drop}
use Rattle.definitions.specs.Bytes.{Bytes}
use Rattle.definitions.specs.Frames.{Core}
use Rattle.definitions.specs.Branches.{Branch}
use Rattle.definitions.specs.Trees.{blocks, block_of, find_in}
use Rattle.frames_view.specs.Views.{core_of}
use Rattle.block_tree.specs.Nodes.{ForestState, IsForest, IsBlockAt, branch_in, block_in, window}
use Rattle.block_tree.specs.Numbers.{numbered}
use Rattle.block_tree.proofs.Kept.{reach-here, reach-short}
use Rattle.block_tree.proofs.Descending.{Building, build-begin, build-few, build-more, build-lower}
use Rattle.block_tree.proofs.Descending.{build-done}
use Rattle.block_tree.proofs.forest.Forest.links_over.Goals as goal

-- where the parent stands its number is found
is_there : (f : ForestState) (d : Bytes) → IsSome (find_in d (blocks (window f))) → (o : Option ℕ)
    → MatchOption o (find_in d (blocks (window f)) ≡ None) (IsBlockAt f d) → IsSome o
is_there f d some None e = subst IsSome e some
is_there f d some (Some k) e = refl

parent_at : (f : ForestState) (d p : Bytes) (o : Option ℕ) (at : ℕ) → d ≡ p
    → MatchOption o (find_in d (blocks (window f)) ≡ None) (IsBlockAt f d) → o ≡ Some at → IsBlockAt f p at
parent_at f d p o at e m i =
    subst (λ (x : Bytes). IsBlockAt f x at) e
    (subst (λ (o : Option ℕ). MatchOption o (find_in d (blocks (window f)) ≡ None) (IsBlockAt f d)) i m)

parent_is : (f : ForestState) (p : Bytes) (at : ℕ) → IsBlockAt f p at
    → numbered (blocks f.all) at ≡ branch_in p (blocks (window f))
parent_is f p at is = sym (ap (λ (o : Option Branch). elim o [ Some b ↦ b | None ↦ [] ]) is.found)

pub unwrap-at-requires : goal.unwrap-at-requires
unwrap-at-requires c =
    let f = c.args.self.now in
    is_there f c.parent.result.now
    (subst (λ (d : Bytes). IsSome (find_in d (blocks (window f)))) (sym c.parent.ensures.value)
    c.requires.stands) c.number.result c.number.ensures

pub build-init : goal.build-init
build-init c =
    let f = c.args.self.now in
    let core = core_of c.args.core.now in
    let at = c.unwrap-at.result in
    let found = parent_at f c.parent.result.now core.parent c.number.result at c.parent.ensures.value
    c.number.ensures c.unwrap-at.ensures in
    let same = parent_is f core.parent at found in
    let high = ap (λ (b : Branch). length b) same in
    record {
      building = rw (c.push.ensures, c.new-links.ensures)
          (subst (λ (p : Branch). Building (blocks f.all) (block_of core ∷ p) at 0 (at ∷ [])) same
          (build-begin (blocks f.all) (block_of core) at found.here.known));
      high = omega (arith, high, c.requires.reach);
    }

pub link-requires : goal.link-requires
link-requires c =
    let f = c.args.self.now in
    let w = subst (λ (f : ForestState). IsForest f c.self.inside.genesis
    (reverse c.self.inside.entries.items) c.self.inside.index) c.self.view_is c.self.invariant in
    reach-here f c.self.inside.genesis (reverse c.self.inside.entries.items) c.self.inside.index w c.build.at
    c.build.invariant.building.last.known c.build.invariant.high

few_levels : (f : ForestState) (core : Core) (at : ℕ) → numbered (blocks f.all) at ≡ branch_in core.parent
    (blocks (window f))
    → length (numbered (blocks f.all) at) - (f.horizon - 2) < MOST_BLOCKS
    → length (block_in core (blocks (window f))) < 2 ^ 21 + (f.horizon - 2)
few_levels f core at same short =
    let high = ap (λ (b : Branch). length b) same in omega (arith, short, high)

pub push-requires-in-Some : goal.push-requires-in-Some
push-requires-in-Some c =
    let f = c.args.self.now in
    let w = subst (λ (f : ForestState). IsForest f c.self.inside.genesis
    (reverse c.self.inside.entries.items) c.self.inside.index) c.self.view_is c.self.invariant in
    let core = core_of c.args.core.now in
    let at = c.unwrap-at.result in
    let found = parent_at f c.parent.result.now core.parent c.number.result at c.parent.ensures.value
    c.number.ensures c.unwrap-at.ensures in
    let same = parent_is f core.parent at found in
    let high = ap (λ (b : Branch). length b) same in
    let short = reach-short f c.self.inside.genesis (reverse c.self.inside.entries.items) c.self.inside.index
    w at found.here.known (omega (arith, high, c.requires.reach)) in
    let few = build-few (blocks f.all) (block_in core (blocks (window f))) c.build.at c.build.level
    c.build.links c.build.invariant.building (f.horizon - 2) c.in-Some.next c.in-Some.ensures.0
    (few_levels f core at same short) in
    let many = c.build.invariant.building.many in
    omega (arith, few, many)

pub overflow_add-level : goal.overflow_add-level
overflow_add-level c =
    let f = c.args.self.now in
    let w = subst (λ (f : ForestState). IsForest f c.self.inside.genesis
    (reverse c.self.inside.entries.items) c.self.inside.index) c.self.view_is c.self.invariant in
    let core = core_of c.args.core.now in
    let at = c.unwrap-at.result in
    let found = parent_at f c.parent.result.now core.parent c.number.result at c.parent.ensures.value
    c.number.ensures c.unwrap-at.ensures in
    let same = parent_is f core.parent at found in
    let high = ap (λ (b : Branch). length b) same in
    let short = reach-short f c.self.inside.genesis (reverse c.self.inside.entries.items) c.self.inside.index
    w at found.here.known (omega (arith, high, c.requires.reach)) in
    let few = build-few (blocks f.all) (block_in core (blocks (window f))) c.build.at c.build.level
    c.build.links c.build.invariant.building (f.horizon - 2) c.in-Some.next c.in-Some.ensures.0
    (few_levels f core at same short) in
    omega (arith, few)

pub build-smaller : goal.build-smaller
build-smaller c =
    let f = c.args.self.now in
    build-lower (blocks f.all) (block_in (core_of c.args.core.now) (blocks (window f))) c.build.at
    c.build.level c.build.links c.build.invariant.building c.in-Some.next c.in-Some.ensures.1

pub build-preserved : goal.build-preserved
build-preserved c =
    let f = c.args.self.now in
    let b = block_in (core_of c.args.core.now) (blocks (window f)) in
    let down = c.in-Some.ensures.1 in
    let lower : length (numbered (blocks f.all) c.in-Some.next)
    ≡ length (numbered (blocks f.all) c.build.at) - 2 ^ c.build.level =
    ap (λ (x : Branch). length x) down.is ∙ length-drop (2 ^ c.build.level) (numbered (blocks f.all)
    c.build.at) in
    let high = c.in-Some.ensures.0 in
    record {
      building = rw c.push-in-Some.ensures (build-more (blocks f.all) b c.build.at c.build.level c.build.links
          c.build.invariant.building c.in-Some.next down);
      high = omega (arith, lower, high);
    }

pub returns : goal.returns
returns c =
    let f = c.args.self.now in
    build-done (blocks f.all) (block_in (core_of c.args.core.now) (blocks (window f))) c.build.at
    c.build.level
    c.build.links c.build.invariant.building f.horizon c.in_default.ensures
