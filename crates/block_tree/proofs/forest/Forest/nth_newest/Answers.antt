use Rattle.std.proofs.Common.{◌≡◌, ◌-◌, ◌+◌, ◌<◌, ℕ, List, ap, sym, subst, ◌∙◌, length, drop, reverse}
use Rattle.std.proofs.Common.{arith}
use Rattle.std.proofs.Common.{true≢false, inl, inr}
use Rattle.std.proofs.lemmas.Bool.{ltb-true, ltb-false, cases_lt}
use Rattle.std.proofs.lemmas.List.{length-reverse}
use Rattle.definitions.specs.Trees.{Stored, blocks}
use Rattle.block_tree.specs.Numbers.{numbered, nth_stored}
use Rattle.block_tree.specs.Nodes.{ForestState, IsForest}
use Rattle.block_tree.proofs.Newest.{look-begin, look-past, look-on, look-found, nth-drop}
use Rattle.block_tree.proofs.Newest.{whole-window}
use Rattle.block_tree.proofs.forest.Forest.nth_newest.Goals as goal
use Rattle.block_tree.proofs.forest.Forest.nth_newest.Goals.{then-rest-gt0, else-rest-gt0+then-is_pruned}
use Rattle.block_tree.proofs.forest.Forest.nth_newest.Goals.{then-not-is_pruned, else-not-is_pruned}

pub back-init : goal.back-init
back-init c =
    let f = c.args.self.now in
    let w = subst (λ (f : ForestState). IsForest f c.self.inside.genesis
    (reverse c.self.inside.entries.items) c.self.inside.index) c.self.view_is c.self.invariant in
    let first : c.self.inside.first ≡ f.first = ap (λ (f : ForestState). f.first) c.self.view_is in
    let count = w.count in
    let last : c.self.inside.first + c.len.result - 1 ≡ length f.all =
    omega (
      arith,
      first,
      count,
      length-reverse c.self.inside.entries.items,
      c.len.ensures,
      c.self.inside.entries.ok.0,
    ) in
    look-begin f c.self.inside.genesis (reverse c.self.inside.entries.items) c.self.inside.index w
    c.args.newer (c.self.inside.first + c.len.result - 1) c.requires last

pub back-preserved : goal.back-preserved
back-preserved c =
    let f = c.args.self.now in
    let w = subst (λ (f : ForestState). IsForest f c.self.inside.genesis
    (reverse c.self.inside.entries.items) c.self.inside.index) c.self.view_is c.self.invariant in
    elim c.if-not-is_pruned.branch [
      | then-not-is_pruned x ↦
          (let high = ltb-false (length (numbered (blocks f.all) c.back.at)) (f.horizon - 2)
          (sym c.is_pruned-in-back.ensures ∙ x.if-not-is_pruned.true) in
          let more : 0 < c.back.rest = elim c.if-rest-gt0.branch [
            | then-rest-gt0 y ↦ (let more = y.if-rest-gt0.true in omega (arith, more))
            | else-rest-gt0+then-is_pruned y ↦
                absurd (true≢false (sym y.if-is_pruned.true ∙ y.is_pruned.ensures
                ∙ (sym c.is_pruned-in-back.ensures ∙ x.if-not-is_pruned.true)))
          ] in
          rw x.rest-is (look-on f c.self.inside.genesis (reverse c.self.inside.entries.items)
          c.self.inside.index w c.args.newer c.back.at c.back.rest c.back.invariant high more))
      | else-not-is_pruned x ↦
          (let low = ltb-true (length (numbered (blocks f.all) c.back.at)) (f.horizon - 2)
          (sym c.is_pruned-in-back.ensures ∙ x.if-not-is_pruned.false) in
          rw x.rest-is (look-past f c.self.inside.genesis (reverse c.self.inside.entries.items)
          c.self.inside.index w c.args.newer c.back.at c.back.rest c.back.invariant low))
    ]

pub returns : goal.returns
returns c s older e =
    let f = c.args.self.now in
    let w = subst (λ (f : ForestState). IsForest f c.self.inside.genesis
    (reverse c.self.inside.entries.items) c.self.inside.index) c.self.view_is c.self.invariant in
    let high = ltb-false (length (numbered (blocks f.all) c.back.at)) (f.horizon - 2)
    (sym c.is_pruned.ensures ∙ c.if-is_pruned.false) in
    let at = look-found f c.self.inside.genesis (reverse c.self.inside.entries.items) c.self.inside.index w
    c.args.newer c.back.at c.back.rest c.back.invariant high
    (omega (arith, c.if-rest-gt0.false)) s older e in
    (c.entry_at-2.ensures s at).node

pub returns-then-floor-eq0 : goal.returns-then-floor-eq0
returns-then-floor-eq0 c s older e =
    let f = c.args.self.now in
    let w = subst (λ (f : ForestState). IsForest f c.self.inside.genesis
    (reverse c.self.inside.entries.items) c.self.inside.index) c.self.view_is c.self.invariant in
    let first : c.self.inside.first ≡ f.first = ap (λ (f : ForestState). f.first) c.self.view_is in
    let count = w.count in
    let last : c.self.inside.first + c.len.result - 1 ≡ length f.all =
    omega (
      arith,
      first,
      count,
      length-reverse c.self.inside.entries.items,
      c.len.ensures,
      c.self.inside.entries.ok.0,
    ) in
    let whole = whole-window f (sym c.floor.ensures ∙ c.if-floor-eq0.true) in
    let at = nth-drop f.all c.args.newer s older (ap (drop c.args.newer) (sym whole) ∙ e) in
    (c.entry_at.ensures s (ap (λ (n : ℕ). nth_stored f.all (n - c.args.newer)) last ∙ at)).node

pub entry_at-requires-clause-kept : goal.entry_at-requires-clause-kept
entry_at-requires-clause-kept c =
    let f = c.args.self.now in
    let w = subst (λ (f : ForestState). IsForest f c.self.inside.genesis
    (reverse c.self.inside.entries.items) c.self.inside.index) c.self.view_is c.self.invariant in
    let first : c.self.inside.first ≡ f.first = ap (λ (f : ForestState). f.first) c.self.view_is in
    let count = w.count in
    let last : c.self.inside.first + c.len.result - 1 ≡ length f.all =
    omega (
      arith,
      first,
      count,
      length-reverse c.self.inside.entries.items,
      c.len.ensures,
      c.self.inside.entries.ok.0,
    ) in
    let whole = whole-window f (sym c.floor.ensures ∙ c.if-floor-eq0.true) in
    let long = ap (λ (l : List Stored). length l) whole in
    let number = c.self.inside.first + c.len.result - 1 - c.args.newer in
    elim (cases_lt number f.first) [
      | inl lt ↦
          (let gone = w.gone number (omega (arith, last, long, c.requires)) lt in
          absurd (omega (arith, gone, c.floor.ensures, c.if-floor-eq0.true)))
      | inr le ↦ le
    ]

pub overflow_sub-at-then-floor-eq0 : goal.overflow_sub-at-then-floor-eq0
overflow_sub-at-then-floor-eq0 c =
    let f = c.args.self.now in
    let w = subst (λ (f : ForestState). IsForest f c.self.inside.genesis
    (reverse c.self.inside.entries.items) c.self.inside.index) c.self.view_is c.self.invariant in
    let first : c.self.inside.first ≡ f.first = ap (λ (f : ForestState). f.first) c.self.view_is in
    let count = w.count in
    let last : c.self.inside.first + c.len.result - 1 ≡ length f.all =
    omega (
      arith,
      first,
      count,
      length-reverse c.self.inside.entries.items,
      c.len.ensures,
      c.self.inside.entries.ok.0,
    ) in
    let whole = whole-window f (sym c.floor.ensures ∙ c.if-floor-eq0.true) in
    let long = ap (λ (l : List Stored). length l) whole in
    omega (arith, last, long, c.requires)
