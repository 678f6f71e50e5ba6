use Rattle.std.proofs.Common.{◌≡◌, ◌-◌, ℕ, List, get_or, reverse, ap, subst, sym, ◌∙◌, arith}
use Rattle.block_tree.specs.declared.forest.Entry.{Entry}
use Rattle.block_tree.specs.Nodes.{ForestState, IsForest}
use Rattle.block_tree.proofs.Numbered.{entry-at, reverse-twice}
use Rattle.block_tree.proofs.forest.Forest.entry_at.Goals as goal

pub returns : goal.returns
returns c s at =
    let f = c.args.self.now in
    let row = reverse c.self.inside.entries.items in
    let w = subst (λ (f : ForestState). IsForest f c.self.inside.genesis row c.self.inside.index)
    c.self.view_is c.self.invariant in
    let x = c.index.result.now in
    let first : c.self.inside.first ≡ f.first = ap (λ (f : ForestState). f.first) c.self.view_is in
    let place : c.args.number - c.self.inside.first ≡ c.args.number - f.first = omega (arith, first) in
    entry-at f.horizon f.first row f.all w.entries w.count c.args.number x c.requires.kept c.requires.known
    (c.index.ensures
    ∙ (ap (λ (k : ℕ). get_or c.self.inside.entries.items k x) place
    ∙ ap (λ (l : List Entry). get_or l (c.args.number - f.first) x)
    (sym (reverse-twice c.self.inside.entries.items)))) s at
