use Rattle.std.proofs.Common.{◌≡◌, ◌<◌, ◌-◌, ◌∷◌, ◌++◌, [], List, reverse, length, sym, subst, ap, ◌∙◌}
use Rattle.std.proofs.lemmas.Bool.{ltb-true}
use Rattle.definitions.specs.Trees.{blocks}
use Rattle.block_tree.specs.declared.forest.Entry.{Entry}
use Rattle.block_tree.specs.Numbers.{numbered}
use Rattle.block_tree.specs.Nodes.{ForestState, IsForest}
use Rattle.block_tree.proofs.Numbered.{reverse-first}
use Rattle.block_tree.proofs.Pruning.{dropped}
use Rattle.block_tree.proofs.forest.Forest.drop_oldest.Goals as goal

pub invariant_of-self-2 : goal.invariant_of-self-2
invariant_of-self-2 c =
    let inside = c.self.inside in
    let f : ForestState = record { horizon = inside.horizon; first = inside.first; all = inside.all.items } in
    let t = c.args.self.now in
    let e = c.in-Some.entry in
    let rest = c.pop_front.new.self.items in
    let split : inside.entries.items ≡ e ∷ rest = c.in-Some.ensures.items in
    let first : inside.first ≡ t.first = ap (λ (f : ForestState). f.first) c.self.view_is in
    let low : length (numbered (blocks f.all) f.first) < f.horizon - 2 =
    subst (λ (f : ForestState). length (numbered (blocks f.all) inside.first) < f.horizon - 2)
    (sym c.self.view_is)
    (ltb-true (length (numbered (blocks t.all) inside.first)) (t.horizon - 2)
    (sym c.is_pruned.ensures ∙ c.if-not-is_pruned.false)) in
    let reversed : reverse inside.entries.items ≡ reverse rest ++ e ∷ [] =
    ap reverse split ∙ reverse-first e rest in
    dropped f inside.genesis (reverse rest) e inside.index c.remove.new.self
    (subst (λ (l : List Entry). IsForest f inside.genesis l inside.index) reversed c.self.invariant) low
    c.remove.ensures
