use Rattle.std.proofs.Common.{◌≡◌, ◌+◌, ◌<◌, ◌^◌, ◌∷◌, ◌++◌, [], List, length, reverse, sym, subst, ap, ◌∙◌}
use Rattle.std.proofs.Common.{arith}
use Rattle.definitions.specs.Frames.{Core}
use Rattle.definitions.specs.Trees.{Stored, blocks}
use Rattle.block_tree.specs.declared.forest.Entry.{Entry}
use Rattle.block_tree.specs.Numbers.{AreLinks}
use Rattle.block_tree.specs.Nodes.{ForestState, IsForest, window, stored_as, block_in}
use Rattle.block_tree.proofs.Numbered.{reverse-last}
use Rattle.block_tree.proofs.Growing.{taken, same-index}
use Rattle.std.proofs.lemmas.List.{length-reverse}
use Rattle.block_tree.proofs.forest.Forest.push.Goals as goal

pub invariant_of-self-in_err-insert : goal.invariant_of-self-in_err-insert
invariant_of-self-in_err-insert c =
    let inside = c.self.inside in
    let f : ForestState = record { horizon = inside.horizon; first = inside.first; all = inside.all.items } in
    subst (λ (l : List Entry). IsForest f inside.genesis (reverse l) c.insert.new.self)
    (sym c.reserve.ensures.items)
    (same-index f inside.genesis (reverse inside.entries.items) inside.index c.insert.new.self
    c.self.invariant c.in_err-insert.ensures.kept)

pub invariant_of-self-2 : goal.invariant_of-self-2
invariant_of-self-2 c =
    let inside = c.self.inside in
    let f = c.args.self.now in
    let n = c.args.node in
    let row = reverse inside.entries.items in
    let links = c.links_over-links.result in
    let e : Entry = record { node = n; links = links } in
    let w = subst (λ (f : ForestState). IsForest f inside.genesis row inside.index) c.self.view_is
    c.self.invariant in
    let link = subst (λ (core : Core). AreLinks f.horizon (blocks f.all) (block_in core (blocks (window f)))
    links)
    c.core.ensures c.links_over-links.ensures in
    let first : inside.first ≡ f.first = ap (λ (f : ForestState). f.first) c.self.view_is in
    let horizon : inside.horizon ≡ f.horizon = ap (λ (f : ForestState). f.horizon) c.self.view_is in
    let all : c.with-all.result.items ≡ stored_as n (blocks (window f)) ∷ f.all =
    c.with-all.ensures
    ∙ ap (λ (l : List Stored). stored_as n (blocks (window f)) ∷ l)
    (ap (λ (f : ForestState). f.all) c.self.view_is) in
    let long = length-reverse inside.entries.items in
    let count = w.count in
    let numbers = w.numbers in
    let number : inside.first + c.len.result ≡ f.first + length row =
    omega (arith, first, long, c.len.ensures, inside.entries.ok.0) in
    let fits : length f.all + 2 < 2 ^ 64 = omega (arith, c.if-number.false, number, count, numbers) in
    let pushed : c.push_back.new.self.items ≡ inside.entries.items ++ e ∷ [] =
    rw c.unwrap.ensures at c.push_back.ensures.items
    ∙ ap (λ (l : List Entry). l ++ e ∷ []) c.reserve.ensures.items in
    let grown = taken f inside.genesis row inside.index c.insert.new.self w n links c.requires.fits
    c.requires.room fits link (inside.first + c.len.result) number c.in_ok-insert.ensures.entered in
    subst (λ (l : List Entry). IsForest (record {
      horizon = inside.horizon;
      first = inside.first;
      all = c.with-all.result.items;
    }) inside.genesis l c.insert.new.self) (sym (ap reverse pushed ∙ reverse-last inside.entries.items e))
    (subst (λ (f : ForestState). IsForest f inside.genesis (e ∷ row) c.insert.new.self)
    (λ i. record { horizon = sym horizon i; first = sym first i; all = sym all i }) grown)
