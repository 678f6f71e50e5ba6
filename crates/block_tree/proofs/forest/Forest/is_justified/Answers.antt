use Rattle.std.proofs.Common.{ℕ, ◌≡◌, [], ◌∷◌, List, ◌∙◌, ap, subst, reverse, rules, tests}
use Rattle.std.proofs.lemmas.List.{length-reverse, reverse-append}
use Rattle.std.specs.List.{list_any}
use Rattle.std.specs.Iterator.Adapters.{rev_source, rev_steps}
use Rattle.std.specs.VecDeque.Iter.{deque_iter_rest, deque_iter_steps_back}
use Rattle.std.proofs.lemmas.Iterator.{YieldsList}
use Rattle.std.proofs.lemmas.Iterator.Consumers.{YieldsList-from_shown}
use Rattle.std.proofs.lemmas.Iterator.Search.{any_from_yields_List}
use Rattle.block_tree.specs.declared.forest.Entry.{Entry}
use Rattle.block_tree.specs.Nodes.{ForestState, IsForest}
use Rattle.block_tree.proofs.Justified.{entry_justifies, forest-justified}
use Rattle.block_tree.proofs.forest.Forest.is_justified.Goals as goal

-- a queue from its end
from_rev_deque : {A : Type 0} {s : _} (xs : List A) → deque_iter_rest (rev_source s) ≡ xs
    → YieldsList (rev_steps (deque_iter_steps_back {X = A})) (λ y. y.now) s (reverse xs)
from_rev_deque {A} {s} xs e =
    subst (λ (k : List A). YieldsList (rev_steps (deque_iter_steps_back {X = A})) (λ y. y.now) s (reverse k)) e
    (YieldsList-from_shown (rev_steps (deque_iter_steps_back {X = A})) (λ y. y.now)
    (λ u. reverse (deque_iter_rest (rev_source u))) (λ u t p. length-reverse _ ∙ p.0)
    (λ u x t p. ap reverse p ∙ reverse-append (deque_iter_rest (rev_source t)) (x.now ∷ [])) s)

pub returns : goal.returns
returns c =
    let f = c.args.self.now in
    let w = subst (λ (f : ForestState). IsForest f c.self.inside.genesis
    (reverse c.self.inside.entries.items) c.self.inside.index) c.self.view_is c.self.invariant in
    let row = reverse c.self.inside.entries.items in
    let d = c.args.digest.now in
    any_from_yields_List (entry_justifies c.floor-floor.result c.args.height d) _ _ c.any.result c.any.ensures.ran
    (from_rev_deque c.self.inside.entries.items (ap (deque_iter_rest {X = Entry}) c.rev.ensures.source ∙ c.iter.ensures.rest))
    (λ x b q k. search (rules, tests))
    ∙ ap (λ (n : ℕ). list_any (entry_justifies n c.args.height d) row) c.floor-floor.ensures
    ∙ forest-justified f c.self.inside.genesis row c.self.inside.index w d c.args.height
