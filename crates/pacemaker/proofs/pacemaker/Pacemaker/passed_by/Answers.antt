use Rattle.std.proofs.Common.{rules, tests, arith, nat_le, take, ◌∙◌}
use Rattle.std.proofs.lemmas.Iterator.{YieldsList-from_slice}
use Rattle.std.proofs.lemmas.Iterator.Consumers.{YieldsList-from_filter, count_from_yields_List}
use Rattle.std.proofs.lemmas.List.{length-take}
use Rattle.ids.specs.Sizes.{replicas}
use Rattle.pacemaker.proofs.Counting.{count-taken}
use Rattle.pacemaker.proofs.pacemaker.Pacemaker.passed_by.Goals as goal

pub returns : goal.returns
returns c =
    let row = c.args.self.now.announced in
    let n = replicas c.args.self.now.sizes in
    count_from_yields_List c.filter.result _ c.count.ensures.ran (YieldsList-from_filter _ (nat_le c.args.view)
    (YieldsList-from_slice (take n row) (grind arith)) c.filter.ensures.closure (λ x b q k. search (rules, tests)))
    ∙ count-taken n (nat_le c.args.view) row (grind (arith, length-take n c.self.inside.announced))
