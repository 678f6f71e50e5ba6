use Rattle.std.proofs.Common.{rules, tests, arith, ◌∙◌}
use Rattle.std.proofs.lemmas.Iterator.{YieldsList-from_slice}
use Rattle.std.proofs.lemmas.Iterator.Adapters.{serves_from_places}
use Rattle.std.proofs.lemmas.Iterator.Consumers.{YieldsList-from_filter, count_from_yields_List}
use Rattle.client_accept.proofs.Tallies.{agreeing-counted, among-at}
use Rattle.client_accept.proofs.tally.agreeing_of.Goals as goal

pub count-requires-clause-can : goal.count-requires-clause-can
count-requires-clause-can c =
    let all = c.args.counted.now in (
      tt,
      tt,
      serves_from_places (YieldsList-from_slice all cc) (λ x q r. search (rules, tests))
          (λ x k below at y e. grind (arith, among-at c.args.answers.now all k x.now c.requires below)),
    )

pub returns : goal.returns
returns c =
    count_from_yields_List c.filter.result _ c.count.ensures.ran (YieldsList-from_filter _ _
    (YieldsList-from_slice c.args.counted.now cc) c.filter.ensures.closure (λ x b q k. search (rules, tests)))
    ∙ agreeing-counted c.args.answers.now c.args.counted.now c.args.place c.args.text.now
