use Rattle.std.proofs.Common.{rules, arith, ◌≡◌, ◌∙◌, sym}
use Rattle.std.specs.List.{slice_get}
use Rattle.server.specs.Ends.{whole_of}
use Rattle.server.proofs.Filling.{filled}
use Rattle.server.proofs.Lending.{none_are_few, shows_all}
use Rattle.server.proofs.judging.judge_whole.Goals as goal

pub returns-clause-verdict : goal.returns-clause-verdict
returns-clause-verdict c =
    let filling = c.from_fn-row.ensures.items in
    let each = filled _ _ (λ k one. one ≡ slice_get (whole_of c.args.all.now) k) (λ i y q call. search rules)
    c.from_fn-row.result 0 31 filling.each in
    c.judge.ensures.verdict (whole_of c.args.all.now)
    (shows_all c.from_fn-row.result (whole_of c.args.all.now)
    (omega (arith, c.count_whole.ensures.count, c.count_whole.ensures.most, c.requires)) filling.long each)
    c.count_whole.ensures.count

pub returns-clause-few : goal.returns-clause-few
returns-clause-few c =
    let filling = c.from_fn-row.ensures.items in
    let each = filled _ _ (λ k one. one ≡ slice_get (whole_of c.args.all.now) k) (λ i y q call. search rules)
    c.from_fn-row.result 0 31 filling.each in
    c.judge.ensures.few (whole_of c.args.all.now)
    (shows_all c.from_fn-row.result (whole_of c.args.all.now)
    (omega (arith, c.count_whole.ensures.count, c.count_whole.ensures.most, c.requires)) filling.long each)
    c.count_whole.ensures.count

pub returns-in_default-clause-few : goal.returns-in_default-clause-few
returns-in_default-clause-few c = none_are_few (whole_of c.args.all.now) (sym c.whole_at.ensures ∙ c.in_default.is)
