use Rattle.std.proofs.Common.{◌∷◌, ap, sym, subst, ◌∙◌}
use Rattle.std.specs.Option.{option_or}
use Rattle.definitions.specs.Trees.{TreeState}
use Rattle.replica.specs.Replay.{step_of}
use Rattle.vote_collector.specs.Collecting.{Collected}
use Rattle.replica.specs.Kept.{StateParts}
use Rattle.replica.specs.Changes.{left_above, changed}
use Rattle.replica.proofs.Logging.{LogsOf, logged-still, logged-one}
use Rattle.replica.proofs.state.State.commit.Goals as goal

pub returns-clause-made : goal.returns-clause-made
returns-clause-made g c =
    let old = c.self.inside in
    let d = c.args.change in
    let tree = c.in_ok-grow.ensures.grown in
    let chronicle =
    c.with-self-inside.ensures ∙ ap (λ (t : TreeState). step_of d.step t.stored ∷ old.chronicle.items) tree in
    let votes =
    c.forget.ensures
    ∙ ap (λ (v : Collected). record v { kept = left_above d.high v.kept })
    c.in_ok-grow.ensures.collected in
    (λ i. record {
      variables = record {
        chronicle = chronicle i;
        most = (tree i).most;
        horizon = (tree i).horizon;
        stored = (tree i).stored;
        rules = d.rules;
        high = c.raise.ensures i;
        leaf = d.leaf;
        own = (c.or.ensures ∙ ap (option_or d.own) c.take.ensures.value) i;
      };
      pace = c.unwrap_or-self-inside.ensures i;
      votes = votes i;
      pending = c.in_ok-grow.ensures.pended i;
    }) ∙ ap (λ (k : StateParts). changed d k) c.self.view_is

pub returns-clause-logged : goal.returns-clause-logged
returns-clause-logged g c stays l =
    let new = g.S.StepLog.holds c.push.new.self in
    subst (LogsOf new) (sym (returns-clause-made g c))
    (logged-one (g.S.StepLog.holds c.args.log.now) new c.args.change c.args.self.now c.requires stays
    (λ xs h. c.push.ensures xs (c.reserve.ensures.same xs h)) l)

pub returns-in_err-reserve-clause-logged : goal.returns-in_err-reserve-clause-logged
returns-in_err-reserve-clause-logged g c stays l =
    logged-still (g.S.StepLog.holds c.args.log.now) (g.S.StepLog.holds c.reserve.new.self) c.args.self.now
    c.reserve.ensures.same l
