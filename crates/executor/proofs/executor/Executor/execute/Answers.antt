use Rattle.std.proofs.Common.{◌≡◌, suc, ◌∷◌, sym, ap, subst, ◌∙◌}
use Rattle.std.proofs.Common.{length, Some}
use Rattle.definitions.specs.Histories.{History, Answer, is_fresh, answer_in}
use Rattle.definitions.specs.Cache.{Cache}
use Rattle.executor.specs.Rows.{row}
use Rattle.executor.specs.State.{Execution, IsStateOf}
use Rattle.executor.proofs.State.{fresh-state, fresh-reply, answer-is}
use Rattle.executor.proofs.executor.Executor.execute.Goals as goal

pub invariant_of-self-2 : goal.invariant_of-self-2
invariant_of-self-2 g c =
    let x = c.self.inside in
    let h = x.history in
    let y : Execution = record { most_keys = x.most_keys; history = h } in
    let e = c.args.entry.now in
    let fresh = ap (λ (v : Execution). is_fresh e v.history) c.self.view_is ∙ c.requires in
    let items = c.put.ensures in
    let place : c.len.result ≡ suc (length h) = c.len.ensures ∙ ap length items in
    let text = c.in_ok-texts.ensures.kept ∙ fresh-reply y x.cache x.clients c.self.invariant e in
    let kept = answer-is x.most_keys e h c.to.result _ _ c.to.ensures place text in
    let own : row c.set.new.self e.client ≡ Some (answer_in x.most_keys e h) =
    ap (λ (a : Answer). row c.set.new.self a.client) (sym c.to.ensures) ∙ c.set.ensures.kept
    ∙ ap (λ (a : Answer). Some a) kept in
    let client : c.to.result.client ≡ e.client = ap (λ (a : Answer). a.client) c.to.ensures in
    subst (λ (l : History). IsStateOf (record y { history = l }) c.push_applied.new.cache c.set.new.self)
    (sym items)
    (subst (λ (b : Cache). IsStateOf (record y { history = e ∷ h }) b c.set.new.self)
    (sym c.in_ok-texts.ensures.left)
    (fresh-state y x.cache x.clients c.self.invariant e c.set.new.self fresh own
    (λ q k. c.set.ensures.others q (λ j. k (j ∙ client)))))
