use Rattle.std.proofs.Common.{ℕ, ◌≡◌, Bool, List, Option, true, false, Some, sym, ap, ◌∙◌}
use Rattle.definitions.specs.Histories.{Entry, History, Answer, is_fresh}
use Rattle.executor.specs.Rows.{row, numbered_after}
use Rattle.definitions.specs.Cache.{Cache}
use Rattle.executor.specs.State.{Execution, IsStateOf, answer_at}
use Rattle.executor.proofs.State.{fresh-by_row, answered-fresh, answered-stale}
use Rattle.executor.proofs.executor.Executor.run.Goals as goal

-- the test is that of a fresh entry
tested : (e : Entry) (h value : Execution) (cache : Cache) (rows : List (Option Answer)) (client seq : ℕ)
    (t b : Bool) → IsStateOf h cache rows → h ≡ value
    → client ≡ e.client → seq ≡ e.seq → t ≡ numbered_after seq (row rows client) → t ≡ b
    → is_fresh e value.history ≡ b
tested e h value cache rows client seq t b s i j k l m =
    ap (λ (v : Execution). is_fresh e v.history) (sym i) ∙ fresh-by_row h cache rows s e
    ∙ sym (ap (λ n. numbered_after n (row rows e.client)) k)
    ∙ sym (ap (λ n. numbered_after seq (row rows n)) j)
    ∙ sym l ∙ m

pub execute-requires : goal.execute-requires
execute-requires g c = tested c.of-entry.result _ c.args.self.now _ _ _ _ _ true c.self.invariant
    c.self.view_is c.client.ensures c.seq.ensures c.is_after.ensures c.if-is_after.true

pub enter-requires : goal.enter-requires
enter-requires g c = tested c.of-entry.result _ c.args.self.now _ _ _ _ _ false c.self.invariant
    c.self.view_is c.client.ensures c.seq.ensures c.is_after.ensures c.if-is_after.false

pub returns-in_ok-execute-clause-answered : goal.returns-in_ok-execute-clause-answered
returns-in_ok-execute-clause-answered g c =
    ap (λ (a : Answer). Some a) c.in_ok-execute.ensures.answered
    ∙ answered-fresh c.args.self.now.most_keys c.of-entry.result c.args.self.now.history
    (tested c.of-entry.result _ c.args.self.now _ _ _ _ _ true c.self.invariant c.self.view_is
    c.client.ensures c.seq.ensures c.is_after.ensures c.if-is_after.true)
    ∙ ap (λ (e : Entry). answer_at c.args.self.now.most_keys e c.args.self.now.history) c.of-entry.ensures

pub returns-in_ok-enter-clause-answered : goal.returns-in_ok-enter-clause-answered
returns-in_ok-enter-clause-answered g c =
    answered-stale c.args.self.now.most_keys c.of-entry.result c.args.self.now.history
    (tested c.of-entry.result _ c.args.self.now _ _ _ _ _ false c.self.invariant c.self.view_is
    c.client.ensures c.seq.ensures c.is_after.ensures c.if-is_after.false)
    ∙ ap (λ (e : Entry). answer_at c.args.self.now.most_keys e c.args.self.now.history) c.of-entry.ensures
