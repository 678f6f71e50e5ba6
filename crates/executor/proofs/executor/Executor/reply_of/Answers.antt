use Rattle.std.proofs.Common.{◌≡◌, ◌==◌, true, false, Some, None, option_map, sym, ap, ◌∙◌}
use Rattle.std.specs.Borrow.{Bor}
use Rattle.definitions.specs.Histories.{Answer, last_answer}
use Rattle.executor.proofs.State.{last-is, answer-none, answer-some}
use Rattle.executor.proofs.executor.Executor.reply_of.Goals as goal

pub returns-in_err-answer : goal.returns-in_err-answer
returns-in_err-answer c =
    let value = c.args.self.now in
    let last : last_answer value.most_keys c.args.client value.history ≡ None =
    last-is _ value _ _ c.args.client _ c.self.invariant c.self.view_is c.get.ensures
    ∙ ap (option_map (λ (a : Bor Answer). a.now)) c.in_err-answer.was in
    ap (option_map (λ (a : Bor Answer). a.now)) c.from_residual.ensures
    ∙ sym (answer-none value.most_keys c.args.client c.args.seq value.history last)

pub returns-then-eq : goal.returns-then-eq
returns-then-eq c =
    let value = c.args.self.now in
    let last : last_answer value.most_keys c.args.client value.history ≡ Some c.in_ok-answer.answer.now =
    last-is _ value _ _ c.args.client _ c.self.invariant c.self.view_is c.get.ensures
    ∙ ap (option_map (λ (a : Bor Answer). a.now)) c.in_ok-answer.was in
    let same = ap (λ n. n == c.args.seq) (sym c.seq.ensures) ∙ sym c.eq.ensures ∙ c.if-eq.true in
    sym (answer-some value.most_keys c.args.client c.args.seq value.history c.in_ok-answer.answer.now true last same)

pub returns-else-eq : goal.returns-else-eq
returns-else-eq c =
    let value = c.args.self.now in
    let last : last_answer value.most_keys c.args.client value.history ≡ Some c.in_ok-answer.answer.now =
    last-is _ value _ _ c.args.client _ c.self.invariant c.self.view_is c.get.ensures
    ∙ ap (option_map (λ (a : Bor Answer). a.now)) c.in_ok-answer.was in
    let other = ap (λ n. n == c.args.seq) (sym c.seq.ensures) ∙ sym c.eq.ensures ∙ c.if-eq.false in
    sym (answer-some value.most_keys c.args.client c.args.seq value.history c.in_ok-answer.answer.now false last other)
