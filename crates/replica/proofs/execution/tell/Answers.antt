use Rattle.std.proofs.Common.{ℕ, suc, ◌+◌, ◌≡◌, ◌++◌, option_to_list, append_assoc, [], ◌∷◌, List, take}
use Rattle.std.proofs.Common.{arith, sym, ap, ◌∙◌}
use Rattle.definitions.specs.Histories.{Answer}
use Rattle.signed_frames.specs.Outs.{SentBytes}
use Rattle.replica.specs.Execution.{told_one, told}
use Rattle.std.proofs.Math.Seq.{take-suc}
use Rattle.std.proofs.lemmas.List.{append-nil, take_all}
use Rattle.replica.proofs.Executing.{told-append, told-last}
use Rattle.replica.proofs.execution.tell.Goals as goal

pub loop-answer-init : goal.loop-answer-init
unfolding told
loop-answer-init c = sym (append-nil c.args.out.now)

pub loop-answer-preserved : goal.loop-answer-preserved
loop-answer-preserved c =
    let keys = c.args.teller.now.keyring.now in
    let xs : List Answer = c.args.answers.now in
    let i = c.loop-answer.answer-index in
    let a : Answer = c.answer-item.result in
    c.in_ok-tell_one.ensures.told ∙ (λ j. c.loop-answer.invariant j ++ option_to_list (told_one keys a))
    ∙ append_assoc c.args.out.now (told keys (take i xs)) (option_to_list (told_one keys a))
    ∙ ap (λ (l : List SentBytes). c.args.out.now ++ l)
    (sym (told-append keys (take i xs) (a ∷ [])
    ∙ ap (λ (l : List SentBytes). told keys (take i xs) ++ l) (told-last keys a)) ∙ ap (told keys) (sym (
    ap (λ (n : ℕ). take n xs) (let e : i + 1 ≡ suc i = omega arith in e)
    ∙ take-suc xs i a c.loop-answer-test.true
    ∙ ap (λ (x : Answer). take i xs ++ x ∷ []) (sym c.answer-item.is))))

pub returns-clause-told : goal.returns-clause-told
returns-clause-told c =
    c.loop-answer.invariant
    ∙ ap (λ (l : List Answer). c.args.out.now ++ told c.args.teller.now.keyring.now l)
    (take_all c.loop-answer.answer-index c.args.answers.now c.loop-answer-test.false)
