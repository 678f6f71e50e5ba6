use Rattle.std.proofs.Common.{◌++◌, List, Option, option_to_list, refl, ap, ◌∙◌}
use Rattle.definitions.specs.Histories.{Answer, entry_of}
use Rattle.frames_view.specs.Views.{command_of, commands_left}
use Rattle.executor.specs.State.{Execution, answer_at}
use Rattle.executor.proofs.Texts.{on_err}
use Rattle.executor.proofs.Blocks.{run-starts, run-goes_on, run-stops}
use Rattle.executor.proofs.executor.Executor.run_block.Goals as goal

pub loop-command-init : goal.loop-command-init
loop-command-init g c =
    rw c.into_iter-command-iterator.ensures.into_iter_gives (
      run-starts c.args.self.now.most_keys (commands_left c.args.commands) c.args.self.now.history
          c.new-answers.result.items c.new-answers.ensures.items,
      refl,
      λ k. k,
    )

pub returns-in_err-reserve-clause-cut : goal.returns-in_err-reserve-clause-cut
returns-in_err-reserve-clause-cut g c =
    on_err _ (run-stops _ _ _ _ _ _ _ _ _ c.loop-command.invariant.0 c.in-Some.ensures.steps refl)

pub returns-in_err-answer-clause-cut : goal.returns-in_err-answer-clause-cut
returns-in_err-answer-clause-cut g c =
    on_err _ (run-stops _ _ _ _ _ _ _ _ _ c.loop-command.invariant.0 c.in-Some.ensures.steps
    (ap (λ (x : Execution). x.history) c.in_err-answer.ensures.unchanged))

pub loop-command-preserved : goal.loop-command-preserved
loop-command-preserved g c = (
  run-goes_on _ _ _ _ _ _ _ _ _ (command_of c.in-Some.command) c.loop-command.invariant.0
      c.in-Some.ensures.steps (ap (λ (x : Execution). x.history) c.in_ok-answer.ensures.executed)
      (c.put.ensures
      ∙ ap (λ (l : List Answer). l ++ option_to_list c.in_ok-answer.answer) c.in_ok-reserve.ensures.items
      ∙ ap (λ (o : Option Answer). c.loop-command.answers.items ++ option_to_list o)
      (c.in_ok-answer.ensures.answered
      ∙ ap (λ n. answer_at n (entry_of (command_of c.in-Some.command)) c.loop-command.self.history)
      c.loop-command.invariant.1)),
  ap (λ (x : Execution). x.most_keys) c.in_ok-answer.ensures.executed ∙ c.loop-command.invariant.1,
  λ k. c.in_ok-answer.ensures.written (c.loop-command.invariant.2 k),
)
