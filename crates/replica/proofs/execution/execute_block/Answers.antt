use Rattle.std.proofs.Common.{◌≤◌, length, map, reverse, arith, sym, ap, subst, ◌∙◌, List}
use Rattle.std.proofs.lemmas.List.{take_all}
use Rattle.definitions.specs.Frames.{Command, Core}
use Rattle.definitions.specs.Histories.{Answer, entry_of}
use Rattle.mempool.specs.Pool.{left_after}
use Rattle.executor.specs.State.{with_commands, new_answers}
use Rattle.replica.specs.Execution.{work}
use Rattle.replica.proofs.Executing.{some-told, on-err}
use Rattle.replica.proofs.execution.execute_block.Goals as goal

pub returns-clause-cut : goal.returns-clause-cut
returns-clause-cut g c =
    let all : List Command = c.args.block.now.core.commands in
    let cs = c.commands.ensures.value ∙ ap (λ (k : Core). k.commands) c.core.ensures in
    let again = c.commands-2.ensures.value ∙ ap (λ (k : Core). k.commands) c.core-2.ensures in
    let ran = c.in_ok-answers.ensures in
    let executed = ran.executed ∙ ap (λ (x : List Command). with_commands x c.args.executor.now.history) cs in
    let answers = c.deref.ensures.value ∙ ran.answered
    ∙ ap (λ n. new_answers n c.args.executor.now.history c.run_block.new.self.history) c.requires.room in
    on-err c.tell.result c.tell.ensures.some (λ l. record {
      count = length all;
      some = some-told c.args.teller.now.keyring.now.sizes.most_keys all c.args.executor.now.history
          c.run_block.new.self.history executed
          (subst (λ (x : List Answer). 1 ≤ length x) answers l);
      most = omega arith;
      history =
          executed
          ∙ ap (λ (x : List Command). with_commands x c.args.executor.now.history)
          (sym (take_all (length all) all (omega arith)));
      in_part = λ k. absurd (omega (arith, k));
      whole =
          λ e i. work (executed i) ((c.drop_all_executed.ensures
          ∙ ap (λ (x : List Command). left_after (reverse (map entry_of x)) c.args.pool.now) again) i);
    })
