use Rattle.std.proofs.Common.{◌≡◌, ◌∷◌, ap, ◌∙◌, sym}
use Rattle.definitions.specs.FrameLimits.{IsCommand}
use Rattle.definitions.specs.Checks.{identity_of}
use Rattle.frames_view.specs.Views.{command_of, core_of, commands_left}
use Rattle.certificates.proofs.Clearing.{clear_first, clear_more, all-left}
use Rattle.certificates.proofs.commands.is_clear.Goals as goal

pub loop-command-init : goal.loop-command-init
loop-command-init c =
    let core = core_of c.args.core.now in
    let all : commands_left c.into_iter-command-iterator.result ≡ core.commands =
    ap commands_left c.into_iter-command-iterator.ensures.into_iter_gives
    ∙ c.commands-command-items.ensures.value in
    record {
      so_far = clear_first (identity_of c.args.keyring.now) core
          (commands_left c.into_iter-command-iterator.result) all;
      commands = rw all c.requires.core.commands;
    }

pub loop-command-preserved : goal.loop-command-preserved
loop-command-preserved c =
    let left : commands_left c.loop-command.command-iterator
    ≡ command_of c.in-Some.command ∷ commands_left c.next.new.self = c.in-Some.ensures.steps in
    let so = c.loop-command.invariant in
    record {
      so_far = clear_more (identity_of c.args.keyring.now) (command_of c.in-Some.command) _ _ _
          (sym c.command_verifies.ensures ∙ c.if-not-command_verifies.false) left so.so_far;
      commands = (all-left (IsCommand c.args.keyring.now.sizes) _ _ _ left so.commands).1;
    }
