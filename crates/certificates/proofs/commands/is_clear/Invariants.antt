-- All commands verify where the others do.
use Rattle.std.proofs.Common.{◌≡◌}
use Rattle.std.specs.List.{AllByRecursion, list_all}
use Rattle.definitions.specs.FrameLimits.{IsCommand}
use Rattle.definitions.specs.Checks.{identity_of, command_verifies, is_clear_core}
use Rattle.frames_view.specs.Views.{core_of, commands_left}
use Rattle.certificates.proofs.commands.is_clear.Given as goal

abbrev pub invariant-loop-command : goal.invariant-loop-command
invariant-loop-command l = record {
  so_far : list_all (command_verifies (identity_of l.keyring)) (commands_left l.command-iterator)
      ≡ is_clear_core (identity_of l.keyring) (core_of l.core);
  commands : AllByRecursion (IsCommand l.keyring.sizes) (commands_left l.command-iterator);
}
