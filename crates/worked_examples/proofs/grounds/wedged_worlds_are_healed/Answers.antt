-- What the law of healing says of these worlds.
use Rattle.worked_examples.proofs.Waiting.{is_healed}
use Rattle.worked_examples.proofs.HalfRequest.{is_healed as half_request_is_healed}
use Rattle.worked_examples.proofs.AfterPruning.{is_healed as after_pruning_is_healed}
use Rattle.worked_examples.proofs.grounds.wedged_worlds_are_healed.Goals as goal

pub returns : goal.returns
returns c = record {
  half_vote = is_healed c.runs_are_healed.ensures;
  half_request = half_request_is_healed c.runs_are_healed.ensures;
  pruning = after_pruning_is_healed c.runs_are_healed.ensures;
}
