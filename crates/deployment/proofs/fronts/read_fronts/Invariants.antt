-- The fronts so far are read, and have the clients so far.
use Rattle.std.proofs.Common.{◌≡◌, ◌-◌, ◌≤◌, length}
use Rattle.deployment.specs.Deployments.{AreFronts, fronts_text}
use Rattle.deployment.proofs.fronts.read_fronts.Given as goal

abbrev pub invariant-loop-placed : goal.invariant-loop-placed
invariant-loop-placed l = record {
  fronts : AreFronts l.placed l.fronts.items;
  text : l.text ≡ fronts_text 0 l.fronts.items l.rest;
  count : length l.fronts.items ≡ l.front;
  few : l.front ≤ l.placed;
  within : l.placed ≤ l.clients;
}

abbrev pub decreases-loop-placed : goal.decreases-loop-placed
decreases-loop-placed l = l.clients - l.placed
