use Rattle.std.proofs.Common.{false, arith, nat_lt}
use Rattle.std.proofs.lemmas.List.{length-replicate}
use Rattle.ids.specs.declared.limits.TheConstants.{MOST_REPLICAS}
use Rattle.suspicion.specs.Passing.{tellers}
use Rattle.suspicion.proofs.Sets.{are-those, nobody-in}
use Rattle.suspicion.proofs.passing.Passing.sure.Goals as goal

pub loop-number-init : goal.loop-number-init
loop-number-init c = (
  rw c.none-sure.ensures (length-replicate MOST_REPLICAS false),
  (λ r below. absurd (omega (arith, below))),
  (λ r low above. rw c.none-sure.ensures (nobody-in r low)),
)

pub returns : goal.returns
returns c =
    are-those _ (λ r. nat_lt c.args.self.now.most (tellers c.args.self.now.told r)) c.loop-number.invariant.0
    (λ r low. c.loop-number.invariant.1 r (omega (arith, low)))
