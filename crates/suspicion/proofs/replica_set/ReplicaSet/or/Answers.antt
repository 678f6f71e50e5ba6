use Rattle.std.proofs.Common.{◌||◌, ◌∙◌, ℕ, Bool, List, ap, arith}
use Rattle.std.proofs.lemmas.List.{length-set}
use Rattle.suspicion.specs.ReplicaSets.{both, is_in}
use Rattle.suspicion.proofs.Places.{one_place_more}
use Rattle.suspicion.proofs.Sets.{are-those}
use Rattle.suspicion.proofs.replica_set.ReplicaSet.or.Goals as goal

pub loop-number-preserved : goal.loop-number-preserved
loop-number-preserved c =
    let all = c.loop-number.all-inside.has in
    let k = c.loop-number.number in
    let both : ℕ → Bool = λ r. is_in c.self.inside.has r || is_in c.others.inside.has r in
    let before = c.loop-number.invariant in
    (length-set all k (both k) ∙ before.0, one_place_more all k both (omega (arith, before.0)) before.1)

pub returns : goal.returns
returns c =
    let said : ℕ → Bool = λ r. is_in c.self.inside.has r || is_in c.others.inside.has r in
    are-those _ said c.loop-number.invariant.0 (λ r low. c.loop-number.invariant.1 r (omega (arith, low)))
    ∙ ap (λ (some : List Bool). both some c.others.inside.has) c.self.view_is
    ∙ ap (both c.args.self.now) c.others.view_is
