use Rattle.std.proofs.Common.{◌≡◌, ◌*◌, [], ◌∷◌, refl, ap, ◌∙◌, arith}
use Rattle.sha2.specs.Sha256.{add_state, compress, rounds}
use Rattle.lanes.specs.Lanes.{state_lane}
use Rattle.lanes.proofs.compression.compress.Goals as goal

pub loop-turn-init : goal.loop-turn-init
unfolding rounds
loop-turn-init c = λ j b lt keyed. refl

pub returns : goal.returns
unfolding compress
returns c = λ j b lt keyed.
    let done : 8 * c.loop-turn.turn ≡ 64 = omega arith in
    let held = rw done at (c.loop-turn.invariant j b lt keyed) in
    (λ i. (c.sum.ensures j lt).is i ∷ (c.sum-2.ensures j lt).is i ∷ (c.sum-3.ensures j lt).is i ∷ (c.sum-4.ensures j lt).is i
    ∷ (c.sum-5.ensures j lt).is i ∷ (c.sum-6.ensures j lt).is i ∷ (c.sum-7.ensures j lt).is i ∷ (c.sum-8.ensures j lt).is i ∷ [])
    ∙ ap (add_state (state_lane c.args.state.now j)) held
