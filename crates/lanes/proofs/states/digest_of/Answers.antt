use Rattle.std.proofs.Common.{rules, ◌∙◌, arith, ap}
use Rattle.std.proofs.lemmas.Slice.{overwrites}
use Rattle.std.specs.Int.{w32, to_be_bytes}
use Rattle.sha2.specs.Sha256.{digest_bytes}
use Rattle.sha2.proofs.Absorbing256.{digest_more}
use Rattle.lanes.specs.Lanes.{state_lane}
use Rattle.lanes.proofs.Words.{slice_index-state_lane}
use Rattle.lanes.proofs.states.digest_of.Goals as goal

pub loop-i-init : goal.loop-i-init
unfolding digest_bytes
loop-i-init c = search rules

pub loop-i-preserved : goal.loop-i-preserved
loop-i-preserved c =
    let i = c.loop-i.i in
    let word = c.word_of-word.ensures ∙ slice_index-state_lane c.args.state.now c.args.lane i (omega arith) in (
      search (rules, overwrites),
      digest_more c.loop-i.out (state_lane c.args.state.now c.args.lane) _ i _ c.loop-i.invariant.1 (omega arith)
          (c.copy_from_slice.ensures.after ∙ c.to_be_bytes.ensures ∙ ap (to_be_bytes w32) word),
    )
