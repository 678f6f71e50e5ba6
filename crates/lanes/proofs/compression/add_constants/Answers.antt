use Rattle.std.proofs.Common.{◌≡◌, ap, inl, inr, slice_index, ◌∙◌, arith}
use Rattle.std.proofs.lemmas.List.{length-set}
use Rattle.std.proofs.lemmas.Bool.{cases_lt}
use Rattle.sha2.specs.Sha256.{add32, round_constants}
use Rattle.lanes.proofs.Words.{at-set_same, at-set_other}
use Rattle.lanes.proofs.compression.add_constants.Goals as goal

pub loop-t-preserved : goal.loop-t-preserved
loop-t-preserved c =
    let w = c.loop-t.w in
    let t = c.loop-t.t in
    let new = c.with_constant.result in
    let long = c.loop-t.invariant.0 in (
      length-set w t new ∙ long,
      λ j b lt words.
          let before = c.loop-t.invariant.1 j b lt words in (
            λ i low. elim (cases_lt i t) [
              | inl below ↦ at-set_other w t i j new (omega arith) ∙ before.0 i below
              | inr above ↦
                  let e : t ≡ i = omega arith in
                  rw (← e) (at-set_same w t j new (omega arith) ∙ (c.with_constant.ensures j lt).is ∙ ap (add32 (slice_index round_constants t)) (before.1 t (omega arith) (omega arith)))
            ],
            λ i above high. at-set_other w t i j new (omega arith) ∙ before.1 i (omega arith) high,
          ),
    )
