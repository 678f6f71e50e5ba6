use Rattle.std.proofs.Common.{◌≡◌, ◌-◌, inl, inr, sym, ◌∙◌, arith}
use Rattle.std.proofs.lemmas.List.{length-set}
use Rattle.std.proofs.lemmas.Bool.{cases_lt}
use Rattle.sha2.proofs.Schedule256.{slice_index-schedule_first}
use Rattle.lanes.proofs.Words.{at-set_same, at-set_other, word_from}
use Rattle.lanes.proofs.compression.next_words.Goals as goal

pub loop-t-init : goal.loop-t-init
loop-t-init c = (c.told-w, λ j b lt words i low. words i low ∙ sym (slice_index-schedule_first b 48 i low))

pub loop-t-preserved : goal.loop-t-preserved
loop-t-preserved c =
    let w = c.loop-t.w in
    let t = c.loop-t.t in
    let new = c.next_word.result in
    let long = c.loop-t.invariant.0 in (
      length-set w t new ∙ long,
      λ j b lt words i low.
          let before = c.loop-t.invariant.1 j b lt words in
          elim (cases_lt i t) [
            | inl below ↦ at-set_other w t i j new (omega arith) ∙ before i below
            | inr above ↦
                let e : t ≡ i = omega arith in
                rw (← e)
                (at-set_same w t j new (omega arith) ∙ (c.next_word.ensures j lt).is
                ∙ word_from b t _ _ _ _ (omega arith) (omega arith) (before (t - 2) (omega arith)) (before (t - 7) (omega arith)) (before (t - 15) (omega arith)) (before (t - 16) (omega arith)))
          ],
    )
