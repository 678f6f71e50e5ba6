use Rattle.std.proofs.Common.{◌≡◌, ◌+◌, ◌++◌, length, ℕ, List, refl, ap, ◌∙◌, arith, length-append}
use Rattle.lanes.specs.Texts.{block_at, blocks_of, tail}
use Rattle.lanes.proofs.Hashing.{next_block}
use Rattle.lanes.proofs.texts.after_rests.Goals as goal

pub loop-i-preserved : goal.loop-i-preserved
loop-i-preserved c =
    let rest = c.args.rest.now in
    let i = c.loop-i.i in
    let before = c.loop-i.invariant in record {
      long = c.compress_each.ensures.length ∙ before.long;
      each = λ g j s h low lt lh first.
          let block : List ℕ = block_at (tail (h ++ rest)) i in
          next_block s _ block _ _ i (before.each g j s h low lt lh first) refl
          (c.compress_each.ensures.each g j block (omega (arith, before.long)) lt (c.make_schedule.ensures j block lt (c.words_behind-words.ensures j h lt lh)));
    }

pub returns-clause-each : goal.returns-clause-each
returns-clause-each c = λ g j s h low lt lh first.
    let long : length (h ++ c.args.rest.now) ≡ c.args.at + length c.args.rest.now = length-append h c.args.rest.now ∙ ap (λ (n : ℕ). n + length c.args.rest.now) lh in
    let count : blocks_of (length (h ++ c.args.rest.now)) ≡ c.loop-i.i = ap blocks_of long ∙ (omega arith) in
    rw count (c.loop-i.invariant.each g j s h low lt lh first)
