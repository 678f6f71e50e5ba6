use Rattle.std.proofs.Common.{rules, arith, ◌≡◌, ◌+◌, ◌≤◌, length, min, map, sym, ap, ◌∙◌}
use Rattle.std.specs.List.{range_with_len}
use Rattle.std.proofs.Math.Nat.{min-eq_left, min-eq_right}
use Rattle.std.proofs.lemmas.List.FromFn.{length-map-range_with_len}
use Rattle.marks.specs.Eyes.{first_eye, without_first, only_first}
use Rattle.marks.proofs.Steps.{deals, is_first_eye, one_more_eye}
use Rattle.marks.proofs.marks.Marks.new.Goals as goal

pub split_seat-seat-requires : goal.split_seat-seat-requires
split_seat-seat-requires c =
    let i = c.loop.invariant in (
      search rules,
      search rules,
      deals _ _ _ (omega (arith, ap (λ v. v.first) i.1, ap (λ v. v.end) i.1, c.loop-test.true)),
    )

pub push_reserved-requires : goal.push_reserved-requires
push_reserved-requires c =
    let i = c.loop.invariant in
    omega (
      arith,
      ap length i.2
          ∙ length-map-range_with_len (first_eye c.in_ok-table.table.shared.table_id) 0 c.loop.counter,
      i.3,
      c.loop-test.true,
    )

pub loop-preserved : goal.loop-preserved
loop-preserved c =
    let i = c.loop.invariant in
    let z = c.in_ok-table.table.shared.table_id in
    let s = c.split_seat-seat.ensures in
    let words : z.words ≡ c.args.n = search rules in
    let least : c.loop.counter + 1 ≤ c.args.n = omega (arith, c.loop-test.true) in
    let eye =
    is_first_eye z c.split_seat-seat.result.table_id c.args.n c.loop.counter (c.loop.counter + 1)
    c.split_seat-seat.result.me.0 (s.3 ∙ i.0) words (ap (λ m. m.0) s.4 ∙ ap only_first i.1)
    (sym (min-eq_left least)) in (
      s.0 ∙ i.0,
      ap (λ m. m.0) s.2 ∙ ap without_first i.1,
      one_more_eye z c.loop.counter _ _ _ c.push_reserved.ensures.items i.2 eye,
      search rules,
    )

pub push_reserved-requires-2 : goal.push_reserved-requires-2
push_reserved-requires-2 c =
    let i = c.loop.invariant in
    omega (
      arith,
      ap length i.2
          ∙ length-map-range_with_len (first_eye c.in_ok-table.table.shared.table_id) 0 c.loop.counter,
      i.3,
      c.loop.auto.counter-end,
    )

pub returns-clause-eyes : goal.returns-clause-eyes
returns-clause-eyes c =
    let i = c.loop.invariant in
    let z = c.in_ok-table.table.shared.table_id in
    let words : z.words ≡ c.args.n = search rules in
    let all : c.loop.counter ≡ c.args.n = omega (arith, c.loop.auto.counter-end, c.loop-test.false) in
    let last : c.args.n ≡ min (c.loop.counter + 1) c.args.n = sym (min-eq_right (omega (arith, all))) in
    let eye = is_first_eye z c.loop.rest.table_id c.args.n c.loop.counter c.args.n c.loop.rest.me.0 i.0
    words i.1 last in
    one_more_eye z c.loop.counter _ _ _ c.push_reserved-2.ensures.items i.2 eye
    ∙ ap (λ n. map (first_eye z) (range_with_len 0 (n + 1))) (all ∙ sym words)
