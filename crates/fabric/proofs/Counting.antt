-- How many values wait after one was put or taken.
use Rattle.std.proofs.Common.{◌≡◌, ◌+◌, ℕ, length, ◌++◌, [], ◌∷◌, List, set, ap, arith, refl, subst, ◌∙◌, add-one}
use Rattle.std.specs.Prelude.{sum_by, slice_get, Option, Some, None, MatchOption}
use Rattle.std.proofs.lemmas.List.Sums.{sum_by-set}
use Rattle.std.proofs.lemmas.List.{length-append}
use Rattle.std.proofs.lemmas.Option.{get_or_from_slice_get, slice_get_within}
use Rattle.fair_queue.specs.Queues.{Rows, Row, Puts, Takes, after_one, charged}
use Rattle.fabric.specs.Inboxes.{count_of}

-- of rows of which one was changed
count-set : {T : Type 0} (rows : List (Row T)) (number : ℕ) (row row' : Row T) → slice_get rows number ≡ Some row
    → sum_by (λ (r : Row T). length r.items) (set rows number row') + length row.items
    ≡ sum_by (λ (r : Row T). length r.items) rows + length row'.items
count-set {T} rows number row row' at =
    let f : Row T → ℕ = λ r. length r.items in
    subst (λ r. sum_by f (set rows number row') + f r ≡ sum_by f rows + f row') (get_or_from_slice_get rows number row row at)
    (sum_by-set f rows number row' row (slice_get_within rows number row at))

-- one more
pub one_more : {T : Type 0} (old : Rows T) (number size : ℕ) (value : T) (new : Rows T)
    → Puts old number size value new → count_of new ≡ count_of old + 1
one_more {T} old number size value new p =
    let more : length (p.row.items ++ (size, value) ∷ []) ≡ length p.row.items + 1 = length-append p.row.items _ in
    let sums = count-set old.rows number p.row (record p.row { items = p.row.items ++ (size, value) ∷ [] }) p.at in
    ap count_of p.is ∙ omega (arith, more, sums)

-- one less
pub one_less : {T : Type 0} (old : Rows T) (value : T) (new : Rows T)
    → Takes old value new → count_of new + 1 ≡ count_of old
one_less {T} old value new t =
    let one : length t.row.items ≡ length t.rest + 1 = rw add-one (ap length t.oldest) in
    let sums = count-set old.rows t.number t.row (after_one t.row t.size t.rest) t.at in
    ap (λ (q : Rows T). count_of q + 1) t.is ∙ omega (arith, one, sums)

-- as many, where one row has another allowance left
pub as_many : {T : Type 0} (old : Rows T) (number count size : ℕ) (new : Rows T)
    → MatchOption (slice_get old.rows number) (new ≡ old)
    (λ row. new ≡ record old { rows = set old.rows number (charged count size row) })
    → count_of new ≡ count_of old
as_many {T} old number count size new is = by (slice_get old.rows number) refl is
  where
    by : (row : Option (Row T)) → slice_get old.rows number ≡ row
        → MatchOption row (new ≡ old)
        (λ row. new ≡ record old { rows = set old.rows number (charged count size row) })
        → count_of new ≡ count_of old
    by None at same = ap count_of same
    by (Some row) at less =
        let sums = count-set old.rows number row (charged count size row) at in ap count_of less ∙ omega (arith, sums)
