-- The rows of entries, and their payloads, after one more entry.
use Rattle.std.proofs.Common.{ℕ, suc, ◌≡◌, ◌≤◌, ◌+◌, ◌-◌, List, [], ◌∷◌, ◌++◌, length, take, drop, refl}
use Rattle.std.proofs.Common.{ap, subst, ◌∙◌, arith}
use Rattle.std.specs.List.{slice_range}
use Rattle.std.proofs.lemmas.List.{map-append, take-append-le, drop-append-le, length-drop, take_all}
use Rattle.std.proofs.Math.Seq.{drop-append_seam}
use Rattle.definitions.specs.Bytes.{Bytes}
use Rattle.definitions.specs.Histories.{Entry}
use Rattle.executor.specs.declared.entries.Row.{Row}
use Rattle.executor.specs.Payloads.{entry_in, entries_in, AreRowsOf}

-- a part of what comes first
first-part : (first more : Bytes) (a b : ℕ) → a ≤ b → b ≤ length first
    → slice_range (first ++ more) a b ≡ slice_range first a b
first-part first more a b l m =
    let size = length-drop a first in
    ap (take (b - a)) (drop-append-le a first more (omega (arith, l, m)))
    ∙ take-append-le (b - a) (drop a first) more (omega (arith, size, m))

-- all of what comes next
next-part : (first more : Bytes) (b : ℕ) → b ≡ length first + length more
    → slice_range (first ++ more) (length first) b ≡ more
next-part first more b e = ap (take (b - length first)) (drop-append_seam first more)
    ∙ take_all (b - length first) more (omega (arith, e))

-- the rows without the first
pub rows-behind : (payloads : Bytes) (rows others : List Row) (r : Row) → rows ≡ r ∷ others
    → AreRowsOf payloads rows → AreRowsOf payloads others
rows-behind payloads rows others r e h k d l =
    subst (AreRowsOf payloads) e h (suc k) d (omega (arith, l))

-- the entries stay when bytes are added
same-entries : (payloads more : Bytes) (rows : List Row) → AreRowsOf payloads rows
    → entries_in (payloads ++ more) rows ≡ entries_in payloads rows
same-entries payloads more [] h = refl
same-entries payloads more (r ∷ rows) h =
    let lies = h 0 r (omega arith) in
    let part = first-part payloads more r.start r.end lies.0 lies.1 in
    let others = same-entries payloads more rows (rows-behind payloads (r ∷ rows) rows r refl h) in
    λ i. record { client = r.client; seq = r.seq; payload = part i } ∷ others i

-- a row more, and its payload behind the others
pub entry-more : (payloads more : Bytes) (rows : List Row) (r : Row) (e : Entry) → AreRowsOf payloads rows
    → r.client ≡ e.client → r.seq ≡ e.seq → r.start ≡ length payloads
    → r.end ≡ length payloads + length more → more ≡ e.payload
    → entries_in (payloads ++ more) (rows ++ r ∷ []) ≡ entries_in payloads rows ++ e ∷ []
entry-more payloads more rows r e h client seq start end payload =
    let part : slice_range (payloads ++ more) r.start r.end ≡ e.payload =
    ap (λ a. slice_range (payloads ++ more) a r.end) start ∙ next-part payloads more r.end end ∙ payload in
    let others = same-entries payloads more rows h in
    map-append (entry_in (payloads ++ more)) rows (r ∷ [])
    ∙ (λ i. others i ++ record { client = client i; seq = seq i; payload = part i } ∷ [])
