-- The row so many places behind the turn, seen from a later turn.
use Rattle.std.proofs.Common.{◌≡◌, ◌≢◌, ◌⊎◌, ℕ, zero, suc, ◌+◌, ◌-◌, ◌<◌, ◌≤◌, arith, inl, inr, refl, ap, sym, ◌∙◌, List, [], ◌∷◌}
use Rattle.std.proofs.Common.{length, set, false}
use Rattle.std.specs.Prelude.{slice_get, Option}
use Rattle.std.specs.Option.{option_map_or}
use Rattle.std.proofs.lemmas.Bool.{cases_lt, cases_order, lt-ltb, le-ltb, true≢false}
use Rattle.std.proofs.lemmas.List.{length-set}
use Rattle.fair_queue.specs.Queues.{Rows, Row, after_one, is_ready, ready_at, row_at, row_behind}
use Rattle.fair_queue.specs.Laws.{ComeNearer}

-- it wraps at the number of rows, or it doesn't
abbrev IsAt : (n t p r : ℕ) → Type 0
IsAt n t p r = ((t + p < n) × (r ≡ t + p)) ⊎ ((n ≤ t + p) × (r ≡ t + p - n))

is-at : (n t p : ℕ) → IsAt n t p (row_at n t p)
is-at n t p = elim (cases_lt (t + p) n) [
  | inl l ↦ inl (l, rw (lt-ltb (t + p) n l) refl)
  | inr l ↦ inr (l, rw (le-ltb (t + p) n l) refl)
]

-- so does the row behind one
abbrev IsBehind : (n r u : ℕ) → Type 0
IsBehind n r u = ((r + 1 < n) × (u ≡ r + 1)) ⊎ ((n ≤ r + 1) × (u ≡ 0))

is-behind : (n r : ℕ) → IsBehind n r (row_behind n r)
is-behind n r = elim (cases_lt (r + 1) n) [
  | inl l ↦ inl (l, rw (lt-ltb (r + 1) n l) refl)
  | inr l ↦ inr (l, rw (le-ltb (r + 1) n l) refl)
]

-- A row p places behind the turn t, where the next turn u is that of the row behind r, s places behind t.
same-row : (n t s p r u w z : ℕ) → t < n → s < p → p < n → IsAt n t s r → IsBehind n r u → IsAt n u (p - s - 1) w
    → IsAt n t p z → w ≡ z
same-row n t s p r u w z a b c d e f g = grind arith

other-row : (n t s p r z : ℕ) → t < n → s < p → p < n → IsAt n t s r → IsAt n t p z → z ≢ r
other-row n t s p r z a b c (inl d) (inl e) h = omega arith
other-row n t s p r z a b c (inl d) (inr e) h = omega arith
other-row n t s p r z a b c (inr d) (inl e) h = omega arith
other-row n t s p r z a b c (inr d) (inr e) h = omega arith

-- a write elsewhere
slice_get-set_other : {X : Type 0} (xs : List X) (i j : ℕ) (y : X) → j ≢ i → slice_get (set xs i y) j ≡ slice_get xs j
slice_get-set_other [] i j y ne = refl
slice_get-set_other (x ∷ xs) zero zero y ne = absurd (ne refl)
slice_get-set_other (x ∷ xs) zero (suc j) y ne = refl
slice_get-set_other (x ∷ xs) (suc i) zero y ne = refl
slice_get-set_other (x ∷ xs) (suc i) (suc j) y ne = slice_get-set_other xs i j y (λ e. ne (ap suc e))

pub come-nearer : (T : Type 0) → ComeNearer T
come-nearer T old new value taken place turn within ready =
    let n = length old.rows in
    let s = taken.place in
    let wanted = row_at n old.turn place in
    let size : length new.rows ≡ n =
    ap (λ (q : Rows T). length q.rows) taken.is ∙ length-set old.rows taken.number _ in
    let next : new.turn ≡ row_behind n taken.number = ap (λ (q : Rows T). q.turn) taken.is in
    let rows : new.rows ≡ set old.rows taken.number (after_one taken.row taken.size taken.rest) =
    ap (λ (q : Rows T). q.rows) taken.is in
    let served : IsAt n old.turn s taken.number = rw taken.next.is (is-at n old.turn s) in
    elim (cases_order place s) [
      | inl same ↦ inl (taken.next.is ∙ sym (ap (row_at n old.turn) same))
      | inr (inl l) ↦ absurd (true≢false (sym ready ∙ taken.next.first place l))
      | inr (inr l) ↦ inr (
        place - s - 1,
        omega arith,
        rw (size, next) (same-row n old.turn s place taken.number (row_behind n taken.number) _ _ turn l within
            served (is-behind n taken.number) (is-at n (row_behind n taken.number) (place - s - 1))
            (is-at n old.turn place)),
        ap (λ (rs : List (Row T)). ready_at rs wanted) rows
            ∙ (ap (λ (o : Option (Row T)). option_map_or is_ready o false)
            (slice_get-set_other old.rows taken.number wanted _
            (other-row n old.turn s place taken.number wanted turn l within served (is-at n old.turn place)))
            ∙ ready),
      )
    ]
