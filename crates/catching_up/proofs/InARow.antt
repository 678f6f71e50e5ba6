-- What is given in a row is counted.
use Rattle.std.proofs.Common.{ℕ, ◌≡◌, ◌+◌, ◌≤◌, true, List, [], ◌∷◌, arith, max, sum_by}
use Rattle.std.specs.Prelude.{Some, is_some}
use Rattle.std.proofs.lemmas.List.Sums.{sum_by-cons}
use Rattle.catching_up.specs.Giving.{counted_until}
use Rattle.catching_up.specs.Laws.{Given, GivenInARow, LittleIsGiven}

abbrev costs : List Given → ℕ
costs gs = sum_by (λ g. g.cost) gs

-- each counts behind the one before, and from its moment on
counts : (ahead until now cost next : ℕ) → counted_until ahead until now cost ≡ Some next → max until now + cost ≡ next
counts ahead until now cost next e = grind arith

in-a-row : (ahead until behind : ℕ) (gs : List Given) → GivenInARow ahead until gs behind → until + costs gs ≤ behind
in-a-row ahead until behind [] e = omega (arith, e)
in-a-row ahead until behind (g ∷ gs) row =
    let next : max until g.now + g.cost ≡ row.0 = counts ahead until g.now g.cost row.0 row.1 in
    let rest : row.0 + costs gs ≤ behind = in-a-row ahead row.0 behind gs row.2 in
    omega (arith, next, rest, sum_by-cons (λ (x : Given). x.cost) g gs)

-- where one more is given, it isn't counted too far ahead
not-ahead : (ahead until now cost : ℕ) → is_some (counted_until ahead until now cost) ≡ true → until ≤ now + ahead
not-ahead ahead until now cost e = grind arith

pub little-is-given : LittleIsGiven
little-is-given ahead until behind first last gs row more =
    let next : max until first.now + first.cost ≡ row.0 = counts ahead until first.now first.cost row.0 row.1 in
    let rest : row.0 + costs gs ≤ behind = in-a-row ahead row.0 behind gs row.2 in
    omega (arith, next, rest, not-ahead ahead behind last.now last.cost more, sum_by-cons (λ (x : Given). x.cost) first gs)
