-- The rows of a table of clients.
use Rattle.std.specs.Prelude.{ℕ, Bool, true, List, Option, Some, None, slice_index_or, nat_lt}
use Rattle.definitions.specs.Histories.{Answer}

-- what stands in a client's row
abbrev pub row : List (Option Answer) → ℕ → Option Answer
row rows client = slice_index_or rows client None

-- whether a number is greater than the answer's, or there is none
abbrev pub numbered_after : ℕ → Option Answer → Bool
numbered_after seq None = true
numbered_after seq (Some a) = nat_lt a.seq seq

-- the answer's number; 0 where there is none
abbrev pub number_in : Option Answer → ℕ
number_in None = 0
number_in (Some a) = a.seq
