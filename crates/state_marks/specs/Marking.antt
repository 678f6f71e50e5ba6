-- How a party begins behind its mark, and what it marks.
use Rattle.std.specs.Prelude.{ℕ, ◌+◌, ◌-◌, ◌^◌, ◌&&◌, Result, Ok, Err, min, max, nat_lt, if◌then◌else◌}
use Rattle.ids.specs.Sizes.{client_party}
use Rattle.state_marks.specs.declared.refusal.Refusal.{Refusal}
use Rattle.state_marks.specs.declared.refusal.Refusal.TheVariants.{HasSpoken}

-- the numbers of a running process: each client's session began behind one, and they may be given up to another
pub record Numbers : Type 0 where
  pub behind : ℕ
  pub marked : ℕ

-- a party begins behind its mark; but a replica that has spoken never begins again
abbrev pub begun : ℕ → ℕ → Result Numbers Refusal
begun party mark =
    if nat_lt party (client_party 0) && nat_lt 0 mark then Err HasSpoken
    else Ok (record { behind = mark; marked = mark })

-- the mark for a number and so many ahead: never a lower one, and none above 2^64 - 1
abbrev pub mark_for : Numbers → ℕ → ℕ → ℕ
mark_for n seq ahead = max n.marked (seq + min ahead (2 ^ 64 - 1 - seq))
