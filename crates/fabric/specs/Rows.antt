-- The rows of a replica's link: of each replica, of its clock, of clients, and of what each replica answers.
use Rattle.std.specs.Prelude.{ℕ, ◌+◌, Bool, false, Option, Some, None}
use Rattle.ids.specs.Sizes.{Sizes, replicas}
use Rattle.tuning.specs.declared.links.TheConstants.{CLIENT_ROWS}
use Rattle.fabric.specs.declared.rows.Row.{Row}
use Rattle.fabric.specs.declared.rows.Sender.{Sender}
use Rattle.fabric.specs.declared.rows.Sender.TheVariants.{Replica, Front}

-- the replica that a sender is, if it is one
abbrev pub replica_of : Sender → Option ℕ
replica_of (Replica number) = Some number
replica_of (Front number) = None

-- a row in which nothing is a request
abbrev plain : ℕ → Row
plain number = record { number = number; is_request = false }

-- how many there are
abbrev pub row_count : Sizes → ℕ
row_count sizes = replicas sizes + 1 + CLIENT_ROWS + replicas sizes

abbrev pub replica_row : ℕ → Row
replica_row from = plain from

abbrev pub clock_row : Sizes → Row
clock_row sizes = plain (replicas sizes)

abbrev pub answer_row : Sizes → ℕ → Row
answer_row sizes from = plain (replicas sizes + 1 + CLIENT_ROWS + from)
