-- What stands in a pool of pending requests.
use Rattle.ids.specs.declared.limits.TheConstants.{MOST_COMMANDS}
use Rattle.std.specs.Prelude.{ℕ, ◌+◌, ◌==◌, ◌&&◌, not, Bool, List, [], ◌∷◌, take, drop, map, filter, nat_le}
use Rattle.std.specs.Prelude.{Option, Some, None, if◌then◌else◌}
use Rattle.std.specs.List.{list_any}
use Rattle.definitions.specs.Bytes.{Bytes}
use Rattle.definitions.specs.Frames.{Command}
use Rattle.definitions.specs.States.{is_same_request}
use Rattle.definitions.specs.Histories.{History}

-- the command of these bytes, whose client, number and length of payload are known: its payload begins at
-- byte 12
abbrev pub command_at : (client seq payload_len : ℕ) → Bytes → Command
command_at client seq payload_len bytes = record {
  client = client;
  seq = seq;
  payload = take payload_len (drop 12 bytes);
  vector = drop (12 + payload_len) bytes;
}

-- whether a request has this client and number
abbrev pub is_of : ℕ → ℕ → Command → Bool
is_of client seq r = (client == r.client) && (seq == r.seq)

-- whether it is this client's, and its number is at most this one
abbrev pub is_up_to : ℕ → ℕ → Command → Bool
is_up_to client seq r = (client == r.client) && nat_le r.seq seq

-- whether one of these commands is its client's, and has its number or a greater one
abbrev pub is_overtaken : List Command → Command → Bool
is_overtaken executed r = list_any (λ k. is_up_to k.client k.seq r) executed

-- whether its client and number are among these
abbrev pub stands_among : List (ℕ × ℕ) → Command → Bool
stands_among on r = list_any (λ e. (e.0 == r.client) && (e.1 == r.seq)) on

-- what is to be added for a request: nothing where it is pending
abbrev pub planned_for : Command → List Command → Option Command
planned_for r rs = if list_any (is_same_request r) rs then None else Some r

-- the first ones whose clients and numbers are not among these, as many as a block may have
abbrev pub first_beside : List (ℕ × ℕ) → List Command → List Command
first_beside on rs = take MOST_COMMANDS (filter (λ r. not (stands_among on r)) rs)

-- each under its client and number
abbrev pub keyed : List Command → List ((ℕ × ℕ) × Command)
keyed rs = map (λ r. ((r.client, r.seq), r)) rs

-- what is left after executed commands, newest first
unfoldable pub left_after : History → List Command → List Command
left_after [] rs = rs
left_after (e ∷ earlier) rs = filter (λ r. not (is_up_to e.client e.seq r)) (left_after earlier rs)
