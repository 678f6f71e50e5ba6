-- What is executed between two blocks of a branch, and the replies to it.
use Rattle.ids.specs.declared.limits.TheConstants.{BELOW_HORIZON, MOST_TEXT}
use Rattle.std.specs.Prelude.{ℕ, zero, suc, ◌+◌, ◌-◌, ◌<◌, ◌≤◌, ◌≡◌, ◌&&◌, ◌++◌, Bool, List, [], ◌∷◌, map}
use Rattle.std.specs.Prelude.{reverse, take, length, if◌then◌else◌, option_to_list, nat_lt, nat_le, Option}
use Rattle.std.specs.Prelude.{Some, None, option_map, ◌||◌, ◌==◌}
use Rattle.definitions.specs.Branches.{Branch}
use Rattle.std.specs.Option.{option_and_then}
use Rattle.ids.specs.Sizes.{Sizes}
use Rattle.definitions.specs.Bytes.{Bytes}
use Rattle.definitions.specs.Frames.{Command}
use Rattle.definitions.specs.Digests.{digest_of, core_of}
use Rattle.definitions.specs.Trees.{Stored, TreeState, blocks, find_in}
use Rattle.definitions.specs.Keyrings.{Keys}
use Rattle.definitions.specs.Checks.{identity_of}
use Rattle.definitions.specs.Histories.{History, Answer, entry_of}
use Rattle.definitions.specs.Sendings.{reply_to}
use Rattle.block_tree.specs.Finding.{stored_in, at_height}
use Rattle.mempool.specs.Pool.{left_after}
use Rattle.executor.specs.State.{with_commands}
use Rattle.signed_frames.specs.Outs.{SentBytes}
use Rattle.replica.specs.Steps.{bytes_of}

-- the block of this height on a branch, where it stands in the tree
abbrev pub seen_at : (horizon height : ℕ) → Branch → Option Branch
seen_at horizon height b =
    if nat_le horizon (height + BELOW_HORIZON) || (height == 0) then at_height height b else None

-- the stored block of this height on the branch of a block
abbrev pub block_at : Bytes → ℕ → TreeState → Option Stored
block_at tip height t =
    option_and_then (λ d. stored_in d t.stored)
    (option_map digest_of (option_and_then (seen_at t.horizon height) (find_in tip (blocks t.stored))))

-- its commands; none where there is no such block
abbrev pub commands_at : Bytes → ℕ → TreeState → List Command
commands_at tip height t =
    elim (block_at tip height t) [ Some s ↦ (core_of s.branch).commands | None ↦ [] ]

-- the history after so many blocks above a height
unfoldable pub history_above : Bytes → TreeState → (from count : ℕ) → History → History
history_above tip t from zero h = h
history_above tip t from (suc n) h =
    with_commands (commands_at tip (suc (from + n)) t) (history_above tip t from n h)

-- what executing changes: the history, and the commands that wait
pub record Work : Type 0 where
  pub history : History
  pub waits : List Command

abbrev pub work : History → List Command → Work
work h waits = record { history = h; waits = waits }

-- once these commands are executed
abbrev pub after_commands : List Command → Work → Work
after_commands cs w = work (with_commands cs w.history) (left_after (reverse (map entry_of cs)) w.waits)

-- the blocks of a branch above one height, up to another
pub record Stretch : Type 0 where
  pub tip : Bytes
  pub tree : TreeState
  pub from : ℕ
  pub to : ℕ

abbrev pub stretch : Bytes → TreeState → (from to : ℕ) → Stretch
stretch tip t from to = record { tip = tip; tree = t; from = from; to = to }

-- once so many of them are executed, and once all are
abbrev pub after_blocks : Stretch → (count : ℕ) → Work → Work
after_blocks s n w = work (history_above s.tip s.tree s.from n w.history)
    (left_after (history_above s.tip s.tree s.from n []) w.waits)

abbrev pub after_all : Stretch → Work → Work
after_all s w = after_blocks s (s.to - s.from) w

-- Of the commands of a block some were executed, perhaps all. The requests that wait changed only if all
-- were.
pub record IsCutShortIn (commands : List Command) (old new : Work) : Type 0 where
  pub count : ℕ
  pub some : 1 ≤ length commands
  pub most : count ≤ length commands
  pub history : new.history ≡ with_commands (take count commands) old.history
  pub in_part : count < length commands → new.waits ≡ old.waits
  pub whole : count ≡ length commands → new ≡ after_commands commands old

-- some blocks of a stretch were executed, and the next one was cut short
pub record IsCutShort (s : Stretch) (old new : Work) : Type 0 where
  pub blocks : ℕ
  pub below : s.from + blocks < s.to
  pub next : IsCutShortIn (commands_at s.tip (suc (s.from + blocks)) s.tree) (after_blocks s blocks old) new

-- an answer that a frame of these sizes can carry: those to executed commands are
abbrev pub is_sendable : Sizes → Answer → Bool
is_sendable sizes a = nat_lt a.client sizes.clients && nat_le (length a.text) MOST_TEXT

-- the reply to an executed command, and those to all of them
abbrev pub told_one : Keys → Answer → Option SentBytes
told_one keys a = if is_sendable keys.sizes a then Some (bytes_of (reply_to (identity_of keys) a)) else None

unfoldable pub told : Keys → List Answer → List SentBytes
told keys [] = []
told keys (a ∷ others) = option_to_list (told_one keys a) ++ told keys others
