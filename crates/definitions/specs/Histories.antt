-- Histories of executed commands, newest first, and the replies of the one sequential cache. Freshness is
-- this project's own rule for requests that come again.
use Rattle.std.specs.Prelude.{ℕ, suc, ◌==◌, ◌||◌, not, Bool, List, [], ◌∷◌, ◌++◌, map, filter, reverse}
use Rattle.std.specs.Prelude.{length, if◌then◌else◌, nat_lt, Option, Some, None, find}
use Rattle.std.specs.List.{list_all}
use Rattle.definitions.specs.Lists.{greatest}
use Rattle.definitions.specs.Frames.{Command}
use Rattle.definitions.specs.Branches.{Branch}
use Rattle.definitions.specs.Bytes.{Bytes}
use Rattle.definitions.specs.Replies.{reply_text}
use Rattle.definitions.specs.Cache.{Cache, empty_cache, apply_payload}

-- an executed command
pub record Entry : Type 0 where
  pub client : ℕ
  pub seq : ℕ
  pub payload : Bytes

-- executed commands
abbrev pub History : Type 0
History = List Entry

-- a command without its tags
abbrev pub entry_of : Command → Entry
entry_of c = record { client = c.client; seq = c.seq; payload = c.payload }

-- the commands along a branch
unfoldable pub history_of : Branch → History
history_of [] = []
history_of (b ∷ parent) = reverse (map entry_of b.commands) ++ history_of parent

-- its seq exceeds all earlier ones of its client
unfoldable pub is_fresh : Entry → History → Bool
is_fresh e earlier = list_all (λ x. not (x.client == e.client) || nat_lt x.seq e.seq) earlier

-- the greatest seq of a client; 0 where it has none
unfoldable pub last_seq : ℕ → History → ℕ
last_seq client h = greatest (map (λ e. e.seq) (filter (λ e. e.client == client) h))

-- ---- the cache

-- the cache after the fresh entries, with room for so many keys
unfoldable pub cache_after : ℕ → History → Cache
cache_after most_keys [] = empty_cache most_keys
cache_after most_keys (e ∷ earlier) =
    if is_fresh e earlier
    then (apply_payload (cache_after most_keys earlier) e.payload).0
    else cache_after most_keys earlier

-- the reply to an entry, and its place
pub record Answer : Type 0 where
  pub client : ℕ
  pub seq : ℕ
  pub place : ℕ
  pub text : Bytes

-- the answer to an entry that is fresh after these, whose place is counted from 1
abbrev pub answer_in : ℕ → Entry → History → Answer
answer_in most_keys e earlier = record {
  client = e.client;
  seq = e.seq;
  place = suc (length earlier);
  text = reply_text (apply_payload (cache_after most_keys earlier) e.payload).1;
}

-- the answers to the fresh entries
unfoldable pub answers : ℕ → History → List Answer
answers most_keys [] = []
answers most_keys (e ∷ earlier) =
    if is_fresh e earlier
    then answer_in most_keys e earlier ∷ answers most_keys earlier
    else answers most_keys earlier

-- the answer to a client's last fresh entry
unfoldable pub last_answer : ℕ → ℕ → History → Option Answer
last_answer most_keys client h = find (λ a. a.client == client) (answers most_keys h)

-- an answer, where it has this number
abbrev pub if_numbered : ℕ → Option Answer → Option Answer
if_numbered seq None = None
if_numbered seq (Some a) = if a.seq == seq then Some a else None

-- the answer to a client's last fresh entry, where that has this number
unfoldable pub answer_to : ℕ → ℕ → ℕ → History → Option Answer
answer_to most_keys client seq h = if_numbered seq (last_answer most_keys client h)
