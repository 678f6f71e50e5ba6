-- What an executor keeps beside its history.
use Rattle.std.specs.Prelude.{ℕ, ◌≡◌, ◌++◌, ◌-◌, List, Option, Some, None, map, reverse, take, length}
use Rattle.std.specs.Prelude.{if◌then◌else◌}
use Rattle.definitions.specs.Frames.{Command}
use Rattle.definitions.specs.Cache.{Cache}
use Rattle.definitions.specs.Histories.{Entry, entry_of, History, Answer, is_fresh, answer_in, answers}
use Rattle.definitions.specs.Histories.{last_answer, cache_after}
use Rattle.executor.specs.Rows.{row}

-- what was executed, on a cache with room for so many keys
pub record Execution : Type 0 where
  pub most_keys : ℕ
  pub history : History

-- the cache and the rows are those of the history
pub record IsStateOf (x : Execution) (cache : Cache) (rows : List (Option Answer)) : Type 0 where
  pub cache_is : cache ≡ cache_after x.most_keys x.history
  pub rows_are : (client : ℕ) → row rows client ≡ last_answer x.most_keys client x.history

-- the answer to an entry that comes after these, where it is fresh
abbrev pub answer_at : ℕ → Entry → History → Option Answer
answer_at most_keys e h = if is_fresh e h then Some (answer_in most_keys e h) else None

-- the history with these commands executed, oldest first
abbrev pub with_commands : List Command → History → History
with_commands cs h = reverse (map entry_of cs) ++ h

-- the answers in a history that weren't in an older one, by place
abbrev pub new_answers : ℕ → History → History → List Answer
new_answers most_keys old new =
    let told = answers most_keys new in reverse (take (length told - length (answers most_keys old)) told)
