-- What a leader proposes of the requests that wait.
use Rattle.std.specs.Prelude.{ℕ, ◌-◌, List, [], length, map, Some, None, if◌then◌else◌}
use Rattle.definitions.specs.Frames.{Command}
use Rattle.definitions.specs.Histories.{History}
use Rattle.definitions.specs.Trees.{blocks, find_in}
use Rattle.block_tree.specs.Finding.{extends_in}
use Rattle.mempool.specs.Pool.{first_beside}
use Rattle.replica.specs.Execution.{history_above}
use Rattle.replica.specs.Kept.{Variables, StateParts, tree_of}

-- the clients and numbers of commands
abbrev pub key_of : Command → ℕ × ℕ
key_of r = (r.client, r.seq)

abbrev pub keys_of : History → List (ℕ × ℕ)
keys_of h = map (λ e. (e.client, e.seq)) h

-- the height above which requests that wait may stand on the leaf's branch: nothing that was executed waits
abbrev pub executed_below : Variables → ℕ
executed_below v =
    if extends_in v.leaf.digest v.rules.executed.digest (blocks v.stored) then v.rules.executed.height
    else v.horizon

-- the height of the tree's block that has the leaf's digest
abbrev pub known_height : Variables → ℕ
known_height v = elim (find_in v.leaf.digest (blocks v.stored)) [ Some b ↦ length b | None ↦ 0 ]

-- what stands there of them
abbrev pub proposed_above : Variables → List (ℕ × ℕ)
proposed_above v =
    keys_of (history_above v.leaf.digest (tree_of v) (executed_below v)
    (known_height v - executed_below v) [])

-- the first requests that wait and don't stand there
abbrev pub picked : StateParts → List Command
picked s = first_beside (proposed_above s.variables) s.pending
