-- A replica that pruned its tree: seven blocks in direct succession, of which the fourth was executed last.
use Rattle.std.specs.Prelude.{ℕ, zero, suc, ◌≡◌, [], ◌∷◌, map, length, Some, None}
use Rattle.ids.specs.declared.fault.Fault.TheVariants as fault
use Rattle.definitions.specs.Branches.{Branch}
use Rattle.definitions.specs.Digests.{digest_of}
use Rattle.definitions.specs.Chronicles.{Chronicle, noted, pruned, executed, horizon, window}
use Rattle.definitions.specs.Rulings.{vote_in, fetch_in}
use Rattle.definitions.specs.Replicas.{Reaction, fails, asks_for, sends_out, ample, step}
use Rattle.worked_examples.specs.Chains.{on, took}
use Rattle.worked_examples.specs.Replicas.{self, stands_at, proposes, answer_to}

-- so many empty blocks, each of which justifies the one below it
abbrev pub chain : ℕ → Branch
chain zero = []
chain (suc n) = on n (chain n)

-- taken in this order
abbrev pub taken : ℕ → Chronicle
taken zero = []
taken (suc n) = took (chain (suc n)) ∷ taken n

-- seven of them, and a pruning that goes too high
abbrev pub low : Chronicle
low = noted (pruned 9) ∷ taken 7

-- the horizon is the last executed block
abbrev pub HorizonIsExecuted : Type 0
HorizonIsExecuted = (length (executed low) ≡ 4) × (horizon low ≡ 4)

-- what stands from two below it on, and genesis
abbrev pub TwoBelowStand : Type 0
TwoBelowStand = map length (window low) ≡ 7 ∷ 6 ∷ 5 ∷ 4 ∷ 3 ∷ 2 ∷ 0 ∷ []

-- the next block is taken, and one that justifies the horizon is still known
abbrev pub GoesOn : Type 0
GoesOn = (answer_to (proposes (chain 8)) low ≡ None) × (answer_to (proposes (chain 5)) low ≡ None)

-- a block that justifies one below the horizon is refused: the first one, which stands no more, the fourth,
-- which does, and a new one
abbrev pub RefusesTheLow : Type 0
RefusesTheLow =
    (answer_to (proposes (chain 1)) low ≡ Some fault.Pruned)
    × (answer_to (proposes (chain 4)) low ≡ Some fault.Pruned)
    × (answer_to (proposes (on 3 (chain 7))) low ≡ Some fault.Pruned)

-- before the pruning none of them was
abbrev pub TookTheLow : Type 0
TookTheLow =
    (answer_to (proposes (chain 1)) (taken 7) ≡ None) × (answer_to (proposes (chain 4)) (taken 7) ≡ None)
    × (answer_to (proposes (on 3 (chain 7))) (taken 7) ≡ None)

-- how many frames go out
abbrev pub sent_by : Reaction → ℕ
sent_by (sends_out out) = length out
sent_by (fails n) = 0
sent_by (asks_for sender block) = 0

-- a question for a pruned block is answered by nothing, and a vote for one by a question
abbrev pub PrunedIsUnknown : Type 0
PrunedIsUnknown =
    (sent_by (step self ample (fetch_in 2 (digest_of (chain 1))) (stands_at low)).1 ≡ 0)
    × (sent_by (step self ample (fetch_in 2 (digest_of (chain 5))) (stands_at low)).1 ≡ 1)
    × (answer_to (vote_in (digest_of (chain 1)) (record { voter = 2; vector = [] })) low
    ≡ Some fault.UnknownParent)
