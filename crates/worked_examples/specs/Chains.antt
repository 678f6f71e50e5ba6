-- Locks and decisions of two chains of blocks.
use Rattle.std.specs.Prelude.{◌≡◌, ℕ, true, false, List, [], ◌∷◌, map, length}
use Rattle.definitions.specs.Branches.{Branch}
use Rattle.definitions.specs.Digests.{core_of}
use Rattle.definitions.specs.Chronicles.{Step, Step.took_block, Chronicle, lock, decided, executed}

-- an empty block that justifies the one of this height
abbrev pub on : ℕ → Branch → Branch
on justify parent = record { commands = []; justify = justify } ∷ parent

-- the step that takes a new block without a vote
abbrev pub took : Branch → Step
took b = took_block (record {
  branch = b;
  core = core_of b;
  certificate = record { digest = []; votes = [] };
  counted = [];
  senders = [];
  clear = true;
  new = true;
  voted = false;
})

-- what a chronicle is after each of its steps, the newest first
abbrev pub after_each : Chronicle → List Chronicle
after_each [] = []
after_each (s ∷ earlier) = (s ∷ earlier) ∷ after_each earlier

-- the heights of the lock and of the last executed block after each step, the newest first
abbrev pub lock_heights : Chronicle → List ℕ
lock_heights c = map (λ d. length (lock d)) (after_each c)

-- the same of the last executed block
abbrev pub executed_heights : Chronicle → List ℕ
executed_heights c = map (λ d. length (executed d)) (after_each c)

-- ---- a chain in which each block justifies the one below it

-- blocks of heights 1 to 3, with justify heights 0, 1, 2
abbrev pub first : Branch
first = on 0 []

-- its child
abbrev pub second : Branch
second = on 1 first

-- and its grandchild
abbrev pub third : Branch
third = on 2 second

-- heights 1 to 4 with justify heights 0, 1, 2, 3, taken in this order
abbrev pub straight : Chronicle
straight = took (on 3 third) ∷ took third ∷ took second ∷ took first ∷ []

-- the lock has height 0, 0, 1, 2 after each
abbrev pub StraightLocks : Type 0
StraightLocks = lock_heights straight ≡ 2 ∷ 1 ∷ 0 ∷ 0 ∷ []

-- the fourth decides height 1
abbrev pub StraightDecides : Type 0
StraightDecides = executed_heights straight ≡ 1 ∷ 0 ∷ 0 ∷ 0 ∷ []

-- ---- a chain with a block that passes over the one below it

-- heights 1 to 3 with justify heights 0, 1, 1
abbrev pub passing : Branch
passing = on 1 second

-- heights 1 to 5 with justify heights 0, 1, 1, 3, 4, taken in this order
abbrev pub bent : Chronicle
bent = took (on 4 (on 3 passing)) ∷ took (on 3 passing) ∷ took passing ∷ took second ∷ took first ∷ []

-- the lock has height 0, 0, 0, 1, 3 after each
abbrev pub BentLocks : Type 0
BentLocks = lock_heights bent ≡ 3 ∷ 1 ∷ 0 ∷ 0 ∷ 0 ∷ []

-- nothing but genesis is decided
abbrev pub BentDecidesNothing : Type 0
BentDecidesNothing = decided bent ≡ [] ∷ []
