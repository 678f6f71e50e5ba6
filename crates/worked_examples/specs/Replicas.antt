-- One replica, step by step: it takes a request and four proposals, and executes the first block.
use Rattle.std.specs.Prelude.{ℕ, ◌≡◌, ◌++◌, List, [], ◌∷◌, map, length, Option, Some, None, codes}
use Rattle.ids.specs.declared.fault.Fault.{Fault}
use Rattle.ids.specs.declared.fault.Fault.TheVariants as fault
use Rattle.ids.specs.declared.kind.Kind.TheVariants as kind
use Rattle.ids.specs.Sizes.{client_party}
use Rattle.definitions.specs.Bytes.{Bytes}
use Rattle.definitions.specs.Requests.{crlf}
use Rattle.definitions.specs.Frames.{Command, Core, Certificate, command_content}
use Rattle.definitions.specs.Keyrings.{vector_for}
use Rattle.definitions.specs.Branches.{Branch, just1}
use Rattle.definitions.specs.Digests.{digest_of, core_of}
use Rattle.definitions.specs.Histories.{answers}
use Rattle.definitions.specs.Chronicles.{Chronicle, voted_blocks, tree, lock, executed, history}
use Rattle.definitions.specs.Checks.{Identity, findings}
use Rattle.definitions.specs.States.{pending, qc_high}
use Rattle.definitions.specs.Rulings.{Input, proposal_in, request_in}
use Rattle.definitions.specs.Replicas.{Replica, Reaction, fails, asks_for, sends_out, running, ample, step}
use Rattle.worked_examples.specs.Runs.{sizes, ring}

-- replica 1 of four
abbrev pub self : Identity
self = record { sizes = sizes; ring = ring 1 }

-- a replica that has made these steps
abbrev pub stands_at : Chronicle → Replica
stands_at c = record { chronicle = c; standing = running }

-- what a replica comes to by these inputs, with ample memory
abbrev pub after_inputs : List Input → Replica → Replica
after_inputs [] r = r
after_inputs (input ∷ inputs) r = after_inputs inputs (step self ample input r).0

-- client 0's first request: set a 0 0 1, with data x
abbrev pub payload : Bytes
payload = codes "set a 0 0 1" ++ crlf ++ codes "x" ++ crlf

-- the command that carries it, with a tag for each replica
abbrev pub command : Command
command = record {
  client = 0;
  seq = 1;
  payload = payload;
  vector = vector_for sizes (ring (client_party 0)) kind.Request (command_content 0 1 payload);
}

-- a block with it, and three empty ones above, each of which justifies the one below it
abbrev pub first : Branch
first = record { commands = command ∷ []; justify = 0 } ∷ []

-- the block above it
abbrev pub second : Branch
second = record { commands = []; justify = 1 } ∷ first

-- the block above that one
abbrev pub third : Branch
third = record { commands = []; justify = 2 } ∷ second

-- the highest one
abbrev pub fourth : Branch
fourth = record { commands = []; justify = 3 } ∷ third

-- a certificate of the block that b justifies; its votes were tested before
abbrev pub certificate_for : Branch → Certificate
certificate_for b = record { digest = digest_of (just1 b); votes = [] }

-- the proposal of a core with a certificate, as the replica found it
abbrev pub proposal_of : ℕ → Core → Certificate → Input
proposal_of view core q = proposal_in view core q (findings self core q)

-- a block's proposal in view 0
abbrev pub proposes : Branch → Input
proposes b = proposal_of 0 (core_of b) (certificate_for b)

-- the replica after the request and the first three proposals, and after the fourth
abbrev pub before : Chronicle
before = (after_inputs (request_in command ∷ proposes first ∷ proposes second ∷ proposes third ∷ [])
    (stands_at [])).chronicle

-- the same after the fourth proposal
abbrev pub last : Chronicle
last = (step self ample (proposes fourth) (stands_at before)).0.chronicle

-- it voted for all of them, and its lock is the second
abbrev pub VotesAndLocks : Type 0
VotesAndLocks =
    (map length (voted_blocks last) ≡ 4 ∷ 3 ∷ 2 ∷ 1 ∷ []) × (length (lock last) ≡ 2)
    × (length (qc_high sizes last).block ≡ 3)

-- until the fourth it executed nothing, and the request waits
abbrev pub Waits : Type 0
Waits = (length (executed before) ≡ 0) × (length (history before) ≡ 0) × (length (pending before) ≡ 1)

-- the fourth decides the first: the request is executed, and waits no more
abbrev pub Executes : Type 0
Executes = (length (executed last) ≡ 1) × (length (pending last) ≡ 0)
    × (answers sizes.most_keys (history last)
    ≡ record { client = 0; seq = 1; place = 1; text = codes "STORED" ++ crlf } ∷ [])

-- ---- what is refused

-- the refusal that an input comes to, and none where it stands
abbrev pub refusal_of : Reaction → Option Fault
refusal_of (sends_out out) = None
refusal_of (fails n) = Some n
refusal_of (asks_for sender block) = Some fault.UnknownParent

-- the refusal of a replica with this chronicle
abbrev pub answer_to : Input → Chronicle → Option Fault
answer_to input c = refusal_of (step self ample input (stands_at c)).1

-- a block whose parent isn't known
abbrev pub Orphan : Type 0
Orphan = answer_to (proposes second) [] ≡ Some fault.UnknownParent

-- a block of another height than its parent's and one
abbrev pub Gap : Type 0
Gap =
    answer_to (proposal_of 0 (record (core_of first) { height = 2 }) (certificate_for first)) []
    ≡ Some fault.BadHeight

-- a block with the certificate of another block than the one that it justifies
abbrev pub OtherJustified : Type 0
OtherJustified =
    answer_to (proposal_of 0 (core_of first) (record { digest = digest_of first; votes = [] })) []
    ≡ Some fault.WrongJustify

-- a known block is refused for its certificate alone
abbrev pub KnownBlock : Type 0
KnownBlock = (answer_to (proposes first) before ≡ None)
    × (answer_to (proposal_of 0 (core_of first) (certificate_for second)) before ≡ Some fault.WrongJustify)

-- a proposal of another view gets no vote, and its block is taken
abbrev pub OtherView : Type 0
OtherView =
    let c =
    (step self ample (proposal_of 4 (core_of first) (certificate_for first)) (stands_at [])).0.chronicle in
    (length (voted_blocks c) ≡ 0) × (length (tree c) ≡ 2)
