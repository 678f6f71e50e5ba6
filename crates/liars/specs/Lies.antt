-- What a lying replica sends.
use Rattle.std.specs.Prelude.{◌≡◌, ℕ, ◌+◌, ◌-◌, ◌*◌, ◌/◌, ◌%◌, ◌^◌, ◌==◌, min, List, [], ◌∷◌, map, replicate}
use Rattle.std.specs.Prelude.{◌++◌, take, zero, suc, Option, None, Some, nat_lt, if◌then◌else◌}
use Rattle.std.specs.List.{flat_map, range_with_len}
use Rattle.ids.specs.declared.kind.Kind.TheVariants as kind
use Rattle.ids.specs.Sizes.{Sizes, replicas}
use Rattle.ids.specs.declared.limits.TheConstants.{MOST_OF_HEIGHT}
use Rattle.definitions.specs.Bytes.{Bytes}
use Rattle.definitions.specs.Keyrings.{Keys, keyring_of, tag_for, vector_for}
use Rattle.definitions.specs.Checks.{identity_of}
use Rattle.definitions.specs.Digests.{digest}
use Rattle.definitions.specs.Frames.{Command, Core, Vote, Certificate, Frame, proposal, vote, reply, request, block}
use Rattle.definitions.specs.Frames.{proposal_content, block_content, spelling}
use Rattle.definitions.specs.Tags.{tag_len, tag_of}
use Rattle.definitions.specs.FrameLimits.{IsReadAs}
use Rattle.definitions.specs.Replies.{reply_text, exists}
use Rattle.definitions.specs.Histories.{Answer}
use Rattle.definitions.specs.Sendings.{To, to_all, to_party, reply_to}
use Rattle.signed_frames.specs.Outs.{SentBytes}
use Rattle.liars.specs.declared.climb.TheConstants.{CLIMB}
use Rattle.liars.specs.declared.half.TheConstants.{LATE, SOON}
use Rattle.liars.specs.declared.plain.TheConstants.{REPEATS}
use Rattle.liars.specs.declared.plain.Lie.{Lie}
use Rattle.liars.specs.declared.plain.Lie.TheVariants.{Mute, TwoFaced, BadReply, Crowder, Flooder}
use Rattle.liars.specs.declared.plain.Lie.TheVariants.{HalfVoter, LateHalfVoter, HalfVotes, Climber, Spoiler}
use Rattle.liars.specs.declared.plain.Lie.TheVariants.{WrongAnswers, OneLeftOut, WrongRecords, FalseDoubts}

-- the proposal of a block that has no commands, with a replica's tags
abbrev pub empty_proposal : Keys → ℕ → Core → Certificate → Frame
empty_proposal ring view core q =
    let empty = record core { commands = [] } in
    proposal view empty q
    (vector_for ring.sizes (keyring_of ring) kind.Proposal (proposal_content view empty q))

-- a proposal for replicas of even number, and another for the others
abbrev pub faces : Bytes → Bytes → ℕ → SentBytes
faces even odd r = (to_party r, kind.Proposal, if r % 2 == 0 then even else odd)

-- what a two-faced replica sends in place of a frame: to replicas of odd number, in place of a proposal, one
-- that has no commands
abbrev pub two_faced : Keys → SentBytes → Option Frame → List SentBytes
two_faced ring sent (Some (proposal view core q vector)) =
    map (faces sent.2 (spelling (empty_proposal ring view core q))) (range_with_len 0 (replicas ring.sizes))
two_faced ring sent read = sent ∷ []

-- what a replica of bad replies sends in place of a frame: in place of a reply, the same with the text
-- `EXISTS`
abbrev pub bad_reply : Keys → SentBytes → Option Frame → List SentBytes
bad_reply ring sent (Some (reply replica client seq place text tag)) =
    let told : Answer = record { client = client; seq = seq; place = place; text = reply_text exists } in
    (sent.0, kind.Reply, spelling (reply_to (identity_of ring) told).1) ∷ []
bad_reply ring sent read = sent ∷ []

-- the command of this number of client 0, with tags that verify for nobody
abbrev pub untagged : Sizes → ℕ → Command
untagged sizes number =
    record { client = 0; seq = number + 1; payload = []; vector = replicate (tag_len * replicas sizes) 0 }

-- The block of this number on the one of a core: it justifies the same block, and has one such command.
abbrev pub crowding : Sizes → Core → ℕ → Core
crowding sizes core number = record {
  parent = digest core;
  height = min (core.height + 1) (2 ^ 64 - 1);
  justify_height = core.justify_height;
  commands = untagged sizes number ∷ [];
}

-- the frame that brings it to a replica
abbrev pub crowding_frame : Keys → Core → Certificate → (replica number : ℕ) → Frame
crowding_frame ring core q replica number =
    let own = crowding ring.sizes core number in
    block ring.party own q (tag_for (keyring_of ring) kind.Block replica (block_content ring.party own q))

-- what stands at a place of a crowd of blocks, each of which goes to all replicas
abbrev pub crowd_to : Keys → Core → Certificate → ℕ → SentBytes
crowd_to ring core q place =
    let n = replicas ring.sizes in
    (to_party (place % n), kind.Block, spelling (crowding_frame ring core q (place % n) (place / n)))

-- what a crowder sends in place of a frame: behind a proposal, as many blocks on its block as a tree takes of
-- a height, to all replicas
abbrev pub crowded : Keys → SentBytes → Option Frame → List SentBytes
crowded ring sent (Some (proposal view core q vector)) =
    sent ∷ map (crowd_to ring core q) (range_with_len 0 (MOST_OF_HEIGHT * replicas ring.sizes))
crowded ring sent read = sent ∷ []

-- what a flooder sends in place of a frame: the frame, and the same so many times more, to all replicas
abbrev pub flooded : SentBytes → List SentBytes
flooded sent = sent ∷ replicate REPEATS (to_all, sent.1, sent.2)

-- a vector that has a tag for one replica, and zero bytes for the others
abbrev pub lone : Sizes → ℕ → Bytes → Bytes
lone sizes r tag =
    replicate (tag_len * r) 0 ++ tag ++ replicate (tag_len * (replicas sizes - r - 1)) 0

-- the tags of a vote of which one receiver's alone is right
abbrev pub half_vector : Keys → Bytes → ℕ → Bytes
half_vector ring d r = lone ring.sizes r (tag_for (keyring_of ring) kind.Vote r d)

-- a vote, which has such tags where it is the own one
abbrev pub halved_vote : Keys → Bytes → ℕ → Vote → Vote
halved_vote ring d r v =
    record { voter = v.voter; vector = if v.voter == ring.party then half_vector ring d r else v.vector }

-- a certificate that is right for one receiver, where the own vote is needed
abbrev pub halved : Keys → ℕ → Certificate → Certificate
halved ring r q = record { digest = q.digest; votes = map (halved_vote ring q.digest r) q.votes }

-- a proposal with a certificate that is right for one receiver
abbrev pub half_proposal : Keys → ℕ → Core → Certificate → ℕ → Frame
half_proposal ring view core q r = proposal view core (halved ring r q)
    (vector_for ring.sizes (keyring_of ring) kind.Proposal (proposal_content view core (halved ring r q)))

-- to each receiver its own
abbrev pub half_proposal_to : Keys → ℕ → Core → Certificate → ℕ → SentBytes
half_proposal_to ring view core q r = (to_party r, kind.Proposal, spelling (half_proposal ring view core q r))

-- what a leader of half certificates sends in place of a frame: such proposals up to a height, replies, and nothing else
abbrev pub half_led : ℕ → Keys → SentBytes → Option Frame → List SentBytes
half_led most ring sent (Some (proposal view core q vector)) =
    if nat_lt most core.height then []
    else map (half_proposal_to ring view core q) (range_with_len 0 (replicas ring.sizes))
half_led most ring sent (Some (reply replica client seq place text tag)) = sent ∷ []
half_led most ring sent read = []

-- the replica to which a frame goes, if it goes to one
abbrev pub replica_in : Sizes → To → Option ℕ
replica_in sizes (to_party r) = if nat_lt r (replicas sizes) then Some r else None
replica_in sizes to_all = None

-- the own vote for a receiver alone; what goes to no one replica as it is
abbrev pub half_vote : Keys → SentBytes → Bytes → Option ℕ → SentBytes
half_vote ring sent d (Some r) = (
  to_party r,
  kind.Vote,
  spelling (vote d (record { voter = ring.party; vector = half_vector ring d r })),
)
half_vote ring sent d None = sent

-- what a voter of half votes sends in place of a frame: no proposals, and such votes
abbrev pub half_voted : Keys → SentBytes → Option Frame → List SentBytes
half_voted ring sent (Some (proposal view core q vector)) = []
half_voted ring sent (Some (vote d v)) = half_vote ring sent d (replica_in ring.sizes sent.0) ∷ []
half_voted ring sent read = sent ∷ []

-- the tags of a vote, with zero bytes for the last replica
abbrev pub but_last : Sizes → Bytes → Bytes
but_last sizes tags = take (tag_len * (replicas sizes - 1)) tags ++ replicate tag_len 0

-- what a voter that leaves out the last replica sends in place of a frame: no proposals, and such votes
abbrev pub leaving_out : Keys → SentBytes → Option Frame → List SentBytes
leaving_out ring sent (Some (proposal view core q vector)) = []
leaving_out ring sent (Some (vote d v)) =
    (sent.0, kind.Vote, spelling (vote d (record v { vector = but_last ring.sizes v.vector }))) ∷ []
leaving_out ring sent read = sent ∷ []

-- the block of this number of a chain of empty ones, the first of which stands in place of a block
unfoldable pub climbing : Core → ℕ → Core
climbing core zero = record {
  parent = core.parent;
  height = core.height;
  justify_height = core.justify_height;
  commands = [];
}
climbing core (suc number) = record {
  parent = digest (climbing core number);
  height = min ((climbing core number).height + 1) (2 ^ 64 - 1);
  justify_height = core.justify_height;
  commands = [];
}

-- its proposal, to all
abbrev pub climb_to_all : Keys → ℕ → Core → Certificate → ℕ → SentBytes
climb_to_all ring view core q number =
    let own = climbing core number in (
      to_all,
      kind.Proposal,
      spelling (proposal view own q
          (vector_for ring.sizes (keyring_of ring) kind.Proposal (proposal_content view own q))),
    )

-- what a climber sends in place of a frame: in place of a proposal on the block that it justifies a chain, and nothing
-- else
abbrev pub climbed : Keys → SentBytes → Option Frame → List SentBytes
climbed ring sent (Some (proposal view core q vector)) =
    if core.height == core.justify_height + 1 then map (climb_to_all ring view core q) (range_with_len 0 CLIMB)
    else []
climbed ring sent read = []

-- a command of whose tags one replica's alone is left
abbrev pub lone_request : Sizes → Command → ℕ → Command
lone_request sizes c r = record c { vector = lone sizes r (tag_of c.vector r) }

-- to that replica, as a request
abbrev pub spoilt_request_to : Sizes → Command → ℕ → SentBytes
spoilt_request_to sizes c r = (to_party r, kind.Request, spelling (request (lone_request sizes c r)))

-- of each command of a block, to each replica its own
abbrev pub spoilt_requests : Sizes → Core → List SentBytes
spoilt_requests sizes core =
    flat_map (λ c. map (spoilt_request_to sizes c) (range_with_len 0 (replicas sizes))) core.commands

-- what a spoiler sends in place of a frame: such requests before a proposal
abbrev pub spoilt : Keys → SentBytes → Option Frame → List SentBytes
spoilt ring sent (Some (proposal view core q vector)) = spoilt_requests ring.sizes core ++ sent ∷ []
spoilt ring sent read = sent ∷ []

-- an empty block on the one of a core
abbrev pub other_core : Core → Core
other_core core = record {
  parent = digest core;
  height = core.height;
  justify_height = core.justify_height;
  commands = [];
}

-- a certificate without votes, for the block of a core
abbrev pub own_certificate : Core → Certificate
own_certificate core = record { digest = digest core; votes = [] }

-- a Block frame for a replica, with the right tag
abbrev pub answer_to : Keys → ℕ → Core → Certificate → SentBytes
answer_to ring r core q = (
  to_party r,
  kind.Block,
  spelling (block ring.party core q (tag_for (keyring_of ring) kind.Block r (block_content ring.party core q))),
)

-- in place of an answer to a replica one with another block, and one whose certificate isn't for the block that its
-- block justifies
abbrev pub wrong_answers : Keys → SentBytes → Core → Certificate → Option ℕ → List SentBytes
wrong_answers ring sent core q (Some r) =
    answer_to ring r (other_core core) q ∷ answer_to ring r core (own_certificate core) ∷ []
wrong_answers ring sent core q None = sent ∷ []

-- what a replica of wrong answers sends in place of a frame
abbrev pub wrongly_answered : Keys → SentBytes → Option Frame → List SentBytes
wrongly_answered ring sent (Some (block sender core q tag)) =
    wrong_answers ring sent core q (replica_in ring.sizes sent.0)
wrongly_answered ring sent read = sent ∷ []

-- it is sent in place of a frame, by what the frame's bytes are read as
abbrev pub IsTold : (SentBytes → Option Frame → List SentBytes) → Sizes → SentBytes → List SentBytes → Type 0
IsTold told sizes sent out = (read : Option Frame) × IsReadAs sizes sent.2 read × (out ≡ told sent read)

-- what a liar that remembers nothing sends in place of a frame
abbrev pub IsLie : Keys → Lie → SentBytes → List SentBytes → Type 0
IsLie ring Mute sent out = out ≡ []
IsLie ring TwoFaced sent out = IsTold (two_faced ring) ring.sizes sent out
IsLie ring BadReply sent out = IsTold (bad_reply ring) ring.sizes sent out
IsLie ring Crowder sent out = IsTold (crowded ring) ring.sizes sent out
IsLie ring Flooder sent out = out ≡ flooded sent
IsLie ring HalfVoter sent out = IsTold (half_led SOON ring) ring.sizes sent out
IsLie ring LateHalfVoter sent out = IsTold (half_led LATE ring) ring.sizes sent out
IsLie ring HalfVotes sent out = IsTold (half_voted ring) ring.sizes sent out
IsLie ring Climber sent out = IsTold (climbed ring) ring.sizes sent out
IsLie ring Spoiler sent out = IsTold (spoilt ring) ring.sizes sent out
IsLie ring WrongAnswers sent out = IsTold (wrongly_answered ring) ring.sizes sent out
IsLie ring OneLeftOut sent out = IsTold (leaving_out ring) ring.sizes sent out
IsLie ring WrongRecords sent out = out ≡ sent ∷ []
IsLie ring FalseDoubts sent out = out ≡ sent ∷ []
