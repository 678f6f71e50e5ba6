-- How each part of a frame is read, where there are n replicas and so many clients.
use Rattle.ids.specs.declared.limits.TheConstants.{MOST_COMMANDS, MOST_PAYLOAD, MOST_TEXT}
use Rattle.ids.specs.declared.limits.TheConstants.{MOST_FAULTS_OF_VERSION_ONE}
use Rattle.std.specs.Prelude.{ℕ, ◌*◌, Bool, true, List, length, drop, Option, Some, None, nat_lt, nat_le}
use Rattle.std.specs.Prelude.{◌==◌, ◌&&◌, ◌||◌, if◌then◌else◌}
use Rattle.std.specs.Option.{option_and_then}
use Rattle.std.specs.Int.{w8, w16, w32, w64}
use Rattle.ids.specs.Numbers.{kind_numbered}
use Rattle.ids.specs.Sizes.{Sizes, replicas, quorum}
use Rattle.ids.specs.declared.kind.Kind.{Kind}
use Rattle.ids.specs.declared.kind.Kind.TheVariants as kind
use Rattle.definitions.specs.Bytes.{Bytes}
use Rattle.definitions.specs.Frames.{Command, Core, Vote, Certificate, Frame, request, proposal, vote}
use Rattle.definitions.specs.Frames.{new_view, reply, fetch, block, is_marked}
use Rattle.frames_view.specs.Readings.{Reader, number, chunk, tested, both, made, sized, many, many_rising}

-- ---- fields

-- a digest, and a tag
abbrev pub digest_in : Reader Bytes
digest_in = chunk 32

-- the number of a replica or of a client, of which there are so many
unfoldable pub party_in : ℕ → Reader ℕ
party_in count = tested (λ v. nat_lt v count) (number w16)

-- a vector
unfoldable pub vector_in : ℕ → Reader Bytes
vector_in n = chunk (32 * n)

-- a number that counts from 1
unfoldable pub positive_in : Reader ℕ
positive_in = tested (λ v. nat_lt 0 v) (number w64)

-- a payload with its length
unfoldable pub payload_in : Reader Bytes
payload_in = sized w16 MOST_PAYLOAD

-- a reply's text with its length
unfoldable pub text_in : Reader Bytes
text_in = sized w32 MOST_TEXT

-- a height, and the height below it that is justified
unfoldable pub heights_in : Reader (ℕ × ℕ)
heights_in = tested (λ h. nat_lt h.1 h.0) (both (number w64) (number w64))

-- ---- parts

-- a vote
unfoldable pub vote_in : ℕ → Reader Vote
vote_in n = made (λ p. record { voter = p.0; vector = p.1 }) (both (party_in n) (vector_in n))

-- what a client's tags for a command speak of: the client, the number and the payload
unfoldable pub content_in : ℕ → Reader (ℕ × (ℕ × Bytes))
content_in clients = both (party_in clients) (both positive_in payload_in)

-- a command
unfoldable pub command_in : ℕ → ℕ → Reader Command
command_in n clients = made (λ p. record { client = p.0.0; seq = p.0.1.0; payload = p.0.1.1; vector = p.1 })
    (both (content_in clients) (vector_in n))

-- how many votes a certificate may have: none, or a quorum to all
abbrev pub is_count : Sizes → ℕ → Bool
is_count sizes count = (count == 0) || (nat_le (quorum sizes) count && nat_le count (replicas sizes))

-- the votes of a certificate, behind their number
unfoldable pub votes_in : Sizes → Reader (List Vote)
votes_in sizes bytes = option_and_then
    (λ count. many_rising (λ v. v.voter) (vote_in (replicas sizes)) count.0 count.1)
    (tested (is_count sizes) (number w8) bytes)

-- a certificate
unfoldable pub certificate_in : Sizes → Reader Certificate
certificate_in sizes = made (λ p. record { digest = p.0; votes = p.1 }) (both digest_in (votes_in sizes))

-- the commands of a block, behind their number
unfoldable pub commands_in : Sizes → Reader (List Command)
commands_in sizes bytes = option_and_then
    (λ count. many (command_in (replicas sizes) sizes.clients) count.0 count.1)
    (tested (λ count. nat_le count MOST_COMMANDS) (number w8) bytes)

-- a core
unfoldable pub core_in : Sizes → Reader Core
core_in sizes =
    made (λ p. record { parent = p.0; height = p.1.0.0; justify_height = p.1.0.1; commands = p.1.1 })
    (both digest_in (both heights_in (commands_in sizes)))

-- ---- frames, behind the number of their kind

unfoldable pub proposal_in : Sizes → Reader Frame
proposal_in sizes = made (λ p. proposal p.0 p.1.0 p.1.1.0 p.1.1.1)
    (both (number w64) (both (core_in sizes) (both (certificate_in sizes) (vector_in (replicas sizes)))))

unfoldable pub vote_frame_in : Sizes → Reader Frame
vote_frame_in sizes = made (λ p. vote p.0 p.1) (both digest_in (vote_in (replicas sizes)))

unfoldable pub new_view_in : Sizes → Reader Frame
new_view_in sizes = made (λ p. new_view p.0 p.1.0 p.1.1.0 p.1.1.1)
    (both (number w64)
    (both (party_in (replicas sizes)) (both (certificate_in sizes) (vector_in (replicas sizes)))))

unfoldable pub reply_in : Sizes → Reader Frame
reply_in sizes = made (λ p. reply p.0 p.1.0 p.1.1.0 p.1.1.1.0 p.1.1.1.1.0 p.1.1.1.1.1)
    (both (party_in (replicas sizes))
    (both (party_in sizes.clients) (both positive_in (both positive_in (both text_in digest_in)))))

unfoldable pub fetch_in : Sizes → Reader Frame
fetch_in sizes =
    made (λ p. fetch p.0 p.1.0 p.1.1) (both (party_in (replicas sizes)) (both digest_in digest_in))

unfoldable pub block_in : Sizes → Reader Frame
block_in sizes = made (λ p. block p.0 p.1.0 p.1.1.0 p.1.1.1)
    (both (party_in (replicas sizes)) (both (core_in sizes) (both (certificate_in sizes) digest_in)))

-- a frame of this kind
unfoldable pub kind_in : Sizes → Kind → Reader Frame
kind_in sizes kind.Request = made request (command_in (replicas sizes) sizes.clients)
kind_in sizes kind.Proposal = proposal_in sizes
kind_in sizes kind.Vote = vote_frame_in sizes
kind_in sizes kind.NewView = new_view_in sizes
kind_in sizes kind.Reply = reply_in sizes
kind_in sizes kind.Fetch = fetch_in sizes
kind_in sizes kind.Block = block_in sizes

-- the frame of version 1 that the bytes are, all of them
unfoldable pub old_frame_in : Sizes → Bytes → Option Frame
old_frame_in sizes bytes =
    option_and_then (λ n. option_and_then (λ k. option_and_then
    (λ f. if length f.1 == 0 then Some f.0 else None)
    (kind_in sizes k n.1)) (kind_numbered n.0)) (number w8 bytes)

-- the certificate has no votes, or exactly a quorum
abbrev pub is_cut : Sizes → Certificate → Bool
is_cut sizes q = (length q.votes == 0) || (length q.votes == quorum sizes)

-- so has that of a frame, where it carries one
abbrev pub carries_cut : Sizes → Frame → Bool
carries_cut sizes (proposal view k q vector) = is_cut sizes q
carries_cut sizes (new_view view sender q vector) = is_cut sizes q
carries_cut sizes (block sender k q tag) = is_cut sizes q
carries_cut sizes frame = true

-- the frame of version 2 that these bytes are behind its mark
unfoldable pub new_frame_in : Sizes → Bytes → Option Frame
new_frame_in sizes bytes =
    option_and_then (λ f. if carries_cut sizes f then Some f else None) (old_frame_in sizes bytes)

-- the frame that the bytes are
unfoldable pub frame_in : Sizes → Bytes → Option Frame
frame_in sizes bytes =
    if is_marked bytes
    then new_frame_in sizes (drop 1 bytes)
    else (if nat_le sizes.faults MOST_FAULTS_OF_VERSION_ONE then old_frame_in sizes bytes else None)
