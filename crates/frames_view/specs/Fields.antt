-- The fields of a frame by their names, of those kinds that have them.
use Rattle.std.specs.Prelude.{ℕ, []}
use Rattle.definitions.specs.Bytes.{Bytes}
use Rattle.definitions.specs.Frames.{Core, Certificate, Vote, Frame, proposal, vote, new_view, reply, fetch}
use Rattle.definitions.specs.Frames.{block, genesis_core}

-- the view of a proposal or a new view
abbrev pub frame_view : Frame → ℕ
frame_view (proposal view k q vector) = view
frame_view (new_view view sender q vector) = view
frame_view frame = 0

-- the replica that a new view, a reply, a fetch or a block is from
abbrev pub frame_replica : Frame → ℕ
frame_replica (new_view view sender q vector) = sender
frame_replica (reply replica client seq place text tag) = replica
frame_replica (fetch sender digest tag) = sender
frame_replica (block sender k q tag) = sender
frame_replica frame = 0

-- the core of a proposal or a block
abbrev pub frame_core : Frame → Core
frame_core (proposal view k q vector) = k
frame_core (block sender k q tag) = k
frame_core frame = genesis_core

-- the certificate of a proposal, a new view or a block
abbrev pub frame_certificate : Frame → Certificate
frame_certificate (proposal view k q vector) = q
frame_certificate (new_view view sender q vector) = q
frame_certificate (block sender k q tag) = q
frame_certificate frame = record { digest = []; votes = [] }

-- the digest of a vote or a fetch
abbrev pub frame_digest : Frame → Bytes
frame_digest (vote digest v) = digest
frame_digest (fetch sender digest tag) = digest
frame_digest frame = []

-- the vote of a Vote frame
abbrev pub frame_vote : Frame → Vote
frame_vote (vote digest v) = v
frame_vote frame = record { voter = 0; vector = [] }

-- the client, the request's number, the place and the text of a reply
abbrev pub frame_client : Frame → ℕ
frame_client (reply replica client seq place text tag) = client
frame_client frame = 0

abbrev pub frame_seq : Frame → ℕ
frame_seq (reply replica client seq place text tag) = seq
frame_seq frame = 0

abbrev pub frame_place : Frame → ℕ
frame_place (reply replica client seq place text tag) = place
frame_place frame = 0

abbrev pub frame_text : Frame → Bytes
frame_text (reply replica client seq place text tag) = text
frame_text frame = []
