-- A run that a half vote wedges, and that offers and copies of a block heal. Replica 3 is faulty: its vote for
-- the first block is right for replica 0 alone, so the certificate that replica 0 makes is good for no other.
use Rattle.ids.specs.declared.kind.Kind.TheVariants as kind
use Rattle.ids.specs.declared.fault.Fault.TheVariants as fault
use Rattle.std.specs.Prelude.{◌≡◌, ◌*◌, ◌++◌, ℕ, true, false, List, [], ◌∷◌, Some, None, map, take, replicate}
use Rattle.definitions.specs.Bytes.{Bytes}
use Rattle.definitions.specs.Branches.{Branch, just1}
use Rattle.definitions.specs.Checks.{Identity}
use Rattle.definitions.specs.Digests.{digest_of, core_of}
use Rattle.definitions.specs.Frames.{Frame}
use Rattle.definitions.specs.Frames as frame
use Rattle.definitions.specs.Keyrings.{vector_for}
use Rattle.definitions.specs.Chronicles.{taken_blocks}
use Rattle.definitions.specs.Tags.{tag_len}
use Rattle.definitions.specs.Admission.{rejected, is_passed, check_offer, check_gathered}
use Rattle.definitions.specs.Sendings.{block_frame}
use Rattle.definitions.specs.Worlds.{Event, relay, beat, offer, gather, ask, of_record, self_of}
use Rattle.worked_examples.specs.Liar.{start, liar, comes_to}
use Rattle.worked_examples.specs.Rounds.{play}
use Rattle.worked_examples.specs.Runs.{sizes, block1}

-- the second block, which justifies the first
abbrev pub block2 : Branch
block2 = record { commands = []; justify = 1 } ∷ block1

-- of its tags for a vote for the first block the liar leaves that for replica 0
abbrev pub half : Bytes
half = take tag_len (vector_for sizes liar.ring kind.Vote (digest_of block1)) ++ replicate (3 * tag_len) 0

abbrev pub half_vote : Frame
half_vote = frame.vote (digest_of block1) (record { voter = 3; vector = half })

-- Replica 0 proposes the first block, and the correct replicas vote for it. The votes of replicas 0 and 1 and
-- the liar's come to replica 0. It proposes the second block, with the certificate of these votes, and takes
-- it itself.
abbrev pub beginning : List Event
beginning =
    beat 0 ∷ relay 0 0 ∷ relay 0 1 ∷ relay 0 2 ∷ relay 1 0 ∷ relay 2 0 ∷ comes_to 0 half_vote ∷ beat 0
    ∷ relay 4 0 ∷ []

-- the proposal comes to the others
abbrev pub wedged : List Event
wedged = beginning ++ relay 4 1 ∷ relay 4 2 ∷ []

-- they refuse it
abbrev pub IsWedged : Type 0
IsWedged = (play start wedged).answers ≡ Some fault.BadTag ∷ Some fault.BadTag ∷ replicate 9 None

-- the votes of the correct replicas come to replica 1, and then the proposal is offered to it
abbrev pub offered : List Event
offered = wedged ++ relay 1 1 ∷ relay 2 1 ∷ relay 3 1 ∷ offer 1 (of_record 4) ∷ []

-- it takes the second block, by its own certificate of the first, and votes
abbrev pub IsOffered : Type 0
IsOffered =
    ((play start offered).answers
    ≡ replicate 4 None ++ Some fault.BadTag ∷ Some fault.BadTag ∷ replicate 9 None)
    × (map (λ a. a.branch) (taken_blocks ((play start offered).replica 1).chronicle) ≡ block2 ∷ block1 ∷ [])
    × (map {B = ℕ × ℕ} (λ s. (s.event, s.sender)) (play start offered).sent
    ≡ (1, 0) ∷ (2, 0) ∷ (3, 1) ∷ (4, 2) ∷ (8, 0) ∷ (9, 0) ∷ (15, 1) ∷ [])

-- replica 2 asks both for the block, and gets two copies of it, and the proposal again
abbrev pub gathered : List Event
gathered =
    offered
    ++ ask 2 0 (digest_of block2) ∷ ask 2 1 (digest_of block2) ∷ relay 7 0 ∷ relay 8 1
    ∷ gather 2 (of_record 9 ∷ of_record 10 ∷ []) ∷ offer 2 (of_record 4) ∷ []

-- it takes the block, for the copies, and then votes for it
abbrev pub IsGathered : Type 0
IsGathered =
    (map {B = Branch × List ℕ} (λ a. (a.branch, a.senders)) (taken_blocks ((play start gathered).replica 2).chronicle)
    ≡ (block2, 0 ∷ 1 ∷ []) ∷ (block1, []) ∷ [])
    × (map {B = ℕ × ℕ} (λ s. (s.event, s.sender)) (play start gathered).sent
    ≡ (1, 0) ∷ (2, 0) ∷ (3, 1) ∷ (4, 2) ∷ (8, 0) ∷ (9, 0) ∷ (15, 1) ∷ (16, 2) ∷ (17, 2) ∷ (18, 0) ∷ (19, 1)
    ∷ (21, 2) ∷ [])

-- ---- what passes as an offer, or as copies

abbrev pub reader : Identity
reader = self_of start 2

-- a replica's copy of a block for replica 2, with a certificate without votes
abbrev pub copy_by : ℕ → Branch → Frame
copy_by v b = block_frame (self_of start v) 2 (record {
  branch = b;
  core = core_of b;
  certificate = record { digest = digest_of (just1 b); votes = [] };
  counted = [];
  senders = [];
  clear = true;
  new = true;
  voted = false;
})

-- the same with a tag that verifies for nobody
abbrev pub untagged : Frame → Frame
untagged (frame.block sender core q t) = frame.block sender core q (replicate tag_len 0)
untagged f = f

-- copies of one block pass, each with its own tag, and no more than there are replicas
abbrev pub CopiesPass : Type 0
CopiesPass =
    (is_passed (check_gathered reader (copy_by 0 block2 ∷ copy_by 1 block2 ∷ [])) ≡ true)
    × (check_gathered reader (copy_by 0 block2 ∷ untagged (copy_by 1 block2) ∷ []) ≡ rejected fault.BadTag)
    × (check_gathered reader (copy_by 0 block2 ∷ copy_by 1 block1 ∷ []) ≡ rejected fault.BadTag)
    × (check_gathered reader (replicate 5 (copy_by 0 block2)) ≡ rejected fault.BadTag)
    × (check_gathered reader (half_vote ∷ []) ≡ rejected fault.NotMine)
    × (check_gathered reader [] ≡ rejected fault.NotAFrame)

-- so does a block with its own tag; a vote is no offer
abbrev pub OffersPass : Type 0
OffersPass =
    (is_passed (check_offer reader (copy_by 0 block2)) ≡ true)
    × (check_offer reader (untagged (copy_by 0 block2)) ≡ rejected fault.BadTag)
    × (check_offer reader half_vote ≡ rejected fault.NotMine)
