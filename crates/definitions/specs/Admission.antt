-- Which frames a replica admits, and as what input.
use Rattle.ids.specs.declared.fault.Fault.{Fault}
use Rattle.ids.specs.declared.fault.Fault.TheVariants as fault
use Rattle.std.specs.Prelude.{◌&&◌, Bool, true, false, List, [], ◌∷◌, map, length, Some, None, nat_le}
use Rattle.std.specs.Prelude.{if◌then◌else◌}
use Rattle.std.specs.List.{list_all}
use Rattle.std.specs.Str.{bytes_eq}
use Rattle.ids.specs.Sizes.{leader, replicas}
use Rattle.definitions.specs.Frames.{Core, Certificate, Frame, kind_of, sender_of, content_of, own_tag}
use Rattle.definitions.specs.Frames as frame
use Rattle.definitions.specs.Digests.{digest}
use Rattle.definitions.specs.Keyrings.{verify}
use Rattle.definitions.specs.Checks.{Identity, is_good, findings}
use Rattle.definitions.specs.Rulings.{Input, Input.proposal_in, Input.block_in, Input.vote_in}
use Rattle.definitions.specs.Rulings.{Input.new_view_in, Input.request_in, Input.fetch_in}
use Rattle.definitions.specs.Rulings.{Input.offered_in, Input.relayed_in, Input.view_in}

-- what the checks on a frame come to
pub data Checked : Type 0 where
  passes : Input → Checked
  rejected : Fault → Checked

-- the checks passed
abbrev pub is_passed : Checked → Bool
is_passed (passes i) = true
is_passed (rejected n) = false

-- the frame's own tag for this replica verifies
abbrev pub own_tag_verifies : Identity → Frame → Bool
own_tag_verifies self f =
    verify self.ring (kind_of f) (sender_of self.sizes f) (content_of f) (own_tag f self.ring.party)

-- the input, where the tags are right
abbrev pub when : Bool → Input → Checked
when ok i = if ok then passes i else rejected fault.BadTag

-- What a replica tests before it takes a frame in: the frame's own tag, and its certificate where it has
-- one. With a block goes in what this replica found of it.
unfoldable pub check : Identity → Frame → Checked
check self (frame.request c) = when (own_tag_verifies self (frame.request c)) (request_in c)
check self (frame.proposal view core q v) =
    when (own_tag_verifies self (frame.proposal view core q v) && is_good self q)
    (proposal_in view core q (findings self core q))
check self (frame.vote d b) = when (own_tag_verifies self (frame.vote d b)) (vote_in d b)
check self (frame.new_view view sender q v) =
    when (own_tag_verifies self (frame.new_view view sender q v) && is_good self q)
    (new_view_in view sender q)
check self (frame.fetch sender d t) =
    when (own_tag_verifies self (frame.fetch sender d t)) (fetch_in sender d)
check self (frame.block sender core q t) =
    when (own_tag_verifies self (frame.block sender core q t) && is_good self q)
    (block_in sender core q (findings self core q))
check self (frame.reply replica client seq place text t) = rejected fault.NotMine

-- What a replica tests of a frame that is offered to it: the frame's own tag. Its certificate needn't be good.
unfoldable pub check_offer : Identity → Frame → Checked
check_offer self (frame.proposal view core q v) =
    when (own_tag_verifies self (frame.proposal view core q v))
    (offered_in (Some view) (leader self.sizes view) core q (findings self core q))
check_offer self (frame.block sender core q t) =
    when (own_tag_verifies self (frame.block sender core q t))
    (offered_in None sender core q (findings self core q))
check_offer self (frame.new_view view sender q v) =
    when (own_tag_verifies self (frame.new_view view sender q v)) (view_in view sender)
check_offer self f = rejected fault.NotMine

-- the frame brings this block, with a certificate for what it justifies, and its own tag verifies
unfoldable pub is_copy : Identity → Core → Certificate → Frame → Bool
is_copy self core q (frame.block sender k p t) =
    own_tag_verifies self (frame.block sender k p t)
    && (bytes_eq (digest k) (digest core) && bytes_eq p.digest q.digest)
is_copy self core q f = false

-- the frames are copies of the block of the first, and no more than there are replicas
unfoldable pub check_copies : Identity → Frame → List Frame → Checked
check_copies self (frame.block sender core q t) fs =
    when (nat_le (length fs) (replicas self.sizes) && list_all (is_copy self core q) fs)
    (relayed_in (map (sender_of self.sizes) fs) core q (findings self core q))
check_copies self f fs = rejected fault.NotMine

-- What a replica tests of frames that come together: they are copies of one block, and the own tag of each
-- verifies.
unfoldable pub check_gathered : Identity → List Frame → Checked
check_gathered self [] = rejected fault.NotAFrame
check_gathered self (f ∷ fs) = check_copies self f (f ∷ fs)
