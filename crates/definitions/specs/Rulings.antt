-- What an input comes to: the step that is to stand, or a refusal.
use Rattle.ids.specs.declared.fault.Fault.{Fault}
use Rattle.ids.specs.declared.fault.Fault.TheVariants as fault
use Rattle.ids.specs.declared.limits.TheConstants.{MOST_BLOCKS, MOST_PENDING}
use Rattle.std.specs.Prelude.{ℕ, suc, List, ◌==◌, ◌&&◌, not, Bool, true, false, [], ◌∷◌, length, if◌then◌else◌, nat_lt}
use Rattle.std.specs.Prelude.{Option, Some, None}
use Rattle.std.specs.List.{list_any}
use Rattle.definitions.specs.Frames.{Command, Core, Vote, Certificate}
use Rattle.definitions.specs.Branches.{Branch, justify_height}
use Rattle.definitions.specs.Bytes.{Bytes}
use Rattle.ids.specs.Sizes.{Sizes, leader}
use Rattle.definitions.specs.Trees.{Placing, Placing.stands, Placing.grows, Placing.lacks_parent}
use Rattle.definitions.specs.Trees.{Placing.unfit, placing, clear_above}
use Rattle.definitions.specs.Chronicles.{Admitted, Step, Step.took_block, Step.noted, Note.got_vote}
use Rattle.definitions.specs.Chronicles.{Note.got_new_view, Note.got_request, Note.got_fetch}
use Rattle.definitions.specs.Chronicles.{Note.timed_out, Note.beat, Note.pruned, Chronicle, decides_against}
use Rattle.definitions.specs.Chronicles.{executed, history, horizon, standing_blocks, window, is_safe}
use Rattle.definitions.specs.Chronicles.{Note.seen_view, Note.led_from}
use Rattle.definitions.specs.Checks.{Identity, Findings}
use Rattle.definitions.specs.Grounds.{are_replicas, without_votes, grounded, may_lead_from}
use Rattle.definitions.specs.States.{view, find_block, is_same_request, is_due, pending}

-- what is taken in, after its tags were found right
pub data Input : Type 0 where
  proposal_in : (view : ℕ) → (core : Core) → (certificate : Certificate) → (found : Findings) → Input
  block_in : (sender : ℕ) → (core : Core) → (certificate : Certificate) → (found : Findings) → Input
  vote_in : (block : Bytes) → (vote : Vote) → Input
  new_view_in : (view sender : ℕ) → (certificate : Certificate) → Input
  request_in : Command → Input
  fetch_in : (sender : ℕ) → (block : Bytes) → Input
  timeout_in : Input
  beat_in : Input
  prune_in : (height : ℕ) → Input
  -- a block whose certificate isn't good for this replica, with its view where it is proposed
  offered_in : (view : Option ℕ) → (sender : ℕ) → (core : Core) → (certificate : Certificate)
      → (found : Findings) → Input
  -- a block that several replicas sent
  relayed_in : (senders : List ℕ) → (core : Core) → (certificate : Certificate) → (found : Findings) → Input
  -- to lead from the block of a digest
  lead_in : (block : Bytes) → Input
  -- to ask a replica for the block of a digest
  ask_in : (replica : ℕ) → (block : Bytes) → Input
  -- the view of an announcement whose certificate isn't good for this replica
  view_in : (view sender : ℕ) → Input

-- The step that is to stand, or a refusal. `missing` names a digest that isn't in the tree, and who sent it.
pub data Ruling : Type 0 where
  due : Step → Ruling
  missing : (sender : ℕ) → (block : Bytes) → Ruling
  refusing : Fault → Ruling

-- a block and what was found of it, before the vote
unfoldable pub admitted : Branch → Core → Certificate → Findings → Bool → Admitted
admitted b core q found new = record {
  branch = b;
  core = core;
  certificate = q;
  counted = found.counted;
  senders = [];
  clear = found.clear;
  new = new;
  voted = false;
}

-- the vote on a proposal of view w, if it is one
unfoldable pub votes_for : Sizes → Option ℕ → Admitted → Chronicle → Bool
votes_for s None a c = false
votes_for s (Some w) a c =
    (w == view s c)
    && (is_safe a.branch c
    && clear_above (justify_height a.branch) a.branch (standing_blocks (took_block a ∷ c)))

-- the block is admitted, with or without a vote
abbrev pub take_block : Identity → Option ℕ → Admitted → Chronicle → Ruling
take_block self w a c = due (took_block (record a { voted = votes_for self.sizes w a c }))

-- what follows from the place of a block in the tree
unfoldable pub on_placing : Identity → Option ℕ → ℕ → Core → Certificate → Findings → Chronicle → Placing
    → Ruling
on_placing self w sender core q found c (stands b) = take_block self w (admitted b core q found false) c
on_placing self w sender core q found c (grows b) = take_block self w (admitted b core q found true) c
on_placing self w sender core q found c lacks_parent = missing sender core.parent
on_placing self w sender core q found c (unfit n) = refusing n

-- a block with its certificate, as a proposal of this view or on its own
abbrev pub on_block : Identity → Option ℕ → ℕ → Core → Certificate → Findings → Chronicle → Ruling
on_block self w sender core q found c =
    on_placing self w sender core q found c (placing (horizon c) MOST_BLOCKS core q (window c))

-- a block that is taken on grounds, where it has any
abbrev pub take_grounded : Identity → Option ℕ → Option Admitted → Chronicle → Ruling
take_grounded self w None c = refusing fault.BadTag
take_grounded self w (Some a) c = take_block self w a c

-- what follows from the place of a block whose certificate isn't good for this replica; one that stands in
-- the tree had grounds
unfoldable pub on_offer : Identity → Option ℕ → ℕ → Core → Certificate → Findings → Chronicle → Placing
    → Ruling
on_offer self w sender core q found c (stands b) =
    take_block self w
    (record (admitted b core q found false) { certificate = without_votes q; counted = [] }) c
on_offer self w sender core q found c (grows b) =
    take_grounded self w (grounded self (admitted b core q found true) c) c
on_offer self w sender core q found c lacks_parent = missing sender core.parent
on_offer self w sender core q found c (unfit n) = refusing n

-- what follows from the place of a block that these sent: they have to be more than f replicas
unfoldable pub on_relay : Identity → List ℕ → Core → Certificate → Findings → Chronicle → Placing → Ruling
on_relay self senders core q found c (stands b) =
    take_block self None
    (record (admitted b core q found false) { certificate = without_votes q; counted = [] }) c
on_relay self senders core q found c (grows b) =
    if are_replicas self.sizes (suc self.sizes.faults) senders
    then take_block self None
    (record (admitted b core q found true) {
      certificate = without_votes q;
      counted = [];
      senders = senders;
    }) c
    else refusing fault.BadTag
on_relay self senders core q found c lacks_parent = refusing fault.UnknownParent
on_relay self senders core q found c (unfit n) = refusing n

-- a lead from the block of a digest, where it stands in the tree and may be led from
abbrev pub lead : Identity → Option Branch → Chronicle → Ruling
lead self None c = refusing fault.UnknownParent
lead self (Some b) c =
    if may_lead_from self b c then due (noted (led_from b)) else refusing fault.UnknownParent

-- a request, where there is room for it
unfoldable pub on_request : Command → Chronicle → Ruling
on_request r c =
    if is_due (history c) r
    && (not (list_any (is_same_request r) (pending c)) && not (nat_lt (length (pending c)) MOST_PENDING))
    then refusing fault.PoolFull
    else due (noted (got_request r))

-- what follows where the block stands in the tree
abbrev pub with_block : Option Branch → ℕ → Bytes → (Branch → Ruling) → Ruling
with_block None sender d follows = missing sender d
with_block (Some b) sender d follows = follows b

-- what an input comes to
unfoldable pub ruling : Identity → Input → Chronicle → Ruling
ruling self (proposal_in w core q found) c = on_block self (Some w) (leader self.sizes w) core q found c
ruling self (block_in sender core q found) c = on_block self None sender core q found c
ruling self (vote_in d b) c =
    with_block (find_block d c) b.voter d (λ x. due (noted (got_vote b.voter b.vector x)))
ruling self (new_view_in w sender q) c =
    with_block (find_block q.digest c) sender q.digest (λ x. due (noted (got_new_view w sender q x)))
ruling self (request_in r) c = on_request r c
ruling self (fetch_in sender d) c = due (noted (got_fetch sender (find_block d c)))
ruling self timeout_in c = due (noted timed_out)
ruling self beat_in c = due (noted beat)
ruling self (prune_in height) c = due (noted (pruned height))
ruling self (offered_in w sender core q found) c =
    on_offer self w sender core q found c (placing (horizon c) MOST_BLOCKS core q (window c))
ruling self (relayed_in senders core q found) c =
    on_relay self senders core q found c (placing (horizon c) MOST_BLOCKS core q (window c))
ruling self (lead_in d) c = lead self (find_block d c) c
ruling self (ask_in replica d) c = missing replica d
ruling self (view_in w sender) c = due (noted (seen_view w sender))

-- a step takes a block that decides against what was executed
unfoldable pub conflicts : Step → Chronicle → Bool
conflicts (took_block a) c = a.new && decides_against (executed c) a.branch
conflicts s c = false
