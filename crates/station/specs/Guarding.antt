-- When a proposal is out, and which beats are in vain.
use Rattle.std.specs.Prelude.{◌≡◌, ◌⊎◌, ◌==◌, ◌&&◌, Bool, true, false, not, List, [], ◌∷◌, Result, Ok, Err}
use Rattle.std.specs.Prelude.{if◌then◌else◌, nat_lt, ℕ, Option, Some, None, option_map, unwrap_or}
use Rattle.ids.specs.Sizes.{leader}
use Rattle.ids.specs.declared.fault.Fault.{Fault}
use Rattle.ids.specs.declared.fault.Fault.TheVariants.{BadHeight, Crowded, Memory, NotMine, WrongJustify}
use Rattle.admission.specs.declared.input.Input.{Input}
use Rattle.admission.specs.declared.input.Input.TheVariants as input
use Rattle.admission.specs.Inputs.{input_of}
use Rattle.definitions.specs.Bytes.{Bytes}
use Rattle.definitions.specs.Chronicles.{vheight}
use Rattle.definitions.specs.Digests.{digest}
use Rattle.definitions.specs.Frames.{Core}
use Rattle.definitions.specs.States.{is_known, view}
use Rattle.definitions.specs.Rulings.{Input as Ruled, Input.proposal_in, Input.block_in, Input.offered_in, Input.relayed_in}
use Rattle.doorkeeper.specs.Climbs.{climbs_too_far}
use Rattle.signed_frames.specs.Outs.{SentBytes}
use Rattle.turns.specs.Shares.{ShareState}
use Rattle.turns.specs.declared.prompt.Prompt.{Prompt}
use Rattle.turns.specs.declared.prompt.Prompt.TheVariants as prompt
use Rattle.locked_replica.specs.Kept.{KeptState}
use Rattle.replica.specs.Careful.{is_careless as is_careless_core}

-- a block, a vote, a view or a lead: by it a proposal may have come to stand, or another block may be the one to propose on
abbrev pub moves : Input → Bool
moves (input.Proposal checked) = true
moves (input.Block checked) = true
moves (input.Vote checked) = true
moves (input.NewView checked) = true
moves (input.OfferedProposal tagged) = true
moves (input.OfferedBlock tagged) = true
moves (input.Relayed copies) = true
moves (input.Lead block) = true
moves (input.SeenView tagged) = true
moves other = false

-- leave to forget
abbrev pub takes_none : Input → Bool
takes_none (input.Prune height) = true
takes_none other = false

-- leave to propose
abbrev pub is_beat : Input → Bool
is_beat input.Beat = true
is_beat other = false

-- the step was made
abbrev pub was_made : Result (List SentBytes) Fault → Bool
was_made (Ok out) = true
was_made (Err n) = false

-- the step was made, and sends something
abbrev pub sends : Result (List SentBytes) Fault → Bool
sends (Ok (sent ∷ others)) = true
sends (Ok []) = false
sends (Err n) = false

-- Whether the last proposal is out after a step: it is after a beat that sent one, and isn't once a block, a vote or a
-- view was taken.
abbrev pub out_after : Bool → Input → Result (List SentBytes) Fault → Bool
out_after before input answer =
    if moves input && was_made answer then false
    else if is_beat input && sends answer then true
    else before

-- it leads its view
abbrev pub leads : KeptState → Bool
leads kept = leader kept.keys.sizes (view kept.keys.sizes kept.replica.chronicle) == kept.keys.party

-- a beat of a replica that doesn't lead its view
abbrev pub is_vain : KeptState → Input → Bool
is_vain kept input = is_beat input && not (leads kept)

-- A vote for a proposal would be careless. One of another view, or no higher than what it voted for, finds no vote anyway.
abbrev pub is_careless_in : KeptState → (proposed : ℕ) → Core → Bool
is_careless_in kept proposed core = (view kept.keys.sizes kept.replica.chronicle == proposed)
    && nat_lt (vheight kept.replica.chronicle) core.height && is_careless_core core kept.replica.chronicle

abbrev pub is_careless : KeptState → Ruled → Bool
is_careless kept (proposal_in proposed core q found) = is_careless_in kept proposed core
is_careless kept (offered_in (Some proposed) sender core q found) = is_careless_in kept proposed core
is_careless kept other = false

-- Why an input is refused before the doorkeeper counts: a vain beat, a block that climbs too far, or a careless proposal.
abbrev pub refusal : KeptState → Input → Option Fault
refusal kept input =
    if is_vain kept input then Some NotMine
    else if climbs_too_far (input_of input) (view kept.keys.sizes kept.replica.chronicle) then Some BadHeight
    else if is_careless kept (input_of input) then Some WrongJustify
    else None

-- the digest of the block that an input brings
abbrev pub brought_block : Ruled → Option Bytes
brought_block (proposal_in view core q found) = Some (digest core)
brought_block (block_in sender core q found) = Some (digest core)
brought_block (offered_in view sender core q found) = Some (digest core)
brought_block (relayed_in senders core q found) = Some (digest core)
brought_block other = None

-- an input brings a block that stands already
abbrev pub stands : KeptState → Input → Bool
stands kept input =
    unwrap_or (option_map (λ d. is_known d kept.replica.chronicle) (brought_block (input_of input))) false

-- A block is kept out, and nothing changes: it doesn't stand yet and others crowd its height, or it couldn't be counted.
pub record IsKeptOut (old : KeptState) (share : ShareState) (input : Input) (answer : Result (List SentBytes) Fault)
    (new : KeptState) (share' : ShareState) : Type 0 where
  pub why : (stands old input ≡ false) × (answer ≡ Err Crowded) ⊎ (answer ≡ Err Memory)
  pub same : new ≡ old
  pub same_share : share' ≡ share

-- a prompt to propose at once
abbrev pub asks_for_proposal : Prompt → Bool
asks_for_proposal prompt.Beat = true
asks_for_proposal (prompt.Timeout view) = false
