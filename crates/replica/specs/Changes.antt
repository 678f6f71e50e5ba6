-- What a step changes, as functions of what is kept.
use Rattle.std.specs.Prelude.{ℕ, ◌≡◌, ◌==◌, ◌≤◌, ◌&&◌, ◌||◌, Bool, true, false, List, [], ◌∷◌, filter, length}
use Rattle.std.specs.Prelude.{nat_lt, if◌then◌else◌, Option}
use Rattle.std.specs.Prelude.{Some, None, ⊤}
use Rattle.std.specs.Option.{option_or, unwrap_or}
use Rattle.std.specs.Str.{bytes_eq}
use Rattle.ids.specs.Sizes.{Sizes, leader}
use Rattle.definitions.specs.Bytes.{Bytes}
use Rattle.definitions.specs.FrameLimits.{IsVote}
use Rattle.vote_collector.specs.Collecting.{Entry, with_vote, kept_above}
use Rattle.definitions.specs.Trees.{Stored, TreeState, blocks, standing}
use Rattle.block_tree.specs.Nodes.{stored_as}
use Rattle.block_tree.specs.Insertions.{MayStand}
use Rattle.definitions.specs.Keyrings.{Keys}
use Rattle.definitions.specs.Checks.{Identity, identity_of}
use Rattle.definitions.specs.Chronicles.{Step, Step.took_block, Step.noted, Note.got_request, Note.led_from}
use Rattle.definitions.specs.Chronicles.{Chronicle}
use Rattle.definitions.specs.Chronicles.{history}
use Rattle.definitions.specs.Sendings.{to_party, Sending, vote_frame, sendings}
use Rattle.definitions.specs.States.{view, is_due, pending, with_request}
use Rattle.definitions.specs.Frames.{Command}
use Rattle.pacemaker.specs.Pacing.{Pace, IsPaceOf}
use Rattle.replica_rules.specs.declared.block_ref.BlockRef.{BlockRef}
use Rattle.replica.specs.declared.state.High.{High}
use Rattle.replica.specs.declared.stored.StoredStep.{StoredStep}
use Rattle.replica.specs.declared.change.Change.{Change}
use Rattle.replica.specs.declared.change.Growth.{Growth}
use Rattle.replica.specs.declared.change.Growth.TheVariants.{Nothing, Block, Vote, Request, Prune, Lead}
use Rattle.replica.specs.Replay.{is_new, is_pruning, step_of}
use Rattle.signed_frames.specs.Outs.{SentBytes}
use Rattle.replica.specs.Steps.{shown}
use Rattle.replica.specs.Kept.{Variables, StateParts, tree_of, variables_of}

-- the blocks of the tree with what is added, or without what is let go
abbrev pub grown : Growth → List Stored → List Stored
grown (Block n) stored = stored_as n (blocks stored) ∷ stored
grown (Prune to) stored = standing to stored
grown g stored = stored

-- the horizon after it
abbrev pub horizon_after : Growth → ℕ → ℕ
horizon_after (Prune to) horizon = to
horizon_after g horizon = horizon

-- the tree after it
abbrev pub tree_after : Growth → TreeState → TreeState
tree_after g t =
    record { most = t.most; horizon = horizon_after g t.horizon; stored = grown g t.stored }

-- the collected votes with what is added; a lead forgets them
abbrev pub collected : Growth → List (Bytes × Entry) → List (Bytes × Entry)
collected (Vote b v) kept = with_vote b.digest b.height v kept
collected Lead kept = []
collected g kept = kept

-- the requests that wait, with what is added; a lead forgets them
abbrev pub pended : Growth → List Command → List Command
pended (Request r) waits = with_request (noted (got_request r)) waits
pended Lead waits = []
pended g waits = waits

-- without those that no higher certificate can need
abbrev pub left_above : Option High → List (Bytes × Entry) → List (Bytes × Entry)
left_above None kept = kept
left_above (Some h) kept = kept_above h.block.height kept

abbrev pub votes_after : Change → List (Bytes × Entry) → List (Bytes × Entry)
votes_after d kept = left_above d.high (collected d.growth kept)

-- whether a block is added
abbrev pub adds : Growth → Bool
adds (Block n) = true
adds g = false

-- whether blocks are let go
abbrev pub shrinks : Growth → Bool
shrinks (Prune to) = true
shrinks g = false

-- what is added may be added, and the horizon doesn't fall
abbrev pub MayGrow : TreeState → Sizes → Growth → Type 0
MayGrow t s (Block n) = MayStand t n
MayGrow t s (Vote b v) = IsVote s v
MayGrow t s (Prune to) = t.horizon ≤ to
MayGrow t s g = ⊤

-- the change can be made: what is added may be, and the step says so
pub record Fits (s : StateParts) (d : Change) : Type 0 where
  pub growth : MayGrow (tree_of s.variables) s.votes.sizes d.growth
  pub step : is_new d.step ≡ adds d.growth
  pub pruning : is_pruning d.step ≡ shrinks d.growth

-- the variables after a change
abbrev pub changed_variables : Change → Variables → Variables
changed_variables d v = record {
  chronicle = step_of d.step (grown d.growth v.stored) ∷ v.chronicle;
  most = v.most;
  horizon = horizon_after d.growth v.horizon;
  stored = grown d.growth v.stored;
  rules = d.rules;
  high = unwrap_or d.high v.high;
  leaf = d.leaf;
  own = option_or d.own v.own;
}

-- what is kept after it
abbrev pub changed : Change → StateParts → StateParts
changed d s = record {
  variables = changed_variables d s.variables;
  pace = unwrap_or d.pace s.pace;
  votes = record { sizes = s.votes.sizes; kept = votes_after d s.votes.kept };
  pending = pended d.growth s.pending;
}

-- a step that changes nothing beside the chronicle
abbrev pub noting : Variables → StoredStep → List SentBytes → Change
noting v step out = record {
  step = step;
  out = out;
  growth = Nothing;
  rules = v.rules;
  high = None;
  leaf = v.leaf;
  own = None;
  pace = None;
}

-- the new one has votes, and the other, which is for the same block above genesis, has none
abbrev pub fills_for : High → High → Bool
fills_for new high =
    (nat_lt 0 high.block.height
    && ((new.block.height == high.block.height) && bytes_eq new.block.digest high.block.digest))
    && (length high.certificate.votes == 0 && nat_lt 0 (length new.certificate.votes))

-- a certificate that came whole, with its block, where it takes the place of the highest one so far
abbrev pub raise_of : High → High → Option High
raise_of new high =
    if nat_lt high.block.height new.block.height || fills_for new high then Some new else None

-- the leaf after a raise: the block, where it is higher than that of the highest certificate before
abbrev pub leaf_after : Option High → High → BlockRef → BlockRef
leaf_after (Some h) high leaf = if nat_lt high.block.height h.block.height then h.block else leaf
leaf_after None high leaf = leaf

-- what a step sends before anything is executed
abbrev pub sent_first : Identity → Step → Chronicle → List Sending
sent_first self (took_block a) c =
    if a.voted then (to_party (leader self.sizes (view self.sizes c)), vote_frame self a.branch) ∷ [] else []
sent_first self (noted n) c = sendings self (noted n) c

-- the requests that wait after a step and before anything is executed
abbrev pub asked : Step → Chronicle → List Command
asked (noted (led_from b)) c = []
asked st c = filter (is_due (history c)) (with_request st (pending c))

-- the change makes what is kept that of one step more, and sends what is sent first
pub record IsStep (keys : Keys) (c : Chronicle) (st : Step) (p : Pace) (d : Change) : Type 0 where
  pub variables : changed_variables d (variables_of keys c) ≡ variables_of keys (st ∷ c)
  pub sizes : (unwrap_or d.pace p).sizes ≡ keys.sizes
  pub pace : IsPaceOf (st ∷ c) (unwrap_or d.pace p)
  pub out : d.out ≡ shown (sent_first (identity_of keys) st c)
