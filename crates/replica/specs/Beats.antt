-- What a beat changes.
use Rattle.std.specs.Prelude.{ℕ, suc, ◌-◌, ◌^◌, ◌==◌, ◌&&◌, min, Bool, List, [], ◌∷◌, length, Option, Some}
use Rattle.std.specs.Prelude.{None, is_some, if◌then◌else◌}
use Rattle.std.specs.List.{flat_map}
use Rattle.std.specs.Option.{option_or}
use Rattle.ids.specs.Sizes.{leader}
use Rattle.ids.specs.Numbers.{kind_number}
use Rattle.ids.specs.declared.kind.Kind.TheVariants as kind
use Rattle.sha2.specs.Sha256.{sha256}
use Rattle.definitions.specs.Frames.{command_bytes, core_text, certificate_bytes, proposal_text, frame_text}
use Rattle.definitions.specs.Keyrings.{Keys, keyring_of, vector_for}
use Rattle.definitions.specs.Checks.{identity_of, cut}
use Rattle.definitions.specs.Sendings.{to_all}
use Rattle.definitions.specs.Trees.{blocks, find_in}
use Rattle.replica_rules.specs.declared.block_ref.BlockRef.{BlockRef}
use Rattle.replica.specs.declared.stored.StoredStep.TheVariants.{Beat}
use Rattle.replica.specs.declared.change.Change.{Change}
use Rattle.signed_frames.specs.Outs.{SentBytes}
use Rattle.replica.specs.Kept.{Own, StateParts}
use Rattle.replica.specs.Changes.{noting}
use Rattle.replica.specs.Picks.{picked}

-- the height of a child of a leaf
abbrev pub child_height : BlockRef → ℕ
child_height leaf = min (suc leaf.height) (2 ^ 64 - 1)

-- a child of the leaf with what is picked, which justifies the block of the highest certificate, with that
abbrev pub child_of : StateParts → Own
child_of s =
    let v = s.variables in
    record {
      core = core_text v.leaf.digest (child_height v.leaf) v.high.block.height (length (picked s))
          (flat_map command_bytes (picked s));
      certificate = v.high.certificate;
    }

-- a proposal goes to all, with its certificate as it is passed on
abbrev pub proposal_sent : Keys → ℕ → Own → SentBytes
proposal_sent keys view own =
    let q = certificate_bytes (cut (identity_of keys) own.certificate) in
    let content = proposal_text view own.core q in (
      to_all,
      kind.Proposal,
      frame_text (kind_number kind.Proposal) content
          (vector_for keys.sizes (keyring_of keys) kind.Proposal content),
    )

-- whether it leads its view
abbrev pub is_led : Keys → StateParts → Bool
is_led keys s = leader keys.sizes s.pace.view == keys.party

-- a child is made where the replica leads and its leaf is known
abbrev pub made_by : Keys → StateParts → Option Own
made_by keys s =
    if is_led keys s && is_some (find_in s.variables.leaf.digest (blocks s.variables.stored))
    then Some (child_of s) else None

-- it becomes the leaf
abbrev pub leaf_with : Option Own → BlockRef → BlockRef
leaf_with None leaf = leaf
leaf_with (Some own) leaf = record { digest = sha256 own.core; height = child_height leaf }

-- what a leader sends of its last proposal
abbrev pub last_sent : Keys → StateParts → Option Own → List SentBytes
last_sent keys s own =
    if is_led keys s then elim own [ Some o ↦ proposal_sent keys s.pace.view o ∷ [] | None ↦ [] ] else []

-- a leader proposes what it makes, or else its last proposal again
abbrev pub beat_change : Keys → StateParts → Change
beat_change keys s =
    let v = s.variables in
    let made = made_by keys s in
    record (noting v Beat (last_sent keys s (option_or made v.own))) {
      leaf = leaf_with made v.leaf;
      own = made;
    }
