-- What a question for a block changes: nothing beside the chronicle.
use Rattle.ids.specs.declared.kind.Kind.TheVariants as kind
use Rattle.ids.specs.Numbers.{kind_number}
use Rattle.std.specs.Prelude.{ℕ, List, [], ◌∷◌, Option, Some, None}
use Rattle.definitions.specs.Frames.{Core, Certificate, core_bytes, certificate_bytes, block_text, frame_text}
use Rattle.definitions.specs.Keyrings.{Keys, keyring_of, tag_for}
use Rattle.definitions.specs.Checks.{identity_of, cut}
use Rattle.definitions.specs.Digests.{core_of}
use Rattle.definitions.specs.Sendings.{to_party}
use Rattle.definitions.specs.Trees.{Stored}
use Rattle.block_tree.specs.Finding.{stored_in}
use Rattle.replica.specs.declared.stored.GotFetch.{GotFetch}
use Rattle.replica.specs.declared.stored.StoredStep.TheVariants.{GotFetch as Asked}
use Rattle.replica.specs.declared.change.Change.{Change}
use Rattle.signed_frames.specs.Outs.{SentBytes}
use Rattle.replica.specs.Kept.{Variables}
use Rattle.replica.specs.Changes.{noting}

-- a block goes to the one who asked, with its certificate as it is passed on
abbrev pub block_sent : Keys → ℕ → Core → Certificate → SentBytes
block_sent keys to core q =
    let content = block_text keys.party (core_bytes core) (certificate_bytes (cut (identity_of keys) q)) in (
      to_party to,
      kind.Block,
      frame_text (kind_number kind.Block) content (tag_for (keyring_of keys) kind.Block to content),
    )

-- where it stands in the tree
abbrev pub supplied : Keys → ℕ → Option Stored → List SentBytes
supplied keys to None = []
supplied keys to (Some s) = block_sent keys to (core_of s.branch) s.certificate ∷ []

abbrev pub fetch_change : Keys → Variables → GotFetch → Change
fetch_change keys v f = noting v (Asked f) (supplied keys f.sender (stored_in f.block v.stored))
