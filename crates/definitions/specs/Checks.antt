-- What a replica is, and which tags it finds right.
use Rattle.ids.specs.declared.kind.Kind.TheVariants as kind
use Rattle.std.specs.Prelude.{ℕ, ◌==◌, Bool, List, map, filter, take, length, if◌then◌else◌, nat_le}
use Rattle.std.specs.List.{list_all}
use Rattle.std.specs.Str.{bytes_eq}
use Rattle.definitions.specs.Frames.{Command, Core, Vote, Certificate, genesis_core, command_content}
use Rattle.definitions.specs.Tags.{tag_of}
use Rattle.definitions.specs.Bytes.{Bytes}
use Rattle.ids.specs.Sizes.{Sizes, quorum, client_party}
use Rattle.definitions.specs.Digests.{digest}
use Rattle.definitions.specs.Keyrings.{Keyring, Keys, keyring_of, verify}

-- What a replica is from its making on. Its number is its keyring's party.
pub record Identity : Type 0 where
  pub sizes : Sizes
  pub ring : Keyring

-- the replica that these are the keys of
abbrev pub identity_of : Keys → Identity
identity_of keys = record { sizes = keys.sizes; ring = keyring_of keys }

-- ---- checks on what comes in

-- the vote's tag for this replica verifies
abbrev pub vote_verifies : Identity → Bytes → Vote → Bool
vote_verifies self d b = verify self.ring kind.Vote b.voter d (tag_of b.vector self.ring.party)

-- the voters whose tags for this replica verify
unfoldable pub counted_voters : Identity → Certificate → List ℕ
counted_voters self q = map (λ b. b.voter) (filter (vote_verifies self q.digest) q.votes)

-- the digest is that of genesis
abbrev pub is_genesis : Bytes → Bool
is_genesis d = bytes_eq d (digest genesis_core)

-- genesis has no votes; any other block has a quorum of counted ones
unfoldable pub is_good : Identity → Certificate → Bool
is_good self q =
    if is_genesis q.digest
    then length q.votes == 0
    else nat_le (quorum self.sizes) (length (counted_voters self q))

-- the certificate as this replica passes it on: the first quorum of its votes whose tags for it verify
unfoldable pub cut : Identity → Certificate → Certificate
cut self q = record q { votes = take (quorum self.sizes) (filter (vote_verifies self q.digest) q.votes) }

-- the command's tag for this replica verifies
abbrev pub command_verifies : Identity → Command → Bool
command_verifies self c =
    verify self.ring kind.Request (client_party c.client) (command_content c.client c.seq c.payload)
    (tag_of c.vector self.ring.party)

-- the tag of each command verifies
unfoldable pub is_clear_core : Identity → Core → Bool
is_clear_core self core = list_all (command_verifies self) core.commands

-- What a check found of a block and of the certificate that came along.
pub record Findings : Type 0 where
  pub counted : List ℕ  -- the voters whose tags for the receiver verified
  pub clear : Bool  -- so did the tag of each command

-- what this replica finds
abbrev pub findings : Identity → Core → Certificate → Findings
findings self core q = record { counted = counted_voters self q; clear = is_clear_core self core }
