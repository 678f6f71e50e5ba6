-- What is passed on of a certificate.
use Rattle.std.specs.Prelude.{List, filter}
use Rattle.definitions.specs.Bytes.{Bytes}
use Rattle.definitions.specs.Frames.{Vote}
use Rattle.definitions.specs.Checks.{Identity, vote_verifies}

-- of these votes for the block of this digest, those whose tags for this replica verify
abbrev pub verified : Identity → Bytes → List Vote → List Vote
verified self digest votes = filter (vote_verifies self digest) votes
