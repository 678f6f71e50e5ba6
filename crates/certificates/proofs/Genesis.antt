-- The digest of genesis, which computes.
use Rattle.std.proofs.Common.{◌≡◌, refl}
use Rattle.sha2.specs.Sha256.{sha256, digest_bytes, hash_after, compress, rounds, schedule, first_words}
use Rattle.definitions.specs.Frames.{genesis_core}
use Rattle.definitions.specs.Digests.{digest}
use Rattle.certificates.specs.declared.certificate.TheConstants.{GENESIS}

pub digest_of_genesis : digest genesis_core ≡ GENESIS
unfolding digest sha256 digest_bytes hash_after compress rounds schedule first_words
digest_of_genesis = refl
