-- SHA-256 computes.
use Rattle.std.proofs.Common.{refl}
use Rattle.sha2.specs.Sha256.{sha256, digest_bytes, hash_after, compress, rounds, schedule, first_words}
use Rattle.definitions.specs.Tags.{hmac}
use Rattle.worked_examples.proofs.tags.hmac_of_hi_there.Goals as goal

pub returns : goal.returns
unfolding hmac sha256 digest_bytes hash_after compress rounds schedule first_words
returns c = refl
