-- What stands behind the copied bytes is as before: zeros.
use Rattle.std.proofs.lemmas.List.{drop-replicate}
use Rattle.authenticators.proofs.mac.filled.Goals as goal

pub returns : goal.returns
returns c = rw (c.copy_from_slice.ensures.after, drop-replicate)
