use Rattle.std.proofs.Common.{ap, not}
use Rattle.healer.proofs.fetching.lacks.Goals as goal

pub returns : goal.returns
returns c = λ hs w t l. ap not (c.is_known.ensures hs w t l)
