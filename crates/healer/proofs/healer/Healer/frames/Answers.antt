use Rattle.healer.proofs.Tellings.{at-own}
use Rattle.healer.proofs.healer.Healer.frames.Goals as goal

pub returns : goal.returns
returns c = λ hs w t. c.frames.ensures hs w (at-own _ _ hs w c.self.view_is t)
