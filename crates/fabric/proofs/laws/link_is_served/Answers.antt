use Rattle.fabric.proofs.Serving.{link-served}
use Rattle.fabric.proofs.laws.link_is_served.Goals as goal

pub returns : goal.returns
returns g c = link-served _ c.others_come_nearer.ensures
