use Rattle.mc_lines.proofs.Canonicals.{short}
use Rattle.mc_lines.proofs.canonical.CanonicalText.as_slice.Goals as goal

pub returns-clause-few : goal.returns-clause-few
returns-clause-few c = short c.self.inside.bytes.now c.self.invariant
