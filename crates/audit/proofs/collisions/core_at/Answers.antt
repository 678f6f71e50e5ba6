use Rattle.std.proofs.Common.{◌∙◌, sym, ap}
use Rattle.definitions.specs.Audit.{core_at}
use Rattle.audit.specs.declared.verdict.CorePlace.{CorePlace}
use Rattle.audit.specs.Judged.{judged}
use Rattle.audit.specs.Verdicts.{place_of}
use Rattle.audit.proofs.collisions.core_at.Goals as goal

pub returns-in-Genesis : goal.returns-in-Genesis
unfolding core_at
returns-in-Genesis c =
    ap (λ (p : CorePlace). core_at (judged c.args.replicas.now) (place_of p)) (sym c.in-Genesis.is)

pub returns-in-Step : goal.returns-in-Step
unfolding core_at
returns-in-Step c =
    c.stored_core.ensures
    ∙ ap (λ (p : CorePlace). core_at (judged c.args.replicas.now) (place_of p)) (sym c.in-Step.is)
