use Rattle.std.proofs.Common.{◌∙◌, List, Bool, ap}
use Rattle.suspicion.specs.Passing.{PassingState, found}
use Rattle.suspicion.proofs.passing.Passing.find.Goals as goal

pub returns : goal.returns
returns c =
    let p = c.self.inside in
    ap (λ (voters : List Bool). record { most = p.most; voters = voters; told = p.told; tellers = p.tellers; unheard = p.unheard })
    c.passed-self-inside.ensures.set
    ∙ ap (λ (p : PassingState). found p c.args.voters) c.self.view_is
