use Rattle.std.proofs.Common.{◌∙◌, ℕ, List, Bool, ap, nat_le}
use Rattle.suspicion.specs.Passing.{PassingState, spares}
use Rattle.suspicion.specs.ReplicaSets.{both, size, with_replica}
use Rattle.suspicion.proofs.passing.Passing.spares.Goals as goal

pub returns : goal.returns
returns c =
    let p = c.self.inside in
    ap (λ (n : ℕ). nat_le n p.most) (c.len.ensures.size ∙ ap size (c.add.ensures.set
    ∙ ap (λ (all : List Bool). with_replica all c.args.from)
    (c.or-all.ensures ∙ ap (λ (some : List Bool). both some c.args.voters.now) c.or.ensures)))
    ∙ ap (λ (p : PassingState). spares p c.args.from c.args.voters.now) c.self.view_is
