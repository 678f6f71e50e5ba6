use Rattle.std.proofs.Common.{◌≡◌, ◌∙◌, ◌-◌, ◌^◌, ℕ, suc, min, ap, arith}
use Rattle.pacemaker.specs.Pacing.{Pace}
use Rattle.pacemaker.proofs.Reached.{paced-later}
use Rattle.pacemaker.proofs.pacemaker.Pacemaker.timeout.Goals as goal

pub returns-clause-paced : goal.returns-clause-paced
returns-clause-paced c c' o =
    let next : c.saturating_add-next.result ≡ min (suc c.args.self.now.view) (2 ^ 64 - 1) =
    omega (arith, c.saturating_add-next.ensures, ap (λ (p : Pace). p.view) c.self.view_is) in
    paced-later _ _ c' o (c.go_to.ensures ∙ ap (λ (w : ℕ). record c.args.self.now { view = w }) next)
