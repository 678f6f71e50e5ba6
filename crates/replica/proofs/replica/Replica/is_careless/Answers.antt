use Rattle.std.proofs.Common.{ap, ◌∙◌, ◌≤◌, subst, sym}
use Rattle.definitions.specs.Trees.{blocks}
use Rattle.frames_view.specs.Views.{core_of}
use Rattle.replica.specs.Careful.{justifies_below, is_careless}
use Rattle.replica.specs.Kept.{Variables}
use Rattle.replica.specs.Steps.{Held}
use Rattle.replica.proofs.Careful.{careless-is, horizon-locked}
use Rattle.replica.proofs.replica.Replica.is_careless.Goals as goal

pub returns : goal.returns
returns c =
    let r = c.self.inside in
    let o = c.self.invariant.0.state in
    let core = core_of c.args.core.now in
    let reach = subst (λ (v : Variables). v.horizon ≤ v.rules.lock.height) (sym o.same)
    (horizon-locked r.state.variables.chronicle) in
    c.is_careless.ensures reach
    ∙ ap (λ (v : Variables). justifies_below v.rules.lock.height core (blocks v.stored)) o.same
    ∙ careless-is core r.state.variables.chronicle
    ∙ ap (λ (h : Held). is_careless core h.replica.chronicle) c.self.view_is
