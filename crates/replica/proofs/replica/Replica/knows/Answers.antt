use Rattle.std.proofs.Common.{◌≡◌, Bool, true, false, refl, sym, ap, ◌∙◌}
use Rattle.std.specs.Prelude.{is_some}
use Rattle.definitions.specs.Chronicles.{window}
use Rattle.definitions.specs.States.{find_block, is_known}
use Rattle.definitions.specs.Trees.{blocks, find_in}
use Rattle.replica.specs.Kept.{Variables}
use Rattle.replica.specs.Steps.{Held}
use Rattle.replica.proofs.replica.Replica.knows.Goals as goal

alike : (a b : Bool) → (a ≡ true → b ≡ true) → (b ≡ true → a ≡ true) → a ≡ b
alike true b f g = sym (f refl)
alike false true f g = g refl
alike false false f g = refl

pub returns : goal.returns
unfolding is_known find_block window
returns c =
    alike _ _ c.knows.ensures.0 c.knows.ensures.1
    ∙ ap (λ (v : Variables). is_some (find_in c.args.block.now (blocks v.stored))) c.self.invariant.0.state.same
    ∙ ap (λ (h : Held). is_known c.args.block.now h.replica.chronicle) c.self.view_is
