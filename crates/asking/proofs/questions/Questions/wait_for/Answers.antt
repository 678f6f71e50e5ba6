use Rattle.std.proofs.Common.{◌∙◌, ap, sym, subst, refl}
use Rattle.std.proofs.lemmas.Bool.{cond-true}
use Rattle.std.specs.Prelude.{position}
use Rattle.asking.specs.Asking.{Asking, is_for, waiting_for}
use Rattle.asking.proofs.Bounds.{IsLike, like-bounded}
use Rattle.asking.proofs.Places.{left-alone, put-back}
use Rattle.asking.proofs.questions.Questions.wait_for.Goals as goal

pub invariant_of-self : goal.invariant_of-self
invariant_of-self c =
    like-bounded _ c.in-Some.place c.index_mut.result.now c.wait_for.new.self c.self.inside.turn c.self.inside.pace
    (is_for c.args.block.now) c.self.invariant
    (ap (λ (a : Asking). position (is_for c.args.block.now) a.questions) c.self.view_is ∙ sym c.in-Some.ensures)
    c.index_mut.ensures.value
    (subst (IsLike c.index_mut.result.now) (sym c.wait_for.ensures) (refl, refl, refl)) c.self.invariant.turn
    c.self.invariant.pace

pub returns-in-Some : goal.returns-in-Some
returns-in-Some c =
    put-back (waiting_for c.args.parent) c.args.block.now _ c.args.self.now c.in-Some.place c.index_mut.result.now
    c.wait_for.new.self c.self.view_is (c.self.invariant.once c.args.block.now) (sym c.in-Some.ensures)
    c.index_mut.ensures.value c.wait_for.ensures
    ∙ sym (cond-true _ _ _ (sym c.is_wanted.ensures ∙ c.if-not-is_wanted.false))

pub returns-in_default : goal.returns-in_default
returns-in_default c =
    left-alone (waiting_for c.args.parent) c.args.block.now c.args.self.now (sym c.place_of.ensures ∙ c.in_default.is)
    ∙ sym (cond-true _ _ _ (sym c.is_wanted.ensures ∙ c.if-not-is_wanted.false))
