use Rattle.std.proofs.Common.{◌≡◌, ◌∙◌, ◌++◌, ◌∷◌, [], ap, sym, subst, refl, List, true, false, rules}
use Rattle.asking.specs.Asking.{Asking, IsBounded, Question, has_room, is_wanted}
use Rattle.asking.proofs.Bounds.{push-bounded}
use Rattle.asking.proofs.questions.Questions.need.Goals as goal

pub invariant_of-self-2 : goal.invariant_of-self-2
invariant_of-self-2 c =
    let new : is_wanted c.args.block c.self.inside.questions.items ≡ false =
    ap (λ (a : Asking). is_wanted c.args.block a.questions) c.self.view_is
    ∙ sym c.is_wanted.ensures ∙ c.if-is_wanted.false in
    let room : has_room c.self.inside.replicas c.args.payer c.self.inside.questions.items ≡ true =
    ap (λ (a : Asking). has_room a.replicas c.args.payer a.questions) c.self.view_is
    ∙ sym c.has_room.ensures ∙ search rules in
    subst (λ (qs : List Question). IsBounded (record {
      replicas = c.self.inside.replicas;
      questions = qs;
      turn = c.self.inside.turn;
      pace = c.self.inside.pace;
    }))
    (ap (λ (q : Question). c.self.inside.questions.items ++ q ∷ []) (sym c.new.ensures)
    ∙ sym c.in_ok-push.ensures.items)
    (push-bounded _ _ c.self.invariant new room refl)
