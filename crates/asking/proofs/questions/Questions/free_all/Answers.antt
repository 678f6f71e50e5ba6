use Rattle.std.proofs.Common.{rules, ◌≡◌, ◌<◌, ◌≤◌, ◌++◌, length, set, get_or, ap, ◌∙◌, map, subst, sym, List}
use Rattle.std.proofs.lemmas.List.{append-nil, drop_all, take_all, with_items_is}
use Rattle.std.proofs.lemmas.List.Edits.{map_over_more}
use Rattle.asking.specs.Asking.{IsBounded, Question, freed}
use Rattle.asking.proofs.Bounds.{map-bounded, freed-like}
use Rattle.asking.proofs.questions.Questions.free_all.Goals as goal

pub loop-question-preserved : goal.loop-question-preserved
loop-question-preserved c =
    let within : c.loop-question.question-index < length c.deref_mut-question-items.result.now = search rules in
    ap (set c.loop-question.question-items c.loop-question.question-index) c.free.ensures
    ∙ map_over_more freed _ _ _ _ within c.loop-question.invariant
    (ap (get_or c.loop-question.question-items c.loop-question.question-index) c.question-item.is)

pub invariant_of-self : goal.invariant_of-self
invariant_of-self c =
    let f = freed in
    let was : List Question = c.deref_mut-question-items.result.now in
    let past : length was ≤ c.loop-question.question-index = c.loop-question-test.false in
    let all : c.loop-question.question-items ≡ map f c.self.inside.questions.items =
    c.loop-question.invariant
    ∙ (λ j. map f (take_all c.loop-question.question-index was past j)
    ++ drop_all c.loop-question.question-index was past j)
    ∙ append-nil (map f was) ∙ ap (map f) c.deref_mut-question-items.ensures.value in
    let size : length c.loop-question.question-items ≡ c.self.inside.questions.len =
    c.loop-question.auto.question-items ∙ c.deref_mut-question-items.ensures.len in
    subst (λ (qs : List Question). IsBounded (record {
      replicas = c.self.inside.replicas;
      questions = qs;
      turn = c.self.inside.turn;
      pace = c.self.inside.pace;
    }))
    (sym (with_items_is c.self.inside.questions c.loop-question.question-items size ∙ all))
    (map-bounded _ f (λ q. (freed-like q).0) (λ q. (freed-like q).1)
    (λ q. (freed-like q).2) c.self.invariant)
