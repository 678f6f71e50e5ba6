use Rattle.std.proofs.Common.{◌≡◌, ◌∙◌, ap, sym, subst, List, rules, not, filter}
use Rattle.std.proofs.lemmas.Fn.{filter_same}
use Rattle.asking.specs.Asking.{Asking, IsBounded, Question, is_paid_by}
use Rattle.asking.proofs.Bounds.{filter-bounded}
use Rattle.asking.proofs.questions.Questions.take_out_of.Goals as goal

left : (c : goal.After-retain)
    → c.retain.new.self.items ≡ filter (λ q. not (is_paid_by c.args.payer q)) c.self.inside.questions.items
left c =
    filter_same _ (λ q. not (is_paid_by c.args.payer q)) _ (λ x b f call. search rules) _ _ c.retain.ensures.filtered

pub invariant_of-self : goal.invariant_of-self
invariant_of-self c =
    subst (λ (qs : List Question). IsBounded (record {
      replicas = c.self.inside.replicas;
      questions = qs;
      turn = c.self.inside.turn;
      pace = c.self.inside.pace;
    }))
    (sym (left c)) (filter-bounded _ (λ q. not (is_paid_by c.args.payer q)) c.self.invariant)

pub returns : goal.returns
returns c =
    ap (λ (qs : List Question). record {
      replicas = c.self.inside.replicas;
      questions = qs;
      turn = c.self.inside.turn;
      pace = c.self.inside.pace;
    }) (left c)
    ∙ ap (λ (a : Asking). record a { questions = filter (λ q. not (is_paid_by c.args.payer q)) a.questions })
    c.self.view_is
