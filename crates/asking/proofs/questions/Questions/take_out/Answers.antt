use Rattle.std.proofs.Common.{◌≡◌, ◌∙◌, ap, sym, subst, List, rules, not, filter}
use Rattle.std.proofs.lemmas.Fn.{filter_same}
use Rattle.asking.specs.Asking.{Asking, IsBounded, Question, is_for}
use Rattle.asking.proofs.Bounds.{filter-bounded}
use Rattle.asking.proofs.questions.Questions.take_out.Goals as goal

left : (c : goal.After-retain)
    → c.retain.new.self.items ≡ filter (λ q. not (is_for c.args.block.now q)) c.self.inside.questions.items
left c =
    filter_same _ (λ q. not (is_for c.args.block.now q)) _ (λ x b f call. search rules) _ _ c.retain.ensures.filtered

pub invariant_of-self : goal.invariant_of-self
invariant_of-self c =
    subst (λ (qs : List Question). IsBounded (record {
      replicas = c.self.inside.replicas;
      questions = qs;
      turn = c.self.inside.turn;
      pace = c.self.inside.pace;
    }))
    (sym (left c)) (filter-bounded _ (λ q. not (is_for c.args.block.now q)) c.self.invariant)

pub returns : goal.returns
returns c =
    ap (λ (qs : List Question). record {
      replicas = c.self.inside.replicas;
      questions = qs;
      turn = c.self.inside.turn;
      pace = c.self.inside.pace;
    }) (left c)
    ∙ ap (λ (a : Asking). record a { questions = filter (λ q. not (is_for c.args.block.now q)) a.questions })
    c.self.view_is
