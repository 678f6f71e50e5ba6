use Rattle.std.proofs.Common.{◌≡◌, ◌∙◌, ◌++◌, ◌∷◌, [], ap, not, filter, List, rules}
use Rattle.std.proofs.lemmas.Fn.{filter_same}
use Rattle.asking.specs.declared.block_copy.BlockCopy.{BlockCopy}
use Rattle.asking.specs.Asking.{is_from, with_copy, with_copy_of}
use Rattle.asking.proofs.question.Question.keep.Goals as goal

pub returns-clause-kept : goal.returns-clause-kept
returns-clause-kept c =
    let others : c.retain.new.self.items
    ≡ filter (λ copy. not (is_from c.args.sender copy)) c.self.inside.copies.items =
    filter_same _ (λ copy. not (is_from c.args.sender copy)) _ (λ x b f call. search rules) _ _
    c.retain.ensures.filtered ∙ ap (filter (λ copy. not (is_from c.args.sender copy))) c.reserve.ensures.items in
    let all : c.push_reserved.new.self.items ≡ with_copy c.args.sender c.args.frame c.self.inside.copies.items =
    c.push_reserved.ensures.items
    ∙ ap (λ (l : List BlockCopy). l ++ record { sender = c.args.sender; frame = c.args.frame } ∷ []) others in
    ap (λ (l : List BlockCopy). record {
      block = c.self.inside.block;
      payer = c.self.inside.payer;
      whom = c.self.inside.whom;
      times = c.self.inside.times;
      asked = c.self.inside.asked;
      due = c.self.inside.due;
      behind = c.self.inside.behind;
      copies = l;
    }) all
    ∙ ap (with_copy_of c.args.sender c.args.frame) c.self.view_is
