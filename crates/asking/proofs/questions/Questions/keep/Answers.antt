use Rattle.std.proofs.Common.{◌≡◌, ◌∙◌, ◌<◌, ap, sym, subst, List, Some, true, length}
use Rattle.std.specs.Prelude.{position, option_map}
use Rattle.std.proofs.lemmas.List.Folds.{find-set}
use Rattle.std.proofs.lemmas.List.Quantifiers.{position-Some}
use Rattle.asking.specs.Asking.{Asking, Question, fits, is_for, with_copy_of}
use Rattle.asking.proofs.Bounds.{keep-bounded, may-keep, room-for}
use Rattle.asking.proofs.Changing.{first-place}
use Rattle.asking.proofs.Places.{put-back}
use Rattle.asking.proofs.questions.Questions.keep.Goals as goal

pub returns-clause-kept : goal.returns-clause-kept
returns-clause-kept c =
    put-back (with_copy_of c.args.sender c.args.frame) c.args.block.now _ c.args.self.now c.in_ok-place.place
    c.index_mut.result.now c.keep.new.self c.self.view_is (c.self.invariant.once c.args.block.now)
    c.in_ok-place.ensures.place c.index_mut.ensures.value c.in_ok-keep.ensures.kept

pub returns-clause-count : goal.returns-clause-count
returns-clause-count c =
    let qs : List Question = c.self.inside.questions.items in
    let old : Question = c.index_mut.result.now in
    let at : position (is_for c.args.block.now) qs ≡ Some c.in_ok-place.place =
    ap (λ (a : Asking). position (is_for c.args.block.now) a.questions) c.self.view_is ∙ c.in_ok-place.ensures.place in
    let found = position-Some (is_for c.args.block.now) qs c.in_ok-place.place old at in
    let passes : is_for c.args.block.now c.keep.new.self ≡ true =
    ap (is_for c.args.block.now) c.in_ok-keep.ensures.kept
    ∙ ap (is_for c.args.block.now) c.index_mut.ensures.value ∙ found.1 in
    ap (option_map (λ (q : Question). length q.copies))
    (find-set (is_for c.args.block.now) qs c.in_ok-place.place c.keep.new.self
    (sym (first-place (is_for c.args.block.now) qs c.in_ok-place.place at)) found.0 passes)
    ∙ ap Some (sym c.in_ok-keep.ensures.count)

pub invariant_of-self-2 : goal.invariant_of-self-2
invariant_of-self-2 c =
    let place : position (is_for c.args.block.now) c.self.inside.questions.items ≡ Some c.in_ok-place.place =
    ap (λ (a : Asking). position (is_for c.args.block.now) a.questions) c.self.view_is ∙ c.in_ok-place.ensures.place in
    let may = may-keep c.args.self.now c.args.block.now c.args.sender c.len.result c.in_ok-place.place _
    c.in_ok-place.ensures.refused in
    let below : c.args.sender < c.self.inside.replicas =
    subst (λ (a : Asking). c.args.sender < a.replicas) (sym c.self.view_is) may.0 in
    let room : fits c.args.block.now (length c.args.frame) c.self.inside.questions.items ≡ true =
    ap (λ n. fits c.args.block.now n c.self.inside.questions.items) (sym c.len.ensures.value)
    ∙ ap (λ (a : Asking). fits c.args.block.now c.len.result a.questions) c.self.view_is ∙ may.1 in
    keep-bounded _ c.in_ok-place.place c.index_mut.result.now c.keep.new.self c.args.sender c.args.frame
    c.self.invariant (position-Some (is_for c.args.block.now) c.self.inside.questions.items c.in_ok-place.place
    c.index_mut.result.now place).0
    c.index_mut.ensures.value c.in_ok-keep.ensures.kept below
    (room-for c.self.inside.questions.items c.args.block.now (length c.args.frame) c.in_ok-place.place
    c.index_mut.result.now room place
    c.index_mut.ensures.value)
