use Rattle.std.proofs.Common.{◌≡◌, ◌∙◌, ◌<◌, ap, sym, subst, refl, List, Some, true, get_or, length, set}
use Rattle.std.specs.Prelude.{slice_get}
use Rattle.std.proofs.lemmas.Slice.Eq.{bytes_eq-Decides}
use Rattle.asking.specs.Asking.{Asking, Question, allows, ask_of, asked_at, blocks_among, changed, counted, is_for, one_behind}
use Rattle.asking.proofs.Bounds.{IsLike, set-bounded}
use Rattle.asking.proofs.Changing.{changed-at, read-at, within-at}
use Rattle.asking.proofs.questions.Questions.ask.Goals as goal

pub invariant_of-self : goal.invariant_of-self
invariant_of-self c =
    let first = c.in_ok-place.ensures in
    let within : c.in_ok-place.place < length c.self.inside.questions.items =
    subst (λ (a : Asking). c.in_ok-place.place < length a.questions) (sym c.self.view_is)
    (within-at c.args.self.now.questions c.in_ok-place.place first.0 first.1) in
    let like : IsLike c.index_mut.result.now c.ask.new.self =
    subst (IsLike c.index_mut.result.now) (sym c.ask.ensures.asked) (refl, refl, refl) in
    set-bounded _ c.in_ok-place.place c.index_mut.result.now c.ask.new.self c.one_behind-self-inside.result
    c.count.new.self c.self.invariant within c.index_mut.ensures.value like.0 like.1 like.2
    c.one_behind-self-inside.ensures.within c.count.ensures.few

pub returns-clause-asks : goal.returns-clause-asks
returns-clause-asks c =
    let first = c.in_ok-place.ensures in
    let old : Question = c.index_mut.result.now in
    let qs : List Question = c.self.inside.questions.items in
    let at : slice_get qs c.in_ok-place.place ≡ Some first.0 =
    ap (λ (a : Asking). slice_get a.questions c.in_ok-place.place) c.self.view_is ∙ first.1 in
    let within : c.in_ok-place.place < length qs = within-at qs c.in_ok-place.place first.0 at in
    let is : old ≡ first.0 = read-at qs c.in_ok-place.place old first.0 c.index_mut.ensures.value at in
    let read : c.index.result.now ≡ first.0 =
    read-at qs c.in_ok-place.place c.index.result.now first.0 c.index.ensures at in
    let own : is_for first.0.block (get_or qs c.in_ok-place.place old) ≡ true =
    ap (is_for first.0.block) (sym c.index_mut.ensures.value ∙ is)
    ∙ (bytes_eq-Decides first.0.block first.0.block).1 refl in
    let written : set qs c.in_ok-place.place c.ask.new.self ≡ changed first.0.block (asked_at c.args.now c.self.inside.pace.wait) qs =
    ap (set qs c.in_ok-place.place) (c.ask.ensures.asked ∙ (λ j. asked_at c.args.now (c.wait-wait.ensures j) (c.index_mut.ensures.value j)))
    ∙ changed-at (is_for first.0.block) (asked_at c.args.now c.self.inside.pace.wait) qs c.in_ok-place.place old within own
    (c.self.invariant.once first.0.block) in
    let turn : c.one_behind-self-inside.result ≡ one_behind c.self.inside.replicas first.0.payer =
    c.one_behind-self-inside.ensures.behind
    ∙ ap (one_behind c.self.inside.replicas) (c.payer.ensures ∙ ap (λ (q : Question). q.payer) read) in
    record {
      allowed = ap (λ (a : Asking). allows (blocks_among a.replicas) c.args.now a.pace) (sym c.self.view_is)
          ∙ ap (λ m. allows m c.args.now c.self.inside.pace) (sym c.blocks_among-most.ensures.blocks)
          ∙ sym c.allows.ensures.allows ∙ c.if-not-allows.false;
      place = c.in_ok-place.place;
      question = first.0;
      next = record {
        at = first.1;
        due = first.2;
        first = λ k other at' due'.
            first.3 k other (within-at c.args.self.now.questions k other at') at' due';
      };
      ask_is = c.ask.ensures.ask ∙ ap ask_of is;
      is = (λ j. record {
        replicas = c.self.inside.replicas;
        questions = written j;
        turn = turn j;
        pace = c.count.ensures.counted j;
      })
          ∙ ap (λ (a : Asking). record a {
            questions = changed first.0.block (asked_at c.args.now a.pace.wait) a.questions;
            turn = one_behind a.replicas first.0.payer;
            pace = counted c.args.now a.pace;
          }) c.self.view_is;
    }
