use Rattle.std.proofs.Common.{◌∷◌, ◌∙◌, ap, sym, subst, List}
use Rattle.std.specs.Prelude.{Result, Ok, Err, OnErr}
use Rattle.definitions.specs.Tally.{Told}
use Rattle.client_accept.specs.Tallies.{tally_of, AreAmong}
use Rattle.client_accept.specs.declared.tally.Counted.{Counted}
use Rattle.client_accept.proofs.Tallies.{tally-kept, among-kept, tally-next}
use Rattle.client_accept.proofs.tally.Tally.count.Goals as goal

-- what holds holds of each answer
at_err : {T E P : Type 0} (r : Result T E) → P → OnErr r P
at_err (Ok x) p = tt
at_err (Err e) p = p

pub returns-in_err-answer-clause-unchanged : goal.returns-in_err-answer-clause-unchanged
returns-in_err-answer-clause-unchanged c =
    at_err c.from_residual-in_err-answer.result
    (ap (tally_of c.keep.new.answers.items) c.reserve.ensures.items
    ∙ tally-kept c.self.inside.answers.items c.keep.new.answers.items c.self.inside.counted.items
    c.keep.ensures.longer c.self.invariant
    ∙ c.self.view_is)

pub invariant_of-self-2 : goal.invariant_of-self-2
invariant_of-self-2 c =
    subst (AreAmong c.keep.new.answers.items) (sym (c.in_ok-insert.ensures.items
    ∙ ap (λ (cs : List Counted). record { replica = c.args.replica; answer = c.in_ok-answer.answer }
    ∷ cs) c.reserve.ensures.items)) (
      c.in_ok-answer.ensures.kept.0,
      among-kept c.self.inside.answers.items c.keep.new.answers.items c.self.inside.counted.items
          c.keep.ensures.longer c.self.invariant,
    )

pub returns-clause-counted : goal.returns-clause-counted
returns-clause-counted c =
    let last : Counted = record { replica = c.args.replica; answer = c.in_ok-answer.answer } in
    ap (tally_of c.keep.new.answers.items)
    (c.in_ok-insert.ensures.items ∙ ap (λ (cs : List Counted). last ∷ cs) c.reserve.ensures.items)
    ∙ tally-next c.self.inside.answers.items c.keep.new.answers.items c.self.inside.counted.items last
    c.args.place c.args.text.now c.keep.ensures.longer c.self.invariant c.in_ok-answer.ensures.kept.1
    ∙ ap (λ (ts : List Told).
    record { replica = c.args.replica; place = c.args.place; text = c.args.text.now } ∷ ts)
    c.self.view_is
