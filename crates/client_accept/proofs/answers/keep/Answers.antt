use Rattle.std.proofs.Common.{◌≡◌, ◌∙◌, ap, sym, Some}
use Rattle.std.specs.Prelude.{◌==◌, ◌&&◌}
use Rattle.std.specs.List.{position}
use Rattle.std.specs.Str.{bytes_eq}
use Rattle.client_accept.specs.declared.answers.Answer.{Answer}
use Rattle.client_accept.proofs.Tallies.{said-found}
use Rattle.client_accept.proofs.answers.keep.Goals as goal

pub returns-in-Some-clause-kept : goal.returns-in-Some-clause-kept
returns-in-Some-clause-kept c =
    let found : position
    (λ (a : Answer). (a.place == c.args.place) && bytes_eq a.text.items c.args.text.now)
    c.args.answers.now.items ≡ Some c.in-Some.number =
    ap (position (λ (a : Answer). (a.place == c.args.place) && bytes_eq a.text.items c.args.text.now))
    (sym c.as_slice.ensures.value) ∙ sym c.number_of.ensures ∙ c.in-Some.is in
    said-found _ _ _ _ found
