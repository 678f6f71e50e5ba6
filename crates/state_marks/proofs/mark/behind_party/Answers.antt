use Rattle.std.proofs.Common.{◌≡◌, ◌++◌, [], ◌∷◌, None, Some, decimal, rules}
use Rattle.std.proofs.lemmas.Bool.Decides.{Decides-eqb}
use Rattle.std.proofs.lemmas.Slice.Eq.{strip_prefix_is}
use Rattle.state_marks.proofs.Reading.{front_read}
use Rattle.state_marks.proofs.mark.behind_party.Goals as goal

pub returns-in_err-rest : goal.returns-in_err-rest
returns-in_err-rest c =
    let digits : c.as_bytes.result.now ≡ decimal c.args.party = search rules in
    let none = strip_prefix_is Decides-eqb c.args.text.now c.as_bytes.result.now None c.in_err-rest.ensures.cases
    in
    rw c.from_residual.ensures (λ rest e. none (32 ∷ rest) (rw digits e))

pub returns : goal.returns
returns c =
    let digits : c.as_bytes.result.now ≡ decimal c.args.party = search rules in
    let front = strip_prefix_is Decides-eqb c.args.text.now c.as_bytes.result.now (Some c.in_ok-rest.rest)
    c.in_ok-rest.ensures.cases in
    front_read c.args.party c.args.text.now c.in_ok-rest.rest.now c.strip_prefix-2.result (rw digits at front)
    (strip_prefix_is Decides-eqb c.in_ok-rest.rest.now (32 ∷ []) c.strip_prefix-2.result
    c.strip_prefix-2.ensures.cases)
