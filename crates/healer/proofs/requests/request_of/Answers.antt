use Rattle.std.specs.Option.{option_and_then}
use Rattle.std.proofs.Common.{ap, ◌∙◌, Option}
use Rattle.definitions.specs.Sessions.{Session}
use Rattle.healer.specs.Asked.{find_request}
use Rattle.healer.proofs.requests.request_of.Goals as goal

pub returns-in-Some : goal.returns-in-Some
returns-in-Some c = λ hs w t l.
    c.find_request.ensures hs w t
    ∙ ap (λ (o : Option Session). option_and_then (λ s. find_request c.args.client s w) o) (c.in-Some.ensures hs w t l)

pub returns-in-None : goal.returns-in-None
returns-in-None c = λ hs w t l.
    ap (λ (o : Option Session). option_and_then (λ s. find_request c.args.client s w) o) (c.in-None.ensures hs w t l)
