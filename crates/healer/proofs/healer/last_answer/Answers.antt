use Rattle.std.proofs.Common.{Option, reverse, ap, ◌∙◌, List}
use Rattle.ids.specs.declared.fault.Fault.{Fault}
use Rattle.healer.proofs.Supplied.{last-reversed, same-some, none-is}
use Rattle.healer.proofs.healer.last_answer.Goals as goal

pub returns-in-Some : goal.returns-in-Some
returns-in-Some c = λ hs w a more t e.
    same-some c.in-Some.answer.now a
    (c.in-Some.ensures.value
    ∙ last-reversed c.answers.result.now more a (c.answers.ensures hs w t ∙ ap (λ (l : List (Option Fault)). reverse l) e))

pub returns-in-None : goal.returns-in-None
returns-in-None c = λ hs w a more t e.
    none-is a
    (c.in-None.ensures.value
    ∙ last-reversed c.answers.result.now more a (c.answers.ensures hs w t ∙ ap (λ (l : List (Option Fault)). reverse l) e))
