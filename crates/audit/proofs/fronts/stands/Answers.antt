use Rattle.std.proofs.Common.{◌∙◌, ◌||◌, Bool, not, sym, ap}
use Rattle.std.specs.List.{list_any}
use Rattle.definitions.specs.Lists.{beginning}
use Rattle.definitions.specs.Chronicles.{Chronicle}
use Rattle.audit.specs.Judged.{judged}
use Rattle.audit.specs.Deeds.{does, is_done}
use Rattle.audit.specs.Fronts.{cut_of}
use Rattle.audit.proofs.Missing.{done-in}
use Rattle.audit.proofs.fronts.stands.Goals as goal

pub returns-in-Some : goal.returns-in-Some
returns-in-Some c =
    let ks = judged c.args.replicas.now in
    let k = cut_of c.args.fronts.now in
    let d = c.args.block.now in
    let deed = c.args.deed in
    c.was_done.ensures
    ∙ ap (λ (x : Chronicle). list_any (does deed d) x)
    (c.oldest.ensures ∙ (λ i. beginning (c.made.ensures i) (c.in-Some.ensures.1 i)))
    ∙ done-in deed ks k d c.args.number
    ∙ sym (ap (λ (b : Bool). not b || is_done deed ks k d c.args.number) c.in-Some.ensures.0)
