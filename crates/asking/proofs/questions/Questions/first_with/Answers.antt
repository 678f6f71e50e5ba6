use Rattle.std.proofs.Common.{◌∙◌, sym, inl, inr, subst}
use Rattle.asking.specs.Choosing.{IsSoonerThan}
use Rattle.asking.proofs.Places.{stands-at}
use Rattle.asking.proofs.Choosing.{first-left, first-taken}
use Rattle.asking.proofs.questions.Questions.first_with.Goals as goal
use Rattle.asking.proofs.questions.Questions.first_with.Goals.{else-is_due-via-then-is_due+else-is_sooner}
use Rattle.asking.proofs.questions.Questions.first_with.Goals.{else-is_due-via-else-is_due}

pub returns-then-is_sooner : goal.returns-then-is_sooner
returns-then-is_sooner c =
    let at = stands-at _ c.args.self.now c.args.place c.index.result.now c.self.view_is c.requires.place
    c.index.ensures in
    first-taken c.args.self.now c.args.now c.args.place c.args.first c.index.result.now at
    (sym c.is_due.ensures ∙ c.if-is_due.true)
    (subst (IsSoonerThan c.args.self.now c.index.result.now c.args.first) c.if-is_sooner.true
    (c.is_sooner.ensures _ at))
    c.requires.first

pub returns-else-is_due : goal.returns-else-is_due
returns-else-is_due c =
    let at = stands-at _ c.args.self.now c.args.place c.index.result.now c.self.view_is c.requires.place
    c.index.ensures in
    first-left c.args.self.now c.args.now c.args.place c.args.first c.index.result.now at
    (elim c.else-is_due.branch [
      | else-is_due-via-then-is_due+else-is_sooner w ↦
          inr (subst (IsSoonerThan c.args.self.now c.index.result.now c.args.first) w.if-is_sooner.false
          (w.is_sooner.ensures _ at))
      | else-is_due-via-else-is_due w ↦ inl (sym c.is_due.ensures ∙ w.if-is_due.false)
    ]) c.requires.first
