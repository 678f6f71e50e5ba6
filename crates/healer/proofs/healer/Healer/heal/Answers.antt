use Rattle.std.proofs.Common.{◌∙◌, ℕ, List, OnOk, subst, sym}
use Rattle.recovery.specs.Healing.{ask_again}
use Rattle.healer.specs.Courses.{AreCorrect, GoesWhere}
use Rattle.healer.proofs.Agreeing.{heals, heals-all}
use Rattle.healer.proofs.Receipts.{answers-is}
use Rattle.healer.proofs.healer.Healer.heal.Goals as goal

pub returns-clause-came : goal.returns-clause-came
returns-clause-came c =
    let rs : List ℕ = c.deref.result.now in
    heals-all c.args.request rs c.args.self.now c.ask_again.new.healer c.ask_again.result
    (λ hs w t. c.deref.ensures.value ∙ c.in_ok-correct.ensures hs w t)
    (heals c.args.request rs (AreCorrect rs) c.args.self.now c.agree_on.new.healer c.ask_again.new.healer
    c.ask_again.result (λ w x. x) c.in_ok-agree_on.ensures.came
    (subst (λ (ps : List ℕ). OnOk c.ask_again.result
    (GoesWhere c.agree_on.new.healer (AreCorrect ps) (ask_again c.args.request) c.ask_again.new.healer))
    (c.deref-2.ensures.value ∙ sym c.deref.ensures.value) c.ask_again.ensures.came))

pub returns-clause-answers : goal.returns-clause-answers
returns-clause-answers c =
    answers-is c.args.request c.args.self.now c.ask_again.new.healer c.ask_again.result c.never_wedged.ensures
    c.holds.ensures.own c.holds.ensures.world (returns-clause-came c)
