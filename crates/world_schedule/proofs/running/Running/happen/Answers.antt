use Rattle.std.proofs.Common.{◌≡◌, Option, Some, IfSome, sym, ap, subst, ◌∙◌, arith}
use Rattle.world_schedule.specs.declared.running.State.{State}
use Rattle.world_schedule.specs.Settings.{Setting}
use Rattle.world_schedule.specs.Progress.{ComesTo, HasCome, Stand, Happened}
use Rattle.world_schedule.proofs.Runs.{sent-so-far, next-come, next-stand, stand-comes}
use Rattle.world_schedule.proofs.running.Running.happen.Goals as goal

pub returns-in-Err-clause-happened : goal.returns-in-Err-clause-happened
returns-in-Err-clause-happened c = λ hs w t.
    let s = c.self.inside.world.now in
    let there : c.self.inside.state ≡ Some c.in-Some.state = sym c.take.ensures.value ∙ c.in-Some.is in
    let comes : ComesTo s c.in-Some.state hs w =
    stand-comes s c.in-Some.state c.args.self.now hs w
    (sym c.self.view_is ∙ ap (λ (o : Option State). record { setting = s; state = o }) there) t in
    c.in-Err.ensures w comes.now_at (sent-so-far s c.in-Some.state hs w c.holds.ensures (omega arith) comes)

pub invariant_of-self-2 : goal.invariant_of-self-2
invariant_of-self-2 c =
    let s = c.self.inside.world.now in
    let there : c.self.inside.state ≡ Some c.in-Some.state = sym c.take.ensures.value ∙ c.in-Some.is in
    let h : HasCome s c.in-Some.state =
    subst (λ (o : Option State). IfSome o (HasCome s)) there c.self.invariant in
    next-come s c.args.event.now c.in-Some.state c.happen.new.self h.happenings h.world h.comes
    (c.in_default-happen.ensures h.world h.comes.now_at
    (sent-so-far s c.in-Some.state h.happenings h.world c.holds.ensures (omega arith) h.comes))

pub returns-clause-happened : goal.returns-clause-happened
returns-clause-happened c = λ hs w t.
    let s = c.self.inside.world.now in
    let there : c.self.inside.state ≡ Some c.in-Some.state = sym c.take.ensures.value ∙ c.in-Some.is in
    let comes : ComesTo s c.in-Some.state hs w =
    stand-comes s c.in-Some.state c.args.self.now hs w
    (sym c.self.view_is ∙ ap (λ (o : Option State). record { setting = s; state = o }) there) t in
    subst (λ (z : Setting). Happened z hs w c.args.event.now (record { setting = s; state = Some c.happen.new.self }))
    (ap (λ (x : Stand). x.setting) c.self.view_is)
    (next-stand s c.args.event.now c.in-Some.state c.happen.new.self hs w comes
    (c.in_default-happen.ensures w comes.now_at
    (sent-so-far s c.in-Some.state hs w c.holds.ensures (omega arith) comes)))
