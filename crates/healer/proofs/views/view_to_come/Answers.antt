use Rattle.std.proofs.Common.{arith}
use Rattle.healer.proofs.Waits.{to-come}
use Rattle.healer.proofs.views.view_to_come.Goals as goal

pub returns-in-Some-next_led : goal.returns-in-Some-next_led
returns-in-Some-next_led c = λ hs w t x.
    to-come w c.args.correct.now c.args.leader c.highest_view.result c.in-Some.above c.in-Some-next_led.view
    c.config.result x (c.config.ensures hs w t) (c.highest_view.ensures hs w t x)
    (let e = c.in-Some.ensures.1 in let v = c.checked_add.view_is in omega (arith, e, v)) c.in-Some-next_led.ensures
