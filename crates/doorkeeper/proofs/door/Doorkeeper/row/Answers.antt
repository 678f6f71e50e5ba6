use Rattle.std.proofs.Common.{ℕ, ◌≡◌, ◌∙◌, ap, Option, Some, None, List, nat_eq}
use Rattle.std.specs.HashMap.{get}
use Rattle.doorkeeper.specs.Doors.{DoorState, brought}
use Rattle.doorkeeper.specs.Rows.{count_in}
use Rattle.doorkeeper.proofs.door.Doorkeeper.row.Goals as goal

pub returns-in-Some : goal.returns-in-Some
returns-in-Some c = λ payer l.
    let row : Option (List ℕ) = Some c.in-Some.row.now in
    let found : row ≡ get nat_eq c.self.inside.rows c.args.height =
    c.in-Some.ensures.value ∙ ap (get nat_eq c.self.inside.rows) c.height.view_is in
    ap (count_in payer) found
    ∙ (c.self.invariant.2.right c.args.height payer l
    ∙ ap (λ (d : DoorState). brought c.args.height payer d.taken) c.self.view_is)

pub returns-in-None : goal.returns-in-None
returns-in-None c = λ payer l.
    let row : Option (List ℕ) = None in
    let found : row ≡ get nat_eq c.self.inside.rows c.args.height =
    c.in-None.ensures.value ∙ ap (get nat_eq c.self.inside.rows) c.height.view_is in
    c.new.ensures payer
    ∙ (ap (count_in payer) found
    ∙ (c.self.invariant.2.right c.args.height payer l
    ∙ ap (λ (d : DoorState). brought c.args.height payer d.taken) c.self.view_is))
