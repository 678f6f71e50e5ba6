use Rattle.std.proofs.Common.{ap, ◌∙◌, subst}
use Rattle.ids.specs.Sizes.{Sizes, AreSizes}
use Rattle.definitions.specs.Keyrings.{Keys}
use Rattle.definitions.specs.Checks.{identity_of}
use Rattle.admission.specs.Lacking.{IsLackedBy}
use Rattle.replica.specs.Steps.{Held}
use Rattle.world_schedule.specs.Asking.{checks_of}
use Rattle.world_schedule.proofs.Asking.{bytes-if, way-right}
use Rattle.world_schedule.proofs.replica_turn.receive.Goals as goal

pub returns-clause-taken : goal.returns-clause-taken
returns-clause-taken c =
    let keys = c.args.replica.now.keys in
    bytes-if c.replica-3.result.now.keys keys
    (ap (λ (r : Held). identity_of r.keys) c.replica-3.ensures
    ∙ ap (λ (k : Keys). identity_of k) c.take-answer.ensures.keys)
    c.args.replica.now.replica c.take-answer.new.self.replica c.take-answer.result
    (checks_of c.args.way) c.args.bytes.now
    c.missing-lack.result c.tell.result
    (subst AreSizes (c.config.ensures ∙ ap (λ (r : Held). r.keys.sizes) c.replica.ensures) c.holds.ensures)
    (λ read. way-right c.args.way (identity_of keys) read c.args.replica.now.replica.chronicle)
    (subst (λ (z : Sizes). IsLackedBy z c.args.bytes.now c.missing-lack.result)
    (c.config-2.ensures ∙ ap (λ (r : Held). r.keys.sizes) c.replica-2.ensures) c.missing-lack.ensures.lacked)
    c.take-answer.ensures.taken c.tell.ensures.told
