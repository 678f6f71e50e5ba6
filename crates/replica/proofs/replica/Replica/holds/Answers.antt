use Rattle.std.proofs.Common.{subst}
use Rattle.audit_ground.specs.Law.{IsLawfullyKept}
use Rattle.audit_ground.proofs.Stored.{stored-blocks_are_named}
use Rattle.replica.specs.Steps.{Held}
use Rattle.replica.proofs.replica.Replica.holds.Goals as goal

pub returns-clause-kept : goal.returns-clause-kept
returns-clause-kept c =
    let r = c.self.inside in
    let o = c.self.invariant.0 in
    subst (λ (h : Held). IsLawfullyKept h.keys.sizes h.replica.chronicle) c.self.view_is
    (stored-blocks_are_named r.keyring.sizes r.state.variables.chronicle o.state.sound.lawful o.stored)
