use Rattle.std.proofs.Common.{subst}
use Rattle.healer.specs.Courses.{Course, ToldWhere, HasReplica, IsReplicaIn}
use Rattle.healer.proofs.Tellings.{replica-told, nobody-told}
use Rattle.healer.proofs.healer.Healer.replica.Goals as goal

pub returns-in-Some : goal.returns-in-Some
returns-in-Some c =
    subst (λ (x : Course). ToldWhere x (HasReplica c.args.number) (λ w.
    IsReplicaIn w c.args.number c.replica-in-Some.result.now)) c.self.view_is
    (replica-told c.self.inside.running c.args.number c.in-Some.archived.now c.replica-in-Some.result.now
    c.in-Some.ensures c.replica-in-Some.ensures)

pub returns-in-None : goal.returns-in-None
returns-in-None c =
    subst (λ (x : Course). ToldWhere x (HasReplica c.args.number) (λ w. ⊥)) c.self.view_is
    (nobody-told c.self.inside.running c.args.number c.in-None.ensures)
