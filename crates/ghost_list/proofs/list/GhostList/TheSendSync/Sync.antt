-- What threads share of it is nothing.
use denote.RattleType.{RattleType}
use denote.Param.Send.{IsSend, IsSync, part_keyless}
use Rattle.ghost_list.specs.contracts.list.GhostList.{the_row}
use Rattle.ghost_list.proofs.list.GhostList.TheSendSync.Send.{send}

pub sync : (A : RattleType) → IsSend A → IsSync (the_row A)
sync A a = record { shared = λ d b o κ q. part_keyless (the_row A) (send A a) q d b o }
