-- The tries so far gave no receipt.
use Rattle.std.proofs.Common.{List}
use Rattle.std.specs.List.{flat_map}
use Rattle.client_service.specs.Links.{Goes}
use Rattle.client_service.specs.Calls.{Try, try_traffic}
use Rattle.client_service.proofs.Tries.{Left}
use Rattle.client_service.proofs.service.ClientService.ask.Given as goal

abbrev pub invariant-loop-left : goal.invariant-loop-left
invariant-loop-left g l = (tries : List Try) × Left l.left tries
    × Goes g.L.Link.carries (l.fn.self.session, l.fn.self.link)
    (flat_map (try_traffic l.fn.self.session.frame) tries) (l.self.session, l.self.link)

abbrev pub decreases-loop-left : goal.decreases-loop-left
decreases-loop-left g l = l.left
