-- What came so far was heard, and gave no receipt.
use Rattle.std.proofs.Common.{◌≡◌, List, length, map}
use Rattle.definitions.specs.Bytes.{Bytes}
use Rattle.client_service.specs.Links.{came, Goes}
use Rattle.client_service.proofs.service.ClientService.listen.Given as goal

abbrev pub invariant-loop-heard : goal.invariant-loop-heard
invariant-loop-heard g l = (heard : List Bytes) × (length heard ≡ l._heard)
    × Goes g.L.Link.carries (l.fn.self.session, l.fn.self.link) (map came heard) (l.self.session, l.self.link)
