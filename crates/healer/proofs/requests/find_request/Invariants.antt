use Rattle.std.proofs.Common.{◌≡◌}
use Rattle.healer.specs.Asked.{find_request}
use Rattle.healer.specs.Courses.{Told}
use Rattle.healer.proofs.Asked.{found_from}
use Rattle.healer.proofs.requests.find_request.Given as goal

abbrev pub invariant-loop-number : goal.invariant-loop-number
invariant-loop-number l =
    Told l.healer (λ w. found_from l.client l.session.session l.number w ≡ find_request l.client l.session.session w)
