-- What is left behind the votes so far, and then the others, is what is left behind all.
use Rattle.std.proofs.Common.{◌≡◌, ◌-◌}
use Rattle.frames_view.specs.Readings.{behind_rising}
use Rattle.frames_view.specs.Parts.{vote_in}
use Rattle.frames_view.proofs.certificate.skip_votes.Given as goal

abbrev pub invariant-loop : goal.invariant-loop
invariant-loop l =
    behind_rising (λ v. v.voter) (vote_in l.replicas) l.least (l.count - l.counter) l.rest
    ≡ behind_rising (λ v. v.voter) (vote_in l.replicas) 0 l.count l.bytes
