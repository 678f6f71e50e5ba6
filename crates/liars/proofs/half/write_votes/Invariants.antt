-- What was written and then the other votes are all that are to be written.
use Rattle.std.proofs.Common.{◌≡◌, ◌+◌, ◌++◌, length, map}
use Rattle.std.specs.List.{flat_map}
use Rattle.definitions.specs.Frames.{vote_bytes}
use Rattle.frames_view.specs.Views.{certificate_of, votes_left}
use Rattle.liars.specs.Lies.{halved_vote}
use Rattle.liars.proofs.half.write_votes.Given as goal

abbrev pub invariant-loop-vote : goal.invariant-loop-vote
invariant-loop-vote l =
    let q = certificate_of l.certificate in
    let half = halved_vote l.keyring q.digest l.to in record {
      count : l.count + length (votes_left l.vote-iterator) ≡ length q.votes;
      bytes : l.out.items ++ flat_map vote_bytes (map half (votes_left l.vote-iterator))
          ≡ l.fn.out.items ++ flat_map vote_bytes (map half q.votes);
    }
