use Rattle.std.proofs.Common.{◌≡◌, ◌++◌, List, length, ap, ◌∙◌, arith}
use Rattle.std.specs.List.{flat_map}
use Rattle.definitions.specs.Frames.{Vote, vote_bytes}
use Rattle.frames_view.specs.Views.{vote_of}
use Rattle.certificates.proofs.Cutting.{count_more, bytes_more, bytes_all}
use Rattle.certificates.proofs.cut.write_votes.Goals as goal

pub loop-vote-init : goal.loop-vote-init
loop-vote-init c =
    let all = c.into_iter-vote-iterator.ensures.into_iter_gives in
    let len = ap (λ (l : List Vote). length l) all in
    record {
      count = omega (arith, len);
      bytes = ap (λ (l : List Vote). c.args.out.now.items ++ flat_map vote_bytes l) all;
    }

pub overflow_add-count : goal.overflow_add-count
overflow_add-count c =
    let so = c.loop-vote.invariant.count in
    let len = ap (λ (l : List Vote). length l) c.in-Some.ensures.steps in
    omega (arith, so, len, c.requires.few)

pub loop-vote-preserved : goal.loop-vote-preserved
loop-vote-preserved c =
    let v : Vote = vote_of c.in-Some.vote in
    let put : c.write_certified_vote.new.out.items ≡ c.loop-vote.out.items ++ vote_bytes v =
    c.in_ok-write_certified_vote.ensures.appended
    ∙ (λ i. c.loop-vote.out.items ++ vote_bytes
    (record { voter = c.voter.ensures i; vector = c.vector.ensures.value i })) in
    record {
      count = count_more v c.loop-vote.vote-iterator c.next.new.self c.in-Some.ensures.steps
          c.loop-vote.count _ c.loop-vote.invariant.count;
      bytes = bytes_more v c.loop-vote.vote-iterator c.next.new.self c.in-Some.ensures.steps
          c.loop-vote.out.items _ _ put c.loop-vote.invariant.bytes;
    }

pub returns-clause-count : goal.returns-clause-count
returns-clause-count c =
    let so = c.loop-vote.invariant.count in
    let len = ap (λ (l : List Vote). length l) c.in-None.ensures.steps.0 in
    omega (arith, so, len)

pub returns-clause-bytes : goal.returns-clause-bytes
returns-clause-bytes c =
    bytes_all c.loop-vote.out.items _ c.loop-vote.vote-iterator c.in-None.ensures.steps.0
    c.loop-vote.invariant.bytes
