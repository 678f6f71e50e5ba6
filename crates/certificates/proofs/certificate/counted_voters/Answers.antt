use Rattle.std.proofs.Common.{◌≡◌, ◌+◌, ◌≤◌, ◌∷◌, length, ap, sym, ◌∙◌, arith, add-one}
use Rattle.ids.specs.Sizes.{replicas}
use Rattle.definitions.specs.Bytes.{Bytes}
use Rattle.definitions.specs.Frames.{Vote}
use Rattle.definitions.specs.FrameLimits.{IsVote}
use Rattle.definitions.specs.Checks.{identity_of, vote_verifies}
use Rattle.frames_view.specs.Views.{vote_of, certificate_of, votes_left}
use Rattle.certificates.proofs.Counting.{counted_same, counted_first, counted_last, all-left, votes-few}
use Rattle.certificates.proofs.certificate.counted_voters.Goals as goal

pub loop-vote-init : goal.loop-vote-init
loop-vote-init c =
    let q = certificate_of c.args.certificate.now in
    let all : votes_left c.into_iter-vote-iterator.result ≡ q.votes =
    ap votes_left c.into_iter-vote-iterator.ensures.into_iter_gives ∙ c.votes-vote-items.ensures.value in
    let few : length q.votes ≤ replicas c.args.keyring.now.sizes = votes-few _ q c.requires.certificate in
    record {
      so_far = rw c.new-voters.ensures (counted_first (identity_of c.args.keyring.now) q
          (votes_left c.into_iter-vote-iterator.result) all);
      room = rw (c.new-voters.ensures, all)
          (omega (arith, few, c.n-n.ensures.count, c.n-n.ensures.most, ap replicas c.config.ensures));
      votes = rw all c.requires.certificate.votes;
    }

pub loop-vote-preserved : goal.loop-vote-preserved
loop-vote-preserved c =
    let self = identity_of c.args.keyring.now in
    let q = certificate_of c.args.certificate.now in
    let v : Vote = vote_of c.in-Some.vote in
    let left : votes_left c.loop-vote.vote-iterator ≡ v ∷ votes_left c.next.new.self =
    c.in-Some.ensures.steps in
    let so = c.loop-vote.invariant in
    let len : length (votes_left c.loop-vote.vote-iterator) ≡ length (votes_left c.next.new.self) + 1 =
    ap length left ∙ sym (add-one _) in
    let tested : c.vote_verifies.result ≡ vote_verifies self q.digest v =
    c.vote_verifies.ensures ∙ ap (λ (d : Bytes). vote_verifies self d v) c.digest.ensures.value in
    record {
      so_far = counted_same self q.digest c.loop-vote.voters _ v (votes_left c.next.new.self)
          (sym tested ∙ c.if-vote_verifies.false) (rw left at so.so_far);
      room = omega (arith, so.room, len);
      votes = (all-left (IsVote c.args.keyring.now.sizes) _ _ _ left so.votes).1;
    }

pub returns : goal.returns
returns c = counted_last (identity_of c.args.keyring.now) (certificate_of c.args.certificate.now)
    c.loop-vote.voters (votes_left c.loop-vote.vote-iterator) c.in-None.ensures.steps.0
    c.loop-vote.invariant.so_far
