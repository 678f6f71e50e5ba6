use Rattle.std.proofs.Common.{sym, arith, ◌≤◌, ◌+◌, ◌≡◌, ℕ, ap, ◌∙◌, ◌-◌}
use Rattle.definitions.specs.Frames.{Vote}
use Rattle.frames_view.specs.Readings.{behind_rising}
use Rattle.frames_view.specs.Parts.{vote_in}
use Rattle.frames_view.specs.Views.{vote_of}
use Rattle.frames_view.proofs.Walks.{rising_goes_on}
use Rattle.frames_view.proofs.certificate.skip_votes.Goals as goal

pub loop-preserved : goal.loop-preserved
loop-preserved c =
    let read = vote_in c.args.replicas in
    let rank : Vote → ℕ = λ v. v.voter in
    let one = c.in_ok-vote in
    let same : c.from-voter.result ≡ one.vote.voter = c.from-voter.ensures in
    let high : c.loop.least ≤ one.vote.voter = omega (arith, c.if-voter-least.false, same) in
    ap (λ (k : ℕ). behind_rising rank read (k + 1) (c.args.count - (c.loop.counter + 1)) one.after.now) same
    ∙ rising_goes_on read c.args.count c.loop.counter c.loop.rest.now
    (behind_rising rank read 0 c.args.count c.args.bytes.now) rank c.loop.least (vote_of one.vote)
    one.after.now c.loop-test.true (sym one.ensures.taken) high c.loop.invariant
