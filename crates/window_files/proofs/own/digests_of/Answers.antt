use Rattle.std.proofs.Common.{◌≡◌, ◌+◌, ℕ, arith, sym, ◌∙◌, subst, refl}
use Rattle.definitions.specs.Lists.{beginning}
use Rattle.definitions.specs.Chronicles.{executed}
use Rattle.window_files.specs.Windows.{AreShown}
use Rattle.window_files.proofs.Shown.{none_shown, one_more_shown, told_within, long_enough}
use Rattle.window_files.proofs.own.digests_of.Goals as goal

pub loop-place-init : goal.loop-place-init
loop-place-init c =
    rw c.new-digests.ensures.items (none_shown c.args.replica.now.replica.chronicle c.args.head.now.lowest)

pub unwrap-digest-requires : goal.unwrap-digest-requires
unwrap-digest-requires c =
    let there = told_within c.args.replica.now.keys.sizes c.args.replica.now.keys.party c.args.replica.now.replica
    c.args.head.now c.number_of-lowest.result c.loop-place.place c.requires.own c.number_of-lowest.ensures
    (omega arith) in
    rw (c.executed_block_at.ensures, there) refl

pub loop-place-preserved : goal.loop-place-preserved
loop-place-preserved c =
    let chronicle = c.args.replica.now.replica.chronicle in
    let at = c.number_of-lowest.result + c.loop-place.place in
    let there = told_within c.args.replica.now.keys.sizes c.args.replica.now.keys.party c.args.replica.now.replica
    c.args.head.now c.number_of-lowest.result c.loop-place.place c.requires.own c.number_of-lowest.ensures
    (omega arith) in
    let long = long_enough c.unwrap-digest.result c.executed_block_at.result
    (beginning at (executed chronicle)) c.unwrap-digest.ensures (c.executed_block_at.ensures ∙ there) in
    one_more_shown chronicle c.args.head.now.lowest c.number_of-lowest.result c.loop-place.place
    c.loop-place.digests.items c.push.new.self.items c.unwrap-digest.result c.loop-place.invariant
    (long, c.hold.ensures) c.number_of-lowest.ensures (sym c.unwrap-digest.ensures ∙ c.executed_block_at.ensures)
    c.in_ok-push.ensures.items

pub returns : goal.returns
returns c =
    let last : c.loop-place.place ≡ c.count-place-end.result = omega arith in
    subst (λ (n : ℕ). AreShown c.args.replica.now.replica.chronicle c.args.head.now.lowest n c.loop-place.digests.items)
    (last ∙ c.count-place-end.ensures) c.loop-place.invariant
