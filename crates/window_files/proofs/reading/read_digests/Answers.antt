use Rattle.std.proofs.Common.{◌≡◌, arith, subst, ℕ}
use Rattle.window_files.proofs.Digests.{AreRead, none_read, one_more, no_digest, something_left, all_read, is_nothing}
use Rattle.window_files.proofs.reading.read_digests.Goals as goal

pub loop-place-init : goal.loop-place-init
loop-place-init c = rw c.new-digests.ensures.items (none_read c.args.text.now)

pub loop-place-preserved : goal.loop-place-preserved
loop-place-preserved c =
    one_more c.loop-place.place c.args.text.now c.loop-place.rest.now c.in-Some.found.1.now
    c.loop-place.digests.items c.push.new.self.items c.in-Some.found.0 c.loop-place.invariant c.in-Some.ensures.0
    c.in-Some.ensures.1 c.in_ok-push.ensures.items

pub returns-in_default-clause-bad : goal.returns-in_default-clause-bad
returns-in_default-clause-bad c = λ line same found are.
    no_digest c.loop-place.place c.args.count c.args.text.now c.loop-place.rest.now c.loop-place.digests.items found
    (omega arith) c.loop-place.invariant c.in_default.ensures are

pub returns-then-is_empty-clause-read : goal.returns-then-is_empty-clause-read
returns-then-is_empty-clause-read c =
    let last : c.loop-place.place ≡ c.args.count = omega arith in
    all_read c.args.count c.args.text.now c.loop-place.rest.now c.loop-place.digests.items
    (subst (λ (n : ℕ). AreRead n c.args.text.now c.loop-place.digests.items c.loop-place.rest.now) last
    c.loop-place.invariant)
    (is_nothing c.loop-place.rest.now c.if-is_empty.ensures)

pub returns-else-is_empty-clause-bad : goal.returns-else-is_empty-clause-bad
returns-else-is_empty-clause-bad c = λ line same found are.
    let last : c.loop-place.place ≡ c.args.count = omega arith in
    something_left c.args.count c.args.text.now c.loop-place.rest.now c.loop-place.digests.items found
    (subst (λ (n : ℕ). AreRead n c.args.text.now c.loop-place.digests.items c.loop-place.rest.now) last
    c.loop-place.invariant)
    (λ empty. let none = rw empty at c.if-is_empty.ensures in cc none) are
