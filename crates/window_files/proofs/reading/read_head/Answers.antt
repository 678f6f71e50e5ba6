use Rattle.std.proofs.Common.{◌≡◌, ◌∙◌, arith, sym, ap, codes}
use Rattle.ids.specs.Sizes.{replicas}
use Rattle.deployment.proofs.Only.{same_number, same_sizes}
use Rattle.window_files.proofs.reading.read_head.Goals as goal

pub returns-in-Err-clause-bad : goal.returns-in-Err-clause-bad
returns-in-Err-clause-bad c = λ head rest fits e. c.in-Err.ensures.bad head.config _ fits.0 e

pub returns-in_default-clause-bad : goal.returns-in_default-clause-bad
returns-in_default-clause-bad c = λ head rest fits e.
    let s = same_sizes c.in-Ok.sizes.0 head.config c.in-Ok.sizes.1.now _ c.holds.ensures fits.0
    (sym c.in-Ok.ensures.read ∙ e) in
    let count : replicas c.in-Ok.sizes.0 ≡ replicas head.config = ap replicas s.0 in
    c.in_default.ensures head.number _
    (omega arith, omega (arith, fits.1, count, c.n.ensures.count, c.from.ensures)) s.1

pub returns-in_default-number_within-clause-bad : goal.returns-in_default-number_within-clause-bad
returns-in_default-number_within-clause-bad c = λ head rest fits e.
    let s = same_sizes c.in-Ok.sizes.0 head.config c.in-Ok.sizes.1.now _ c.holds.ensures fits.0
    (sym c.in-Ok.ensures.read ∙ e) in
    let n = same_number (codes "window ") c.in-Some.number.0 head.number c.in-Some.number.1.now _
    (omega (arith, c.in-Some.ensures.0.1)) (omega (arith, fits.0.1, fits.1)) (sym c.in-Some.ensures.1 ∙ s.1) in
    c.in_default-number_within.ensures head.height _ (omega arith, omega (arith, fits.2)) n.1

pub returns-in_default-number_within-2-clause-bad : goal.returns-in_default-number_within-2-clause-bad
returns-in_default-number_within-2-clause-bad c = λ head rest fits e.
    let s = same_sizes c.in-Ok.sizes.0 head.config c.in-Ok.sizes.1.now _ c.holds.ensures fits.0
    (sym c.in-Ok.ensures.read ∙ e) in
    let n = same_number (codes "window ") c.in-Some.number.0 head.number c.in-Some.number.1.now _
    (omega (arith, c.in-Some.ensures.0.1)) (omega (arith, fits.0.1, fits.1)) (sym c.in-Some.ensures.1 ∙ s.1) in
    let h = same_number (codes "executed ") c.in-Some-number_within.height.0 head.height
    c.in-Some-number_within.height.1.now _ (omega (arith, c.in-Some-number_within.ensures.0.1))
    (omega (arith, fits.2)) (sym c.in-Some-number_within.ensures.1 ∙ n.1) in
    c.in_default-number_within-2.ensures head.lowest rest
    (omega (arith, fits.3), omega (arith, fits.4, h.0, c.max.ensures)) h.1
