use Rattle.std.proofs.Common.{◌≡◌, ◌∙◌, ap, arith, length, not, ℕ, ◌≤◌}
use Rattle.std.specs.Prelude.{option_map}
use Rattle.definitions.specs.Bytes.{Bytes}
use Rattle.definitions.specs.Trees.{blocks, find_in}
use Rattle.frames_view.specs.Views.{core_of}
use Rattle.block_tree.specs.Finding.{justifies_in}
use Rattle.replica.proofs.Careful as careful
use Rattle.replica.proofs.branch.justifies_below.Goals as goal

pub returns-then-justified-height : goal.returns-then-justified-height
returns-then-justified-height c low =
    careful.above-parent c.args.least (core_of c.args.core.now) (blocks c.args.tree.now.stored) c.in-Some.height
    (c.in-Some.ensures ∙ ap (λ (d : Bytes). option_map length (find_in d (blocks c.args.tree.now.stored))) c.parent.ensures.value)
    (omega (arith, c.if-justified-height.true, c.height-2.view_is, c.justified.view_is, c.justify_height-justified.ensures))

pub returns-then-justified-least : goal.returns-then-justified-least
returns-then-justified-least c low =
    careful.below-lock c.args.least (core_of c.args.core.now) (blocks c.args.tree.now.stored) c.in-Some.height
    (c.in-Some.ensures ∙ ap (λ (d : Bytes). option_map length (find_in d (blocks c.args.tree.now.stored))) c.parent.ensures.value)
    (omega (arith, c.if-justified-height.false, c.height-2.view_is, c.justified.view_is, c.justify_height-justified.ensures))
    (omega (arith, c.if-justified-least.true, c.least.view_is, c.justified.view_is, c.justify_height-justified.ensures))

pub returns : goal.returns
returns c low =
    let core = core_of c.args.core.now in
    let tree = blocks c.args.tree.now.stored in
    let least : c.args.least ≤ core.justify_height =
    omega (arith, c.if-justified-least.false, c.least.view_is, c.justified.view_is, c.justify_height-justified.ensures) in
    let on_parent : c.justifies_from.result ≡ justifies_in c.args.least core.justify_height core.parent tree =
    c.justifies_from.ensures (omega (arith, low, least, c.justify_height-justified.ensures))
    ∙ (ap (λ (j : ℕ). justifies_in c.args.least j c.parent.result.now tree) c.justify_height-justified.ensures
    ∙ ap (λ (d : Bytes). justifies_in c.args.least core.justify_height d tree) c.parent.ensures.value) in
    ap not on_parent ∙ careful.by-branch c.args.least core tree c.in-Some.height
    (c.in-Some.ensures ∙ ap (λ (d : Bytes). option_map length (find_in d tree)) c.parent.ensures.value)
    (omega (arith, c.if-justified-height.false, c.height-2.view_is, c.justified.view_is, c.justify_height-justified.ensures))
    least
