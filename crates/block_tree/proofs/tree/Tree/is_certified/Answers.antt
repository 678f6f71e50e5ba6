use Rattle.std.proofs.Common.{◌≡◌, Some, ℕ, inl, arith, ap, ◌∙◌, bytes_eq}
use Rattle.std.specs.Prelude.{option_map}
use Rattle.std.specs.Option.{option_and_then}
use Rattle.definitions.specs.Bytes.{Bytes}
use Rattle.definitions.specs.Digests.{digest_of}
use Rattle.definitions.specs.Trees.{blocks, find_in}
use Rattle.frames_view.specs.Views.{core_of, certificate_of}
use Rattle.block_tree.specs.Finding.{at_height}
use Rattle.block_tree.proofs.Places.{justified-over}
use Rattle.block_tree.proofs.tree.Tree.is_certified.Goals as goal

pub returns-in-Some : goal.returns-in-Some
returns-in-Some c =
    let core = core_of c.args.core.now in
    let tree = blocks c.args.self.now.stored in
    let found : Some c.in-Some.justified
    ≡ option_map digest_of (option_and_then (at_height core.justify_height) (find_in core.parent tree)) =
    c.in-Some.ensures.seen (inl (omega (arith, c.justify_height.ensures, c.requires)))
    ∙ (ap (λ (d : Bytes). option_map digest_of
    (option_and_then (at_height c.justify_height.result) (find_in d tree))) c.parent.ensures.value
    ∙ ap (λ (n : ℕ). option_map digest_of (option_and_then (at_height n) (find_in core.parent tree)))
    c.justify_height.ensures) in
    justified-over core (certificate_of c.args.certificate.now) tree c.in-Some.justified c.is_same.result
    found
    (c.is_same.ensures ∙ ap (λ (d : Bytes). bytes_eq d c.in-Some.justified) c.digest.ensures.value)
    c.args.core.now.fields.below
