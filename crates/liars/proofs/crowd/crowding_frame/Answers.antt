use Rattle.std.proofs.Common.{◌≡◌, ◌++◌, ◌∙◌, ap, subst, IfOk}
use Rattle.ids.specs.Sizes.{Sizes}
use Rattle.ids.specs.Numbers.{kind_number}
use Rattle.ids.specs.declared.kind.Kind.TheVariants as kind
use Rattle.definitions.specs.Bytes.{Bytes}
use Rattle.definitions.specs.Frames.{Core, Certificate, core_bytes, certificate_bytes, block_text, frame_text}
use Rattle.definitions.specs.Keyrings.{keyring_of, tag_for}
use Rattle.frames_view.specs.Views.{core_of, certificate_of}
use Rattle.liars.specs.Lies.{crowding}
use Rattle.liars.proofs.crowd.crowding_frame.Goals as goal

pub returns-clause-made : goal.returns-clause-made
returns-clause-made c =
    let ring = c.args.keyring.now in
    let core : c.deref.result.now
    ≡ core_bytes (crowding c.args.keyring.now.sizes (core_of c.args.view.now.core) c.args.number) =
    c.deref.ensures.value ∙ (c.in_ok-core.ensures.made
    ∙ (ap (λ (s : Sizes). core_bytes (crowding s (core_of c.core.result) c.args.number)) c.config.ensures
    ∙ ap (λ (k : Core). core_bytes (crowding c.args.keyring.now.sizes k c.args.number))
    c.core.ensures.value)) in
    let certificate : c.deref-2.result.now
    ≡ certificate_bytes (certificate_of c.args.view.now.certificate) =
    c.deref-2.ensures.value ∙ (c.in_ok-write.ensures.appended
    ∙ (ap (λ (b : Bytes). b ++ certificate_bytes (certificate_of c.certificate.result))
    c.new-certificate.ensures.items
    ∙ ap (λ (q : Certificate). certificate_bytes q) c.certificate.ensures.value)) in
    let P : Bytes → Bytes → Type 0 = λ k q. IfOk c.block_frame.result (λ frame. frame.items
    ≡ frame_text (kind_number kind.Block) (block_text ring.party k q)
    (tag_for (keyring_of ring) kind.Block c.args.to (block_text ring.party k q))) in
    subst (λ (k : Bytes). P k (certificate_bytes (certificate_of c.args.view.now.certificate))) core
    (subst (λ (q : Bytes). P c.deref.result.now q) certificate c.block_frame.ensures.made)
