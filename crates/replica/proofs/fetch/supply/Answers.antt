use Rattle.std.proofs.Common.{◌≡◌, List, Option, sym, ap, ◌∙◌, subst}
use Rattle.std.specs.Prelude.{IfSome, option_map}
use Rattle.std.specs.Borrow.{Bor}
use Rattle.definitions.specs.FrameLimits.{IsCertificate}
use Rattle.definitions.specs.Keyrings.{Keys}
use Rattle.definitions.specs.Trees.{Stored}
use Rattle.frames_view.specs.Views.{certificate_of}
use Rattle.block_tree.specs.declared.node.Node.{Node}
use Rattle.block_tree.specs.Finding.{stored_in, kept_of}
use Rattle.replica.specs.Kept.{StateParts}
use Rattle.replica.proofs.Sized.{lent-sized}
use Rattle.replica.proofs.fetch.supply.Goals as goal

pub cut_bytes-requires : goal.cut_bytes-requires
cut_bytes-requires c =
    let sizes = c.args.keyring.now.sizes in
    let d = c.args.digest.now in
    let stored : List Stored = c.args.state.now.variables.stored in
    let same : c.state.inside.tree.stored ≡ stored =
    ap (λ (k : StateParts). k.variables.stored) c.state.view_is in
    let found = lent-sized sizes d stored c.block.result
    (c.block.ensures ∙ ap (λ (l : List Stored). option_map kept_of (stored_in d l)) same)
    c.requires.certified.stored in
    let lent : IsCertificate sizes (certificate_of c.certificate.result) =
    subst (IsCertificate sizes) (sym c.certificate.ensures)
    (subst (λ (o : Option (Bor Node)). IfSome o (λ n. IsCertificate sizes n.now.certificate)) c.in-Some.is
    found) in
    record {
      certificate = subst (λ (k : Keys). IsCertificate k.sizes (certificate_of c.certificate.result))
          (sym c.verifying.ensures) lent;
    }
