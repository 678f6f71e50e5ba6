use Rattle.std.proofs.Common.{sym, subst, refl, Result, Ok}
use Rattle.ids.specs.declared.fault.Fault.{Fault}
use Rattle.definitions.specs.Bytes.{Bytes}
use Rattle.definitions.specs.Trees.{TreeState, blocks, placing}
use Rattle.frames_view.specs.Views.{core_of, certificate_of}
use Rattle.block_tree.specs.Insertions.{Inserted, IsPlanned}
use Rattle.block_tree.specs.declared.insert.Plan.{Plan}
use Rattle.block_tree.specs.declared.insert.Plan.TheVariants.{Grows}
use Rattle.block_tree.proofs.Planning.{inserted-grown}
use Rattle.block_tree.proofs.tree.Tree.insert.Goals as goal

pub returns-in_ok-add-in-Grows : goal.returns-in_ok-add-in-Grows
returns-in_ok-add-in-Grows c =
    let t = c.args.self.now in
    let core = core_of c.args.core.now in
    let q = certificate_of c.args.certificate.now in
    let place = placing t.horizon t.most core q (blocks t.stored) in
    let planned : IsPlanned t core q c.args.clear (Ok (Grows c.in-Grows.node)) place =
    subst (λ (p : Plan). IsPlanned t core q c.args.clear (Ok p) place) c.in-Grows.is
    c.in_ok-digest.ensures in
    let answer : Bytes → Result Bytes Fault = λ d. Ok d in
    subst (λ (d : Bytes). Inserted t core q c.args.clear (answer d) c.add.new.self)
    (sym c.digest-digest.ensures)
    (subst (λ (new : TreeState). Inserted t core q c.args.clear (answer c.in-Grows.node.digest) new)
    (sym c.in_ok-add-in-Grows.ensures.added)
    (inserted-grown t core q c.args.clear c.in-Grows.node place refl planned))
