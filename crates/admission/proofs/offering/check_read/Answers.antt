use Rattle.std.proofs.Common.{rules, ap, sym, refl, inl, inr}
use Rattle.definitions.specs.Admission.{check_offer}
use Rattle.admission.specs.declared.input.Input.TheVariants.{OfferedProposal, OfferedBlock, SeenView}
use Rattle.admission.proofs.Checks.{taken, offered_proposal, offered_block, seen_view, unoffered}
use Rattle.admission.proofs.offering.check_read.Goals as goal

pub returns-in_err-check_tag-in-Proposal : goal.returns-in_err-check_tag-in-Proposal
returns-in_err-check_tag-in-Proposal c =
    offered_proposal _ _ _ _ _ _ c.in-Proposal.is c.check_tag.ensures c.requires.lent (search rules)

pub returns-in_ok-check_tag-in-Proposal : goal.returns-in_ok-check_tag-in-Proposal
returns-in_ok-check_tag-in-Proposal c =
    offered_proposal _ _ _ _ _ _ c.in-Proposal.is c.check_tag.ensures c.requires.lent
    (ap (taken OfferedProposal) (sym c.in_ok-check_tag-in-Proposal.was))

pub returns-in_err-check_tag-in-Block : goal.returns-in_err-check_tag-in-Block
returns-in_err-check_tag-in-Block c =
    offered_block _ _ _ _ _ _ c.in-Block.is c.check_tag-in-Block.ensures c.requires.lent (search rules)

pub returns-in_ok-check_tag-in-Block : goal.returns-in_ok-check_tag-in-Block
returns-in_ok-check_tag-in-Block c =
    offered_block _ _ _ _ _ _ c.in-Block.is c.check_tag-in-Block.ensures c.requires.lent
    (ap (taken OfferedBlock) (sym c.in_ok-check_tag-in-Block.was))

pub returns-in_err-check_tag-in-NewView : goal.returns-in_err-check_tag-in-NewView
returns-in_err-check_tag-in-NewView c =
    seen_view _ _ _ _ _ _ c.in-NewView.is c.check_tag-in-NewView.ensures c.requires.lent (search rules)

pub returns-in_ok-check_tag-in-NewView : goal.returns-in_ok-check_tag-in-NewView
returns-in_ok-check_tag-in-NewView c =
    seen_view _ _ _ _ _ _ c.in-NewView.is c.check_tag-in-NewView.ensures c.requires.lent
    (ap (taken SeenView) (sym c.in_ok-check_tag-in-NewView.was))

pub returns-in-Request : goal.returns-in-Request
unfolding check_offer
returns-in-Request c =
    let keys = c.args.keyring.now in
    let bytes = c.args._bytes in
    elim c.in-Request.is [
      | inl request ↦ unoffered keys bytes _ _ request.1 refl
      | inr others ↦ elim others [
        | inl vote ↦ unoffered keys bytes _ _ vote.1 refl
        | inr rest ↦ elim rest [
          | inl reply ↦ unoffered keys bytes _ _ reply.1 refl
          | inr fetch ↦ unoffered keys bytes _ _ fetch.1 refl
        ]
      ]
    ]
