use Rattle.std.proofs.Common.{rules, ap, sym}
use Rattle.admission.specs.declared.input.Input.TheVariants.{Proposal, Block, Vote, NewView, Request, Fetch}
use Rattle.admission.proofs.Checks.{taken, proposal, block, vote, new_view, fetch, request, reply}
use Rattle.admission.proofs.admitting.check.Goals as goal

pub returns-in_err-check_proposal-in-Proposal : goal.returns-in_err-check_proposal-in-Proposal
returns-in_err-check_proposal-in-Proposal c =
    proposal _ _ _ _ _ _ c.in-Proposal.is c.check_proposal.ensures c.requires.lent (search rules)

pub returns-in_ok-check_proposal-in-Proposal : goal.returns-in_ok-check_proposal-in-Proposal
returns-in_ok-check_proposal-in-Proposal c =
    proposal _ _ _ _ _ _ c.in-Proposal.is c.check_proposal.ensures c.requires.lent
    (ap (taken Proposal) (sym c.in_ok-check_proposal-in-Proposal.was))

pub returns-in_err-check_block-in-Block : goal.returns-in_err-check_block-in-Block
returns-in_err-check_block-in-Block c =
    block _ _ _ _ _ _ c.in-Block.is c.check_block.ensures c.requires.lent (search rules)

pub returns-in_ok-check_block-in-Block : goal.returns-in_ok-check_block-in-Block
returns-in_ok-check_block-in-Block c =
    block _ _ _ _ _ _ c.in-Block.is c.check_block.ensures c.requires.lent
    (ap (taken Block) (sym c.in_ok-check_block-in-Block.was))

pub returns-in_err-check_vote-in-Vote : goal.returns-in_err-check_vote-in-Vote
returns-in_err-check_vote-in-Vote c =
    vote _ _ _ _ _ _ c.in-Vote.is c.check_vote.ensures c.requires.lent (search rules)

pub returns-in_ok-check_vote-in-Vote : goal.returns-in_ok-check_vote-in-Vote
returns-in_ok-check_vote-in-Vote c =
    vote _ _ _ _ _ _ c.in-Vote.is c.check_vote.ensures c.requires.lent
    (ap (taken Vote) (sym c.in_ok-check_vote-in-Vote.was))

pub returns-in_err-check_new_view-in-NewView : goal.returns-in_err-check_new_view-in-NewView
returns-in_err-check_new_view-in-NewView c =
    new_view _ _ _ _ _ _ c.in-NewView.is c.check_new_view.ensures c.requires.lent (search rules)

pub returns-in_ok-check_new_view-in-NewView : goal.returns-in_ok-check_new_view-in-NewView
returns-in_ok-check_new_view-in-NewView c =
    new_view _ _ _ _ _ _ c.in-NewView.is c.check_new_view.ensures c.requires.lent
    (ap (taken NewView) (sym c.in_ok-check_new_view-in-NewView.was))

pub returns-in_err-check_fetch-in-Fetch : goal.returns-in_err-check_fetch-in-Fetch
returns-in_err-check_fetch-in-Fetch c =
    fetch _ _ _ _ _ _ c.in-Fetch.is c.check_fetch.ensures c.requires.lent (search rules)

pub returns-in_ok-check_fetch-in-Fetch : goal.returns-in_ok-check_fetch-in-Fetch
returns-in_ok-check_fetch-in-Fetch c =
    fetch _ _ _ _ _ _ c.in-Fetch.is c.check_fetch.ensures c.requires.lent
    (ap (taken Fetch) (sym c.in_ok-check_fetch-in-Fetch.was))

pub returns-in_err-check_request-in-Request : goal.returns-in_err-check_request-in-Request
returns-in_err-check_request-in-Request c =
    request _ _ _ _ _ _ c.in-Request.is c.check_request.ensures c.requires.lent (search rules)

pub returns-in_ok-check_request-in-Request : goal.returns-in_ok-check_request-in-Request
returns-in_ok-check_request-in-Request c =
    request _ _ _ _ _ _ c.in-Request.is c.check_request.ensures c.requires.lent
    (ap (taken Request) (sym c.in_ok-check_request-in-Request.was))

pub returns-in-Reply : goal.returns-in-Reply
returns-in-Reply c = reply _ _ _ _ c.in-Reply.is
