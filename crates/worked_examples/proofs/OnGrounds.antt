-- Blocks and leads on grounds, computed.
use Rattle.std.proofs.Common.{refl}
use Rattle.worked_examples.specs.Grounds.{AnEarlierTake, NoGrounds, TwoSenders, OneSender}
use Rattle.worked_examples.specs.Grounds.{LeadsFromTheLock, LeadsFromNoOther, ALeadMovesThere, ALeadKeepsIt}
use Rattle.worked_examples.specs.Grounds.{AWholeOneFills, VotesFillNothing, AsksAnyone, ItsViewCounts}
use Rattle.worked_examples.proofs.Computed.{of_steps}

pub an_earlier_take : AnEarlierTake
unfolding of_steps
an_earlier_take ring = refl

pub no_grounds : NoGrounds
unfolding of_steps
no_grounds ring = refl

pub two_senders : TwoSenders
unfolding of_steps
two_senders ring = refl

pub one_sender : OneSender
unfolding of_steps
one_sender ring = (refl, refl, refl)

pub leads_from_the_lock : LeadsFromTheLock
unfolding of_steps
leads_from_the_lock ring = (refl, refl)

pub leads_from_no_other : LeadsFromNoOther
unfolding of_steps
leads_from_no_other ring = (refl, refl, refl)

pub a_lead_moves_there : ALeadMovesThere
unfolding of_steps
a_lead_moves_there ring = (refl, refl, refl)

pub a_lead_keeps_it : ALeadKeepsIt
unfolding of_steps
a_lead_keeps_it = refl

pub a_whole_one_fills : AWholeOneFills
unfolding of_steps
a_whole_one_fills = refl

pub votes_fill_nothing : VotesFillNothing
unfolding of_steps
votes_fill_nothing = refl

pub asks_anyone : AsksAnyone
unfolding of_steps
asks_anyone ring d = refl

pub its_view_counts : ItsViewCounts
unfolding of_steps
its_view_counts = (refl, refl)
