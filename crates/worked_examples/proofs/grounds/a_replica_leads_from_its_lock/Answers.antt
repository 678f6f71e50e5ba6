-- The lemmas of these names.
use Rattle.worked_examples.proofs.OnGrounds.{leads_from_the_lock, leads_from_no_other, a_lead_moves_there, a_lead_keeps_it}
use Rattle.worked_examples.proofs.OnGrounds.{a_whole_one_fills, votes_fill_nothing}
use Rattle.worked_examples.proofs.grounds.a_replica_leads_from_its_lock.Goals as goal

pub returns : goal.returns
returns c = record {
  lock = leads_from_the_lock;
  others = leads_from_no_other;
  moves = a_lead_moves_there;
  keeps = a_lead_keeps_it;
  whole = a_whole_one_fills;
  votes = votes_fill_nothing;
}
