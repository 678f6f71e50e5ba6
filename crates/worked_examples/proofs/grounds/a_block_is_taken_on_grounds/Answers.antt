-- The lemmas of these names.
use Rattle.worked_examples.proofs.OnGrounds.{an_earlier_take, no_grounds, two_senders, one_sender}
use Rattle.worked_examples.proofs.grounds.a_block_is_taken_on_grounds.Goals as goal

pub returns : goal.returns
returns c = record {
  earlier = an_earlier_take;
  none = no_grounds;
  two = two_senders;
  one = one_sender;
}
