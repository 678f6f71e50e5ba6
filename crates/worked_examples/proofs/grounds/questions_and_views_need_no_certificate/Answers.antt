-- The lemmas of these names.
use Rattle.worked_examples.proofs.OnGrounds.{asks_anyone, its_view_counts}
use Rattle.worked_examples.proofs.grounds.questions_and_views_need_no_certificate.Goals as goal

pub returns : goal.returns
returns c = record {
  asks = asks_anyone;
  views = its_view_counts;
}
