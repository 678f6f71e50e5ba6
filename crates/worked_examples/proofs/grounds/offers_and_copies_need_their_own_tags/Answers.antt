-- The lemmas of these names.
use Rattle.worked_examples.proofs.Healing.{copies_pass, offers_pass}
use Rattle.worked_examples.proofs.grounds.offers_and_copies_need_their_own_tags.Goals as goal

pub returns : goal.returns
returns c = record { copies = copies_pass; offers = offers_pass }
