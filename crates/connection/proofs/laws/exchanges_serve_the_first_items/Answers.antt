use Rattle.connection.proofs.FirstItems.{first_items}
use Rattle.connection.proofs.laws.exchanges_serve_the_first_items.Goals as goal

pub returns : goal.returns
returns c = first_items
