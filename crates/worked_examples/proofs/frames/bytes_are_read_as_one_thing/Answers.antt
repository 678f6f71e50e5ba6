-- `IsReadAs-unique` is the law.
use Rattle.definitions.proofs.Spellings.{IsReadAs-unique}
use Rattle.worked_examples.proofs.frames.bytes_are_read_as_one_thing.Goals as goal

pub returns : goal.returns
returns c sizes bytes a b are ha hb = IsReadAs-unique sizes are bytes a b ha hb
