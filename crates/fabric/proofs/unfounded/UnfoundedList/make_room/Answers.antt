use Rattle.std.specs.Option.{option_to_list}
use Rattle.fabric.proofs.Rests.{rest-of-rest}
use Rattle.fabric.proofs.unfounded.UnfoundedList.make_room.Goals as goal

-- src/unfounded.rt:79:9
pub loop-preserved : goal.loop-preserved
loop-preserved c =
    rest-of-rest _ c.loop.self _ (option_to_list c.pop-lost.result) c.loop.invariant c.pop-lost.ensures.taken

-- src/unfounded.rt:75:5
pub returns-then-len-ge-MOST_UNFOUNDED-clause-rest :
    goal.returns-then-len-ge-MOST_UNFOUNDED-clause-rest
returns-then-len-ge-MOST_UNFOUNDED-clause-rest c =
    rest-of-rest _ c.loop.self _ (option_to_list c.pop-lost-then-len-ge-MOST_UNFOUNDED.result) c.loop.invariant
    c.pop-lost-then-len-ge-MOST_UNFOUNDED.ensures.taken
