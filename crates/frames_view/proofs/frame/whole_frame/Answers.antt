use Rattle.std.proofs.Common.{sym, ◌∙◌}
use Rattle.frames_view.proofs.Places.{marked_behind}
use Rattle.frames_view.proofs.frame.whole_frame.Goals as goal

pub returns-then-is_marked-clause-lent : goal.returns-then-is_marked-clause-lent
returns-then-is_marked-clause-lent c =
    marked_behind c.args.bytes c.from.result c.from.ensures.lent
    (sym c.is_marked.ensures ∙ c.if-is_marked.true) c.new_frame.result c.new_frame.ensures.lent
