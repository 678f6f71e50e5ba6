use Rattle.window_files.proofs.Appended.{written}
use Rattle.window_files.proofs.window.Window.write.Goals as goal

pub returns : goal.returns
returns c =
    rw (← c.self.view_is)
    (written c.self.inside.head c.self.inside.digests.items c.new-text.result.items c.push_head.new.out.items
    c.push_digests.new.out.items c.new-text.ensures.items c.in_ok-push_head.ensures
    (rw c.deref.ensures.value at c.in_ok-push_digests.ensures))
