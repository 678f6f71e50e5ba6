use Rattle.std.proofs.Common.{length, reverse, drop, ap, sym, ◌∙◌}
use Rattle.std.proofs.lemmas.List.{length-reverse}
use Rattle.definitions.specs.Chronicles.{Chronicle}
use Rattle.replica.proofs.Replaying.{length-replay}
use Rattle.replica.proofs.chronicle.ChronicleView.len.Goals as goal

pub returns : goal.returns
returns c =
    let view = c.self.inside in
    sym (length-replay (reverse view.steps.now) (drop view.newer view.tree.now.stored)
    ∙ length-reverse view.steps.now)
    ∙ ap (λ (x : Chronicle). length x) c.self.view_is
