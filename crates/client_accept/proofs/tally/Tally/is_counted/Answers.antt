use Rattle.std.proofs.Common.{◌∙◌, ap, List}
use Rattle.std.specs.Prelude.{◌==◌}
use Rattle.std.specs.List.{list_any}
use Rattle.definitions.specs.Tally.{Told, is_counted}
use Rattle.client_accept.specs.declared.tally.Counted.{Counted}
use Rattle.client_accept.proofs.Tallies.{counted-kept}
use Rattle.client_accept.proofs.tally.Tally.is_counted.Goals as goal

pub returns : goal.returns
returns c =
    c.has.ensures
    ∙ ap (list_any (λ (k : Counted). k.replica == c.args.replica)) c.as_slice.ensures.value
    ∙ counted-kept c.self.inside.answers.items c.self.inside.counted.items c.args.replica
    ∙ ap (λ (tally : List Told). is_counted tally c.args.replica) c.self.view_is
