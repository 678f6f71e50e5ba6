use Rattle.std.proofs.Common.{ap, ◌∙◌}
use Rattle.std.specs.Prelude.{option_map}
use Rattle.std.specs.Option.{option_and_then}
use Rattle.definitions.specs.Digests.{digest_of}
use Rattle.definitions.specs.Trees.{blocks, find_in}
use Rattle.definitions.specs.WindowAudit.{shown_at}
use Rattle.replica.specs.Execution.{seen_at}
use Rattle.replica.specs.Kept.{Variables}
use Rattle.replica.specs.Steps.{Held}
use Rattle.replica.proofs.Shown.{found-shown}
use Rattle.replica.proofs.replica.Replica.executed_block_at.Goals as goal

pub returns : goal.returns
returns c =
    let r = c.self.inside in
    let o = c.self.invariant.0.state in
    c.executed_block_at.ensures
    ∙ ap (λ (v : Variables). option_map digest_of (option_and_then (seen_at v.horizon c.args.height)
    (find_in v.rules.executed.digest (blocks v.stored)))) o.same
    ∙ found-shown r.keyring.sizes r.state.variables.chronicle o.sound c.args.height
    ∙ ap (λ (h : Held). option_map digest_of (shown_at c.args.height h.replica.chronicle)) c.self.view_is
