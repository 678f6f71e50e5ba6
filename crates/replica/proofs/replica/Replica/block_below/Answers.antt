use Rattle.std.proofs.Common.{ap, ◌∙◌}
use Rattle.std.specs.Prelude.{option_map}
use Rattle.std.specs.Option.{option_and_then}
use Rattle.definitions.specs.Chronicles.{horizon, window}
use Rattle.definitions.specs.Digests.{digest_of}
use Rattle.definitions.specs.States.{find_block}
use Rattle.definitions.specs.Trees.{blocks, find_in}
use Rattle.replica.specs.Execution.{seen_at}
use Rattle.replica.specs.Kept.{Variables}
use Rattle.replica.specs.Steps.{Held}
use Rattle.replica.proofs.replica.Replica.block_below.Goals as goal

pub returns : goal.returns
unfolding find_block window
returns c =
    c.block_below.ensures
    ∙ ap (λ (v : Variables). option_map digest_of (option_and_then (seen_at v.horizon c.args.height)
    (find_in c.args.block.now (blocks v.stored)))) c.self.invariant.0.state.same
    ∙ ap (λ (h : Held). option_map digest_of (option_and_then (seen_at (horizon h.replica.chronicle) c.args.height)
    (find_block c.args.block.now h.replica.chronicle))) c.self.view_is
