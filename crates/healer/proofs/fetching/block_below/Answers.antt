use Rattle.std.specs.Option.{option_and_then}
use Rattle.std.proofs.Common.{ap, ◌∙◌, option_map}
use Rattle.definitions.specs.Chronicles.{horizon}
use Rattle.definitions.specs.Digests.{digest_of}
use Rattle.definitions.specs.Replicas.{Replica}
use Rattle.definitions.specs.States.{find_block}
use Rattle.replica.specs.Execution.{seen_at}
use Rattle.healer.proofs.Turns.{if-ok-too}
use Rattle.healer.proofs.fetching.block_below.Goals as goal

pub returns-in-Some : goal.returns-in-Some
returns-in-Some c =
    if-ok-too _ _ c.found_below.result (λ d e hs w t l.
    e ∙ ap (λ (x : Replica). option_map digest_of
    (option_and_then (seen_at (horizon x.chronicle) c.args.height) (find_block c.args.block.now x.chronicle)))
    (c.in-Some.ensures hs w t l).state) c.found_below.ensures
