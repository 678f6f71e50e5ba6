use Rattle.std.proofs.Common.{◌≡◌, ◌++◌, drop}
use Rattle.simulator.specs.Lines.{sources_text}
use Rattle.simulator.proofs.written.put_sources.Given as goal

abbrev pub invariant-loop-source : goal.invariant-loop-source
invariant-loop-source l =
    l.text.items ++ sources_text (drop l.source-index l.sources) ≡ l.fn.text.items ++ sources_text l.sources
