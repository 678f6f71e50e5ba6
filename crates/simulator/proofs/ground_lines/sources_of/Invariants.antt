-- The sources so far; and whatever sources the text spells, so many are behind these.
use Rattle.std.proofs.Common.{◌≡◌, ◌++◌, List, length, option_map}
use Rattle.std.specs.List.{All}
use Rattle.simulator.specs.Texts.{behind_word}
use Rattle.simulator.specs.Lines.{IsSource, sources_text}
use Rattle.world_schedule.specs.declared.event.Source.{Source}
use Rattle.simulator.proofs.ground_lines.sources_of.Given as goal

abbrev pub invariant-loop-left : goal.invariant-loop-left
invariant-loop-left l = record {
  fit : All IsSource l.sources.items;
  spell : sources_text l.sources.items ++ behind_word (option_map (λ rest. rest.now) l.left)
      ≡ behind_word (option_map (λ rest. rest.now) l.fn.text);
  only : (ss : List Source) → All IsSource ss
      → sources_text ss ≡ behind_word (option_map (λ rest. rest.now) l.fn.text)
      → (more : List Source) × All IsSource more
      × (sources_text more ≡ behind_word (option_map (λ rest. rest.now) l.left));
}

abbrev pub decreases-loop-left : goal.decreases-loop-left
decreases-loop-left l = length (behind_word (option_map (λ rest. rest.now) l.left))
