-- The parties so far, each once; and whatever parties the text spells begin with these.
use Rattle.std.proofs.Common.{◌≡◌, ◌++◌, List, ℕ, length, option_map}
use Rattle.std.specs.List.{All}
use Rattle.simulator.specs.Texts.{behind_word, IsBelow}
use Rattle.simulator.specs.Lines.{AreParties, parties_text}
use Rattle.simulator.proofs.lines.parties_of.Given as goal

abbrev pub invariant-loop-left : goal.invariant-loop-left
invariant-loop-left l = record {
  fit : AreParties l.parties.items;
  spell : parties_text l.parties.items ++ behind_word (option_map (λ rest. rest.now) l.left)
      ≡ behind_word (option_map (λ rest. rest.now) l.fn.text);
  only : (ps : List ℕ) → AreParties ps
      → parties_text ps ≡ behind_word (option_map (λ rest. rest.now) l.fn.text)
      → (more : List ℕ) × (ps ≡ l.parties.items ++ more) × All (IsBelow 512) more
      × (parties_text more ≡ behind_word (option_map (λ rest. rest.now) l.left));
}

abbrev pub decreases-loop-left : goal.decreases-loop-left
decreases-loop-left l = length (behind_word (option_map (λ rest. rest.now) l.left))
