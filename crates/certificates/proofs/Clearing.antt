-- Testing commands one after the other.
use Rattle.std.proofs.Common.{◌≡◌, ◌&&◌, Bool, true, false, List, [], ◌∷◌, sym, ap, subst, ◌∙◌}
use Rattle.std.specs.List.{AllByRecursion, list_all}
use Rattle.definitions.specs.Frames.{Command, Core}
use Rattle.definitions.specs.Checks.{Identity, command_verifies, is_clear_core}

-- what is left of a list of commands, each of which has a property, has it too
pub all-left : (P : Command → Type 0) (c : Command) (commands rest : List Command) → commands ≡ c ∷ rest
    → AllByRecursion P commands → P c × AllByRecursion P rest
all-left P c commands rest e h = subst (AllByRecursion P) e h

module _ (self : Identity) where
  -- at first
  pub clear_first : (core : Core) (commands : List Command) → commands ≡ core.commands
      → list_all (command_verifies self) commands ≡ is_clear_core self core
  unfolding is_clear_core
  clear_first core commands e = ap (list_all (command_verifies self)) e

  module _ (c : Command) (commands rest : List Command) (total : Bool) where
    -- one verifies
    pub clear_more : command_verifies self c ≡ true → commands ≡ c ∷ rest
        → list_all (command_verifies self) commands ≡ total → list_all (command_verifies self) rest ≡ total
    clear_more passed left so_far =
        let one : list_all (command_verifies self) (c ∷ rest) ≡ list_all (command_verifies self) rest =
        ap (λ (b : Bool). b && list_all (command_verifies self) rest) passed in
        sym one ∙ sym (ap (list_all (command_verifies self)) left) ∙ so_far

    -- one doesn't
    pub clear_ends : command_verifies self c ≡ false → commands ≡ c ∷ rest
        → list_all (command_verifies self) commands ≡ total → false ≡ total
    clear_ends failed left so_far =
        let one : list_all (command_verifies self) (c ∷ rest) ≡ false =
        ap (λ (b : Bool). b && list_all (command_verifies self) rest) failed in
        sym one ∙ sym (ap (list_all (command_verifies self)) left) ∙ so_far

  -- at last
  pub clear_last : (commands : List Command) (total : Bool) → commands ≡ []
      → list_all (command_verifies self) commands ≡ total → true ≡ total
  clear_last commands total none so_far = sym (ap (list_all (command_verifies self)) none) ∙ so_far
