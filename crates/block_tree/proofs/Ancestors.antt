-- The ancestor of a height.
use Rattle.std.proofs.Common.{ℕ, ◌-◌, ◌≡◌, ◌≤◌, Bool, cond, length, List, sym, ap, ◌∙◌, arith}
use Rattle.std.proofs.Common.{[], ◌∷◌, Option, Some, None, refl}
use Rattle.std.specs.Prelude.{option_map}
use Rattle.std.specs.Option.{option_and_then}
use Rattle.std.proofs.lemmas.Bool.{le-leb, le-ltb, cond-false}
use Rattle.definitions.specs.Lists.{beginning}
use Rattle.definitions.specs.Branches.{Branch}
use Rattle.definitions.specs.Digests.{digest_of}
use Rattle.block_tree.specs.Finding.{at_height}
use Rattle.block_tree.specs.Numbers.{numbered, IsDown}
use Rattle.block_tree.proofs.Numbered.{beginning-drop}

-- the block that many below
pub down-found : (h : ℕ) (o : Option Branch) (b : Branch) → o ≡ Some b → (tree : List Branch) (m : ℕ)
    → h ≤ length b → IsDown tree (length b - h) b m
    → Some (digest_of (numbered tree m)) ≡ option_map digest_of (option_and_then (at_height h) o)
down-found h o b found tree m le down =
    sym (ap (λ (x : Option Branch). option_map digest_of (option_and_then (at_height h) x)) found
    ∙ ap (λ (t : Bool). option_map digest_of (cond t (Some (beginning h b)) None)) (le-leb h (length b) le)
    ∙ ap (λ (x : Branch). Some (digest_of x)) (beginning-drop h b le ∙ sym down.is))

-- genesis is below each block
beginning_none : (h : ℕ) (b : Branch) → h ≡ 0 → beginning h b ≡ []
unfolding beginning
beginning_none h [] e = refl
beginning_none h (x ∷ older) e =
    cond-false _ _ _ (le-ltb (length older) h (omega (arith, e))) ∙ beginning_none h older e

pub genesis-below : (h : ℕ) (o : Option Branch) (b : Branch) → o ≡ Some b → h ≡ 0
    → Some (digest_of []) ≡ option_map digest_of (option_and_then (at_height h) o)
genesis-below h o b found e =
    sym (ap (λ (x : Option Branch). option_map digest_of (option_and_then (at_height h) x)) found
    ∙ (ap (λ (t : Bool). option_map digest_of (cond t (Some (beginning h b)) None))
    (le-leb h (length b) (omega (arith, e)))
    ∙ ap (λ (x : Branch). Some (digest_of x)) (beginning_none h b e)))
