-- One step more is stored.
use Rattle.std.proofs.Common.{ℕ, suc, ◌≡◌, false, true≢false, List, [], ◌∷◌, ◌++◌, length, refl, ap, reverse}
use Rattle.std.proofs.lemmas.List.{reverse-append}
use Rattle.definitions.specs.Trees.{Stored}
use Rattle.replica.specs.declared.stored.StoredStep.{StoredStep}
use Rattle.replica.specs.declared.change.Growth.{Growth}
use Rattle.replica.specs.declared.change.Growth.TheVariants.{Nothing, Block, Vote, Request, Prune, Lead}
use Rattle.replica.specs.Replay.{is_new, step_of, before, replay}
use Rattle.replica.specs.Changes.{adds, shrinks, grown}

pub replay-push : (xs : List StoredStep) (s : StoredStep) (stored : List Stored)
    → replay (reverse (xs ++ s ∷ [])) stored ≡ step_of s stored ∷ replay (reverse xs) (before s stored)
unfolding replay
replay-push xs s stored = rw (reverse-append xs (s ∷ [])) refl

-- before a step that is no pruning stands what it was added to
pub before-grown : (s : StoredStep) (g : Growth) (stored : List Stored) → is_new s ≡ adds g
    → shrinks g ≡ false → before s (grown g stored) ≡ stored
before-grown s Nothing stored e k = rw e refl
before-grown s (Block n) stored e k = rw e refl
before-grown s (Vote b v) stored e k = rw e refl
before-grown s (Request r) stored e k = rw e refl
before-grown s (Prune to) stored e k = absurd (true≢false k)
before-grown s Lead stored e k = rw e refl

-- as many steps as are stored
pub length-replay : (xs : List StoredStep) (stored : List Stored) → length (replay xs stored) ≡ length xs
unfolding replay
length-replay [] stored = refl
length-replay (x ∷ xs) stored = ap (λ (n : ℕ). suc n) (length-replay xs (before x stored))
