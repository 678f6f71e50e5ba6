-- The steps that are lent of a replica's chronicle.
use Rattle.std.proofs.Common.{ℕ, zero, suc, ◌≡◌, ◌<◌, ◌+◌, Bool, true, false, cond, List, [], ◌∷◌, ◌++◌}
use Rattle.std.proofs.Common.{length, drop}
use Rattle.std.proofs.Common.{refl, sym, ap, ◌∙◌, arith, reverse}
use Rattle.std.proofs.lemmas.Bool.{cond-true, cond-false}
use Rattle.std.proofs.lemmas.List.{drop-drop, reverse-append}
use Rattle.definitions.specs.Branches.{Branch}
use Rattle.definitions.specs.Digests.{digest, digest_of, core_of}
use Rattle.definitions.specs.Trees.{Stored}
use Rattle.definitions.specs.Chronicles.{taken_blocks}
use Rattle.block_tree.specs.declared.node.Node.{Node}
use Rattle.block_tree.specs.Nodes.{IsNodeOf}
use Rattle.replica.specs.declared.stored.StoredStep.{StoredStep}
use Rattle.replica.specs.declared.stored.StoredStep.TheVariants.{TookNew, TookAgain, GotVote, GotNewView}
use Rattle.replica.specs.declared.stored.StoredStep.TheVariants.{GotRequest, GotFetch, TimedOut, Beat, Pruned, SeenView, Led}
use Rattle.replica.specs.Replay.{is_new, taken_new, step_of, before, newest, replay}
use Rattle.replica.proofs.Replaying.{replay-push}

-- the digest of a block is that of its core
pub digest-core : (b : Branch) → digest (core_of b) ≡ digest_of b
unfolding core_of digest_of
digest-core [] = refl
digest-core (b ∷ parent) = refl

-- what is behind fewer than all has a first element
pub behind : {A : Type 0} (k : ℕ) (xs : List A) → k < length xs
    → (x : A) × (older : List A) × (drop k xs ≡ x ∷ older)
behind k [] l = absurd (omega arith)
behind zero (x ∷ xs) l = (x, xs, refl)
behind (suc k) (x ∷ xs) l = behind k xs (omega arith)

-- the newest of these
pub newest-is : (k : ℕ) (stored : List Stored) → k < length stored
    → (older : List Stored) × (drop k stored ≡ newest (drop k stored) ∷ older)
newest-is k stored l =
    let b = behind k stored l in
    let e : newest (drop k stored) ≡ b.0 = ap newest b.2 in
    (b.1, b.2 ∙ ap (λ (s : Stored). s ∷ b.1) (sym e))

-- each block of the tree was taken by a step that took a new one
pub taken-count : (steps : List StoredStep) (stored : List Stored)
    → length (taken_blocks (replay steps stored)) ≡ taken_new steps
unfolding replay taken_blocks
taken-count [] stored = refl
taken-count (TookNew t ∷ earlier) stored = ap suc (taken-count earlier (before (TookNew t) stored))
taken-count (TookAgain t ∷ earlier) stored = taken-count earlier (before (TookAgain t) stored)
taken-count (GotVote g ∷ earlier) stored = taken-count earlier (before (GotVote g) stored)
taken-count (GotNewView n ∷ earlier) stored = taken-count earlier (before (GotNewView n) stored)
taken-count (GotRequest r ∷ earlier) stored = taken-count earlier (before (GotRequest r) stored)
taken-count (GotFetch f ∷ earlier) stored = taken-count earlier (before (GotFetch f) stored)
taken-count (TimedOut ∷ earlier) stored = taken-count earlier (before TimedOut stored)
taken-count (Beat ∷ earlier) stored = taken-count earlier (before Beat stored)
taken-count (Pruned height ∷ earlier) stored = taken-count earlier (before (Pruned height) stored)
taken-count (SeenView v ∷ earlier) stored = taken-count earlier (before (SeenView v) stored)
taken-count (Led d ∷ earlier) stored = taken-count earlier (before (Led d) stored)

-- the node of the newest of these blocks
pub newest-node : (k : ℕ) (stored : List Stored) → k < length stored → (n : Node)
    → ((s : Stored) (older : List Stored) → drop k stored ≡ s ∷ older → IsNodeOf n s)
    → IsNodeOf n (newest (drop k stored))
newest-node k stored l n h = let r = newest-is k stored l in h (newest (drop k stored)) r.0 r.1

-- ---- one step less

-- where no step is left, the chronicle has none
pub none-left : (steps : List StoredStep) (stored : List Stored) → length steps ≡ 0
    → replay (reverse steps) stored ≡ []
unfolding replay
none-left [] stored e = refl
none-left (s ∷ steps) stored e = absurd (omega arith)

-- the newest step, and those before it
pub replay-last : (steps earlier : List StoredStep) (s : StoredStep) (k more : ℕ) (stored : List Stored)
    → steps ≡ earlier ++ s ∷ [] → more ≡ cond (is_new s) 1 0
    → replay (reverse steps) (drop k stored)
    ≡ step_of s (drop k stored) ∷ replay (reverse earlier) (drop (k + more) stored)
replay-last steps earlier s k more stored e m =
    ap (λ (xs : List StoredStep). replay (reverse xs) (drop k stored)) e
    ∙ replay-push earlier s (drop k stored)
    ∙ ap (λ (l : List Stored). step_of s (drop k stored) ∷ replay (reverse earlier) l) (by (is_new s) refl m)
  where
    by : (b : Bool) → is_new s ≡ b → more ≡ cond b 1 0 → before s (drop k stored) ≡ drop (k + more) stored
    by true h i =
        cond-true _ _ _ h ∙ drop-drop 1 k stored ∙ ap (λ (n : ℕ). drop (k + n) stored) (sym i)
    by false h i =
        let none : k ≡ k + more = omega (arith, i) in
        cond-false _ _ _ h ∙ ap (λ (n : ℕ). drop n stored) none

-- as many blocks are counted
pub counted-last : (steps earlier : List StoredStep) (s : StoredStep) (more : ℕ) → steps ≡ earlier ++ s ∷ []
    → more ≡ cond (is_new s) 1 0
    → taken_new (reverse steps) ≡ taken_new (reverse earlier) + more
counted-last steps earlier s more e m =
    ap (λ (xs : List StoredStep). taken_new xs)
    (ap (λ (xs : List StoredStep). reverse xs) e ∙ reverse-append earlier (s ∷ []))
    ∙ by (is_new s) refl m
  where
    by : (b : Bool) → is_new s ≡ b → more ≡ cond b 1 0
        → taken_new (s ∷ reverse earlier) ≡ taken_new (reverse earlier) + more
    by true h i =
        let e : suc (taken_new (reverse earlier)) ≡ taken_new (reverse earlier) + more = omega (arith, i) in
        cond-true _ _ _ h ∙ e
    by false h i =
        let e : taken_new (reverse earlier) ≡ taken_new (reverse earlier) + more = omega (arith, i) in
        cond-false _ _ _ h ∙ e
