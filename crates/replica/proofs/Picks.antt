-- What a leader picks is what the definitions pick.
use Rattle.std.proofs.Common.{ℕ, ◌≡◌, ◌≤◌, ◌+◌, ◌-◌, ◌++◌, true≢false, Bool, true, false, List, [], ◌∷◌}
use Rattle.std.proofs.Common.{length, cond, refl, sym, ap, ◌∙◌, arith, Option, Some, None}
use Rattle.std.proofs.Common.{suc, map, reverse, take, append_assoc, length-append, inl, inr}
use Rattle.std.proofs.lemmas.List.{append_cancel_right}
use Rattle.std.proofs.lemmas.Bool.{cond-true, cond-false, cases_lt, lt-ltb, le-ltb}
use Rattle.definitions.specs.Histories.{entry_of}
use Rattle.mempool.specs.Laws.{unpruned}
use Rattle.std.specs.Prelude.{is_some}
use Rattle.definitions.specs.Frames.{Command}
use Rattle.definitions.specs.Keyrings.{Keys}
use Rattle.definitions.specs.Checks.{identity_of}
use Rattle.definitions.specs.Branches.{Branch, Extends, extends}
use Rattle.definitions.specs.Lists.{beginning, Among}
use Rattle.definitions.specs.Histories.{History, history_of}
use Rattle.definitions.specs.Digests.{digest_of}
use Rattle.definitions.specs.Trees.{blocks, find_in, IsTree}
use Rattle.definitions.specs.Chronicles.{Chronicle, horizon, standing_blocks, window, executed, history}
use Rattle.definitions.specs.Chronicles.{IsSound}
use Rattle.definitions.specs.States.{pending, find_block, known_as, picks, leaf, or_else}
use Rattle.definitions.proofs.Lists.{beginning-whole, IsBeginning-beginning}
use Rattle.definitions.proofs.Branches.{extends-true, length-extends}
use Rattle.definitions.proofs.Trees.{found-in, found-itself}
use Rattle.definitions.proofs.Horizons.{executed-window, horizon-low}
use Rattle.block_tree.specs.Finding.{extends_in}
use Rattle.mempool.specs.Pool.{first_beside}
use Rattle.mempool.proofs.Following.{picked}
use Rattle.replica.specs.Execution.{history_above}
use Rattle.replica.specs.Kept.{Variables, tree_of, variables_of}
use Rattle.replica.specs.Picks.{keys_of, known_height, proposed_above}
use Rattle.replica.proofs.Executing.{above-appended, tree_at, history-is}

history-is-of : (c : Chronicle) → history_of (executed c) ≡ history c
unfolding history
history-is-of c = refl

found-stored : (c : Chronicle) → IsTree (horizon c) (window c) → (y : Branch) → Among y (window c)
    → find_in (digest_of y) (blocks (standing_blocks c)) ≡ Some y
unfolding window
found-stored c tr y m = found-itself (horizon c) (window c) tr y m

-- the history of a branch above a height, and that of the rest
two-parts : (n : ℕ) (x : Branch) → n ≤ length x
    → history_of (take (length x - n) x) ++ history_of (beginning n x) ≡ history_of x
unfolding history_of beginning
two-parts n [] l = ap (λ (k : ℕ). history_of (take k []) ++ []) (let z : 0 - n ≡ 0 = omega arith in z)
two-parts n (b ∷ parent) l =
    elim (cases_lt (length parent) n) [
      | inl top ↦ (
          let all : n ≡ suc (length parent) = omega (arith, l, top) in
          let none : suc (length parent) - n ≡ 0 = omega (arith, all) in
          ap (λ (k : ℕ). history_of (take k (b ∷ parent)) ++ history_of (beginning n (b ∷ parent))) none
          ∙ ap (λ (y : Branch). history_of y) (cond-true _ _ _ (lt-ltb (length parent) n top)))
      | inr low ↦ (
          let more : suc (length parent) - n ≡ suc (length parent - n) = omega (arith, low) in
          ap (λ (k : ℕ). history_of (take k (b ∷ parent)) ++ history_of (beginning n (b ∷ parent))) more
          ∙ ap (λ (y : Branch). history_of (b ∷ take (length parent - n) parent) ++ history_of y)
          (cond-false _ _ _ (le-ltb (length parent) n low))
          ∙ append_assoc (reverse (map entry_of b.commands)) (history_of (take (length parent - n) parent))
          (history_of (beginning n parent))
          ∙ ap (λ (h : History). reverse (map entry_of b.commands) ++ h) (two-parts n parent low))
    ]

beginning-added : (n : ℕ) (added y : Branch) → n ≤ length y → beginning n (added ++ y) ≡ beginning n y
unfolding beginning
beginning-added n [] y l = refl
beginning-added n (b ∷ added) y l =
    let long = length-append added y in
    cond-false _ _ _ (le-ltb (length (added ++ y)) n (omega (arith, l, long))) ∙ beginning-added n added y l

-- a low part of a branch is that of a block below it
beginning-on : (n : ℕ) (x y : Branch) → Extends x y → n ≤ length y → beginning n x ≡ beginning n y
beginning-on n x y on l = ap (λ (z : Branch). beginning n z) (sym on.1) ∙ beginning-added n on.0 y l

-- the requests that wait and don't stand on the branch of the tree's block that has the leaf's digest
module _ (keys : Keys) (c : Chronicle) (so : IsSound keys.sizes c) (x : Branch)
    (known : find_block (digest_of (leaf (identity_of keys) c)) c ≡ Some x) where
  abbrev v : Variables
  v = variables_of keys c

  found : find_in v.leaf.digest (blocks v.stored) ≡ Some x
  unfolding find_block window
  found = known

  among : Among x (window c)
  unfolding find_block
  among = (found-in (digest_of (leaf (identity_of keys) c)) (window c) x known).0

  same : digest_of x ≡ v.leaf.digest
  unfolding find_block
  same = (found-in (digest_of (leaf (identity_of keys) c)) (window c) x known).1

  height : known_height v ≡ length x
  height = ap (λ (o : Option Branch). elim o [ Some b ↦ length b | None ↦ 0 ]) found

  -- its history, from a height on
  parts : (from : ℕ) → horizon c ≤ from → from ≤ length x
      → history_of x
      ≡ history_above v.leaf.digest (tree_of v) from (known_height v - from) []
      ++ history_of (beginning from x)
  parts from r l =
      let whole : from + (length x - from) ≡ length x = omega (arith, l) in
      sym (history-is keys.sizes c so x among from (length x - from) r (omega (arith, whole))
      ∙ ap (λ (n : ℕ). history_of (beginning n x)) whole ∙ ap history_of (beginning-whole x))
      ∙ above-appended (digest_of x) (tree_at c) from (length x - from) (history_of (beginning from x))
      ∙ (λ i. history_above (same i) (tree_at c) from (sym height i - from) [] ++ history_of
      (beginning from x))

  above : Branch → ℕ → List Command
  above y from = first_beside
      (keys_of (history_above v.leaf.digest (tree_of v) from (known_height v - from) [])) (pending c)

  -- what stands above the horizon
  above-horizon : history_above v.leaf.digest (tree_of v) (horizon c) (known_height v - horizon c) []
      ≡ unpruned c x
  unfolding history_above history_of
  above-horizon =
      elim (cases_lt (length x) (horizon c)) [
        | inl low ↦ (
            let none : known_height v - horizon c ≡ 0 = omega (arith, height, low) in
            let same : length x - horizon c ≡ 0 = omega (arith, low) in
            ap (λ (n : ℕ). history_above v.leaf.digest (tree_of v) (horizon c) n []) none
            ∙ ap (λ (n : ℕ). history_of (take n x)) (sym same))
        | inr le ↦
            append_cancel_right _ _ (history_of (beginning (horizon c) x))
            (sym (parts (horizon c) (omega arith) le) ∙ sym (two-parts (horizon c) x le))
      ]

  -- by whether it extends the last executed block
  by-extends : (b : Bool) → extends x (executed c) ≡ b
      → above x (cond b (length (executed c)) (horizon c)) ≡ picks c x
  unfolding above
  by-extends true e =
      let on : Extends x (executed c) = extends-true x (executed c) e in
      let low : horizon c ≤ length (executed c) = horizon-low c in
      let high : length (executed c) ≤ length x = length-extends x (executed c) on in
      let new : History =
      history_above v.leaf.digest (tree_of v) (length (executed c)) (known_height v - length (executed c)) []
      in
      let below : History = history_of (beginning (horizon c) x) in
      let same : below ≡ history_of (beginning (horizon c) (executed c)) =
      ap (λ (y : Branch). history_of y) (beginning-on (horizon c) x (executed c) on low) in
      let older = two-parts (horizon c) (executed c) low in
      (picked c x).above new (unpruned c (executed c)) below
      (append_cancel_right _ _ below
      (two-parts (horizon c) x (omega (arith, low, high))
      ∙ parts (length (executed c)) low high
      ∙ ap (λ (y : Branch). new ++ history_of y) (IsBeginning-beginning (executed c) x on)
      ∙ ap (λ (h : History). new ++ h)
      (sym older ∙ ap (λ (h : History). unpruned c (executed c) ++ h) (sym same))
      ∙ sym (append_assoc new (unpruned c (executed c)) below)))
      (sym (history-is-of c) ∙ sym older ∙ ap (λ (h : History). unpruned c (executed c) ++ h) (sym same))
  by-extends false e =
      ap (λ (h : History). first_beside (keys_of h) (pending c)) above-horizon ∙ (picked c x).whole

  extends-is : extends_in v.leaf.digest v.rules.executed.digest (blocks v.stored) ≡ extends x (executed c)
  extends-is =
      let last : find_in (digest_of (executed c)) (blocks (standing_blocks c)) ≡ Some (executed c) =
      found-stored c so.is_tree (executed c) (executed-window keys.sizes c so.lawful) in
      λ i. elim (found i) [ Some y ↦ elim (last i) [ Some z ↦ extends y z | None ↦ false ] | None ↦ false ]

  picks-are : first_beside (proposed_above (variables_of keys c)) (pending c) ≡ picks c x
  unfolding above
  picks-are =
      ap (λ (b : Bool). above x (cond b (length (executed c)) (horizon c))) extends-is
      ∙ by-extends (extends x (executed c)) refl

-- where the leaf's block is known
pub picks-known : (keys : Keys) (c : Chronicle) → IsSound keys.sizes c
    → is_some (find_block (digest_of (leaf (identity_of keys) c)) c) ≡ true
    → first_beside (proposed_above (variables_of keys c)) (pending c)
    ≡ picks c (known_as (leaf (identity_of keys) c) c)
picks-known keys c so known = by (find_block (digest_of on) c) refl known
  where
    on : Branch
    on = leaf (identity_of keys) c

    by : (o : Option Branch) → find_block (digest_of (leaf (identity_of keys) c)) c ≡ o → is_some o ≡ true
        → first_beside (proposed_above (variables_of keys c)) (pending c)
        ≡ picks c (known_as (leaf (identity_of keys) c) c)
    by (Some x) e k = picks-are keys c so x e
        ∙ ap (λ (o : Option Branch). picks c (or_else o (leaf (identity_of keys) c))) (sym e)
    by None e k = absurd (true≢false (sym k))
