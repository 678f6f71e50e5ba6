-- What is executed after a step, and the replies to it, are those of the chronicle.
use Rattle.std.proofs.Common.{ℕ, zero, suc, ◌≡◌, ◌+◌, ◌-◌, ◌<◌, ◌≤◌, Bool, true, false, List, [], ◌∷◌, ◌++◌}
use Rattle.std.proofs.Common.{length, map, reverse, take, drop, cond, refl, sym, ap, ◌∙◌, subst, arith}
use Rattle.std.proofs.Common.{append_assoc, option_to_list, Option, Some, None, Result, Ok, Err, OnErr, inl}
use Rattle.std.proofs.Common.{inr, length-append, true≢false}
use Rattle.std.specs.Prelude.{option_map, nat_le, ◌||◌, ◌==◌}
use Rattle.ids.specs.declared.limits.TheConstants.{MOST_BLOCKS}
use Rattle.std.specs.Option.{option_and_then}
use Rattle.std.proofs.lemmas.List.{append-nil, map-append, reverse-append, length-reverse, length-map}
use Rattle.std.proofs.lemmas.List.{length-take-le, take-append-drop}
use Rattle.std.proofs.lemmas.Bool.{le-leb, cases_lt}
use Rattle.std.proofs.Math.Seq.{take-append_seam}
use Rattle.ids.specs.Sizes.{Sizes}
use Rattle.definitions.specs.Bytes.{Bytes}
use Rattle.definitions.specs.Lists.{beginning, IsBeginning, Among}
use Rattle.definitions.specs.Frames.{Command, Core}
use Rattle.definitions.specs.Branches.{Block, Branch, Extends}
use Rattle.definitions.specs.Digests.{digest_of, core_of, core_over}
use Rattle.definitions.specs.Trees.{Stored, TreeState, blocks, find_in}
use Rattle.definitions.specs.Chronicles.{Chronicle, horizon, standing_blocks, window, IsSound}
use Rattle.definitions.specs.Histories.{Entry, entry_of, History, history_of, Answer, answers, is_fresh}
use Rattle.definitions.specs.Histories.{answer_in}
use Rattle.definitions.specs.Keyrings.{Keys}
use Rattle.definitions.proofs.Lists.{beginning-begins, length-beginning, IsBeginning-beginning}
use Rattle.definitions.proofs.Trees.{found-in, found-itself, tree-below}
use Rattle.definitions.proofs.Histories.{history_of-grows}
use Rattle.block_tree.specs.Finding.{stored_in, at_height}
use Rattle.block_tree.proofs.Found.{block_from, blocks-found}
use Rattle.definitions.proofs.Branches.{Extends-trans}
use Rattle.definitions.specs.Replicas.{whole_blocks}
use Rattle.mempool.specs.Pool.{left_after}
use Rattle.executor.specs.State.{with_commands, new_answers}
use Rattle.replica.proofs.Waiting.{left-append, shorter, whole-cut, whole-exact}
use Rattle.signed_frames.specs.Outs.{SentBytes}
use Rattle.replica.specs.Execution.{seen_at, block_at, commands_at, history_above, Work, work, stretch}
use Rattle.replica.specs.Execution.{after_blocks, IsCutShortIn, IsCutShort, told_one, told}

-- ---- the replies

pub told-append : (keys : Keys) (xs ys : List Answer) → told keys (xs ++ ys) ≡ told keys xs ++ told keys ys
unfolding told
told-append keys [] ys = refl
told-append keys (a ∷ xs) ys =
    ap (λ (l : List SentBytes). option_to_list (told_one keys a) ++ l) (told-append keys xs ys)
    ∙ sym (append_assoc (option_to_list (told_one keys a)) (told keys xs) (told keys ys))

pub told-last : (keys : Keys) (a : Answer) → told keys (a ∷ []) ≡ option_to_list (told_one keys a)
unfolding told
told-last keys a = append-nil (option_to_list (told_one keys a))

-- ---- the answers that entries add

one-more : (most_keys : ℕ) (e : Entry) (h : History)
    → (z : List Answer) × (answers most_keys (e ∷ h) ≡ z ++ answers most_keys h)
unfolding answers
one-more most_keys e h = by (is_fresh e h)
  where
    by : (t : Bool) → (z : List Answer)
        × (cond t (answer_in most_keys e h ∷ answers most_keys h) (answers most_keys h)
        ≡ z ++ answers most_keys h)
    by true = (answer_in most_keys e h ∷ [], refl)
    by false = ([], refl)

pub answers-more : (most_keys : ℕ) (new h : History)
    → (z : List Answer) × (answers most_keys (new ++ h) ≡ z ++ answers most_keys h)
answers-more most_keys [] h = ([], refl)
answers-more most_keys (e ∷ new) h =
    let one = one-more most_keys e (new ++ h) in
    let rest = answers-more most_keys new h in (
      one.0 ++ rest.0,
      one.1 ∙ ap (λ (l : List Answer). one.0 ++ l) rest.1
          ∙ sym (append_assoc one.0 rest.0 (answers most_keys h)),
    )

pub new-are : (most_keys : ℕ) (old new : History) (z : List Answer)
    → answers most_keys new ≡ z ++ answers most_keys old → new_answers most_keys old new ≡ reverse z
new-are most_keys old new z e =
    let size = length-append z (answers most_keys old) in
    let count : length (z ++ answers most_keys old) - length (answers most_keys old) ≡ length z =
    omega (arith, size) in
    ap (λ (l : List Answer). reverse (take (length l - length (answers most_keys old)) l)) e
    ∙ ap reverse (ap (λ (n : ℕ). take n (z ++ answers most_keys old)) count
    ∙ take-append_seam z (answers most_keys old))

-- answers come from commands
pub some-told : (most_keys : ℕ) (cs : List Command) (old new : History) → new ≡ with_commands cs old
    → 1 ≤ length (new_answers most_keys old new) → 1 ≤ length cs
some-told most_keys [] old new e l =
    let n = ap (λ (x : List Answer). length x) (new-are most_keys old new [] (ap (answers most_keys) e)) in
    omega (arith, n, l)
some-told most_keys (c ∷ cs) old new e l = omega arith

pub on-err : {T E : Type 0} {P Q : Type 0} (r : Result T E) → OnErr r P → (P → Q) → OnErr r Q
on-err (Ok x) h f = tt
on-err (Err n) h f = f h

-- ---- the loop over the blocks

-- a walk over these heights that has ended went as far as it was to go
pub all-heights : (from to height : ℕ) → (to < from → height ≡ from) → to ≤ height
    → (from ≤ to → height ≤ to) → height - from ≡ to - from
all-heights from to height none low high =
    elim (cases_lt to from) [
      | inl l ↦ (let e = none l in omega (arith, l, e))
      | inr l ↦ (let e = high l in omega (arith, l, e, low))
    ]

-- the blocks up to this height were executed
pub record IsUpTo (keys : Keys) (tip : Bytes) (all : TreeState) (from height : ℕ) (old now : History)
    (waits left : List Command) (first out : List SentBytes) : Type 0 where
  pub low : from ≤ height
  pub now_is : now ≡ history_above tip all from (height - from) old
  pub added : List Answer
  pub answers_are : answers keys.sizes.most_keys now ≡ added ++ answers keys.sizes.most_keys old
  pub told_are : out ≡ first ++ told keys (reverse added)
  pub left_are : left ≡ left_after (history_above tip all from (height - from) []) waits

-- the entries of the blocks above a height come before what was executed
pub above-appended : (tip : Bytes) (all : TreeState) (from count : ℕ) (h : History)
    → history_above tip all from count h ≡ history_above tip all from count [] ++ h
unfolding history_above
above-appended tip all from zero h = refl
above-appended tip all from (suc n) h =
    let new = reverse (map entry_of (commands_at tip (suc (from + n)) all)) in
    ap (λ (l : History). new ++ l) (above-appended tip all from n h)
    ∙ sym (append_assoc new (history_above tip all from n []) h)

module _ (keys : Keys) (tip : Bytes) (all : TreeState) (from : ℕ) (old : History) (waits : List Command)
    (first : List SentBytes) where
  pub begins-up : IsUpTo keys tip all from from old old waits waits first first
  unfolding history_above told left_after
  begins-up = record {
    low = omega arith;
    now_is = ap (λ (n : ℕ). history_above tip all from n old) (let e : 0 ≡ from - from = omega arith in e);
    added = [];
    answers_are = refl;
    told_are = sym (append-nil first);
    left_are = ap (λ (n : ℕ). left_after (history_above tip all from n []) waits)
        (let e : 0 ≡ from - from = omega arith in e);
  }

  -- one block more, with these commands
  pub goes-up : (height : ℕ) (now new : History) (left rest : List Command) (out more : List SentBytes)
      (cs : List Command) → IsUpTo keys tip all from height old now waits left first out
      → commands_at tip (suc height) all ≡ cs
      → new ≡ with_commands cs now → rest ≡ left_after (reverse (map entry_of cs)) left
      → more ≡ out ++ told keys (new_answers keys.sizes.most_keys now new)
      → IsUpTo keys tip all from (suc height) old new waits rest first more
  unfolding history_above
  goes-up height now new left rest out more cs u e n p t =
      let l = u.low in
      let z = answers-more keys.sizes.most_keys (reverse (map entry_of cs)) now in
      let step : suc (height - from) ≡ suc height - from = omega (arith, l) in
      let at : from + (height - from) ≡ height = omega (arith, l) in
      let is : answers keys.sizes.most_keys new ≡ z.0 ++ answers keys.sizes.most_keys now = ap (answers keys.sizes.most_keys) n ∙ z.1 in
      record {
        low = omega (arith, l);
        now_is = n ∙ (λ i. with_commands (sym e i) (u.now_is i))
            ∙ ap (λ (h : ℕ). with_commands (commands_at tip (suc h) all)
            (history_above tip all from (height - from) old)) (sym at)
            ∙ ap (λ (k : ℕ). history_above tip all from k old) step;
        added = z.0 ++ u.added;
        answers_are =
            is ∙ ap (λ (l : List Answer). z.0 ++ l) u.answers_are
            ∙ sym (append_assoc z.0 u.added (answers keys.sizes.most_keys old));
        told_are = t ∙ (λ i. u.told_are i ++ told keys (new-are keys.sizes.most_keys now new z.0 is i))
            ∙ append_assoc first (told keys (reverse u.added)) (told keys (reverse z.0))
            ∙ ap (λ (l : List SentBytes). first ++ l) (sym (told-append keys (reverse u.added) (reverse z.0))
            ∙ ap (told keys) (sym (reverse-append z.0 u.added)));
        left_are = p ∙ (λ i. left_after (reverse (map entry_of (sym e i))) (u.left_are i))
            ∙ sym (left-append (reverse (map entry_of (commands_at tip (suc height) all)))
            (history_above tip all from (height - from) []) waits)
            ∙ ap (λ (h : ℕ). left_after (with_commands (commands_at tip (suc h) all)
            (history_above tip all from (height - from) [])) waits) (sym at)
            ∙ ap (λ (k : ℕ). left_after (history_above tip all from k []) waits) step;
      }

  -- no block there
  pub passes-up : (height : ℕ) (now : History) (left : List Command) (out : List SentBytes)
      → IsUpTo keys tip all from height old now waits left first out → commands_at tip (suc height) all ≡ []
      → IsUpTo keys tip all from (suc height) old now waits left first out
  unfolding told left_after
  passes-up height now left out u e =
      goes-up height now now left left out out [] u e refl refl
      (sym (append-nil out) ∙ ap (λ (l : List Answer). out ++ told keys l) (sym (new-are keys.sizes.most_keys now now [] refl)))

  -- all blocks were executed
  pub told-up : (to : ℕ) (now : History) (left : List Command) (out : List SentBytes)
      → IsUpTo keys tip all from to old now waits left first out
      → out ≡ first ++ told keys (new_answers keys.sizes.most_keys old now)
  told-up to now left out u =
      u.told_are
      ∙ ap (λ (l : List Answer). first ++ told keys l) (sym (new-are keys.sizes.most_keys old now u.added u.answers_are))

  -- memory was refused in the next block
  pub cuts-up :
      (height to : ℕ) (now new : History) (left rest : List Command) (out : List SentBytes)
      (cs : List Command)
      → IsUpTo keys tip all from height old now waits left first out → commands_at tip (suc height) all ≡ cs
      → height < to
      → IsCutShortIn cs (work now left) (work new rest)
      → IsCutShort (stretch tip all from to) (work old waits) (work new rest)
  cuts-up height to now new left rest out cs u e b c =
      let l = u.low in
      let at : height ≡ from + (height - from) = omega (arith, l) in
      let same : commands_at tip (suc (from + (height - from))) all ≡ cs =
      ap (λ (h : ℕ). commands_at tip (suc h) all) (sym at) ∙ e in
      record {
        blocks = height - from;
        below = omega (arith, l, b);
        next = subst (λ (x : List Command). IsCutShortIn x
            (after_blocks (stretch tip all from to) (height - from) (work old waits)) (work new rest))
            (sym same)
            (subst (λ (x : Work). IsCutShortIn cs x (work new rest))
            (λ i. work (u.now_is i) (u.left_are i)) c);
      }

-- ---- the blocks of a branch

-- what a history holds of a branch after one block more
grown-by : (b : Block) (parent : Branch)
    → with_commands (core_of (b ∷ parent)).commands (history_of parent) ≡ history_of (b ∷ parent)
unfolding history_of core_of core_over
grown-by b parent = refl

-- the commands of a stored block
abbrev commands-of : Option Stored → List Command
commands-of o = elim o [ Some s ↦ (core_of s.branch).commands | None ↦ [] ]

pub commands-some : (tip : Bytes) (height : ℕ) (all : TreeState) (k : Core)
    → Some k ≡ option_map (λ s. core_of s.branch) (block_at tip height all)
    → commands_at tip height all ≡ k.commands
commands-some tip height all k e = by (block_at tip height all) e
  where
    by : (o : Option Stored) → Some k ≡ option_map (λ s. core_of s.branch) o → commands-of o ≡ k.commands
    by (Some s) e = let same : k ≡ core_of s.branch = (cc) in ap (λ (x : Core). x.commands) (sym same)
    by None e = absurd (none e)
      where
        none : Some k ≡ None → ⊥
        none j = cc

pub commands-none : (tip : Bytes) (height : ℕ) (all : TreeState)
    → option_map {T = Stored} {U = Core} (λ s. core_of s.branch) (block_at tip height all) ≡ None
    → commands_at tip height all ≡ []
commands-none tip height all e = by (block_at tip height all) e
  where
    by : (o : Option Stored) → option_map {T = Stored} {U = Core} (λ s. core_of s.branch) o ≡ None
        → commands-of o ≡ []
    by (Some s) e = absurd (none (sym e))
      where
        none : None ≡ Some (core_of s.branch) → ⊥
        none k = cc
    by None e = refl

genesis-alone : (d : Bytes) (y : Branch) → find_in d ([] ∷ []) ≡ Some y → y ≡ []
genesis-alone d y e = elim (found-in d ([] ∷ []) y e).0 [ inl k ↦ k | inr n ↦ absurd n ]

stored-commands : (d : Bytes) (all : List Stored) (y : Branch) → find_in d (blocks all) ≡ Some y
    → 1 ≤ length y → commands-of (stored_in d all) ≡ (core_of y).commands
stored-commands d all y e l = by (stored_in d all) (sym (blocks-found d all) ∙ e)
  where
    by : (o : Option Stored) → block_from d o ≡ Some y → commands-of o ≡ (core_of y).commands
    by (Some s) k = let same : s.branch ≡ y = (cc) in ap (λ (b : Branch). (core_of b).commands) same
    by None k = absurd (let n = ap (λ (b : Branch). length b) (genesis-alone d y k) in omega (arith, n, l))

-- the tree of a chronicle
abbrev pub tree_at : Chronicle → TreeState
tree_at c = record { most = MOST_BLOCKS; horizon = horizon c; stored = standing_blocks c }

or_left : (x y : Bool) → x ≡ true → (x || y) ≡ true
or_left true y e = refl
or_left false y e = absurd (true≢false (sym e))

-- the block of a chronicle's tree
module _ (sizes : Sizes) (c : Chronicle) (so : IsSound sizes c) (x : Branch) (m : Among x (window c)) where
  found : (y : Branch) → Among y (window c) → find_in (digest_of y) (blocks (standing_blocks c)) ≡ Some y
  unfolding window
  found y k = found-itself (horizon c) (window c) so.is_tree y k

  -- its branch stands in the tree, as far as it is in reach
  below : (h : ℕ) → h ≤ length x → horizon c ≤ h + 2 → Among (beginning h x) (window c)
  below h k r = tree-below (horizon c) (window c) so.is_tree x (beginning h x) m (beginning-begins h x)
      (let n = length-beginning h x k in omega (arith, n, r))

  pub commands-are : (h : ℕ) → 1 ≤ h → h ≤ length x → horizon c ≤ h + 2
      → commands_at (digest_of x) h (tree_at c) ≡ (core_of (beginning h x)).commands
  commands-are h l k r =
      let sight : (nat_le (horizon c) (h + 2) || (h == 0)) ≡ true =
      or_left (nat_le (horizon c) (h + 2)) (h == 0) (le-leb (horizon c) (h + 2) r) in
      let at : option_and_then (seen_at (horizon c) h) (find_in (digest_of x) (blocks (standing_blocks c)))
      ≡ Some (beginning h x) =
      ap (option_and_then (seen_at (horizon c) h)) (found x m)
      ∙ ap (λ (b : Bool). cond b (at_height h x) None) sight
      ∙ ap (λ (b : Bool). cond b (Some (beginning h x)) None) (le-leb h (length x) k) in
      ap (λ (o : Option Branch). commands-of
      (option_and_then (λ d. stored_in d (standing_blocks c)) (option_map digest_of o))) at
      ∙ stored-commands (digest_of (beginning h x)) (standing_blocks c) (beginning h x)
      (found (beginning h x) (below h k r)) (let n = length-beginning h x k in omega (arith, n, l))

  -- one block more
  one-up : (n : ℕ) → suc n ≤ length x
      → with_commands (core_of (beginning (suc n) x)).commands (history_of (beginning n x))
      ≡ history_of (beginning (suc n) x)
  one-up n l = by (beginning (suc n) x) refl
    where
      by : (y : Branch) → beginning (suc n) x ≡ y
          → with_commands (core_of y).commands (history_of (beginning n x)) ≡ history_of y
      by [] e = absurd (let k = length-beginning (suc n) x l in let z = ap (λ (b : Branch). length b) e in
          omega (arith, k, z))
      by (b ∷ parent) e =
          let low : Extends x parent =
          Extends-trans x (b ∷ parent) parent
          (subst (λ (z : Branch). Extends x z) e (beginning-begins (suc n) x)) (b ∷ [], refl) in
          let k = length-beginning (suc n) x l in
          let z = ap (λ (y : Branch). length y) e in
          let here : length parent ≡ n = omega (arith, k, z) in
          ap (λ (y : Branch). with_commands (core_of (b ∷ parent)).commands (history_of y))
          (ap (λ (i : ℕ). beginning i x) (sym here) ∙ IsBeginning-beginning parent x low)
          ∙ grown-by b parent

  pub history-is : (from count : ℕ) → horizon c ≤ from → from + count ≤ length x
      → history_above (digest_of x) (tree_at c) from count (history_of (beginning from x))
      ≡ history_of (beginning (from + count) x)
  unfolding history_above
  history-is from zero r l =
      ap (λ (i : ℕ). history_of (beginning i x)) (let e : from ≡ from + 0 = omega arith in e)
  history-is from (suc n) r l =
      let e : suc (from + n) ≡ from + suc n = omega arith in
      let cs = commands-are (suc (from + n)) (omega arith) (omega (arith, l)) (omega (arith, r)) in
      (λ i. with_commands (cs i) (history-is from n r (omega (arith, l)) i))
      ∙ one-up (from + n) (omega (arith, l)) ∙ ap (λ (i : ℕ). history_of (beginning i x)) e

-- ---- where it was cut short

-- some commands of a block are a beginning of all
begins-cut : (k : ℕ) (cs : List Command) (h : History)
    → IsBeginning (with_commands (take k cs) h) (with_commands cs h)
begins-cut k cs h =
    let parts = take-append-drop k cs in
    let both : reverse (map entry_of (drop k cs)) ++ reverse (map entry_of (take k cs))
    ≡ reverse (map entry_of cs) =
    sym (reverse-append (map entry_of (take k cs)) (map entry_of (drop k cs)))
    ∙ ap reverse (sym (map-append entry_of (take k cs) (drop k cs)) ∙ ap (map entry_of) parts) in (
      reverse (map entry_of (drop k cs)),
      sym (append_assoc (reverse (map entry_of (drop k cs))) (reverse (map entry_of (take k cs))) h)
          ∙ ap (λ (l : History). l ++ h) both,
    )

begins-through : (a b d : History) → IsBeginning a b → IsBeginning b d → IsBeginning a d
begins-through a b d g h = (h.0 ++ g.0, append_assoc h.0 g.0 a ∙ ap (λ (l : History). h.0 ++ l) g.1 ∙ h.1)

-- what was executed between two blocks and not all, and what waits then
pub record IsBetween (c : Chronicle) (x : Branch) (from : ℕ) (held : History) (waits left : List Command) :
    Type 0 where
  pub cut : held ≡ beginning (length held) (history_of x)
  pub low : length (history_of (beginning from x)) ≤ length held
  pub high : length held ≤ length (history_of x)
  pub some : length (history_of (beginning from x)) < length (history_of x)
  pub new : History
  pub whole : history_of (whole_blocks (length held) x) ≡ new ++ history_of (beginning from x)
  pub left_are : left ≡ left_after new waits

-- the whole blocks, by whether the last one begun was whole too
module _ (sizes : Sizes) (c : Chronicle) (so : IsSound sizes c) (x : Branch) (m : Among x (window c))
    (from blocks : ℕ) (reach : horizon c ≤ from) (below : from + blocks < length x) where
  cs : List Command
  cs = (core_of (beginning (suc (from + blocks)) x)).commands

  cs-are : commands_at (digest_of x) (suc (from + blocks)) (tree_at c) ≡ cs
  unfolding cs
  cs-are = commands-are sizes c so x m (suc (from + blocks)) (omega arith) (omega (arith, below))
      (omega (arith, reach))

  before : history_above (digest_of x) (tree_at c) from blocks (history_of (beginning from x))
      ≡ history_of (beginning (from + blocks) x)
  before = history-is sizes c so x m from blocks reach (omega (arith, below))

  here : with_commands cs (history_of (beginning (from + blocks) x))
      ≡ history_of (beginning (suc (from + blocks)) x)
  unfolding cs
  here = one-up sizes c so x m (from + blocks) (omega (arith, below))

  -- so many entries it has
  here-long : length (history_of (beginning (suc (from + blocks)) x))
      ≡ length cs + length (history_of (beginning (from + blocks) x))
  here-long =
      ap (λ (h : History). length h) (sym here)
      ∙ length-append (reverse (map entry_of cs)) (history_of (beginning (from + blocks) x))
      ∙ ap (λ (n : ℕ). n + length (history_of (beginning (from + blocks) x)))
      (length-reverse (map entry_of cs) ∙ length-map cs entry_of)

  entries : (n : ℕ) → History
  entries n = history_above (digest_of x) (tree_at c) from n []

  up-to : history_of (beginning (from + blocks) x) ≡ entries blocks ++ history_of (beginning from x)
  unfolding entries
  up-to =
      sym before ∙ above-appended (digest_of x) (tree_at c) from blocks (history_of (beginning from x))

  up-over : history_of (beginning (suc (from + blocks)) x)
      ≡ entries (suc blocks) ++ history_of (beginning from x)
  unfolding entries history_above
  up-over =
      sym here ∙ ap (λ (h : History). reverse (map entry_of cs) ++ h) up-to
      ∙ sym (append_assoc (reverse (map entry_of cs)) (entries blocks) (history_of (beginning from x)))
      ∙ ap (λ (l : List Command). (reverse (map entry_of l) ++ entries blocks)
      ++ history_of (beginning from x)) (sym cs-are)

  pub cut-by : (h : History) (waits left : List Command) → from ≤ length x
      → IsCutShortIn (commands_at (digest_of x) (suc (from + blocks)) (tree_at c))
      (after_blocks (stretch (digest_of x) (tree_at c) from (length x)) blocks
      (work (history_of (beginning from x)) waits)) (work h left)
      → IsBetween c x from h waits left
  unfolding entries history_above
  cut-by h waits left f k =
      let top = suc (from + blocks) in
      let prior = history_of (beginning (from + blocks) x) in
      let is : h ≡ with_commands (take k.count cs) prior =
      k.history ∙ (λ i. with_commands (take k.count (cs-are i)) (before i)) in
      let up : IsBeginning (history_of (beginning top x)) (history_of x) =
      history_of-grows x (beginning top x) (beginning-begins top x) in
      let part : IsBeginning h (history_of x) =
      begins-through h (history_of (beginning top x)) (history_of x)
      (subst (λ (z : History). IsBeginning z (history_of (beginning top x))) (sym is)
      (subst (λ (z : History). IsBeginning (with_commands (take k.count cs) prior) z) here
      (begins-cut k.count cs prior))) up in
      let first = (let a =
      length-append (entries blocks) (history_of (beginning from x)) in let e =
      ap (λ (z : History). length z) up-to in
      let r : length (history_of (beginning from x)) ≤ length prior = omega (arith, a, e) in r) in
      let taken = length-append (reverse (map entry_of (take k.count cs))) prior in
      let count = length-reverse (map entry_of (take k.count cs)) ∙ length-map (take k.count cs) entry_of in
      let most : k.count ≤ length cs = subst (λ (z : List Command). k.count ≤ length z) cs-are k.most in
      let many = count ∙ length-take-le k.count cs most in
      let some : 1 ≤ length cs = subst (λ (z : List Command). 1 ≤ length z) cs-are k.some in
      let long = here-long in
      let size = ap (λ (z : History). length z) is in
      let held : length h ≡ k.count + length prior = omega (arith, size, taken, many) in
      let all = shorter (history_of (beginning top x)) (history_of x) up in
      let last : (new : History)
      × (history_of (whole_blocks (length h) x) ≡ new ++ history_of (beginning from x))
      × (left ≡ left_after new waits) =
      elim (cases_lt k.count (length cs)) [
        | inl less ↦ (
          entries blocks,
          whole-cut (length h) x (from + blocks) below (omega (arith, held))
              (omega (arith, held, less, long)) ∙ up-to,
          k.in_part (subst (λ (z : List Command). k.count < length z) (sym cs-are) less),
        )
        | inr whole ↦
            let exact : k.count ≡ length cs = omega (arith, whole, most) in (
              entries (suc blocks),
              whole-exact (length h) x top (omega (arith, below)) (omega (arith, held, exact, long))
                  ∙ up-over,
              ap (λ (w : Work). w.waits) (k.whole (exact ∙ ap (λ (z : List Command). length z) (sym cs-are)))
                  ∙ sym (left-append
                  (reverse (map entry_of (commands_at (digest_of x) (suc (from + blocks)) (tree_at c))))
                  (entries blocks) waits),
            )
      ] in
      record {
        cut = sym (IsBeginning-beginning h (history_of x) part);
        low = omega (arith, first, held);
        high = shorter h (history_of x) part;
        some = omega (arith, first, long, some, all);
        new = last.0;
        whole = last.1;
        left_are = last.2;
      }

pub cut-is : (sizes : Sizes) (c : Chronicle) → IsSound sizes c → (x : Branch) → Among x (window c)
    → (from : ℕ) (h : History) (waits left : List Command) → horizon c ≤ from → from ≤ length x
    → IsCutShort (stretch (digest_of x) (tree_at c) from (length x))
    (work (history_of (beginning from x)) waits) (work h left)
    → IsBetween c x from h waits left
cut-is sizes c so x m from h waits left r f k =
    cut-by sizes c so x m from k.blocks r k.below h waits left f k.next
