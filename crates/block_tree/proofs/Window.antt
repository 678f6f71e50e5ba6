-- What stands of all blocks that were ever taken.
use Rattle.std.proofs.Common.{ℕ, ◌≡◌, ◌≤◌, Bool, true, false, cond, List, [], ◌∷◌}
use Rattle.std.proofs.Common.{refl, sym, ap, ◌∙◌, inl, inr, filter, find, bytes_eq, true≢false}
use Rattle.std.proofs.Common.{Option, Some, None}
use Rattle.std.proofs.lemmas.Bool.{cond-true, cond-false}
use Rattle.std.proofs.lemmas.Option.{same_Some}
use Rattle.definitions.specs.Lists.{Among}
use Rattle.definitions.specs.Bytes.{Bytes}
use Rattle.definitions.specs.Branches.{Branch}
use Rattle.definitions.specs.Digests.{digest_of}
use Rattle.definitions.specs.Trees.{Stored, blocks, is_in_reach, standing, IsTree}
use Rattle.definitions.proofs.Lists.{find_some, find_none}
use Rattle.definitions.proofs.Trees.{same_bytes}
use Rattle.definitions.proofs.Windows.{reach-lower, standing-again, stored-block, standing-among}
use Rattle.block_tree.specs.Finding.{stored_in}
use Rattle.block_tree.specs.Numbers.{if_standing}
use Rattle.block_tree.specs.Nodes.{Once}

-- ---- a search among what a filter leaves

find_kept_step : {A : Type 0} (p q : A → Bool) (y : A) (ys : List A) (x : A) → q x ≡ true
    → (find p ys ≡ Some x → find p (filter q ys) ≡ Some x) → (t u : Bool) → p y ≡ t → q y ≡ u
    → cond t (Some y) (find p ys) ≡ Some x
    → find p (cond u (y ∷ filter q ys) (filter q ys)) ≡ Some x
find_kept_step p q y ys x kept rest true true i j e = cond-true _ _ _ i ∙ e
find_kept_step p q y ys x kept rest true false i j e =
    let same : y ≡ x = same_Some y x e in absurd (true≢false (sym kept ∙ (sym (ap q same) ∙ j)))
find_kept_step p q y ys x kept rest false true i j e = cond-false _ _ _ i ∙ rest e
find_kept_step p q y ys x kept rest false false i j e = rest e

-- the first one that passes stays the first where it stays
find_kept : {A : Type 0} (p q : A → Bool) (xs : List A) (x : A) → find p xs ≡ Some x → q x ≡ true
    → find p (filter q xs) ≡ Some x
find_kept p q [] x e kept = e
find_kept p q (y ∷ ys) x e kept =
    find_kept_step p q y ys x kept (λ k. find_kept p q ys x k kept) (p y) (q y) refl refl e

find_gone_step : {A : Type 0} (p q : A → Bool) (y : A) (ys : List A) → (p y ≡ true → q y ≡ false)
    → find p (filter q ys) ≡ None → (t u : Bool) → p y ≡ t → q y ≡ u
    → find p (cond u (y ∷ filter q ys) (filter q ys)) ≡ None
find_gone_step p q y ys out rest true true i j = absurd (true≢false (sym j ∙ out i))
find_gone_step p q y ys out rest false true i j = cond-false _ _ _ i ∙ rest
find_gone_step p q y ys out rest t false i j = rest

-- and none is found where each that passes goes
find_gone : {A : Type 0} (p q : A → Bool) (xs : List A)
    → ((x : A) → Among x xs → p x ≡ true → q x ≡ false) → find p (filter q xs) ≡ None
find_gone p q [] out = refl
find_gone p q (y ∷ ys) out =
    find_gone_step p q y ys (out y (inl refl)) (find_gone p q ys (λ x m. out x (inr m))) (p y) (q y) refl refl

-- ---- the newest block of a digest

not_true : (t : Bool) → (t ≡ true → ⊥) → t ≡ false
not_true true h = absurd (h refl)
not_true false h = refl

-- only the newest block of a digest may stand
abbrev pub IsNewest : ℕ → List Stored → Type 0
IsNewest h all = (d : Bytes) → stored_in d (standing h all) ≡ if_standing h (stored_in d all)

-- that stays so where the horizon rises
pub newest-raised : (h k : ℕ) (all : List Stored) → h ≤ k → IsTree h (blocks (standing h all)) → IsNewest h
    all
    → IsNewest k all
newest-raised h k all le tr was d =
    ap (stored_in d) (sym (standing-again h k all le)) ∙ go (stored_in d all) refl
  where
    p : Stored → Bool
    p = λ s. bytes_eq (digest_of s.branch) d

    q : Stored → Bool
    q = λ s. is_in_reach k s.branch

    absent : stored_in d (standing h all) ≡ None → stored_in d (filter q (standing h all)) ≡ None
    absent e = find_gone p q (standing h all) (λ x m i. absurd (find_none p (standing h all) x e m i))

    there : (s : Stored) → stored_in d (standing h all) ≡ Some s → (t : Bool) → q s ≡ t
        → stored_in d (filter q (standing h all)) ≡ cond t (Some s) None
    there s e true i = find_kept p q (standing h all) s e i
    there s e false i =
        let at = find_some p (standing h all) s e in
        find_gone p q (standing h all) (λ x m j.
        let same : x.branch ≡ s.branch =
        tr.one x.branch s.branch (stored-block (standing h all) x m) (stored-block (standing h all) s at.0)
        (same_bytes _ _ j ∙ sym (same_bytes _ _ at.1)) in
        ap (λ (b : Branch). is_in_reach k b) same ∙ i)

    found : (s : Stored) → stored_in d all ≡ Some s → (t : Bool) → is_in_reach h s.branch ≡ t
        → stored_in d (filter q (standing h all)) ≡ cond (q s) (Some s) None
    found s e true i =
        there s (was d ∙ (ap (if_standing h) e ∙ cond-true _ _ _ i)) (q s) refl
    found s e false i =
        absent (was d ∙ (ap (if_standing h) e ∙ cond-false _ _ _ i))
        ∙ sym (cond-false _ _ _ (not_true (q s) (λ j. true≢false (sym (reach-lower h k le s j) ∙ i))))

    go : (o : Option Stored) → stored_in d all ≡ o
        → stored_in d (filter q (standing h all)) ≡ if_standing k (stored_in d all)
    go None e = absent (was d ∙ ap (if_standing h) e) ∙ sym (ap (if_standing k) e)
    go (Some s) e = found s e (is_in_reach h s.branch) refl ∙ sym (ap (if_standing k) e)

newest_step : (h : ℕ) (s : Stored) → is_in_reach h s.branch ≡ true → (o w : Option Stored)
    → w ≡ if_standing h o → (t : Bool) → cond t (Some s) w ≡ if_standing h (cond t (Some s) o)
newest_step h s reach o w e true = sym (cond-true _ _ _ reach)
newest_step h s reach o w e false = e

-- and where a block comes that is in reach
pub newest-grown : (h : ℕ) (s : Stored) (all : List Stored) → is_in_reach h s.branch ≡ true → IsNewest h all
    → IsNewest h (s ∷ all)
newest-grown h s all reach was d =
    ap (stored_in d) (cond-true _ _ _ reach)
    ∙ newest_step h s reach (stored_in d all) (stored_in d (standing h all)) (was d)
    (bytes_eq (digest_of s.branch) d)

-- ---- each block stands once

once_step : (h : ℕ) (s : Stored) (older : List Stored) → (Among s.branch (blocks older) → ⊥)
    → Once (standing h older) → (t : Bool) → Once (cond t (s ∷ standing h older) (standing h older))
once_step h s older new rest true = (λ m. new (standing-among h older s.branch m), rest)
once_step h s older new rest false = rest

pub once-standing : (h : ℕ) (stored : List Stored) → Once stored → Once (standing h stored)
once-standing h [] once = tt
once-standing h (s ∷ older) once =
    once_step h s older once.0 (once-standing h older once.1) (is_in_reach h s.branch)
