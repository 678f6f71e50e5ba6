-- A line, and the fields that are cut off its front.
use Rattle.std.proofs.Common.{◌≡◌, ℕ, suc, ◌+◌, ◌-◌, ◌<◌, ◌≤◌, Bool, true, false, cond, List, [], ◌∷◌}
use Rattle.std.proofs.Common.{length, take, drop, Some, None, refl, sym, ap, ◌∙◌, arith, length-drop}
use Rattle.std.proofs.Common.{true≢false}
use Rattle.std.specs.List.{position, position_or_len, slice_split, join_with_byte}
use Rattle.std.specs.Prelude.{◌==◌, bytes_eq, codes}
use Rattle.std.proofs.lemmas.Bool.{ltb-false, ltb-true}
use Rattle.std.proofs.lemmas.List.{take_all}
use Rattle.std.proofs.lemmas.List.Splits.{slice_split_none, slice_split_first, join_with_byte-slice_split}
use Rattle.std.proofs.lemmas.List.Splits.{length-slice_split}
use Rattle.std.proofs.lemmas.List.Sums.{fails_before_first}
use Rattle.std.proofs.lemmas.Option.{cond_some}
use Rattle.std.proofs.lemmas.Slice.Eq.{bytes_eq-Decides}
use Rattle.definitions.specs.Bytes.{Bytes}
use Rattle.definitions.specs.Requests.{space}
use Rattle.definitions.specs.Canonical.{is_key}
use Rattle.mc_lines.specs.Fields.{parts, keys_pass, noreply_in}

-- texts that pass the test are equal
pub bytes_same : (a b : Bytes) → bytes_eq a b ≡ true → a ≡ b
bytes_same a b e = (bytes_eq-Decides a b).0 e

-- where a test gives nothing, it failed
cond_none : {A : Type 0} (b : Bool) (x : A) → cond b (Some x) None ≡ None → b ≡ false
cond_none true x e = absurd cc
cond_none false x e = refl

-- with no separator there is one part
pub split_at_none : (p : ℕ → Bool) (xs : Bytes) → None ≡ position p xs → slice_split p xs ≡ xs ∷ []
split_at_none p xs e =
    let long : length xs ≤ position_or_len p xs = ltb-false _ _ (cond_none _ _ (sym e)) in
    slice_split_none p xs (λ k d lt. fails_before_first p xs k d (omega arith))

-- the first part, and the others
pub split_at_some : (p : ℕ → Bool) (xs : Bytes) (i : ℕ) → Some i ≡ position p xs
    → slice_split p xs ≡ take i xs ∷ slice_split p (take (length xs - (i + 1)) (drop (i + 1) xs))
split_at_some p xs i e =
    let first = cond_some _ _ _ (sym e) in
    let short : position_or_len p xs < length xs = ltb-true _ _ first.0 in
    let rest : take (length xs - (i + 1)) (drop (i + 1) xs) ≡ drop (i + 1) xs =
    take_all _ _ (omega (arith, length-drop (i + 1) xs)) in
    rw (rest, ← first.1) (slice_split_first p xs 0 short)

-- the fields with one space between each two are the line again
pub parts_joined : (l : Bytes) → join_with_byte space (parts l) ≡ l
parts_joined l = join_with_byte-slice_split space l

-- a line has a field at least
has_fields : (l : Bytes) → 0 < length (parts l)
has_fields l = omega (arith, length-slice_split (λ b. b == space) l)

-- fields that join to another word aren't the word noreply
other_word : (fs : List Bytes) (w : Bytes) → join_with_byte space fs ≡ w
    → bytes_eq w (codes "noreply") ≡ false → 0 < length fs → noreply_in fs ≡ None
other_word [] w e ne h = absurd (omega arith)
other_word (x ∷ []) w e ne h = rw (e, ne) refl
other_word (x ∷ y ∷ fs) w e ne h = refl

-- what is left is no noreply where it is another word
pub noreply_in-other : (w : Bytes) → bytes_eq w (codes "noreply") ≡ false → None ≡ noreply_in (parts w)
noreply_in-other w e = sym (other_word (parts w) w (parts_joined w) e (has_fields w))

-- one more key, before others
more_keys : (m : ℕ) (key : Bytes) (fs : List Bytes) → 0 < length fs → is_key key ≡ true
    → keys_pass m fs ≡ keys_pass (suc m) (key ∷ fs)
more_keys m key [] h e = absurd (omega arith)
more_keys m key (x ∷ fs) h e = rw e refl

-- keys pass if the first does and the others do
pub keys_pass-parts : (most : ℕ) (l key r : Bytes) → 0 < most → parts l ≡ key ∷ parts r → is_key key ≡ true
    → keys_pass (most - 1) (parts r) ≡ keys_pass most (parts l)
keys_pass-parts most l key r pos e good =
    let k : suc (most - 1) ≡ most = omega arith in
    more_keys (most - 1) key (parts r) (has_fields r) good ∙ ap (keys_pass (suc (most - 1))) (sym e)
    ∙ ap (λ n. keys_pass n (parts l)) k

-- keys don't pass where the first doesn't
other_keys : (m : ℕ) (key : Bytes) (fs : List Bytes) → is_key key ≡ false
    → false ≡ keys_pass (suc m) (key ∷ fs)
other_keys m key [] e = sym e
other_keys m key (x ∷ fs) e = rw e refl

-- the same of a line
pub keys_pass-other : (most : ℕ) (l key : Bytes) (more : List Bytes) → 0 < most → parts l ≡ key ∷ more
    → is_key key ≡ false → false ≡ keys_pass most (parts l)
keys_pass-other most l key more pos e bad =
    let k : suc (most - 1) ≡ most = omega arith in
    other_keys (most - 1) key more bad ∙ ap (keys_pass (suc (most - 1))) (sym e)
    ∙ ap (λ n. keys_pass n (parts l)) k

-- texts that fail the test differ
pub bytes_differ : (a b c : Bytes) → false ≡ bytes_eq a c → c ≡ b → a ≡ b → ⊥
bytes_differ a b c fails same e = true≢false (sym ((bytes_eq-Decides a c).1 (e ∙ sym same)) ∙ sym fails)
