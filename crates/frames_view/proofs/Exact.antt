-- Readers that are exact: what one reads is spelled so at the front of the bytes, and what is spelled there
-- is read.
use Rattle.std.proofs.Common.{◌≡◌, ℕ, zero, suc, ◌+◌, ◌-◌, ◌^◌, ◌<◌, ◌≤◌, Bool, true, false, cond, List, []}
use Rattle.std.proofs.Common.{◌∷◌, ◌++◌, length, get_or, take, drop, Option, Some, None, refl, sym, ap}
use Rattle.std.proofs.Common.{subst, ◌∙◌, append_assoc, arith, inl, inr, length-append}
use Rattle.std.proofs.lemmas.Option.{same_Some}
use Rattle.std.specs.Prelude.{nat_lt, nat_le, option_map, ⊤}
use Rattle.std.specs.Option.{option_and_then}
use Rattle.std.specs.List.{flat_map, AllByRecursion}
use Rattle.std.specs.Int.{Width, w8, w16, w32, w64, byte_len, from_be_bytes, to_be_bytes}
use Rattle.std.proofs.lemmas.Bool.{cases_lt, ltb-false, le-ltb, leb-true, le-leb}
use Rattle.std.proofs.lemmas.List.{append-nil, take_at, drop_at, take-append-drop, length-take}
use Rattle.std.proofs.lemmas.List.{get_or-append-add, get_or-take, get_or_past}
use Rattle.std.proofs.lemmas.Nat.{be_bytes_2, be_bytes_4, be_bytes_8, from_be_bytes-to_be_bytes_2}
use Rattle.std.proofs.lemmas.Nat.{from_be_bytes-to_be_bytes_4, from_be_bytes-to_be_bytes_8}
use Rattle.definitions.specs.Bytes.{Bytes}
use Rattle.frames_view.specs.Readings.{Reader, number, chunk, tested, both, made, sized, elements, behind}
use Rattle.frames_view.specs.Readings.{behind_rising, many, many_rising, IsRead}

-- each number of the list is a byte
abbrev pub IsBytes : Bytes → Type 0
IsBytes bytes = (i : ℕ) → get_or bytes i 0 < 256

-- so is each that stands behind others
pub IsBytes-right : (front rest : Bytes) → IsBytes (front ++ rest) → IsBytes rest
IsBytes-right front rest h i = rw (← get_or-append-add front rest i 0) (h (length front + i))

-- and each of a front
pub IsBytes-take : (n : ℕ) (bytes : Bytes) → IsBytes bytes → IsBytes (take n bytes)
IsBytes-take n bytes h i =
    elim (cases_lt i n) [
      | inl lt ↦ rw (get_or-take n bytes i 0 lt) (h i)
      | inr le ↦ rw (get_or_past (take n bytes) i 0 (omega (arith, length-take n bytes))) (omega arith)
    ]

-- what is read with P is spelled so, and what is spelled so with P is read
pub record IsExact {X : Type 0} (P : X → Type 0) (spell : X → Bytes) (read : Reader X) : Type 0 where
  pub found : (bytes : Bytes) (x : X) (rest : Bytes) → IsBytes bytes → read bytes ≡ Some (x, rest)
      → P x × (bytes ≡ spell x ++ rest)
  pub again : (x : X) (rest : Bytes) → P x → read (spell x ++ rest) ≡ Some (x, rest)

-- ---- steps that did not fail

pub and_then_parts : {A B : Type 0} (f : A → Option B) (o : Option A) (y : B) → option_and_then f o ≡ Some y
    → (x : A) × (o ≡ Some x) × (f x ≡ Some y)
and_then_parts f (Some x) y e = (x, refl, e)
and_then_parts f None y e = absurd cc

pub map_parts : {A B : Type 0} (f : A → B) (o : Option A) (y : B) → option_map f o ≡ Some y
    → (x : A) × (o ≡ Some x) × (f x ≡ y)
map_parts f (Some x) y e = (x, refl, same_Some (f x) y e)
map_parts f None y e = absurd cc

pub guard_true : {A : Type 0} (b : Bool) (o : Option A) (y : A) → cond b o None ≡ Some y
    → (b ≡ true) × (o ≡ Some y)
guard_true true o y e = (refl, e)
guard_true false o y e = absurd cc

pub guard_false : {A : Type 0} (b : Bool) (o : Option A) (y : A) → cond b None o ≡ Some y
    → (b ≡ false) × (o ≡ Some y)
guard_false true o y e = absurd cc
guard_false false o y e = (refl, e)

-- ---- numbers

-- numbers of this width, below this limit, are read back
pub record IsWide (w : Width) (limit : ℕ) : Type 0 where
  pub len : (n : ℕ) → length (to_be_bytes w n) ≡ byte_len w
  pub back : (bytes : Bytes) → length bytes ≡ byte_len w → IsBytes bytes
      → to_be_bytes w (from_be_bytes w bytes) ≡ bytes
  pub again : (n : ℕ) → n < limit → from_be_bytes w (to_be_bytes w n) ≡ n
  pub below : (bytes : Bytes) → IsBytes bytes → from_be_bytes w bytes < limit

pub wide16 : IsWide w16 (2 ^ 16)
wide16 = record {
  len = λ n. refl;
  back = λ bytes len fits. be_bytes_2 bytes _ len fits refl;
  again = λ n lt. from_be_bytes-to_be_bytes_2 n lt;
  below = λ bytes fits. omega (arith, fits 0, fits 1);
}

pub wide32 : IsWide w32 (2 ^ 32)
wide32 = record {
  len = λ n. refl;
  back = λ bytes len fits. be_bytes_4 bytes _ len fits refl;
  again = λ n lt. from_be_bytes-to_be_bytes_4 n lt;
  below = λ bytes fits. omega (arith, fits 0, fits 1, fits 2, fits 3);
}

pub wide64 : IsWide w64 (2 ^ 64)
wide64 = record {
  len = λ n. refl;
  back = λ bytes len fits. be_bytes_8 bytes _ len fits refl;
  again = λ n lt. from_be_bytes-to_be_bytes_8 n lt;
  below = λ bytes fits. omega (arith, fits 0, fits 1, fits 2, fits 3, fits 4, fits 5, fits 6, fits 7);
}

-- so many bytes
pub IsExact-chunk : (n : ℕ) → IsExact (λ b. length b ≡ n) (λ b. b) (chunk n)
IsExact-chunk n = record {
  found = λ bytes x rest fits e.
      let g = guard_false (nat_lt (length bytes) n) (Some (take n bytes, drop n bytes)) (x, rest) e in
      let long : n ≤ length bytes = ltb-false _ _ g.0 in
      let whole = same_Some (take n bytes, drop n bytes) (x, rest) g.1 in
      let len : length (take n bytes) ≡ n = omega (arith, length-take n bytes) in
      let parts : bytes ≡ take n bytes ++ drop n bytes = sym (take-append-drop n bytes) in
      subst (λ (p : Bytes × Bytes). (length p.0 ≡ n) × (bytes ≡ p.0 ++ p.1)) whole (len, parts);
  again = λ x rest len.
      let long : nat_lt (length (x ++ rest)) n ≡ false = le-ltb _ _ (omega (arith, length-append x rest)) in
      rw (long, take_at x rest n len, drop_at x rest n len) refl;
}

-- a number
pub IsExact-number : (w : Width) (limit : ℕ) → IsWide w limit
    → IsExact (λ n. n < limit) (to_be_bytes w) (number w)
IsExact-number w limit wide = record {
  found = λ bytes n rest fits e.
      let g = guard_false (nat_lt (length bytes) (byte_len w))
      (Some (from_be_bytes w (take (byte_len w) bytes), drop (byte_len w) bytes)) (n, rest) e in
      let long : byte_len w ≤ length bytes = ltb-false _ _ g.0 in
      let whole =
      same_Some (from_be_bytes w (take (byte_len w) bytes), drop (byte_len w) bytes) (n, rest) g.1 in
      let front = take (byte_len w) bytes in
      let few : IsBytes front = IsBytes-take (byte_len w) bytes fits in
      let back : to_be_bytes w (from_be_bytes w front) ≡ front =
      wide.back front (omega (arith, length-take (byte_len w) bytes)) few in
      let parts : bytes ≡ to_be_bytes w (from_be_bytes w front) ++ drop (byte_len w) bytes =
      rw back (sym (take-append-drop (byte_len w) bytes)) in
      subst (λ (p : ℕ × Bytes). (p.0 < limit) × (bytes ≡ to_be_bytes w p.0 ++ p.1)) whole
      (wide.below front few, parts);
  again = λ n rest lt.
      let len = wide.len n in
      let long : nat_lt (length (to_be_bytes w n ++ rest)) (byte_len w) ≡ false =
      le-ltb _ _ (omega (arith, length-append (to_be_bytes w n) rest)) in
      rw (
        long,
        take_at (to_be_bytes w n) rest (byte_len w) len,
        drop_at (to_be_bytes w n) rest (byte_len w) len,
        wide.again n lt,
      ) refl;
}

-- a byte is the first one
byte_found : (bytes : Bytes) (n : ℕ) (rest : Bytes) → IsBytes bytes → number w8 bytes ≡ Some (n, rest)
    → (n < 256) × (bytes ≡ n ∷ rest)
byte_found [] n rest fits e = absurd cc
byte_found (b ∷ bytes) n rest fits e =
    let g = guard_false (nat_lt (length (b ∷ bytes)) (byte_len w8))
    (Some (from_be_bytes w8 (take (byte_len w8) (b ∷ bytes)), drop (byte_len w8) (b ∷ bytes))) (n, rest)
    e in
    let whole = same_Some
    (from_be_bytes w8 (take (byte_len w8) (b ∷ bytes)), drop (byte_len w8) (b ∷ bytes)) (n, rest) g.1 in
    let first : from_be_bytes w8 (take 1 (b ∷ bytes)) ≡ b = omega arith in
    let fits0 : b < 256 = fits 0 in
    subst (λ (p : ℕ × Bytes). (p.0 < 256) × (b ∷ bytes ≡ p.0 ∷ p.1)) whole
    (omega arith, ap (λ (k : ℕ). k ∷ bytes) (sym first))

pub IsExact-byte : IsExact (λ n. n < 256) (λ n. n ∷ []) (number w8)
IsExact-byte = record {
  found = byte_found;
  again =
      λ n rest lt. let long : nat_lt (length (n ∷ rest)) (byte_len w8) ≡ false =
      le-ltb _ _ (omega arith) in rw long refl;
}

-- ---- of two readers one

module _ {X : Type 0} (P : X → Type 0) (spell : X → Bytes) (read : Reader X) (exact : IsExact P spell read)
  where
    -- what is left are bytes too
    pub rest_fits : (bytes : Bytes) (x : X) (rest : Bytes) → IsBytes bytes → read bytes ≡ Some (x, rest)
        → IsBytes rest
    rest_fits bytes x rest fits e =
        IsBytes-right (spell x) rest (subst IsBytes (exact.found bytes x rest fits e).1 fits)

    -- they are fewer
    pub rest_shorter : (bytes : Bytes) (x : X) (rest : Bytes) → IsBytes bytes → read bytes ≡ Some (x, rest)
        → length rest ≤ length bytes
    rest_shorter bytes x rest fits e =
        omega (arith, ap length (exact.found bytes x rest fits e).1, length-append (spell x) rest)

    -- and before them stands what is spelled
    pub front_spelled : (bytes : Bytes) (x : X) (rest : Bytes) → IsBytes bytes → read bytes ≡ Some (x, rest)
        → take (length bytes - length rest) bytes ≡ spell x
    front_spelled bytes x rest fits e =
        let parts = (exact.found bytes x rest fits e).1 in
        let len : length bytes - length rest ≡ length (spell x) =
        omega (arith, ap length parts, length-append (spell x) rest) in
        ap (λ (n : ℕ). take n bytes) len
        ∙ (ap (take (length (spell x))) parts ∙ take_at (spell x) rest (length (spell x)) refl)

    -- spelled in other words
    pub IsExact-same : (Q : X → Type 0) (other : X → Bytes) → ((x : X) → P x → Q x) → ((x : X) → Q x → P x)
        → ((x : X) → spell x ≡ other x) → IsExact Q other read
    IsExact-same Q other into back same = record {
      found = λ bytes x rest fits e.
          let f = exact.found bytes x rest fits e in
          (into x f.0, f.1 ∙ ap (λ (l : Bytes). l ++ rest) (same x));
      again = λ x rest h. ap (λ (l : Bytes). read (l ++ rest)) (sym (same x)) ∙ exact.again x rest (back x h);
    }

    pub IsExact-tested : (test : X → Bool) → IsExact (λ x. P x × (test x ≡ true)) spell (tested test read)
    IsExact-tested test = record {
      found = λ bytes x rest fits e.
          let a = and_then_parts (λ y. cond (test y.0) (Some y) None) (read bytes) (x, rest) e in
          let g = guard_true (test a.0.0) (Some a.0) (x, rest) a.2 in
          let same : a.0 ≡ (x, rest) = same_Some a.0 (x, rest) g.1 in
          let f = exact.found bytes a.0.0 a.0.1 fits a.1 in
          subst (λ (p : X × Bytes). (P p.0 × (test p.0 ≡ true)) × (bytes ≡ spell p.0 ++ p.1)) same
          ((f.0, g.0), f.1);
      again = λ x rest h. rw (exact.again x rest h.0, h.1) refl;
    }

    -- what is made of it
    pub IsExact-made : {Y : Type 0} (make : X → Y) (back : Y → X) → ((x : X) → back (make x) ≡ x)
        → ((y : Y) → make (back y) ≡ y)
        → IsExact (λ y. P (back y)) (λ y. spell (back y)) (made make read)
    IsExact-made {Y} make back one two = record {
      found = λ bytes y rest fits e.
          let a = map_parts (λ x. (make x.0, x.1)) (read bytes) (y, rest) e in
          let f = exact.found bytes a.0.0 a.0.1 fits a.1 in
          let g : P (back (make a.0.0)) × (bytes ≡ spell (back (make a.0.0)) ++ a.0.1) =
          subst (λ (x : X). P x × (bytes ≡ spell x ++ a.0.1)) (sym (one a.0.0)) f in
          subst (λ (p : Y × Bytes). P (back p.0) × (bytes ≡ spell (back p.0) ++ p.1)) a.2 g;
      again = λ y rest h. rw (exact.again (back y) rest h) (ap (λ (z : Y). Some (z, rest)) (two y));
    }

    module _ {Y : Type 0} (Q : Y → Type 0) (spell' : Y → Bytes) (read' : Reader Y)
        (exact' : IsExact Q spell' read') where
      pub IsExact-both : IsExact (λ p. P p.0 × Q p.1) (λ p. spell p.0 ++ spell' p.1) (both read read')
      IsExact-both = record {
        found = λ bytes p rest fits e.
            let a = and_then_parts (λ x. option_map (λ y. ((x.0, y.0), y.1)) (read' x.1)) (read bytes)
            (p, rest) e in
            let x = a.0 in
            let b = map_parts (λ y. ((x.0, y.0), y.1)) (read' x.1) (p, rest) a.2 in
            let y = b.0 in
            let f = exact.found bytes x.0 x.1 fits a.1 in
            let g = exact'.found x.1 y.0 y.1 (rest_fits bytes x.0 x.1 fits a.1) b.1 in
            let parts : bytes ≡ (spell x.0 ++ spell' y.0) ++ y.1 =
            f.1
            ∙ (ap (λ (l : Bytes). spell x.0 ++ l) g.1 ∙ sym (append_assoc (spell x.0) (spell' y.0) y.1)) in
            subst
            (λ (q : (X × Y) × Bytes). (P q.0.0 × Q q.0.1) × (bytes ≡ (spell q.0.0 ++ spell' q.0.1) ++ q.1))
            b.2 ((f.0, g.0), parts);
        again = λ p rest h.
            ap (both read read') (append_assoc (spell p.0) (spell' p.1) rest)
            ∙ rw (exact.again p.0 (spell' p.1 ++ rest) h.0, exact'.again p.1 rest h.1) refl;
      }

-- ---- lengths and lists

-- bytes behind their length
pub IsExact-sized : (w : Width) (limit : ℕ) → IsWide w limit → (most : ℕ) → most < limit
    → IsExact (λ t. length t ≤ most) (λ t. to_be_bytes w (length t) ++ t) (sized w most)
IsExact-sized w limit wide most fewer = record {
  found = λ bytes t rest fits e.
      let num = IsExact-number w limit wide in
      let a =
      and_then_parts (λ n. cond (nat_le n.0 most) (chunk n.0 n.1) None) (number w bytes) (t, rest) e in
      let n = a.0 in
      let g = guard_true (nat_le n.0 most) (chunk n.0 n.1) (t, rest) a.2 in
      let f = num.found bytes n.0 n.1 fits a.1 in
      let c = (IsExact-chunk n.0).found n.1 t rest
      (rest_fits (λ n. n < limit) (to_be_bytes w) (number w) num bytes n.0 n.1 fits a.1) g.1 in
      let few : n.0 ≤ most = leb-true _ _ g.0 in (
        omega (arith, few, c.0),
        f.1
            ∙ (ap (λ (l : Bytes). to_be_bytes w n.0 ++ l) c.1
            ∙ (ap (λ (k : ℕ). to_be_bytes w k ++ (t ++ rest)) (sym c.0)
            ∙ sym (append_assoc (to_be_bytes w (length t)) t rest))),
      );
  again = λ t rest few.
      let num = (IsExact-number w limit wide).again (length t) (t ++ rest) (omega arith) in
      let small : nat_le (length t) most ≡ true = le-leb _ _ few in
      let body = (IsExact-chunk (length t)).again t rest refl in
      ap (sized w most) (append_assoc (to_be_bytes w (length t)) t rest) ∙ rw (num, small) body;
}

-- a list behind its length, of one byte
module _ {X : Type 0} (P : X → Type 0) (spell : X → Bytes) (test : ℕ → Bool) (lists : ℕ → Reader (List X))
    (Q : List X → Type 0)
    (exact : (k : ℕ) → IsExact (λ xs. (length xs ≡ k) × Q xs) (flat_map spell) (lists k)) where
  pub IsExact-counted : IsExact (λ xs. ((length xs < 256) × (test (length xs) ≡ true)) × Q xs)
      (λ xs. length xs ∷ flat_map spell xs)
      (λ bytes. option_and_then (λ count. lists count.0 count.1) (tested test (number w8) bytes))
  IsExact-counted = record {
    found = λ bytes xs rest fits e.
        let byte = IsExact-tested (λ n. n < 256) (λ n. n ∷ []) (number w8) IsExact-byte test in
        let a =
        and_then_parts (λ count. lists count.0 count.1) (tested test (number w8) bytes) (xs, rest) e in
        let n = a.0 in
        let f = byte.found bytes n.0 n.1 fits a.1 in
        let g = (exact n.0).found n.1 xs rest (rest_fits (λ n. (n < 256) × (test n ≡ true)) (λ n. n ∷ [])
        (tested test (number w8)) byte bytes n.0 n.1 fits a.1) a.2 in
        let len : n.0 ≡ length xs = sym g.0.0 in (
          subst (λ (k : ℕ). ((k < 256) × (test k ≡ true)) × Q xs) len (f.0, g.0.1),
          f.1 ∙ (ap (λ (l : Bytes). n.0 ∷ l) g.1 ∙ ap (λ (k : ℕ). k ∷ (flat_map spell xs ++ rest)) len),
        );
    again = λ xs rest h.
        let byte = (IsExact-tested (λ n. n < 256) (λ n. n ∷ []) (number w8) IsExact-byte test).again
        (length xs) (flat_map spell xs ++ rest) h.0 in
        ap (λ (o : Option (ℕ × Bytes)). option_and_then (λ count. lists count.0 count.1) o) byte
        ∙ (exact (length xs)).again xs rest (refl, h.1);
  }

-- ---- lists of so many

-- each has a higher rank than the one before it, and the first at least this one
abbrev pub RisesFrom : {X : Type 0} → (X → ℕ) → ℕ → List X → Type 0
RisesFrom rank least [] = ⊤
RisesFrom rank least (x ∷ xs) = (least ≤ rank x) × RisesFrom rank (suc (rank x)) xs

module _ {X : Type 0} (read : Reader X) where
  -- one element and then so many
  pub elements_step : (k : ℕ) (bytes : Bytes) (x : X) (after : Bytes) → read bytes ≡ Some (x, after)
      → elements read (suc k) bytes ≡ x ∷ elements read k after
  elements_step k bytes x after e = rw (e, elements) refl

  pub behind_step : (k : ℕ) (bytes : Bytes) (x : X) (after : Bytes) → read bytes ≡ Some (x, after)
      → behind read (suc k) bytes ≡ behind read k after
  behind_step k bytes x after e = rw e refl

  rising_step : (rank : X → ℕ) (least k : ℕ) (bytes : Bytes) (x : X) (after : Bytes)
      → read bytes ≡ Some (x, after) → least ≤ rank x
      → behind_rising rank read least (suc k) bytes ≡ behind_rising rank read (suc (rank x)) k after
  rising_step rank least k bytes x after e high = let test = le-leb least (rank x) high in rw (e, test) refl

module _ {X : Type 0} (P : X → Type 0) (spell : X → Bytes) (read : Reader X) (exact : IsExact P spell read)
  where
    behind_found : (k : ℕ) (bytes rest : Bytes) → IsBytes bytes → behind read k bytes ≡ Some rest
        → ((length (elements read k bytes) ≡ k) × AllByRecursion P (elements read k bytes))
        × (bytes ≡ flat_map spell (elements read k bytes) ++ rest)
    behind_found zero bytes rest fits e = ((refl, tt), same_Some bytes rest e)
    behind_found (suc k) bytes rest fits e =
        let a = and_then_parts (λ x. behind read k x.1) (read bytes) rest e in
        let x = a.0 in
        let f = exact.found bytes x.0 x.1 fits a.1 in
        let r = behind_found k x.1 rest (rest_fits P spell read exact bytes x.0 x.1 fits a.1) a.2 in
        let xs = elements read k x.1 in
        let here = elements_step read k bytes x.0 x.1 a.1 in
        let parts : bytes ≡ (spell x.0 ++ flat_map spell xs) ++ rest =
        f.1
        ∙ (ap (λ (l : Bytes). spell x.0 ++ l) r.1
        ∙ sym (append_assoc (spell x.0) (flat_map spell xs) rest)) in
        subst
        (λ (ys : List X). ((length ys ≡ suc k) × AllByRecursion P ys) × (bytes ≡ flat_map spell ys ++ rest))
        (sym here) ((ap suc r.0.0, (f.0, r.0.1)), parts)

    -- what is spelled is there, and the rest is left
    pub elements_again : (xs : List X) (rest : Bytes) → AllByRecursion P xs
        → elements read (length xs) (flat_map spell xs ++ rest) ≡ xs
    elements_again [] rest h = refl
    elements_again (x ∷ xs) rest h =
        ap (elements read (suc (length xs))) (append_assoc (spell x) (flat_map spell xs) rest)
        ∙ elements_step read (length xs) (spell x ++ (flat_map spell xs ++ rest)) x
        (flat_map spell xs ++ rest) (exact.again x (flat_map spell xs ++ rest) h.0)
        ∙ ap (λ (ys : List X). x ∷ ys) (elements_again xs rest h.1)

    behind_again : (xs : List X) (rest : Bytes) → AllByRecursion P xs
        → behind read (length xs) (flat_map spell xs ++ rest) ≡ Some rest
    behind_again [] rest h = refl
    behind_again (x ∷ xs) rest h =
        ap (behind read (suc (length xs))) (append_assoc (spell x) (flat_map spell xs) rest)
        ∙ behind_step read (length xs) (spell x ++ (flat_map spell xs ++ rest)) x (flat_map spell xs ++ rest)
        (exact.again x (flat_map spell xs ++ rest) h.0)
        ∙ behind_again xs rest h.1

    -- so many and their rest are all the bytes
    pub behind_shorter : (k : ℕ) (bytes rest : Bytes) → IsBytes bytes → behind read k bytes ≡ Some rest
        → length rest ≤ length bytes
    behind_shorter k bytes rest fits e =
        let f = behind_found k bytes rest fits e in
        omega (arith, ap length f.1, length-append (flat_map spell (elements read k bytes)) rest)

    -- and before their rest they stand
    pub behind_read : (k : ℕ) (bytes rest : Bytes) → IsBytes bytes → behind read k bytes ≡ Some rest
        → IsRead spell read k bytes (take (length bytes - length rest) bytes)
    behind_read k bytes rest fits e =
        let f = behind_found k bytes rest fits e in
        let xs = elements read k bytes in
        let text = flat_map spell xs in
        let len : length bytes - length rest ≡ length text =
        omega (arith, ap length f.1, length-append text rest) in
        let part : take (length bytes - length rest) bytes ≡ text =
        ap (λ (n : ℕ). take n bytes) len
        ∙ (ap (take (length text)) f.1 ∙ take_at text rest (length text) refl) in
        let again : elements read k text ≡ xs =
        ap (λ (n : ℕ). elements read n text) (sym f.0.0)
        ∙ (ap (elements read (length xs)) (sym (append-nil text)) ∙ elements_again xs [] f.0.1) in
        let here : elements read k (take (length bytes - length rest) bytes) ≡ xs =
        ap (elements read k) part ∙ again in
        record {
          same = here;
          counted = ap length here ∙ f.0.0;
          trimmed = part ∙ ap (flat_map spell) (sym here);
        }

    -- and behind what stands before their rest it stands
    pub behind_left : (k : ℕ) (bytes rest : Bytes) → IsBytes bytes → behind read k bytes ≡ Some rest
        → drop (length bytes - length rest) bytes ≡ rest
    behind_left k bytes rest fits e =
        let f = behind_found k bytes rest fits e in
        let text = flat_map spell (elements read k bytes) in
        let len : length bytes - length rest ≡ length text =
        omega (arith, ap length f.1, length-append text rest) in
        ap (λ (n : ℕ). drop n bytes) len
        ∙ (ap (drop (length text)) f.1 ∙ drop_at text rest (length text) refl)

    -- so many
    pub IsExact-many : (k : ℕ)
        → IsExact (λ xs. (length xs ≡ k) × AllByRecursion P xs) (flat_map spell) (many read k)
    IsExact-many k = record {
      found = λ bytes xs rest fits e.
          let a = map_parts (λ left. (elements read k bytes, left)) (behind read k bytes) (xs, rest) e in
          let f = behind_found k bytes a.0 fits a.1 in
          subst (λ (p : List X × Bytes). ((length p.0 ≡ k) × AllByRecursion P p.0)
          × (bytes ≡ flat_map spell p.0 ++ p.1)) a.2 f;
      again = λ xs rest h.
          ap (λ (n : ℕ). many read n (flat_map spell xs ++ rest)) (sym h.0)
          ∙ ap (option_map (λ (left : Bytes). (elements read (length xs) (flat_map spell xs ++ rest), left)))
          (behind_again xs rest h.1)
          ∙ ap (λ (ys : List X). Some (ys, rest)) (elements_again xs rest h.1);
    }

    module _ (rank : X → ℕ) where
      -- what rises is there
      rising_there : (least k : ℕ) (bytes rest : Bytes) → behind_rising rank read least k bytes ≡ Some rest
          → (behind read k bytes ≡ Some rest) × RisesFrom rank least (elements read k bytes)
      rising_there least zero bytes rest e = (e, tt)
      rising_there least (suc k) bytes rest e =
          let a = and_then_parts
          (λ x. cond (nat_le least (rank x.0)) (behind_rising rank read (suc (rank x.0)) k x.1) None)
          (read bytes) rest e in
          let x = a.0 in
          let g =
          guard_true (nat_le least (rank x.0)) (behind_rising rank read (suc (rank x.0)) k x.1) rest a.2 in
          let r = rising_there (suc (rank x.0)) k x.1 rest g.1 in
          let here = elements_step read k bytes x.0 x.1 a.1 in
          let left = behind_step read k bytes x.0 x.1 a.1 ∙ r.0 in
          (left, subst (RisesFrom rank least) (sym here) (leb-true _ _ g.0, r.1))

      -- so many of rising ranks and their rest are all the bytes
      pub rising_shorter : (k : ℕ) (bytes rest : Bytes) → IsBytes bytes
          → behind_rising rank read 0 k bytes ≡ Some rest → length rest ≤ length bytes
      rising_shorter k bytes rest fits e = behind_shorter k bytes rest fits (rising_there 0 k bytes rest e).0

      -- and before their rest they stand
      pub rising_read : (k : ℕ) (bytes rest : Bytes) → IsBytes bytes
          → behind_rising rank read 0 k bytes ≡ Some rest
          → IsRead spell read k bytes (take (length bytes - length rest) bytes)
      rising_read k bytes rest fits e = behind_read k bytes rest fits (rising_there 0 k bytes rest e).0

      pub rising_left : (k : ℕ) (bytes rest : Bytes) → IsBytes bytes
          → behind_rising rank read 0 k bytes ≡ Some rest → drop (length bytes - length rest) bytes ≡ rest
      rising_left k bytes rest fits e = behind_left k bytes rest fits (rising_there 0 k bytes rest e).0

      rising_again : (least : ℕ) (xs : List X) (rest : Bytes) → AllByRecursion P xs → RisesFrom rank least xs
          → behind_rising rank read least (length xs) (flat_map spell xs ++ rest) ≡ Some rest
      rising_again least [] rest h up = refl
      rising_again least (x ∷ xs) rest h up =
          ap (behind_rising rank read least (suc (length xs)))
          (append_assoc (spell x) (flat_map spell xs) rest)
          ∙ rising_step read rank least (length xs) (spell x ++ (flat_map spell xs ++ rest)) x
          (flat_map spell xs ++ rest) (exact.again x (flat_map spell xs ++ rest) h.0) up.0
          ∙ rising_again (suc (rank x)) xs rest h.1 up.1

      -- so many of rising ranks
      pub IsExact-many_rising : (k : ℕ)
          → IsExact (λ xs. (length xs ≡ k) × (AllByRecursion P xs × RisesFrom rank 0 xs)) (flat_map spell)
          (many_rising rank read k)
      IsExact-many_rising k = record {
        found = λ bytes xs rest fits e.
            let a = map_parts (λ left. (elements read k bytes, left)) (behind_rising rank read 0 k bytes)
            (xs, rest) e in
            let there = rising_there 0 k bytes a.0 a.1 in
            let f = behind_found k bytes a.0 fits there.0 in
            subst (λ (p : List X × Bytes). ((length p.0 ≡ k) × (AllByRecursion P p.0 × RisesFrom rank 0 p.0))
            × (bytes ≡ flat_map spell p.0 ++ p.1)) a.2 ((f.0.0, (f.0.1, there.1)), f.1);
        again = λ xs rest h.
            ap (λ (n : ℕ). many_rising rank read n (flat_map spell xs ++ rest)) (sym h.0)
            ∙ ap
            (option_map (λ (left : Bytes). (elements read (length xs) (flat_map spell xs ++ rest), left)))
            (rising_again 0 xs rest h.1.0 h.1.1)
            ∙ ap (λ (ys : List X). Some (ys, rest)) (elements_again xs rest h.1.0);
      }
