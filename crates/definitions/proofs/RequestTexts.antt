-- The text of a request determines the request, and request_of finds it again.
use Rattle.ids.specs.declared.limits.TheConstants.{MOST_DATA}
use Rattle.std.proofs.Common.{◌≡◌, ℕ, suc, ◌+◌, ◌-◌, ◌^◌, ◌<◌, ◌≤◌, Bool, true, false, cond, List, [], ◌∷◌}
use Rattle.std.proofs.Common.{◌++◌, length, take, drop, Option, Some, refl, sym, ap, subst, ◌∙◌, inl, inr}
use Rattle.std.proofs.Common.{arith, length-append, append_assoc, true≢false, find}
use Rattle.std.specs.Prelude.{◌==◌, ◌&&◌, codes, decimal, bytes_eq, slice_index, slice_index_or, IfSome}
use Rattle.std.specs.List.{join_with_byte}
use Rattle.std.specs.Str.Parse.{digits_value}
use Rattle.std.proofs.lemmas.Bool.{and_parts, and_from, and_left, and_right, leb-true, le-leb, ltb-true}
use Rattle.std.proofs.lemmas.Bool.{lt-ltb, ne_eqb, cases_eq, cond-false}
use Rattle.std.proofs.lemmas.List.{append-nil, take_at, drop_at}
use Rattle.std.proofs.lemmas.Option.{same_Some}
use Rattle.std.proofs.lemmas.Slice.Eq.{bytes_eq-Decides}
use Rattle.std.proofs.lemmas.Fmt.{length-decimal-le}
use Rattle.definitions.specs.Bytes.{Bytes}
use Rattle.definitions.specs.Lists.{Among}
use Rattle.definitions.specs.Requests.{Verb, set, add, replace, append, prepend, Asked, Head, store, cas}
use Rattle.definitions.specs.Requests.{get, gets, delete, incr, decr, head_of, data_field, crlf, space}
use Rattle.definitions.specs.Requests.{verb_name, fields, line, data_block, spelling, canonical, IsKey}
use Rattle.definitions.specs.Requests.{HasForm, IsRequest}
use Rattle.definitions.specs.Items.{HasNoEnd, IsLineOf}
use Rattle.definitions.specs.Canonical.{first_line, guesses, is_request, request_of}
use Rattle.definitions.proofs.Lines.{parts, digits_value-decimal, key_passes, is_key-passes}
use Rattle.definitions.proofs.Lines.{line_has_no_end, first_lines_same, IsLineOf-unique, may_have}
use Rattle.definitions.proofs.Lines.{may_passes, form_passes, is_form-passes, parts-line, rest_has_none}
use Rattle.definitions.proofs.Lines.{length-line, length-verb_name}

-- ---- a request by its line and its data

-- the request that a line says, with its data from what stands behind the line
abbrev pub with_data : Head → Bytes → Asked
with_data (store verb key flags bytes) rest = store verb key flags (take bytes rest)
with_data (cas key flags bytes cas_unique) rest = cas key flags (take bytes rest) cas_unique
with_data (get keys) rest = get keys
with_data (gets keys) rest = gets keys
with_data (delete key) rest = delete key
with_data (incr key value) rest = incr key value
with_data (decr key value) rest = decr key value

-- the data stands before its end
data_again : (stored more : Bytes) → take (length stored) (stored ++ crlf ++ more) ≡ stored
data_again stored more =
    ap (take (length stored)) (append_assoc stored crlf more)
    ∙ take_at stored (crlf ++ more) (length stored) refl

-- a request is what its line says, with its data
pub with_data-again : (r : Asked) (more : Bytes) → with_data (head_of r) (data_block r ++ more) ≡ r
with_data-again (store verb key flags stored) more =
    ap (λ (d : Bytes). store verb key flags d) (data_again stored more)
with_data-again (cas key flags stored cas_unique) more =
    ap (λ (d : Bytes). cas key flags d cas_unique) (data_again stored more)
with_data-again (get keys) more = refl
with_data-again (gets keys) more = refl
with_data-again (delete key) more = refl
with_data-again (incr key value) more = refl
with_data-again (decr key value) more = refl

-- a text that begins with a spelling is the line, its end, and what begins with the data
pub spelling_behind : (r : Asked) (n : Bool) (more : Bytes)
    → spelling r n ++ more ≡ line (head_of r) n ++ crlf ++ (data_block r ++ more)
spelling_behind r n more = append_assoc (line (head_of r) n ++ crlf) (data_block r) more

-- a spelling begins with its line
pub spelling_line : (r : Asked) (n : Bool) → IsRequest r n → IsLineOf (line (head_of r) n) (head_of r) n
spelling_line r n is = (is.0, is.1, refl)

-- one text begins with the spelling of one request, with noreply or without
pub spelling_one : (r s : Asked) (n m : Bool) (x y : Bytes) → IsRequest r n → IsRequest s m
    → spelling r n ++ x ≡ spelling s m ++ y → (r ≡ s) × (n ≡ m)
spelling_one r s n m x y a b e =
    let both =
    first_lines_same (line (head_of r) n) (line (head_of s) m) (data_block r ++ x) (data_block s ++ y)
    (line_has_no_end (head_of r) n a.0) (line_has_no_end (head_of s) m b.0)
    (sym (spelling_behind r n x) ∙ e ∙ spelling_behind s m y) in
    let one = IsLineOf-unique (line (head_of r) n) (head_of r) (head_of s) n m (spelling_line r n a)
    (b.0, b.1, both.0) in
    let whole : with_data (head_of r) (data_block r ++ x) ≡ with_data (head_of s) (data_block s ++ y) =
    ap (λ (h : Head). with_data h (data_block r ++ x)) one.0 ∙ ap (with_data (head_of s)) both.1 in
    (sym (with_data-again r x) ∙ whole ∙ with_data-again s y, one.1)

-- the spelling determines the request and whether noreply stands there
pub spelling-injective : (r s : Asked) (n m : Bool) → IsRequest r n → IsRequest s m
    → spelling r n ≡ spelling s m → (r ≡ s) × (n ≡ m)
spelling-injective r s n m a b e = spelling_one r s n m [] [] a b (ap (λ (t : Bytes). t ++ []) e)

-- the canonical text determines the request
pub canonical-injective : (r s : Asked) → IsRequest r false → IsRequest s false → canonical r ≡ canonical s
    → r ≡ s
canonical-injective r s a b e = (spelling-injective r s false false a b e).0

-- ---- the test of a request

-- the test of a request decides its form and how much data it has
request_form : (r : Asked) → is_request r ≡ true
    → HasForm (head_of r) × IfSome (data_field r) (λ stored. length stored ≤ MOST_DATA)
request_form (store verb key flags stored) e =
    let p = and_parts _ _ e in
    let q = and_parts _ _ p.0 in
    let few = leb-true _ _ p.1 in
    ((key_passes key q.0, ltb-true _ _ q.1, omega (arith, few)), few)
request_form (cas key flags stored cas_unique) e =
    let o = and_parts _ _ e in
    let p = and_parts _ _ o.0 in
    let q = and_parts _ _ p.0 in
    let few = leb-true _ _ p.1 in
    ((key_passes key q.0, ltb-true _ _ q.1, omega (arith, few), ltb-true _ _ o.1), few)
request_form (get keys) e = (form_passes (get keys) e, tt)
request_form (gets keys) e = (form_passes (gets keys) e, tt)
request_form (delete key) e = (form_passes (delete key) e, tt)
request_form (incr key value) e = (form_passes (incr key value) e, tt)
request_form (decr key value) e = (form_passes (decr key value) e, tt)

-- the tests of a request decide it
pub request_passes : (r : Asked) (n : Bool) → is_request r ≡ true → may_have (head_of r) n ≡ true
    → IsRequest r n
request_passes r n e may = let form = request_form r e in (form.0, may_passes (head_of r) n may, form.1)

-- a request passes
pub is_request-passes : (r : Asked) (n : Bool) → IsRequest r n → is_request r ≡ true
is_request-passes (store verb key flags stored) n is =
    and_from _ _ (and_from _ _ (is_key-passes key is.0.0) (lt-ltb _ _ is.0.1)) (le-leb _ _ is.2)
is_request-passes (cas key flags stored cas_unique) n is =
    and_from _ _
    (and_from _ _ (and_from _ _ (is_key-passes key is.0.0) (lt-ltb _ _ is.0.1)) (le-leb _ _ is.2))
    (lt-ltb _ _ is.0.3)
is_request-passes (get keys) n is = is_form-passes (get keys) is.0
is_request-passes (gets keys) n is = is_form-passes (gets keys) is.0
is_request-passes (delete key) n is = is_form-passes (delete key) is.0
is_request-passes (incr key value) n is = is_form-passes (incr key value) is.0
is_request-passes (decr key value) n is = is_form-passes (decr key value) is.0

-- ---- the first one that passes

-- one step of the search
find_passes_step : {A : Type 0} (p : A → Bool) (x y : A) (o : Option A) → (o ≡ Some y → p y ≡ true)
    → (b : Bool) → p x ≡ b → cond b (Some x) o ≡ Some y → p y ≡ true
find_passes_step {A} p x y o rest true h e = subst (λ (z : A). p z ≡ true) (same_Some x y e) h
find_passes_step p x y o rest false h e = rest e

-- what find gives passes
find_passes : {A : Type 0} (p : A → Bool) (xs : List A) (y : A) → find p xs ≡ Some y → p y ≡ true
find_passes p [] y e = absurd cc
find_passes p (x ∷ xs) y e = find_passes_step p x y (find p xs) (find_passes p xs y) (p x) refl e

-- one step of the search, by how the test goes
find_one_step : {A : Type 0} (p : A → Bool) (x y : A) (xs : List A) → p y ≡ true
    → ((z : A) → p z ≡ true → z ≡ y) → (Among y xs → find p xs ≡ Some y) → (b : Bool) → p x ≡ b
    → Among y (x ∷ xs) → cond b (Some x) (find p xs) ≡ Some y
find_one_step p x y xs t one rest true h m = let same = one x h in cc
find_one_step p x y xs t one rest false h (inl e) = absurd (true≢false (sym t ∙ (ap p e ∙ h)))
find_one_step p x y xs t one rest false h (inr m) = rest m

-- what alone passes is found where it stands
find_one : {A : Type 0} (p : A → Bool) (xs : List A) (y : A) → p y ≡ true → ((z : A) → p z ≡ true → z ≡ y)
    → Among y xs → find p xs ≡ Some y
find_one p [] y t one m = absurd m
find_one p (x ∷ xs) y t one m = find_one_step p x y xs t one (find_one p xs y t one) (p x) refl m

-- ---- the guesses have the request among them

-- the first byte of a longer line is not its end
ends_here : (x : ℕ) (l r : Bytes) → HasNoEnd (x ∷ l)
    → ((x == 13) && (slice_index (l ++ 13 ∷ 10 ∷ r) 0 == 10)) ≡ false
ends_here x [] r none = and_right (x == 13) (13 == 10) refl
ends_here x (y ∷ l) r none =
    elim (cases_eq x 13) [
      | inl e ↦ and_right (x == 13) (y == 10) (ne_eqb y 10 (none 0 e))
      | inr ne ↦ and_left (x == 13) (y == 10) (ne_eqb x 13 ne)
    ]

-- the same, with CR LF written out
first_line_found : (l r : Bytes) → HasNoEnd l → first_line (l ++ 13 ∷ 10 ∷ r) ≡ l
first_line_found [] r none = refl
first_line_found (x ∷ l) r none =
    cond-false _ _ _ (ends_here x l r none)
    ∙ ap (λ (t : Bytes). x ∷ t) (first_line_found l r (rest_has_none x l none))

-- the first line is found
pub first_line-line : (l r : Bytes) → HasNoEnd l → first_line (l ++ crlf ++ r) ≡ l
first_line-line l r none = ap first_line (append_assoc l crlf r) ∙ first_line_found l r none

-- the eleven guesses by the fields and the data
abbrev guesses_from : List Bytes → Bytes → List Asked
guesses_from fs stored =
    let field = λ (i : ℕ). slice_index_or fs i [] in
    let number = λ (i : ℕ). digits_value 10 (field i) in
    store set (field 1) (number 2) stored ∷ store add (field 1) (number 2) stored
    ∷ store replace (field 1) (number 2) stored
    ∷ store append (field 1) (number 2) stored ∷ store prepend (field 1) (number 2) stored
    ∷ cas (field 1) (number 2) stored (number 5)
    ∷ get (drop 1 fs) ∷ gets (drop 1 fs) ∷ delete (field 1) ∷ incr (field 1) (number 2)
    ∷ decr (field 1) (number 2) ∷ []

-- the data that the guesses are made of
abbrev data_in : Bytes → Bytes → Bytes
data_in payload front = take (length payload - length front - 4) (drop (length front + 2) payload)

-- the data is found behind the line
data_found : (l stored : Bytes) → data_in (l ++ crlf ++ (stored ++ crlf)) l ≡ stored
data_found l stored =
    let front : drop (length l + 2) (l ++ crlf ++ (stored ++ crlf)) ≡ stored ++ crlf =
    drop_at (l ++ crlf) (stored ++ crlf) (length l + 2) (length-append l crlf) in
    let long : length (l ++ crlf ++ (stored ++ crlf)) - length l - 4 ≡ length stored =
    omega (arith, length-append (l ++ crlf) (stored ++ crlf), length-append l crlf, length-append stored crlf)
    in
    rw (front, long) (take_at stored crlf (length stored) refl)

-- a request is among the guesses that its fields and data make
among_guessed : (r : Asked) (d : Bytes) → IsRequest r false → IfSome (data_field r) (λ stored. d ≡ stored)
    → Among r (guesses_from (fields (head_of r) ++ []) d)
among_guessed (store set key flags stored) d is e =
    let n = digits_value-decimal flags (omega (arith, is.0.1)) in inl cc
among_guessed (store add key flags stored) d is e =
    let n = digits_value-decimal flags (omega (arith, is.0.1)) in inr (inl cc)
among_guessed (store replace key flags stored) d is e =
    let n = digits_value-decimal flags (omega (arith, is.0.1)) in inr (inr (inl cc))
among_guessed (store append key flags stored) d is e =
    let n = digits_value-decimal flags (omega (arith, is.0.1)) in inr (inr (inr (inl cc)))
among_guessed (store prepend key flags stored) d is e =
    let n = digits_value-decimal flags (omega (arith, is.0.1)) in inr (inr (inr (inr (inl cc))))
among_guessed (cas key flags stored cas_unique) d is e =
    let n = digits_value-decimal flags (omega (arith, is.0.1)) in
    let u = digits_value-decimal cas_unique is.0.3 in
    inr (inr (inr (inr (inr (inl cc)))))
among_guessed (get keys) d is e =
    inr (inr (inr (inr (inr (inr (inl (ap (λ (k : List Bytes). get k) (sym (append-nil keys)))))))))
among_guessed (gets keys) d is e =
    inr (inr (inr (inr (inr (inr (inr (inl (ap (λ (k : List Bytes). gets k) (sym (append-nil keys))))))))))
among_guessed (delete key) d is e = inr (inr (inr (inr (inr (inr (inr (inr (inl refl))))))))
among_guessed (incr key n) d is e =
    let v = digits_value-decimal n is.0.1 in inr (inr (inr (inr (inr (inr (inr (inr (inr (inl cc)))))))))
among_guessed (decr key n) d is e =
    let v =
    digits_value-decimal n is.0.1 in inr (inr (inr (inr (inr (inr (inr (inr (inr (inr (inl cc))))))))))

-- the data of a request is found in its text
stored_found : (r : Asked)
    → IfSome (data_field r) (λ stored. data_in (canonical r) (line (head_of r) false) ≡ stored)
stored_found (store verb key flags stored) =
    data_found (line (store verb key flags (length stored)) false) stored
stored_found (cas key flags stored cas_unique) =
    data_found (line (cas key flags (length stored) cas_unique) false) stored
stored_found (get keys) = tt
stored_found (gets keys) = tt
stored_found (delete key) = tt
stored_found (incr key value) = tt
stored_found (decr key value) = tt

-- a request is among the guesses of its text
among_guesses : (r : Asked) → IsRequest r false → Among r (guesses (canonical r))
among_guesses r is =
    let front : first_line (canonical r) ≡ line (head_of r) false =
    first_line-line (line (head_of r) false) (data_block r) (line_has_no_end (head_of r) false is.0) in
    let fs : parts (first_line (canonical r)) ≡ fields (head_of r) ++ [] =
    ap parts front ∙ parts-line (head_of r) false is.0 in
    let same : guesses (canonical r)
    ≡ guesses_from (fields (head_of r) ++ []) (data_in (canonical r) (line (head_of r) false)) =
    ap (λ (t : List Bytes). guesses_from t (data_in (canonical r) (first_line (canonical r)))) fs
    ∙ ap (λ (t : Bytes). guesses_from (fields (head_of r) ++ []) (data_in (canonical r) t)) front in
    subst (λ (t : List Asked). Among r t) (sym same) (among_guessed r _ is (stored_found r))

-- ---- request_of

-- a request passes the test of its own text
passes : (r : Asked) → IsRequest r false → (is_request r && bytes_eq (canonical r) (canonical r)) ≡ true
passes r is =
    and_from _ _ (is_request-passes r false is) ((bytes_eq-Decides (canonical r) (canonical r)).1 refl)

-- what request_of gives is a request, and the payload its canonical text
pub request_of_some : (payload : Bytes) (r : Asked) → request_of payload ≡ Some r
    → IsRequest r false × (payload ≡ canonical r)
unfolding request_of
request_of_some payload r e =
    let p = and_parts _ _
    (find_passes (λ s. is_request s && bytes_eq (canonical s) payload) (guesses payload) r e) in
    (request_passes r false p.0 refl, sym ((bytes_eq-Decides _ _).0 p.1))

-- request_of finds each request by its canonical text
pub request_of-canonical : (r : Asked) → IsRequest r false → request_of (canonical r) ≡ Some r
unfolding request_of
request_of-canonical r is =
    find_one (λ s. is_request s && bytes_eq (canonical s) (canonical r)) (guesses (canonical r)) r
    (passes r is)
    (λ s t. let p =
    and_parts _ _ t in
    canonical-injective s r (request_passes s false p.0 refl) is ((bytes_eq-Decides _ _).0 p.1))
    (among_guesses r is)

-- ---- how long a canonical text is

-- the bytes of fields, each with a space
spaced_length : List Bytes → ℕ
spaced_length [] = 0
spaced_length (field ∷ more) = suc (length field + spaced_length more)

-- joined fields have one space less
length-spaced : (field : Bytes) (more : List Bytes)
    → length (join_with_byte space (field ∷ more)) + 1 ≡ spaced_length (field ∷ more)
unfolding spaced_length
length-spaced field [] = omega arith
length-spaced field (next ∷ more) =
    omega (arith, length-spaced next more, length-append field (space ∷ join_with_byte space (next ∷ more)))

-- a spelling is its line, two bytes, and the data
pub length-spelling : (r : Asked) (n : Bool)
    → length (spelling r n) ≡ length (line (head_of r) n) + 2 + length (data_block r)
length-spelling r n = omega (
  arith,
  length-append (line (head_of r) n ++ crlf) (data_block r),
  length-append (line (head_of r) n) crlf,
)

-- without data the spelling is a line
short_line : (r : Asked) → IsRequest r false → length (data_block r) ≡ 0 → length (canonical r) ≤ 4393
short_line r is none =
    let fits = length-line (head_of r) false is.0 is.1 in omega (arith, length-spelling r false, none, fits)

-- the line of a store has at most 276 bytes
length_store : (verb : Verb) (key : Bytes) (flags bytes : ℕ) → IsKey key → flags < 2 ^ 32
    → bytes ≤ MOST_DATA → length (line (store verb key flags bytes) false) ≤ 276
unfolding spaced_length
length_store verb key flags bytes is small few =
    let whole = length-spaced (verb_name verb) (key ∷ decimal flags ∷ codes "0" ∷ decimal bytes ∷ []) in
    let name = length-verb_name verb in
    let ten = length-decimal-le 10 flags (omega arith) (omega arith) (omega arith) in
    let four = length-decimal-le 4 bytes (omega arith) (omega arith) (omega arith) in
    omega (arith, whole, name, ten, four, is.1)

-- the line of a cas has at most 293 bytes
length_cas : (key : Bytes) (flags bytes cas_unique : ℕ) → IsKey key → flags < 2 ^ 32 → bytes ≤ MOST_DATA
    → cas_unique < 2 ^ 64 → length (line (cas key flags bytes cas_unique) false) ≤ 293
unfolding spaced_length
length_cas key flags bytes cas_unique is small few low =
    let whole =
    length-spaced (codes "cas") (key ∷ decimal flags ∷ codes "0" ∷ decimal bytes ∷ decimal cas_unique ∷ []) in
    let ten = length-decimal-le 10 flags (omega arith) (omega arith) (omega arith) in
    let four = length-decimal-le 4 bytes (omega arith) (omega arith) (omega arith) in
    let twenty = length-decimal-le 20 cas_unique (omega arith) (omega arith) low in
    omega (arith, whole, ten, four, twenty, is.1)

-- a canonical text has at most 4,393 bytes
pub length-canonical : (r : Asked) → IsRequest r false → length (canonical r) ≤ 4393
length-canonical (store verb key flags stored) is =
    let few =
    length_store verb key flags (length stored) is.0.0 is.0.1 is.2 in
    omega (arith, few, is.2, length-spelling (store verb key flags stored) false, length-append stored crlf)
length-canonical (cas key flags stored cas_unique) is =
    let few =
    length_cas key flags (length stored) cas_unique is.0.0 is.0.1 is.2 is.0.3 in
    omega
    (arith, few, is.2, length-spelling (cas key flags stored cas_unique) false, length-append stored crlf)
length-canonical (get keys) is = short_line (get keys) is refl
length-canonical (gets keys) is = short_line (gets keys) is refl
length-canonical (delete key) is = short_line (delete key) is refl
length-canonical (incr key n) is = short_line (incr key n) is refl
length-canonical (decr key n) is = short_line (decr key n) is refl
