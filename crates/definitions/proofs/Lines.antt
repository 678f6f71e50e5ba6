-- Request lines: their fields are found again at the spaces, and a line says one thing.
use Rattle.ids.specs.declared.limits.TheConstants.{MOST_LINE}
use Rattle.std.proofs.Common.{◌≡◌, ℕ, suc, ◌+◌, ◌*◌, ◌^◌, ◌<◌, ◌≤◌, Bool, true, false, not, List, [], ◌∷◌}
use Rattle.std.proofs.Common.{◌++◌, length, All, Option, Some, None, refl, sym, ap, subst, ◌∙◌, inl, inr}
use Rattle.std.proofs.Common.{arith, length-append, append_assoc}
use Rattle.std.specs.Prelude.{◌==◌, ◌&&◌, nat_lt, nat_le, codes, decimal, bytes_eq, if◌then◌else◌}
use Rattle.std.specs.Prelude.{slice_index, slice_index_or, drop}
use Rattle.std.specs.List.{list_all, AllByRecursion, join_with_byte, slice_split}
use Rattle.std.specs.Str.Parse.{digits_value}
use Rattle.std.proofs.lemmas.Bool.{and_parts, and_from, leb-true, le-leb, ltb-true, lt-ltb, eqb-false}
use Rattle.std.proofs.lemmas.Bool.{ne_eqb, not-true, cases_lt, cond-true}
use Rattle.std.proofs.lemmas.List.{append-nil, get_or_past}
use Rattle.std.proofs.lemmas.List.Sums.{AllPass-from_list_all, list_all-from_AllPass}
use Rattle.std.proofs.lemmas.List.Elements.{All-nil, All-append, All-cons, All-weaker, All-from_get_or}
use Rattle.std.proofs.lemmas.List.Splits.{slice_split_none, slice_split_at}
use Rattle.std.proofs.lemmas.Str.Parse.{digit_at}
use Rattle.std.proofs.lemmas.Fmt.{decimal_is_IsNumeral, length-decimal-le}
use Rattle.std.proofs.lemmas.Slice.Eq.{bytes_eq-Decides}
use Rattle.std.proofs.lemmas.Option.{some_pair_parts, cond_some}
use Rattle.definitions.specs.Bytes.{Bytes}
use Rattle.definitions.specs.Requests.{Verb, set, add, replace, append, prepend, Head, store, cas, get}
use Rattle.definitions.specs.Requests.{gets, delete, incr, decr, takes_noreply, crlf, space, verb_name}
use Rattle.definitions.specs.Requests.{fields, noreply_field, line, IsKey, AreKeys, HasForm, MayHave}
use Rattle.definitions.specs.Items.{HasNoEnd, IsLineOf}
use Rattle.definitions.specs.Canonical.{is_key_byte, is_key}

-- ---- the bytes of a field

-- neither a control character nor a space
abbrev pub IsPlain : Bytes → Type 0
IsPlain field = All (λ (b : ℕ). 33 ≤ b) field

-- a word of letters, by its test
pub plain_word : (word : Bytes) → list_all (λ b. nat_le 33 b) word ≡ true → IsPlain word
plain_word word passes i d within =
    leb-true _ _ (AllPass-from_list_all (λ b. nat_le 33 b) word passes i d within)

-- a key is plain
pub plain_key : (key : Bytes) → IsKey key → IsPlain key
plain_key key is i d within = (is.2 i d within).0

-- digits are plain
pub plain_decimal : (n : ℕ) → n < 2 ^ 64 → IsPlain (decimal n)
plain_decimal n small = All-from_get_or (λ b. 33 ≤ b) (decimal n) 0
    (λ i within. let digit =
    digit_at (decimal n) i (decimal_is_IsNumeral n small).0.1 within in omega (arith, digit.0))

-- so is the word noreply
plain_noreply : (noreply : Bool) → AllByRecursion IsPlain (noreply_field noreply)
plain_noreply true = (plain_word (codes "noreply") refl, tt)
plain_noreply false = tt

-- so are keys, and the word behind them
plain_keys : (keys : List Bytes) (noreply : Bool) → AllByRecursion IsKey keys
    → AllByRecursion IsPlain (keys ++ noreply_field noreply)
plain_keys [] noreply are = plain_noreply noreply
plain_keys (key ∷ keys) noreply are = (plain_key key are.0, plain_keys keys noreply are.1)

-- so is the name of a storage command
plain_verb : (verb : Verb) → IsPlain (verb_name verb)
plain_verb set = plain_word (codes "set") refl
plain_verb add = plain_word (codes "add") refl
plain_verb replace = plain_word (codes "replace") refl
plain_verb append = plain_word (codes "append") refl
plain_verb prepend = plain_word (codes "prepend") refl

-- the fields of a line have no space in them
pub plain_fields : (head : Head) (noreply : Bool) → HasForm head
    → AllByRecursion IsPlain (fields head ++ noreply_field noreply)
plain_fields (store verb key flags bytes) noreply form = (
  plain_verb verb,
  (
    plain_key key form.0,
    (
      plain_decimal flags (omega (arith, form.1)),
      (plain_word (codes "0") refl, (plain_decimal bytes form.2, plain_noreply noreply)),
    ),
  ),
)
plain_fields (cas key flags bytes cas_unique) noreply form = (
  plain_word (codes "cas") refl,
  (
    plain_key key form.0,
    (
      plain_decimal flags (omega (arith, form.1)),
      (
        plain_word (codes "0") refl,
        (plain_decimal bytes form.2, (plain_decimal cas_unique form.3, plain_noreply noreply)),
      ),
    ),
  ),
)
plain_fields (get keys) noreply form = (plain_word (codes "get") refl, plain_keys keys noreply form.2)
plain_fields (gets keys) noreply form = (plain_word (codes "gets") refl, plain_keys keys noreply form.2)
plain_fields (delete key) noreply form =
    (plain_word (codes "delete") refl, (plain_key key form, plain_noreply noreply))
plain_fields (incr key value) noreply form = (
  plain_word (codes "incr") refl,
  (plain_key key form.0, (plain_decimal value form.1, plain_noreply noreply)),
)
plain_fields (decr key value) noreply form = (
  plain_word (codes "decr") refl,
  (plain_key key form.0, (plain_decimal value form.1, plain_noreply noreply)),
)

-- ---- the fields of a line

-- the fields that a text has between its spaces
abbrev pub parts : Bytes → List Bytes
parts l = slice_split (λ b. b == space) l

-- a plain field has no space
no_space : (field : Bytes) → IsPlain field → All (λ (b : ℕ). (b == space) ≡ false) field
no_space field plain = All-weaker (λ b. 33 ≤ b) (λ b. (b == space) ≡ false)
    (λ b high. ne_eqb b space (λ e. omega arith)) field plain

-- plain fields, joined by spaces, are found again
pub parts-joined : (field : Bytes) (more : List Bytes) → AllByRecursion IsPlain (field ∷ more)
    → parts (join_with_byte space (field ∷ more)) ≡ field ∷ more
parts-joined field [] plain = slice_split_none (λ b. b == space) field (no_space field plain.0)
parts-joined field (next ∷ more) plain =
    slice_split_at (λ b. b == space) field space (join_with_byte space (next ∷ more))
    (no_space field plain.0) refl
    ∙ ap (λ (t : List Bytes). field ∷ t) (parts-joined next more plain.1)

-- the fields of a well-formed line are found again
pub parts-line : (head : Head) (noreply : Bool) → HasForm head
    → parts (line head noreply) ≡ fields head ++ noreply_field noreply
parts-line (store verb key flags bytes) noreply form =
    parts-joined _ _ (plain_fields (store verb key flags bytes) noreply form)
parts-line (cas key flags bytes cas_unique) noreply form =
    parts-joined _ _ (plain_fields (cas key flags bytes cas_unique) noreply form)
parts-line (get keys) noreply form = parts-joined _ _ (plain_fields (get keys) noreply form)
parts-line (gets keys) noreply form = parts-joined _ _ (plain_fields (gets keys) noreply form)
parts-line (delete key) noreply form = parts-joined _ _ (plain_fields (delete key) noreply form)
parts-line (incr key value) noreply form = parts-joined _ _ (plain_fields (incr key value) noreply form)
parts-line (decr key value) noreply form = parts-joined _ _ (plain_fields (decr key value) noreply form)

-- ---- no line ends within

-- a byte of a line is no control character
high_joined : (fs : List Bytes) → AllByRecursion IsPlain fs
    → All (λ (b : ℕ). 32 ≤ b) (join_with_byte space fs)
high_joined [] plain = All-nil (λ b. 32 ≤ b)
high_joined (field ∷ []) plain = All-weaker (λ b. 33 ≤ b) (λ b. 32 ≤ b) (λ b high. omega arith) field plain.0
high_joined (field ∷ next ∷ more) plain =
    All-append (λ b. 32 ≤ b) field (space ∷ join_with_byte space (next ∷ more))
    (All-weaker (λ b. 33 ≤ b) (λ b. 32 ≤ b) (λ b high. omega arith) field plain.0)
    (All-cons (λ b. 32 ≤ b) space (join_with_byte space (next ∷ more)) (omega arith)
    (high_joined (next ∷ more) plain.1))

-- a text with no control character has no CR in it
pub no_cr : (text : Bytes) → All (λ (b : ℕ). 32 ≤ b) text → (i : ℕ) → slice_index text i ≡ 13 → ⊥
no_cr text high i e =
    elim (cases_lt i (length text)) [
      | inl within ↦ let low = high i 0 within in omega (arith, low, e)
      | inr past ↦ omega (arith, e, get_or_past text i 0 past)
    ]

-- no CR stands in a well-formed line, so it doesn't end in CR either
pub line_has_no_cr : (head : Head) (noreply : Bool) → HasForm head → (i : ℕ)
    → slice_index (line head noreply) i ≡ 13 → ⊥
line_has_no_cr head noreply form =
    no_cr (line head noreply)
    (high_joined (fields head ++ noreply_field noreply) (plain_fields head noreply form))

-- no CR LF stands in a well-formed line
pub line_has_no_end : (head : Head) (noreply : Bool) → HasForm head → HasNoEnd (line head noreply)
line_has_no_end head noreply form i e _ = line_has_no_cr head noreply form i e

-- ---- what the fields say

-- whether a word stands at the end
abbrev pub has_word : List Bytes → Bool
has_word [] = false
has_word (word ∷ more) = true

-- what the fields of a line could say: the names tell which command it is
unfoldable pub head_in : List Bytes → Option (Head × Bool)
head_in [] = None
head_in (name ∷ args) =
    let field = λ (i : ℕ). slice_index_or args i [] in
    let number = λ (i : ℕ). digits_value 10 (field i) in
    let stores : Verb → Option (Head × Bool) =
    λ verb. Some (store verb (field 0) (number 1) (number 3), has_word (drop 4 args)) in
    if bytes_eq name (codes "get") then Some (get args, false)
    else if bytes_eq name (codes "gets") then Some (gets args, false)
    else if bytes_eq name (codes "set") then stores set
    else if bytes_eq name (codes "add") then stores add
    else if bytes_eq name (codes "replace") then stores replace
    else if bytes_eq name (codes "append") then stores append
    else if bytes_eq name (codes "prepend") then stores prepend
    else if bytes_eq name (codes "cas") then Some
    (cas (field 0) (number 1) (number 3) (number 4), has_word (drop 5 args))
    else if bytes_eq name (codes "delete") then Some (delete (field 0), has_word (drop 1 args))
    else if bytes_eq name (codes "incr") then Some (incr (field 0) (number 1), has_word (drop 2 args))
    else if bytes_eq name (codes "decr") then Some (decr (field 0) (number 1), has_word (drop 2 args))
    else None

-- a number is found again in its digits
pub digits_value-decimal : (n : ℕ) → n < 2 ^ 64 → digits_value 10 (decimal n) ≡ n
digits_value-decimal n small = (decimal_is_IsNumeral n small).1

-- the word noreply is seen where it stands
has_word-noreply : (noreply : Bool) → has_word (noreply_field noreply) ≡ noreply
has_word-noreply true = refl
has_word-noreply false = refl

-- a store by its parts
store_same : (verb : Verb) (key : Bytes) (f g b c : ℕ) (q r : Bool) → f ≡ g → b ≡ c → q ≡ r
    → ◌≡◌ {A = Option (Head × Bool)} (Some (store verb key f b, q)) (Some (store verb key g c, r))
store_same verb key f g b c q r e d h = cc

-- the fields of a line say what the line was made of
pub head_in-fields : (head : Head) (noreply : Bool) → HasForm head → MayHave head noreply
    → head_in (fields head ++ noreply_field noreply) ≡ Some (head, noreply)
unfolding head_in
head_in-fields (store set key flags bytes) noreply form may =
    store_same set key _ _ _ _ _ _ (digits_value-decimal flags (omega (arith, form.1)))
    (digits_value-decimal bytes form.2) (has_word-noreply noreply)
head_in-fields (store add key flags bytes) noreply form may =
    store_same add key _ _ _ _ _ _ (digits_value-decimal flags (omega (arith, form.1)))
    (digits_value-decimal bytes form.2) (has_word-noreply noreply)
head_in-fields (store replace key flags bytes) noreply form may =
    store_same replace key _ _ _ _ _ _ (digits_value-decimal flags (omega (arith, form.1)))
    (digits_value-decimal bytes form.2) (has_word-noreply noreply)
head_in-fields (store append key flags bytes) noreply form may =
    store_same append key _ _ _ _ _ _ (digits_value-decimal flags (omega (arith, form.1)))
    (digits_value-decimal bytes form.2) (has_word-noreply noreply)
head_in-fields (store prepend key flags bytes) noreply form may =
    store_same prepend key _ _ _ _ _ _ (digits_value-decimal flags (omega (arith, form.1)))
    (digits_value-decimal bytes form.2) (has_word-noreply noreply)
head_in-fields (cas key flags bytes cas_unique) noreply form may =
    rw (
      digits_value-decimal flags (omega (arith, form.1)),
      digits_value-decimal bytes form.2,
      digits_value-decimal cas_unique form.3,
      has_word-noreply noreply,
    ) refl
head_in-fields (get keys) true form may = absurd (let no : false ≡ true = may refl in cc)
head_in-fields (get keys) false form may = ap (λ (t : List Bytes). Some (get t, false)) (append-nil keys)
head_in-fields (gets keys) true form may = absurd (let no : false ≡ true = may refl in cc)
head_in-fields (gets keys) false form may = ap (λ (t : List Bytes). Some (gets t, false)) (append-nil keys)
head_in-fields (delete key) noreply form may = rw (has_word-noreply noreply) refl
head_in-fields (incr key n) noreply form may =
    rw (digits_value-decimal n form.1, has_word-noreply noreply) refl
head_in-fields (decr key n) noreply form may =
    rw (digits_value-decimal n form.1, has_word-noreply noreply) refl

-- what a well-formed line says
pub head_in-parts : (l : Bytes) (head : Head) (noreply : Bool) → IsLineOf l head noreply
    → head_in (parts l) ≡ Some (head, noreply)
head_in-parts l head noreply is =
    ap (λ (t : Bytes). head_in (parts t)) is.2 ∙ ap head_in (parts-line head noreply is.0)
    ∙ head_in-fields head noreply is.0 is.1

-- a line says one thing
pub IsLineOf-unique : (l : Bytes) (h k : Head) (q r : Bool) → IsLineOf l h q → IsLineOf l k r
    → (h ≡ k) × (q ≡ r)
IsLineOf-unique l h k q r a b = some_pair_parts h k q r (sym (head_in-parts l h q a) ∙ head_in-parts l k r b)

-- ---- which lines have a form

-- the test of a key decides it
pub key_passes : (key : Bytes) → is_key key ≡ true → IsKey key
key_passes key e =
    let p = and_parts _ _ e in
    let q = and_parts _ _ p.0 in (
      leb-true _ _ q.0,
      leb-true _ _ q.1,
      λ i d within.
          let byte = and_parts _ _ (AllPass-from_list_all
          is_key_byte key p.1 i d within) in
          let range = and_parts _ _ byte.0 in
          (leb-true _ _ range.0, ltb-true _ _ range.1, eqb-false _ _ (not-true _ byte.1)),
    )

-- a key passes
pub is_key-passes : (key : Bytes) → IsKey key → is_key key ≡ true
is_key-passes key is =
    and_from _ _ (and_from _ _ (le-leb _ _ is.0) (le-leb _ _ is.1))
    (list_all-from_AllPass is_key_byte key
    (λ i d within. let byte =
    is.2 i d within in
    and_from _ _ (and_from _ _ (le-leb _ _ byte.0) (lt-ltb _ _ byte.1)) (ap not (ne_eqb _ 127 byte.2))))

-- what passes are keys
pub keys_pass : (keys : List Bytes) → list_all is_key keys ≡ true → AllByRecursion IsKey keys
keys_pass [] e = tt
keys_pass (key ∷ keys) e = let p = and_parts _ _ e in (key_passes key p.0, keys_pass keys p.1)

-- keys pass
pub are_keys-pass : (keys : List Bytes) → AllByRecursion IsKey keys → list_all is_key keys ≡ true
are_keys-pass [] are = refl
are_keys-pass (key ∷ keys) are = and_from _ _ (is_key-passes key are.0) (are_keys-pass keys are.1)

-- the test of what a line may say
abbrev pub is_form : Head → Bool
is_form (store verb key flags bytes) = is_key key && nat_lt flags (2 ^ 32) && nat_lt bytes (2 ^ 64)
is_form (cas key flags bytes cas_unique) =
    is_key key && nat_lt flags (2 ^ 32) && nat_lt bytes (2 ^ 64) && nat_lt cas_unique (2 ^ 64)
is_form (get keys) = nat_le 1 (length keys) && nat_le (length keys) 16 && list_all is_key keys
is_form (gets keys) = nat_le 1 (length keys) && nat_le (length keys) 16 && list_all is_key keys
is_form (delete key) = is_key key
is_form (incr key value) = is_key key && nat_lt value (2 ^ 64)
is_form (decr key value) = is_key key && nat_lt value (2 ^ 64)

-- the test of all keys decides them
keys_are : (keys : List Bytes)
    → (nat_le 1 (length keys) && nat_le (length keys) 16 && list_all is_key keys) ≡ true → AreKeys keys
keys_are keys e =
    let p =
    and_parts _ _ e in let q = and_parts _ _ p.0 in (leb-true _ _ q.0, leb-true _ _ q.1, keys_pass keys p.1)

-- all keys pass
are_keys_again : (keys : List Bytes) → AreKeys keys
    → (nat_le 1 (length keys) && nat_le (length keys) 16 && list_all is_key keys) ≡ true
are_keys_again keys are =
    and_from _ _ (and_from _ _ (le-leb _ _ are.0) (le-leb _ _ are.1)) (are_keys-pass keys are.2)

-- what passes has the form
pub form_passes : (head : Head) → is_form head ≡ true → HasForm head
form_passes (store verb key flags bytes) e =
    let p =
    and_parts _ _ e in let q = and_parts _ _ p.0 in (key_passes key q.0, ltb-true _ _ q.1, ltb-true _ _ p.1)
form_passes (cas key flags bytes cas_unique) e =
    let o =
    and_parts _ _ e in let p =
    and_parts _ _ o.0 in let q =
    and_parts _ _ p.0 in (key_passes key q.0, ltb-true _ _ q.1, ltb-true _ _ p.1, ltb-true _ _ o.1)
form_passes (get keys) e = keys_are keys e
form_passes (gets keys) e = keys_are keys e
form_passes (delete key) e = key_passes key e
form_passes (incr key value) e = let p = and_parts _ _ e in (key_passes key p.0, ltb-true _ _ p.1)
form_passes (decr key value) e = let p = and_parts _ _ e in (key_passes key p.0, ltb-true _ _ p.1)

-- what has the form passes
pub is_form-passes : (head : Head) → HasForm head → is_form head ≡ true
is_form-passes (store verb key flags bytes) form =
    and_from _ _ (and_from _ _ (is_key-passes key form.0) (lt-ltb _ _ form.1)) (lt-ltb _ _ form.2)
is_form-passes (cas key flags bytes cas_unique) form =
    and_from _ _
    (and_from _ _ (and_from _ _ (is_key-passes key form.0) (lt-ltb _ _ form.1)) (lt-ltb _ _ form.2))
    (lt-ltb _ _ form.3)
is_form-passes (get keys) form = are_keys_again keys form
is_form-passes (gets keys) form = are_keys_again keys form
is_form-passes (delete key) form = is_key-passes key form
is_form-passes (incr key value) form = and_from _ _ (is_key-passes key form.0) (lt-ltb _ _ form.1)
is_form-passes (decr key value) form = and_from _ _ (is_key-passes key form.0) (lt-ltb _ _ form.1)

-- the test of noreply
abbrev pub may_have : Head → Bool → Bool
may_have head true = takes_noreply head
may_have head false = true

-- what passes may stand
pub may_passes : (head : Head) (noreply : Bool) → may_have head noreply ≡ true → MayHave head noreply
may_passes head true e stands = e
may_passes head false e stands = absurd cc

-- what may stand passes
pub may_have-passes : (head : Head) (noreply : Bool) → MayHave head noreply → may_have head noreply ≡ true
may_have-passes head true may = may refl
may_have-passes head false may = refl

-- what the fields could say is what the line says where the line is the text of it
abbrev pub checked_head : Bytes → Option (Head × Bool) → Option (Head × Bool)
checked_head l None = None
checked_head l (Some (head, noreply)) =
    if is_form head && may_have head noreply
    && bytes_eq (line head noreply) l then Some (head, noreply) else None

-- what a line says, as a function
unfoldable pub head_at : Bytes → Option (Head × Bool)
head_at l = checked_head l (head_in (parts l))

-- equal texts pass the test
bytes_eq-same : (a b : Bytes) → a ≡ b → bytes_eq a b ≡ true
bytes_eq-same a b e = (bytes_eq-Decides a b).1 e

-- a well-formed line passes the check
checked_head-line : (l : Bytes) (head : Head) (noreply : Bool) → IsLineOf l head noreply
    → checked_head l (Some (head, noreply)) ≡ Some (head, noreply)
checked_head-line l head noreply is =
    cond-true _ _ _ (and_from _ _
    (and_from _ _ (is_form-passes head is.0) (may_have-passes head noreply is.1))
    (bytes_eq-same _ _ (sym is.2)))

-- a well-formed line says what it was made of
pub head_at-line : (l : Bytes) (head : Head) (noreply : Bool) → IsLineOf l head noreply
    → head_at l ≡ Some (head, noreply)
unfolding head_at
head_at-line l head noreply is =
    ap (checked_head l) (head_in-parts l head noreply is) ∙ checked_head-line l head noreply is

-- what passes the check has the line
line_of_checked : (l : Bytes) (o : Option (Head × Bool)) (head : Head) (noreply : Bool)
    → checked_head l o ≡ Some (head, noreply) → IsLineOf l head noreply
line_of_checked l None head noreply e = absurd cc
line_of_checked l (Some (h, q)) head noreply e =
    let p = cond_some _ _ _ e in
    let same = some_pair_parts h head q noreply (ap (λ (x : Head × Bool). Some x) p.1) in
    let all = and_parts _ _ p.0 in
    let front = and_parts _ _ all.0 in
    subst (λ (k : Head). IsLineOf l k noreply) same.0 (subst (λ (r : Bool). IsLineOf l h r) same.1
    (form_passes h front.0, may_passes h q front.1, sym ((bytes_eq-Decides _ _).0 all.1)))

-- what a line says has that line
pub line_has_head : (l : Bytes) (head : Head) (noreply : Bool) → head_at l ≡ Some (head, noreply)
    → IsLineOf l head noreply
unfolding head_at
line_has_head l head noreply e = line_of_checked l (head_in (parts l)) head noreply e

-- a line that says nothing has none of the forms
pub has_no_form : (l : Bytes) → head_at l ≡ None → (head : Head) (noreply : Bool)
    → ¬ (IsLineOf l head noreply)
has_no_form l none head noreply is = let says_it = head_at-line l head noreply is in cc

-- a line with none of the forms says nothing
pub head_at-none : (l : Bytes) → ((head : Head) (noreply : Bool) → ¬ (IsLineOf l head noreply))
    → head_at l ≡ None
head_at-none l none = go (head_at l) refl
  where
    go : (o : Option (Head × Bool)) → head_at l ≡ o → head_at l ≡ None
    go None e = e
    go (Some (head, noreply)) e = absurd (none head noreply (line_has_head l head noreply e))

-- ---- how long a line is

-- fields of at most 250 bytes, joined
length-joined : (field : Bytes) (more : List Bytes) → AllByRecursion (λ f. length f ≤ 250) more
    → length (join_with_byte space (field ∷ more)) ≤ length field + 251 * length more
length-joined field [] short = omega arith
length-joined field (next ∷ more) short =
    let rest = length-joined next more short.1 in
    let first : length next ≤ 250 = short.0 in
    omega (arith, rest, first, length-append field (space ∷ join_with_byte space (next ∷ more)))

-- digits are short
short_decimal : (n : ℕ) → n < 2 ^ 64 → length (decimal n) ≤ 250
short_decimal n small =
    let digits = length-decimal-le 20 n (omega arith) (omega arith) small in omega (arith, digits)

-- so is the word noreply
short_noreply : (noreply : Bool) → AllByRecursion (λ (f : Bytes). length f ≤ 250) (noreply_field noreply)
short_noreply true = (omega arith, tt)
short_noreply false = tt

-- so are keys
short_keys : (keys : List Bytes) → AllByRecursion IsKey keys
    → AllByRecursion (λ (f : Bytes). length f ≤ 250) (keys ++ [])
short_keys [] are = tt
short_keys (key ∷ keys) are = (are.0.1, short_keys keys are.1)

-- the longest name of a storage command
pub length-verb_name : (verb : Verb) → length (verb_name verb) ≤ 7
length-verb_name set = omega arith
length-verb_name add = omega arith
length-verb_name replace = omega arith
length-verb_name append = omega arith
length-verb_name prepend = omega arith

-- at most one word stands at the end
length-noreply_field : (noreply : Bool) → length (noreply_field noreply) ≤ 1
length-noreply_field true = omega arith
length-noreply_field false = omega arith

-- a well-formed line with its CR LF fits
pub length-line : (head : Head) (noreply : Bool) → HasForm head → MayHave head noreply
    → length (line head noreply) + 2 ≤ MOST_LINE
length-line (store verb key flags bytes) noreply form may =
    omega (
      arith,
      length-verb_name verb,
      length-noreply_field noreply,
      length-joined (verb_name verb)
          (key ∷ decimal flags ∷ codes "0" ∷ decimal bytes ∷ noreply_field noreply) (
            form.0.1,
            (
              short_decimal flags (omega (arith, form.1)),
              (omega arith, (short_decimal bytes form.2, short_noreply noreply)),
            ),
          ),
    )
length-line (cas key flags bytes cas_unique) noreply form may =
    omega (
      arith,
      length-noreply_field noreply,
      length-joined (codes "cas")
          (key ∷ decimal flags ∷ codes "0" ∷ decimal bytes ∷ decimal cas_unique ∷ noreply_field noreply) (
            form.0.1,
            (
              short_decimal flags (omega (arith, form.1)),
              (
                omega arith,
                (short_decimal bytes form.2, (short_decimal cas_unique form.3, short_noreply noreply)),
              ),
            ),
          ),
    )
length-line (get keys) true form may = absurd (let no : false ≡ true = may refl in cc)
length-line (get keys) false form may =
    let few : length keys ≤ 16 =
    form.1 in
    omega (
      arith,
      few,
      length-append keys [],
      length-joined (codes "get") (keys ++ []) (short_keys keys form.2),
    )
length-line (gets keys) true form may = absurd (let no : false ≡ true = may refl in cc)
length-line (gets keys) false form may =
    let few : length keys ≤ 16 =
    form.1 in
    omega (
      arith,
      few,
      length-append keys [],
      length-joined (codes "gets") (keys ++ []) (short_keys keys form.2),
    )
length-line (delete key) noreply form may =
    omega (
      arith,
      length-noreply_field noreply,
      length-joined (codes "delete") (key ∷ noreply_field noreply) (form.1, short_noreply noreply),
    )
length-line (incr key value) noreply form may =
    omega (
      arith,
      length-noreply_field noreply,
      length-joined (codes "incr") (key ∷ decimal value ∷ noreply_field noreply)
          (form.0.1, (short_decimal value form.1, short_noreply noreply)),
    )
length-line (decr key value) noreply form may =
    omega (
      arith,
      length-noreply_field noreply,
      length-joined (codes "decr") (key ∷ decimal value ∷ noreply_field noreply)
          (form.0.1, (short_decimal value form.1, short_noreply noreply)),
    )

-- ---- where two lines begin one text, they are one

-- without its first byte a text has no end either
pub rest_has_none : (x : ℕ) (l : Bytes) → HasNoEnd (x ∷ l) → HasNoEnd l
rest_has_none x l none i e f =
    let next : suc i + 1 ≡ suc (i + 1) =
    omega arith in none (suc i) e (ap (λ (k : ℕ). slice_index (x ∷ l) k) next ∙ f)

-- the same, with CR LF written out
one_line : (l m r s : Bytes) → HasNoEnd l → HasNoEnd m → l ++ 13 ∷ 10 ∷ r ≡ m ++ 13 ∷ 10 ∷ s
    → (l ≡ m) × (r ≡ s)
one_line [] [] r s h k e = (refl, cc)
one_line [] (x ∷ []) r s h k e = absurd cc
one_line [] (x ∷ y ∷ m) r s h k e = let a : x ≡ 13 = cc in let b : y ≡ 10 = cc in absurd (k 0 a b)
one_line (x ∷ []) [] r s h k e = absurd cc
one_line (x ∷ y ∷ l) [] r s h k e = let a : x ≡ 13 = cc in let b : y ≡ 10 = cc in absurd (h 0 a b)
one_line (x ∷ l) (y ∷ m) r s h k e =
    let same : x ≡ y = cc in
    let tails : l ++ 13 ∷ 10 ∷ r ≡ m ++ 13 ∷ 10 ∷ s = cc in
    let rest = one_line l m r s (rest_has_none x l h) (rest_has_none y m k) tails in
    let lines = rest.0 in
    (cc, rest.1)

-- a text has one first line, and one rest
pub first_lines_same : (l m r s : Bytes) → HasNoEnd l → HasNoEnd m → l ++ crlf ++ r ≡ m ++ crlf ++ s
    → (l ≡ m) × (r ≡ s)
first_lines_same l m r s h k e =
    one_line l m r s h k (sym (append_assoc l crlf r) ∙ e ∙ append_assoc m crlf s)
