-- A text has one first item, which stays when bytes are appended; an unfinished text has none.
use Rattle.ids.specs.declared.limits.TheConstants.{MOST_DATA, MOST_LINE}
use Rattle.std.proofs.Common.{◌≡◌, ◌≢◌, ℕ, zero, suc, ◌+◌, ◌<◌, ◌≤◌, ◌⊎◌, Bool, true, false, cond, List, []}
use Rattle.std.proofs.Common.{◌∷◌, ◌++◌, length, get_or, take, drop, Option, Some, None, refl, sym, ap}
use Rattle.std.proofs.Common.{subst, ◌∙◌, inl, inr, arith, length-append, length-drop, append_assoc}
use Rattle.std.proofs.Common.{true≢false}
use Rattle.std.specs.Prelude.{Contains, IsSomeAnd, IfSome, MatchBool, codes, bytes_eq, if◌then◌else◌}
use Rattle.std.specs.Prelude.{nat_lt, nat_le, slice_index, slice_index_or, ◌==◌}
use Rattle.std.specs.List.{list_any, list_all, position_or_len}
use Rattle.std.proofs.lemmas.Bool.{cases_lt, cases_eq, cases_order, or_cases, or_left, or_right, le-ltb}
use Rattle.std.proofs.lemmas.Bool.{lt-ltb, cond-true, cond-false, false_from_ne_true, leb-true, ltb-true}
use Rattle.std.proofs.lemmas.Bool.{ltb-false}
use Rattle.std.proofs.lemmas.List.{take_all, drop_at, get_or-append-add, get_or-take, get_or_at}
use Rattle.std.proofs.lemmas.List.{get_or_append_left, get_or_past, length-take, take-append-le}
use Rattle.std.proofs.lemmas.List.{take-append-drop, length-take-le, drop-append-le}
use Rattle.std.proofs.lemmas.List.Sums.{fails_before_first, AllPass-from_list_all}
use Rattle.std.proofs.lemmas.List.Splits.{slice_split_none, slice_split_first}
use Rattle.std.proofs.lemmas.Option.{some_pair_parts}
use Rattle.std.proofs.lemmas.Slice.Eq.{bytes_eq-Decides}
use Rattle.ids.specs.declared.line_fault.LineFault.TheVariants.{UnknownName, BadFields, TooLarge, BadChunk}
use Rattle.ids.specs.declared.line_fault.LineFault.TheVariants.{LineTooLong}
use Rattle.definitions.specs.Bytes.{Bytes}
use Rattle.definitions.specs.Requests.{set, add, replace, append, prepend, Asked, Head, store, cas, get}
use Rattle.definitions.specs.Requests.{gets, delete, incr, decr, head_of, data_field, crlf, space, fields}
use Rattle.definitions.specs.Requests.{noreply_field, line, data_block, spelling, IsRequest}
use Rattle.definitions.specs.Items.{names, name_of, StartsWith, HasNoEnd, FirstLine, IsLineOf, Item, asked}
use Rattle.definitions.specs.Items.{quit, bad, IsItemAt, IsUnfinished, goes_on, AreItems}
use Rattle.definitions.proofs.Lines.{parts, parts-line, no_cr, line_has_no_end, length-line, head_in}
use Rattle.definitions.proofs.Lines.{head_at, head_at-line, line_has_head, has_no_form, head_at-none}
use Rattle.definitions.proofs.Lines.{first_lines_same}
use Rattle.definitions.proofs.RequestTexts.{with_data, with_data-again, spelling_behind, length-spelling}

-- ---- the name of a line

-- the name is the first of the fields
pub name_first : (l : Bytes) → slice_index_or (parts l) 0 [] ≡ name_of l
name_first l =
    elim (cases_lt (position_or_len (λ b. b == space) l) (length l)) [
      | inl within ↦
          ap (λ (t : List Bytes). slice_index_or t 0 []) (slice_split_first (λ b. b == space) l 0 within)
      | inr past ↦
          ap (λ (t : List Bytes). slice_index_or t 0 []) (slice_split_none (λ b. b == space) l
          (λ k d within. fails_before_first (λ b. b == space) l k d (omega arith)))
          ∙ sym (take_all _ l past)
    ]

-- whether the word is one of the twelve names
abbrev pub is_known : Bytes → Bool
is_known word = list_any (λ name. bytes_eq name word) names

-- a word that passes is among the names
one_of : (ns : List Bytes) (word : Bytes) → list_any (λ name. bytes_eq name word) ns ≡ true → Contains ns word
one_of [] word e = absurd cc
one_of (name ∷ ns) word e =
    elim (or_cases _ _ e) [
      | inl same ↦ (0, omega arith, (bytes_eq-Decides name word).0 same)
      | inr later ↦ let rest = one_of ns word later in (suc rest.0, omega (arith, rest.1), rest.2)
    ]

-- a word among the names passes
found_at : (ns : List Bytes) (word : Bytes) (k : ℕ) → k < length ns → slice_index_or ns k word ≡ word
    → list_any (λ name. bytes_eq name word) ns ≡ true
found_at [] word k within e = absurd (omega arith)
found_at (name ∷ ns) word zero within e = or_left _ _ ((bytes_eq-Decides name word).1 e)
found_at (name ∷ ns) word (suc k) within e = or_right _ _ (found_at ns word k (omega arith) e)

-- a known word is a name
pub known_is : (word : Bytes) → is_known word ≡ true → Contains names word
known_is word e = one_of names word e

-- a name is known
pub is_known-name : (word : Bytes) → Contains names word → is_known word ≡ true
is_known-name word c = found_at names word c.0 c.1 c.2

-- the first field of a line is a name
first_known : (head : Head) (noreply : Bool)
    → is_known (slice_index_or (fields head ++ noreply_field noreply) 0 []) ≡ true
first_known (store set key flags bytes) noreply = refl
first_known (store add key flags bytes) noreply = refl
first_known (store replace key flags bytes) noreply = refl
first_known (store append key flags bytes) noreply = refl
first_known (store prepend key flags bytes) noreply = refl
first_known (cas key flags bytes cas_unique) noreply = refl
first_known (get keys) noreply = refl
first_known (gets keys) noreply = refl
first_known (delete key) noreply = refl
first_known (incr key value) noreply = refl
first_known (decr key value) noreply = refl

-- the name of a well-formed line is one of the twelve
pub line_has_name : (l : Bytes) (head : Head) (noreply : Bool) → IsLineOf l head noreply
    → Contains names (name_of l)
line_has_name l head noreply is =
    let name : slice_index_or (fields head ++ noreply_field noreply) 0 [] ≡ name_of l =
    sym (ap (λ (t : List Bytes). slice_index_or t 0 []) (ap parts is.2 ∙ parts-line head noreply is.0))
    ∙ name_first l in
    known_is (name_of l) (sym (ap is_known name) ∙ first_known head noreply)

-- ---- what a line and what stands behind it make

-- what a line makes that says a request, by the number of bytes that it announces
abbrev pub item_by_data : Asked → Bool → ℕ → Option ℕ → Bytes → Option (Item × ℕ)
item_by_data r noreply start None rest = Some (asked r noreply, start)
item_by_data r noreply start (Some bytes) rest =
    if nat_lt MOST_DATA bytes then Some (bad TooLarge, 0)
    else if nat_lt (length rest) (bytes + 2) then None
    else if bytes_eq (take 2 (drop bytes rest)) crlf then Some (asked r noreply, start + (bytes + 2))
    else Some (bad BadChunk, 0)

-- what a line makes, by what it says
abbrev pub item_by_line : Bytes → Bytes → Option (Head × Bool) → Option (Item × ℕ)
item_by_line l rest (Some (head, noreply)) =
    item_by_data (with_data head rest) noreply (length l + 2) (data_field head) rest
item_by_line l rest None =
    if bytes_eq l (codes "quit") then Some (quit, 6)
    else if is_known (name_of l) then Some (bad BadFields, 0)
    else Some (bad UnknownName, length l + 2)

-- the text has this first line, and this stands behind it
abbrev pub HasFirst : Bytes → Bytes → Bytes → Type 0
HasFirst text l rest = HasNoEnd l × (length l + 2 ≤ MOST_LINE) × (text ≡ l ++ crlf ++ rest)

-- a text's first item is what its first line and the rest make, or else the line is too long
abbrev pub IsMade : Bytes → Item → ℕ → Type 0
IsMade text x used =
    ((l : Bytes) × (rest : Bytes) × HasFirst text l rest × (item_by_line l rest (head_at l) ≡ Some (x, used)))
    ⊎ ((x ≡ bad LineTooLong) × (used ≡ 0) × (MOST_LINE ≤ length text) × HasNoEnd (take MOST_LINE text))

-- ---- every item is made so

-- what a value is of which something holds
some_and : {A : Type 0} (o : Option A) (P : A → Type 0) → IsSomeAnd o P → (x : A) × (o ≡ Some x) × P x
some_and None P h = absurd h
some_and (Some x) P h = (x, refl, h)

-- different texts fail the test
bytes_differ : (a b : Bytes) → a ≢ b → bytes_eq a b ≡ false
bytes_differ a b ne = false_from_ne_true _ (λ e. ne ((bytes_eq-Decides a b).0 e))

-- a well-formed line stands first where it stands
line_first : (text l rest : Bytes) (head : Head) (noreply : Bool) → IsLineOf l head noreply
    → text ≡ l ++ crlf ++ rest → HasFirst text l rest
line_first text l rest head noreply is e = (
  subst HasNoEnd (sym is.2) (line_has_no_end head noreply is.0),
  subst (λ (t : Bytes). length t + 2 ≤ MOST_LINE) (sym is.2) (length-line head noreply is.0 is.1),
  e,
)

-- data with its end makes the request
data_there : (r : Asked) (noreply : Bool) (start : ℕ) (stored more : Bytes) → length stored ≤ MOST_DATA
    → item_by_data r noreply start (Some (length stored)) (stored ++ crlf ++ more)
    ≡ Some (asked r noreply, start + (length stored + 2))
data_there r noreply start stored more few =
    let behind : drop (length stored) (stored ++ crlf ++ more) ≡ crlf ++ more =
    ap (drop (length stored)) (append_assoc stored crlf more)
    ∙ drop_at stored (crlf ++ more) (length stored) refl in
    let long : length stored + 2 ≤ length (stored ++ crlf ++ more) =
    omega (arith, length-append (stored ++ crlf) more, length-append stored crlf) in
    cond-false _ _ _ (le-ltb MOST_DATA (length stored) few) ∙ cond-false _ _ _ (le-ltb _ _ long)
    ∙ cond-true _ _ _ ((bytes_eq-Decides (take 2 (drop (length stored) (stored ++ crlf ++ more))) crlf).1
    (ap (take 2) behind))

-- a request's text makes the request
asked_made : (r : Asked) (n : Bool) (more : Bytes) → IsRequest r n
    → item_by_line (line (head_of r) n) (data_block r ++ more) (Some (head_of r, n))
    ≡ Some (asked r n, length (spelling r n))
asked_made (store verb key flags stored) n more is =
    let r : Asked = store verb key flags stored in
    let start = length (line (head_of r) n) + 2 in
    let long : start + (length stored + 2) ≡ length (spelling r n) =
    omega (arith, length-spelling r n, length-append stored crlf) in
    ap (λ (s : Asked). item_by_data s n start (Some (length stored)) (data_block r ++ more))
    (with_data-again r more)
    ∙ data_there r n start stored more is.2 ∙ ap (λ (u : ℕ). Some (asked r n, u)) long
asked_made (cas key flags stored cas_unique) n more is =
    let r : Asked = cas key flags stored cas_unique in
    let start = length (line (head_of r) n) + 2 in
    let long : start + (length stored + 2) ≡ length (spelling r n) =
    omega (arith, length-spelling r n, length-append stored crlf) in
    ap (λ (s : Asked). item_by_data s n start (Some (length stored)) (data_block r ++ more))
    (with_data-again r more)
    ∙ data_there r n start stored more is.2 ∙ ap (λ (u : ℕ). Some (asked r n, u)) long
asked_made (get keys) n more is =
    let long =
    length-spelling (get keys) n in ap (λ (u : ℕ). Some (asked (get keys) n, u)) (omega (arith, long))
asked_made (gets keys) n more is =
    let long =
    length-spelling (gets keys) n in ap (λ (u : ℕ). Some (asked (gets keys) n, u)) (omega (arith, long))
asked_made (delete key) n more is =
    let long =
    length-spelling (delete key) n in ap (λ (u : ℕ). Some (asked (delete key) n, u)) (omega (arith, long))
asked_made (incr key value) n more is =
    let long =
    length-spelling (incr key value) n in
    ap (λ (u : ℕ). Some (asked (incr key value) n, u)) (omega (arith, long))
asked_made (decr key value) n more is =
    let long =
    length-spelling (decr key value) n in
    ap (λ (u : ℕ). Some (asked (decr key value) n, u)) (omega (arith, long))

-- what a line makes, by what it is known to say
made_by : (l rest : Bytes) (o : Option (Head × Bool)) (y : Option (Item × ℕ)) → head_at l ≡ o
    → item_by_line l rest o ≡ y → item_by_line l rest (head_at l) ≡ y
made_by l rest o y e f = ap (item_by_line l rest) e ∙ f

-- what is made takes as many bytes
at_used : (o : Option (Item × ℕ)) (x : Item) (m n : ℕ) → n ≡ m → o ≡ Some (x, m) → o ≡ Some (x, n)
at_used o x m n e f = cc

-- the line quit says no request
head_at-quit : head_at (codes "quit") ≡ None
unfolding head_at head_in
head_at-quit = refl

-- a plain word has no end in it
pub word_has_no_end : (text : Bytes) → list_all (λ b. nat_le 32 b) text ≡ true → HasNoEnd text
word_has_no_end text high i e _ =
    no_cr text (λ k d within. leb-true _ _ (AllPass-from_list_all (λ b. nat_le 32 b) text high k d within)) i
    e

-- a line with an unknown name makes that fault
unknown_made : (l rest : Bytes) → ¬ (Contains names (name_of l))
    → item_by_line l rest None ≡ Some (bad UnknownName, length l + 2)
unknown_made l rest unknown =
    cond-false _ _ _ (bytes_differ l (codes "quit")
    (λ e. unknown (known_is (name_of l) (ap (λ (t : Bytes). is_known (name_of t)) e))))
    ∙ cond-false _ _ _ (false_from_ne_true _ (λ e. unknown (known_is (name_of l) e)))

-- another line makes the fault of bad fields
fields_made : (l rest : Bytes) → Contains names (name_of l) → l ≢ codes "quit"
    → item_by_line l rest None ≡ Some (bad BadFields, 0)
fields_made l rest known ne =
    cond-false _ _ _ (bytes_differ l (codes "quit") ne) ∙ cond-true _ _ _ (is_known-name (name_of l) known)

-- too much data makes that fault
large_made : (r : Asked) (noreply : Bool) (start : ℕ) (o : Option ℕ) (rest : Bytes)
    → IsSomeAnd o (λ bytes. MOST_DATA < bytes)
    → item_by_data r noreply start o rest ≡ Some (bad TooLarge, 0)
large_made r noreply start None rest h = absurd h
large_made r noreply start (Some bytes) rest h = cond-true _ _ _ (lt-ltb MOST_DATA bytes h)

-- data without its end makes that fault
chunk_made : (r : Asked) (noreply : Bool) (start : ℕ) (o : Option ℕ) (rest : Bytes)
    → IsSomeAnd o
    (λ bytes. (bytes ≤ MOST_DATA) × (bytes + 2 ≤ length rest) × (take 2 (drop bytes rest) ≢ crlf))
    → item_by_data r noreply start o rest ≡ Some (bad BadChunk, 0)
chunk_made r noreply start None rest h = absurd h
chunk_made r noreply start (Some bytes) rest h =
    cond-false _ _ _ (le-ltb MOST_DATA bytes h.0) ∙ cond-false _ _ _ (le-ltb (length rest) (bytes + 2) h.1)
    ∙ cond-false _ _ _ (bytes_differ _ _ h.2)

-- data that is cut makes nothing yet
short_made : (r : Asked) (noreply : Bool) (start : ℕ) (o : Option ℕ) (rest : Bytes)
    → IsSomeAnd o (λ bytes. (bytes ≤ MOST_DATA) × (length rest < bytes + 2))
    → item_by_data r noreply start o rest ≡ None
short_made r noreply start None rest h = absurd h
short_made r noreply start (Some bytes) rest h =
    cond-false _ _ _ (le-ltb MOST_DATA bytes h.0) ∙ cond-true _ _ _ (lt-ltb (length rest) (bytes + 2) h.1)

-- every item of a text is what its first line and the rest make
pub item_made : (text : Bytes) (x : Item) (used : ℕ) → IsItemAt text x used → IsMade text x used
item_made text (asked r n) used is =
    let more = is.1.0 in
    let l : Bytes = line (head_of r) n in
    let rest : Bytes = data_block r ++ more in
    let of : IsLineOf l (head_of r) n = (is.0.0, is.0.1, refl) in
    inl (
      l,
      rest,
      line_first text l rest (head_of r) n of (is.1.1 ∙ spelling_behind r n more),
      at_used _ _ _ _ is.2 (made_by l rest _ _ (head_at-line l (head_of r) n of) (asked_made r n more is.0)),
    )
item_made text quit used is =
    inl (
      codes "quit",
      is.0.0,
      (word_has_no_end (codes "quit") refl, omega arith, is.0.1),
      at_used _ _ _ _ is.1 (made_by (codes "quit") is.0.0 None _ head_at-quit refl),
    )
item_made text (bad UnknownName) used is =
    let l : Bytes = is.0 in
    let first = is.1 in
    inl (
      l,
      first.2.0,
      (first.0, first.1, first.2.1),
      at_used _ _ _ _ is.3 (made_by l first.2.0 None _
          (head_at-none l (λ head noreply of. is.2 (line_has_name l head noreply of)))
          (unknown_made l first.2.0 is.2)),
    )
item_made text (bad BadFields) used is =
    let l : Bytes = is.0 in
    let first = is.1 in
    inl (
      l,
      first.2.0,
      (first.0, first.1, first.2.1),
      at_used _ _ _ _ is.5
          (made_by l first.2.0 None _ (head_at-none l is.4) (fields_made l first.2.0 is.2 is.3)),
    )
item_made text (bad TooLarge) used is =
    let l : Bytes = is.0 in
    let first = is.1 in
    inl (
      l,
      first.2.0,
      (first.0, first.1, first.2.1),
      at_used _ _ _ _ is.6 (made_by l first.2.0 _ _ (head_at-line l is.2 is.3 is.4)
          (large_made (with_data is.2 first.2.0) is.3 (length l + 2) (data_field is.2) first.2.0 is.5)),
    )
item_made text (bad BadChunk) used is =
    let l : Bytes = is.0 in
    let rest : Bytes = is.1 in
    inl (
      l,
      rest,
      line_first text l rest is.2 is.3 is.4 is.5,
      at_used _ _ _ _ is.7 (made_by l rest _ _ (head_at-line l is.2 is.3 is.4)
          (chunk_made (with_data is.2 rest) is.3 (length l + 2) (data_field is.2) rest is.6)),
    )
item_made text (bad LineTooLong) used is = inr (refl, is.2, is.0, is.1)

-- ---- one first item

-- where a text has a first line, an end stands within
ends_within : (text l rest : Bytes) → HasFirst text l rest → HasNoEnd (take MOST_LINE text) → ⊥
ends_within text l rest first none =
    let whole : text ≡ l ++ 13 ∷ 10 ∷ rest = first.2 ∙ append_assoc l crlf rest in
    let short : length l + 2 ≤ MOST_LINE = first.1 in
    let cr : slice_index (take MOST_LINE text) (length l + 0) ≡ 13 =
    get_or-take MOST_LINE text (length l + 0) 0 (omega arith)
    ∙ ap (λ (t : Bytes). get_or t (length l + 0) 0) whole ∙ get_or-append-add l (13 ∷ 10 ∷ rest) 0 0 in
    let lf : slice_index (take MOST_LINE text) (length l + 1) ≡ 10 =
    get_or-take MOST_LINE text (length l + 1) 0 (omega arith)
    ∙ ap (λ (t : Bytes). get_or t (length l + 1) 0) whole ∙ get_or-append-add l (13 ∷ 10 ∷ rest) 1 0 in
    let here : length l + 0 + 1 ≡ length l + 1 = omega arith in
    none (length l + 0) cr (ap (λ (k : ℕ). slice_index (take MOST_LINE text) k) here ∙ lf)

-- what a text's first line and the rest make is one
same_made : (text l m r s : Bytes) → HasFirst text l r → HasFirst text m s
    → item_by_line l r (head_at l) ≡ item_by_line m s (head_at m)
same_made text l m r s a b =
    let both = first_lines_same l m r s a.0 b.0 (sym a.2 ∙ b.2) in
    ap (λ (t : Bytes). item_by_line t r (head_at t)) both.0
    ∙ ap (λ (t : Bytes). item_by_line m t (head_at m)) both.1

-- what is made of a text is one
one_made : (text : Bytes) (x y : Item) (m n : ℕ) → IsMade text x m → IsMade text y n → (x ≡ y) × (m ≡ n)
one_made text x y m n (inl a) (inl b) =
    some_pair_parts x y m n (sym a.3 ∙ same_made text a.0 b.0 a.1 b.1 a.2 b.2 ∙ b.3)
one_made text x y m n (inl a) (inr b) = absurd (ends_within text a.0 a.1 a.2 b.3)
one_made text x y m n (inr a) (inl b) = absurd (ends_within text b.0 b.1 b.2 a.3)
one_made text x y m n (inr a) (inr b) = (a.0 ∙ sym b.0, a.1 ∙ sym b.1)

-- a text has one first item
pub IsItemAt-unique : (text : Bytes) (x y : Item) (m n : ℕ) → IsItemAt text x m → IsItemAt text y n
    → (x ≡ y) × (m ≡ n)
IsItemAt-unique text x y m n a b = one_made text x y m n (item_made text x m a) (item_made text y n b)

-- ---- bytes appended

-- a longer text begins with the same
starts_more : (text front more : Bytes) → StartsWith text front → StartsWith (text ++ more) front
starts_more text front more h = (h.0 ++ more, ap (λ (t : Bytes). t ++ more) h.1 ∙ append_assoc front h.0 more)

-- a longer text has the same first line
first_more : (text l more : Bytes) → FirstLine text l → FirstLine (text ++ more) l
first_more text l more h = (h.0, h.1, starts_more text (l ++ crlf) more h.2)

-- data without its end stays so
chunk_more : (o : Option ℕ) (rest more : Bytes)
    → IsSomeAnd o
    (λ bytes. (bytes ≤ MOST_DATA) × (bytes + 2 ≤ length rest) × (take 2 (drop bytes rest) ≢ crlf))
    → IsSomeAnd o (λ bytes. (bytes ≤ MOST_DATA) × (bytes + 2 ≤ length (rest ++ more))
    × (take 2 (drop bytes (rest ++ more)) ≢ crlf))
chunk_more None rest more h = h
chunk_more (Some bytes) rest more h =
    let long : bytes + 2 ≤ length rest = h.1 in
    let same : take 2 (drop bytes (rest ++ more)) ≡ take 2 (drop bytes rest) =
    ap (take 2) (drop-append-le bytes rest more (omega arith))
    ∙ take-append-le 2 (drop bytes rest) more (omega (arith, length-drop bytes rest)) in
    (h.0, omega (arith, length-append rest more), λ e. h.2 (sym same ∙ e))

-- an item stays one when bytes are appended
pub IsItemAt-append : (text more : Bytes) (x : Item) (used : ℕ) → IsItemAt text x used
    → IsItemAt (text ++ more) x used
IsItemAt-append text more (asked r n) used is = (is.0, starts_more text (spelling r n) more is.1, is.2)
IsItemAt-append text more quit used is = (starts_more text (codes "quit" ++ crlf) more is.0, is.1)
IsItemAt-append text more (bad UnknownName) used is = (is.0, first_more text is.0 more is.1, is.2, is.3)
IsItemAt-append text more (bad BadFields) used is =
    (is.0, first_more text is.0 more is.1, is.2, is.3, is.4, is.5)
IsItemAt-append text more (bad TooLarge) used is =
    (is.0, first_more text is.0 more is.1, is.2, is.3, is.4, is.5, is.6)
IsItemAt-append text more (bad BadChunk) used is = (
  is.0,
  is.1 ++ more,
  is.2,
  is.3,
  is.4,
  ap (λ (t : Bytes). t ++ more) is.5 ∙ append_assoc (is.0 ++ crlf) is.1 more,
  chunk_more (data_field is.2) is.1 more is.6,
  is.7,
)
IsItemAt-append text more (bad LineTooLong) used is =
    let long : MOST_LINE ≤ length text = is.0 in (
      omega (arith, length-append text more),
      subst HasNoEnd (sym (take-append-le MOST_LINE text more long)) is.1,
      is.2,
    )

-- ---- unfinished texts

-- nothing is made of an unfinished text
unfinished_made : (text : Bytes) (x : Item) (used : ℕ) → IsUnfinished text → IsMade text x used → ⊥
unfinished_made text x used (inl u) (inl a) =
    let short : length text < MOST_LINE = u.0 in
    ends_within text a.0 a.1 a.2 (subst HasNoEnd (sym (take_all MOST_LINE text (omega arith))) u.1)
unfinished_made text x used (inl u) (inr a) = omega (arith, u.0, a.2)
unfinished_made text x used (inr u) (inl a) =
    let first = line_first text u.0 u.1 u.2 u.3 u.4 u.5 in
    let nothing = made_by u.0 u.1 _ _ (head_at-line u.0 u.2 u.3 u.4)
    (short_made (with_data u.2 u.1) u.3 (length u.0 + 2) (data_field u.2) u.1 u.6) in
    let one = same_made text u.0 a.0 u.1 a.1 first a.2 in
    let made = a.3 in
    cc
unfinished_made text x used (inr u) (inr a) =
    ends_within text u.0 u.1 (line_first text u.0 u.1 u.2 u.3 u.4 u.5) a.3

-- an unfinished text has no item
pub IsUnfinished-no_item : (text : Bytes) (x : Item) (used : ℕ) → IsUnfinished text → IsItemAt text x used → ⊥
IsUnfinished-no_item text x used open_yet is = unfinished_made text x used open_yet (item_made text x used is)

-- ---- what is made is an item

-- by a test, which way it went
by_test : {A P : Type 0} (b : Bool) (x y z : A) → cond b x y ≡ z → (b ≡ true → x ≡ z → P)
    → (b ≡ false → y ≡ z → P) → P
by_test true x y z e p q = p refl e
by_test false x y z e p q = q refl e

-- the same item, with as many bytes
item_is : (text : Bytes) (a x : Item) (m n : ℕ) → ◌≡◌ {A = Option (Item × ℕ)} (Some (a, m)) (Some (x, n))
    → IsItemAt text a m → IsItemAt text x n
item_is text a x m n e is =
    let same = some_pair_parts a x m n e in
    subst (λ (y : Item). IsItemAt text y n) same.0 (subst (λ (k : ℕ). IsItemAt text a k) same.1 is)

-- a line and its data are a request
asked_item : (text l more : Bytes) (r : Asked) (head : Head) (noreply : Bool) → IsLineOf l head noreply
    → head_of r ≡ head → IfSome (data_field r) (λ stored. length stored ≤ MOST_DATA)
    → text ≡ l ++ crlf ++ (data_block r ++ more)
    → IsItemAt text (asked r noreply) (length l + 2 + length (data_block r))
asked_item text l more r head noreply is e few whole =
    let of : IsLineOf l (head_of r) noreply = subst (λ (h : Head). IsLineOf l h noreply) (sym e) is in (
      (of.0, of.1, few),
      (
        more,
        whole ∙ ap (λ (t : Bytes). t ++ crlf ++ (data_block r ++ more)) of.2
            ∙ sym (spelling_behind r noreply more),
      ),
      omega (arith, ap (λ (t : Bytes). length t) of.2, length-spelling r noreply),
    )

-- a line that announces data, with the data
data_of : (head : Head) (bytes : ℕ) (rest : Bytes) → data_field head ≡ Some bytes → bytes ≤ length rest
    → bytes ≤ MOST_DATA
    → (head_of (with_data head rest) ≡ head) × (data_block (with_data head rest) ≡ take bytes rest ++ crlf)
    × IfSome (data_field (with_data head rest)) (λ stored. length stored ≤ MOST_DATA)
data_of (store verb key flags b) bytes rest e long few =
    let i : b ≡ bytes = cc in
    let size = length-take-le b rest (omega arith) in
    (ap (λ (k : ℕ). store verb key flags k) size, ap (λ (k : ℕ). take k rest ++ crlf) i, omega (arith, size))
data_of (cas key flags b cas_unique) bytes rest e long few =
    let i : b ≡ bytes = cc in
    let size = length-take-le b rest (omega arith) in (
      ap (λ (k : ℕ). cas key flags k cas_unique) size,
      ap (λ (k : ℕ). take k rest ++ crlf) i,
      omega (arith, size),
    )
data_of (get keys) bytes rest e long few = absurd cc
data_of (gets keys) bytes rest e long few = absurd cc
data_of (delete key) bytes rest e long few = absurd cc
data_of (incr key value) bytes rest e long few = absurd cc
data_of (decr key value) bytes rest e long few = absurd cc

-- the rest is the data, its end, and more
rest_parts : (bytes : ℕ) (rest : Bytes) → take 2 (drop bytes rest) ≡ crlf
    → rest ≡ take bytes rest ++ crlf ++ drop 2 (drop bytes rest)
rest_parts bytes rest e =
    sym (take-append-drop bytes rest)
    ∙ ap (λ (t : Bytes). take bytes rest ++ t)
    (sym (take-append-drop 2 (drop bytes rest)) ∙ ap (λ (t : Bytes). t ++ drop 2 (drop bytes rest)) e)
    ∙ sym (append_assoc (take bytes rest) crlf (drop 2 (drop bytes rest)))

-- what holds of a value holds of it in an option
at_some : (o : Option ℕ) (bytes : ℕ) (P : ℕ → Type 0) → o ≡ Some bytes → P bytes → IsSomeAnd o P
at_some o bytes P e p = subst (λ (q : Option ℕ). IsSomeAnd q P) (sym e) p

-- the data is there
whole_item : (text l rest : Bytes) (head : Head) (noreply : Bool) (bytes : ℕ) → IsLineOf l head noreply
    → text ≡ l ++ crlf ++ rest → data_field head ≡ Some bytes
    → bytes ≤ MOST_DATA → bytes + 2 ≤ length rest → take 2 (drop bytes rest) ≡ crlf
    → IsItemAt text (asked (with_data head rest) noreply) (length l + 2 + (bytes + 2))
whole_item text l rest head noreply bytes is whole e few long ends =
    let d = data_of head bytes rest e (omega arith) few in
    let block : rest ≡ data_block (with_data head rest) ++ drop 2 (drop bytes rest) =
    rest_parts bytes rest ends ∙ ap (λ (t : Bytes). t ++ drop 2 (drop bytes rest)) (sym d.1) in
    let size : length l + 2 + length (data_block (with_data head rest)) ≡ length l + 2 + (bytes + 2) =
    omega (
      arith,
      ap (λ (t : Bytes). length t) d.1,
      length-append (take bytes rest) crlf,
      length-take-le bytes rest (omega arith),
    ) in
    subst (λ (k : ℕ). IsItemAt text (asked (with_data head rest) noreply) k) size
    (asked_item text l (drop 2 (drop bytes rest)) (with_data head rest) head noreply is d.0 d.2
    (whole ∙ ap (λ (t : Bytes). l ++ crlf ++ t) block))

-- what a line makes that announces data is an item
stored_item : (text l rest : Bytes) (head : Head) (noreply : Bool) (bytes : ℕ) (x : Item) (used : ℕ)
    → IsLineOf l head noreply → text ≡ l ++ crlf ++ rest → data_field head ≡ Some bytes
    → item_by_data (with_data head rest) noreply (length l + 2) (Some bytes) rest ≡ Some (x, used)
    → IsItemAt text x used
stored_item text l rest head noreply bytes x used is whole e made =
    let first = line_first text l rest head noreply is whole in
    by_test _ _ _ _ made
    (λ large f. item_is text (bad TooLarge) x 0 used f (
      l,
      (first.0, first.1, (rest, whole)),
      head,
      noreply,
      is,
      at_some _ bytes _ e (ltb-true MOST_DATA bytes large),
      refl,
    ))
    (λ few f. by_test _ _ _ _ f (λ short g. absurd cc)
    (λ long g. by_test _ _ _ _ g
    (λ ends h. item_is text (asked (with_data head rest) noreply) x (length l + 2 + (bytes + 2)) used h
    (whole_item text l rest head noreply bytes is whole e (ltb-false MOST_DATA bytes few)
    (ltb-false (length rest) (bytes + 2) long) ((bytes_eq-Decides _ _).0 ends)))
    (λ differs h. item_is text (bad BadChunk) x 0 used h (
      l,
      rest,
      head,
      noreply,
      is,
      whole,
      at_some _ bytes _ e (
        ltb-false MOST_DATA bytes few,
        ltb-false (length rest) (bytes + 2) long,
        λ same. true≢false (sym ((bytes_eq-Decides _ _).1 same) ∙ differs),
      ),
      refl,
    ))))

-- neither branch is none
both_some : {A : Type 0} (b : Bool) (x y : A) → cond b (Some x) (Some y) ≡ None → ⊥
both_some true x y e = cc
both_some false x y e = cc

-- where it makes nothing, the data is cut
stored_open : (text l rest : Bytes) (head : Head) (noreply : Bool) (bytes : ℕ) → IsLineOf l head noreply
    → text ≡ l ++ crlf ++ rest → data_field head ≡ Some bytes
    → item_by_data (with_data head rest) noreply (length l + 2) (Some bytes) rest ≡ None → IsUnfinished text
stored_open text l rest head noreply bytes is whole e made =
    by_test _ _ _ _ made (λ large f. absurd cc)
    (λ few f. by_test _ _ _ _ f (λ short g. inr (
      l,
      rest,
      head,
      noreply,
      is,
      whole,
      at_some _ bytes _ e (ltb-false MOST_DATA bytes few, ltb-true (length rest) (bytes + 2) short),
    ))
    (λ long g. absurd (both_some _ _ _ g)))

-- a line without data is the request itself
lone_item : (text l rest : Bytes) (r : Asked) (noreply : Bool) (x : Item) (used : ℕ)
    → IsLineOf l (head_of r) noreply → text ≡ l ++ crlf ++ rest → data_field r ≡ None → data_block r ≡ []
    → ◌≡◌ {A = Option (Item × ℕ)} (Some (asked r noreply, length l + 2)) (Some (x, used))
    → IsItemAt text x used
lone_item text l rest r noreply x used is whole none empty made =
    let block : rest ≡ data_block r ++ rest = ap (λ (t : Bytes). t ++ rest) (sym empty) in
    let size : length l + 2 + length (data_block r) ≡ length l + 2 =
    omega (arith, ap (λ (t : Bytes). length t) empty) in
    let few : IfSome (data_field r) (λ stored. length stored ≤ MOST_DATA) =
    subst (λ (o : Option Bytes). IfSome o (λ stored. length stored ≤ MOST_DATA)) (sym none) tt in
    item_is text (asked r noreply) x (length l + 2) used made
    (subst (λ (k : ℕ). IsItemAt text (asked r noreply) k) size
    (asked_item text l rest r (head_of r) noreply is refl few
    (whole ∙ ap (λ (t : Bytes). l ++ crlf ++ t) block)))

-- what a well-formed line makes is an item
line_item : (text l rest : Bytes) (head : Head) (noreply : Bool) (x : Item) (used : ℕ)
    → IsLineOf l head noreply → text ≡ l ++ crlf ++ rest
    → item_by_line l rest (Some (head, noreply)) ≡ Some (x, used) → IsItemAt text x used
line_item text l rest (store verb key flags bytes) noreply x used is whole made =
    stored_item text l rest (store verb key flags bytes) noreply bytes x used is whole refl made
line_item text l rest (cas key flags bytes cas_unique) noreply x used is whole made =
    stored_item text l rest (cas key flags bytes cas_unique) noreply bytes x used is whole refl made
line_item text l rest (get keys) noreply x used is whole made =
    lone_item text l rest (get keys) noreply x used is whole refl refl made
line_item text l rest (gets keys) noreply x used is whole made =
    lone_item text l rest (gets keys) noreply x used is whole refl refl made
line_item text l rest (delete key) noreply x used is whole made =
    lone_item text l rest (delete key) noreply x used is whole refl refl made
line_item text l rest (incr key value) noreply x used is whole made =
    lone_item text l rest (incr key value) noreply x used is whole refl refl made
line_item text l rest (decr key value) noreply x used is whole made =
    lone_item text l rest (decr key value) noreply x used is whole refl refl made

-- where a well-formed line makes nothing, the text is unfinished
line_open : (text l rest : Bytes) (head : Head) (noreply : Bool) → IsLineOf l head noreply
    → text ≡ l ++ crlf ++ rest → item_by_line l rest (Some (head, noreply)) ≡ None → IsUnfinished text
line_open text l rest (store verb key flags bytes) noreply is whole made =
    stored_open text l rest (store verb key flags bytes) noreply bytes is whole refl made
line_open text l rest (cas key flags bytes cas_unique) noreply is whole made =
    stored_open text l rest (cas key flags bytes cas_unique) noreply bytes is whole refl made
line_open text l rest (get keys) noreply is whole made = absurd cc
line_open text l rest (gets keys) noreply is whole made = absurd cc
line_open text l rest (delete key) noreply is whole made = absurd cc
line_open text l rest (incr key value) noreply is whole made = absurd cc
line_open text l rest (decr key value) noreply is whole made = absurd cc

-- what another line makes is an item
other_item : (text l rest : Bytes) (x : Item) (used : ℕ) → HasFirst text l rest → head_at l ≡ None
    → item_by_line l rest None ≡ Some (x, used) → IsItemAt text x used
other_item text l rest x used first none made =
    by_test _ _ _ _ made
    (λ same f.
    let e : l ≡ codes "quit" = (bytes_eq-Decides _ _).0 same in
    item_is text quit x 6 used f ((rest, first.2 ∙ ap (λ (t : Bytes). t ++ crlf ++ rest) e), refl))
    (λ differs f. by_test _ _ _ _ f
    (λ known g. item_is text (bad BadFields) x 0 used g (
      l,
      (first.0, first.1, (rest, first.2)),
      known_is (name_of l) known,
      λ e. true≢false (sym ((bytes_eq-Decides _ _).1 e) ∙ differs),
      has_no_form l none,
      refl,
    ))
    (λ unknown g. item_is text (bad UnknownName) x (length l + 2) used g (
      l,
      (first.0, first.1, (rest, first.2)),
      λ c. true≢false (sym (is_known-name (name_of l) c) ∙ unknown),
      refl,
    )))

-- no branch is none
all_some : {A : Type 0} (a b : Bool) (x y z : A) → cond a (Some x) (cond b (Some y) (Some z)) ≡ None → ⊥
all_some true b x y z e = cc
all_some false b x y z e = both_some b y z e

-- a line without a form makes something
not_open : (l rest : Bytes) → item_by_line l rest None ≡ None → ⊥
not_open l rest made = all_some (bytes_eq l (codes "quit")) (is_known (name_of l)) _ _ _ made

-- what a text's first line and the rest make is its item
pub made_item : (text l rest : Bytes) (x : Item) (used : ℕ) → HasFirst text l rest
    → item_by_line l rest (head_at l) ≡ Some (x, used) → IsItemAt text x used
made_item text l rest x used first made = go (head_at l) refl
  where
    go : (o : Option (Head × Bool)) → head_at l ≡ o → IsItemAt text x used
    go None e = other_item text l rest x used first e (ap (item_by_line l rest) (sym e) ∙ made)
    go (Some (head, noreply)) e =
        line_item text l rest head noreply x used (line_has_head l head noreply e) first.2
        (ap (item_by_line l rest) (sym e) ∙ made)

-- where they make none, the text is unfinished
pub made_open : (text l rest : Bytes) → HasFirst text l rest → item_by_line l rest (head_at l) ≡ None
    → IsUnfinished text
made_open text l rest first made = go (head_at l) refl
  where
    go : (o : Option (Head × Bool)) → head_at l ≡ o → IsUnfinished text
    go None e = absurd (not_open l rest (ap (item_by_line l rest) (sym e) ∙ made))
    go (Some (head, noreply)) e =
        line_open text l rest head noreply (line_has_head l head noreply e) first.2
        (ap (item_by_line l rest) (sym e) ∙ made)

-- ---- every text has an item or is unfinished

-- one more byte in front makes no end where it is no CR before LF
no_end_cons : (x : ℕ) (l : Bytes) → HasNoEnd l → (x ≡ 13 → slice_index l 0 ≢ 10) → HasNoEnd (x ∷ l)
no_end_cons x l none first zero e f = first e f
no_end_cons x l none first (suc i) e f =
    let next : suc (i + 1) ≡ suc i + 1 =
    omega arith in none i e (ap (λ (k : ℕ). slice_index (x ∷ l) k) next ∙ f)

-- an end stands here
ends_at : (x : ℕ) (t : Bytes) → x ≡ 13 → slice_index t 0 ≡ 10 → x ∷ t ≡ crlf ++ drop 1 t
ends_at x [] e f = absurd (omega (arith, f))
ends_at x (y ∷ t) e f = let g : y ≡ 10 = f in cc

-- a line and its text have one first byte
same_first : (l rest t : Bytes) → t ≡ l ++ crlf ++ rest → slice_index l 0 ≡ 10 → slice_index t 0 ≡ 10
same_first [] rest t e f = absurd (omega (arith, f))
same_first (y ∷ l) rest t e f = ap (λ (s : Bytes). slice_index s 0) e ∙ f

-- a text has a first end or none
abbrev Cut : Bytes → Type 0
Cut text = ((l : Bytes) × (rest : Bytes) × HasNoEnd l × (text ≡ l ++ crlf ++ rest)) ⊎ HasNoEnd text

-- an end behind the first byte
cut_later : (x : ℕ) (t : Bytes) → (x ≡ 13 → slice_index t 0 ≢ 10) → Cut t → Cut (x ∷ t)
cut_later x t differs (inl c) =
    inl (
      x ∷ c.0,
      c.1,
      no_end_cons x c.0 c.2 (λ e f. differs e (same_first c.0 c.1 t c.3 f)),
      ap (λ (s : Bytes). x ∷ s) c.3,
    )
cut_later x t differs (inr none) = inr (no_end_cons x t none differs)

-- where the first end is
cut_at : (text : Bytes) → Cut text
cut_at [] = inr (word_has_no_end [] refl)
cut_at (x ∷ t) =
    let later = cut_at t in
    elim (cases_eq x 13) [
      | inl e ↦ elim (cases_eq (slice_index t 0) 10) [
        | inl f ↦ inl ([], drop 1 t, word_has_no_end [] refl, ends_at x t e f)
        | inr ne ↦ cut_later x t (λ _. ne) later
      ]
      | inr ne ↦ cut_later x t (λ e. absurd (ne e)) later
    ]

-- the front of a text with no end has none
front_has_none : (n : ℕ) (text : Bytes) → HasNoEnd text → HasNoEnd (take n text)
front_has_none n text none i e f =
    elim (cases_lt (i + 1) n) [
      | inl within ↦ none i (sym (get_or-take n text i 0 (omega arith)) ∙ e)
          (sym (get_or-take n text (i + 1) 0 within) ∙ f)
      | inr past ↦ omega (arith, f, get_or_past (take n text) (i + 1) 0 (omega (arith, length-take n text)))
    ]

-- a CR at the end is no end
pub cr_has_none : (l : Bytes) → HasNoEnd l → HasNoEnd (l ++ 13 ∷ [])
cr_has_none l none i e f =
    elim (cases_order (i + 1) (length l)) [
      | inl here ↦ omega (arith, f, get_or_at l 13 [] 0 (i + 1) (sym here))
      | inr either ↦ elim either [
        | inl within ↦ none i (sym (get_or_append_left l (13 ∷ []) 0 i (omega arith)) ∙ e)
            (sym (get_or_append_left l (13 ∷ []) 0 (i + 1) within) ∙ f)
        | inr past ↦
            omega (arith, f, get_or_past (l ++ 13 ∷ []) (i + 1) 0 (omega (arith, length-append l (13 ∷ []))))
      ]
    ]

-- an item, or unfinished
abbrev Read : Bytes → Type 0
Read text = ((x : Item) × (used : ℕ) × IsItemAt text x used) ⊎ IsUnfinished text

-- a text with a first line
read_first : (text l rest : Bytes) → HasFirst text l rest → Read text
read_first text l rest first = go (item_by_line l rest (head_at l)) refl
  where
    go : (o : Option (Item × ℕ)) → item_by_line l rest (head_at l) ≡ o → Read text
    go None e = inr (made_open text l rest first e)
    go (Some (x, used)) e = inl (x, used, made_item text l rest x used first e)

-- no line ends within the limit
read_long : (text l rest : Bytes) → HasNoEnd l → text ≡ l ++ crlf ++ rest → MOST_LINE ≤ length l + 1
    → IsItemAt text (bad LineTooLong) 0
read_long text l rest none e long =
    let whole : text ≡ (l ++ 13 ∷ []) ++ 10 ∷ rest =
    e ∙ append_assoc l crlf rest ∙ sym (append_assoc l (13 ∷ []) (10 ∷ rest)) in
    let front : take MOST_LINE text ≡ take MOST_LINE (l ++ 13 ∷ []) =
    ap (take MOST_LINE) whole
    ∙ take-append-le MOST_LINE (l ++ 13 ∷ []) (10 ∷ rest) (omega (arith, length-append l (13 ∷ []))) in
    let many : MOST_LINE ≤ length text =
    omega (
      arith,
      ap (λ (t : Bytes). length t) whole,
      length-append (l ++ 13 ∷ []) (10 ∷ rest),
      length-append l (13 ∷ []),
    ) in
    (many, subst HasNoEnd (sym front) (front_has_none MOST_LINE (l ++ 13 ∷ []) (cr_has_none l none)), refl)

-- a text by its first end
read_cut : (text : Bytes) → Cut text → Read text
read_cut text (inl (l, rest, none, e)) =
    elim (cases_lt (length l + 1) MOST_LINE) [
      | inl short ↦ read_first text l rest (none, omega arith, e)
      | inr long ↦ inl (bad LineTooLong, 0, read_long text l rest none e long)
    ]
read_cut text (inr none) =
    elim (cases_lt (length text) MOST_LINE) [
      | inl short ↦ inr (inl (short, none))
      | inr long ↦ inl (bad LineTooLong, 0, (long, front_has_none MOST_LINE text none, refl))
    ]

-- every text has an item or is unfinished
pub item_or_unfinished : (text : Bytes) → ((x : Item) × (used : ℕ) × IsItemAt text x used) ⊎ IsUnfinished text
item_or_unfinished text = read_cut text (cut_at text)

-- ---- every text has one list of items

-- by a test, from two facts of it
match_both : (b : Bool) (A B C D P : Type 0) → (A → C → P) → (B → D → P) → MatchBool b A B → MatchBool b C D
    → P
match_both true A B C D P p q f g = p f g
match_both false A B C D P p q f g = q f g

-- what goes on behind the same item
pub same_behind : (text : Bytes) (x y : Item) (m n : ℕ) (ys : List Item) → (x ≡ y) × (m ≡ n)
    → MatchBool (goes_on y) (AreItems (drop n text) ys) (ys ≡ [])
    → MatchBool (goes_on x) (AreItems (drop m text) ys) (ys ≡ [])
same_behind text x y m n ys same behind =
    subst (λ (z : Item). MatchBool (goes_on z) (AreItems (drop m text) ys) (ys ≡ [])) (sym same.0)
    (subst (λ (k : ℕ). MatchBool (goes_on y) (AreItems (drop k text) ys) (ys ≡ [])) (sym same.1) behind)

-- the items of a text are one list
pub AreItems-unique : (xs ys : List Item) (text : Bytes) → AreItems text xs → AreItems text ys → xs ≡ ys
AreItems-unique [] [] text a b = refl
AreItems-unique [] (y ∷ ys) text a (n, is, behind) = absurd (IsUnfinished-no_item text y n a is)
AreItems-unique (x ∷ xs) [] text (m, is, behind) b = absurd (IsUnfinished-no_item text x m b is)
AreItems-unique (x ∷ xs) (y ∷ ys) text (m, is, behind) (n, js, later) =
    let same = IsItemAt-unique text x y m n is js in
    let rest : xs ≡ ys = match_both (goes_on x) (AreItems (drop m text) xs) (xs ≡ [])
    (AreItems (drop m text) ys) (ys ≡ []) (xs ≡ ys)
    (λ p q. AreItems-unique xs ys (drop m text) p q) (λ p q. p ∙ sym q) behind
    (same_behind text x y m n ys same later) in
    let first = same.0 in
    cc

-- what a text begins with is no longer than the text
pub length_front : (text front : Bytes) → StartsWith text front → length front ≤ length text
length_front text front h = omega (arith, ap (λ (t : Bytes). length t) h.1, length-append front h.0)

-- an item behind which more is read takes some of the text
pub takes_some : (text : Bytes) (x : Item) (used : ℕ) → IsItemAt text x used → goes_on x ≡ true
    → (1 ≤ used) × (used ≤ length text)
takes_some text (asked r n) used is e =
    let front =
    length_front text (spelling r n) is.1 in let size =
    length-spelling r n in (omega (arith, is.2, size), omega (arith, is.2, front))
takes_some text quit used is e = absurd cc
takes_some text (bad UnknownName) used is e =
    let front =
    length_front text (is.0 ++ crlf) is.1.2 in
    (omega (arith, is.3), omega (arith, is.3, front, length-append is.0 crlf))
takes_some text (bad BadFields) used is e = absurd cc
takes_some text (bad TooLarge) used is e = absurd cc
takes_some text (bad BadChunk) used is e = absurd cc
takes_some text (bad LineTooLong) used is e = absurd cc

-- what holds by a test that is known
match_true : (b : Bool) (A B : Type 0) → b ≡ true → A → MatchBool b A B
match_true b A B e a = subst (λ (c : Bool). MatchBool c A B) (sym e) a

-- and the other way
match_false : (b : Bool) (A B : Type 0) → b ≡ false → B → MatchBool b A B
match_false b A B e a = subst (λ (c : Bool). MatchBool c A B) (sym e) a

-- an item, and the items behind it
put_first : (text : Bytes) (x : Item) (used : ℕ) → IsItemAt text x used
    → (goes_on x ≡ true → (xs : List Item) × AreItems (drop used text) xs) → (b : Bool) → goes_on x ≡ b
    → (xs : List Item) × AreItems text xs
put_first text x used is behind true e =
    let later = behind e in (x ∷ later.0, (used, is, match_true (goes_on x) _ _ e later.1))
put_first text x used is behind false e = (x ∷ [], (used, is, match_false (goes_on x) _ _ e refl))

-- the items of a text, from those of shorter ones
items_by : (text : Bytes) → ((t : Bytes) → length t < length text → (xs : List Item) × AreItems t xs)
    → Read text → (xs : List Item) × AreItems text xs
items_by text shorter (inr u) = ([], u)
items_by text shorter (inl (x, used, is)) =
    put_first text x used is (λ e. let some =
    takes_some text x used is e in
    shorter (drop used text) (omega (arith, some.0, some.1, length-drop used text))) (goes_on x) refl

-- the items of a text that is no longer than so
items_within : (n : ℕ) (text : Bytes) → length text ≤ n → (xs : List Item) × AreItems text xs
items_within zero text short = items_by text (λ t less. absurd (omega arith)) (item_or_unfinished text)
items_within (suc n) text short =
    items_by text (λ t less. items_within n t (omega arith)) (item_or_unfinished text)

-- every text has items
pub items_of : (text : Bytes) → (xs : List Item) × AreItems text xs
items_of text = items_within (length text) text (omega arith)
