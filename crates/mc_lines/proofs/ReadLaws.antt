-- What the reader makes of a line and what follows it is the first item of the text.
use Rattle.ids.specs.declared.limits.TheConstants.{MOST_DATA, MOST_LINE}
use Rattle.std.proofs.Common.{◌≡◌, ◌≢◌, ℕ, ◌+◌, ◌-◌, ◌<◌, ◌≤◌, Bool, true, false, cond, [], ◌∷◌, ◌++◌}
use Rattle.std.proofs.Common.{length, take, drop, Option, Some, None, refl, sym, ap, subst, ◌∙◌, inl, arith}
use Rattle.std.proofs.Common.{length-append}
use Rattle.std.specs.Prelude.{codes, bytes_eq, Contains, Ok, Err, nat_lt, slice_index}
use Rattle.std.proofs.lemmas.List.{take_all, append-nil, length-take-le, take_rest}
use Rattle.std.proofs.lemmas.Option.{some_pair_parts}
use Rattle.ids.specs.declared.line_fault.LineFault.TheVariants.{UnknownName, BadFields, TooLarge, BadChunk}
use Rattle.ids.specs.declared.line_fault.LineFault.TheVariants.{LineTooLong}
use Rattle.definitions.specs.Bytes.{Bytes}
use Rattle.definitions.specs.Requests.{spelling, Asked, Head, store, cas, get, gets, delete, incr, decr}
use Rattle.definitions.specs.Requests.{data_field, crlf, canonical}
use Rattle.definitions.specs.Items.{names, name_of, HasNoEnd, IsLineOf, Item, asked, quit, bad, IsItemAt}
use Rattle.definitions.specs.Items.{IsUnfinished}
use Rattle.definitions.specs.Canonical.{request_of}
use Rattle.definitions.proofs.Lines.{head_at, head_at-line}
use Rattle.definitions.proofs.RequestTexts.{request_of_some, request_of-canonical}
use Rattle.definitions.proofs.ItemLaws.{length_front, HasFirst, item_by_line, made_item, made_open}
use Rattle.definitions.proofs.ItemLaws.{IsItemAt-unique, IsUnfinished-no_item}
use Rattle.mc_lines.specs.declared.request.Request.{Request}
use Rattle.mc_lines.specs.declared.read.Read.{Read}
use Rattle.mc_lines.specs.declared.read.Read.TheVariants as reads
use Rattle.mc_lines.specs.Meaning.{asked_of, IsReadOf, used_of}
use Rattle.mc_lines.proofs.Ends.{split_at_end}
use Rattle.mc_lines.specs.Heads.{filled, data_in, item_from, item_with, item_of}

-- the reader's step with data is the definitions'
item_from-data : (head : Head) (noreply : Bool) (start bytes : ℕ) (rest : Bytes)
    → item_from head noreply start bytes (data_in bytes rest)
    ≡ cond (nat_lt MOST_DATA bytes) (Some (bad TooLarge, 0))
    (cond (nat_lt (length rest) (bytes + 2)) None (cond (bytes_eq (take 2 (drop bytes rest)) crlf)
    (Some (asked (filled head (take bytes rest)) noreply, start + (bytes + 2)))
    (Some (bad BadChunk, 0))))
item_from-data head noreply start bytes rest =
    go (nat_lt MOST_DATA bytes) (nat_lt (length rest) (bytes + 2)) (bytes_eq (take 2 (drop bytes rest)) crlf)
  where
    go : (a b c : Bool)
        → item_from head noreply start bytes
        (cond a (Err TooLarge) (cond b (Ok None) (cond c (Ok (Some (take bytes rest))) (Err BadChunk))))
        ≡ cond a (Some (bad TooLarge, 0)) (cond b None (cond c
        (Some (asked (filled head (take bytes rest)) noreply, start + (bytes + 2)))
        (Some (bad BadChunk, 0))))
    go true b c = refl
    go false true c = refl
    go false false true = refl
    go false false false = refl

-- the reader's step is the definitions'
item_with-line : (head : Head) (noreply : Bool) (l rest : Bytes)
    → item_with head noreply (length l + 2) rest (data_field head)
    ≡ item_by_line l rest (Some (head, noreply))
item_with-line (store verb key flags bytes) noreply l rest =
    item_from-data (store verb key flags bytes) noreply (length l + 2) bytes rest
item_with-line (cas key flags bytes cas_unique) noreply l rest =
    item_from-data (cas key flags bytes cas_unique) noreply (length l + 2) bytes rest
item_with-line (get keys) noreply l rest = refl
item_with-line (gets keys) noreply l rest = refl
item_with-line (delete key) noreply l rest = refl
item_with-line (incr key value) noreply l rest = refl
item_with-line (decr key value) noreply l rest = refl

-- an answer that is what the first line and the rest make is right
read_made : (text l rest : Bytes) (r : Read) → HasFirst text l rest
    → item_of r ≡ item_by_line l rest (head_at l) → IsReadOf text r
read_made text l rest (reads.Whole request used noreply) first e =
    made_item text l rest (asked (asked_of request) noreply) used first (sym e)
read_made text l rest (reads.Quit used) first e = made_item text l rest quit used first (sym e)
read_made text l rest reads.More first e = made_open text l rest first (sym e)
read_made text l rest (reads.Bad fault used) first e = made_item text l rest (bad fault) used first (sym e)

-- a request's line, its data, or a fault of it
pub read_line_of : (text l rest : Bytes) (start : ℕ) (head : Head) (noreply : Bool) (r : Read)
    → HasFirst text l rest → IsLineOf l head noreply → start ≡ length l + 2
    → item_of r ≡ item_with head noreply start rest (data_field head) → IsReadOf text r
read_line_of text l rest start head noreply r first is at e =
    read_made text l rest r first
    (e ∙ ap (λ (k : ℕ). item_with head noreply k rest (data_field head)) at
    ∙ item_with-line head noreply l rest
    ∙ ap (item_by_line l rest) (sym (head_at-line l head noreply is)))

-- a line with an unknown name
pub unknown_is : (text l rest : Bytes) (used : ℕ) → HasFirst text l rest → ¬ (Contains names (name_of l))
    → used ≡ length l + 2 → IsItemAt text (bad UnknownName) used
unknown_is text l rest used first unknown at = (l, (first.0, first.1, (rest, first.2)), unknown, at)

-- a line that has no form
pub fields_are : (text l rest : Bytes) → HasFirst text l rest
    → Contains names (name_of l) × (l ≢ codes "quit")
    × ((head : Head) (noreply : Bool) → ¬ (IsLineOf l head noreply))
    → IsItemAt text (bad BadFields) 0
fields_are text l rest first h = (l, (first.0, first.1, (rest, first.2)), h.0, h.1, h.2, refl)

-- a short text with no end
pub unfinished_is : (text : Bytes) → length text < MOST_LINE → HasNoEnd (take MOST_LINE text)
    → IsUnfinished text
unfinished_is text short none = inl (short, subst HasNoEnd (take_all MOST_LINE text (omega arith)) none)

-- ---- canonical texts

-- an answer of this item is of a request
asked_read : (read : Read) (r : Asked) (noreply : Bool) (n : ℕ) → item_of read ≡ Some (asked r noreply, n)
    → (request : Request) × (read ≡ reads.Whole request n noreply)
asked_read (reads.Whole request used q) r noreply n e =
    let both = some_pair_parts (asked (asked_of request) q) (asked r noreply) used n e in
    let size = both.1 in
    let item = both.0 in
    (request, cc)
asked_read (reads.Quit used) r noreply n e =
    absurd (let item = (some_pair_parts quit (asked r noreply) used n e).0 in cc)
asked_read reads.More r noreply n e = absurd cc
asked_read (reads.Bad fault used) r noreply n e =
    absurd (let item = (some_pair_parts (bad fault) (asked r noreply) used n e).0 in cc)

-- a request that takes the whole text, without noreply, is what the text is canonical of
pub whole_is : (text : Bytes) (r : Asked) (used : ℕ) → IsItemAt text (asked r false) used
    → used ≡ length text → Some r ≡ request_of text
whole_is text r used is all =
    let rest = is.1.0 in
    let whole : text ≡ canonical r ++ rest = is.1.1 in
    let none : length rest ≡ 0 =
    omega (arith, is.2, all, ap (λ (t : Bytes). length t) whole, length-append (canonical r) rest) in
    sym (ap request_of
    (whole ∙ ap (λ (t : Bytes). canonical r ++ t) (empty rest none) ∙ append-nil (canonical r))
    ∙ request_of-canonical r is.0)
  where
    empty : (t : Bytes) → length t ≡ 0 → t ≡ []
    empty [] e = refl
    empty (x ∷ t) e = absurd (omega arith)

-- a text that is canonical of a request has it as its item
canonical_item : (text : Bytes) (r : Asked) → request_of text ≡ Some r
    → IsItemAt text (asked r false) (length text)
canonical_item text r e =
    let p = request_of_some text r e in
    (p.0, ([], p.1 ∙ sym (append-nil (canonical r))), ap (λ (t : Bytes). length t) p.1)

-- equal items that take as much
same_pair : {x y : Item} {m n : ℕ} → (x ≡ y) × (m ≡ n)
    → ◌≡◌ {A = Option (Item × ℕ)} (Some (x, m)) (Some (y, n))
same_pair h = let a = h.0 in let b = h.1 in cc

-- an answer is of the text's item
same_item : (text : Bytes) (read : Read) (x : Item) (used : ℕ) → IsReadOf text read → IsItemAt text x used
    → item_of read ≡ Some (x, used)
same_item text (reads.Whole request n noreply) x used is at =
    same_pair (IsItemAt-unique text (asked (asked_of request) noreply) x n used is at)
same_item text (reads.Quit n) x used is at = same_pair (IsItemAt-unique text quit x n used is at)
same_item text reads.More x used is at = absurd (IsUnfinished-no_item text x used is at)
same_item text (reads.Bad fault n) x used is at = same_pair (IsItemAt-unique text (bad fault) x n used is at)

-- where the text has another item or none, it is canonical of no request
pub not_canonical : (text : Bytes) (read : Read) → IsReadOf text read
    → ((request : Request) → read ≡ reads.Whole request (length text) false → ⊥) → None ≡ request_of text
not_canonical text read is other = go (request_of text) refl
  where
    go : (o : Option Asked) → request_of text ≡ o → None ≡ request_of text
    go None e = sym e
    go (Some r) e =
        let found = asked_read read r false (length text)
        (same_item text read (asked r false) (length text) is (canonical_item text r e)) in
        absurd (other found.0 found.1)

-- ---- where the end of the line is found

-- what is found at the end of the first line
abbrev pub EndsAt : Bytes → ℕ → Type 0
EndsAt text i =
    (i + 2 ≤ length text) × (i + 2 ≤ MOST_LINE) × (slice_index text i ≡ 13) × (slice_index text (i + 1) ≡ 10)
    × HasNoEnd (take i text)

-- it gives the line and the rest
pub first_at : (text : Bytes) (i : ℕ) → EndsAt text i → HasFirst text (take i text) (drop (i + 2) text)
first_at text i h = (
  h.4,
  omega (arith, h.0, h.1, length-take-le i text (omega (arith, h.0))),
  split_at_end text i h.0 h.2 h.3,
)

-- the same where the rest is taken as a slice
pub first_in : (text : Bytes) (i : ℕ) → EndsAt text i
    → HasFirst text (take i text) (take (length text - (i + 2)) (drop (i + 2) text))
first_in text i h = subst (HasFirst text (take i text)) (sym (take_rest text (i + 2))) (first_at text i h)

-- and its length
pub length_at : (text : Bytes) (i : ℕ) → EndsAt text i → i + 2 ≡ length (take i text) + 2
length_at text i h = omega (arith, h.0, length-take-le i text (omega (arith, h.0)))

-- ---- how much is taken

-- what is taken is there
pub used_of-within : (text : Bytes) (r : Read) → IsReadOf text r → used_of r ≤ length text
used_of-within text (reads.Whole request used noreply) is =
    omega (arith, is.2, length_front text (spelling (asked_of request) noreply) is.1)
used_of-within text (reads.Quit used) is = omega (arith, is.1, length_front text (codes "quit" ++ crlf) is.0)
used_of-within text reads.More is = omega arith
used_of-within text (reads.Bad UnknownName used) is =
    omega (arith, is.3, length_front text (is.0 ++ crlf) is.1.2, length-append is.0 crlf)
used_of-within text (reads.Bad BadFields used) is = omega (arith, is.5)
used_of-within text (reads.Bad TooLarge used) is = omega (arith, is.6)
used_of-within text (reads.Bad BadChunk used) is = omega (arith, is.7)
used_of-within text (reads.Bad LineTooLong used) is = omega (arith, is.2)
