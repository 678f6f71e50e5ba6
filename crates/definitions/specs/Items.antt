-- The items of a text that a connection brings: requests, the end, and lines that are neither (protocol.txt).
use Rattle.ids.specs.declared.limits.TheConstants.{MOST_DATA, MOST_LINE}
use Rattle.std.specs.Prelude.{◌≡◌, ◌≢◌, ℕ, ◌+◌, ◌<◌, ◌≤◌, ◌==◌, Bool, true, false, ◌⊎◌, List, [], ◌∷◌, ◌++◌}
use Rattle.std.specs.Prelude.{length, take, drop, slice_index, Contains, IsSomeAnd, MatchBool, codes}
use Rattle.std.specs.List.{before_first}
use Rattle.ids.specs.declared.line_fault.LineFault.{LineFault}
use Rattle.ids.specs.declared.line_fault.LineFault.TheVariants.{UnknownName, BadFields, TooLarge, BadChunk}
use Rattle.ids.specs.declared.line_fault.LineFault.TheVariants.{LineTooLong}
use Rattle.definitions.specs.Bytes.{Bytes}
use Rattle.definitions.specs.Requests.{Asked, Head, data_field, line, spelling, crlf, space, HasForm}
use Rattle.definitions.specs.Requests.{MayHave, IsRequest}

-- the twelve names (protocol.txt)
abbrev pub names : List Bytes
names =
    codes "get" ∷ codes "gets" ∷ codes "set" ∷ codes "add" ∷ codes "replace" ∷ codes "append"
    ∷ codes "prepend"
    ∷ codes "cas" ∷ codes "incr" ∷ codes "decr" ∷ codes "delete" ∷ codes "quit" ∷ []

-- what stands before the first space of a line, or the whole line
abbrev pub name_of : Bytes → Bytes
name_of l = before_first (λ byte. byte == space) l

-- the text begins with this
abbrev pub StartsWith : Bytes → Bytes → Type 0
StartsWith text front = (rest : Bytes) × (text ≡ front ++ rest)

-- no CR LF stands in it
abbrev pub HasNoEnd : Bytes → Type 0
HasNoEnd text = (i : ℕ) → slice_index text i ≡ 13 → slice_index text (i + 1) ≢ 10

-- the text's first line is l: what stands before the first CR LF, and it isn't too long
abbrev pub FirstLine : Bytes → Bytes → Type 0
FirstLine text l = HasNoEnd l × (length l + 2 ≤ MOST_LINE) × StartsWith text (l ++ crlf)

-- the line has one of the forms
abbrev pub IsLineOf : Bytes → Head → Bool → Type 0
IsLineOf l head noreply = HasForm head × MayHave head noreply × (l ≡ line head noreply)

-- ---- the items of a text

-- what is read off a connection: a request, the end, or a fault
pub data Item : Type 0 where
  asked : Asked → (noreply : Bool) → Item
  quit : Item
  bad : LineFault → Item

-- An item stands at the beginning of a text, and takes so many bytes of it. After quit, and after a fault
-- that isn't the first, nothing more is read.
abbrev pub IsItemAt : Bytes → Item → ℕ → Type 0
-- a request stands where its text does
IsItemAt text (asked request noreply) used = IsRequest request noreply
    × StartsWith text (spelling request noreply) × (used ≡ length (spelling request noreply))
IsItemAt text quit used = StartsWith text (codes "quit" ++ crlf) × (used ≡ length (codes "quit" ++ crlf))
-- 2: the name of the first line is none of the twelve
IsItemAt text (bad UnknownName) used =
    (l : Bytes) × FirstLine text l × ¬ (Contains names (name_of l)) × (used ≡ length l + 2)
-- 3: the name is one of the twelve, and the line has none of the forms
IsItemAt text (bad BadFields) used =
    (l : Bytes) × FirstLine text l × Contains names (name_of l) × (l ≢ codes "quit")
    × ((head : Head) (noreply : Bool) → ¬ (IsLineOf l head noreply)) × (used ≡ 0)
-- 4: the line announces more data than may be
IsItemAt text (bad TooLarge) used = (l : Bytes) × FirstLine text l × (head : Head) × (noreply : Bool)
    × IsLineOf l head noreply × IsSomeAnd (data_field head) (λ bytes. MOST_DATA < bytes) × (used ≡ 0)
-- 5: the data is there, and the two bytes after it aren't CR LF
IsItemAt text (bad BadChunk) used = (l : Bytes) × (rest : Bytes) × (head : Head) × (noreply : Bool)
    × IsLineOf l head noreply × (text ≡ l ++ crlf ++ rest)
    × IsSomeAnd (data_field head)
    (λ bytes. (bytes ≤ MOST_DATA) × (bytes + 2 ≤ length rest) × (take 2 (drop bytes rest) ≢ crlf))
    × (used ≡ 0)
-- 6: no line ends within the most bytes that a line may have
IsItemAt text (bad LineTooLong) used = (MOST_LINE ≤ length text) × HasNoEnd (take MOST_LINE text) × (used ≡ 0)

-- The line has no end yet, or the data hasn't.
abbrev pub IsUnfinished : Bytes → Type 0
IsUnfinished text = ((length text < MOST_LINE) × HasNoEnd text)
    ⊎ ((l : Bytes) × (rest : Bytes) × (head : Head) × (noreply : Bool) × IsLineOf l head noreply
    × (text ≡ l ++ crlf ++ rest)
    × IsSomeAnd (data_field head) (λ bytes. (bytes ≤ MOST_DATA) × (length rest < bytes + 2)))

-- nothing follows quit and the faults 3 to 6
abbrev pub goes_on : Item → Bool
goes_on (asked request noreply) = true
goes_on (bad UnknownName) = true
goes_on _ = false

-- These items stand in the text, one after the other, and behind the last one nothing more does yet.
abbrev pub AreItems : Bytes → List Item → Type 0
AreItems text [] = IsUnfinished text
AreItems text (item ∷ items) = (used : ℕ) × IsItemAt text item used
    × MatchBool (goes_on item) (AreItems (drop used text) items) (items ≡ [])
