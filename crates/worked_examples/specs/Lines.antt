-- What holds of all request lines and of the items of all texts, and what some texts are.
use Rattle.ids.specs.declared.limits.TheConstants.{MOST_LINE}
use Rattle.std.specs.Prelude.{◌≡◌, ◌↔◌, ℕ, ◌+◌, ◌≤◌, Bool, true, false, ◌⊎◌, List, [], ◌∷◌, ◌++◌, length}
use Rattle.std.specs.Prelude.{replicate, Some, None, codes}
use Rattle.ids.specs.declared.line_fault.LineFault.TheVariants.{UnknownName, BadFields, TooLarge, BadChunk}
use Rattle.ids.specs.declared.line_fault.LineFault.TheVariants.{LineTooLong}
use Rattle.definitions.specs.Bytes.{Bytes}
use Rattle.definitions.specs.Requests.{Asked, Head, set, store, cas, get, crlf, line, spelling, canonical}
use Rattle.definitions.specs.Requests.{HasForm, MayHave, IsRequest}
use Rattle.definitions.specs.Items.{Item, asked, quit, bad, HasNoEnd, IsLineOf, IsItemAt, IsUnfinished}
use Rattle.definitions.specs.Items.{AreItems}
use Rattle.definitions.specs.Canonical.{request_of}

-- ---- what holds of every line and text

-- a line is of one head, and noreply stands there or it doesn't
abbrev pub OneHead : Type 0
OneHead = (l : Bytes) (h k : Head) (q r : Bool) → IsLineOf l h q → IsLineOf l k r → (h ≡ k) × (q ≡ r)

-- a well-formed line fits with its end, and has no end within
abbrev pub LinesFit : Type 0
LinesFit =
    (head : Head) (noreply : Bool) → HasForm head → MayHave head noreply
    → (length (line head noreply) + 2 ≤ MOST_LINE) × HasNoEnd (line head noreply)

-- two items at the beginning of one text are the same, and take as many bytes
abbrev pub OneFirstItem : Type 0
OneFirstItem =
    (text : Bytes) (x y : Item) (m n : ℕ) → IsItemAt text x m → IsItemAt text y n → (x ≡ y) × (m ≡ n)

-- an item of a text is an item of each longer text
abbrev pub ItemsStay : Type 0
ItemsStay = (text more : Bytes) (x : Item) (used : ℕ) → IsItemAt text x used → IsItemAt (text ++ more) x used

-- no item stands in an unfinished text
abbrev pub NoItemYet : Type 0
NoItemYet = (text : Bytes) (x : Item) (used : ℕ) → IsUnfinished text → ¬ (IsItemAt text x used)

-- there is no third case
abbrev pub ItemOrUnfinished : Type 0
ItemOrUnfinished = (text : Bytes) → ((x : Item) × (used : ℕ) × IsItemAt text x used) ⊎ IsUnfinished text

-- what is read of a text is one list of items
abbrev pub OneListOfItems : Type 0
OneListOfItems =
    (text : Bytes)
    → ((items : List Item) × AreItems text items)
    × ((xs ys : List Item) → AreItems text xs → AreItems text ys → xs ≡ ys)

-- two requests with one canonical text are the same
abbrev pub OneCanonical : Type 0
OneCanonical = (r s : Asked) → IsRequest r false → IsRequest s false → canonical r ≡ canonical s → r ≡ s

-- the text with noreply or without tells the request, and whether noreply stands there
abbrev pub OneSpelling : Type 0
OneSpelling =
    (r s : Asked) (n m : Bool) → IsRequest r n → IsRequest s m → spelling r n ≡ spelling s m
    → (r ≡ s) × (n ≡ m)

-- request_of gives a request just where the payload is its canonical text
abbrev pub FindsRequests : Type 0
FindsRequests =
    (payload : Bytes) (r : Asked) → (request_of payload ≡ Some r)
    ↔ (IsRequest r false × (payload ≡ canonical r))

-- no canonical text has more than 4,393 bytes
abbrev pub CanonicalFits : Type 0
CanonicalFits = (r : Asked) → IsRequest r false → length (canonical r) ≤ 4393

-- ---- whole requests

-- a set with one byte of data takes 16 bytes
abbrev pub WholeSet : Type 0
WholeSet = IsItemAt (codes "set a 0 0 1" ++ crlf ++ codes "x" ++ crlf)
    (asked (store set (codes "a") 0 (codes "x")) false) 16

-- the same with the word noreply takes 24
abbrev pub QuietSet : Type 0
QuietSet = IsItemAt (codes "set a 0 0 1 noreply" ++ crlf ++ codes "x" ++ crlf)
    (asked (store set (codes "a") 0 (codes "x")) true) 24

-- sixteen keys of one letter
abbrev pub sixteen : List Bytes
sixteen =
    codes "a" ∷ codes "b" ∷ codes "c" ∷ codes "d" ∷ codes "e" ∷ codes "f" ∷ codes "g" ∷ codes "h"
    ∷ codes "i" ∷ codes "j" ∷ codes "k"
    ∷ codes "l" ∷ codes "m" ∷ codes "n" ∷ codes "o" ∷ codes "p" ∷ []

-- a get of all of them
abbrev pub SixteenKeys : Type 0
SixteenKeys = IsItemAt (codes "get a b c d e f g h i j k l m n o p" ++ crlf) (asked (get sixteen) false) 37

-- the line quit
abbrev pub Quit : Type 0
Quit = IsItemAt (codes "quit" ++ crlf) quit 6

-- a request stands behind the line quit
abbrev pub AfterQuit : Type 0
AfterQuit = AreItems (codes "quit" ++ crlf ++ codes "get a" ++ crlf) (quit ∷ [])

-- ---- faults

-- the two bytes after the data are yz
abbrev pub NoDataEnd : Type 0
NoDataEnd = IsItemAt (codes "set a 0 0 1" ++ crlf ++ codes "xyz") (bad BadChunk) 0

-- memcached's touch is none of the twelve names, and takes its line
abbrev pub UnknownTouch : Type 0
UnknownTouch = IsItemAt (codes "touch a 0" ++ crlf) (bad UnknownName) 11

-- what stands behind the line with the unknown name is read
abbrev pub AfterUnknown : Type 0
AfterUnknown = AreItems (codes "touch a 0" ++ crlf ++ codes "get a" ++ crlf)
    (bad UnknownName ∷ asked (get (codes "a" ∷ [])) false ∷ [])

-- a get without a key
abbrev pub NoKey : Type 0
NoKey = IsItemAt (codes "get" ++ crlf) (bad BadFields) 0

-- a get of one key too many
abbrev pub SeventeenKeys : Type 0
SeventeenKeys = IsItemAt (codes "get a b c d e f g h i j k l m n o p q" ++ crlf) (bad BadFields) 0

-- the time of expiry is 5
abbrev pub Expiry : Type 0
Expiry = IsItemAt (codes "set a 0 5 1" ++ crlf ++ codes "x" ++ crlf) (bad BadFields) 0

-- the number of bytes has a zero in front
abbrev pub PaddedNumber : Type 0
PaddedNumber = IsItemAt (codes "set a 0 0 01" ++ crlf ++ codes "x" ++ crlf) (bad BadFields) 0

-- a field behind quit
abbrev pub QuitWithField : Type 0
QuitWithField = IsItemAt (codes "quit x" ++ crlf) (bad BadFields) 0

-- one byte of data too many is refused at the end of the line
abbrev pub TooMuchData : Type 0
TooMuchData = IsItemAt (codes "set a 0 0 4097" ++ crlf) (bad TooLarge) 0

-- 4,096 bytes, and no CR LF among them
abbrev pub TooLong : Type 0
TooLong = (text : Bytes) → length text ≡ 4096 → HasNoEnd text → IsItemAt text (bad LineTooLong) 0

-- 4,096 times the letter a
abbrev pub TooManyLetters : Type 0
TooManyLetters = IsItemAt (replicate 4096 97) (bad LineTooLong) 0

-- ---- unfinished texts

-- no data is there yet, and 4,096 bytes may come
abbrev pub MuchData : Type 0
MuchData = IsUnfinished (codes "set a 0 0 4096" ++ crlf)

-- the data has its first byte after it, and not the second
abbrev pub DataCut : Type 0
DataCut = IsUnfinished (codes "set a 0 0 1" ++ crlf ++ codes "xy")

-- the CR is there, and the LF isn't
abbrev pub LineCut : Type 0
LineCut = IsUnfinished (codes "set a 0 0 1" ++ 13 ∷ [])

-- 4,095 bytes, and no CR LF among them
abbrev pub NotTooLong : Type 0
NotTooLong = (text : Bytes) → length text ≡ 4095 → HasNoEnd text → IsUnfinished text

-- 4,095 times the letter a
abbrev pub ManyLetters : Type 0
ManyLetters = IsUnfinished (replicate 4095 97)

-- ---- payloads

-- the text of a set, whole, with nothing before or behind it
abbrev pub PayloadOfSet : Type 0
PayloadOfSet =
    request_of (codes "set a 0 0 1" ++ crlf ++ codes "x" ++ crlf) ≡ Some (store set (codes "a") 0 (codes "x"))

-- quit is no request
abbrev pub PayloadOfQuit : Type 0
PayloadOfQuit = request_of (codes "quit" ++ crlf) ≡ None

-- the text of a get
abbrev pub PayloadOfGet : Type 0
PayloadOfGet = request_of (codes "get a b" ++ crlf) ≡ Some (get (codes "a" ∷ codes "b" ∷ []))

-- a number with a zero in front is no request's
abbrev pub PayloadPadded : Type 0
PayloadPadded = request_of (codes "set a 0 0 01" ++ crlf ++ codes "x" ++ crlf) ≡ None

-- letters without a line are none
abbrev pub PayloadOfLetters : Type 0
PayloadOfLetters = request_of (codes "abc") ≡ None

-- the data is CR LF
abbrev pub PayloadOfCas : Type 0
PayloadOfCas = request_of (codes "cas a 0 0 2 7" ++ crlf ++ crlf ++ crlf) ≡ Some (cas (codes "a") 0 crlf 7)
