-- Requests of memcached's text protocol, and their texts (protocol.txt, "Storage commands", "Retrieval
-- command", "Deletion", "Increment/Decrement").
use Rattle.std.specs.Prelude.{◌≢◌, ℕ, ◌^◌, ◌<◌, ◌≤◌, Bool, true, false, List, [], ◌∷◌, ◌++◌, length, All}
use Rattle.std.specs.Prelude.{IsTrue, Option, Some, None, IfSome, decimal, codes}
use Rattle.std.specs.List.{join_with_byte, AllByRecursion}
use Rattle.std.specs.Option.{option_map_or}
use Rattle.ids.specs.declared.limits.TheConstants.{MOST_ASKED, MOST_DATA, MOST_KEY}
use Rattle.definitions.specs.Bytes.{Bytes}

-- ---- what is asked

-- the commands that store data under a key
pub data Verb : Type 0 where
  set : Verb
  add : Verb
  replace : Verb
  append : Verb
  prepend : Verb

-- A request brings data along, or in a line the number of its bytes: D is what stands in the data's place.
pub data Request (D : Type 0) : Type 0 where
  store : Verb → (key : Bytes) (flags : ℕ) (stored : D) → Request D
  cas : (key : Bytes) (flags : ℕ) (stored : D) (cas_unique : ℕ) → Request D
  get : (keys : List Bytes) → Request D
  gets : (keys : List Bytes) → Request D
  delete : (key : Bytes) → Request D
  incr : (key : Bytes) (value : ℕ) → Request D
  decr : (key : Bytes) (value : ℕ) → Request D

-- a whole request
abbrev pub Asked : Type 0
Asked = Request Bytes

-- what a line says of a request
abbrev pub Head : Type 0
Head = Request ℕ

-- what the line of a request says
abbrev pub head_of : Asked → Head
head_of (store verb key flags stored) = store verb key flags (length stored)
head_of (cas key flags stored cas_unique) = cas key flags (length stored) cas_unique
head_of (get keys) = get keys
head_of (gets keys) = gets keys
head_of (delete key) = delete key
head_of (incr key value) = incr key value
head_of (decr key value) = decr key value

-- what stands in the data's place, where the request stores
abbrev pub data_field : {D : Type 0} → Request D → Option D
data_field (store verb key flags stored) = Some stored
data_field (cas key flags stored cas_unique) = Some stored
data_field _ = None

-- the word noreply may stand at the end of every line but that of get and gets
abbrev pub takes_noreply : {D : Type 0} → Request D → Bool
takes_noreply (get keys) = false
takes_noreply (gets keys) = false
takes_noreply _ = true

-- ---- its text

-- the end of a line (protocol.txt)
abbrev pub crlf : Bytes
crlf = 13 ∷ 10 ∷ []

-- what stands between two fields
abbrev pub space : ℕ
space = 32

-- the names of the storage commands (protocol.txt, "Storage commands")
abbrev pub verb_name : Verb → Bytes
verb_name set = codes "set"
verb_name add = codes "add"
verb_name replace = codes "replace"
verb_name append = codes "append"
verb_name prepend = codes "prepend"

-- the fields of a line: the name, and what the command takes. The 0 is the time of expiry
abbrev pub fields : Head → List Bytes
fields (store verb key flags bytes) = verb_name verb ∷ key ∷ decimal flags ∷ codes "0" ∷ decimal bytes ∷ []
fields (cas key flags bytes cas_unique) =
    codes "cas" ∷ key ∷ decimal flags ∷ codes "0" ∷ decimal bytes ∷ decimal cas_unique ∷ []
fields (get keys) = codes "get" ∷ keys
fields (gets keys) = codes "gets" ∷ keys
fields (delete key) = codes "delete" ∷ key ∷ []
fields (incr key value) = codes "incr" ∷ key ∷ decimal value ∷ []
fields (decr key value) = codes "decr" ∷ key ∷ decimal value ∷ []

-- the word noreply or nothing
abbrev pub noreply_field : Bool → List Bytes
noreply_field true = codes "noreply" ∷ []
noreply_field false = []

-- the line: the fields with one space between each two
abbrev pub line : Head → Bool → Bytes
line head noreply = join_with_byte space (fields head ++ noreply_field noreply)

-- the data and its end, where the request stores
abbrev pub data_block : Asked → Bytes
data_block request = option_map_or (λ stored. stored ++ crlf) (data_field request) []

-- the one text of a request, with the word noreply or without it
abbrev pub spelling : Asked → Bool → Bytes
spelling request noreply = line (head_of request) noreply ++ crlf ++ data_block request

-- the canonical text
abbrev pub canonical : Asked → Bytes
canonical request = spelling request false

-- ---- what is well-formed

-- a byte of a key: no control character, no space, not 127
abbrev pub IsKeyByte : ℕ → Type 0
IsKeyByte byte = (33 ≤ byte) × (byte < 256) × (byte ≢ 127)

-- a key (protocol.txt, "Keys")
abbrev pub IsKey : Bytes → Type 0
IsKey key = (1 ≤ length key) × (length key ≤ MOST_KEY) × All IsKeyByte key

-- the keys of one retrieval
abbrev pub AreKeys : List Bytes → Type 0
AreKeys keys = (1 ≤ length keys) × (length keys ≤ MOST_ASKED) × AllByRecursion IsKey keys

-- what a line may say; how much data there may be is a limit of its own
abbrev pub HasForm : Head → Type 0
HasForm (store verb key flags bytes) = IsKey key × (flags < 2 ^ 32) × (bytes < 2 ^ 64)
HasForm (cas key flags bytes cas_unique) =
    IsKey key × (flags < 2 ^ 32) × (bytes < 2 ^ 64) × (cas_unique < 2 ^ 64)
HasForm (get keys) = AreKeys keys
HasForm (gets keys) = AreKeys keys
HasForm (delete key) = IsKey key
HasForm (incr key value) = IsKey key × (value < 2 ^ 64)
HasForm (decr key value) = IsKey key × (value < 2 ^ 64)

-- noreply stands only where it may
abbrev pub MayHave : Head → Bool → Type 0
MayHave head noreply = IsTrue noreply → IsTrue (takes_noreply head)

-- a request with its word noreply or without
abbrev pub IsRequest : Asked → Bool → Type 0
IsRequest request noreply = HasForm (head_of request) × MayHave (head_of request) noreply
    × IfSome (data_field request) (λ stored. length stored ≤ MOST_DATA)
