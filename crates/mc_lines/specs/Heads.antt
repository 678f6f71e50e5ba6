-- Lines and what they say: what the steps of the reader give.
use Rattle.ids.specs.declared.limits.TheConstants.{MOST_ASKED, MOST_DATA}
use Rattle.std.specs.Prelude.{◌≡◌, ◌≢◌, ℕ, ◌+◌, Bool, false, List, [], length, take, drop, nat_lt, Contains}
use Rattle.std.specs.Prelude.{codes, bytes_eq, Option, Some, None, Result, Ok, Err, if◌then◌else◌}
use Rattle.std.specs.Prelude.{option_map}
use Rattle.std.specs.Borrow.{Bor}
use Rattle.ids.specs.declared.line_fault.LineFault.{LineFault}
use Rattle.ids.specs.declared.line_fault.LineFault.TheVariants.{TooLarge, BadChunk}
use Rattle.definitions.specs.Bytes.{Bytes}
use Rattle.definitions.specs.Requests as requests
use Rattle.definitions.specs.Requests.{Asked, crlf, verb_name}
use Rattle.definitions.specs.Items.{names, name_of, IsLineOf, Item, asked, quit, bad}
use Rattle.definitions.specs.Slices.{LentAt}
use Rattle.mc_lines.specs.declared.request.Verb.TheVariants.{Set, Add, Replace, Append, Prepend}
use Rattle.mc_lines.specs.declared.line.Name.{Name}
use Rattle.mc_lines.specs.declared.line.Name.TheVariants as named
use Rattle.mc_lines.specs.declared.line.Head.{Head}
use Rattle.mc_lines.specs.declared.line.Head.TheVariants.{Store, Cas, Get, Gets, Delete, Incr, Decr}
use Rattle.mc_lines.specs.declared.line.Line.{Line}
use Rattle.mc_lines.specs.declared.line.Line.TheVariants as lines
use Rattle.mc_lines.specs.declared.read.Read.{Read}
use Rattle.mc_lines.specs.declared.read.Read.TheVariants as reads
use Rattle.mc_lines.specs.Fields.{keys_pass, ◌>>=◌, key_first, number_first, flags_first, expiry_first}
use Rattle.mc_lines.specs.Fields.{noreply_in}
use Rattle.mc_lines.specs.Meaning.{verb_of, keys_of, asked_of}

-- what a line says
abbrev pub head_of : Head → requests.Head
head_of (Store verb key flags bytes) = requests.store (verb_of verb) key.now flags bytes
head_of (Cas key flags bytes cas_unique) = requests.cas key.now flags bytes cas_unique
head_of (Get keys) = requests.get (keys_of keys)
head_of (Gets keys) = requests.gets (keys_of keys)
head_of (Delete key) = requests.delete key.now
head_of (Incr key value) = requests.incr key.now value
head_of (Decr key value) = requests.decr key.now value

-- the same of what may be there
abbrev pub seen : Option (Head × Bool) → Option (requests.Head × Bool)
seen o = option_map (λ x. (head_of x.0, x.1)) o

-- the request with this data
abbrev pub filled : requests.Head → Bytes → Asked
filled (requests.store verb key flags bytes) stored = requests.store verb key flags stored
filled (requests.cas key flags bytes cas_unique) stored = requests.cas key flags stored cas_unique
filled (requests.get keys) stored = requests.get keys
filled (requests.gets keys) stored = requests.gets keys
filled (requests.delete key) stored = requests.delete key
filled (requests.incr key value) stored = requests.incr key value
filled (requests.decr key value) stored = requests.decr key value

-- the key of a line, or the text of its keys
abbrev pub head_key : Head → Bor Bytes
head_key (Store verb key flags bytes) = key
head_key (Cas key flags bytes cas_unique) = key
head_key (Get keys) = keys.text
head_key (Gets keys) = keys.text
head_key (Delete key) = key
head_key (Incr key value) = key
head_key (Decr key value) = key

-- where it stands
abbrev pub head_place : Head → ℕ
head_place (Store verb key flags bytes) = length (verb_name (verb_of verb)) + 1
head_place (Cas key flags bytes cas_unique) = length (codes "cas") + 1
head_place (Get keys) = length (codes "get") + 1
head_place (Gets keys) = length (codes "gets") + 1
head_place (Delete key) = length (codes "delete") + 1
head_place (Incr key value) = length (codes "incr") + 1
head_place (Decr key value) = length (codes "decr") + 1

-- the command of a name
abbrev pub name_in : Bytes → Option Name
name_in word =
    if bytes_eq word (codes "get") then Some named.Get
    else if bytes_eq word (codes "gets") then Some named.Gets
    else if bytes_eq word (codes "set") then Some (named.Store Set)
    else if bytes_eq word (codes "add") then Some (named.Store Add)
    else if bytes_eq word (codes "replace") then Some (named.Store Replace)
    else if bytes_eq word (codes "append") then Some (named.Store Append)
    else if bytes_eq word (codes "prepend") then Some (named.Store Prepend)
    else if bytes_eq word (codes "cas") then Some named.Cas
    else if bytes_eq word (codes "incr") then Some named.Incr
    else if bytes_eq word (codes "decr") then Some named.Decr
    else if bytes_eq word (codes "delete") then Some named.Delete
    else if bytes_eq word (codes "quit") then Some named.Quit
    else None

-- a storage command by the fields behind its name
abbrev pub store_in : requests.Verb → List Bytes → Option (requests.Head × Bool)
store_in verb fields =
    key_first fields >>= λ key. flags_first key.1 >>= λ flags. expiry_first flags.1
    >>= λ rest. number_first rest >>= λ bytes.
    noreply_in bytes.1 >>= λ noreply. Some (requests.store verb key.0 flags.0 bytes.0, noreply)

-- cas by the fields behind its name
abbrev pub cas_in : List Bytes → Option (requests.Head × Bool)
cas_in fields =
    key_first fields >>= λ key. flags_first key.1 >>= λ flags. expiry_first flags.1
    >>= λ rest. number_first rest >>= λ bytes.
    number_first bytes.1 >>= λ cas_unique. noreply_in cas_unique.1
    >>= λ noreply. Some (requests.cas key.0 flags.0 bytes.0 cas_unique.0, noreply)

-- delete by the fields behind its name
abbrev pub delete_in : List Bytes → Option (requests.Head × Bool)
delete_in fields =
    key_first fields >>= λ key. noreply_in key.1 >>= λ noreply. Some (requests.delete key.0, noreply)

-- a key, a number, and noreply or nothing
abbrev pub counted_in : List Bytes → Option (Bytes × ℕ × Bool)
counted_in fields =
    key_first fields >>= λ key. number_first key.1 >>= λ value. noreply_in value.1
    >>= λ noreply. Some (key.0, value.0, noreply)

-- the keys of a retrieval
abbrev pub keys_in : List Bytes → Option (List Bytes)
keys_in fields = if keys_pass MOST_ASKED fields then Some fields else None

-- what the fields behind a name say
abbrev pub head_for : Name → List Bytes → Option (requests.Head × Bool)
head_for (named.Store verb) fields = store_in (verb_of verb) fields
head_for named.Cas fields = cas_in fields
head_for named.Get fields = option_map (λ keys. (requests.get keys, false)) (keys_in fields)
head_for named.Gets fields = option_map (λ keys. (requests.gets keys, false)) (keys_in fields)
head_for named.Delete fields = delete_in fields
head_for named.Incr fields = option_map (λ x. (requests.incr x.0 x.1, x.2)) (counted_in fields)
head_for named.Decr fields = option_map (λ x. (requests.decr x.0 x.1, x.2)) (counted_in fields)
head_for named.Quit fields = None

-- what a line is: it has a form, it is quit, or there is a fault
abbrev pub IsLineRead : Bytes → Line → Type 0
IsLineRead l (lines.Request head noreply) = IsLineOf l (head_of head) noreply
IsLineRead l lines.Quit = l ≡ codes "quit"
IsLineRead l lines.UnknownName = ¬ (Contains names (name_of l))
IsLineRead l lines.BadFields = Contains names (name_of l) × (l ≢ codes "quit")
    × ((head : requests.Head) (noreply : Bool) → ¬ (IsLineOf l head noreply))

-- the key of a line is lent from its place in it
abbrev pub IsLineLent : Bor Bytes → Line → Type 0
IsLineLent source (lines.Request head noreply) = LentAt source (head_place head) (head_key head)
IsLineLent source lines.Quit = Unit {0}
IsLineLent source lines.UnknownName = Unit {0}
IsLineLent source lines.BadFields = Unit {0}

-- the data at the front of what follows a line, none yet, or a fault
abbrev pub data_in : ℕ → Bytes → Result (Option Bytes) LineFault
data_in bytes rest =
    if nat_lt MOST_DATA bytes then Err TooLarge
    else if nat_lt (length rest) (bytes + 2) then Ok None
    else if bytes_eq (take 2 (drop bytes rest)) crlf then Ok (Some (take bytes rest))
    else Err BadChunk

-- the same of what is lent
abbrev pub data_seen : Result (Option (Bor Bytes)) LineFault → Result (Option Bytes) LineFault
data_seen (Ok o) = Ok (option_map (λ part. part.now) o)
data_seen (Err fault) = Err fault

-- the item that a line and its data make
abbrev pub item_from : requests.Head → Bool → ℕ → ℕ → Result (Option Bytes) LineFault → Option (Item × ℕ)
item_from head noreply start bytes (Ok (Some stored)) =
    Some (asked (filled head stored) noreply, start + (bytes + 2))
item_from head noreply start bytes (Ok None) = None
item_from head noreply start bytes (Err fault) = Some (bad fault, 0)

-- the item that a line and what follows it make
abbrev pub item_with : requests.Head → Bool → ℕ → Bytes → Option ℕ → Option (Item × ℕ)
item_with head noreply start rest None = Some (asked (filled head []) noreply, start)
item_with head noreply start rest (Some bytes) = item_from head noreply start bytes (data_in bytes rest)

-- the item of an answer
abbrev pub item_of : Read → Option (Item × ℕ)
item_of (reads.Whole request used noreply) = Some (asked (asked_of request) noreply, used)
item_of (reads.Quit used) = Some (quit, used)
item_of reads.More = None
item_of (reads.Bad fault used) = Some (bad fault, used)
