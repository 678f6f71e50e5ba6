-- The request that a payload spells, as a function. There are eleven guesses, one a command, made of the
-- fields of the first line; the payload spells the one that is a request and has it as its canonical text.
use Rattle.std.specs.Prelude.{ℕ, ◌+◌, ◌-◌, ◌^◌, Bool, ◌&&◌, not, List, [], ◌∷◌, length, take, drop, Option}
use Rattle.std.specs.Prelude.{nat_lt, nat_le, ◌==◌, bytes_eq, if◌then◌else◌, slice_index, slice_index_or}
use Rattle.std.specs.Prelude.{find, is_some}
use Rattle.std.specs.List.{slice_split, list_all}
use Rattle.std.specs.Str.Parse.{digits_value}
use Rattle.definitions.specs.Requests.{Asked, set, add, replace, append, prepend, store, cas, get, gets}
use Rattle.definitions.specs.Requests.{delete, incr, decr, canonical, space}
use Rattle.ids.specs.declared.limits.TheConstants.{MOST_ASKED, MOST_DATA, MOST_KEY}
use Rattle.definitions.specs.Bytes.{Bytes}

-- what stands before the first CR LF
abbrev pub first_line : Bytes → Bytes
first_line [] = []
first_line (byte ∷ text) = if (byte == 13) && (slice_index text 0 == 10) then [] else byte ∷ first_line text

-- the requests that the fields of the first line could spell
abbrev pub guesses : Bytes → List Asked
guesses payload =
    let front = first_line payload in
    let field = λ (i : ℕ). slice_index_or (slice_split (λ b. b == space) front) i [] in
    let keys = drop 1 (slice_split (λ b. b == space) front) in
    let stored = take (length payload - length front - 4) (drop (length front + 2) payload) in
    let number = λ (i : ℕ). digits_value 10 (field i) in
    store set (field 1) (number 2) stored
    ∷ store add (field 1) (number 2) stored
    ∷ store replace (field 1) (number 2) stored
    ∷ store append (field 1) (number 2) stored
    ∷ store prepend (field 1) (number 2) stored
    ∷ cas (field 1) (number 2) stored (number 5)
    ∷ get keys ∷ gets keys
    ∷ delete (field 1) ∷ incr (field 1) (number 2) ∷ decr (field 1) (number 2) ∷ []

-- the test of a byte of a key
abbrev pub is_key_byte : ℕ → Bool
is_key_byte b = nat_le 33 b && nat_lt b 256 && not (b == 127)

-- the test of a key
abbrev pub is_key : Bytes → Bool
is_key key = nat_le 1 (length key) && nat_le (length key) MOST_KEY && list_all is_key_byte key

-- the test of the keys of one retrieval
abbrev pub are_keys : List Bytes → Bool
are_keys keys = nat_le 1 (length keys) && nat_le (length keys) MOST_ASKED && list_all is_key keys

-- the test of a whole request
abbrev pub is_request : Asked → Bool
is_request (store verb key flags stored) =
    is_key key && nat_lt flags (2 ^ 32) && nat_le (length stored) MOST_DATA
is_request (cas key flags stored cas_unique) =
    is_key key && nat_lt flags (2 ^ 32) && nat_le (length stored) MOST_DATA && nat_lt cas_unique (2 ^ 64)
is_request (get keys) = are_keys keys
is_request (gets keys) = are_keys keys
is_request (delete key) = is_key key
is_request (incr key value) = is_key key && nat_lt value (2 ^ 64)
is_request (decr key value) = is_key key && nat_lt value (2 ^ 64)

-- the request whose canonical text the payload is
unfoldable pub request_of : Bytes → Option Asked
request_of payload = find (λ r. is_request r && bytes_eq (canonical r) payload) (guesses payload)

-- the payload is the canonical text of a request
abbrev pub is_canonical : Bytes → Bool
is_canonical payload = is_some (request_of payload)
