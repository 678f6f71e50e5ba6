-- What the sequential cache replies, request by request.
use Rattle.std.specs.Prelude.{◌≡◌, ◌-◌, ◌^◌, List, [], ◌∷◌, ◌++◌, codes}
use Rattle.std.specs.FinMap as map
use Rattle.definitions.specs.Bytes.{Bytes}
use Rattle.definitions.specs.Requests.{Asked, set, add, replace, append, prepend, store, cas, get, gets}
use Rattle.definitions.specs.Requests.{delete, incr, decr, crlf}
use Rattle.definitions.specs.Replies.{reply_text}
use Rattle.definitions.specs.Cache.{Cache, apply, empty_cache}

-- the texts of the replies to requests in turn
abbrev pub replies : Cache → List Asked → Bytes
replies cache [] = []
replies cache (request ∷ requests) =
    let after = apply cache request in reply_text after.1 ++ replies after.0 requests

-- the same from the empty cache, with the most room
abbrev pub replies_to : List Asked → Bytes
replies_to requests = replies (empty_cache 65536) requests

-- lines, each with its end
abbrev pub text : List Bytes → Bytes
text [] = []
text (line ∷ lines) = line ++ crlf ++ text lines

-- an incr at the end of the range goes on with 0
abbrev pub Wraps : Type 0
Wraps = replies_to (store set (codes "k") 0 (codes "18446744073709551615") ∷ incr (codes "k") 1 ∷ [])
    ≡ text (codes "STORED" ∷ codes "0" ∷ [])

-- a decr doesn't go below 0
abbrev pub StopsAtZero : Type 0
StopsAtZero =
    replies_to (store set (codes "k") 0 (codes "5") ∷ decr (codes "k") 9 ∷ [])
    ≡ text (codes "STORED" ∷ codes "0" ∷ [])

-- data that is no number isn't counted, and stays
abbrev pub StaysNonNumeric : Type 0
StaysNonNumeric =
    replies_to (store set (codes "k") 0 (codes "12x") ∷ incr (codes "k") 1 ∷ get (codes "k" ∷ []) ∷ [])
    ≡ text (codes "STORED" ∷ codes "CLIENT_ERROR cannot increment or decrement non-numeric value"
    ∷ codes "VALUE k 0 3" ∷ codes "12x" ∷ codes "END" ∷ [])

-- a padded number is no number
abbrev pub StaysPadded : Type 0
StaysPadded = replies_to (store set (codes "k") 0 (codes "05") ∷ incr (codes "k") 1 ∷ [])
    ≡ text (codes "STORED" ∷ codes "CLIENT_ERROR cannot increment or decrement non-numeric value" ∷ [])

-- each change gives a new cas unique, which a cas has to name
abbrev pub ComparesUniques : Type 0
ComparesUniques = replies_to (store set (codes "k") 7 (codes "5") ∷ incr (codes "k") 3 ∷ gets (codes "k" ∷ [])
    ∷ cas (codes "k") 7 (codes "9") 1 ∷ cas (codes "k") 7 (codes "9") 2 ∷ gets (codes "k" ∷ [])
    ∷ cas (codes "m") 0 (codes "9") 1 ∷ [])
    ≡ text (codes "STORED" ∷ codes "8" ∷ codes "VALUE k 7 1 2" ∷ codes "8" ∷ codes "END"
    ∷ codes "EXISTS" ∷ codes "STORED" ∷ codes "VALUE k 7 1 3" ∷ codes "9" ∷ codes "END" ∷ codes "NOT_FOUND"
    ∷ [])

-- append and prepend join data and keep the flags
abbrev pub Joins : Type 0
Joins = replies_to
    (store set (codes "k") 7 (codes "5") ∷ store append (codes "k") 9 (codes "xy") ∷ gets (codes "k" ∷ [])
    ∷ store prepend (codes "k") 0 (codes "a") ∷ gets (codes "k" ∷ []) ∷ [])
    ≡ text (codes "STORED" ∷ codes "STORED" ∷ codes "VALUE k 7 3 2" ∷ codes "5xy" ∷ codes "END"
    ∷ codes "STORED" ∷ codes "VALUE k 7 4 3" ∷ codes "a5xy" ∷ codes "END" ∷ [])

-- add wants the key absent; replace, append and prepend want it present
abbrev pub WantsPresence : Type 0
WantsPresence = replies_to (store set (codes "k") 0 (codes "z") ∷ store add (codes "k") 0 (codes "y")
    ∷ store replace (codes "m") 0 []
    ∷ store append (codes "m") 0 [] ∷ store prepend (codes "m") 0 [] ∷ get (codes "k" ∷ []) ∷ [])
    ≡ text (codes "STORED" ∷ codes "NOT_STORED" ∷ codes "NOT_STORED" ∷ codes "NOT_STORED" ∷ codes "NOT_STORED"
    ∷ codes "VALUE k 0 1" ∷ codes "z" ∷ codes "END" ∷ [])

-- a key is deleted once, and deleting it is no change
abbrev pub DeletesOnce : Type 0
DeletesOnce = replies_to (store set (codes "k") 7 (codes "z") ∷ delete (codes "k") ∷ delete (codes "k")
    ∷ store set (codes "k") 0 [] ∷ gets (codes "k" ∷ []) ∷ [])
    ≡ text (codes "STORED" ∷ codes "DELETED" ∷ codes "NOT_FOUND" ∷ codes "STORED" ∷ codes "VALUE k 0 0 2"
    ∷ [] ∷ codes "END" ∷ [])

-- a key that is asked twice is told twice, and an absent one not at all
abbrev pub RepeatsKeys : Type 0
RepeatsKeys = replies_to (store set (codes "k") 0 [] ∷ get (codes "k" ∷ codes "m" ∷ codes "k" ∷ []) ∷ [])
    ≡ text (codes "STORED" ∷ codes "VALUE k 0 0" ∷ [] ∷ codes "VALUE k 0 0" ∷ [] ∷ codes "END" ∷ [])

-- one byte of data under a key
abbrev pub stored_at : Bytes → Asked
stored_at key = store set key 0 (codes "x")

abbrev pub added_at : Bytes → Asked
added_at key = store add key 0 (codes "x")

-- With room for two keys: a new one takes the place of the one that was not used for the longest time. To be
-- got is a use, not to be stored is none.
abbrev pub Evicts : Type 0
Evicts = replies (empty_cache 2) (stored_at (codes "a") ∷ stored_at (codes "b") ∷ get (codes "a" ∷ [])
    ∷ stored_at (codes "c") ∷ get (codes "a" ∷ codes "b" ∷ codes "c" ∷ []) ∷ added_at (codes "d")
    ∷ gets (codes "c" ∷ codes "d" ∷ []) ∷ added_at (codes "c") ∷ stored_at (codes "e")
    ∷ get (codes "c" ∷ []) ∷ [])
    ≡ text (codes "STORED" ∷ codes "STORED" ∷ codes "VALUE a 0 1" ∷ codes "x" ∷ codes "END" ∷ codes "STORED"
    ∷ codes "VALUE a 0 1" ∷ codes "x" ∷ codes "VALUE c 0 1" ∷ codes "x" ∷ codes "END" ∷ codes "STORED"
    ∷ codes "VALUE c 0 1 3" ∷ codes "x" ∷ codes "VALUE d 0 1 4" ∷ codes "x" ∷ codes "END"
    ∷ codes "NOT_STORED" ∷ codes "STORED" ∷ codes "END" ∷ [])

-- with room for one key
abbrev pub HoldsOne : Type 0
HoldsOne = replies (empty_cache 1) (stored_at (codes "a") ∷ stored_at (codes "b") ∷ get (codes "a" ∷ [])
    ∷ stored_at (codes "a") ∷ [])
    ≡ text (codes "STORED" ∷ codes "STORED" ∷ codes "END" ∷ codes "STORED" ∷ [])

-- when all changes are counted none is made, and what wouldn't change answers as ever
abbrev pub IsSpent : Type 0
IsSpent = replies
    (record { entries = map.empty; changes = 2 ^ 64 - 1; uses = 0; most_keys = 65536 })
    (store set (codes "a") 0 (codes "x") ∷ store replace (codes "a") 0 (codes "x") ∷ get (codes "a" ∷ [])
    ∷ [])
    ≡ text (codes "SERVER_ERROR out of memory storing object" ∷ codes "NOT_STORED" ∷ codes "END" ∷ [])

-- nor does a key make room then
abbrev pub KeepsItsKey : Type 0
KeepsItsKey = replies
    (record {
      entries = map.insert map.empty (codes "a")
          (record { flags = 0; stored = codes "x"; cas_unique = 1; last_use = 1 });
      changes = 2 ^ 64 - 1;
      uses = 1;
      most_keys = 1;
    })
    (stored_at (codes "b") ∷ get (codes "a" ∷ []) ∷ [])
    ≡ text (codes "SERVER_ERROR out of memory storing object" ∷ codes "VALUE a 0 1" ∷ codes "x"
    ∷ codes "END" ∷ [])
