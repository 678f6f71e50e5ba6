-- What requests, answers of reading and replies say in the definitions' terms, and where their parts lie.
use Rattle.std.specs.Prelude.{ℕ, ◌+◌, ◌-◌, ◌==◌, List, [], length, map, codes, Option, Some, None}
use Rattle.std.specs.List.{slice_split}
use Rattle.std.specs.Borrow.{Bor}
use Rattle.definitions.specs.Bytes.{Bytes}
use Rattle.definitions.specs.Requests as requests
use Rattle.definitions.specs.Requests.{Asked, space, verb_name}
use Rattle.definitions.specs.Items.{asked, quit, bad, IsItemAt, IsUnfinished}
use Rattle.definitions.specs.Replies as replies
use Rattle.definitions.specs.Slices.{LentAt}
use Rattle.mc_lines.specs.declared.keys.Keys.{Keys}
use Rattle.mc_lines.specs.declared.request.Verb.{Verb}
use Rattle.mc_lines.specs.declared.request.Verb.TheVariants.{Set, Add, Replace, Append, Prepend}
use Rattle.mc_lines.specs.declared.request.Request.{Request}
use Rattle.mc_lines.specs.declared.request.Request.TheVariants.{Store, Cas, Get, Gets, Delete, Incr, Decr}
use Rattle.mc_lines.specs.declared.reply.Value.{Value}
use Rattle.mc_lines.specs.declared.reply.Reply.{Reply}
use Rattle.mc_lines.specs.declared.reply.Reply.TheVariants.{Stored, NotStored, Exists, NotFound, Deleted}
use Rattle.mc_lines.specs.declared.reply.Reply.TheVariants.{Number, Values, OutOfMemory, TooLarge, NonNumeric}
use Rattle.mc_lines.specs.declared.reply.Reply.TheVariants.{NoRequest}
use Rattle.mc_lines.specs.declared.read.Read.{Read}
use Rattle.mc_lines.specs.declared.read.Read.TheVariants.{Whole, Quit, More, Bad}

-- a storage command
abbrev pub verb_of : Verb → requests.Verb
verb_of Set = requests.set
verb_of Add = requests.add
verb_of Replace = requests.replace
verb_of Append = requests.append
verb_of Prepend = requests.prepend

-- the keys that a text has between its spaces
abbrev pub keys_of : Keys → List Bytes
keys_of keys = slice_split (λ b. b == space) keys.text.now

-- the keys that are left of such a text, if something is
abbrev pub keys_left : Option (Bor Bytes) → List Bytes
keys_left None = []
keys_left (Some rest) = slice_split (λ b. b == space) rest.now

-- a request
abbrev pub asked_of : Request → Asked
asked_of (Store verb key flags stored) = requests.store (verb_of verb) key.now flags stored.now
asked_of (Cas key flags stored cas_unique) = requests.cas key.now flags stored.now cas_unique
asked_of (Get keys) = requests.get (keys_of keys)
asked_of (Gets keys) = requests.gets (keys_of keys)
asked_of (Delete key) = requests.delete key.now
asked_of (Incr key value) = requests.incr key.now value
asked_of (Decr key value) = requests.decr key.now value

-- the answer is the first item of the text, or that it is unfinished
abbrev pub IsReadOf : Bytes → Read → Type 0
IsReadOf text (Whole request used noreply) = IsItemAt text (asked (asked_of request) noreply) used
IsReadOf text (Quit used) = IsItemAt text quit used
IsReadOf text More = IsUnfinished text
IsReadOf text (Bad fault used) = IsItemAt text (bad fault) used

-- how many bytes an answer takes
abbrev pub used_of : Read → ℕ
used_of (Whole request used noreply) = used
used_of (Quit used) = used
used_of More = 0
used_of (Bad fault used) = used

-- ---- replies

-- what is told of one key
abbrev pub value_of : Value → replies.Value
value_of v = record { key = v.key.items; flags = v.flags; stored = v.stored.items; cas_unique = v.cas_unique }

-- a reply
abbrev pub reply_of : Reply → replies.Reply
reply_of Stored = replies.stored
reply_of NotStored = replies.not_stored
reply_of Exists = replies.exists
reply_of NotFound = replies.not_found
reply_of Deleted = replies.deleted
reply_of (Number n) = replies.number n
reply_of (Values values with_cas_unique) = replies.values (map value_of values.items) with_cas_unique
reply_of OutOfMemory = replies.out_of_memory
reply_of TooLarge = replies.too_large
reply_of NonNumeric = replies.non_numeric
reply_of NoRequest = replies.no_request

-- ---- where the parts lie

-- the part lies there in what is left
abbrev pub LentIn : Option (Bor Bytes) → ℕ → Bor Bytes → Type 0
LentIn None place part = ⊥
LentIn (Some rest) place part = LentAt rest place part

-- the key, or the text of the keys
abbrev pub key_of : Request → Bor Bytes
key_of (Store verb key flags stored) = key
key_of (Cas key flags stored cas_unique) = key
key_of (Get keys) = keys.text
key_of (Gets keys) = keys.text
key_of (Delete key) = key
key_of (Incr key value) = key
key_of (Decr key value) = key

-- where it stands: behind the name and a space
abbrev pub key_place : Request → ℕ
key_place (Store verb key flags stored) = length (verb_name (verb_of verb)) + 1
key_place (Cas key flags stored cas_unique) = length (codes "cas") + 1
key_place (Get keys) = length (codes "get") + 1
key_place (Gets keys) = length (codes "gets") + 1
key_place (Delete key) = length (codes "delete") + 1
key_place (Incr key value) = length (codes "incr") + 1
key_place (Decr key value) = length (codes "decr") + 1

-- the data stands before the two bytes that end the request
abbrev pub IsStoredLent : Bor Bytes → Request → ℕ → Type 0
IsStoredLent source (Store verb key flags stored) used = LentAt source (used - 2 - length stored.now) stored
IsStoredLent source (Cas key flags stored cas_unique) used =
    LentAt source (used - 2 - length stored.now) stored
IsStoredLent source (Get keys) used = Unit {0}
IsStoredLent source (Gets keys) used = Unit {0}
IsStoredLent source (Delete key) used = Unit {0}
IsStoredLent source (Incr key value) used = Unit {0}
IsStoredLent source (Decr key value) used = Unit {0}

-- the parts of a request that takes so many bytes of the source are lent from their places in it
abbrev pub AreLent : Bor Bytes → Request → ℕ → Type 0
AreLent source request used =
    LentAt source (key_place request) (key_of request) × IsStoredLent source request used

-- what is read is lent
abbrev pub IsLent : Bor Bytes → Read → Type 0
IsLent source (Whole request used noreply) = AreLent source request used
IsLent source (Quit used) = Unit {0}
IsLent source More = Unit {0}
IsLent source (Bad fault used) = Unit {0}
