-- The text of a schedule.
use Rattle.std.specs.Prelude.{◌≡◌, ◌≢◌, ℕ, ◌-◌, ◌<◌, [], ◌++◌, length, codes, nat_lt, slice_index}
use Rattle.std.specs.Prelude.{if◌then◌else◌, ⊤, Option, Some, None, Result, Ok, Err}
use Rattle.hex.specs.declared.error.FromHexError.{FromHexError}
use Rattle.hex.specs.declared.error.FromHexError.TheVariants.{OutOfMemory}
use Rattle.run_report.specs.Names.{replica_text, client_text}
use Rattle.definitions.specs.Bytes.{Bytes}
use Rattle.simulator.specs.declared.words.NotRead.{NotRead}
use Rattle.simulator.specs.declared.words.NotRead.TheVariants.{Bad, Memory}

-- what is read of a text: the value that it spells, and nothing where it spells none
abbrev pub IsReadOf : {X : Type 0} → (X → Bytes) → (X → Type 0) → Bytes → Option X → Type 0
IsReadOf {X} spelling Fits text None = (x : X) → Fits x → spelling x ≢ text
IsReadOf {X} spelling Fits text (Some x) = Fits x × (spelling x ≡ text)

-- the same where reading may want memory
abbrev pub IsReading : {X : Type 0} → (X → Bytes) → (X → Type 0) → Bytes → Result X NotRead → Type 0
IsReading {X} spelling Fits text (Ok x) = Fits x × (spelling x ≡ text)
IsReading {X} spelling Fits text (Err Bad) = (x : X) → Fits x → spelling x ≢ text
IsReading {X} spelling Fits text (Err Memory) = ⊤

-- why digits that weren't decoded give nothing
abbrev pub undecoded : FromHexError → NotRead
undecoded OutOfMemory = Memory
undecoded _ = Bad

-- numbers are below this limit
abbrev pub IsBelow : ℕ → ℕ → Type 0
IsBelow limit n = n < limit

-- a party: replica i is i, client c is 256 + c
abbrev pub party_text : ℕ → Bytes
party_text party = if nat_lt party 256 then replica_text party else client_text (party - 256)

-- two fields
abbrev pub spaced : Bytes → Bytes → Bytes
spaced first second = first ++ (codes " " ++ second)

-- no space stands in a word
abbrev pub IsWord : Bytes → Type 0
IsWord word = (i : ℕ) → i < length word → slice_index word i ≢ 32

-- what stands behind a word: nothing, or a space and more
abbrev pub behind_word : Option Bytes → Bytes
behind_word None = []
behind_word (Some more) = codes " " ++ more

-- the text's first word, and what stands behind the space that ends it
pub record IsCut (text word : Bytes) (rest : Option Bytes) : Type 0 where
  pub whole : text ≡ word ++ behind_word rest
  pub first : IsWord word
