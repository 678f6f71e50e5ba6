-- What a feed gives of the bytes that it holds, what it holds then, and what it gives over a whole history
-- of calls.
use Rattle.std.specs.Prelude.{◌≡◌, ℕ, false, if◌then◌else◌, List, [], ◌∷◌, ◌++◌, drop, Option, Some, None}
use Rattle.std.specs.Borrow.{Bor}
use Rattle.std.specs.List.{AllByRecursion}
use Rattle.definitions.specs.Bytes.{Bytes}
use Rattle.definitions.specs.Items as definitions
use Rattle.definitions.specs.Items.{asked, quit, bad, goes_on, IsItemAt, IsUnfinished}
use Rattle.mc_lines.specs.Meaning.{asked_of, AreLent}
use Rattle.line_feed.specs.declared.item.Item.{Item}
use Rattle.line_feed.specs.declared.item.Item.TheVariants.{Request, Quit, Bad}

-- an item, in the definitions' terms
abbrev pub item_of : Item → definitions.Item
item_of (Request request noreply) = asked (asked_of request) noreply
item_of Quit = quit
item_of (Bad fault) = bad fault

-- the same of what may be there
abbrev pub items_in : Option Item → Option definitions.Item
items_in None = None
items_in (Some item) = Some (item_of item)

-- ---- one call

-- what is held behind an item that takes so many bytes: after one that ends all, it is held still
abbrev pub left_behind : definitions.Item → ℕ → Bytes → Bytes
left_behind item used held = if goes_on item then drop used held else held

-- The first item of the held bytes is given, and its bytes are let go where more may follow; or there is
-- none yet.
abbrev pub Gives : Bytes → Option definitions.Item → Bytes → Type 0
Gives held None left = IsUnfinished held × (left ≡ held)
Gives held (Some item) left = (used : ℕ) × IsItemAt held item used × (left ≡ left_behind item used held)

-- the parts of a request are slices of the source, at their places in its first bytes
abbrev pub IsItemLent : Bor Bytes → Item → Type 0
IsItemLent source (Request request noreply) =
    (used : ℕ) × IsItemAt source.now (item_of (Request request noreply)) used × AreLent source request used
IsItemLent source Quit = Unit {0}
IsItemLent source (Bad fault) = Unit {0}

-- what is given is lent from one slice, which has the held bytes: nothing was copied
abbrev pub IsGivenLent : Bytes → Option Item → Type 0
IsGivenLent held None = Unit {0}
IsGivenLent held (Some item) = (source : Bor Bytes) × (source.now ≡ held) × IsItemLent source item

-- ---- many calls

-- a call of a feed, and what it gave
pub data Call : Type 0 where
  pushed : Bytes → Call
  asked_next : Option definitions.Item → Call

-- these calls, one after the other, lead from what is held to what is left
abbrev pub Lead : Bytes → List Call → Bytes → Type 0
Lead held [] left = left ≡ held
Lead held (pushed bytes ∷ calls) left = Lead (held ++ bytes) calls left
Lead held (asked_next answer ∷ calls) left =
    (between : Bytes) × Gives held answer between × Lead between calls left

-- all the bytes that were pushed
abbrev pub all_pushed : List Call → Bytes
all_pushed [] = []
all_pushed (pushed bytes ∷ calls) = bytes ++ all_pushed calls
all_pushed (asked_next answer ∷ calls) = all_pushed calls

-- all the items that were given
abbrev pub all_given : List Call → List definitions.Item
all_given [] = []
all_given (pushed bytes ∷ calls) = all_given calls
all_given (asked_next None ∷ calls) = all_given calls
all_given (asked_next (Some item) ∷ calls) = item ∷ all_given calls

-- These items stand first in a text, one behind the other, and this is left of it. One that ends all is
-- behind itself.
abbrev pub StandFirst : Bytes → List definitions.Item → Bytes → Type 0
StandFirst text [] left = left ≡ text
StandFirst text (item ∷ items) left =
    (used : ℕ) × IsItemAt text item used × StandFirst (left_behind item used text) items left

-- Whatever calls were made of a new feed: the items that it gave are the first of all that was pushed, in
-- whatever pieces, and it holds what they leave.
abbrev pub GivesWhatWasPushed : Type 0
GivesWhatWasPushed =
    (calls : List Call) (held : Bytes) → Lead [] calls held
    → StandFirst (all_pushed calls) (all_given calls) held

-- An item that ends all is given again and again, and what is held stays.
abbrev pub GivesTheEndAgain : Type 0
GivesTheEndAgain =
    (text : Bytes) (end : definitions.Item) (items : List definitions.Item) (left : Bytes)
    → goes_on end ≡ false → StandFirst text (end ∷ items) left
    → AllByRecursion (λ item. item ≡ end) items × (left ≡ text)
