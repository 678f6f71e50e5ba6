-- What a connection is written, of the items that were served and of what the service answered to each
-- request.
use Rattle.std.specs.Prelude.{◌≡◌, ℕ, Bool, true, false, List, [], ◌∷◌, drop, MatchBool, codes, Option}
use Rattle.std.specs.Prelude.{Some, None}
use Rattle.std.specs.List.{flat_map}
use Rattle.ids.specs.declared.line_fault.LineFault.{LineFault}
use Rattle.ids.specs.declared.line_fault.LineFault.TheVariants.{UnknownName}
use Rattle.definitions.specs.Requests.{Asked}
use Rattle.definitions.specs.Items.{Item, asked, quit, bad, IsItemAt, IsUnfinished}
use Rattle.definitions.specs.Replies.{ended, fault_text}
use Rattle.definitions.specs.Bytes.{Bytes}

-- An item that was served. A request has the one answer that the service gave: a text, or that it refused.
pub data Exchange : Type 0 where
  answered : Asked → (noreply : Bool) → (answer : Option Bytes) → Exchange
  finished : Exchange
  told : LineFault → Exchange

-- the item
abbrev pub item_in : Exchange → Item
item_in (answered request noreply answer) = asked request noreply
item_in finished = quit
item_in (told fault) = bad fault

-- what is written for it: the answer unless the request has the word noreply, a refusal also then, a
-- fault's text
abbrev pub exchange_text : Exchange → Bytes
exchange_text (answered request noreply None) = ended (codes "SERVER_ERROR no reply")
exchange_text (answered request true (Some text)) = []
exchange_text (answered request false (Some text)) = text
exchange_text finished = []
exchange_text (told fault) = fault_text fault

-- what is written for all of them
abbrev pub server_text : List Exchange → Bytes
server_text exchanges = flat_map exchange_text exchanges

-- what stands behind it is served too; a refusal, quit, and each fault but that of an unknown name end the
-- connection
abbrev pub is_followed : Exchange → Bool
is_followed (answered request noreply None) = false
is_followed (answered request noreply (Some text)) = true
is_followed finished = false
is_followed (told UnknownName) = true
is_followed (told fault) = false

-- These exchanges serve a text: one for each of its items, in order, up to the one that ends the
-- connection, or to what is unfinished.
abbrev pub AreExchanges : Bytes → List Exchange → Type 0
AreExchanges text [] = IsUnfinished text
AreExchanges text (exchange ∷ exchanges) = (used : ℕ) × IsItemAt text (item_in exchange) used
    × MatchBool (is_followed exchange) (AreExchanges (drop used text) exchanges) (exchanges ≡ [])
