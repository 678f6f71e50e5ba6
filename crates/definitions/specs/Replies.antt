-- The replies of memcached's text protocol, and the text of each (protocol.txt).
use Rattle.std.specs.Prelude.{ℕ, Bool, true, false, List, [], ◌∷◌, ◌++◌, length, decimal, codes}
use Rattle.std.specs.List.{join_with_byte, flat_map}
use Rattle.ids.specs.declared.line_fault.LineFault.{LineFault}
use Rattle.ids.specs.declared.line_fault.LineFault.TheVariants.{UnknownName, BadFields, TooLarge, BadChunk}
use Rattle.ids.specs.declared.line_fault.LineFault.TheVariants.{LineTooLong}
use Rattle.definitions.specs.Requests.{crlf, space}
use Rattle.definitions.specs.Bytes.{Bytes}

-- what get and gets tell of one key
pub record Value : Type 0 where
  pub key : Bytes
  pub flags : ℕ
  pub stored : Bytes
  pub cas_unique : ℕ

-- the replies (protocol.txt)
pub data Reply : Type 0 where
  stored : Reply
  not_stored : Reply
  exists : Reply
  not_found : Reply
  deleted : Reply
  number : ℕ → Reply
  values : List Value → (with_cas_unique : Bool) → Reply
  out_of_memory : Reply
  too_large : Reply
  non_numeric : Reply
  no_request : Reply

-- a line with its end
abbrev pub ended : Bytes → Bytes
ended text = text ++ crlf

-- the word and three or four fields of a value's line
abbrev pub value_fields : Value → Bool → List Bytes
value_fields v true =
    codes "VALUE" ∷ v.key ∷ decimal v.flags ∷ decimal (length v.stored) ∷ decimal v.cas_unique ∷ []
value_fields v false = codes "VALUE" ∷ v.key ∷ decimal v.flags ∷ decimal (length v.stored) ∷ []

-- a value: its line, and the data with CR LF behind it
abbrev pub value_text : Bool → Value → Bytes
value_text with_cas_unique v = ended (join_with_byte space (value_fields v with_cas_unique)) ++ ended v.stored

-- the text of a reply (protocol.txt)
abbrev pub reply_text : Reply → Bytes
reply_text stored = ended (codes "STORED")
reply_text not_stored = ended (codes "NOT_STORED")
reply_text exists = ended (codes "EXISTS")
reply_text not_found = ended (codes "NOT_FOUND")
reply_text deleted = ended (codes "DELETED")
reply_text (number n) = ended (decimal n)
reply_text (values vs with_cas_unique) = flat_map (value_text with_cas_unique) vs ++ ended (codes "END")
reply_text out_of_memory = ended (codes "SERVER_ERROR out of memory storing object")
reply_text too_large = ended (codes "SERVER_ERROR object too large for cache")
reply_text non_numeric = ended (codes "CLIENT_ERROR cannot increment or decrement non-numeric value")
reply_text no_request = ended (codes "ERROR")

-- what is answered to a line that is no request
abbrev pub fault_text : LineFault → Bytes
fault_text UnknownName = ended (codes "ERROR")
fault_text BadFields = ended (codes "CLIENT_ERROR bad command line format")
fault_text TooLarge = ended (codes "SERVER_ERROR object too large for cache")
fault_text BadChunk = ended (codes "CLIENT_ERROR bad data chunk")
fault_text LineTooLong = ended (codes "CLIENT_ERROR line too long")
