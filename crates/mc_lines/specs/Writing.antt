-- The texts that are written.
use Rattle.std.specs.Prelude.{ℕ, Bool, List, [], ◌∷◌, ◌++◌, length, decimal, codes}
use Rattle.std.specs.List.{flat_map, join_with_byte}
use Rattle.definitions.specs.Bytes.{Bytes}
use Rattle.definitions.specs.Requests.{space, crlf}
use Rattle.definitions.specs.Replies.{value_text}
use Rattle.mc_lines.specs.declared.reply.Value.{Value}
use Rattle.mc_lines.specs.Meaning.{value_of}

-- the canonical text of a storage command of this name
abbrev pub store_text : Bytes → Bytes → ℕ → Bytes → Bytes
store_text name key flags stored =
    join_with_byte space (name ∷ key ∷ decimal flags ∷ codes "0" ∷ decimal (length stored) ∷ []) ++ crlf
    ++ (stored ++ crlf)

-- the texts of values, one after the other
abbrev pub values_text : Bool → List Value → Bytes
values_text with_cas_unique values = flat_map (λ v. value_text with_cas_unique (value_of v)) values
