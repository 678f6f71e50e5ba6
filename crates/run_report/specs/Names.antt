-- How parties are named in a text.
use Rattle.std.specs.Prelude.{ℕ, ◌++◌, codes, decimal}
use Rattle.definitions.specs.Bytes.{Bytes}

-- a replica and a client, by number
abbrev pub replica_text : ℕ → Bytes
replica_text replica = codes "r" ++ decimal replica

abbrev pub client_text : ℕ → Bytes
client_text client = codes "c" ++ decimal client
