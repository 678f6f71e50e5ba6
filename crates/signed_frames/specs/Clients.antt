-- Who the client of a keyring is.
use Rattle.definitions.specs.Keyrings.{Keys, client_at, keyring_of}
use Rattle.definitions.specs.Sessions.{Client}

-- the client whose keys these are
abbrev pub client_of : Keys → Client
client_of keys = record { sizes = keys.sizes; number = client_at keys.party; ring = keyring_of keys }
