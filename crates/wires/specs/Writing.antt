-- What is written to a connection.
use Rattle.std.specs.Prelude.{◌≡◌, ◌++◌, Option}
use Rattle.std.specs.Io.KnownBytes.{Appends}
use Rattle.definitions.specs.Bytes.{Bytes}

-- a beginning of the bytes was written
pub record WritesBeginning (old new : Option Bytes) (bytes : Bytes) : Type 0 where
  pub written : Bytes
  pub unwritten : Bytes
  pub all : bytes ≡ written ++ unwritten
  pub wrote : Appends old new written
