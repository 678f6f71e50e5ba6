-- What is written of a connection's bytes.
use Rattle.std.proofs.Common.{[], refl}
use Rattle.std.specs.Prelude.{Option}
use Rattle.std.proofs.KnownBytes.{Appends-nil}
use Rattle.definitions.specs.Bytes.{Bytes}
use Rattle.connection.specs.Devices.{WritesPart}
use Rattle.wires.specs.Writing.{WritesBeginning}

-- nothing was
pub nothing_written : (known : Option Bytes) (bytes : Bytes) → WritesBeginning known known bytes
nothing_written known bytes = record { written = []; unwritten = bytes; all = refl; wrote = Appends-nil known }

-- a part was
pub part_written : (old new : Option Bytes) (bytes : Bytes) → WritesPart old new bytes
    → WritesBeginning old new bytes
part_written old new bytes p =
    record { written = p.written; unwritten = p.unwritten; all = p.all; wrote = p.wrote }
