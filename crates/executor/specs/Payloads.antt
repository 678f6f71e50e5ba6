-- How executed commands are kept: a row of each, and their payloads one behind the other.
use Rattle.std.specs.Prelude.{◌≤◌, List, map, length, All, slice_range}
use Rattle.definitions.specs.Bytes.{Bytes}
use Rattle.definitions.specs.Histories.{Entry}
use Rattle.executor.specs.declared.entries.Row.{Row}

-- the entry of a row
abbrev pub entry_in : Bytes → Row → Entry
entry_in payloads row = record {
  client = row.client;
  seq = row.seq;
  payload = slice_range payloads row.start row.end;
}

-- the entries of these rows
abbrev pub entries_in : Bytes → List Row → List Entry
entries_in payloads rows = map (entry_in payloads) rows

-- the row's payload lies in these
abbrev pub LiesIn : Bytes → Row → Type 0
LiesIn payloads row = (row.start ≤ row.end) × (row.end ≤ length payloads)

-- each row's payload lies in these
abbrev pub AreRowsOf : Bytes → List Row → Type 0
AreRowsOf payloads rows = All (LiesIn payloads) rows
