-- What becomes of a share whose worker steps a replica.
use Rattle.std.specs.Prelude.{◌≡◌, ◌≤◌}
use Rattle.turns.specs.Shares.{ShareState}

-- the same share, by which steps may have been made since
abbrev pub HasGrown : ShareState → ShareState → Type 0
HasGrown old new = (new.replica ≡ old.replica) × (new.number ≡ old.number) × (old.count ≤ new.count)
