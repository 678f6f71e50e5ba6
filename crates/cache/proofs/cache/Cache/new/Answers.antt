use Rattle.std.proofs.Common.{refl}
use Rattle.std.specs.NonZero.{non_zero_usize_get}
use Rattle.cache.proofs.Edits.{new-kept}
use Rattle.cache.proofs.cache.Cache.new.Goals as goal

pub invariant_of-result : goal.invariant_of-result
invariant_of-result c =
    new-kept c.new.result.items c.in_ok-entries.entries c.resize.new.self (non_zero_usize_get c.in_ok-room.room)
    c.args.most_keys _ (c.in_ok-room.ensures.only.0 refl) c.in_ok-room.ensures.made c.in_ok-entries.ensures
    c.resize.ensures
