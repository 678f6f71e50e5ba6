use Rattle.std.proofs.Common.{◌≡◌, option_map, subst}
use Rattle.definitions.specs.Cache.{Cache, find, last_use}
use Rattle.cache.specs.Tables.{item_of}
use Rattle.cache.proofs.Lookups.{lent}
use Rattle.cache.proofs.cache.Cache.get.Goals as goal

pub returns : goal.returns
returns c =
    let x = c.self.inside in
    subst (λ (k : Cache). option_map (λ e. item_of (last_use k c.args.key.now) e.now) c.peek.result
    ≡ find k c.args.key.now) c.self.view_is
    (lent x.uses.items x.entries.entries x.changes x.entries.cap c.args.key.now c.peek.result c.peek.ensures)
