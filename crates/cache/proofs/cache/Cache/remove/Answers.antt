use Rattle.std.proofs.Common.{ℕ, subst, ap, sym, ◌∙◌}
use Rattle.std.specs.Global.{Vec}
use Rattle.std.specs.FinMap as map
use Rattle.lru.specs.LruCache.{LruCache}
use Rattle.definitions.specs.Cache.{Cache}
use Rattle.cache.specs.declared.entry.Entry.{Entry}
use Rattle.cache.specs.Tables.{cache_of, IsKept}
use Rattle.cache.proofs.Edits.{remove-kept, remove-table}
use Rattle.cache.proofs.cache.Cache.remove.Goals as goal

pub invariant_of-self : goal.invariant_of-self
invariant_of-self c =
    let x = c.self.inside in
    subst (λ (l : LruCache (Vec ℕ) Entry). IsKept x.uses.items l.entries l.cap) (sym c.pop-entry.ensures.entries)
    (remove-kept x.uses.items x.entries.entries x.changes x.entries.cap c.self.invariant c.args.key.now)

pub returns : goal.returns
returns c =
    let x = c.self.inside in
    ap (λ (l : LruCache (Vec ℕ) Entry). cache_of x.uses.items l.entries x.changes l.cap) c.pop-entry.ensures.entries
    ∙ remove-table x.uses.items x.entries.entries x.changes x.entries.cap c.self.invariant c.args.key.now
    ∙ ap (λ (k : Cache). record k { entries = map.remove k.entries c.args.key.now }) c.self.view_is
