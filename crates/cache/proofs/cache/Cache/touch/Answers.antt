use Rattle.std.proofs.Common.{ℕ, List, subst, ap, sym, ◌∙◌}
use Rattle.std.specs.Global.{Vec}
use Rattle.lru.specs.LruCache.{LruCache, promoted}
use Rattle.definitions.specs.Bytes.{Bytes}
use Rattle.definitions.specs.Cache.{Cache, used}
use Rattle.cache.specs.declared.entry.Entry.{Entry}
use Rattle.cache.specs.Tables.{cache_of, IsKept}
use Rattle.cache.proofs.Lookups.{is_at}
use Rattle.cache.proofs.Edits.{use-there, use-absent}
use Rattle.cache.proofs.cache.Cache.touch.Goals as goal

pub invariant_of-self : goal.invariant_of-self
invariant_of-self c =
    let x = c.self.inside in
    let q = c.args.key.now in
    let there = sym c.promote.ensures.value ∙ c.if-promote.true in
    subst (λ (l : LruCache (Vec ℕ) Entry). IsKept c.with-self-inside.result.items l.entries l.cap)
    (sym c.promote.ensures.entries)
    (subst (λ (us : List Bytes). IsKept us (promoted (is_at q) x.entries.entries) x.entries.cap)
    (sym c.with-self-inside.ensures)
    (use-there x.uses.items x.entries.entries x.changes x.entries.cap c.self.invariant q there).1)

pub invariant_of-self-else-promote : goal.invariant_of-self-else-promote
invariant_of-self-else-promote c =
    let x = c.self.inside in
    let q = c.args.key.now in
    let absent = sym c.promote.ensures.value ∙ c.if-promote.false in
    subst (λ (l : LruCache (Vec ℕ) Entry). IsKept x.uses.items l.entries l.cap)
    (sym (c.promote.ensures.entries
    ∙ ap (λ es. record x.entries { entries = es })
    (use-absent x.uses.items x.entries.entries x.changes x.entries.cap q absent).1))
    c.self.invariant

pub returns-then-promote : goal.returns-then-promote
returns-then-promote c =
    let x = c.self.inside in
    let q = c.args.key.now in
    let there = sym c.promote.ensures.value ∙ c.if-promote.true in
    ap (λ (l : LruCache (Vec ℕ) Entry). cache_of c.with-self-inside.result.items l.entries x.changes l.cap)
    c.promote.ensures.entries
    ∙ ap (λ (us : List Bytes). cache_of us (promoted (is_at q) x.entries.entries) x.changes x.entries.cap)
    c.with-self-inside.ensures
    ∙ (use-there x.uses.items x.entries.entries x.changes x.entries.cap c.self.invariant q there).0
    ∙ ap (λ (k : Cache). used k q) c.self.view_is

pub returns-else-promote : goal.returns-else-promote
returns-else-promote c =
    let x = c.self.inside in
    let q = c.args.key.now in
    let absent = sym c.promote.ensures.value ∙ c.if-promote.false in
    ap (λ (l : LruCache (Vec ℕ) Entry). cache_of x.uses.items l.entries x.changes l.cap)
    c.promote.ensures.entries
    ∙ (use-absent x.uses.items x.entries.entries x.changes x.entries.cap q absent).0
    ∙ ap (λ (k : Cache). used k q) c.self.view_is
