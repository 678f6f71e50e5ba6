use Rattle.std.proofs.Common.{ap, ◌∙◌}
use Rattle.std.proofs.lemmas.Bool.{ne_eqb}
use Rattle.definitions.specs.Cache.{Cache, change, most_changes}
use Rattle.mc_lines.specs.Meaning.{reply_of}
use Rattle.cache.proofs.Edits.{changed}
use Rattle.cache.proofs.cache.Cache.change.Goals as goal

pub invariant_of-self-2 : goal.invariant_of-self-2
invariant_of-self-2 c =
    let x = c.self.inside in
    (changed x.uses.items x.entries.entries x.changes x.entries.cap c.self.invariant c.in_ok-from_slice.field-0
    c.args.flags c.args.stored c.args.key.now (reply_of c.args.told) c.in_ok-from_slice.ensures.items
    (ne_eqb x.changes most_changes c.if-self.false) c.put.new.self c.with-self-inside.result.items c.in_ok-put.ensures.entries
    c.with-self-inside.ensures).1

pub returns-clause-left : goal.returns-clause-left
returns-clause-left c =
    let x = c.self.inside in
    (changed x.uses.items x.entries.entries x.changes x.entries.cap c.self.invariant c.in_ok-from_slice.field-0
    c.args.flags c.args.stored c.args.key.now (reply_of c.args.told) c.in_ok-from_slice.ensures.items
    (ne_eqb x.changes most_changes c.if-self.false) c.put.new.self c.with-self-inside.result.items c.in_ok-put.ensures.entries
    c.with-self-inside.ensures).0
    ∙ ap (λ (k : Cache). (change k c.args.key.now c.args.flags c.args.stored.items (reply_of c.args.told)).0)
    c.self.view_is
