use Rattle.std.proofs.Common.{◌-◌, ◌≡◌}
use Rattle.ids.specs.Sizes.{replicas}
use Rattle.key_file.specs.Holders.{has_pair}
use Rattle.key_file.proofs.Files.{row_read, no_front, no_back}
use Rattle.key_file.proofs.rows.read_row.Goals as goal

pub returns-in-Err-clause-bad : goal.returns-in-Err-clause-bad
returns-in-Err-clause-bad c = λ same.
    no_front (has_pair c.args.holder.now) c.args.config c.args.one c.args.text.now
    (rw (c.into-party.ensures, c.n.ensures.count, c.one.view_is) at (c.in-Err.ensures.bad same))

pub returns-in-Ok-clause-read : goal.returns-in-Ok-clause-read
returns-in-Ok-clause-read c =
    let m : c.n.result - c.one.inside.0 ≡ replicas c.args.config - c.args.one =
    rw (c.n.ensures.count, c.one.view_is) in
    row_read (has_pair c.args.holder.now) c.args.config c.args.one c.into-party.result c.into.result
    (c.n.result - c.one.inside.0) c.clients-clients.result c.args.text.now c.in-Ok.rest.now
    c.args.keys.now.items c.read_with.new.keys.items c.read_with-in-Ok.new.keys.items c.read_with-in-Ok.result
    c.into-party.ensures c.into.ensures m c.clients-clients.ensures c.in-Ok.ensures.read
    c.read_with-in-Ok.ensures.read

pub returns-in-Ok-clause-bad : goal.returns-in-Ok-clause-bad
returns-in-Ok-clause-bad c = λ same.
    let first = rw (c.into-party.ensures, c.n.ensures.count, c.one.view_is) at c.in-Ok.ensures.read.2 in
    no_back (has_pair c.args.holder.now) c.args.config c.args.one c.args.text.now c.in-Ok.rest.now
    c.in-Ok.ensures.read.0 first
    (rw (c.into-party.ensures, c.into.ensures, c.clients-clients.ensures) at
    (c.read_with-in-Ok.ensures.bad same))
