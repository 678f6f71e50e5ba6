use Rattle.std.proofs.Common.{◌≡◌, [], ◌∷◌, sym, true, false, rules}
use Rattle.std.proofs.lemmas.List.{append-nil}
use Rattle.key_file.specs.Holders.{has_pair}
use Rattle.key_file.proofs.Files.{nothing_read, pair_read, no_pair}
use Rattle.key_file.proofs.rows.read_pair.Goals as goal

pub returns-then-not-has_pair-clause-read : goal.returns-then-not-has_pair-clause-read
returns-then-not-has_pair-clause-read c =
    let out : has_pair c.args.holder.now (c.args.one, c.args.other) ≡ false = search rules in (
      [],
      sym (append-nil c.args.keys.now.items),
      nothing_read (has_pair c.args.holder.now) c.args.one c.args.other c.args.text.now out,
    )

pub returns-in_default-clause-bad : goal.returns-in_default-clause-bad
returns-in_default-clause-bad c = λ _.
    let kept : has_pair c.args.holder.now (c.args.one, c.args.other) ≡ true = search rules in
    no_pair (has_pair c.args.holder.now) c.args.one c.args.other c.args.text.now kept c.in_default.ensures

pub returns-clause-read : goal.returns-clause-read
returns-clause-read c =
    let kept : has_pair c.args.holder.now (c.args.one, c.args.other) ≡ true = search rules in (
      record { one = c.args.one; other = c.args.other; key = c.in-Some.line.0 } ∷ [],
      c.in_ok-push.ensures.items,
      pair_read (has_pair c.args.holder.now) c.args.one c.args.other c.args.text.now c.in-Some.line.1.now
          c.in-Some.line.0 kept c.in-Some.ensures,
    )
