use Rattle.std.proofs.Common.{◌+◌, ◌-◌, length, take, drop, refl, arith}
use Rattle.mc_lines.specs.Heads.{head_of, head_key, head_place}
use Rattle.definitions.proofs.Slices.{LiesAt-front, LiesAt-back}
use Rattle.mc_lines.proofs.ReadLaws.{read_line_of, unknown_is, fields_are, unfinished_is, first_at}
use Rattle.mc_lines.proofs.ReadLaws.{first_in, length_at, used_of-within}
use Rattle.mc_lines.proofs.read.read_request.Goals as goal

pub returns-then-bytes-lt-MOST_LINE-clause-value :
    goal.returns-then-bytes-lt-MOST_LINE-clause-value
returns-then-bytes-lt-MOST_LINE-clause-value c =
    unfinished_is c.args.bytes.now (omega arith) c.in_default.ensures.none

pub returns-in-Request-clause-value : goal.returns-in-Request-clause-value
returns-in-Request-clause-value c =
    read_line_of c.args.bytes.now (take c.in-Some.end c.args.bytes.now)
    (take (length c.args.bytes.now - (c.in-Some.end + 2)) (drop (c.in-Some.end + 2) c.args.bytes.now))
    (c.in-Some.end + 2)
    (head_of c.in-Request.head) c.in-Request.noreply c.with_data.result
    (first_in c.args.bytes.now c.in-Some.end c.in-Some.ensures.found) c.in-Request.ensures.value
    (length_at c.args.bytes.now c.in-Some.end c.in-Some.ensures.found) c.with_data.ensures.value

pub returns-in-Request-clause-within : goal.returns-in-Request-clause-within
returns-in-Request-clause-within c =
    used_of-within c.args.bytes.now c.with_data.result (returns-in-Request-clause-value c)

pub returns-in-Request-clause-lent : goal.returns-in-Request-clause-lent
returns-in-Request-clause-lent c =
    c.with_data.ensures.lent c.args.bytes (
      LiesAt-front c.args.bytes.now (head_key c.in-Request.head).now c.in-Some.end
          (head_place c.in-Request.head) c.in-Request.ensures.lent.0,
      c.in-Request.ensures.lent.1,
      c.in-Request.ensures.lent.2,
    )
    (LiesAt-back c.args.bytes.now (c.in-Some.end + 2), refl, omega arith)

pub returns-in-UnknownName-clause-value : goal.returns-in-UnknownName-clause-value
returns-in-UnknownName-clause-value c =
    unknown_is c.args.bytes.now (take c.in-Some.end c.args.bytes.now)
    (drop (c.in-Some.end + 2) c.args.bytes.now) (c.in-Some.end + 2)
    (first_at c.args.bytes.now c.in-Some.end c.in-Some.ensures.found) c.in-UnknownName.ensures.value
    (length_at c.args.bytes.now c.in-Some.end c.in-Some.ensures.found)

pub returns-in-BadFields-clause-value : goal.returns-in-BadFields-clause-value
returns-in-BadFields-clause-value c =
    fields_are c.args.bytes.now (take c.in-Some.end c.args.bytes.now)
    (drop (c.in-Some.end + 2) c.args.bytes.now)
    (first_at c.args.bytes.now c.in-Some.end c.in-Some.ensures.found) c.in-BadFields.ensures.value
