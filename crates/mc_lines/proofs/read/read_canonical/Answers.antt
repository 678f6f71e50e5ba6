use Rattle.std.proofs.Common.{Bool, false, subst}
use Rattle.mc_lines.specs.Meaning.{asked_of}
use Rattle.definitions.specs.Items.{asked, IsItemAt}
use Rattle.mc_lines.proofs.ReadLaws.{whole_is, not_canonical}
use Rattle.mc_lines.proofs.read.read_canonical.Goals as goal

pub returns-in_default : goal.returns-in_default
returns-in_default c =
    record {
      value = not_canonical c.args.bytes.now c.read_request.result c.read_request.ensures.value
          (λ request e. c.in_default.not-Whole request _ false e);
      lent = tt;
    }

pub returns-then-noreply-clause-value : goal.returns-then-noreply-clause-value
returns-then-noreply-clause-value c =
    not_canonical c.args.bytes.now c.read_request.result c.read_request.ensures.value
    (λ request e. let is = c.in-Whole.is in let has = c.if-noreply.true in cc)

pub returns-then-used-bytes-clause-value : goal.returns-then-used-bytes-clause-value
returns-then-used-bytes-clause-value c =
    whole_is c.args.bytes.now (asked_of c.in-Whole.request) c.in-Whole.used
    (subst (λ (q : Bool). IsItemAt c.args.bytes.now (asked (asked_of c.in-Whole.request) q) c.in-Whole.used)
    c.if-noreply.false c.in-Whole.ensures.value) c.if-used-bytes.true

pub returns-else-used-bytes-clause-value : goal.returns-else-used-bytes-clause-value
returns-else-used-bytes-clause-value c =
    not_canonical c.args.bytes.now c.read_request.result c.read_request.ensures.value
    (λ request e. let is = c.in-Whole.is in c.if-used-bytes.false (cc))
