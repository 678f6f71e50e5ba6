use Rattle.std.proofs.Common.{◌∙◌, sym, subst, true≢false}
use Rattle.std.proofs.lemmas.Slice.Eq.{bytes_eq-Decides}
use Rattle.definitions.specs.Lists.{Among}
use Rattle.audit.proofs.Missing.{among-from, among-to}
use Rattle.audit.proofs.deeds.Deed.names.Goals as goal

pub returns-then-contains : goal.returns-then-contains
returns-then-contains c =
    let v = c.args.replica in
    let own = c.in-Some.named in (
      (λ t. record {
        among = subst (Among v) c.in-Some.ensures.0
            (among-from v own.replicas.now (sym c.contains.ensures.value ∙ c.if-contains.true));
        block = sym c.in-Some.ensures.1
            ∙ (bytes_eq-Decides own.block c.args.block.now).0 (sym c.eq.ensures ∙ t);
      }),
      (λ p. c.eq.ensures
          ∙ (bytes_eq-Decides own.block c.args.block.now).1 (c.in-Some.ensures.1 ∙ p.block)),
    )

pub returns-else-contains : goal.returns-else-contains
returns-else-contains c =
    let v = c.args.replica in
    let own = c.in-Some.named in (
      (λ t. absurd (true≢false (sym t ∙ c.if-contains.false))),
      (λ p. c.contains.ensures.value
          ∙ among-to v own.replicas.now (subst (Among v) (sym c.in-Some.ensures.0) p.among)),
    )
