use Rattle.std.proofs.Common.{◌↔◌, IsTrue, rules, tests}
use Rattle.std.specs.List.{All, zip}
use Rattle.std.proofs.lemmas.Iterator.{cases_from_all, YieldsList-from_zip}
use Rattle.std.proofs.lemmas.Iterator.Consumers.{YieldsList-at, YieldsList-from_first}
use Rattle.audit.proofs.Lists.{AreSame, each-exactly}
use Rattle.audit.proofs.Agreeing.{Agree-from_pairs, pairs-from_Agree}
use Rattle.audit.proofs.histories.agree.Goals as goal

pub returns : goal.returns
returns c =
    let a = c.args.a.now in
    let b = c.args.b.now in
    let pairs : IsTrue c.all.result ↔ All AreSame (zip a b) =
    each-exactly AreSame (zip a b) c.all.result
    (cases_from_all _ _ _ AreSame (λ p. AreSame p → ⊥) c.all.ensures.ran
    (YieldsList-from_zip
    (YieldsList-at c.zip.ensures.first (YieldsList-from_first (λ x. x) (λ left. left) a c.iter.ensures))
    (YieldsList-at c.zip.ensures.second (YieldsList-from_first (λ x. x) (λ left. left) b c.iter-2.ensures)))
    (λ x q k. search (rules, tests)) (λ x q k. search (rules, tests))) in
    (λ h. Agree-from_pairs a b (pairs.0 h), λ h. pairs.1 (pairs-from_Agree a b h))
