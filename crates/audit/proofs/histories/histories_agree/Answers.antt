use Rattle.std.proofs.Common.{◌↔◌, IsTrue, rules}
use Rattle.std.specs.List.{All}
use Rattle.audit.proofs.Agreeing.{AgreeWith, HistoriesAgree-from_each, each-from_HistoriesAgree}
use Rattle.audit.proofs.histories.histories_agree.Goals as goal

pub returns : goal.returns
returns c =
    let rs = c.args.replicas.now in
    let each : IsTrue c.all.result ↔ All (λ r. All (AgreeWith r) rs) rs = search rules in
    (λ h. HistoriesAgree-from_each rs (each.0 h), λ h. each.1 (each-from_HistoriesAgree rs h))
