use Rattle.std.proofs.Common.{◌≡◌, ◌∙◌, [], ap, sym, map}
use Rattle.std.specs.Borrow.{Bor}
use Rattle.std.proofs.lemmas.Result.{err_from_is_err_and}
use Rattle.definitions.specs.Bytes.{Bytes}
use Rattle.ids.specs.Sizes.{Sizes}
use Rattle.deployment.specs.Deployments.{replicas_text, fronts_text}
use Rattle.deployment.proofs.Only.{same_sizes, same_replicas}
use Rattle.deployment.proofs.deployment.Deployment.read.Goals as goal

pub returns-in-Err-clause-bad : goal.returns-in-Err-clause-bad
returns-in-Err-clause-bad c = λ line same d are e.
    c.in-Err.ensures.bad d.sizes (replicas_text 0 d.addresses (fronts_text 0 d.fronts [])) are.0 e

pub returns-in_err-rest-clause-bad : goal.returns-in_err-rest-clause-bad
returns-in_err-rest-clause-bad c = λ line same d are e.
    let sizes = same_sizes c.in-Ok.sizes.0 d.sizes c.in-Ok.sizes.1.now
    (replicas_text 0 d.addresses (fronts_text 0 d.fronts [])) c.holds.ensures are.0
    (sym c.in-Ok.ensures.read ∙ e) in
    let gave = err_from_is_err_and c.from_residual.result c.from_residual.ensures.1 in
    c.in_err-rest.ensures.bad line (cc (gave.1, gave.2, same)) d.addresses (fronts_text 0 d.fronts [])
    (rw sizes.0 are.1) sizes.1

pub returns-in_err-fronts-clause-bad : goal.returns-in_err-fronts-clause-bad
returns-in_err-fronts-clause-bad c = λ line same d are e.
    let sizes = same_sizes c.in-Ok.sizes.0 d.sizes c.in-Ok.sizes.1.now
    (replicas_text 0 d.addresses (fronts_text 0 d.fronts [])) c.holds.ensures are.0
    (sym c.in-Ok.ensures.read ∙ e) in
    let gave =
    err_from_is_err_and c.from_residual-in_err-fronts.result c.from_residual-in_err-fronts.ensures.1 in
    let addresses = c.in_ok-rest.ensures.count in
    let own = rw sizes.0 at addresses in
    let rest = same_replicas 0 (map (λ (a : Bor Bytes). a.now) c.read_replicas.new.addresses.items) d.addresses
    c.in_ok-rest.rest.now (fronts_text 0 d.fronts []) (own.0 ∙ sym are.1.0) own.1 are.1.1
    (sym c.in_ok-rest.ensures.text ∙ sizes.1) in
    c.in_err-fronts.ensures.bad line (cc (gave.1, gave.2, same)) d.fronts (rw sizes.0 are.2) rest.1
