use Rattle.std.proofs.Common.{rules, ℕ, List, length, sym, ap, ◌∙◌, arith}
use Rattle.std.specs.List.{flat_map}
use Rattle.definitions.specs.Frames.{Vote, Certificate, vote_bytes}
use Rattle.frames_view.specs.Readings.{elements}
use Rattle.frames_view.specs.Parts.{vote_in}
use Rattle.frames_view.proofs.Parts.{AreFew}
use Rattle.frames_view.proofs.Spelled.{votes_again}
use Rattle.frames_view.proofs.certificate_buf.CertificateBuf.of_votes.Goals as goal

pub invariant_of-result : goal.invariant_of-result
invariant_of-result c =
    let few : AreFew c.args.config.now = (
      omega (arith, c.n-replicas.ensures.count, c.n-replicas.type_inv),
      omega (arith, c.clients-clients.ensures, c.clients-clients.type_inv),
    ) in
    let again =
    ap (λ (n : ℕ). elements (vote_in n) c.args.count c.args.votes.items) c.n-replicas.ensures.count
    ∙ votes_again c.args.config.now few c.args.count c.args.votes.items c.requires.0 c.requires.1 in
    (search rules, ap length again ∙ c.requires.1.1, c.requires.1.2 ∙ ap (flat_map vote_bytes) (sym again))

pub returns : goal.returns
returns c vs h =
    let few : AreFew c.args.config.now = (
      omega (arith, c.n-replicas.ensures.count, c.n-replicas.type_inv),
      omega (arith, c.clients-clients.ensures, c.clients-clients.type_inv),
    ) in
    let again =
    ap (λ (n : ℕ). elements (vote_in n) c.args.count c.args.votes.items) c.n-replicas.ensures.count
    ∙ votes_again c.args.config.now few c.args.count c.args.votes.items vs h in
    let make : List Vote → Certificate = λ l. record { digest = c.args.digest; votes = l } in
    ap make again
