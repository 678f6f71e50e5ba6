use Rattle.std.proofs.Common.{◌≡◌, ◌∙◌, ◌+◌, ◌++◌, ◌∷◌, [], ℕ, suc, List, map, take, ap, sym, arith}
use Rattle.std.proofs.Math.Seq.{take-suc}
use Rattle.std.proofs.lemmas.List.{append-nil, map-append, take_all}
use Rattle.std.specs.List.{flat_map}
use Rattle.definitions.specs.Bytes.{Bytes}
use Rattle.definitions.specs.Frames.{Command, command_bytes}
use Rattle.replica.proofs.Walking.{bytes-next}
use Rattle.replica.proofs.pick.bytes_of.Goals as goal

pub loop-request-init : goal.loop-request-init
loop-request-init c = c.new-bytes.ensures.items

pub loop-request-preserved : goal.loop-request-preserved
loop-request-preserved c =
    let xs = c.args.requests.now in
    let i = c.loop-request.request-index in
    let r = c.request-item.result in
    let k : Command = r.now in
    let done : List Command = map (λ x. x.now) (take i xs) in
    let more : map (λ x. x.now) (take (i + 1) xs) ≡ done ++ k ∷ [] =
    ap (map (λ x. x.now)) (ap (λ (n : ℕ). take n xs) (let e : i + 1 ≡ suc i = omega arith in e)
    ∙ take-suc xs i r c.loop-request-test.true ∙ ap (λ x. take i xs ++ x ∷ []) (sym c.request-item.is))
    ∙ map-append (λ x. x.now) (take i xs) (r ∷ []) in
    c.in_ok-append.ensures.appended
    ∙ ap (λ (l : Bytes). c.loop-request.bytes.items ++ l)
    (append-nil c.bytes.result.now ∙ c.bytes.ensures)
    ∙ ap (λ (l : Bytes). l ++ command_bytes k) c.loop-request.invariant ∙ sym (bytes-next done k)
    ∙ ap (flat_map command_bytes) (sym more)

pub returns-clause-joined : goal.returns-clause-joined
returns-clause-joined c =
    c.loop-request.invariant
    ∙ ap (λ l. flat_map command_bytes (map (λ x. x.now) l))
    (take_all c.loop-request.request-index c.args.requests.now c.loop-request-test.false)
