use Rattle.std.proofs.Common.{◌≡◌, ◌<◌, ◌+◌, ◌*◌, ◌/◌, ◌%◌, ◌++◌, ℕ, List, [], refl, ap, ◌∙◌, arith}
use Rattle.std.proofs.lemmas.List.{get_or_append_left, length-take-le}
use Rattle.ids.specs.Sizes.{replicas}
use Rattle.sha2.specs.Sha256.{digest_bytes}
use Rattle.lanes.specs.Lanes.{state_lane}
use Rattle.definitions.specs.Tags.{tag_text}
use Rattle.definitions.specs.Keyrings.{keyring_of, tag_for}
use Rattle.authenticators.specs.Keyed.{after_key}
use Rattle.authenticators.proofs.keyring.Keyring.make_macs.Goals as goal

pub returns : goal.returns
unfolding tag_for
returns c = λ u low.
    let ring = keyring_of c.args.self.now in
    let head = λ (v : ℕ). tag_text c.args.label ring.party v [] in
    let content = c.args.content.now in
    let g : ℕ = u / 4 in
    let j : ℕ = u % 4 in
    let lt : j < 4 = omega arith in
    let v : ℕ = 4 * g + j in
    let same : v ≡ u = omega arith in
    let count = c.n.ensures.count ∙ ap replicas c.config.ensures in
    let taken = length-take-le c.div_ceil-used.result c.args.groups.now (omega (arith, c.told-groups)) in
    let begun = c.begin.ensures.lanes g j (omega (arith, taken)) lt (omega arith) in
    let inner = c.after_rests.ensures.each g j (after_key 0x36 (ring.key v)) (head v) (omega arith) lt refl begun in
    let done = c.finish.ensures.macs g j (head v ++ content) (omega arith) lt (omega arith) inner in
    let mac = λ (group : List (List ℕ)). digest_bytes (state_lane group j) 8 in
    ap mac (get_or_append_left c.finish.new.groups _ [] g (omega arith)) ∙ done ∙ ap (λ (x : ℕ). tag_for ring c.args.label x content) same
