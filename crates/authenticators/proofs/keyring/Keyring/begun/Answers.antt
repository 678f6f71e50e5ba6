use Rattle.std.proofs.Common.{◌≡◌, ◌<◌, ◌+◌, ◌*◌, ◌∙◌, ℕ, arith}
use Rattle.ids.specs.Sizes.{replicas}
use Rattle.lanes.specs.Lanes.{state_lane}
use Rattle.definitions.specs.Keyrings.{keyring_of}
use Rattle.authenticators.specs.Keyed.{begun_for}
use Rattle.authenticators.proofs.Groups.{begun_lane, in_each}
use Rattle.authenticators.proofs.keyring.Keyring.begun.Goals as goal

pub returns : goal.returns
returns c =
    let ring = keyring_of c.args.self.now in
    let label = c.args.label in
    let content = c.args.content.now in
    let u = 4 * c.args.g in
    let first_one : u ≡ u + 0 = omega arith in
    let me = c.party-me.ensures in
    let states = c.in_lanes-states.ensures in
    let first = c.after_first.ensures in
    in_each (λ (j : ℕ). u + j < replicas c.args.self.now.sizes
    → state_lane c.after_first.result j ≡ begun_for ring label (u + j) content)
    (λ within. begun_lane ring label content (u + 0) _ _ _ _ _ _ _ (c.replica-a.ensures.within (omega arith) ∙ first_one) c.key.ensures c.states.ensures me c.head.ensures states.a first.a)
    (λ within. begun_lane ring label content (u + 1) _ _ _ _ _ _ _ (c.replica-b.ensures.within (omega arith)) c.key-2.ensures c.states-2.ensures me c.head-2.ensures states.b first.b)
    (λ within. begun_lane ring label content (u + 2) _ _ _ _ _ _ _ (c.replica-c.ensures.within (omega arith)) c.key-3.ensures c.states-3.ensures me c.head-3.ensures states.c first.c)
    (λ within. begun_lane ring label content (u + 3) _ _ _ _ _ _ _ (c.replica-d.ensures.within (omega arith)) c.key-4.ensures c.states-4.ensures me c.head-4.ensures states.d first.d)
