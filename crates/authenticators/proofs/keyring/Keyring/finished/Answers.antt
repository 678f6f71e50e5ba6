use Rattle.std.proofs.Common.{◌≡◌, ◌<◌, ◌+◌, ◌*◌, ◌∙◌, ℕ, arith}
use Rattle.ids.specs.Sizes.{replicas}
use Rattle.sha2.specs.Sha256.{digest_bytes}
use Rattle.lanes.specs.Lanes.{state_lane}
use Rattle.lanes.specs.Texts.{after_text}
use Rattle.definitions.specs.Tags.{hmac}
use Rattle.definitions.specs.Keyrings.{keyring_of}
use Rattle.authenticators.specs.Keyed.{after_key}
use Rattle.authenticators.proofs.Groups.{finished_lane, in_each}
use Rattle.authenticators.proofs.keyring.Keyring.finished.Goals as goal

pub returns : goal.returns
returns c = λ j text lt within held.
    let ring = keyring_of c.args.self.now in
    let u = 4 * c.args.g in
    let inner = c.args.inner.now in
    let first_one : u ≡ u + 0 = omega arith in
    let states = c.in_lanes-outer.ensures in
    let done = c.after_digests.ensures in
    in_each (λ (j : ℕ). u + j < replicas c.args.self.now.sizes → state_lane inner j ≡ after_text (after_key 0x36 (ring.key (u + j))) text
    → digest_bytes (state_lane c.after_digests.result j) 8 ≡ hmac (ring.key (u + j)) text)
    (λ within held. finished_lane ring text (u + 0) _ _ _ _ _ _ (c.replica.ensures.within (omega arith) ∙ first_one) c.key.ensures c.states.ensures states.a held (done 0 (omega arith)))
    (λ within held. finished_lane ring text (u + 1) _ _ _ _ _ _ (c.replica-2.ensures.within (omega arith)) c.key-2.ensures c.states-2.ensures states.b held (done 1 (omega arith)))
    (λ within held. finished_lane ring text (u + 2) _ _ _ _ _ _ (c.replica-3.ensures.within (omega arith)) c.key-3.ensures c.states-3.ensures states.c held (done 2 (omega arith)))
    (λ within held. finished_lane ring text (u + 3) _ _ _ _ _ _ (c.replica-4.ensures.within (omega arith)) c.key-4.ensures c.states-4.ensures states.d held (done 3 (omega arith)))
    j lt within held
