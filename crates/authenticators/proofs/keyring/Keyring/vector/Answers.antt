use Rattle.std.proofs.Common.{◌/◌, ◌%◌, ℕ, ap, ◌∙◌, arith}
use Rattle.std.proofs.lemmas.Grind.{common_steps}
use Rattle.ids.specs.Sizes.{replicas}
use Rattle.sha2.specs.Sha256.{digest_bytes}
use Rattle.lanes.specs.Lanes.{group_lane}
use Rattle.definitions.specs.Keyrings.{keyring_of, tag_for}
use Rattle.definitions.proofs.Vectors.{IsVector-vector_for}
use Rattle.authenticators.proofs.keyring.Keyring.vector.Goals as goal

pub returns-in_err-reserve : goal.returns-in_err-reserve
returns-in_err-reserve c =
    let keys = c.args.self.now in
    grind (
      arith,
      common_steps,
      IsVector-vector_for keys.sizes (keyring_of keys) c.args.label c.args.content.now,
    )

pub remember_own-requires-clause-right : goal.remember_own-requires-clause-right
unfolding tag_for
remember_own-requires-clause-right c =
    let count = c.n-n.ensures.count ∙ ap replicas c.config.ensures in
    let mac = λ (p : ℕ). digest_bytes (group_lane c.make_macs.new.groups (p / 4) (p % 4)) 8 in
    rw (c.head.ensures, c.party.ensures, c.from-in-loop-u.ensures)
    (c.digest_of-tag.ensures ∙ ap mac c.from-place.ensures ∙ c.make_macs.ensures c.loop-u.u (omega arith))
