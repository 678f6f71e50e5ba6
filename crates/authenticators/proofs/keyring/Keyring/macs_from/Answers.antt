use Rattle.std.proofs.Common.{◌++◌, [], refl, arith}
use Rattle.definitions.specs.Tags.{tag_text}
use Rattle.definitions.specs.Keyrings.{keyring_of}
use Rattle.authenticators.specs.Keyed.{after_key}
use Rattle.authenticators.proofs.Groups.{begun_from, finished_lane}
use Rattle.authenticators.proofs.keyring.Keyring.macs_from.Goals as goal

pub returns-clause-a : goal.returns-clause-a
returns-clause-a c =
    let ring = keyring_of c.args.self.now in
    let u = c.args.a in
    let content = c.args.content.now in
    let head = tag_text c.args.label u ring.party [] in
    let begun = begun_from ring c.args.label content u _ _ _ _ _ _ c.key.ensures c.states-of_a.ensures
    c.party-me.ensures c.head.ensures c.in_lanes-inner.ensures.a c.after_first-first.ensures.a in
    let inner = c.after_rests.ensures.each 0 0 (after_key 0x36 (ring.key u)) head (omega arith) (omega arith)
    refl begun in
    finished_lane ring (head ++ content) u u _ _ _ _ _ refl c.key.ensures c.states-of_a.ensures
    c.in_lanes-outer.ensures.a inner (c.after_digests.ensures 0 (omega arith))

pub returns-clause-b : goal.returns-clause-b
returns-clause-b c =
    let ring = keyring_of c.args.self.now in
    let u = c.args.b in
    let content = c.args.content.now in
    let head = tag_text c.args.label u ring.party [] in
    let begun = begun_from ring c.args.label content u _ _ _ _ _ _ c.key-2.ensures c.states-of_b.ensures
    c.party-me.ensures c.head-2.ensures c.in_lanes-inner.ensures.b c.after_first-first.ensures.b in
    let inner = c.after_rests.ensures.each 0 1 (after_key 0x36 (ring.key u)) head (omega arith) (omega arith)
    refl begun in
    finished_lane ring (head ++ content) u u _ _ _ _ _ refl c.key-2.ensures c.states-of_b.ensures
    c.in_lanes-outer.ensures.b inner (c.after_digests.ensures 1 (omega arith))

pub returns-clause-c : goal.returns-clause-c
returns-clause-c c =
    let ring = keyring_of c.args.self.now in
    let u = c.args.c in
    let content = c.args.content.now in
    let head = tag_text c.args.label u ring.party [] in
    let begun = begun_from ring c.args.label content u _ _ _ _ _ _ c.key-3.ensures c.states-of_c.ensures
    c.party-me.ensures c.head-3.ensures c.in_lanes-inner.ensures.c c.after_first-first.ensures.c in
    let inner = c.after_rests.ensures.each 0 2 (after_key 0x36 (ring.key u)) head (omega arith) (omega arith)
    refl begun in
    finished_lane ring (head ++ content) u u _ _ _ _ _ refl c.key-3.ensures c.states-of_c.ensures
    c.in_lanes-outer.ensures.c inner (c.after_digests.ensures 2 (omega arith))

pub returns-clause-d : goal.returns-clause-d
returns-clause-d c =
    let ring = keyring_of c.args.self.now in
    let u = c.args.d in
    let content = c.args.content.now in
    let head = tag_text c.args.label u ring.party [] in
    let begun = begun_from ring c.args.label content u _ _ _ _ _ _ c.key-4.ensures c.states-of_d.ensures
    c.party-me.ensures c.head-4.ensures c.in_lanes-inner.ensures.d c.after_first-first.ensures.d in
    let inner = c.after_rests.ensures.each 0 3 (after_key 0x36 (ring.key u)) head (omega arith) (omega arith)
    refl begun in
    finished_lane ring (head ++ content) u u _ _ _ _ _ refl c.key-4.ensures c.states-of_d.ensures
    c.in_lanes-outer.ensures.d inner (c.after_digests.ensures 3 (omega arith))
