-- When a replica has something to propose.
use Rattle.std.specs.Prelude.{Bool, ◌==◌, ◌&&◌, ◌||◌, not, length, nat_lt}
use Rattle.std.specs.Str.{bytes_eq}
use Rattle.ids.specs.Sizes.{leader}
use Rattle.definitions.specs.Chronicles.{vheight}
use Rattle.definitions.specs.Checks.{identity_of}
use Rattle.definitions.specs.Digests.{digest_of}
use Rattle.definitions.specs.Replicas.{held_pending}
use Rattle.definitions.specs.States.{view, leaf, qc_high}
use Rattle.replica.specs.Steps.{Held}

-- it leads its view, and a request waits
abbrev pub wants_beat : Held → Bool
wants_beat r =
    (leader r.keys.sizes (view r.keys.sizes r.replica.chronicle) == r.keys.party)
    && not (length (held_pending r.replica) == 0)

-- the block that its next one stands on is the one of its highest certificate: nothing that it proposed
-- waits for votes
abbrev pub leaf_is_certified : Held → Bool
leaf_is_certified r = bytes_eq (digest_of (leaf (identity_of r.keys) r.replica.chronicle))
    (digest_of (qc_high r.keys.sizes r.replica.chronicle).block)

-- a block on its own one would not be higher than all that it voted for, so it would get no vote of its own
abbrev pub leaf_is_low : Held → Bool
leaf_is_low r = nat_lt (length (leaf (identity_of r.keys) r.replica.chronicle)) (vheight r.replica.chronicle)

-- it has something to propose, and nothing to wait for
abbrev pub wants_beat_now : Held → Bool
wants_beat_now r = wants_beat r && (leaf_is_certified r || leaf_is_low r)
