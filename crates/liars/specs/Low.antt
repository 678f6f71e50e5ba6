-- Proposals that justify a low block, by certificates that were sent before.
use Rattle.std.specs.Prelude.{◌≡◌, ℕ, ◌+◌, ◌-◌, ◌*◌, ◌/◌, ◌%◌, ◌==◌, List, [], ◌∷◌, ◌++◌, length, drop, nat_lt}
use Rattle.std.specs.Prelude.{Option, None, Some, option_map, unwrap_or, if◌then◌else◌}
use Rattle.ids.specs.declared.kind.Kind.TheVariants as kind
use Rattle.ids.specs.Numbers.{kind_number}
use Rattle.definitions.specs.Bytes.{Bytes}
use Rattle.definitions.specs.Digests.{digest}
use Rattle.definitions.specs.Keyrings.{Keys, keyring_of, vector_for}
use Rattle.definitions.specs.Frames.{Certificate, Core, Frame, proposal, vote, core_bytes, certificate_bytes}
use Rattle.definitions.specs.Frames.{proposal_text, frame_text, spelling}
use Rattle.definitions.specs.FrameLimits.{IsReadAs}
use Rattle.definitions.specs.Sendings.{to_all}
use Rattle.signed_frames.specs.Outs.{SentBytes}
use Rattle.liars.specs.declared.low.TheConstants.{MOST_KEPT, LOW_EACH, LOW_LEAST, LOW_SPREAD, LOW_STEP}
use Rattle.liars.specs.Told.{Told, as_it_is}

-- a certificate that was sent: the height of its block, and its bytes
abbrev pub Kept : Type 0
Kept = ℕ × Bytes

-- with one more, and where they are too many, without the oldest
abbrev pub keeping : List Kept → Kept → List Kept
keeping kept one =
    let all = kept ++ one ∷ [] in
    if nat_lt MOST_KEPT (length all) then drop 1 all else all

-- the oldest that is kept for a block of this height
abbrev pub certificate_at : ℕ → List Kept → Option Bytes
certificate_at height [] = None
certificate_at height (one ∷ others) = if one.0 == height then Some one.1 else certificate_at height others

-- how low the block is that is justified in place of a block's own
abbrev pub low_height : ℕ → ℕ
low_height height = height - (LOW_LEAST + height / LOW_EACH * LOW_STEP % LOW_SPREAD)

-- the certificate that goes out with a block of this height in place of its own, with its height, if one does
abbrev pub low_certificate : List Kept → ℕ → Option Kept
low_certificate kept height =
    if height % LOW_EACH == 0 then option_map (λ bytes. (low_height height, bytes)) (certificate_at (low_height height) kept)
    else None

-- an empty block in place of one, which justifies a block of this height
abbrev pub low_core : Core → ℕ → Core
low_core core low = record {
  parent = core.parent;
  height = core.height;
  justify_height = low;
  commands = [];
}

-- its proposal
abbrev pub low_proposal : Keys → ℕ → Core → Bytes → Bytes
low_proposal ring view low certificate =
    let content = proposal_text view (core_bytes low) certificate in
    frame_text (kind_number kind.Proposal) content
    (vector_for ring.sizes (keyring_of ring) kind.Proposal content)

-- the own vote for a block
abbrev pub own_vote : Keys → Bytes → Bytes
own_vote ring d = spelling (vote d (record {
  voter = ring.party;
  vector = vector_for ring.sizes (keyring_of ring) kind.Vote d;
}))

-- it goes to all, and with the own vote to the own replica
abbrev pub low_told : Keys → ℕ → Core → Bytes → Told
low_told ring view low certificate = record {
  out = (to_all, kind.Proposal, low_proposal ring view low certificate) ∷ [];
  own = low_proposal ring view low certificate ∷ own_vote ring (digest low) ∷ [];
}

-- in place of the proposal of a block, where it is time for it and there is such a certificate
abbrev pub low_instead : Keys → ℕ → Core → List Kept → Option Told
low_instead ring view core kept =
    option_map (λ low. low_told ring view (low_core core low.0) low.1) (low_certificate kept core.height)

-- what is kept of a proposal, and what goes out in its place, if something does
abbrev pub Plan : Type 0
Plan = Kept × Option Told

abbrev pub low_plan_for : Keys → List Kept → ℕ → Core → Certificate → Plan
low_plan_for ring kept view core q =
    ((core.justify_height, certificate_bytes q), low_instead ring view core kept)

-- of other frames nothing is kept
abbrev pub low_plan : Keys → List Kept → Option Frame → Option Plan
low_plan ring kept (Some (proposal view core q vector)) = Some (low_plan_for ring kept view core q)
low_plan ring kept read = None

-- what is kept then, and what goes out
abbrev pub low_step : List Kept → SentBytes → Option Plan → List Kept × Told
low_step kept sent (Some plan) = (keeping kept plan.0, unwrap_or plan.1 (as_it_is sent))
low_step kept sent None = (kept, as_it_is sent)

-- what a low justifier does with a frame, by what its bytes are read as
abbrev pub IsLowPlan : Keys → List Kept → Bytes → Option Plan → Type 0
IsLowPlan ring kept bytes plan =
    (read : Option Frame) × IsReadAs ring.sizes bytes read × (plan ≡ low_plan ring kept read)

abbrev pub IsLowStep : Keys → List Kept → SentBytes → List Kept → Told → Type 0
IsLowStep ring kept sent after told = (plan : Option Plan) × IsLowPlan ring kept sent.2 plan
    × (after ≡ (low_step kept sent plan).0) × (told ≡ (low_step kept sent plan).1)
