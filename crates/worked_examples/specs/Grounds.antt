-- A replica of four that took blocks of a chain without votes, each of which justifies the one below it, and
-- what it makes of blocks and leads for which it has no certificate.
use Rattle.ids.specs.declared.fault.Fault.TheVariants as fault
use Rattle.std.specs.Prelude.{ℕ, zero, suc, ◌≡◌, true, false, None, List, [], ◌∷◌}
use Rattle.definitions.specs.Bytes.{Bytes}
use Rattle.definitions.specs.Branches.{Branch, just1}
use Rattle.definitions.specs.Digests.{digest_of, core_of}
use Rattle.definitions.specs.Frames.{Certificate}
use Rattle.definitions.specs.Keyrings.{Keyring}
use Rattle.definitions.specs.Checks.{Identity, Findings}
use Rattle.definitions.specs.Chronicles.{Step, Step.took_block, Step.noted, Note.got_vote, Note.got_new_view}
use Rattle.definitions.specs.Chronicles.{Note.led_from, Note.seen_view, Chronicle}
use Rattle.definitions.specs.States.{view, qc_high, leaf, pending}
use Rattle.definitions.specs.Rulings.{Ruling, Ruling.due, Ruling.missing, Ruling.refusing, ruling}
use Rattle.definitions.specs.Rulings.{Input.offered_in, Input.relayed_in, Input.lead_in, Input.ask_in}
use Rattle.worked_examples.specs.Chains.{on, took}
use Rattle.worked_examples.specs.Views.{four, announces}
use Rattle.worked_examples.specs.Windows.{chain}

-- one of the four
abbrev pub self_with : Keyring → Identity
self_with ring = record { sizes = four; ring = ring }

-- it took so many blocks of the chain
abbrev pub after : ℕ → Chronicle
after zero = []
after (suc n) = took (chain (suc n)) ∷ after n

-- a certificate with one vote that no tag of it bears out
abbrev pub made_up : Branch → Certificate
made_up b = record { digest = digest_of b; votes = record { voter = 3; vector = [] } ∷ [] }

abbrev pub found : Findings
found = record { counted = []; clear = true }

-- what it makes of a block whose certificate isn't good for it
abbrev pub offered : Keyring → Branch → Chronicle → Ruling
offered ring b c = ruling (self_with ring) (offered_in None 3 (core_of b) (made_up (just1 b)) found) c

-- and of one that these sent
abbrev pub relayed : Keyring → List ℕ → Branch → Chronicle → Ruling
relayed ring senders b c =
    ruling (self_with ring) (relayed_in senders (core_of b) (made_up (just1 b)) found) c

-- the block is taken, with a certificate without votes
abbrev pub takes_it : Branch → List ℕ → Ruling
takes_it b senders = due (took_block (record {
  branch = b;
  core = core_of b;
  certificate = record { digest = digest_of (just1 b); votes = [] };
  counted = [];
  senders = senders;
  clear = true;
  new = true;
  voted = false;
}))

-- the second block justifies the first, so another one may that stands on the second
abbrev pub AnEarlierTake : Type 0
AnEarlierTake = (ring : Keyring) → offered ring (on 1 (chain 2)) (after 2) ≡ takes_it (on 1 (chain 2)) []

-- no block justifies the second one
abbrev pub NoGrounds : Type 0
NoGrounds = (ring : Keyring) → offered ring (chain 3) (after 2) ≡ refusing fault.BadTag

-- two of four sent it, of which one is correct
abbrev pub TwoSenders : Type 0
TwoSenders = (ring : Keyring) → relayed ring (1 ∷ 3 ∷ []) (chain 3) (after 2) ≡ takes_it (chain 3) (1 ∷ 3 ∷ [])

-- one sent it, also twice, or one is no replica
abbrev pub OneSender : Type 0
OneSender =
    (ring : Keyring) → (relayed ring (3 ∷ []) (chain 3) (after 2) ≡ refusing fault.BadTag)
    × (relayed ring (3 ∷ 3 ∷ []) (chain 3) (after 2) ≡ refusing fault.BadTag)
    × (relayed ring (3 ∷ 4 ∷ []) (chain 3) (after 2) ≡ refusing fault.BadTag)

-- a vote for the second block
abbrev pub voted : ℕ → Step
voted replica = noted (got_vote replica [] (chain 2))

-- what it makes of a lead from a block; its lock is the second of four
abbrev pub led_to : Keyring → Branch → Ruling
led_to ring b = ruling (self_with ring) (lead_in (digest_of b)) (after 4)

-- from the lock and from the block above it
abbrev pub LeadsFromTheLock : Type 0
LeadsFromTheLock =
    (ring : Keyring) → (led_to ring (chain 2) ≡ due (noted (led_from (chain 2))))
    × (led_to ring (chain 3) ≡ due (noted (led_from (chain 3))))

-- not from below the lock, nor from the last block, which nothing justifies, nor from one that it lacks
abbrev pub LeadsFromNoOther : Type 0
LeadsFromNoOther =
    (ring : Keyring) → (led_to ring (chain 1) ≡ refusing fault.UnknownParent)
    × (led_to ring (chain 4) ≡ refusing fault.UnknownParent)
    × (led_to ring (chain 5) ≡ refusing fault.UnknownParent)

-- the highest certificate and the leaf after a lead from the lock, with no request
abbrev pub ALeadMovesThere : Type 0
ALeadMovesThere =
    (ring : Keyring) → (qc_high four (noted (led_from (chain 2)) ∷ after 4)
    ≡ record { block = chain 2; certificate = record { digest = digest_of (chain 2); votes = [] } })
    × (leaf (self_with ring) (noted (led_from (chain 2)) ∷ after 4) ≡ chain 2)
    × (pending (noted (led_from (chain 2)) ∷ after 4) ≡ [])

-- a lead from the block of the highest certificate keeps it
abbrev pub ALeadKeepsIt : Type 0
ALeadKeepsIt = qc_high four (noted (led_from (chain 3)) ∷ after 4) ≡ qc_high four (after 4)

-- after a lead from the lock there comes a certificate for its block, whole
abbrev pub filled : Chronicle
filled =
    noted (got_new_view 1 3 (made_up (chain 2)) (chain 2)) ∷ noted (led_from (chain 2)) ∷ after 4

-- it takes the place of the one without votes
abbrev pub AWholeOneFills : Type 0
AWholeOneFills = (qc_high four filled).certificate ≡ made_up (chain 2)

-- that of single votes doesn't
abbrev pub VotesFillNothing : Type 0
VotesFillNothing =
    (qc_high four (voted 2 ∷ voted 1 ∷ voted 0 ∷ noted (led_from (chain 2)) ∷ after 4)).certificate.votes ≡ []

-- any replica is asked for any block
abbrev pub AsksAnyone : Type 0
AsksAnyone = (ring : Keyring) (d : Bytes) → ruling (self_with ring) (ask_in 2 d) (after 2) ≡ missing 2 d

-- two replicas announced view 3, one of them with a certificate that isn't good here
abbrev pub ItsViewCounts : Type 0
ItsViewCounts =
    (view four (noted (seen_view 3 1) ∷ announces 2 3 ∷ []) ≡ 3) × (view four (noted (seen_view 3 1) ∷ []) ≡ 0)
