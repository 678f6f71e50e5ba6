-- What is decided of blocks that are taken on grounds, and of a lead.
use Rattle.ids.specs.declared.fault.Fault.{Fault}
use Rattle.ids.specs.declared.fault.Fault.TheVariants as fault
use Rattle.std.specs.Prelude.{suc, ◌≡◌, ◌&&◌, ◌||◌, Bool, true, false, [], ◌∷◌, length, if◌then◌else◌, nat_le, nat_lt}
use Rattle.std.specs.Prelude.{Option, Some, None, Result, Ok, Err}
use Rattle.std.specs.Str.{bytes_eq}
use Rattle.ids.specs.Sizes.{quorum}
use Rattle.definitions.specs.Bytes.{Bytes}
use Rattle.definitions.specs.Branches.{Branch}
use Rattle.definitions.specs.Checks.{identity_of, counted_voters}
use Rattle.definitions.specs.Grounds.{are_replicas, without_votes}
use Rattle.definitions.specs.Keyrings.{Keys}
use Rattle.definitions.specs.Trees.{blocks, find_in, Placing, Placing.grows, placing}
use Rattle.block_tree.specs.Finding.{is_justified_in}
use Rattle.replica_rules.specs.declared.block_ref.BlockRef.{BlockRef}
use Rattle.replica.specs.declared.stored.StoredStep.TheVariants.{Led}
use Rattle.replica.specs.declared.change.Change.{Change}
use Rattle.replica.specs.declared.change.Growth.TheVariants.{Lead}
use Rattle.replica.specs.Kept.{Variables, StateParts}
use Rattle.replica.specs.Changes.{noting}
use Rattle.replica.specs.Offers.{Offered, IsGrown, IsDecidedAt, IsDecided}

-- the block without the votes that came with it
abbrev pub bare : Offered → Offered
bare o = record o {
  certificate = without_votes o.certificate;
  found = record { counted = []; clear = o.found.clear };
}

-- the block with the own highest certificate in place of the one that came
abbrev pub own_as : Keys → Variables → Offered → Offered
own_as keys v o = record o {
  certificate = v.high.certificate;
  found = record { counted = counted_voters (identity_of keys) v.high.certificate; clear = o.found.clear };
}

-- the highest certificate is for the block of this digest, and a quorum of its votes verifies
abbrev pub is_own : Keys → Variables → Bytes → Bool
is_own keys v d = bytes_eq v.high.block.digest d
    && are_replicas keys.sizes (quorum keys.sizes) (counted_voters (identity_of keys) v.high.certificate)

-- what is decided of a new block that no other of the tree backs, where the highest certificate does or doesn't
abbrev pub IsOwnIf : Keys → StateParts → Offered → Result Change Fault → Bool → Type 0
IsOwnIf keys s o result true = IsDecided keys s (own_as keys s.variables o) result
IsOwnIf keys s o result false = result ≡ Err fault.BadTag

-- and of any new one, where another of the tree justifies the same, or not
abbrev pub IsGroundedIf : Keys → StateParts → Offered → Result Change Fault → (justified own : Bool) → Type 0
IsGroundedIf keys s o result true own = IsGrown keys s (bare o) result
IsGroundedIf keys s o result false own = IsOwnIf keys s o result own

-- what is decided of an offer that comes to this
abbrev pub IsOfferAt : Keys → StateParts → Offered → Result Change Fault → Placing → Type 0
IsOfferAt keys s o result (grows b) =
    IsGroundedIf keys s o result (is_justified_in o.certificate.digest s.variables.stored)
    (is_own keys s.variables o.certificate.digest)
IsOfferAt keys s o result p = IsDecidedAt keys s (bare o) result p

abbrev pub IsOffer : Keys → StateParts → Offered → Result Change Fault → Type 0
IsOffer keys s o result = IsOfferAt keys s o result
    (placing s.variables.horizon s.variables.most o.core (without_votes o.certificate) (blocks s.variables.stored))

-- what is decided of a new block of which enough replicas sent copies, or too few
abbrev pub IsRelayedIf : Keys → StateParts → Offered → Result Change Fault → Bool → Type 0
IsRelayedIf keys s o result true = IsGrown keys s (bare o) result
IsRelayedIf keys s o result false = result ≡ Err fault.BadTag

-- what is decided of copies that come to this
abbrev pub IsRelayAt : Keys → StateParts → Offered → Result Change Fault → Placing → Type 0
IsRelayAt keys s o result (grows b) =
    IsRelayedIf keys s o result (are_replicas keys.sizes (suc keys.sizes.faults) o.senders)
IsRelayAt keys s o result p = IsDecidedAt keys s (bare o) result p

abbrev pub IsRelay : Keys → StateParts → Offered → Result Change Fault → Type 0
IsRelay keys s o result = IsRelayAt keys s o result
    (placing s.variables.horizon s.variables.most o.core (without_votes o.certificate) (blocks s.variables.stored))

-- ---- a lead

-- collected votes and waiting requests are forgotten, and the block of this digest and height becomes leaf and
-- highest certified block
abbrev pub lead_change : Variables → BlockRef → Change
lead_change v block = record (noting v (Led block.digest) []) {
  growth = Lead;
  high = if bytes_eq v.high.block.digest block.digest then None else Some (record {
    block = block;
    certificate = record { digest = block.digest; votes = [] };
  });
  leaf = block;
}

-- what is decided of a lead, where this was found of its block
abbrev pub IsLeadAt : Keys → StateParts → Bytes → Result Change Fault → Option Branch → Type 0
IsLeadAt keys s d result None = result ≡ Err fault.UnknownParent
IsLeadAt keys s d result (Some b) =
    result ≡ (if nat_le s.variables.rules.lock.height (length b)
    && (is_justified_in d s.variables.stored || is_own keys s.variables d)
    then Ok (lead_change s.variables (record { digest = d; height = length b }))
    else Err fault.UnknownParent)

abbrev pub IsLead : Keys → StateParts → Bytes → Result Change Fault → Type 0
IsLead keys s d result = IsLeadAt keys s d result (find_in d (blocks s.variables.stored))
