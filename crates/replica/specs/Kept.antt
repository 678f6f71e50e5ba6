-- What a replica keeps, as plain data, and what that is: functions of its chronicle.
use Rattle.ids.specs.declared.limits.TheConstants.{MOST_BLOCKS}
use Rattle.std.specs.Prelude.{ℕ, ◌≡◌, List, Option, option_map, IfSome, ⊤}
use Rattle.std.specs.List.{AllByRecursion}
use Rattle.definitions.specs.Bytes.{Bytes}
use Rattle.definitions.specs.Lists.{Among}
use Rattle.definitions.specs.Frames.{Command, Certificate, core_bytes}
use Rattle.definitions.specs.Keyrings.{Keys}
use Rattle.definitions.specs.Checks.{identity_of}
use Rattle.ids.specs.Sizes.{Sizes}
use Rattle.definitions.specs.Branches.{Branch, just1}
use Rattle.definitions.specs.FrameLimits.{IsVote, IsCertificate, IsCore}
use Rattle.definitions.specs.Digests.{core_of, digest_of, AllKnown}
use Rattle.definitions.specs.Trees.{Stored, TreeState}
use Rattle.definitions.specs.Chronicles.{Admitted, Step, Step.took_block, Step.noted, Note.got_vote}
use Rattle.definitions.specs.Chronicles.{Note.got_new_view, Chronicle, tree, horizon, standing_blocks}
use Rattle.definitions.specs.Chronicles.{IsSound}
use Rattle.definitions.specs.States.{Justified, qc_high, leaf, pending, proposed}
use Rattle.audit_ground.specs.Law.{IsStored}
use Rattle.pacemaker.specs.Pacing.{Pace, IsPaceOf}
use Rattle.vote_collector.specs.Collecting.{Collected}
use Rattle.vote_collector.specs.Following.{IsVotesOf}
use Rattle.replica_rules.specs.declared.block_ref.BlockRef.{BlockRef}
use Rattle.replica_rules.specs.Ruled.{Ruled, ref_of, ruled_by}
use Rattle.replica.specs.declared.state.High.{High}

-- the bytes of a proposal's core, and its certificate
pub record Own : Type 0 where
  pub core : Bytes
  pub certificate : Certificate

-- the chronicle, and the running variables that are functions of it
pub record Variables : Type 0 where
  pub chronicle : Chronicle
  pub most : ℕ  -- as many blocks may stand in the tree
  pub horizon : ℕ
  pub stored : List Stored
  pub rules : Ruled
  pub high : High
  pub leaf : BlockRef
  pub own : Option Own

-- the tree of these variables
abbrev pub tree_of : Variables → TreeState
tree_of v = record { most = v.most; horizon = v.horizon; stored = v.stored }

-- what is kept
pub record StateParts : Type 0 where
  pub variables : Variables
  pub pace : Pace
  pub votes : Collected
  pub pending : List Command

-- with these requests waiting
abbrev pub waiting : List Command → StateParts → StateParts
waiting pending s = record s { pending = pending }

-- a certificate with its block, and a proposal, as they are kept
abbrev pub high_of : Justified → High
high_of q = record { block = ref_of q.block; certificate = q.certificate }

abbrev pub own_of : Justified → Own
own_of p = record { core = core_bytes (core_of p.block); certificate = p.certificate }

-- the variables where this chronicle stands
abbrev pub variables_of : Keys → Chronicle → Variables
variables_of keys c = record {
  chronicle = c;
  most = MOST_BLOCKS;
  horizon = horizon c;
  stored = standing_blocks c;
  rules = ruled_by c;
  high = high_of (qc_high keys.sizes c);
  leaf = ref_of (leaf (identity_of keys) c);
  own = option_map own_of (proposed (identity_of keys) c);
}

-- the cores of its blocks are those of frames at these sizes
abbrev pub AreFit : Sizes → Chronicle → Type 0
AreFit sizes c = (x : Branch) → Among x (tree c) → AllKnown (IsCore sizes) x

-- each block that was taken stands in the tree under its own digest, with a certificate of the block that
-- it justifies
abbrev pub AreStored : Chronicle → Type 0
AreStored c = (a : Admitted) → Among (took_block a) c → IsStored c a

-- the certificate that a step brought is one at these sizes, and of its block; the vote is one at these sizes
abbrev pub IsSized : Sizes → Step → Type 0
IsSized sizes (took_block a) =
    IsCertificate sizes a.certificate × (a.certificate.digest ≡ digest_of (just1 a.branch))
IsSized sizes (noted (got_vote voter vector b)) = IsVote sizes (record { voter = voter; vector = vector })
IsSized sizes (noted (got_new_view view sender q b)) = IsCertificate sizes q × (q.digest ≡ digest_of b)
IsSized sizes st = ⊤

-- so are those of each step
abbrev pub AreSized : Sizes → Chronicle → Type 0
AreSized sizes c = AllByRecursion (IsSized sizes) c

-- the certificate of a proposal, where there is one, is one at these sizes
abbrev pub IsFitOwn : Sizes → Option Own → Type 0
IsFitOwn sizes own = IfSome own (λ p. IsCertificate sizes p.certificate)

-- each certificate that is kept is one at these sizes
pub record AreCertified (sizes : Sizes) (v : Variables) : Type 0 where
  pub high : IsCertificate sizes v.high.certificate
  pub own : IsFitOwn sizes v.own
  pub stored : AllByRecursion (λ s. IsCertificate sizes s.certificate) v.stored

-- what is kept is that of this chronicle, which is a sound one
pub record IsStateOf (keys : Keys) (c : Chronicle) (s : StateParts) : Type 0 where
  pub same : s.variables ≡ variables_of keys c
  pub sizes : s.pace.sizes ≡ keys.sizes
  pub pace : IsPaceOf c s.pace
  pub vote_sizes : s.votes.sizes ≡ keys.sizes
  pub votes : IsVotesOf keys.sizes c s.votes.kept
  pub sound : IsSound keys.sizes c
  pub waits : s.pending ≡ pending c
