-- What is known of judged replicas, and what follows for their fronts, their histories and an audit's
-- verdict.
use Rattle.std.specs.Prelude.{ℕ, suc, ◌≡◌, ◌<◌, ◌≤◌, ◌⊎◌, Bool, true, false, List, map, length, Some, ⊤}
use Rattle.std.specs.List.{AllByRecursion}
use Rattle.ids.specs.Sizes.{Sizes, replicas, quorum}
use Rattle.definitions.specs.Bytes.{Bytes}
use Rattle.definitions.specs.Lists.{Among, AreDistinct}
use Rattle.definitions.specs.Frames.{Core, genesis_core}
use Rattle.definitions.specs.Branches.{just1}
use Rattle.definitions.specs.Digests.{digest, digest_of, core_of, StandsFor, NoCollision}
use Rattle.definitions.specs.Chronicles.{Admitted, Step, Step.took_block, Chronicle, tree, IsLawful}
use Rattle.definitions.specs.Replicas.{held_history}
use Rattle.definitions.specs.Agreement.{Family, IsOrderly, IsLawfulFamily}
use Rattle.definitions.specs.Audit.{Member, Judged, is_judged, chronicle_of, Cut, Turns, steps_in}
use Rattle.definitions.specs.Audit.{AreAllowed, counted_by, counted_for, step_after, has_vote, may_move}
use Rattle.definitions.specs.Audit.{sent_by, sent_block, has_taken}
use Rattle.definitions.specs.Audit.{AreFronts, Reason, Verdict, IsUnbacked, IsUntaken, Holds}
use Rattle.definitions.specs.Audit.{HistoriesAgree}
use Rattle.definitions.specs.Audit.{IsVerdict}
use Rattle.definitions.specs.WindowAudit.{WindowVerdict, WindowVerdict.agree, WindowVerdict.fork}
use Rattle.definitions.specs.WindowAudit.{WindowVerdict.unmet, WindowsShow, Stands, BlocksConflict}

-- ---- what judged replicas have kept

-- genesis's core, and those of the blocks that were admitted, also of blocks that were known before
abbrev pub KnownIn : Chronicle → Core → Type 0
KnownIn c core = (core ≡ genesis_core) ⊎ ((a : Admitted) × Among (took_block a) c × (a.core ≡ core))

-- genesis's core, and those that a judged replica knows
abbrev pub KnownTo : Judged → Core → Type 0
KnownTo ks core = (core ≡ genesis_core) ⊎ ((m : Member) × Among m ks × KnownIn m.replica.chronicle core)

-- the digests that a block came with stand for its branch, and for the block that it justifies
pub record IsNamed (Known : Core → Type 0) (a : Admitted) : Type 0 where
  pub block : StandsFor Known (digest a.core) a.branch
  pub justified : StandsFor Known a.certificate.digest (just1 a.branch)

-- a lawful chronicle whose digests stand for its branches
pub record IsLawfullyKept (sizes : Sizes) (c : Chronicle) : Type 0 where
  pub lawful : IsLawful sizes c
  pub named : (a : Admitted) → Among (took_block a) c → IsNamed (KnownIn c) a

-- The block is in the tree and came under its own digest, with a certificate of the block that it
-- justifies; the core of a new block is its own.
pub record IsStored (c : Chronicle) (a : Admitted) : Type 0 where
  pub stands : Among a.branch (tree c)
  pub named : digest a.core ≡ digest_of a.branch
  pub justified : a.certificate.digest ≡ digest_of (just1 a.branch)
  pub own : a.new ≡ true → a.core ≡ core_of a.branch

-- where no two cores that it knows collide, its chronicle is lawfully kept
abbrev pub IsKeptWell : Sizes → Member → Type 0
IsKeptWell sizes m = NoCollision (KnownIn m.replica.chronicle) → IsLawfullyKept sizes m.replica.chronicle

-- the numbers of the judged replicas
abbrev pub numbers : Judged → List ℕ
numbers ks = map (λ m. m.number) ks

-- at least a quorum of distinct replicas, each kept well
pub record AreJudged (sizes : Sizes) (ks : Judged) : Type 0 where
  pub enough : quorum sizes ≤ length ks
  pub distinct : AreDistinct (numbers ks)
  pub below : AllByRecursion (λ i. i < replicas sizes) (numbers ks)
  pub kept : (m : Member) → Among m ks → IsKeptWell sizes m

-- the family of the judged
abbrev pub judged_family : Sizes → Judged → Family
judged_family sizes ks = record { sizes = sizes; is_member = is_judged ks; chronicle = chronicle_of ks }

-- no vote is unbacked, and no sender lacks the block that it sent
pub record NoneUnbacked (ks : Judged) : Type 0 where
  pub votes : (u v : ℕ) (d : Bytes) → IsUnbacked ks u v d → ⊥
  pub takes : (u v : ℕ) (d : Bytes) → IsUntaken ks u v d → ⊥

-- ---- moving one counter at a time

-- allowed turns lead to the cut
pub record IsReached (may : Cut → ℕ → Bool) (k : Cut) : Type 0 where
  pub turns : Turns
  pub allowed : AreAllowed may turns
  pub reached : (i : ℕ) → steps_in turns i ≡ k i

-- u has one more step, and the others have as many as before
pub record IsMoved (u : ℕ) (k next : Cut) : Type 0 where
  pub own : next u ≡ suc (k u)
  pub others : (i : ℕ) → (u ≡ i → ⊥) → next i ≡ k i

-- From no steps, moves that are allowed lead to cuts that are reached; who may move has a step left, so
-- they end, and where none may move any more, they have led to the fronts.
pub record FindsFronts (ks : Judged) : Type 0 where
  pub start : (k : Cut) → ((i : ℕ) → k i ≡ 0) → IsReached (may_move ks) k
  pub moved : (k next : Cut) (u : ℕ) → IsReached (may_move ks) k → may_move ks k u ≡ true → IsMoved u k next
      → IsReached (may_move ks) next
  pub left : (k : Cut) (u : ℕ) → may_move ks k u ≡ true → k u < length (chronicle_of ks u)
  pub within : (k : Cut) → IsReached (may_move ks) k → (i : ℕ) → k i ≤ length (chronicle_of ks i)
  pub finish : (k : Cut) → IsReached (may_move ks) k → ((u : ℕ) → may_move ks k u ≡ false) → AreFronts ks k

-- ---- laws

-- a lawful chronicle of which each block is stored so is lawfully kept
abbrev pub StoredBlocksAreNamed : Type 0
StoredBlocksAreNamed =
    (sizes : Sizes) (c : Chronicle) → IsLawful sizes c
    → ((a : Admitted) → Among (took_block a) c → IsStored c a) → IsLawfullyKept sizes c

-- there are fronts, and one choice of them
abbrev pub FrontsAreOne : Type 0
FrontsAreOne = (ks : Judged) → (k : Cut) × AreFronts ks k × ((m : Cut) → AreFronts ks m → (i : ℕ) → m i ≡ k i)

-- moving one counter at a time leads to them
abbrev pub MovingFindsTheFronts : Type 0
MovingFindsTheFronts = (ks : Judged) → FindsFronts ks

-- at any fronts, an unbacked vote is one that the first step behind counts and the voter's front lacks
abbrev pub UnbackedVotesAreSeen : Type 0
UnbackedVotesAreSeen = (ks : Judged) (k : Cut) (u v : ℕ) (d : Bytes) → AreFronts ks k → IsUnbacked ks u v d →
    (s : Step) × (step_after (k u) (chronicle_of ks u) ≡ Some s) × Among v (counted_by s)
    × (counted_for s ≡ d) × (is_judged ks v ≡ true) × (has_vote ks k d v ≡ false)

-- and an untaken block is one for which that step names the sender, whose front lacks it
abbrev pub UntakenBlocksAreSeen : Type 0
UntakenBlocksAreSeen = (ks : Judged) (k : Cut) (u v : ℕ) (d : Bytes) → AreFronts ks k → IsUntaken ks u v d →
    (s : Step) × (step_after (k u) (chronicle_of ks u) ≡ Some s) × Among v (sent_by s)
    × (sent_block s ≡ d) × (is_judged ks v ≡ true) × (has_taken ks k d v ≡ false)

-- what holds of the judged where no two known cores collide and no vote is unbacked
abbrev pub WhereBacked : (Sizes → Judged → Type 0) → Type 0
WhereBacked P =
    (sizes : Sizes) (ks : Judged) → AreJudged sizes ks → NoCollision (KnownTo ks) → NoneUnbacked ks
    → P sizes ks

-- the judged are then a lawful family
abbrev pub BackedChroniclesAreOrderly : Type 0
BackedChroniclesAreOrderly = WhereBacked (λ sizes ks. IsLawfulFamily (judged_family sizes ks))

-- and their histories agree
abbrev pub BackedHistoriesAgree : Type 0
BackedHistoriesAgree = WhereBacked (λ sizes ks. HistoriesAgree ks)

-- the judged are members of the family, with its chronicles
abbrev pub AreMembers : Judged → Family → Type 0
AreMembers ks fam =
    (i : ℕ) → is_judged ks i ≡ true → (fam.is_member i ≡ true) × (fam.chronicle i ≡ chronicle_of ks i)

-- where no two known cores collide and the judged are members of an orderly family, as correct replicas
-- are, no vote is unbacked
abbrev pub OrderlyChroniclesAreBacked : Type 0
OrderlyChroniclesAreBacked =
    (sizes : Sizes) (ks : Judged) (fam : Family) → AreJudged sizes ks → NoCollision (KnownTo ks)
    → AreMembers ks fam → IsOrderly fam → NoneUnbacked ks

-- where the histories of judged replicas do not agree, a reason holds
abbrev pub EachForkHasAReason : Type 0
EachForkHasAReason =
    (sizes : Sizes) (ks : Judged) → AreJudged sizes ks → (HistoriesAgree ks → ⊥) → (r : Reason) × Holds ks r

-- judged replicas have a verdict
abbrev pub EachAuditAnswers : Type 0
EachAuditAnswers = (sizes : Sizes) (ks : Judged) → AreJudged sizes ks → (v : Verdict) × IsVerdict ks v

-- Of any number of replicas, each kept well, that may have pruned: where no two known cores collide and their
-- windows agree, so do their histories.
abbrev pub AgreeingWindowsAreRight : Type 0
AgreeingWindowsAreRight =
    (sizes : Sizes) (ks : Judged) → ((m : Member) → Among m ks → IsKeptWell sizes m) → NoCollision (KnownTo ks)
    → WindowsShow ks agree → HistoriesAgree ks

-- Where windows fork, so do the executed branches.
abbrev pub ForkingWindowsAreRight : Type 0
ForkingWindowsAreRight =
    (ks : Judged) (a b : ℕ) → WindowsShow ks (fork a b) → Stands BlocksConflict ks a b

-- the same verdict, and the same higher replica where two are named
abbrev pub AreOneKind : WindowVerdict → WindowVerdict → Type 0
AreOneKind agree agree = ⊤
AreOneKind (fork a b) (fork c d) = b ≡ d
AreOneKind (unmet a b) (unmet c d) = b ≡ d
AreOneKind v w = ⊥

-- windows show one verdict, but for the lower replica that is named
abbrev pub WindowsShowOneVerdict : Type 0
WindowsShowOneVerdict =
    (ks : Judged) (v w : WindowVerdict) → WindowsShow ks v → WindowsShow ks w → AreOneKind v w

-- judged replicas of four, each kept well
pub record AreOfFour (sizes : Sizes) (judged : Judged) : Type 0 where
  pub four : replicas sizes ≡ 4
  pub are_judged : AreJudged sizes judged
  pub kept : (m : Member) → Among m judged → IsLawfullyKept sizes m.replica.chronicle

-- Three of four replicas, each kept well, that executed something; no cores collide, and no vote is unbacked.
pub record SomeAgreement : Type 0 where
  pub sizes : Sizes
  pub judged : Judged
  pub of_four : AreOfFour sizes judged
  pub apart : NoCollision (KnownTo judged)
  pub backed : NoneUnbacked judged
  pub executed : (m : Member) → Among m judged → 0 < length (held_history m.replica)

-- Three of four replicas, each kept well, whose histories do not agree; no cores collide, so an unbacked
-- vote is behind the fork.
pub record SomeFork : Type 0 where
  pub sizes : Sizes
  pub judged : Judged
  pub of_four : AreOfFour sizes judged
  pub apart : NoCollision (KnownTo judged)
  pub differ : HistoriesAgree judged → ⊥
  pub receiver : ℕ
  pub voter : ℕ
  pub digest : Bytes
  pub reason : IsUnbacked judged receiver voter digest

-- Three of four replicas, each kept well, with fronts of 1, 2 and 3 steps. Behind its front 1 counts a vote
-- of 2, and 2 one of 1: each was given, but only after the step that counts the other. A vote of 3 that 1
-- counts there is backed.
pub record SomeCircle : Type 0 where
  pub sizes : Sizes
  pub judged : Judged
  pub of_four : AreOfFour sizes judged
  pub fronts : Cut
  pub are_fronts : AreFronts judged fronts
  pub lengths : (fronts 1 ≡ 1) × (fronts 2 ≡ 2) × (fronts 3 ≡ 3)
  pub first : Bytes
  pub second : Bytes
  pub first_given : has_vote judged (λ i. length (chronicle_of judged i)) first 2 ≡ true
  pub second_given : has_vote judged (λ i. length (chronicle_of judged i)) second 1 ≡ true
  pub first_reason : IsUnbacked judged 1 2 first
  pub second_reason : IsUnbacked judged 2 1 second
  pub no_reason : IsUnbacked judged 1 3 first → ⊥
