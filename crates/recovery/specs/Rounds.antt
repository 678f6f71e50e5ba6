-- A correct leader's blocks are taken, voted for, certified and decided.
use Rattle.ids.specs.declared.limits.TheConstants.{MOST_BLOCKS, MOST_OF_HEIGHT, HEIGHT_LIMIT, MOST_COMMANDS}
use Rattle.std.specs.Prelude.{ℕ, suc, ◌≡◌, ◌==◌, ◌&&◌, ◌<◌, ◌≤◌, ◌+◌, ◌⊎◌, true, ◌∷◌}
use Rattle.std.specs.Prelude.{length, count_by, Ok}
use Rattle.std.specs.List.{list_all, list_any}
use Rattle.ids.specs.declared.fault.Fault.TheVariants as fault
use Rattle.ids.specs.Sizes.{leader}
use Rattle.definitions.specs.Lists.{Among}
use Rattle.definitions.specs.Admission.{Checked, passes, rejected, check, check_offer}
use Rattle.definitions.specs.Branches.{Block, Branch, just1, Extends}
use Rattle.definitions.specs.Checks.{Identity, command_verifies}
use Rattle.definitions.specs.Chronicles.{Admitted, Chronicle, voted_blocks, taken_blocks, window, vheight}
use Rattle.definitions.specs.Chronicles.{Step.took_block, horizon, standing_blocks, executed, is_safe, lock}
use Rattle.definitions.specs.Digests.{digest_of}
use Rattle.definitions.specs.Frames.{Command, Frame}
use Rattle.definitions.specs.Histories.{history_of}
use Rattle.definitions.specs.Grounds.{is_justified, is_own_certified}
use Rattle.definitions.specs.Rulings.{Input, ruling, due}
use Rattle.definitions.specs.Runs.{run, after}
use Rattle.definitions.specs.Sendings.{proposal_frame}
use Rattle.definitions.specs.States.{Justified, view, leaf, pending}
use Rattle.definitions.specs.Trees.{clear_above}
use Rattle.definitions.specs.Worlds.{World, Sent, is_correct, self_of}
use Rattle.linear_law.specs.Law.{AfterEachRun}
use Rattle.recovery.specs.Correct.{OfCorrect, AllGoOn, ShareKeys, chronicle_of, view_of}
use Rattle.recovery.specs.Healing.{burst, round, rounds}
use Rattle.recovery.specs.NeverWedged.{AheadOf}
use Rattle.recovery.specs.Locks.{high_of}
use Rattle.recovery.specs.Fetching.{HasPlace}

-- ---- blocks of a leader

-- A replica may vote for this block over this parent in this view: it is in that view, the block is safe for it, the block's
-- commands verify for it, and so do those below it, down to what the block justifies.
pub record MayVoteFor (w : World) (u v : ℕ) (b : Block) (parent : Branch) : Type 0 where
  pub in_view : view_of w u ≡ v
  pub safe : is_safe (b ∷ parent) (chronicle_of w u) ≡ true
  pub commands : list_all (command_verifies (self_of w u)) b.commands ≡ true
  pub clear_below : clear_above b.justify parent (standing_blocks (chronicle_of w u)) ≡ true

-- what was checked passes, and comes to a step by which the replica takes this block, and votes for it where it may
abbrev pub IsTakenIn : World → ℕ → ℕ → Checked → Block → Branch → Type 0
IsTakenIn w u v checked b parent =
    (i : Input) × (a : Admitted) × (checked ≡ passes i)
    × (ruling (self_of w u) i (chronicle_of w u) ≡ due (took_block a)) × (a.branch ≡ b ∷ parent)
    × (MayVoteFor w u v b parent → a.voted ≡ true)

-- A frame is of this block: a proposal that a correct leader of this view made and sent.
pub record IsProposalOf (w : World) (v : ℕ) (b : Block) (parent : Branch) (f : Frame) : Type 0 where
  pub correct : is_correct w (leader w.sizes v) ≡ true
  pub sent : Sent
  pub recorded : Among sent w.sent
  pub made : Justified
  pub is : f ≡ proposal_frame (self_of w (leader w.sizes v)) v made
  pub frame_is : f ≡ sent.frame
  pub block_is : made.block ≡ b ∷ parent
  pub justified : made.certificate.digest ≡ digest_of (just1 (b ∷ parent))

-- A correct replica takes a correct leader's block, where there is a place for it and what it justifies has grounds:
-- where the frame comes, or else where it is offered; and votes for it where it may.
abbrev pub ProposalsAreTaken : Type 0
ProposalsAreTaken =
    AfterEachRun (λ w. ShareKeys w → (v : ℕ) (b : Block) (parent : Branch) (f : Frame) → IsProposalOf w v b parent f
    → OfCorrect w (λ u. HasPlace (chronicle_of w u) b parent
    → (is_justified (just1 (b ∷ parent)) (chronicle_of w u) ≡ true)
    ⊎ (is_own_certified (self_of w u) (just1 (b ∷ parent)) (chronicle_of w u) ≡ true)
    → ((check (self_of w u) f ≡ rejected fault.BadTag)
    ⊎ IsTakenIn w u v (check (self_of w u) f) b parent)
    × IsTakenIn w u v (check_offer (self_of w u) f) b parent))

-- A replica is in this view, knows y, which goes through m, and a block over y that justifies m is safe for it: m has
-- grounds, the lock is m or lower, and all is clear down to m. There is room for so many blocks more.
pub record Climbs (self : Identity) (v : ℕ) (m y : Branch) (room : ℕ) (c : Chronicle) : Type 0 where
  pub in_view : view self.sizes c ≡ v
  pub stands : Among y (window c)
  pub over : Extends y m
  pub ground : (is_justified m c ≡ true) ⊎ (is_own_certified self m c ≡ true)
  pub reach : horizon c ≤ length m
  pub safe : (lock c ≡ m) ⊎ (length (lock c) < length m)
  pub clear : clear_above (length m) y (standing_blocks c) ≡ true
  pub trees : length (window c) + room ≤ MOST_BLOCKS
  pub heights : (h : ℕ) → length y < h → count_by (λ x. length x == h) (window c) < MOST_OF_HEIGHT

-- A leader of this view makes blocks that justify m: its highest certificate is for m, and each command that waits
-- with it verifies for all.
pub record Leads (w : World) (l v : ℕ) (m : Branch) (room : ℕ) : Type 0 where
  pub leader_is : leader w.sizes v ≡ l
  pub high : high_of w l ≡ m
  pub climbs : Climbs (self_of w l) v m (leaf (self_of w l) (chronicle_of w l)) room (chronicle_of w l)
  pub waiting : (c : Command) → Among c (pending (chronicle_of w l))
      → OfCorrect w (λ r. command_verifies (self_of w r) c ≡ true)

-- All correct replicas go on, and may climb from m under this leader, whose leaf and highest certificate are on m.
-- There is room for so many blocks.
pub record MayClimb (w : World) (l v room : ℕ) (m : Branch) : Type 0 where
  pub keys : ShareKeys w
  pub goes : AllGoOn w
  pub correct : is_correct w l ≡ true
  pub leads_it : Leads w l v m room
  pub leaf_is : leaf (self_of w l) (chronicle_of w l) ≡ m
  pub climbs : OfCorrect w (λ r. Climbs (self_of w r) v m m room (chronicle_of w r))

-- So they may with n blocks, which end above all that they voted for; and there is so much room beyond these.
pub record MayBurst (w : World) (l v n room : ℕ) (m : Branch) : Type 0 where
  pub climbing : MayClimb w l v (n + room) m
  pub low : OfCorrect w (λ r. vheight (chronicle_of w r) < length m + n)
  pub some : 0 < n
  pub top : length m + n < HEIGHT_LIMIT

-- a command of this client and number stands on the branch
abbrev pub Carries : Branch → Command → Type 0
Carries x c = list_any (λ e. (e.client == c.client) && (e.seq == c.seq)) (history_of x) ≡ true

-- so does each that waited with this leader, where one block can take them all
abbrev pub CarriesWaiting : World → ℕ → Branch → Type 0
CarriesWaiting w l x =
    (c : Command) → Among c (pending (chronicle_of w l)) → length (pending (chronicle_of w l)) ≤ MOST_COMMANDS
    → Carries x c

-- A burst names only what is there, and all correct replicas go on. Each voted for the last block, which is n
-- higher than m and goes through it, justifies it, and carries what waited; and which is the leader's leaf; and each
-- could climb on, with so much room.
pub record IsVotedForByAll (w last : World) (l v n room : ℕ) (m x : Branch) : Type 0 where
  pub ran : run w (burst n l w) ≡ Ok last
  pub going_on : AllGoOn last
  pub high : length x ≡ length m + n
  pub over : Extends x m
  pub justifies : just1 x ≡ m
  pub carries : CarriesWaiting w l x
  pub leaf_is : leaf (self_of w l) (chronicle_of last l) ≡ x
  pub leads_on : Leads last l v m room
  pub climbs : OfCorrect last (λ r. Climbs (self_of w r) v m x room (chronicle_of last r))
  pub voted : OfCorrect last (λ r. Among x (voted_blocks (chronicle_of last r)))
  pub session : last.session ≡ w.session

-- a burst is voted for by all
abbrev pub BurstsAreVotedFor : Type 0
BurstsAreVotedFor =
    (l v n room : ℕ) (m : Branch) → AheadOf (burst n l) (λ w. MayBurst w l v n room m
    → IsVotedForByAll w (after w (burst n l w)) l v n room m
    (leaf (self_of w l) (chronicle_of (after w (burst n l w)) l)))

-- A round names only what is there. Each correct replica has a certificate of its own for the last block,
-- which is n higher than m and goes through it, justifies it, and carries what waited. All may climb from there, with
-- so much room, and none voted above it.
pub record IsCertifiedByAll (w last : World) (l v n room : ℕ) (m x : Branch) : Type 0 where
  pub ran : run w (round n l w) ≡ Ok last
  pub height : length x ≡ length m + n
  pub over : Extends x m
  pub justifies : just1 x ≡ m
  pub carries : CarriesWaiting w l x
  pub high : OfCorrect last (λ r. high_of last r ≡ x)
  pub own : OfCorrect last (λ r. is_own_certified (self_of last r) x (chronicle_of last r) ≡ true)
  pub climbing : MayClimb last l v room x
  pub low : OfCorrect last (λ r. vheight (chronicle_of last r) < suc (length x))
  pub session : last.session ≡ w.session

-- a round, of a burst and all votes on it, leaves all with certificates of their own for its last block
abbrev pub RoundsCertify : Type 0
RoundsCertify =
    (l v n room : ℕ) (m : Branch) → AheadOf (round n l) (λ w. MayBurst w l v n room m
    → (x : Branch) × IsCertifiedByAll w (after w (round n l w)) l v n room m x)

-- ---- decisions

-- y stands on x, and justifies it
abbrev pub IsNext : Branch → Branch → Type 0
IsNext x y = (b : Block) × (y ≡ b ∷ x) × (b.justify ≡ length x)

-- Who took three more blocks over a block, each on the one before and justifying that, executed the block: its last
-- executed branch goes through it.
abbrev pub ThreeMoreDecide : Type 0
ThreeMoreDecide =
    AfterEachRun (λ w. OfCorrect w (λ r. (x y z : Branch) (a : Admitted) → IsNext x y → IsNext y z → IsNext z a.branch
    → Among a (taken_blocks (chronicle_of w r)) → Extends (executed (chronicle_of w r)) x))

-- These rounds name only what is there, and all correct replicas go on. Each executed a branch through x,
-- which is n higher than m and goes through it, and carries what waited.
pub record HaveDecided (w last : World) (l n : ℕ) (m x : Branch) : Type 0 where
  pub ran : run w (rounds n l w) ≡ Ok last
  pub going_on : AllGoOn last
  pub height : length x ≡ length m + n
  pub over : Extends x m
  pub carries : CarriesWaiting w l x
  pub decided : OfCorrect last (λ r. Extends (executed (chronicle_of last r)) x)
  pub session : last.session ≡ w.session

-- A round that ends above all votes, and three more of one block each, decide the last block of the first.
abbrev pub RoundsDecide : Type 0
RoundsDecide =
    (l v n room : ℕ) (m : Branch) → AheadOf (rounds n l) (λ w. MayBurst w l v n (3 + room) m
    → length m + n + 3 < HEIGHT_LIMIT → (x : Branch) × HaveDecided w (after w (rounds n l w)) l n m x)
