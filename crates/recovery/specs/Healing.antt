-- Healing: events of correct parties alone, with memory granted, that bring a waiting client its receipt. They are computed
-- by one who sees the whole world, also who is faulty; why nothing went on needn't be known. The correct replica of the highest
-- lock leads from that lock.
use Rattle.std.specs.Prelude.{ℕ, zero, suc, ◌+◌, ◌-◌, ◌%◌, ◌==◌, not, Bool, true, false, List, [], ◌∷◌, ◌++◌}
use Rattle.std.specs.Prelude.{map, filter}
use Rattle.std.specs.Prelude.{find, reverse, length, drop, if◌then◌else◌, nat_lt, max, Option, Some, None}
use Rattle.ids.specs.Sizes.{replicas}
use Rattle.definitions.specs.Bytes.{Bytes}
use Rattle.definitions.specs.Frames.{Frame}
use Rattle.definitions.specs.Frames as frame
use Rattle.definitions.specs.Branches.{Branch, branch_eq, just1, just2}
use Rattle.definitions.specs.Digests.{digest_of}
use Rattle.definitions.specs.Chronicles.{Admitted, taken_blocks, vheight}
use Rattle.definitions.specs.Sendings.{To, To.to_all, To.to_party}
use Rattle.definitions.specs.States.{is_known, leaf}
use Rattle.definitions.specs.Worlds.{World, Sent, Event, relay, timeout, beat, offer, gather, lead, ask, of_record}
use Rattle.definitions.specs.Worlds.{Happening, self_of}
use Rattle.definitions.specs.Runs.{after}
use Rattle.recovery.specs.Correct.{chronicle_of, lock_of, view_of, correct_replicas, amply}

-- what is to happen in a world
abbrev pub Phase : Type 0
Phase = World → List Happening

-- these phases, each in the world that the one before it leaves
unfoldable pub in_turn : List Phase → Phase
in_turn [] w = []
in_turn (p ∷ ps) w = p w ++ in_turn ps (after w (p w))

-- ---- frames of the record

-- the numbers of these frames that pass, of which the first has this number
unfoldable pub numbers_of : (Frame → Bool) → ℕ → List Sent → List ℕ
numbers_of p k [] = []
numbers_of p k (s ∷ more) =
    if p s.frame then k ∷ numbers_of p (suc k) more else numbers_of p (suc k) more

-- of the frames that were sent since the record had so many, the numbers of those that pass
abbrev pub sent_since : ℕ → (Frame → Bool) → World → List ℕ
sent_since before p w = numbers_of p before (drop before w.sent)

unfoldable pub is_proposal : Frame → Bool
is_proposal (frame.proposal view core q v) = true
is_proposal f = false

unfoldable pub is_vote : Frame → Bool
is_vote (frame.vote d b) = true
is_vote f = false

unfoldable pub is_question : Frame → Bool
is_question (frame.fetch sender d t) = true
is_question f = false

unfoldable pub is_copy : Frame → Bool
is_copy (frame.block sender core q t) = true
is_copy f = false

unfoldable pub is_reply : Frame → Bool
is_reply (frame.reply replica client seq place text t) = true
is_reply f = false

-- each of these frames comes to each of these parties
unfoldable pub comes_to : List ℕ → List ℕ → List Event
comes_to [] frames = []
comes_to (p ∷ ps) frames = map (λ k. relay k p) frames ++ comes_to ps frames

-- the correct replicas, or the one party, that a frame goes to
unfoldable pub receivers : World → To → List ℕ
receivers w to_all = correct_replicas w
receivers w (to_party p) = p ∷ []

-- of these frames, of which the first has this number, those that pass come to whom they go
unfoldable pub delivered : (Frame → Bool) → World → ℕ → List Sent → List Event
delivered p w k [] = []
delivered p w k (s ∷ more) =
    if p s.frame then comes_to (receivers w s.to) (k ∷ []) ++ delivered p w (suc k) more
    else delivered p w (suc k) more

-- so do those that were sent since the record had so many
abbrev pub delivered_since : ℕ → (Frame → Bool) → World → List Event
delivered_since before p w = delivered p w before (drop before w.sent)

-- each of these frames is offered to each of these replicas, so that its certificate needn't be good there
unfoldable pub offered_to : List ℕ → List ℕ → List Event
offered_to [] frames = []
offered_to (r ∷ rs) frames = map (λ k. offer r (of_record k)) frames ++ offered_to rs frames

-- ---- views

-- the highest view of these replicas
unfoldable pub highest_view : World → List ℕ → ℕ
highest_view w [] = 0
highest_view w (r ∷ rs) = max (view_of w r) (highest_view w rs)

-- the first view from this one on that a replica leads, of so many
abbrev pub next_led : (replicas leader view : ℕ) → ℕ
next_led n l v = v + (l + (n - v % n)) % n

-- the first view above all those of correct replicas that this one leads
abbrev pub view_to_come : ℕ → World → ℕ
view_to_come l w = next_led (replicas w.sizes) l (suc (highest_view w (correct_replicas w)))

-- so many timeouts of a replica
unfoldable pub timeouts : ℕ → ℕ → List Event
timeouts r zero = []
timeouts r (suc n) = timeout r ∷ timeouts r n

-- those that bring it into this view
abbrev pub waits_until : ℕ → ℕ → Phase
waits_until v r w = amply (timeouts r (v - view_of w r))

-- all correct replicas come into this view
unfoldable pub come_to : ℕ → Phase
come_to v w = in_turn (map (waits_until v) (correct_replicas w)) w

-- ---- what the leader leads from

-- of these replicas the first of the highest lock
unfoldable pub highest_locked : World → List ℕ → ℕ
highest_locked w [] = 0
highest_locked w (r ∷ []) = r
highest_locked w (r ∷ s ∷ rs) =
    let best = highest_locked w (s ∷ rs) in
    if nat_lt (length (lock_of w r)) (length (lock_of w best)) then best else r

-- what a block justifies, where there is one
abbrev pub justified_by : Option Admitted → Branch
justified_by None = []
justified_by (Some a) = just1 a.branch

-- The block that justifies a replica's lock: the one that is justified by the oldest block that it took, of those whose
-- second justified block is the lock. Genesis if there is none.
abbrev pub over_lock : ℕ → World → Branch
over_lock l w =
    justified_by (find (λ a. branch_eq (just2 a.branch) (lock_of w l))
    (reverse (taken_blocks (chronicle_of w l))))

-- of these replicas those that never took a block
abbrev pub newcomers : World → List ℕ → List ℕ
newcomers w rs = filter (λ r. length (taken_blocks (chronicle_of w r)) == 0) rs

-- Who took any block may take one that justifies genesis, whatever its certificate. So where nothing above genesis justifies a
-- leader's lock, it makes a block on genesis, which comes to those that never took one: genesis's certificate is good for all.
unfoldable pub make_first : ℕ → Phase
make_first l w =
    if length (over_lock l w) == 0
    then in_turn ((λ v. amply (lead l (digest_of []) ∷ beat l ∷ []))
    ∷ (λ v. amply (comes_to (newcomers v (correct_replicas v)) (sent_since (length w.sent) is_proposal v))) ∷ []) w
    else []

-- a replica is told to lead from the block of this digest, and frame k, a request, comes to it
abbrev pub lead_with : ℕ → ℕ → Bytes → Phase
lead_with k l d w = amply (lead l d ∷ relay k l ∷ [])

-- ---- blocks that are asked for

-- a block and all below it, the lowest first
unfoldable pub lowest_first : Branch → List Branch
lowest_first [] = []
lowest_first (b ∷ parent) = lowest_first parent ++ (b ∷ parent) ∷ []

-- a replica asks one for a block, and its question comes there
unfoldable pub ask_one : Bytes → ℕ → ℕ → Phase
ask_one d u r w =
    in_turn ((λ v. amply (ask u r d ∷ []))
    ∷ (λ v. amply (delivered_since (length w.sent) is_question v)) ∷ []) w

-- it asks all correct ones
unfoldable pub ask_each : Bytes → ℕ → List ℕ → Phase
ask_each d u [] w = []
ask_each d u (r ∷ rs) w = ask_one d u r w ++ ask_each d u rs (after w (ask_one d u r w))

-- and gathers what they answered
unfoldable pub fetch_block : Bytes → ℕ → Phase
fetch_block d u w =
    in_turn (ask_each d u (correct_replicas w)
    ∷ (λ v. amply (gather u (map of_record (sent_since (length w.sent) is_copy v)) ∷ [])) ∷ []) w

-- these replicas lack the block
abbrev pub lacking : Bytes → World → List ℕ
lacking d w = filter (λ r. not (is_known d (chronicle_of w r))) (correct_replicas w)

-- they get it, one after the other
unfoldable pub fetch_for_all : Branch → Phase
fetch_for_all x w = in_turn (map (fetch_block (digest_of x)) (lacking (digest_of x) w)) w

-- all correct replicas get these blocks, one after the other
unfoldable pub fetch_all : List Branch → Phase
fetch_all xs = in_turn (map fetch_for_all xs)

-- ---- blocks that decide

-- a leader makes a block, and it is offered to itself
unfoldable pub make_block : ℕ → Phase
make_block l w =
    in_turn ((λ v. amply (beat l ∷ []))
    ∷ (λ v. amply (offered_to (l ∷ []) (sent_since (length w.sent) is_proposal v))) ∷ []) w

-- so many blocks
unfoldable pub make_blocks : ℕ → ℕ → Phase
make_blocks zero l w = []
make_blocks (suc n) l w = in_turn (make_block l ∷ make_blocks n l ∷ []) w

-- the greatest height that one of these replicas voted for
unfoldable pub highest_voted : World → List ℕ → ℕ
highest_voted w [] = 0
highest_voted w (r ∷ rs) = max (vheight (chronicle_of w r)) (highest_voted w rs)

-- how many blocks on its leaf it takes until one is higher than all that correct replicas voted for
abbrev pub to_climb : ℕ → World → ℕ
to_climb l w = suc (highest_voted w (correct_replicas w) - length (leaf (self_of w l) (chronicle_of w l)))

-- the correct replicas but this one
abbrev pub others : ℕ → World → List ℕ
others l w = filter (λ r. not (r == l)) (correct_replicas w)

-- A leader makes so many blocks, before anybody else is offered one. Then the others are offered all.
unfoldable pub burst : ℕ → ℕ → Phase
burst n l w =
    in_turn (make_blocks n l
    ∷ (λ v. amply (offered_to (others l v) (sent_since (length w.sent) is_proposal v))) ∷ []) w

-- A burst, and only then all votes on it come to all.
unfoldable pub round : ℕ → ℕ → Phase
round n l w =
    in_turn (burst n l
    ∷ (λ v. amply (comes_to (correct_replicas v) (sent_since (length w.sent) is_vote v))) ∷ []) w

-- A round to climb above all votes, and three more, which decide its last block.
unfoldable pub rounds : ℕ → ℕ → Phase
rounds n l w = in_turn (round n l ∷ round 1 l ∷ round 1 l ∷ round 1 l ∷ []) w

-- ---- the client

-- frame k, a request, comes to all correct replicas, and their replies to the client
unfoldable pub ask_again : ℕ → Phase
ask_again k w =
    let before = length w.sent in
    in_turn ((λ v. amply (comes_to (correct_replicas v) (k ∷ [])))
    ∷ (λ v. amply (delivered_since before is_reply v)) ∷ []) w

-- ---- all of it

-- Frame k is a client's request. A replica of the highest lock brings all into a view that it leads. All get what
-- justifies its lock. It leads from its lock, with that request alone, above all that was voted for; and three more
-- blocks decide.
unfoldable pub agree_on : ℕ → Phase
agree_on k w =
    let l = highest_locked w (correct_replicas w) in
    in_turn (come_to (view_to_come l w)
    ∷ make_first l
    ∷ fetch_all (lowest_first (over_lock l w))
    ∷ lead_with k l (digest_of (lock_of w l))
    ∷ (λ v. rounds (to_climb l v) l v) ∷ []) w

-- and the client hears of it
unfoldable pub heal : ℕ → Phase
heal k w = in_turn (agree_on k ∷ ask_again k ∷ []) w
