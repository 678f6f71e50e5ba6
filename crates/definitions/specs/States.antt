-- The rest of a replica's state, read off its whole chronicle: views, votes, certificates, pending
-- requests, and what to propose (HotStuff, PODC 2019, the event-driven form; the pacemaker is this
-- project's own).
use Rattle.ids.specs.declared.limits.TheConstants.{MOST_COMMANDS}
use Rattle.std.specs.Prelude.{ℕ, suc, ◌-◌, ◌^◌, ◌==◌, ◌&&◌, ◌||◌, not, Bool, true, false, List, [], ◌∷◌, ◌++◌, map, filter}
use Rattle.std.specs.Prelude.{take, length, min, max, if◌then◌else◌, nat_lt, nat_le, Option, Some, None}
use Rattle.std.specs.Prelude.{is_some}
use Rattle.std.specs.List.{list_any}
use Rattle.definitions.specs.Lists.{greatest, count_below}
use Rattle.definitions.specs.Frames.{Command, Vote, Certificate, genesis_core}
use Rattle.definitions.specs.Branches.{Branch, branch_eq, just1}
use Rattle.definitions.specs.Bytes.{Bytes}
use Rattle.ids.specs.Sizes.{Sizes, replicas, quorum, leader}
use Rattle.definitions.specs.Digests.{digest, digest_of}
use Rattle.definitions.specs.Trees.{find_in}
use Rattle.definitions.specs.Histories.{History, last_seq, history_of}
use Rattle.definitions.specs.Chronicles.{Step, Step.took_block, Step.noted, Note.got_vote}
use Rattle.definitions.specs.Chronicles.{Note.got_new_view, Note.got_request, Note.timed_out, Note.beat}
use Rattle.definitions.specs.Chronicles.{Note.seen_view, Note.led_from}
use Rattle.definitions.specs.Chronicles.{Chronicle, history, horizon, window}
use Rattle.definitions.specs.Checks.{Identity}

-- each view that a replica announced, with its number
unfoldable pub announcements : Chronicle → List (ℕ × ℕ)
announcements [] = []
announcements (noted (got_new_view view sender q b) ∷ earlier) = (sender, view) ∷ announcements earlier
announcements (noted (seen_view view sender) ∷ earlier) = (sender, view) ∷ announcements earlier
announcements (s ∷ earlier) = announcements earlier

-- the greatest view that a replica announced
unfoldable pub announced : ℕ → Chronicle → ℕ
announced replica c = greatest (map (λ p. p.1) (filter (λ p. p.0 == replica) (announcements c)))

-- the greatest view that more than f replicas have announced or passed
unfoldable pub reached_view : Sizes → Chronicle → ℕ
reached_view s c =
    greatest (filter (λ v. nat_lt s.faults (count_below (replicas s) (λ i. nat_le v (announced i c))))
    (map (λ p. p.1) (announcements c)))

-- the view: a timeout adds one, and new-view messages raise it
unfoldable pub view : Sizes → Chronicle → ℕ
view s [] = 0
view s (noted timed_out ∷ earlier) = min (suc (view s earlier)) (2 ^ 64 - 1)
view s (noted (got_new_view w sender q b) ∷ earlier) =
    max (view s earlier) (reached_view s (noted (got_new_view w sender q b) ∷ earlier))
view s (noted (seen_view w sender) ∷ earlier) =
    max (view s earlier) (reached_view s (noted (seen_view w sender) ∷ earlier))
view s (x ∷ earlier) = view s earlier

-- the kept votes for a block, one a voter and at most a quorum, newest first; a lead forgets them
unfoldable pub votes : Sizes → Branch → Chronicle → List Vote
votes s block [] = []
votes s block (noted (got_vote voter v b) ∷ earlier) =
    if branch_eq b block
    && (not (list_any (λ x. x.voter == voter) (votes s block earlier))
    && nat_lt (length (votes s block earlier)) (quorum s))
    then record { voter = voter; vector = v } ∷ votes s block earlier
    else votes s block earlier
votes s block (noted (led_from b) ∷ earlier) = []
votes s block (x ∷ earlier) = votes s block earlier

-- put before the first of a greater voter
unfoldable pub insert_vote : Vote → List Vote → List Vote
insert_vote b [] = b ∷ []
insert_vote b (x ∷ xs) = if nat_lt b.voter x.voter then b ∷ x ∷ xs else x ∷ insert_vote b xs

-- votes by number of voter
unfoldable pub by_voter : List Vote → List Vote
by_voter [] = []
by_voter (b ∷ bs) = insert_vote b (by_voter bs)

-- A certificate with its block.
pub record Justified : Type 0 where
  pub block : Branch
  pub certificate : Certificate

-- the certificate that a step brings or completes, if any
unfoldable pub raised : Sizes → Step → Chronicle → Option Justified
raised s (took_block a) earlier =
    if a.new then Some (record { block = just1 a.branch; certificate = a.certificate }) else None
raised s (noted (got_new_view w sender q b)) earlier = Some (record { block = b; certificate = q })
raised s (noted (got_vote voter v b)) earlier =
    if nat_lt (length (votes s b earlier)) (quorum s)
    && (length (votes s b (noted (got_vote voter v b) ∷ earlier)) == quorum s)
    then Some (record {
      block = b;
      certificate =
          record {
            digest = digest_of b;
            votes = by_voter (votes s b (noted (got_vote voter v b) ∷ earlier));
          };
    })
    else None
raised s x earlier = None

-- p has votes, and q, which is for the same block above genesis, has none
abbrev pub fills : Justified → Justified → Bool
fills p q =
    (nat_lt 0 (length q.block) && branch_eq p.block q.block)
    && (length q.certificate.votes == 0 && nat_lt 0 (length p.certificate.votes))

-- a step brings a certificate whole, where it has one: votes make theirs here
abbrev pub comes_whole : Step → Bool
comes_whole (noted (got_vote voter v b)) = false
comes_whole s = true

-- the one of the greater height, the older one where they are equal, but for one without votes, which one
-- that came whole may fill
abbrev pub higher : (whole : Bool) → Option Justified → Justified → Justified
higher whole None q = q
higher whole (Some p) q =
    if nat_lt (length q.block) (length p.block) || (whole && fills p q) then p else q

-- what a lead from b leaves of the highest certificate: itself where it is for b, else one without votes
abbrev pub led : Branch → Justified → Justified
led b q =
    if branch_eq q.block b then q
    else record { block = b; certificate = record { digest = digest_of b; votes = [] } }

-- the first certificate of the greatest height, since the last lead
unfoldable pub qc_high : Sizes → Chronicle → Justified
qc_high s [] = record { block = []; certificate = record { digest = digest genesis_core; votes = [] } }
qc_high s (noted (led_from b) ∷ earlier) = led b (qc_high s earlier)
qc_high s (x ∷ earlier) = higher (comes_whole x) (raised s x earlier) (qc_high s earlier)

-- requests in order of arrival that aren't overtaken by the history
abbrev pub is_same_request : Command → Command → Bool
is_same_request a b = (a.client == b.client) && (a.seq == b.seq)

-- the request's number is above the last executed one of its client
unfoldable pub is_due : History → Command → Bool
is_due h r = nat_lt (last_seq r.client h) r.seq

-- a new request is added last
abbrev pub with_request : Step → List Command → List Command
with_request (noted (got_request r)) ps = if list_any (is_same_request r) ps then ps else ps ++ r ∷ []
with_request s ps = ps

-- the requests that wait; a lead forgets them, and clients send theirs again
unfoldable pub pending : Chronicle → List Command
pending [] = []
pending (noted (led_from b) ∷ earlier) = []
pending (s ∷ earlier) = filter (is_due (history (s ∷ earlier))) (with_request s (pending earlier))

-- the replica's own number
abbrev pub me : Identity → ℕ
me self = self.ring.party

-- whether it leads its view
unfoldable pub leads : Identity → Chronicle → Bool
leads self c = leader self.sizes (view self.sizes c) == me self

-- the block of this digest, as its branch
unfoldable pub find_block : Bytes → Chronicle → Option Branch
find_block d c = find_in d (window c)

-- whether a block of this digest stands in the tree
unfoldable pub is_known : Bytes → Chronicle → Bool
is_known d c = is_some (find_block d c)

-- the pending requests that do not stand on the branch above the horizon, 16 at most
unfoldable pub picks : Chronicle → Branch → List Command
picks c on = take MOST_COMMANDS (filter
    (λ r. not (list_any (λ e. (e.client == r.client) && (e.seq == r.seq))
    (history_of (take (length on - horizon c) on)))) (pending c))

-- the first, where there is one
abbrev pub or_else : {A : Type 0} → Option A → A → A
or_else None x = x
or_else (Some y) x = y

-- the block of the tree that has the digest of this leaf, by whose branch commands are picked
abbrev pub known_as : Branch → Chronicle → Branch
known_as leaf c = or_else (find_block (digest_of leaf) c) leaf

-- the child that a beat makes on this leaf
unfoldable pub child : Identity → Chronicle → Branch → Option Branch
child self c leaf =
    if leads self c && is_known (digest_of leaf) c
    then Some (record {
      commands = picks c (known_as leaf c);
      justify = length (qc_high self.sizes c).block;
    } ∷ leaf)
    else None

-- the block that the next proposal stands on (HotStuff, PODC 2019, b_leaf)
unfoldable pub leaf : Identity → Chronicle → Branch
leaf self [] = []
leaf self (noted beat ∷ earlier) = or_else (child self earlier (leaf self earlier)) (leaf self earlier)
leaf self (noted (led_from b) ∷ earlier) = b
leaf self (s ∷ earlier) =
    if nat_lt (length (qc_high self.sizes earlier).block) (length (qc_high self.sizes (s ∷ earlier)).block)
    then (qc_high self.sizes (s ∷ earlier)).block
    else leaf self earlier

-- the own last proposal
abbrev pub made_with : Option Branch → Certificate → Option Justified → Option Justified
made_with None q before = before
made_with (Some b) q before = Some (record { block = b; certificate = q })

-- the last block that it made, with the certificate that went along
unfoldable pub proposed : Identity → Chronicle → Option Justified
proposed self [] = None
proposed self (noted beat ∷ earlier) =
    made_with (child self earlier (leaf self earlier)) (qc_high self.sizes earlier).certificate
    (proposed self earlier)
proposed self (s ∷ earlier) = proposed self earlier
