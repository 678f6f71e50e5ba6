-- A replica behind a doorkeeper refuses no block for the crowd of its height.
use Rattle.std.proofs.Common.{ℕ, suc, ◌≡◌, ◌+◌, ◌^◌, ◌<◌, ◌≤◌, Bool, false, not, List, [], ◌∷◌, ◌&&◌, ◌==◌}
use Rattle.std.proofs.Common.{length, map, filter, cond, refl, sym, ap, ◌∙◌, arith, Option, Some, None}
use Rattle.std.proofs.Common.{nat_lt}
use Rattle.std.proofs.lemmas.Bool.{cond_both, ne_eqb, ltb-false, not-true}
use Rattle.std.specs.List.{count_by, list_any}
use Rattle.ids.specs.Sizes.{leader}
use Rattle.ids.specs.declared.fault.Fault.{Fault}
use Rattle.ids.specs.declared.fault.Fault.TheVariants as fault
use Rattle.ids.specs.declared.limits.TheConstants.{MOST_BLOCKS, MOST_PENDING}
use Rattle.definitions.specs.Bytes.{Bytes}
use Rattle.definitions.specs.Frames.{Command, Core, Certificate}
use Rattle.definitions.specs.Branches.{Branch}
use Rattle.definitions.specs.Digests.{digest}
use Rattle.definitions.specs.Trees.{Stored, blocks, Placing, Placing.stands, Placing.grows}
use Rattle.definitions.specs.Trees.{Placing.lacks_parent, Placing.unfit, placing, placing_known, placing_new}
use Rattle.definitions.specs.Trees.{placing_over, find_in, justifies, block_of, is_in_reach}
use Rattle.definitions.specs.Chronicles.{Admitted, Step, Chronicle, taken_blocks, stored_block, stored_blocks}
use Rattle.definitions.specs.Chronicles.{standing_blocks, window, horizon, history, Step.noted}
use Rattle.definitions.specs.Chronicles.{Note.got_request}
use Rattle.definitions.specs.States.{is_due, is_same_request, pending}
use Rattle.definitions.specs.Checks.{Identity, Findings}
use Rattle.definitions.specs.Rulings.{Ruling, Ruling.refusing, Ruling.due, Input, Input.proposal_in}
use Rattle.definitions.specs.Rulings.{Input.block_in, Input.vote_in, Input.new_view_in, Input.request_in}
use Rattle.definitions.specs.Rulings.{Input.fetch_in, Input.timeout_in, Input.beat_in, Input.prune_in}
use Rattle.definitions.specs.Rulings.{Input.offered_in, Input.relayed_in, Input.lead_in, Input.ask_in}
use Rattle.definitions.specs.Rulings.{Input.view_in, Ruling.missing, ruling, on_block, on_placing, on_request}
use Rattle.definitions.specs.Rulings.{with_block, take_grounded, on_offer, on_relay, lead}
use Rattle.definitions.specs.Grounds.{are_replicas, may_lead_from}
use Rattle.doorkeeper.specs.declared.brought.Brought.{Brought}
use Rattle.doorkeeper.specs.Doors.{of_height, PassedAll, AreTakenIn, NoneCrowdedOut}
use Rattle.doorkeeper.proofs.Accounts.{count-cons, never-crowded}

-- ---- heights

-- counted by what they have, or in the list of it
count-map : {A : Type 0} (f : A → ℕ) (h : ℕ) (xs : List A)
    → count_by (λ x. f x == h) xs ≡ count_by (λ n. n == h) (map f xs)
count-map f h [] = refl
count-map f h (x ∷ xs) =
    count-cons (λ y. f y == h) x xs
    ∙ (ap (λ (k : ℕ). cond (f x == h) 1 0 + k) (count-map f h xs)
    ∙ sym (count-cons (λ n. n == h) (f x) (map f xs)))

-- of those that stand no more have a height above genesis than of all
standing-few : (h : ℕ) → 0 < h → (p : Stored → Bool) (stored : List Stored)
    → count_by (λ b. length b == h) (blocks (filter p stored)) ≤ count_by (λ s. length s.branch == h) stored
standing-few h some p [] =
    let none : (0 == h) ≡ false = ne_eqb 0 h (λ e. omega (arith, e, some)) in
    let count : count_by (λ (b : Branch). length b == h) ([] ∷ []) ≡ 0 =
    count-cons (λ (b : Branch). length b == h) [] [] ∙ ap (λ (t : Bool). cond t 1 0 + 0) none in
    omega (arith, count)
standing-few h some p (s ∷ older) =
    let rest = standing-few h some p older in
    cond_both (p s) (s ∷ filter p older) (filter p older)
    (λ (l : List Stored). count_by (λ b. length b == h) (blocks l)
    ≤ count_by (λ x. length x.branch == h) (s ∷ older))
    (λ _. omega (
      arith,
      rest,
      count-cons (λ b. length b == h) s.branch (blocks (filter p older)),
      count-cons (λ x. length x.branch == h) s older,
    ))
    (λ _. omega (arith, rest, count-cons (λ x. length x.branch == h) s older))

-- a stored block is as high as the taken one
stored-heights : (taken : List Admitted)
    → map (λ s. length s.branch) (map stored_block taken) ≡ map (λ a. length a.branch) taken
stored-heights [] = refl
stored-heights (a ∷ taken) = ap (λ (l : List ℕ). length a.branch ∷ l) (stored-heights taken)

-- no height of the window is full
window-few : (n : ℕ) (c : Chronicle) (taken : List Brought) → PassedAll n taken → AreTakenIn c taken
    → (h : ℕ) → 0 < h → count_by (λ x. length x == h) (window c) < 64
unfolding window standing_blocks stored_blocks
window-few n c taken passed those h some =
    let all : count_by (λ s. length s.branch == h) (stored_blocks c) ≡ of_height h taken =
    count-map (λ s. length s.branch) h (stored_blocks c)
    ∙ (ap (λ (l : List ℕ). count_by (λ n. n == h) l) (stored-heights (taken_blocks c) ∙ sym those)
    ∙ sym (count-map (λ b. b.height) h taken)) in
    omega (
      arith,
      all,
      never-crowded n h taken passed,
      standing-few h some (λ s. is_in_reach (horizon c) s.branch) (stored_blocks c),
    )

-- ---- blocks

-- what isn't crowded
IsRoomy : Placing → Type 0
IsRoomy p = p ≡ unfit fault.Crowded → ⊥

placed-new : (most : ℕ) (parent : Branch) (core : Core) (q : Certificate) (tree : List Branch)
    → ((h : ℕ) → 0 < h → count_by (λ x. length x == h) tree < 64)
    → IsRoomy (placing_new most parent core q tree)
unfolding placing_new IsRoomy
placed-new most parent core q tree few =
    cond_both (not (core.height == suc (length parent))) _ _ IsRoomy (λ _ e. cc) (λ _.
    cond_both (not (justifies q (block_of core ∷ parent))) _ _ IsRoomy (λ _ e. cc) (λ _.
    cond_both (not (nat_lt (count_by (λ x. length x == suc (length parent)) tree) 64)) _ _ IsRoomy
    (λ t e. full (ltb-false _ _ (not-true _ t)) (few (suc (length parent)) (omega arith))) (λ _.
    cond_both (not (nat_lt (length tree) most && nat_lt (suc (length parent)) (2 ^ 58))) _ _ IsRoomy
    (λ _ e. cc) (λ _ e. cc))))
  where
    full : {n : ℕ} → 64 ≤ n → n < 64 → ⊥
    full l s = omega arith

placed : (horizon most : ℕ) (core : Core) (q : Certificate) (tree : List Branch)
    → ((h : ℕ) → 0 < h → count_by (λ x. length x == h) tree < 64)
    → IsRoomy (placing horizon most core q tree)
unfolding placing placing_known IsRoomy
placed horizon most core q tree few = known (find_in (digest core) tree)
  where
    over : (o : Option Branch)
        → IsRoomy (elim o [ Some parent ↦ placing_new most parent core q tree | None ↦ lacks_parent ])
    over None = λ e. cc
    over (Some parent) = placed-new most parent core q tree few

    known : (o : Option Branch) → IsRoomy (elim o [
      | Some b ↦ placing_known horizon b q
      | None ↦ placing_over horizon most core q tree
    ])
    known (Some b) = cond_both (nat_lt _ horizon) _ _ IsRoomy (λ _ e. cc) (λ _.
        cond_both (justifies q b) _ _ IsRoomy (λ _ e. cc) (λ _ e. cc))
    known None = cond_both (nat_lt core.justify_height horizon) _ _ IsRoomy (λ _ e. cc) (λ _.
        over (find_in core.parent tree))

-- ---- inputs

-- an input isn't refused for the crowd of a height
IsTaken : Ruling → Type 0
IsTaken r = r ≡ refusing fault.Crowded → ⊥

due-taken : (s : Step) → IsTaken (due s)
unfolding IsTaken
due-taken s = λ e. cc

missing-taken : (sender : ℕ) (d : Bytes) → IsTaken (missing sender d)
unfolding IsTaken
missing-taken sender d = λ e. cc

other-taken : (n : Fault) → (n ≡ fault.Crowded → ⊥) → IsTaken (refusing n)
unfolding IsTaken
other-taken n d = λ e. d (cc)

ruled-block : (self : Identity) (w : Option ℕ) (sender : ℕ) (core : Core) (q : Certificate) (f : Findings)
    (c : Chronicle) (p : Placing) → IsRoomy p → IsTaken (on_placing self w sender core q f c p)
unfolding on_placing IsTaken IsRoomy
ruled-block self w sender core q f c (stands b) roomy = λ e. cc
ruled-block self w sender core q f c (grows b) roomy = λ e. cc
ruled-block self w sender core q f c lacks_parent roomy = λ e. cc
ruled-block self w sender core q f c (unfit n) roomy = λ e. roomy (ap unfit (cc))

ruled-known : (o : Option Branch) (sender : ℕ) (d : Bytes) (follows : Branch → Ruling)
    → ((b : Branch) → IsTaken (follows b)) → IsTaken (with_block o sender d follows)
unfolding IsTaken
ruled-known None sender d follows h = λ e. cc
ruled-known (Some b) sender d follows h = h b

ruled-request : (r : Command) (c : Chronicle) → IsTaken (on_request r c)
unfolding on_request
ruled-request r c =
    cond_both (is_due (history c) r && (not (list_any (is_same_request r) (pending c))
    && not (nat_lt (length (pending c)) MOST_PENDING)))
    (refusing fault.PoolFull) (due (noted (got_request r))) IsTaken
    (λ _. other-taken fault.PoolFull (λ e. cc)) (λ _. due-taken (noted (got_request r)))

ruled-lead : (self : Identity) (o : Option Branch) (c : Chronicle) → IsTaken (lead self o c)
ruled-lead self None c = other-taken fault.UnknownParent (λ e. cc)
ruled-lead self (Some b) c =
    cond_both (may_lead_from self b c) _ _ IsTaken (λ _. due-taken _)
    (λ _. other-taken fault.UnknownParent (λ e. cc))

ruled-grounded : (self : Identity) (w : Option ℕ) (o : Option Admitted) (c : Chronicle)
    → IsTaken (take_grounded self w o c)
ruled-grounded self w None c = other-taken fault.BadTag (λ e. cc)
ruled-grounded self w (Some a) c = due-taken _

ruled-offer : (self : Identity) (w : Option ℕ) (sender : ℕ) (core : Core) (q : Certificate) (f : Findings)
    (c : Chronicle) (p : Placing) → IsRoomy p → IsTaken (on_offer self w sender core q f c p)
unfolding on_offer IsTaken IsRoomy
ruled-offer self w sender core q f c (stands b) roomy = λ e. cc
ruled-offer self w sender core q f c (grows b) roomy = ruled-grounded self w _ c
ruled-offer self w sender core q f c lacks_parent roomy = λ e. cc
ruled-offer self w sender core q f c (unfit n) roomy = λ e. roomy (ap unfit (cc))

ruled-relay : (self : Identity) (senders : List ℕ) (core : Core) (q : Certificate) (f : Findings) (c : Chronicle)
    (p : Placing) → IsRoomy p → IsTaken (on_relay self senders core q f c p)
unfolding on_relay IsTaken IsRoomy
ruled-relay self senders core q f c (stands b) roomy = λ e. cc
ruled-relay self senders core q f c (grows b) roomy =
    cond_both (are_replicas self.sizes (suc self.sizes.faults) senders) _ _ IsTaken (λ _. due-taken _)
    (λ _. other-taken fault.BadTag (λ e. cc))
ruled-relay self senders core q f c lacks_parent roomy = λ e. cc
ruled-relay self senders core q f c (unfit n) roomy = λ e. roomy (ap unfit (cc))

-- whatever block comes, as a proposal or not
block-taken : (self : Identity) (w : Option ℕ) (sender : ℕ) (core : Core) (q : Certificate) (f : Findings)
    (c : Chronicle) (n : ℕ) (taken : List Brought) → PassedAll n taken → AreTakenIn c taken
    → IsTaken (on_block self w sender core q f c)
block-taken self w sender core q f c n taken passed those =
    ruled-block self w sender core q f c _
    (placed (horizon c) MOST_BLOCKS core q (window c) (window-few n c taken passed those))

none-out : (self : Identity) (i : Input) (c : Chronicle) (n : ℕ) (taken : List Brought) → PassedAll n taken
    → AreTakenIn c taken → IsTaken (ruling self i c)
unfolding ruling
none-out self (proposal_in w core q f) c n taken passed those =
    block-taken self (Some w) (leader self.sizes w) core q f c n taken passed those
none-out self (block_in sender core q f) c n taken passed those =
    block-taken self None sender core q f c n taken passed those
none-out self (vote_in d b) c n taken passed those = ruled-known _ _ _ _ (λ x. due-taken _)
none-out self (new_view_in w sender q) c n taken passed those = ruled-known _ _ _ _ (λ x. due-taken _)
none-out self (request_in r) c n taken passed those = ruled-request r c
none-out self (fetch_in sender d) c n taken passed those = due-taken _
none-out self timeout_in c n taken passed those = due-taken _
none-out self beat_in c n taken passed those = due-taken _
none-out self (prune_in height) c n taken passed those = due-taken _
none-out self (offered_in w sender core q f) c n taken passed those =
    ruled-offer self w sender core q f c _
    (placed (horizon c) MOST_BLOCKS core q (window c) (window-few n c taken passed those))
none-out self (relayed_in senders core q f) c n taken passed those =
    ruled-relay self senders core q f c _
    (placed (horizon c) MOST_BLOCKS core q (window c) (window-few n c taken passed those))
none-out self (lead_in d) c n taken passed those = ruled-lead self _ c
none-out self (ask_in replica d) c n taken passed those = missing-taken replica d
none-out self (view_in w sender) c n taken passed those = due-taken _

pub none-crowded-out : NoneCrowdedOut
unfolding IsTaken
none-crowded-out = none-out
