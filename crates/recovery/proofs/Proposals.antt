-- A correct leader's block is taken on grounds, and voted for.
use Rattle.ids.specs.declared.fault.Fault.TheVariants as fault
use Rattle.ids.specs.declared.limits.TheConstants.{MOST_BLOCKS}
use Rattle.ids.specs.declared.kind.Kind.TheVariants as kind
use Rattle.std.proofs.Common.{ℕ, suc, ◌≡◌, ◌⊎◌, ◌&&◌, ◌==◌, Bool, true, false, cond, List, [], ◌∷◌}
use Rattle.std.proofs.Common.{length, map, filter, take, true≢false, refl, sym, ap, subst, ◌∙◌, arith, inl, inr, nat_lt}
use Rattle.std.proofs.Common.{Option, Some}
use Rattle.std.specs.List.{list_all}
use Rattle.std.proofs.lemmas.Bool.{and_from, or_left, or_right, cond-true, cond-false, cond_both, eq-eqb, and_parts}
use Rattle.std.proofs.lemmas.Bool.{cases_Bool}
use Rattle.std.proofs.lemmas.List.{take_all}
use Rattle.std.specs.Cmp.Lexicographic.{bytes_decides}
use Rattle.ids.specs.Sizes.{Sizes, leader, quorum}
use Rattle.definitions.specs.Bytes.{Bytes}
use Rattle.definitions.specs.Lists.{Among}
use Rattle.definitions.specs.Branches.{Block, Branch, just1, justify_height, branch_eq}
use Rattle.definitions.specs.Chronicles.{Admitted, Chronicle, Step.took_block, window, horizon, standing_blocks}
use Rattle.definitions.specs.Chronicles.{stored_blocks, stored_block, taken_blocks, is_safe}
use Rattle.definitions.specs.Digests.{core_of, core_over, AllKnown, digest, digest_of}
use Rattle.definitions.specs.Frames.{Core, Certificate, Vote, Frame, genesis_core, proposal_content}
use Rattle.definitions.specs.Frames as frame
use Rattle.definitions.specs.Keyrings.{vector_for}
use Rattle.definitions.specs.Checks.{Identity, command_verifies, cut, findings, is_good, is_genesis, vote_verifies}
use Rattle.definitions.specs.Checks.{is_clear_core}
use Rattle.definitions.specs.Grounds.{is_justified, is_own_certified, grounded}
use Rattle.definitions.specs.Rulings.{Input, Input.proposal_in, Input.offered_in, Ruling, Ruling.due}
use Rattle.definitions.specs.Rulings.{admitted, on_placing}
use Rattle.definitions.specs.Rulings.{on_offer, take_block, take_grounded, ruling, votes_for}
use Rattle.definitions.specs.Sendings.{proposal_frame}
use Rattle.definitions.specs.States.{view}
use Rattle.definitions.specs.Trees.{Stored, Placing, is_clear, clear_above, standing, placing}
use Rattle.definitions.specs.Worlds.{World, is_correct, self_of}
use Rattle.definitions.specs.Admission.{Checked, Checked.passes, Checked.rejected, own_tag_verifies, check}
use Rattle.definitions.specs.Admission.{check_offer}
use Rattle.definitions.specs.Premises.{CoreOf}
use Rattle.definitions.proofs.Branches.{branch_eq-decides}
use Rattle.definitions.proofs.Horizons.{window-grown, window-tree}
use Rattle.linear_law.proofs.Runs.{member-faulty}
use Rattle.recovery.specs.Correct.{ShareKeys, chronicle_of, view_of}
use Rattle.recovery.specs.Fetching.{HasPlace}
use Rattle.recovery.specs.Rounds.{MayVoteFor, IsProposalOf, ProposalsAreTaken}
use Rattle.recovery.proofs.Copies.{vector-verifies, correct-party}
use Rattle.recovery.proofs.Wells.{IsReached, reached, sound-of, known-of, one-branch}
use Rattle.recovery.proofs.Firsts.{IsPlain}
use Rattle.recovery.proofs.Places.{IsPlaced, placed}
use Rattle.recovery.proofs.Marks.{stands-clear}

-- a replica may vote for the block, and finds it clear where it stands
pub record MayVote (w : World) (u v : ℕ) (b : Block) (parent : Branch) : Type 0 where
  pub in_view : view_of w u ≡ v
  pub safe : is_safe (b ∷ parent) (chronicle_of w u) ≡ true
  pub commands : list_all (command_verifies (self_of w u)) b.commands ≡ true
  pub clear_below : clear_above b.justify parent (standing_blocks (chronicle_of w u)) ≡ true
  pub clear_there : Among (b ∷ parent) (window (chronicle_of w u))
      → is_clear (b ∷ parent) (standing_blocks (chronicle_of w u)) ≡ true

-- what was checked passes, and comes to a step by which the replica takes the block
abbrev pub TakenIn : World → ℕ → ℕ → Checked → Block → Branch → Type 0
TakenIn w u v checked b parent =
    (i : Input) × (a : Admitted) × (checked ≡ passes i)
    × (ruling (self_of w u) i (chronicle_of w u) ≡ due (took_block a)) × (a.branch ≡ b ∷ parent)
    × (MayVote w u v b parent → a.voted ≡ true)

-- ---- votes

-- more blocks leave what is clear so
pub clear-more : (height : ℕ) (b : Branch) (s : Stored) (stored : List Stored) → clear_above height b stored ≡ true
    → clear_above height b (s ∷ stored) ≡ true
unfolding clear_above is_clear
clear-more height [] s stored h = refl
clear-more height (b ∷ parent) s stored h = by (nat_lt height (suc (length parent))) h
    (clear-more height parent s stored)
  where
    by : (t : Bool)
        → cond t (is_clear (b ∷ parent) stored && clear_above height parent stored) true ≡ true
        → (clear_above height parent stored ≡ true → clear_above height parent (s ∷ stored) ≡ true)
        → cond t (is_clear (b ∷ parent) (s ∷ stored) && clear_above height parent (s ∷ stored)) true ≡ true
    by true e rest =
        let p = and_parts (is_clear (b ∷ parent) stored) (clear_above height parent stored) e in
        and_from _ _ (or_right (s.clear && branch_eq s.branch (b ∷ parent)) (is_clear (b ∷ parent) stored) p.0)
        (rest p.1)
    by false e rest = refl

-- a clear block over a parent that is clear down to what the block justifies
pub clear-over : (height : ℕ) (b : Block) (parent : Branch) (stored : List Stored) → is_clear (b ∷ parent) stored ≡ true
    → clear_above height parent stored ≡ true → clear_above height (b ∷ parent) stored ≡ true
unfolding clear_above
clear-over height b parent stored h k =
    cond_both (nat_lt height (suc (length parent)))
    (is_clear (b ∷ parent) stored && clear_above height parent stored) true (λ (t : Bool). t ≡ true)
    (λ e. and_from _ _ h k) (λ e. refl)

-- a block that was just taken as a clear one
pub clear-first : (a : Admitted) (x : Branch) (stored : List Stored) → a.branch ≡ x → a.clear ≡ true
    → is_clear x (stored_block a ∷ stored) ≡ true
unfolding is_clear
clear-first a x stored e h =
    or_left (a.clear && branch_eq a.branch x) _ (and_from _ _ h ((branch_eq-decides a.branch x).1 e))

-- where all is clear, safe and of this view, the vote is given
votes-true : (s : Sizes) (v : ℕ) (a : Admitted) (c : Chronicle) (b : Block) (parent : Branch)
    → a.branch ≡ b ∷ parent → view s c ≡ v → is_safe (b ∷ parent) c ≡ true
    → clear_above b.justify (b ∷ parent) (standing_blocks (took_block a ∷ c)) ≡ true
    → votes_for s (Some v) a c ≡ true
unfolding votes_for justify_height
votes-true s v a c b parent e w safe clear =
    and_from (v == view s c) _ (eq-eqb v (view s c) (sym w))
    (subst (λ (x : Branch).
    (is_safe x c && clear_above (justify_height x) x (standing_blocks (took_block a ∷ c))) ≡ true) (sym e)
    (and_from _ _ safe clear))

-- so it is for a new block
votes-new : (w : World) (u v : ℕ) (a : Admitted) (b : Block) (parent : Branch) → a.branch ≡ b ∷ parent
    → a.new ≡ true → a.clear ≡ list_all (command_verifies (self_of w u)) b.commands
    → HasPlace (chronicle_of w u) b parent → MayVote w u v b parent
    → votes_for w.sizes (Some v) a (chronicle_of w u) ≡ true
votes-new w u v a b parent e new clear place may =
    let c : Chronicle = chronicle_of w u in
    let long = ap (λ (x : Branch). length x) e in
    let reach = place.reach in
    let below = place.below in
    votes-true w.sizes v a c b parent e may.in_view may.safe
    (subst (λ (l : List Stored). clear_above b.justify (b ∷ parent) l ≡ true)
    (sym (window-grown a c new (omega (arith, long, reach, below))))
    (clear-over b.justify b parent (stored_block a ∷ standing_blocks c)
    (clear-first a (b ∷ parent) (standing_blocks c) e (clear ∙ may.commands))
    (clear-more b.justify parent (stored_block a) (standing_blocks c) may.clear_below)))

-- a block that stands already leaves what stands
pub standing-old : (a : Admitted) (c : Chronicle) → a.new ≡ false
    → standing_blocks (took_block a ∷ c) ≡ standing_blocks c
unfolding standing_blocks stored_blocks taken_blocks horizon
standing-old a c old =
    ap (λ (l : List Admitted). standing (horizon c) (map stored_block l))
    (cond-false a.new (a ∷ taken_blocks c) (taken_blocks c) old)

-- and it is for one that stands
votes-old : (w : World) (u v : ℕ) (a : Admitted) (b : Block) (parent : Branch) → a.branch ≡ b ∷ parent
    → a.new ≡ false → Among (b ∷ parent) (window (chronicle_of w u)) → MayVote w u v b parent
    → votes_for w.sizes (Some v) a (chronicle_of w u) ≡ true
votes-old w u v a b parent e old there may =
    let c : Chronicle = chronicle_of w u in
    votes-true w.sizes v a c b parent e may.in_view may.safe
    (subst (λ (l : List Stored). clear_above b.justify (b ∷ parent) l ≡ true) (sym (standing-old a c old))
    (clear-over b.justify b parent (standing_blocks c) (may.clear_there there) may.clear_below))

-- ---- rulings

-- the block is new, and clear as its commands are; or it stands there
abbrev pub IsFresh : World → ℕ → Block → Branch → Admitted → Type 0
IsFresh w u b parent a =
    ((a.new ≡ true) × (a.clear ≡ list_all (command_verifies (self_of w u)) b.commands))
    ⊎ ((a.new ≡ false) × Among (b ∷ parent) (window (chronicle_of w u)))

-- a ruling by which the replica takes the block, and votes for it where it may
abbrev pub Takes : World → ℕ → ℕ → Block → Branch → Ruling → Type 0
Takes w u v b parent r =
    (a : Admitted) × (r ≡ due (took_block a)) × (a.branch ≡ b ∷ parent)
    × (MayVote w u v b parent → a.voted ≡ true) × IsFresh w u b parent a

takes-new : (w : World) (u v : ℕ) (b : Block) (parent : Branch) (a : Admitted)
    → HasPlace (chronicle_of w u) b parent → a.branch ≡ b ∷ parent → a.new ≡ true
    → a.clear ≡ list_all (command_verifies (self_of w u)) b.commands
    → Takes w u v b parent (take_block (self_of w u) (Some v) a (chronicle_of w u))
takes-new w u v b parent a place e new clear =
    (_, refl, e, λ may. votes-new w u v a b parent e new clear place may, inl (new, clear))

takes-old : (w : World) (u v : ℕ) (b : Block) (parent : Branch) (a : Admitted)
    → Among (b ∷ parent) (window (chronicle_of w u)) → a.branch ≡ b ∷ parent → a.new ≡ false
    → Takes w u v b parent (take_block (self_of w u) (Some v) a (chronicle_of w u))
takes-old w u v b parent a there e old = (
  _,
  refl,
  e,
  λ may. votes-old w u v a b parent e old there may,
  inr
      (old, there),
)

-- what it finds of the block's commands
clear-core : (self : Identity) (b : Block) (parent : Branch)
    → is_clear_core self (core_of (b ∷ parent)) ≡ list_all (command_verifies self) b.commands
unfolding is_clear_core core_of core_over
clear-core self b parent = refl

-- where the certificate is good
placing-takes : (w : World) (u v sender : ℕ) (b : Block) (parent : Branch) (q : Certificate) (place : Placing)
    → HasPlace (chronicle_of w u) b parent → IsPlaced (chronicle_of w u) (b ∷ parent) place
    → Takes w u v b parent
    (on_placing (self_of w u) (Some v) sender (core_of (b ∷ parent)) q
    (findings (self_of w u) (core_of (b ∷ parent)) q) (chronicle_of w u) place)
unfolding on_placing admitted
placing-takes w u v sender b parent q place has (inl (e, there)) =
    subst (λ (p : Placing). Takes w u v b parent (on_placing (self_of w u) (Some v) sender (core_of (b ∷ parent)) q
    (findings (self_of w u) (core_of (b ∷ parent)) q) (chronicle_of w u) p)) (sym e)
    (takes-old w u v b parent _ there refl refl)
placing-takes w u v sender b parent q place has (inr e) =
    subst (λ (p : Placing). Takes w u v b parent (on_placing (self_of w u) (Some v) sender (core_of (b ∷ parent)) q
    (findings (self_of w u) (core_of (b ∷ parent)) q) (chronicle_of w u) p)) (sym e)
    (takes-new w u v b parent _ has refl refl (clear-core (self_of w u) b parent))

-- a block that is taken on grounds
grounded-takes : (w : World) (u v : ℕ) (b : Block) (parent : Branch) (a : Admitted)
    → HasPlace (chronicle_of w u) b parent → a.branch ≡ b ∷ parent → a.new ≡ true
    → a.clear ≡ list_all (command_verifies (self_of w u)) b.commands
    → (is_justified (just1 (b ∷ parent)) (chronicle_of w u) ≡ true)
    ⊎ (is_own_certified (self_of w u) (just1 (b ∷ parent)) (chronicle_of w u) ≡ true)
    → Takes w u v b parent
    (take_grounded (self_of w u) (Some v) (grounded (self_of w u) a (chronicle_of w u)) (chronicle_of w u))
unfolding grounded
grounded-takes w u v b parent a has e new clear grounds =
    let self : Identity = self_of w u in
    let c : Chronicle = chronicle_of w u in
    let x : Branch = just1 a.branch in
    let i : x ≡ just1 (b ∷ parent) = ap just1 e in
    let P : Option Admitted → Type 0 = λ o. Takes w u v b parent (take_grounded self (Some v) o c) in
    cond_both (is_justified x c) _ _ P (λ t. takes-new w u v b parent _ has e new clear) (λ f.
    cond_both (is_own_certified self x c) _ _ P (λ t. takes-new w u v b parent _ has e new clear)
    (λ n. absurd (elim grounds [
      | inl j ↦ true≢false (sym j ∙ (ap (λ (z : Branch). is_justified z c) (sym i) ∙ f))
      | inr j ↦ true≢false (sym j ∙ (ap (λ (z : Branch). is_own_certified self z c) (sym i) ∙ n))
    ])))

-- where it is offered
offer-takes : (w : World) (u v sender : ℕ) (b : Block) (parent : Branch) (q : Certificate) (place : Placing)
    → HasPlace (chronicle_of w u) b parent → IsPlaced (chronicle_of w u) (b ∷ parent) place
    → (is_justified (just1 (b ∷ parent)) (chronicle_of w u) ≡ true)
    ⊎ (is_own_certified (self_of w u) (just1 (b ∷ parent)) (chronicle_of w u) ≡ true)
    → Takes w u v b parent
    (on_offer (self_of w u) (Some v) sender (core_of (b ∷ parent)) q
    (findings (self_of w u) (core_of (b ∷ parent)) q) (chronicle_of w u) place)
unfolding on_offer admitted
offer-takes w u v sender b parent q place has (inl (e, there)) grounds =
    subst (λ (p : Placing). Takes w u v b parent (on_offer (self_of w u) (Some v) sender (core_of (b ∷ parent)) q
    (findings (self_of w u) (core_of (b ∷ parent)) q) (chronicle_of w u) p)) (sym e)
    (takes-old w u v b parent _ there refl refl)
offer-takes w u v sender b parent q place has (inr e) grounds =
    subst (λ (p : Placing). Takes w u v b parent (on_offer (self_of w u) (Some v) sender (core_of (b ∷ parent)) q
    (findings (self_of w u) (core_of (b ∷ parent)) q) (chronicle_of w u) p)) (sym e)
    (grounded-takes w u v b parent _ has refl refl (clear-core (self_of w u) b parent) grounds)

-- ---- the frame

-- what a proposal's parts come to at a replica for which its own tag verifies
pub record IsShown (w : World) (u v : ℕ) (b : Block) (parent : Branch) (f : Frame) : Type 0 where
  pub come : (check (self_of w u) f ≡ rejected fault.BadTag) ⊎ TakenIn w u v (check (self_of w u) f) b parent
  pub input : Input
  pub offered : check_offer (self_of w u) f ≡ passes input
  pub takes : Takes w u v b parent (ruling (self_of w u) input (chronicle_of w u))

proposal-shown : (w : World) (u v : ℕ) (b : Block) (parent : Branch) (q : Certificate) (vec : Bytes)
    → own_tag_verifies (self_of w u) (frame.proposal v (core_of (b ∷ parent)) q vec) ≡ true
    → HasPlace (chronicle_of w u) b parent
    → IsPlaced (chronicle_of w u) (b ∷ parent)
    (placing (horizon (chronicle_of w u)) MOST_BLOCKS (core_of (b ∷ parent)) q (window (chronicle_of w u)))
    → (is_justified (just1 (b ∷ parent)) (chronicle_of w u) ≡ true)
    ⊎ (is_own_certified (self_of w u) (just1 (b ∷ parent)) (chronicle_of w u) ≡ true)
    → IsShown w u v b parent (frame.proposal v (core_of (b ∷ parent)) q vec)
unfolding check check_offer ruling
proposal-shown w u v b parent q vec tag has place grounds =
    let self : Identity = self_of w u in
    let core : Core = core_of (b ∷ parent) in
    let p = placing-takes w u v (leader w.sizes v) b parent q _ has place in
    let o = offer-takes w u v (leader w.sizes v) b parent q _ has place grounds in
    record {
      come = elim (cases_Bool (is_good self q)) [
        | inl t ↦ inr (
          proposal_in v core q (findings self core q),
          p.0,
          cond-true _ _ _ (and_from _ _ tag t),
          p.1,
          p.2,
          p.3,
        )
        | inr n ↦ inl (cond-false _ _ _ (ap (λ (t : Bool). t && is_good self q) tag ∙ n))
      ];
      input = offered_in (Some v) (leader w.sizes v) core q (findings self core q);
      offered = cond-true _ _ _ tag;
      takes = o;
    }

-- what is known of a correct leader's proposal where it comes
record IsReceived (w : World) (u v : ℕ) (b : Block) (parent : Branch) (q : Certificate) (f : Frame) : Type 0 where
  vector : Bytes
  is : f ≡ frame.proposal v (core_of (b ∷ parent)) q vector
  verifies : own_tag_verifies (self_of w u) (frame.proposal v (core_of (b ∷ parent)) q vector) ≡ true
  place : IsPlaced (chronicle_of w u) (b ∷ parent)
      (placing (horizon (chronicle_of w u)) MOST_BLOCKS (core_of (b ∷ parent)) q (window (chronicle_of w u)))

proposal-received : (Known : Core → Type 0) (w : World) → IsReached Known w → ShareKeys w → (u v : ℕ)
    → is_correct w u ≡ true → (b : Block) (parent : Branch) (f : Frame) → (made : IsProposalOf w v b parent f)
    → HasPlace (chronicle_of w u) b parent
    → IsReceived w u v b parent (cut (self_of w (leader w.sizes v)) made.made.certificate) f
unfolding proposal_frame cut
proposal-received Known w g keys u v c b parent f made has =
    let l : ℕ = leader w.sizes v in
    let q : Certificate = cut (self_of w l) made.made.certificate in
    let x : Branch = b ∷ parent in
    let vec : Bytes = vector_for w.sizes (w.ring l) kind.Proposal (proposal_content v (core_of x) q) in
    let is : f ≡ frame.proposal v (core_of x) q vec =
    made.is ∙ ap (λ (y : Branch). frame.proposal v (core_of y) q
    (vector_for w.sizes (w.ring l) kind.Proposal (proposal_content v (core_of y) q))) made.block_is in
    let core : Known (core_of x) =
    g.sent made.sent made.recorded (core_of x)
    (subst (CoreOf (core_of x)) (sym is ∙ made.frame_is) refl) in
    let known : AllKnown Known x =
    (core, known-of Known w g u c parent (window-tree (chronicle_of w u) parent has.stands)) in
    record {
      vector = vec;
      is = is;
      verifies = vector-verifies w keys kind.Proposal l u (proposal_content v (core_of x) q)
          (correct-party w l made.correct) (member-faulty w l made.correct) c;
      place = placed (chronicle_of w u) b parent q (sound-of Known w g u c).is_tree has made.justified
          (λ y m e. one-branch Known w g y x (known-of Known w g u c y (window-tree (chronicle_of w u) y m)) known e);
    }

-- a correct leader's proposal of this block
pub proposal-known : (Known : Core → Type 0) (w : World) → IsReached Known w → ShareKeys w → (u v : ℕ)
    → is_correct w u ≡ true → (b : Block) (parent : Branch) (f : Frame) → IsProposalOf w v b parent f
    → HasPlace (chronicle_of w u) b parent
    → (is_justified (just1 (b ∷ parent)) (chronicle_of w u) ≡ true)
    ⊎ (is_own_certified (self_of w u) (just1 (b ∷ parent)) (chronicle_of w u) ≡ true)
    → IsShown w u v b parent f
proposal-known Known w g keys u v c b parent f made has grounds =
    let r = proposal-received Known w g keys u v c b parent f made has in
    subst (IsShown w u v b parent) (sym r.is)
    (proposal-shown w u v b parent _ r.vector r.verifies has r.place grounds)

-- genesis's certificate is good for all
plain-good : (self by : Identity) (q : Certificate) → IsPlain q → is_good self (cut by q) ≡ true
unfolding is_good cut digest_of
plain-good self by q p =
    cond-true (is_genesis q.digest) _ _ ((bytes_decides q.digest (digest genesis_core)).1 p.0)
    ∙ (ap (λ (bs : List Vote). length (take (quorum by.sizes) (filter (vote_verifies by q.digest) bs)) == 0) p.1
    ∙ ap (λ (bs : List Vote). length bs == 0) (take_all (quorum by.sizes) [] (omega arith)))

-- so a proposal on genesis is taken where it comes
pub plain-taken : (Known : Core → Type 0) (w : World) → IsReached Known w → ShareKeys w → (u v : ℕ)
    → is_correct w u ≡ true → (b : Block) (parent : Branch) (f : Frame) → (made : IsProposalOf w v b parent f)
    → HasPlace (chronicle_of w u) b parent → IsPlain made.made.certificate
    → (i : Input) × (check (self_of w u) f ≡ passes i)
    × Takes w u v b parent (ruling (self_of w u) i (chronicle_of w u))
unfolding check ruling
plain-taken Known w g keys u v c b parent f made has plain =
    let self : Identity = self_of w u in
    let q : Certificate = cut (self_of w (leader w.sizes v)) made.made.certificate in
    let core : Core = core_of (b ∷ parent) in
    let r = proposal-received Known w g keys u v c b parent f made has in
    let good = plain-good self (self_of w (leader w.sizes v)) made.made.certificate plain in (
      proposal_in v core q (findings self core q),
      ap (check self) r.is ∙ cond-true _ _ _ (and_from _ _ r.verifies good),
      placing-takes w u v (leader w.sizes v) b parent q _ has r.place,
    )

-- what it finds clear where it stands needn't be asked for
pub may-vote : (Known : Core → Type 0) (w : World) → IsReached Known w → (u v : ℕ) → is_correct w u ≡ true
    → (b : Block) (parent : Branch) → MayVoteFor w u v b parent → MayVote w u v b parent
may-vote Known w g u v c b parent may = record {
  in_view = may.in_view;
  safe = may.safe;
  commands = may.commands;
  clear_below = may.clear_below;
  clear_there = stands-clear (self_of w u) (chronicle_of w u) (g.ruled u c) b parent may.commands;
}

pub proposals-taken : ProposalsAreTaken
proposals-taken sizes is_faulty ring hs last met e = λ keys v b parent f made u c has grounds.
    let g = reached sizes is_faulty ring hs last met e in
    let s = proposal-known _ last g keys u v c b parent f made has grounds in
    let may = may-vote _ last g u v c b parent in (
      elim s.come [ inl n ↦ inl n | inr t ↦ inr (t.0, t.1, t.2, t.3, t.4, λ k. t.5 (may k)) ],
      (s.input, s.takes.0, s.offered, s.takes.1, s.takes.2, λ k. s.takes.3 (may k)),
    )
