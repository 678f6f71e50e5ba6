-- A leader makes blocks, and takes each.
use Rattle.ids.specs.declared.limits.TheConstants.{HEIGHT_LIMIT, MOST_COMMANDS}
use Rattle.std.proofs.Common.{ℕ, zero, suc, ◌≡◌, ◌<◌, ◌+◌, ◌&&◌, ◌||◌, not, Bool, true, false, cond}
use Rattle.std.proofs.Common.{List, [], ◌∷◌, ◌++◌, map, length, drop, refl, sym, ap, subst, ◌∙◌}
use Rattle.std.proofs.Common.{arith, inl, inr, nat_lt, Option, Some, None, option_map, slice_get}
use Rattle.std.specs.Prelude.{is_some}
use Rattle.std.specs.List.{list_all}
use Rattle.std.proofs.lemmas.Bool.{cond-true, cond-false, cond_both, and_from, and_parts, eq-eqb, cases_lt}
use Rattle.std.proofs.lemmas.List.{append-nil, append_assoc, length-append}
use Rattle.std.proofs.Math.Seq.{drop-append_seam}
use Rattle.ids.specs.Sizes.{Sizes, leader}
use Rattle.definitions.specs.Lists.{Among}
use Rattle.definitions.specs.Branches.{Block, Branch, just1, IsBranch, Extends}
use Rattle.definitions.specs.Checks.{Identity, command_verifies}
use Rattle.definitions.specs.Chronicles.{Admitted, Chronicle, Step.took_block, Step.noted, Note.beat, taken_blocks}
use Rattle.definitions.specs.Chronicles.{voted_blocks, vheight, horizon, history, window}
use Rattle.definitions.specs.Digests.{digest_of}
use Rattle.definitions.specs.Frames.{Command, Frame}
use Rattle.definitions.specs.Grounds.{is_own_certified, own_counted}
use Rattle.definitions.specs.Histories.{Answer}
use Rattle.definitions.specs.Replicas.{MemorySupply.ample, Replica, Standing.running}
use Rattle.definitions.specs.Rulings.{Input.beat_in, ruling}
use Rattle.definitions.specs.Sendings.{Sending, To.to_all, To.to_party, sendings, proposal_frame, proposes}
use Rattle.definitions.specs.Sendings.{vote_frame}
use Rattle.definitions.specs.Sendings.{reply_to, new_replies}
use Rattle.definitions.specs.States.{Justified, me, view, leads, votes, raised, fills, higher, qc_high, pending}
use Rattle.definitions.specs.States.{is_due, picks, find_block, is_known, known_as, child, or_else, leaf}
use Rattle.definitions.specs.States.{proposed, made_with}
use Rattle.definitions.specs.Worlds.{World, Sent, Event.beat, Event.offer, Happening, Source.of_record}
use Rattle.definitions.specs.Worlds.{is_correct, is_replica}
use Rattle.definitions.specs.Worlds.{self_of}
use Rattle.definitions.specs.Runs.{refusal, after}
use Rattle.definitions.specs.Events.{happens, recorded, acts, party_of}
use Rattle.definitions.proofs.Lists.{Among-take, Among-filter, Among-after}
use Rattle.definitions.proofs.Trees.{found-itself}
use Rattle.linear_law.proofs.Runs.{member-faulty}
use Rattle.linear_law.proofs.MadeCertificates.{qc_high-is}
use Rattle.recovery.specs.Correct.{ShareKeys, chronicle_of, amply}
use Rattle.recovery.specs.Healing.{in_turn, numbers_of, sent_since, is_proposal, offered_to, make_block, make_blocks}
use Rattle.recovery.specs.Locks.{high_of}
use Rattle.recovery.specs.Rounds.{Climbs, Leads, CarriesWaiting}
use Rattle.recovery.proofs.Carried.{carries-over, picked-carries}
use Rattle.recovery.proofs.Copies.{correct-party}
use Rattle.recovery.proofs.Decided.{justifies-below}
use Rattle.recovery.proofs.Offers.{goes-none, goes-both}
use Rattle.recovery.proofs.Offers.{GoesOn, IsMade, Chain, chain-later, chain-up, chain-end, chain-through, offer-one}
use Rattle.recovery.proofs.Offers.{row-own, row-other, recorded-later, made-later, offer-goes}
use Rattle.recovery.proofs.Offers.{IsStill, still-none, still-both, still-wider, still-took}
use Rattle.recovery.proofs.Climbing.{voted-low, voted-now, climbs-kept}
use Rattle.definitions.proofs.Chronicles.{voted-grows}
use Rattle.recovery.proofs.Steps.{outs, TookStep, HandsIn, step-stood, frame-behind}
use Rattle.recovery.proofs.Ways.{IsOnWay, KnownAt, on-way, way-on, way-past}
use Rattle.recovery.proofs.Wells.{sound-of, stored-of}
use Rattle.recovery.proofs.Worlds.{made-both, keys-in, same-correct, same-self, Passes, passes-none, passes-one}
use Rattle.recovery.proofs.Worlds.{named, passes-append, after-append}

-- ---- the block that a beat makes

-- the block, over the leader's leaf
pub made-block : Identity → Chronicle → Block
made-block self c = record {
  commands = picks c (known_as (leaf self c) c);
  justify = length (qc_high self.sizes c).block;
}

pub made-justifies : (self : Identity) (c : Chronicle)
    → (made-block self c).justify ≡ length (qc_high self.sizes c).block
unfolding made-block
made-justifies self c = refl

-- with its certificate
made-justified : Identity → Chronicle → Justified
made-justified self c =
    record { block = made-block self c ∷ leaf self c; certificate = (qc_high self.sizes c).certificate }

-- a leader whose leaf stands makes it
pub child-made : (self : Identity) (c : Chronicle) → leads self c ≡ true → is_known (digest_of (leaf self c)) c ≡ true
    → child self c (leaf self c) ≡ Some (made-block self c ∷ leaf self c)
unfolding child made-block
child-made self c l k = cond-true (leads self c && is_known (digest_of (leaf self c)) c) _ _ (and_from _ _ l k)

-- and proposes it
beat-sends : (self : Identity) (c : Chronicle) → leads self c ≡ true → is_known (digest_of (leaf self c)) c ≡ true
    → sendings self (noted beat) c
    ≡ (to_all, proposal_frame self (view self.sizes c) (made-justified self c)) ∷ []
unfolding sendings proposed made-justified
beat-sends self c l k =
    cond-true (leads self c) _ _ l
    ∙ ap (λ (o : Option Branch). proposes self (view self.sizes c)
    (made_with o (qc_high self.sizes c).certificate (proposed self c))) (child-made self c l k)

-- its leaf is that block then
beat-leaf : (self : Identity) (c : Chronicle) → leads self c ≡ true → is_known (digest_of (leaf self c)) c ≡ true
    → leaf self (noted beat ∷ c) ≡ made-block self c ∷ leaf self c
unfolding leaf
beat-leaf self c l k = ap (λ (o : Option Branch). or_else o (leaf self c)) (child-made self c l k)

-- its commands wait
all-from : {A : Type 0} (p : A → Bool) (xs : List A) → ((x : A) → Among x xs → p x ≡ true) → list_all p xs ≡ true
all-from p [] h = refl
all-from p (x ∷ xs) h = and_from _ _ (h x (inl refl)) (all-from p xs (λ y m. h y (inr m)))

made-waits : (self : Identity) (c : Chronicle) (k : Command) → Among k (made-block self c).commands → Among k
    (pending c)
unfolding made-block picks
made-waits self c k m = (Among-filter _ (pending c) k (Among-take MOST_COMMANDS _ k m)).0

-- ---- what a beat leaves

-- a climber whose taken blocks, horizon, votes and view are the same
climbs-told : (self : Identity) (v : ℕ) (m y : Branch) (room : ℕ) (c : Chronicle) → Climbs self v m y room c
    → Climbs self v m y room (noted beat ∷ c)
unfolding view horizon taken_blocks is_own_certified own_counted qc_high raised
climbs-told self v m y room c k = climbs-kept self v m y room c (noted beat ∷ c) refl refl refl (λ o. o) k

-- what waits after any step but a lead waited before
beat-pending : (c : Chronicle) (k : Command) → Among k (pending (noted beat ∷ c)) → Among k (pending c)
unfolding pending
beat-pending c k m = (Among-filter (is_due (history (noted beat ∷ c))) (pending c) k m).0

took-pending : (a : Admitted) (c : Chronicle) (k : Command) → Among k (pending (took_block a ∷ c)) → Among k (pending c)
unfolding pending
took-pending a c k m = (Among-filter (is_due (history (took_block a ∷ c))) (pending c) k m).0

beat-high : (s : Sizes) (c : Chronicle) → qc_high s (noted beat ∷ c) ≡ qc_high s c
unfolding qc_high raised
beat-high s c = refl

-- a block that justifies the highest certified one leaves that, and the leaf
took-high : (s : Sizes) (a : Admitted) (c : Chronicle) → just1 a.branch ≡ (qc_high s c).block
    → (qc_high s (took_block a ∷ c)).block ≡ (qc_high s c).block
unfolding qc_high raised
took-high s a c e = by a.new
  where
    p : Justified
    p = record { block = just1 a.branch; certificate = a.certificate }

    by : (t : Bool) → (higher true (cond t (Some p) None) (qc_high s c)).block ≡ (qc_high s c).block
    by true = cond_both (nat_lt (length (qc_high s c).block) (length p.block) || (true && fills p (qc_high s c)))
        p (qc_high s c) (λ (j : Justified). j.block ≡ (qc_high s c).block) (λ t. e) (λ t. refl)
    by false = refl

took-leaf : (self : Identity) (a : Admitted) (c : Chronicle) → just1 a.branch ≡ (qc_high self.sizes c).block
    → leaf self (took_block a ∷ c) ≡ leaf self c
unfolding leaf
took-leaf self a c e =
    cond-false (nat_lt (length (qc_high self.sizes c).block) (length (qc_high self.sizes (took_block a ∷ c)).block)) _ _
    (not-higher (length (qc_high self.sizes c).block) _
    (let k = ap (λ (b : Branch). length b) (took-high self.sizes a c e) in omega (arith, k)))
  where
    not-higher : (n k : ℕ) → k ≡ n → nat_lt n k ≡ false
    not-higher n k h = grind (arith, h)

-- nor does it raise anything
still-beat : (s : Sizes) (m : Branch) (top : ℕ) (c : Chronicle) → IsStill s m top c (noted beat ∷ c)
unfolding votes qc_high raised vheight voted_blocks
still-beat s m top c = record { votes_are = λ x. refl; low = λ n h k. k; voted_low = λ n h k. k }

-- a beat votes for nothing
beat-low : (c : Chronicle) (n : ℕ) → vheight c < n → vheight (noted beat ∷ c) < n
unfolding vheight voted_blocks
beat-low c n l = l

-- ---- no proposal goes out with a block

numbers-none : (p : Frame → Bool) (w : World) (r : ℕ) (os : List Sending)
    → ((o : Sending) → Among o os → p o.1 ≡ false) → (k : ℕ) → numbers_of p k (outs w r os) ≡ []
unfolding numbers_of
numbers-none p w r [] h k = refl
numbers-none p w r (o ∷ os) h k =
    cond-false (p o.1) _ _ (h o (inl refl)) ∙ numbers-none p w r os (λ x m. h x (inr m)) (suc k)

reply-no : (self : Identity) (told : List Answer) (o : Sending) → Among o (map (reply_to self) told)
    → is_proposal o.1 ≡ false
unfolding reply_to is_proposal
reply-no self [] o m = absurd m
reply-no self (a ∷ told) o (inl e) = ap (λ (x : Sending). is_proposal x.1) e
reply-no self (a ∷ told) o (inr m) = reply-no self told o m

took-no : (self : Identity) (a : Admitted) (c : Chronicle) (o : Sending) → Among o (sendings self (took_block a) c)
    → is_proposal o.1 ≡ false
unfolding sendings new_replies vote_frame is_proposal
took-no self a c o m = by a.voted m
  where
    replies : List Sending
    replies = new_replies self (took_block a) c

    by : (t : Bool)
        → Among o
        (cond t ((to_party (leader self.sizes (view self.sizes c)), vote_frame self a.branch) ∷ []) [] ++ replies)
        → is_proposal o.1 ≡ false
    by true (inl e) = ap (λ (x : Sending). is_proposal x.1) e
    by true (inr k) = reply-no self _ o k
    by false k = reply-no self _ o k

numbers-both : (p : Frame → Bool) (xs ys : List Sent) (k : ℕ)
    → numbers_of p k (xs ++ ys) ≡ numbers_of p k xs ++ numbers_of p (k + length xs) ys
unfolding numbers_of
numbers-both p [] ys k = ap (λ (n : ℕ). numbers_of p n ys) (let e : k ≡ k + 0 = omega arith in e)
numbers-both p (x ∷ xs) ys k = by (p x.frame) (numbers-both p xs ys (suc k))
  where
    next : numbers_of p (suc k + length xs) ys ≡ numbers_of p (k + suc (length xs)) ys
    next = ap (λ (n : ℕ). numbers_of p n ys) (let e : suc k + length xs ≡ k + suc (length xs) = omega arith in e)

    by : (t : Bool)
        → numbers_of p (suc k) (xs ++ ys) ≡ numbers_of p (suc k) xs ++ numbers_of p (suc k + length xs) ys
        → cond t (k ∷ numbers_of p (suc k) (xs ++ ys)) (numbers_of p (suc k) (xs ++ ys))
        ≡ cond t (k ∷ numbers_of p (suc k) xs) (numbers_of p (suc k) xs) ++ numbers_of p (k + suc (length xs)) ys
    by true e = ap (λ (l : List ℕ). k ∷ l) (e ∙ ap (λ (l : List ℕ). numbers_of p (suc k) xs ++ l) next)
    by false e = e ∙ ap (λ (l : List ℕ). numbers_of p (suc k) xs ++ l) next

-- room for n blocks, and so many more
unfoldable pub up : ℕ → ℕ → ℕ
up zero room = room
up (suc n) room = suc (up n room)

pub up-is : (n room : ℕ) → up n room ≡ n + room
unfolding up
up-is zero room = omega arith
up-is (suc n) room = let h = up-is n room in omega (arith, h)

-- ---- one block

pub beat-hands : (w : World) (l : ℕ) → is_correct w l ≡ true → (w.replica l).standing ≡ running → HandsIn w
    (beat l) l beat_in
unfolding acts party_of
beat-hands w l c s = record { party = refl; correct = c; goes_on = s; acting = refl }

-- what making one block leaves
pub record MadeOne (w next : World) (l v : ℕ) (m : Branch) (room : ℕ) (b : Block) : Type 0 where
  pub goes : GoesOn w next
  pub others : (j : ℕ) → (j ≡ l → ⊥) → next.replica j ≡ w.replica j
  pub going_on : (next.replica l).standing ≡ running
  pub leads_on : Leads next l v m room
  pub leaf_is : leaf (self_of next l) (chronicle_of next l) ≡ b ∷ leaf (self_of w l) (chronicle_of w l)
  pub numbers : numbers_of is_proposal (length w.sent) goes.more ≡ length w.sent ∷ []
  pub chain : Chain next v m (leaf (self_of w l) (chronicle_of w l)) (length w.sent ∷ [])
      (b ∷ leaf (self_of w l) (chronicle_of w l))
  pub voted : vheight (chronicle_of w l) < suc (length (leaf (self_of w l) (chronicle_of w l)))
      → Among (b ∷ leaf (self_of w l) (chronicle_of w l)) (voted_blocks (chronicle_of next l))
  pub kept : (x : Branch) → Among x (voted_blocks (chronicle_of w l)) → Among x (voted_blocks (chronicle_of next l))
  pub low : (n : ℕ) → vheight (chronicle_of w l) < n → suc (length (leaf (self_of w l) (chronicle_of w l))) < n
      → vheight (chronicle_of next l) < n
  pub still : IsStill w.sizes m (suc (length (leaf (self_of w l) (chronicle_of w l)))) (chronicle_of w l)
      (chronicle_of next l)
  pub carries : CarriesWaiting w l (b ∷ leaf (self_of w l) (chronicle_of w l))

module _ (sizes : Sizes) (start : World) (all : List Happening) (l v : ℕ) (m : Branch) (br : IsBranch m) where
  -- after the beat
  record HasBeaten (w : World) (b : Block) (f : Frame) (room : ℕ) : Type 0 where
    passes : refusal w (beat l) ≡ None
    step : TookStep w (happens w (beat l, ample)) l (noted beat)
    sent : (happens w (beat l, ample)).sent
        ≡ w.sent ++ record { event = w.now; sender = l; to = to_all; frame = f } ∷ []
    made : IsMade (happens w (beat l, ample)) v m (leaf (self_of w l) (chronicle_of w l)) b f
    leaf_is : leaf (self_of w l) (noted beat ∷ chronicle_of w l) ≡ b ∷ leaf (self_of w l) (chronicle_of w l)
    carries : CarriesWaiting w l (b ∷ leaf (self_of w l) (chronicle_of w l))

  beaten : (w : World) (rest : List Happening) (room : ℕ) → IsOnWay sizes start all w ((beat l, ample) ∷ rest)
      → ShareKeys w → is_correct w l ≡ true → (w.replica l).standing ≡ running → Leads w l v m room
      → HasBeaten w (made-block (self_of w l) (chronicle_of w l))
      (proposal_frame (self_of w l) v (made-justified (self_of w l) (chronicle_of w l))) room
  unfolding ruling made-block made-justified leads is_known find_block
  beaten w rest room on keys c s lead =
      let self : Identity = self_of w l in
      let ch : Chronicle = chronicle_of w l in
      let z : Branch = leaf self ch in
      let one : World = happens w (beat l, ample) in
      let g = on-way sizes start all w ((beat l, ample) ∷ rest) on in
      let number = keys.numbers l (correct-party w l c) (member-faulty w l c) in
      let climbs = lead.climbs in
      let leading : leads self ch ≡ true =
      eq-eqb (leader w.sizes (view w.sizes ch)) (me self)
      (ap (leader w.sizes) climbs.in_view ∙ (lead.leader_is ∙ sym number)) in
      let there : find_block (digest_of z) ch ≡ Some z =
      found-itself _ (window ch) (sound-of (KnownAt sizes start all) w g l c).is_tree z climbs.stands in
      let known : is_known (digest_of z) ch ≡ true = ap is_some there in
      let ok : refusal w (beat l) ≡ None =
      named w (beat l) (and_parts (is_replica w l) (not (w.is_faulty l)) c).0 refl refl in
      let on1 = way-on sizes start all w (beat l, ample) rest on ok in
      let st = step-stood w (beat l) l beat_in (noted beat) (beat-hands w l c s) refl on1.well.good.answers in
      let p : Justified = made-justified self ch in
      let f : Frame = proposal_frame self v p in
      let sends : one.sent ≡ w.sent ++ record { event = w.now; sender = l; to = to_all; frame = f } ∷ [] =
      st.sent ∙ (ap (λ (o : List Sending). w.sent ++ outs w l o) (beat-sends self ch leading known)
      ∙ ap (λ (n : ℕ). w.sent ++ outs w l ((to_all, proposal_frame self n p) ∷ [])) climbs.in_view) in
      let lead1 : leader one.sizes v ≡ l = ap (λ (y : Sizes). leader y v) st.made.sizes ∙ lead.leader_is in
      let high : length (qc_high w.sizes ch).block ≡ length m = ap (λ (y : Branch). length y) lead.high in
      record {
        passes = ok;
        step = st;
        sent = sends;
        made = record {
          proposal = record {
            correct = ap (is_correct one) lead1 ∙ (same-correct w one st.made l ∙ c);
            sent = record { event = w.now; sender = l; to = to_all; frame = f };
            recorded = subst (λ (r : List Sent). Among (record { event = w.now; sender = l; to = to_all; frame = f }) r)
                (sym sends) (Among-after _ w.sent _ (inl refl));
            made = p;
            is = (λ k. proposal_frame (sym (same-self w one st.made l) k) v p)
                ∙ ap (λ (i : ℕ). proposal_frame (self_of one i) v p) (sym lead1);
            frame_is = refl;
            block_is = refl;
            justified = (qc_high-is self ch (stored-of (KnownAt sizes start all) w g l c)).justified
                ∙ ap digest_of (lead.high ∙ sym (justifies-below (made-block self ch) z m climbs.over high));
          };
          justify = high;
          good = λ r d. all-from (command_verifies (self_of one r)) (made-block self ch).commands (λ k n.
              ap (λ (i : Identity). command_verifies i k) (same-self w one st.made r)
              ∙ lead.waiting k (made-waits self ch k n) r (sym (same-correct w one st.made r) ∙ d));
        };
        leaf_is = beat-leaf self ch leading known;
        carries = picked-carries ch z (made-block self ch) (ap (λ (o : Option Branch). picks ch (or_else o z)) there);
      }

  -- the events of one block
  make-is : (w : World) (f : Frame)
      → (happens w (beat l, ample)).sent ≡ w.sent ++ record { event = w.now; sender = l; to = to_all; frame = f } ∷ []
      → is_proposal f ≡ true
      → make_block l w ≡ (beat l, ample) ∷ (offer l (of_record (length w.sent)), ample) ∷ []
  unfolding make_block in_turn after offered_to numbers_of
  make-is w f e p =
      let one : World = happens w (beat l, ample) in
      let s : Sent = record { event = w.now; sender = l; to = to_all; frame = f } in
      let drops : drop (length w.sent) one.sent ≡ s ∷ [] =
      ap (λ (x : List Sent). drop (length w.sent) x) e ∙ drop-append_seam w.sent (s ∷ []) in
      let numbers : sent_since (length w.sent) is_proposal one ≡ length w.sent ∷ [] =
      ap (λ (x : List Sent). numbers_of is_proposal (length w.sent) x) drops
      ∙ cond-true (is_proposal f) (length w.sent ∷ []) [] p in
      ap (λ (ks : List ℕ). (beat l, ample) ∷ (amply (offered_to (l ∷ []) ks) ++ [])) numbers

  pub made-one : (w : World) (rest : List Happening) (room : ℕ) → IsOnWay sizes start all w (make_block l w ++ rest)
      → ShareKeys w → is_correct w l ≡ true → (w.replica l).standing ≡ running → Leads w l v m (suc room)
      → suc (length (leaf (self_of w l) (chronicle_of w l))) < HEIGHT_LIMIT
      → Passes w (make_block l w)
      × MadeOne w (after w (make_block l w)) l v m room (made-block (self_of w l) (chronicle_of w l))
  unfolding make_block in_turn after numbers_of is_proposal proposal_frame Chain
  made-one w rest room on keys c s lead top =
      let self : Identity = self_of w l in
      let ch : Chronicle = chronicle_of w l in
      let z : Branch = leaf self ch in
      let b : Block = made-block self ch in
      let f : Frame = proposal_frame self v (made-justified self ch) in
      let k : ℕ = length w.sent in
      let one : World = happens w (beat l, ample) in
      let h = beaten w _ (suc room) on keys c s lead in
      let msg : Sent = record { event = w.now; sender = l; to = to_all; frame = f } in
      let is = make-is w f h.sent refl in
      let on0 = subst (λ (x : List Happening). IsOnWay sizes start all w (x ++ rest)) is on in
      let goes1 : GoesOn w one =
      record { made = h.step.made; more = msg ∷ []; sent = h.sent; session = h.step.session } in
      let on1 = way-on sizes start all w (beat l, ample) ((offer l (of_record k), ample) ∷ rest) on0 h.passes in
      let own1 = row-own w one l (noted beat) h.step in
      let own1c = ap (λ (x : Replica). x.chronicle) own1 in
      let self1 = same-self w one h.step.made l in
      let told = climbs-told self v m z (suc room) ch lead.climbs in
      let climbs1 : Climbs (self_of one l) v m z (suc room) (chronicle_of one l) =
      subst (λ (x : Chronicle). Climbs (self_of one l) v m z (suc room) x) (sym own1c)
      (subst (λ (x : Identity). Climbs x v m z (suc room) (noted beat ∷ ch)) (sym self1) told) in
      let rec : recorded one k ≡ Some f =
      ap (λ (x : List Sent). option_map (λ y. y.frame) (slice_get x k)) h.sent ∙ frame-behind w.sent msg [] in
      let two : World = happens one (offer l (of_record k), ample) in
      let got = offer-one sizes start all one rest l k v m z room b f on1 (keys-in w one h.step.made keys)
      (same-correct w one h.step.made l ∙ c) (ap (λ (x : Replica). x.standing) own1) rec h.made climbs1 br top in
      let o = got.1 in
      let a : Admitted = o.taken in
      let goes2 = offer-goes one two l (took_block a) o.step in
      let own2 = row-own one two l (took_block a) o.step in
      let c2 : Chronicle = took_block a ∷ noted beat ∷ ch in
      let own : chronicle_of two l ≡ c2 =
      ap (λ (x : Replica). x.chronicle) own2 ∙ ap (λ (x : Chronicle). took_block a ∷ x) own1c in
      let out : List Sent = outs one l (sendings (self_of one l) (took_block a) (chronicle_of one l)) in
      let goes : GoesOn w two = record {
        made = made-both w one two h.step.made o.step.made;
        more = msg ∷ out;
        sent = o.step.sent ∙ (ap (λ (x : List Sent). x ++ out) h.sent ∙ append_assoc w.sent (msg ∷ []) out);
        session = o.step.session ∙ h.step.session;
      } in
      let self2 = same-self w two goes.made l in
      let over = lead.climbs.over in
      let just : just1 a.branch ≡ (qc_high w.sizes (noted beat ∷ ch)).block =
      ap just1 o.branch ∙ (justifies-below b z m over h.made.justify ∙ (sym lead.high
      ∙ ap (λ (j : Justified). j.block) (sym (beat-high w.sizes ch)))) in
      let leaf2 : leaf (self_of two l) (chronicle_of two l) ≡ b ∷ z =
      (λ i. leaf (self2 i) (own i)) ∙ (took-leaf self a (noted beat ∷ ch) just ∙ h.leaf_is) in
      let high2 : high_of two l ≡ m =
      (λ i. (qc_high (goes.made.sizes i) (own i)).block)
      ∙ (took-high w.sizes a (noted beat ∷ ch) just
      ∙ (ap (λ (j : Justified). j.block) (beat-high w.sizes ch) ∙ lead.high)) in
      let climbs2 : Climbs (self_of two l) v m (leaf (self_of two l) (chronicle_of two l)) room (chronicle_of two l) =
      subst (λ (x : Branch). Climbs (self_of two l) v m x room (chronicle_of two l)) (sym leaf2)
      (subst (λ (x : Identity). Climbs x v m (b ∷ z) room (chronicle_of two l)) (self1 ∙ sym self2)
      (subst (λ (x : Chronicle). Climbs (self_of one l) v m (b ∷ z) room x)
      (sym (ap (λ (x : Replica). x.chronicle) own2)) o.climbs)) in (
        subst (Passes w) (sym is)
            (passes-one w (beat l, ample) ((offer l (of_record k), ample) ∷ []) h.passes
            (passes-one one (offer l (of_record k), ample) [] got.0 (passes-none two))),
        subst (λ (x : List Happening). MadeOne w (after w x) l v m room b) (sym is) (record {
          goes = goes;
          others = λ j n. row-other one two l (took_block a) o.step j n ∙ row-other w one l (noted beat) h.step j n;
          going_on = ap (λ (x : Replica). x.standing) own2;
          leads_on = record {
            leader_is = ap (λ (y : Sizes). leader y v) goes.made.sizes ∙ lead.leader_is;
            high = high2;
            climbs = climbs2;
            waiting = λ q n r d.
                ap (λ (i : Identity). command_verifies i q) (same-self w two goes.made r)
                ∙ lead.waiting q (beat-pending ch q (took-pending a (noted beat ∷ ch) q
                (subst (λ (x : Chronicle). Among q (pending x)) own n))) r (sym (same-correct w two goes.made r) ∙ d);
          };
          leaf_is = leaf2;
          numbers = ap (λ (x : List ℕ). k ∷ x)
              (numbers-none is_proposal one l (sendings (self_of one l) (took_block a) (chronicle_of one l))
              (took-no (self_of one l) a (chronicle_of one l)) (suc k));
          chain = (b, f, recorded-later one two goes2 k f rec, made-later one two goes2 v m z b f h.made, refl);
          voted = λ low. subst (λ (x : Chronicle). Among (b ∷ z) (voted_blocks x)) (sym own)
              (voted-now (noted beat ∷ ch) a (b ∷ z) o.branch
              (o.votes (subst (λ (x : Chronicle). vheight x < suc (length z)) (sym own1c)
              (beat-low ch (suc (length z)) low))));
          kept = λ x n. subst (λ (y : Chronicle). Among x (voted_blocks y)) (sym own)
              (voted-grows (took_block a) (noted beat ∷ ch) x (voted-grows (noted beat) ch x n));
          low = λ n low top. subst (λ (y : Chronicle). vheight y < n) (sym own)
              (voted-low (noted beat ∷ ch) a n (beat-low ch n low)
              (let e = ap (λ (x : Branch). length x) o.branch in omega (arith, e, top)));
          still = subst (IsStill w.sizes m (suc (length z)) ch) (sym own)
              (still-both w.sizes m (suc (length z)) ch (noted beat ∷ ch) c2 (still-beat w.sizes m (suc (length z)) ch)
              (still-took w.sizes m (suc (length z)) (noted beat ∷ ch) a
              (ap just1 o.branch ∙ justifies-below b z m over h.made.justify)
              (let e = ap (λ (x : Branch). length x) o.branch in omega (arith, e))));
          carries = h.carries;
        }),
      )

  -- ---- all blocks

  -- the leader's leaf
  abbrev leaf-at : World → Branch
  leaf-at w = leaf (self_of w l) (chronicle_of w l)

  pub record MadeAll (w next : World) (room n : ℕ) : Type 0 where
    pub goes : GoesOn w next
    pub others : (j : ℕ) → (j ≡ l → ⊥) → next.replica j ≡ w.replica j
    pub going_on : (next.replica l).standing ≡ running
    pub leads_on : Leads next l v m room
    pub ks : List ℕ
    pub count : length ks ≡ n
    pub numbers : numbers_of is_proposal (length w.sent) goes.more ≡ ks
    pub chain : Chain next v m (leaf (self_of w l) (chronicle_of w l)) ks (leaf (self_of next l) (chronicle_of next l))
    pub voted : 0 < n → vheight (chronicle_of w l) < length (leaf (self_of next l) (chronicle_of next l))
        → Among (leaf (self_of next l) (chronicle_of next l)) (voted_blocks (chronicle_of next l))
    pub kept : (x : Branch) → Among x (voted_blocks (chronicle_of w l)) → Among x (voted_blocks (chronicle_of next l))
    pub still : IsStill w.sizes m (length (leaf (self_of next l) (chronicle_of next l))) (chronicle_of w l)
        (chronicle_of next l)
    pub carries : 0 < n → CarriesWaiting w l (leaf (self_of next l) (chronicle_of next l))

  -- a first block, and then the others
  made-more : (w mid next : World) (room room2 n : ℕ) (b : Block) → MadeOne w mid l v m room b
      → MadeAll mid next room2 n
      → MadeAll w next room2 (suc n)
  unfolding Chain goes-both
  made-more w mid next room room2 n b one rest =
      let z : Branch = leaf-at w in
      let last : Branch = leaf-at next in
      let k : ℕ = length w.sent in
      let first = chain-later mid next rest.goes v m z (k ∷ []) (b ∷ z) one.chain in
      let long : length mid.sent ≡ k + length one.goes.more =
      ap (λ (x : List Sent). length x) one.goes.sent ∙ length-append w.sent one.goes.more in
      let up = chain-up next v m (leaf-at mid) rest.ks last rest.chain in
      let mids = ap (λ (x : Branch). length x) one.leaf_is in
      let count = rest.count in
      record {
        goes = goes-both w mid next one.goes rest.goes;
        others = λ j m. rest.others j m ∙ one.others j m;
        going_on = rest.going_on;
        leads_on = rest.leads_on;
        ks = k ∷ rest.ks;
        count = omega (arith, count);
        numbers = numbers-both is_proposal one.goes.more rest.goes.more k
            ∙ ((λ i. one.numbers i ++ numbers_of is_proposal (sym long i) rest.goes.more)
            ∙ ap (λ (x : List ℕ). k ∷ x) rest.numbers);
        chain = (
          first.0,
          first.1,
          first.2,
          first.3,
          subst (λ (x : Branch). Chain next v m x rest.ks last)
              (one.leaf_is ∙ sym first.4) rest.chain,
        );
        voted = λ p h. elim (cases_lt 0 n) [
          | inl q ↦ rest.voted q (one.low (length last) h (omega (arith, up, mids, count, q)))
          | inr y ↦
              let e : leaf-at mid ≡ last =
              chain-end next v m (leaf-at mid) rest.ks last rest.chain (omega (arith, count, y)) in
              let le = ap (λ (x : Branch). length x) e in
              rest.kept last (subst (λ (x : Branch). Among x (voted_blocks (chronicle_of mid l)))
              (sym one.leaf_is ∙ e) (one.voted (omega (arith, h, le, mids))))
        ];
        kept = λ x q. rest.kept x (one.kept x q);
        still = still-both w.sizes m (length last) (chronicle_of w l) (chronicle_of mid l) (chronicle_of next l)
            (still-wider w.sizes m (suc (length z)) (length last) (chronicle_of w l) (chronicle_of mid l)
            (omega (arith, up, mids)) one.still)
            (subst (λ (s : Sizes). IsStill s m (length last) (chronicle_of mid l) (chronicle_of next l))
            one.goes.made.sizes rest.still);
        carries = λ p k q few. carries-over last (b ∷ z) k
            (subst (Extends last) one.leaf_is (chain-through next v m (leaf-at mid) rest.ks last rest.chain))
            (one.carries k q few);
      }

  pub made-all : (n : ℕ) (w : World) (rest : List Happening) (room : ℕ)
      → IsOnWay sizes start all w (make_blocks n l w ++ rest) → ShareKeys w → is_correct w l ≡ true
      → (w.replica l).standing ≡ running → Leads w l v m (up n room)
      → length (leaf (self_of w l) (chronicle_of w l)) + n < HEIGHT_LIMIT
      → Passes w (make_blocks n l w) × MadeAll w (after w (make_blocks n l w)) room n
  unfolding make_blocks in_turn Chain numbers_of up after goes-none
  made-all zero w rest room on keys c s lead top = (
    passes-none w,
    record {
      goes = goes-none w;
      others = λ j n. refl;
      going_on = s;
      leads_on = lead;
      ks = [];
      count = refl;
      numbers = refl;
      chain = refl;
      voted = λ p h. absurd (omega (arith, p));
      kept = λ x q. q;
      still = still-none w.sizes m (length (leaf (self_of w l) (chronicle_of w l))) (chronicle_of w l);
      carries = λ p. absurd (omega (arith, p));
    },
  )
  made-all (suc n) w rest room on keys c s lead top =
      let here : List Happening = make_block l w in
      let mid : World = after w here in
      let later : List Happening = make_blocks n l mid in
      let is : make_blocks (suc n) l w ≡ here ++ later =
      ap (λ (x : List Happening). here ++ x) (append-nil later) in
      let on0 = subst (IsOnWay sizes start all w) (append_assoc here later rest)
      (subst (λ (x : List Happening). IsOnWay sizes start all w (x ++ rest)) is on) in
      let one = made-one w (later ++ rest) (up n room) on0 keys c s lead (omega (arith, top)) in
      let onm = way-past sizes start all here (later ++ rest) w on0 one.0 in
      let o = one.1 in
      let e = ap (λ (x : Branch). length x) o.leaf_is in
      let more = made-all n mid rest room onm (keys-in w mid o.goes.made keys) (same-correct w mid o.goes.made l ∙ c)
      o.going_on o.leads_on (omega (arith, top, e)) in (
        subst (Passes w) (sym is) (passes-append w here later one.0 more.0),
        subst (λ (z : World). MadeAll w z room (suc n)) (sym (ap (after w) is ∙ after-append w here later))
            (made-more w mid (after mid later) (up n room) room n _ o more.1),
      )
