-- A first block comes to all that never took one.
use Rattle.ids.specs.declared.limits.TheConstants.{MOST_BLOCKS, MOST_OF_HEIGHT}
use Rattle.std.specs.Prelude.{count_by}
use Rattle.std.proofs.Common.{ℕ, suc, ◌≡◌, ◌<◌, ◌≤◌, ◌+◌, ◌⊎◌, ◌==◌, true, false, List, []}
use Rattle.std.proofs.Common.{◌∷◌, ◌++◌, length, drop, refl, sym, ap, subst, ◌∙◌, arith, inl, inr, Some}
use Rattle.std.proofs.Common.{None, option_map, slice_get, true≢false}
use Rattle.std.proofs.lemmas.Bool.{cond-true, cases_eq, cases_Bool, lt-ltb, eq-eqb, eqb-true}
use Rattle.std.proofs.lemmas.List.{nil_from_length}
use Rattle.std.proofs.Math.Seq.{drop-append_seam}
use Rattle.ids.specs.Sizes.{Sizes, replicas, leader}
use Rattle.definitions.specs.Lists.{Among, AreDistinct}
use Rattle.definitions.specs.Branches.{Block, Branch, just1}
use Rattle.definitions.specs.Checks.{Identity}
use Rattle.definitions.specs.Chronicles.{Admitted, Chronicle, IsLawful, Step.took_block, taken_blocks, window, horizon}
use Rattle.definitions.specs.Chronicles.{lock, vheight}
use Rattle.definitions.specs.Digests.{digest_of}
use Rattle.definitions.specs.Frames.{Core, Frame}
use Rattle.definitions.specs.Grounds.{is_justified}
use Rattle.definitions.specs.Replicas.{MemorySupply.ample, Replica, Standing.running}
use Rattle.definitions.specs.Sendings.{proposal_frame, sendings}
use Rattle.definitions.specs.States.{Justified, view}
use Rattle.definitions.specs.Worlds.{World, Sent, Event.relay, Event.beat, Happening, is_correct, self_of}
use Rattle.definitions.specs.Worlds as worlds
use Rattle.definitions.specs.Runs.{refusal, after}
use Rattle.definitions.specs.Events.{happens, recorded}
use Rattle.definitions.proofs.Horizons.{window-genesis, horizon-low, executed-locked}
use Rattle.definitions.proofs.Lists.{Among-after, Among-filter, Among-kept}
use Rattle.recovery.specs.Correct.{OfCorrect, AllGoOn, ShareKeys, chronicle_of, lock_of, view_of, correct_replicas}
use Rattle.recovery.specs.Correct.{amply}
use Rattle.recovery.specs.Healing.{Phase, in_turn, comes_to, sent_since, numbers_of, is_proposal, newcomers, make_first}
use Rattle.recovery.specs.Healing.{over_lock, highest_voted}
use Rattle.recovery.specs.NeverWedged.{healer, ground_of, HasRoom}
use Rattle.recovery.specs.Views.{CameTo}
use Rattle.recovery.specs.Fetching.{HasPlace}
use Rattle.recovery.specs.Rounds.{IsProposalOf, Climbs}
use Rattle.recovery.proofs.Asked.{relay-hands}
use Rattle.recovery.proofs.Bursts.{distinct-correct, distinct-kept}
use Rattle.recovery.proofs.Climbing.{stands-justifies, lock-more, voted-low, window-longer}
use Rattle.recovery.proofs.Copies.{correct-party}
use Rattle.recovery.proofs.Correct.{among-correct, correct-listed}
use Rattle.recovery.proofs.Decided.{justifies-below}
use Rattle.recovery.proofs.Fetched.{took-stands, window-told, lock-told}
use Rattle.recovery.proofs.FirstBlocks.{HasFirstMade, IsAlike, alike-none, first-made}
use Rattle.recovery.proofs.Firsts.{IsPlain}
use Rattle.recovery.proofs.Gained.{of_height, took-heights, view-took, horizon-took}
use Rattle.recovery.proofs.Grounds.{ground-own, just1-genesis}
use Rattle.recovery.proofs.Highs.{highest-voted-above}
use Rattle.recovery.proofs.Locks.{healer-highest, nil, over-some, lock-justified}
use Rattle.recovery.proofs.Offers.{GoesOn, row-own, row-other, proposal-later, recorded-later, slice-there}
use Rattle.recovery.proofs.Proposals.{plain-taken}
use Rattle.recovery.proofs.Rounds.{vheight-told, clear-own}
use Rattle.recovery.proofs.Staged.{IsStaged, room_above}
use Rattle.recovery.proofs.Steps.{going, outs, TookStep, step-stood, frame-behind}
use Rattle.recovery.proofs.Ways.{IsOnWay, KnownAt, on-way, way-on, way-past, turn-on, turn-passes, turn-after}
use Rattle.recovery.proofs.Ways.{turns-none}
use Rattle.recovery.proofs.Wells.{IsReached, sound-of, family-of}
use Rattle.recovery.proofs.Worlds.{IsMadeAs, made-after, keys-in, same-correct, same-self, Passes}
use Rattle.recovery.proofs.Worlds.{passes-none, passes-one, named}

-- ---- one newcomer

-- a proposal on genesis, with genesis's certificate
record IsPlainProposal (w : World) (v : ℕ) (b : Block) (f : Frame) : Type 0 where
  proposal : IsProposalOf w v b [] f
  plain : IsPlain proposal.made.certificate

plain-later : (w next : World) → GoesOn w next → (v : ℕ) (b : Block) (f : Frame) → IsPlainProposal w v b f
    → IsPlainProposal next v b f
plain-later w next g v b f h =
    let p = proposal-later w next g v b [] f h.proposal in
    record { proposal = p.0; plain = subst (λ (j : Justified). IsPlain j.certificate) (sym p.1) h.plain }

-- it took the block
record TookFirst (before : Chronicle) (b : Block) (now : Replica) : Type 0 where
  taken : Admitted
  is : now ≡ going (took_block taken ∷ before)
  branch : taken.branch ≡ b ∷ []
  fresh : (taken.new ≡ true) ⊎ ((taken.new ≡ false) × Among (b ∷ []) (window before))

-- what is known of one to which it is to come
record MayTake (w : World) (b : Block) (r : ℕ) : Type 0 where
  correct : is_correct w r ≡ true
  goes : (w.replica r).standing ≡ running
  place : HasPlace (chronicle_of w r) b []

may-later : (w next : World) (b : Block) (r : ℕ) → IsMadeAs w next → next.replica r ≡ w.replica r → MayTake w b r
    → MayTake next b r
may-later w next b r made e h = record {
  correct = same-correct w next made r ∙ h.correct;
  goes = ap (λ (x : Replica). x.standing) e ∙ h.goes;
  place = subst (λ (x : Replica). HasPlace x.chronicle b []) (sym e) h.place;
}

-- the block came to each of these
record HaveTaken (w last : World) (b : Block) (rs : List ℕ) : Type 0 where
  session : last.session ≡ w.session
  others : (j : ℕ) → (Among j rs → ⊥) → last.replica j ≡ w.replica j
  each : (r : ℕ) → Among r rs → TookFirst (chronicle_of w r) b (last.replica r)

module _ (sizes : Sizes) (start : World) (all : List Happening) (k v : ℕ) (b : Block) (f : Frame) where
  one-takes : (w : World) (rest : List Happening) (r : ℕ) → IsOnWay sizes start all w ((relay k r, ample) ∷ rest)
      → ShareKeys w → recorded w k ≡ Some f → IsPlainProposal w v b f → MayTake w b r
      → (refusal w (relay k r) ≡ None)
      × ((a : Admitted) × TookStep w (happens w (relay k r, ample)) r (took_block a) × (a.branch ≡ b ∷ [])
      × ((a.new ≡ true) ⊎ ((a.new ≡ false) × Among (b ∷ []) (window (chronicle_of w r)))))
  one-takes w rest r on keys rec p may =
      let g = on-way sizes start all w ((relay k r, ample) ∷ rest) on in
      let t = plain-taken (KnownAt sizes start all) w g keys r v may.correct b [] f p.proposal may.place p.plain in
      let ok = named w (relay k r) (correct-party w r may.correct)
      (lt-ltb k (length w.sent) (slice-there w.sent k f rec)) refl in
      let onn = way-on sizes start all w (relay k r, ample) rest on ok in
      let a = t.2.0 in
      let st = step-stood w (relay k r) r t.0 (took_block a) (relay-hands w k r f t.0 may.correct may.goes rec
      t.1) t.2.1
      onn.well.good.answers in
      (ok, (a, st, t.2.2, elim t.2.4 [ inl n ↦ inl n.0 | inr o ↦ inr o ]))

  all-take : (rs : List ℕ) (w : World) (rest : List Happening)
      → IsOnWay sizes start all w (amply (comes_to rs (k ∷ [])) ++ rest) → AreDistinct rs → ShareKeys w
      → recorded w k ≡ Some f → IsPlainProposal w v b f → ((r : ℕ) → Among r rs → MayTake w b r)
      → Passes w (amply (comes_to rs (k ∷ []))) × HaveTaken w (after w (amply (comes_to rs (k ∷ [])))) b rs
  unfolding comes_to after
  all-take [] w rest on d keys rec p may =
      (passes-none w, record { session = refl; others = λ j n. refl; each = λ r m. absurd m })
  all-take (r ∷ rs) w rest on d keys rec p may =
      let later : List Happening = amply (comes_to rs (k ∷ [])) in
      let next : World = happens w (relay k r, ample) in
      let one = one-takes w (later ++ rest) r on keys rec p (may r (inl refl)) in
      let a = one.1.0 in
      let st = one.1.1 in
      let goes : GoesOn w next = record {
        made = st.made;
        more = outs w r (sendings (self_of w r) (took_block a) (chronicle_of w r));
        sent = st.sent;
        session = st.session;
      } in
      let other : (j : ℕ) → (j ≡ r → ⊥) → next.replica j ≡ w.replica j = row-other w next r (took_block a) st in
      let apart : (j : ℕ) → Among j rs → (j ≡ r → ⊥) = λ j m e. d.0 (subst (λ (i : ℕ). Among i rs) e m) in
      let onn = way-on sizes start all w (relay k r, ample) (later ++ rest) on one.0 in
      let more = all-take rs next rest onn d.1 (keys-in w next st.made keys) (recorded-later w next goes k f rec)
      (plain-later w next goes v b f p)
      (λ j m. may-later w next b j st.made (other j (apart j m)) (may j (inr m))) in (
        passes-one w (relay k r, ample) later one.0 more.0,
        record {
          session = more.1.session ∙ st.session;
          others = λ j n. more.1.others j (λ m. n (inr m)) ∙ other j (λ e. n (inl e));
          each = λ j m. elim m [
            | inl e ↦ subst (λ (i : ℕ). TookFirst (chronicle_of w i) b ((after next later).replica i)) (sym e) (record {
              taken = a;
              is = more.1.others r d.0 ∙ row-own w next r (took_block a) st;
              branch = one.1.2;
              fresh = one.1.3;
            })
            | inr i ↦ subst (λ (x : Replica). TookFirst x.chronicle b ((after next later).replica j)) (other j
                (apart j i))
                (more.1.each j i)
          ];
        },
      )

-- ---- who may climb from genesis

-- what it takes
climbs-first : (self : Identity) (v room : ℕ) (c : Chronicle) → view self.sizes c ≡ v → is_justified [] c ≡ true
    → horizon c ≡ 0 → (lock c ≡ []) ⊎ (length (lock c) < 0) → length (window c) + room ≤ MOST_BLOCKS
    → ((h : ℕ) → 0 < h → of_height h c < MOST_OF_HEIGHT) → Climbs self v [] [] room c
climbs-first self v room c in_view ground reach low trees heights = record {
  in_view = in_view;
  stands = window-genesis c;
  over = ([], refl);
  ground = inl ground;
  reach = omega (arith, reach);
  safe = low;
  clear = clear-own [] _;
  trees = trees;
  heights = λ h l. heights h l;
}

-- whoever took a block may, where its lock is genesis
old-climbs : (self : Identity) (v room : ℕ) (c : Chronicle) → IsLawful self.sizes c → (taken_blocks c ≡ [] → ⊥)
    → view self.sizes c ≡ v → horizon c ≡ 0 → lock c ≡ [] → length (window c) + room ≤ MOST_BLOCKS
    → ((h : ℕ) → 0 < h → of_height h c < MOST_OF_HEIGHT) → Climbs self v [] [] room c
old-climbs self v room c law some in_view reach low trees heights =
    let a = over-some c some in
    climbs-first self v room c in_view
    (subst (λ (x : Branch). is_justified x c ≡ true) low (lock-justified self.sizes c law a.0 a.1 a.2))
    reach (inl low) trees heights

-- so may who just took its first one
new-climbs : (self : Identity) (v room : ℕ) (c : Chronicle) (b : Block) (a : Admitted) → a.branch ≡ b ∷ []
    → b.justify ≡ 0 → (a.new ≡ true) ⊎ ((a.new ≡ false) × Among (b ∷ []) (window c)) → view self.sizes c ≡ v
    → horizon c ≡ 0 → lock c ≡ [] → length (window c) + suc room ≤ MOST_BLOCKS
    → ((h : ℕ) → 0 < h → suc (of_height h c) < MOST_OF_HEIGHT) → Climbs self v [] [] room (took_block a ∷ c)
new-climbs self v room c b a e j fresh in_view reach low trees heights =
    let long = ap (λ (x : Branch). length x) e in
    let near : horizon c ≤ length a.branch + 2 = omega (arith, reach, long) in
    let n : (a.new ≡ true) ⊎ (a.new ≡ false) = elim fresh [ inl t ↦ inl t | inr o ↦ inr o.0 ] in
    let over : just1 (b ∷ []) ≡ [] = justifies-below b [] [] ([], refl) j in
    let more = window-longer c a near n in
    climbs-first self v room (took_block a ∷ c) (view-took self a c ∙ in_view)
    (stands-justifies [] (b ∷ []) (took_block a ∷ c)
    (took-stands c a (b ∷ []) e (omega (arith, near, long)) fresh) (omega arith) over)
    (horizon-took a c ∙ reach) (lock-more [] c a tt (ap just1 e ∙ over) (inl low)) (omega (arith, trees, more))
    (λ h up. let k = took-heights c a near n h in let l = heights h up in omega (arith, k, l))

first-lock : (a : Admitted) (c : Chronicle) (b : Block) → a.branch ≡ b ∷ [] → b.justify ≡ 0 → lock c ≡ []
    → lock (took_block a ∷ c) ≡ []
first-lock a c b e j low =
    elim (lock-more [] c a tt (ap just1 e ∙ justifies-below b [] [] ([], refl) j) (inl low)) [
      | inl n ↦ n
      | inr l ↦ absurd (omega (arith, l))
    ]

-- ---- the phase

abbrev tells : ℕ → Phase
tells l v = amply (worlds.lead l (digest_of []) ∷ beat l ∷ [])

abbrev brings : ℕ → Phase
brings before v =
    amply (comes_to (newcomers v (correct_replicas v)) (sent_since before is_proposal v))

-- where genesis justifies the lock
first-is : (l : ℕ) (w : World) → over_lock l w ≡ []
    → make_first l w ≡ in_turn (tells l ∷ brings (length w.sent) ∷ []) w
unfolding make_first
first-is l w e =
    cond-true (length (over_lock l w) == 0) _ _
    (eq-eqb (length (over_lock l w)) 0 (ap (λ (x : Branch). length x) e))

-- one proposal was sent since
one-sent : (w next : World) (s : Sent) → next.sent ≡ w.sent ++ s ∷ [] → is_proposal s.frame ≡ true
    → sent_since (length w.sent) is_proposal next ≡ length w.sent ∷ []
unfolding numbers_of
one-sent w next s e is =
    ap (λ (l : List Sent). numbers_of is_proposal (length w.sent) l)
    (ap (λ (l : List Sent). drop (length w.sent) l) e ∙ drop-append_seam w.sent (s ∷ []))
    ∙ cond-true (is_proposal s.frame) (length w.sent ∷ []) [] is

proposal-one : (self : Identity) (v : ℕ) (p : Justified) → is_proposal (proposal_frame self v p) ≡ true
unfolding proposal_frame is_proposal
proposal-one self v p = refl

-- who is listed never took a block
is-newcomer : (w : World) (r : ℕ) → Among r (newcomers w (correct_replicas w))
    → (is_correct w r ≡ true) × (taken_blocks (chronicle_of w r) ≡ [])
is-newcomer w r m =
    let f = Among-filter (λ (i : ℕ). length (taken_blocks (chronicle_of w i)) == 0) (correct_replicas w) r m in (
      among-correct w (replicas w.sizes) r f.0,
      nil_from_length (taken_blocks (chronicle_of w r))
          (eqb-true (length (taken_blocks (chronicle_of w r))) 0 f.1),
    )

newcomer-listed : (w : World) (r : ℕ) → is_correct w r ≡ true → taken_blocks (chronicle_of w r) ≡ []
    → Among r (newcomers w (correct_replicas w))
newcomer-listed w r c e =
    Among-kept (λ (i : ℕ). length (taken_blocks (chronicle_of w i)) == 0) (correct_replicas w) r (correct-listed w r c)
    (eq-eqb (length (taken_blocks (chronicle_of w r))) 0 (ap (λ (l : List Admitted). length l) e))

-- a first proposal is one on genesis
first-plain : (w next : World) (l v : ℕ) (h : HasFirstMade w next l v) → is_correct next l ≡ true
    → leader next.sizes v ≡ l → IsPlainProposal next v h.block h.msg.frame
first-plain w next l v h c lead =
    let over : just1 (h.block ∷ []) ≡ [] = justifies-below h.block [] [] ([], refl) h.justify in
    record {
      proposal = record {
        correct = ap (is_correct next) lead ∙ c;
        sent = h.msg;
        recorded = subst (λ (x : List Sent). Among h.msg x) (sym h.sent) (Among-after h.msg w.sent _ (inl refl));
        made = h.made;
        is = h.frame_is ∙ ap (λ (i : ℕ). proposal_frame (self_of next i) v h.made) (sym lead);
        frame_is = refl;
        block_is = h.block_is;
        justified = h.plain.0 ∙ ap digest_of (sym over);
      };
      plain = h.plain;
    }

-- what the phase leaves of one: it is as it was, or took the block as its first
record IsAfter (w last : World) (b : Block) (r : ℕ) : Type 0 where
  before : Chronicle
  alike : IsAlike (self_of w r) (chronicle_of w r) before
  goes : (last.replica r).standing ≡ running
  cases : ((a : Admitted) × (chronicle_of last r ≡ took_block a ∷ before) × (a.branch ≡ b ∷ [])
      × ((a.new ≡ true) ⊎ ((a.new ≡ false) × Among (b ∷ []) (window before))))
      ⊎ ((chronicle_of last r ≡ before) × (taken_blocks before ≡ [] → ⊥))

record AreAfter (w last : World) : Type 0 where
  session : last.session ≡ w.session
  block : Block
  justify : block.justify ≡ 0
  each : OfCorrect w (λ r. IsAfter w last block r)

-- it goes on, and is as it was, where the leader proposed the block
may-now : (w mid : World) (l v : ℕ) → HasFirstMade w mid l v → AllGoOn w
    → OfCorrect w (λ r. ((mid.replica r).standing ≡ running)
    × IsAlike (self_of w r) (chronicle_of w r) (chronicle_of mid r))
may-now w mid l v h goes r c = elim (cases_eq r l) [
  | inl e ↦ subst (λ (i : ℕ). ((mid.replica i).standing ≡ running)
      × IsAlike (self_of w i) (chronicle_of w i) (chronicle_of mid i)) (sym e) (h.goes, h.alike)
  | inr n ↦ subst (λ (x : Replica). (x.standing ≡ running) × IsAlike (self_of w r) (chronicle_of w r) x.chronicle)
      (sym (h.others r n)) (goes r c, alike-none (self_of w r) (chronicle_of w r))
]

-- of those that were told, and to which the block came
after-both : (w mid last : World) (l v : ℕ) (h : HasFirstMade w mid l v) → AllGoOn w
    → HaveTaken mid last h.block (newcomers mid (correct_replicas mid)) → OfCorrect w (λ r. IsAfter w last h.block r)
after-both w mid last l v h goes t r c = record {
  before = chronicle_of mid r;
  alike = now.1;
  goes = elim cases [
    | inl n ↦ ap (λ (x : Replica). x.standing) n.is
    | inr o ↦ ap (λ (x : Replica). x.standing) o.0 ∙ now.0
  ];
  cases = elim cases [
    | inl n ↦ inl (n.taken, ap (λ (x : Replica). x.chronicle) n.is, n.branch, n.fresh)
    | inr o ↦ inr (ap (λ (x : Replica). x.chronicle) o.0, o.1)
  ];
}
  where
    now : ((mid.replica r).standing ≡ running) × IsAlike (self_of w r) (chronicle_of w r) (chronicle_of mid r)
    now = may-now w mid l v h goes r c

    cm : is_correct mid r ≡ true
    cm = same-correct w mid h.made_as r ∙ c

    cases : TookFirst (chronicle_of mid r) h.block (last.replica r)
        ⊎ ((last.replica r ≡ mid.replica r) × (taken_blocks (chronicle_of mid r) ≡ [] → ⊥))
    cases = elim (cases_Bool (length (taken_blocks (chronicle_of mid r)) == 0)) [
      | inl e ↦
          let z = nil_from_length (taken_blocks (chronicle_of mid r))
          (eqb-true (length (taken_blocks (chronicle_of mid r))) 0 e) in
          inl (t.each r (newcomer-listed mid r cm z))
      | inr n ↦
          let lacks : taken_blocks (chronicle_of mid r) ≡ [] → ⊥ = λ z.
          true≢false (sym (eq-eqb (length (taken_blocks (chronicle_of mid r))) 0
          (ap (λ (x : List Admitted). length x) z)) ∙ n) in
          inr (t.others r (λ m. lacks (is-newcomer mid r m).1), lacks)
    ]

module _ (sizes : Sizes) (start : World) (all : List Happening) (l v : ℕ) where
  first-brought : (w : World) (rest : List Happening)
      → IsOnWay sizes start all w (in_turn (tells l ∷ brings (length w.sent) ∷ []) w ++ rest) → ShareKeys w
      → AllGoOn w → is_correct w l ≡ true → lock_of w l ≡ [] → leader w.sizes v ≡ l → view_of w l ≡ v
      → OfCorrect w (λ r. (d : Chronicle) (b : Block) → IsAlike (self_of w r) (chronicle_of w r) d → b.justify ≡ 0
      → HasPlace d b [])
      → Passes w (in_turn (tells l ∷ brings (length w.sent) ∷ []) w)
      × AreAfter w (after w (in_turn (tells l ∷ brings (length w.sent) ∷ []) w))
  first-brought w rest on keys goes c low lead in_view place =
      let k : ℕ = length w.sent in
      let on0 = turn-on sizes start all (tells l) (brings k ∷ []) w rest on in
      let one = first-made sizes start all w _ l v on0 keys c (goes l c) low lead in_view in
      let h = one.1 in
      let mid : World = after w (tells l w) in
      let made = h.made_as in
      let ona = turn-on sizes start all (brings k) [] mid rest
      (way-past sizes start all (tells l w) _ w on0 one.0) in
      let f : Frame = h.msg.frame in
      let p = first-plain w mid l v h (same-correct w mid made l ∙ c)
      (ap (λ (z : Sizes). leader z v) made.sizes ∙ lead) in
      let rec : recorded mid k ≡ Some f =
      ap (λ (x : List Sent). option_map (λ z. z.frame) (slice_get x k)) h.sent ∙ frame-behind w.sent h.msg [] in
      let us : List ℕ = newcomers mid (correct_replicas mid) in
      let numbers = one-sent w mid h.msg h.sent (ap is_proposal h.frame_is ∙ proposal-one (self_of mid l) v h.made) in
      let is : brings k mid ≡ amply (comes_to us (k ∷ [])) = ap (λ (x : List ℕ). amply (comes_to us x)) numbers in
      let on1 = subst (λ (x : List Happening). IsOnWay sizes start all mid
      (x ++ (in_turn [] (after mid (brings k mid)) ++ rest))) is ona in
      let was : (r : ℕ) → is_correct mid r ≡ true → is_correct w r ≡ true = λ r cm.
      sym (same-correct w mid made r) ∙ cm in
      let may : (r : ℕ) → Among r us → MayTake mid h.block r = λ r m.
      (let cm = (is-newcomer mid r m).0 in
      let now = may-now w mid l v h goes r (was r cm) in
      record { correct = cm; goes = now.0; place = place r (was r cm) (chronicle_of mid r) h.block now.1 h.justify }) in
      let two = all-take sizes start all k v h.block f us mid _ on1
      (distinct-kept (λ r. length (taken_blocks (chronicle_of mid r)) == 0) (correct_replicas mid)
      (distinct-correct mid (replicas mid.sizes))) (keys-in w mid made keys) rec p may in
      let passes2 : Passes mid (brings k mid) = subst (Passes mid) (sym is) two.0 in
      let last : World = after mid (brings k mid) in
      let t : HaveTaken mid last h.block us =
      subst (λ (x : List Happening). HaveTaken mid (after mid x) h.block us) (sym is) two.1 in
      let none = turns-none last in
      let ends = turn-after (tells l) (brings k ∷ []) w ∙ (turn-after (brings k) [] mid ∙ none.1) in (
        turn-passes (tells l) (brings k ∷ []) w one.0 (turn-passes (brings k) [] mid passes2 none.0),
        subst (AreAfter w) (sym ends) (record {
          session = t.session ∙ h.session;
          block = h.block;
          justify = h.justify;
          each = after-both w mid last l v h goes t;
        }),
      )

-- ---- the stage

-- what a first block leaves
pub record HasFirsts (w last : World) (l v top : ℕ) : Type 0 where
  pub stage : IsStaged last l v top []
  pub session : last.session ≡ w.session

module _ (sizes : Sizes) (start : World) (all : List Happening) (w : World)
    (g : IsReached (KnownAt sizes start all) w) (room : HasRoom w) (low : ground_of w ≡ [])
  where
    abbrev Known : Core → Type 0
    Known = KnownAt sizes start all

    abbrev l : ℕ
    l = healer w

    abbrev top : ℕ
    top = suc (highest_voted w (correct_replicas w))

    -- all locks are genesis
    pub locks-nil : (r : ℕ) → is_correct w r ≡ true → lock_of w r ≡ []
    locks-nil r c =
        let fam = family-of Known w g in
        let own : [] ≡ lock_of w l = sym just1-genesis ∙ (ap just1 (sym low) ∙ (ground-own w fam).0) in
        let high = (healer-highest w fam).1 r c in
        let n = ap (λ (x : Branch). length x) own in
        nil (lock_of w r) (omega (arith, high, n))

    -- so nobody pruned
    nobody : (r : ℕ) → is_correct w r ≡ true → horizon (chronicle_of w r) ≡ 0
    nobody r c =
        let a = horizon-low (chronicle_of w r) in
        let e = executed-locked (chronicle_of w r) in
        let n = ap (λ (x : Branch). length x) (locks-nil r c) in
        omega (arith, a, e, n)

    -- a replica that is as it was, but for its view
    record IsSettled (self : Identity) (v r : ℕ) (c : Chronicle) : Type 0 where
      in_view : view self.sizes c ≡ v
      forgotten : horizon c ≡ 0
      unlocked : lock c ≡ []
      trees : length (window c) + suc (room_above top []) ≤ MOST_BLOCKS
      heights : (h : ℕ) → 0 < h → suc (of_height h c) < MOST_OF_HEIGHT
      voted_low : vheight c < top
      taken : taken_blocks c ≡ taken_blocks (chronicle_of w r)

    settled : (self : Identity) (v r : ℕ) (c d : Chronicle) → is_correct w r ≡ true → view self.sizes c ≡ v
        → taken_blocks c ≡ taken_blocks (chronicle_of w r) → horizon c ≡ horizon (chronicle_of w r)
        → vheight c ≡ vheight (chronicle_of w r) → IsAlike self c d → IsSettled self v r d
    settled self v r c d cr in_view taken forgotten voted alike =
        let before : Chronicle = chronicle_of w r in
        let t = alike.taken ∙ taken in
        let f = alike.forgotten ∙ forgotten in
        let win = window-told before d t f in
        let n = ap (λ (x : List Branch). length x) win in
        let trees = room.trees r cr in
        let zero = ap (λ (x : Branch). length x) low in
        let nolock = ap (λ (x : Branch). length x) (locks-nil l (healer-highest w (family-of Known w g)).0) in
        let v1 = vheight-told d c alike.voted in
        let high = highest-voted-above w (correct_replicas w) r (correct-listed w r cr) in
        record {
          in_view = alike.in_view ∙ in_view;
          forgotten = f ∙ nobody r cr;
          unlocked = lock-told before d t ∙ locks-nil r cr;
          trees = omega (arith, trees, n, zero, nolock);
          heights = λ h up.
              let done = executed-locked before in
              let own = ap (λ (x : Branch). length x) (locks-nil r cr) in
              let few = room.heights r cr h (omega (arith, done, own, up)) in
              let k = ap (λ (x : List Branch). count_by (λ y. length y == h) x) win in
              omega (arith, few, k);
          voted_low = omega (arith, v1, voted, high);
          taken = t;
        }

    -- who is settled has a place for a first block
    settled-place : (self : Identity) (v r : ℕ) (c : Chronicle) (b : Block) → IsSettled self v r c → b.justify ≡ 0
        → HasPlace c b []
    settled-place self v r c b s j =
        let t = s.trees in
        let few = s.heights 1 (omega arith) in
        let high = room.low in
        let zero = s.forgotten in
        record {
          stands = window-genesis c;
          below = omega (arith, j);
          reach = omega (arith, j, zero);
          room = omega (arith, t);
          uncrowded = omega (arith, few);
          low = omega (arith, high);
        }

    -- and climbs after it
    settled-climbs : (self : Identity) (v r : ℕ) (b : Block) (c d : Chronicle) → IsLawful self.sizes d → b.justify ≡ 0
        → IsSettled self v r c
        → ((a : Admitted) × (d ≡ took_block a ∷ c) × (a.branch ≡ b ∷ [])
        × ((a.new ≡ true) ⊎ ((a.new ≡ false) × Among (b ∷ []) (window c))))
        ⊎ ((d ≡ c) × (taken_blocks c ≡ [] → ⊥))
        → Climbs self v [] [] (room_above top []) d × (lock d ≡ []) × (vheight d ≤ top)
    settled-climbs self v r b c d law j s (inl (a, e, branch, fresh)) =
        let q = s.voted_low in
        let long = ap (λ (x : Branch). length x) branch in
        let low = voted-low c a (suc top) (omega (arith, q)) (omega (arith, long)) in
        let is = ap vheight e in (
          subst (Climbs self v [] [] (room_above top [])) (sym e)
              (new-climbs self v (room_above top []) c b a branch j fresh s.in_view s.forgotten s.unlocked
              s.trees s.heights),
          ap lock e ∙ first-lock a c b branch j s.unlocked,
          omega (arith, low, is),
        )
    settled-climbs self v r b c d law j s (inr (e, some)) =
        let q = s.voted_low in
        let is = ap vheight e in (
          subst (Climbs self v [] [] (room_above top [])) (sym e)
              (old-climbs self v (room_above top []) c (subst (IsLawful self.sizes) e law) some s.in_view s.forgotten
              s.unlocked (let t = s.trees in omega (arith, t)) (λ n up. let h = s.heights n up in omega (arith, h))),
          ap lock e ∙ s.unlocked,
          omega (arith, q, is),
        )

    pub first-staged : (v : ℕ) (w1 : World) (rest : List Happening)
        → IsOnWay sizes start all w1 (make_first l w1 ++ rest) → IsMadeAs w w1 → ShareKeys w → CameTo v w w1
        → leader w.sizes v ≡ l → over_lock l w1 ≡ []
        → Passes w1 (make_first l w1) × HasFirsts w1 (after w1 (make_first l w1)) l v top
    first-staged v w1 rest on made1 keys came leads_it over =
        let cl = (healer-highest w (family-of Known w g)).0 in
        let cl1 = same-correct w w1 made1 l ∙ cl in
        let is = first-is l w1 over in
        let on0 = subst (λ (x : List Happening). IsOnWay sizes start all w1 (x ++ rest)) is on in
        let keys1 = keys-in w w1 made1 keys in
        let lead1 : leader w1.sizes v ≡ l = ap (λ (z : Sizes). leader z v) made1.sizes ∙ leads_it in
        let low1 = lock-told (chronicle_of w l) (chronicle_of w1 l) (came.rest l cl1).taken ∙ locks-nil l cl in
        let here : OfCorrect w1 (λ r. (d : Chronicle) → IsAlike (self_of w1 r) (chronicle_of w1 r) d
        → IsSettled (self_of w1 r) v r d) = λ r c d alike.
        (let moved = came.rest r c in
        settled (self_of w1 r) v r (chronicle_of w1 r) d (sym (same-correct w w1 made1 r) ∙ c) (came.views r c)
        moved.taken moved.forgotten (vheight-told (chronicle_of w1 r) (chronicle_of w r) moved.voted) alike) in
        let one = first-brought sizes start all l v w1 rest on0 keys1 came.going_on cl1 low1 lead1 (came.views l cl1)
        (λ r c d b alike j. settled-place (self_of w1 r) v r d b (here r c d alike) j) in
        let events : List Happening = in_turn (tells l ∷ brings (length w1.sent) ∷ []) w1 in
        let wb : World = after w1 events in
        let made = made-after w1 events in
        let gb = on-way sizes start all wb rest (way-past sizes start all events rest w1 on0 one.0) in
        let after_it = one.1 in
        let was : (r : ℕ) → is_correct wb r ≡ true → is_correct w1 r ≡ true = λ r c.
        sym (same-correct w1 wb made r) ∙ c in
        let each : OfCorrect wb (λ r. Climbs (self_of wb r) v [] [] (room_above top []) (chronicle_of wb r)
        × (lock_of wb r ≡ []) × (vheight (chronicle_of wb r) ≤ top)) = λ r c.
        (let n = after_it.each r (was r c) in
        let self = same-self w1 wb made r in
        let k = settled-climbs (self_of w1 r) v r after_it.block n.before (chronicle_of wb r)
        (subst (λ (z : Sizes). IsLawful z (chronicle_of wb r)) made.sizes (sound-of Known wb gb r c).lawful)
        after_it.justify (here r (was r c) n.before n.alike) n.cases in (
          subst (λ (i : Identity). Climbs i v [] [] (room_above top []) (chronicle_of wb r)) (sym self) k.0,
          k.1,
          k.2,
        )) in
        let clb = same-correct w1 wb made l ∙ cl1 in
        let limit = room.low in
        let nolock = ap (λ (x : Branch). length x) (locks-nil l cl) in (
          subst (Passes w1) (sym is) one.0,
          subst (λ (x : List Happening). HasFirsts w1 (after w1 x) l v top) (sym is) (record {
            stage = record {
              keys = keys-in w1 wb made keys1;
              goes = λ r c. (after_it.each r (was r c)).goes;
              correct = clb;
              leader_is = ap (λ (z : Sizes). leader z v) made.sizes ∙ lead1;
              lock_is = (each l clb).1;
              climbs = λ r c. (each r c).0;
              low = λ r c. (each r c).2;
              limit = omega (arith, limit, nolock);
            };
            session = after_it.session;
          }),
        )
