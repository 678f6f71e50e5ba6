-- A leader makes a first block, on genesis.
use Rattle.ids.specs.declared.fault.Fault.TheVariants as fault
use Rattle.std.proofs.Common.{ℕ, ◌≡◌, ◌⊎◌, ◌&&◌, not, Bool, true, false, List, [], ◌∷◌, ◌++◌}
use Rattle.std.proofs.Common.{length, refl, sym, ap, subst, ◌∙◌, inl, inr, Option, Some, None, true≢false}
use Rattle.std.proofs.lemmas.Bool.{cond-true, cond-false, cases_Bool, eq-eqb, and_parts}
use Rattle.std.proofs.lemmas.List.{append-nil}
use Rattle.std.specs.Prelude.{is_some}
use Rattle.ids.specs.Sizes.{Sizes, leader}
use Rattle.definitions.specs.Branches.{Block, Branch}
use Rattle.definitions.specs.Checks.{Identity}
use Rattle.definitions.specs.Chronicles.{Chronicle, Step.noted, Note.beat, Note.led_from, taken_blocks, voted_blocks}
use Rattle.definitions.specs.Chronicles.{Admitted, IsLawful, horizon, window, lock}
use Rattle.definitions.specs.Digests.{digest_of, AllKnown}
use Rattle.definitions.specs.Frames.{Core, Frame}
use Rattle.definitions.specs.Grounds.{may_lead_from}
use Rattle.definitions.specs.Replicas.{MemorySupply.ample, Replica, Standing.running}
use Rattle.definitions.specs.Rulings.{Input.lead_in, Input.beat_in, Ruling.refusing, lead, ruling}
use Rattle.definitions.specs.Sendings.{Sending, To.to_all, sendings, proposal_frame, proposes}
use Rattle.definitions.specs.States.{Justified, view, leaf, qc_high, proposed, made_with, child, leads, me, find_block}
use Rattle.definitions.specs.States.{is_known}
use Rattle.definitions.specs.Worlds.{World, Sent, Event.beat, Happening, is_correct, is_replica, self_of}
use Rattle.definitions.specs.Worlds as worlds
use Rattle.definitions.specs.Runs.{refusal, after}
use Rattle.definitions.specs.Events.{happens}
use Rattle.definitions.proofs.Horizons.{led-high, window-genesis}
use Rattle.definitions.proofs.Trees.{found-itself}
use Rattle.linear_law.proofs.Leaves.{known-block}
use Rattle.linear_law.proofs.Runs.{member-faulty}
use Rattle.linear_law.proofs.StoredFrames.{AreStored}
use Rattle.recovery.specs.Correct.{ShareKeys, chronicle_of, lock_of, view_of, amply}
use Rattle.recovery.proofs.Beginnings.{lead-comes, lead-hands, lead-leaf}
use Rattle.recovery.proofs.Copies.{correct-party}
use Rattle.recovery.proofs.Firsts.{IsPlain, IsLost, tree-empty, high-empty, plain-high, no-genesis}
use Rattle.recovery.proofs.Locks.{led-from-lock}
use Rattle.recovery.proofs.Making.{made-block, made-justifies, child-made, beat-hands}
use Rattle.recovery.proofs.Offers.{row-own, row-other}
use Rattle.recovery.proofs.Steps.{outs, TookStep, step-stood, refused}
use Rattle.recovery.proofs.Ways.{IsOnWay, KnownAt, on-way, way-on}
use Rattle.recovery.proofs.Wells.{IsReached, sound-of, stored-of}
use Rattle.recovery.proofs.Worlds.{IsMadeAs, made-both, keys-in, same-correct, same-self, Passes, passes-none}
use Rattle.recovery.proofs.Worlds.{passes-one}
use Rattle.recovery.proofs.Worlds.{named}

-- ---- what a beat proposes

-- a block on genesis, by genesis's certificate
pub record IsFirst (self : Identity) (c : Chronicle) : Type 0 where
  pub block : Block
  pub made : Justified
  pub next : made_with (child self c (leaf self c)) (qc_high self.sizes c).certificate (proposed self c) ≡ Some made
  pub block_is : made.block ≡ block ∷ []
  pub justify : block.justify ≡ 0
  pub plain : IsPlain made.certificate

-- a leader's beat proposes it
first-sent : (self : Identity) (c : Chronicle) → leads self c ≡ true → (f : IsFirst self c)
    → sendings self (noted beat) c ≡ (to_all, proposal_frame self (view self.sizes c) f.made) ∷ []
unfolding sendings proposed
first-sent self c l f =
    cond-true (leads self c) _ _ l ∙ ap (λ (o : Option Justified). proposes self (view self.sizes c) o) f.next

-- where its leaf is genesis
first-new : (self : Identity) (c : Chronicle) → leads self c ≡ true → is_known (digest_of []) c ≡ true
    → leaf self c ≡ [] → AreStored self c → (qc_high self.sizes c).block ≡ [] → IsFirst self c
first-new self c l known e stored high = record {
  block = made-block self c;
  made = record { block = made-block self c ∷ leaf self c; certificate = (qc_high self.sizes c).certificate };
  next = ap (λ (o : Option Branch). made_with o (qc_high self.sizes c).certificate (proposed self c))
      (child-made self c l (ap (λ (x : Branch). is_known (digest_of x) c) e ∙ known));
  block_is = ap (λ (x : Branch). made-block self c ∷ x) e;
  justify = made-justifies self c ∙ ap (λ (x : Branch). length x) high;
  plain = plain-high self c stored high;
}

-- where its last proposal is lost
first-lost : (self : Identity) (c : Chronicle) (h : IsLost self c) → is_known (digest_of (leaf self c)) c ≡ false
    → IsFirst self c
unfolding child
first-lost self c h n = record {
  block = h.block;
  made = h.made;
  next = ap (λ (o : Option Branch). made_with o (qc_high self.sizes c).certificate (proposed self c))
      (cond-false (leads self c && is_known (digest_of (leaf self c)) c) _ _
      (none (leads self c) (is_known (digest_of (leaf self c)) c) n))
      ∙ h.proposed_is;
  block_is = h.block_is;
  justify = h.justify;
  plain = h.plain;
}
  where
    none : (t k : Bool) → k ≡ false → (t && k) ≡ false
    none true k e = e
    none false k e = refl

-- ---- what the leader's chronicle keeps

-- as it was, but for its leaf and its highest certificate
pub record IsAlike (self : Identity) (c d : Chronicle) : Type 0 where
  pub taken : taken_blocks d ≡ taken_blocks c
  pub voted : voted_blocks d ≡ voted_blocks c
  pub forgotten : horizon d ≡ horizon c
  pub in_view : view self.sizes d ≡ view self.sizes c

pub alike-none : (self : Identity) (c : Chronicle) → IsAlike self c c
alike-none self c = record { taken = refl; voted = refl; forgotten = refl; in_view = refl }

alike-led : (self : Identity) (b : Branch) (c : Chronicle) → IsAlike self c (noted (led_from b) ∷ c)
unfolding taken_blocks voted_blocks horizon view
alike-led self b c = record { taken = refl; voted = refl; forgotten = refl; in_view = refl }

alike-beat : (self : Identity) (c d : Chronicle) → IsAlike self c d → IsAlike self c (noted beat ∷ d)
unfolding taken_blocks voted_blocks horizon view
alike-beat self c d h = record { taken = h.taken; voted = h.voted; forgotten = h.forgotten; in_view = h.in_view }

-- ---- the events

-- after a lead that stood, or was refused
record HasLed (w mid : World) (l : ℕ) : Type 0 where
  made : IsMadeAs w mid
  sent : mid.sent ≡ w.sent
  session : mid.session ≡ w.session
  others : (j : ℕ) → (j ≡ l → ⊥) → mid.replica j ≡ w.replica j
  goes : (mid.replica l).standing ≡ running
  alike : IsAlike (self_of w l) (chronicle_of w l) (chronicle_of mid l)
  high : (qc_high mid.sizes (chronicle_of mid l)).block ≡ []
  leaf_is : (leaf (self_of mid l) (chronicle_of mid l) ≡ []) ⊎ (taken_blocks (chronicle_of mid l) ≡ [])

led-stood : (w mid : World) (l : ℕ) → TookStep w mid l (noted (led_from [])) → HasLed w mid l
unfolding sendings
led-stood w mid l st =
    let ch : Chronicle = chronicle_of w l in
    let own = row-own w mid l (noted (led_from [])) st in
    let ownc : chronicle_of mid l ≡ noted (led_from []) ∷ ch = ap (λ (x : Replica). x.chronicle) own in
    record {
      made = st.made;
      sent = st.sent ∙ append-nil w.sent;
      session = st.session;
      others = row-other w mid l (noted (led_from [])) st;
      goes = ap (λ (x : Replica). x.standing) own;
      alike = subst (IsAlike (self_of w l) ch) (sym ownc) (alike-led (self_of w l) [] ch);
      high = (λ i. (qc_high (st.made.sizes i) (ownc i)).block) ∙ led-high w.sizes [] ch;
      leaf_is = inl ((λ i. leaf (same-self w mid st.made l i) (ownc i)) ∙ lead-leaf (self_of w l) [] ch);
    }

-- who may not lead from a lock that is genesis never took a block
none-taken : (self : Identity) (c : Chronicle) → IsLawful self.sizes c → lock c ≡ [] → may_lead_from self [] c ≡ false
    → taken_blocks c ≡ []
none-taken self c law low f = by (taken_blocks c) refl
  where
    by : (t : List Admitted) → taken_blocks c ≡ t → taken_blocks c ≡ []
    by [] e = e
    by (a ∷ t) e =
        absurd (true≢false (sym (subst (λ (x : Branch). may_lead_from self x c ≡ true) low
        (led-from-lock self c law (λ z. apart (sym e ∙ z)))) ∙ f))
      where
        apart : a ∷ t ≡ [] → ⊥
        apart q = cc

-- the lead is refused otherwise
lead-refused : (self : Identity) (c : Chronicle) → find_block (digest_of []) c ≡ Some []
    → may_lead_from self [] c ≡ false → ruling self (lead_in (digest_of [])) c ≡ refusing fault.UnknownParent
unfolding ruling
lead-refused self c there f =
    ap (λ (o : Option Branch). lead self o c) there ∙ cond-false (may_lead_from self [] c) _ _ f

-- genesis stands with everyone
genesis-there : (Known : Core → Type 0) (w : World) → IsReached Known w → (r : ℕ) → is_correct w r ≡ true
    → find_block (digest_of []) (chronicle_of w r) ≡ Some []
unfolding find_block
genesis-there Known w g r c =
    found-itself _ (window (chronicle_of w r)) (sound-of Known w g r c).is_tree [] (window-genesis (chronicle_of w r))

genesis-known : (Known : Core → Type 0) (w : World) → IsReached Known w → (r : ℕ) → is_correct w r ≡ true
    → is_known (digest_of []) (chronicle_of w r) ≡ true
unfolding is_known
genesis-known Known w g r c = ap is_some (genesis-there Known w g r c)

-- a leader proposed a first block
pub record HasFirstMade (w next : World) (l v : ℕ) : Type 0 where
  pub made_as : IsMadeAs w next
  pub session : next.session ≡ w.session
  pub others : (j : ℕ) → (j ≡ l → ⊥) → next.replica j ≡ w.replica j
  pub goes : (next.replica l).standing ≡ running
  pub alike : IsAlike (self_of w l) (chronicle_of w l) (chronicle_of next l)
  pub block : Block
  pub made : Justified
  pub msg : Sent
  pub sent : next.sent ≡ w.sent ++ msg ∷ []
  pub frame_is : msg.frame ≡ proposal_frame (self_of next l) v made
  pub block_is : made.block ≡ block ∷ []
  pub justify : block.justify ≡ 0
  pub plain : IsPlain made.certificate

module _ (sizes : Sizes) (start : World) (all : List Happening) where
  -- the lead
  first-led : (w : World) (rest : List Happening) (l : ℕ)
      → IsOnWay sizes start all w ((worlds.lead l (digest_of []), ample) ∷ rest) → is_correct w l ≡ true
      → (w.replica l).standing ≡ running → lock_of w l ≡ []
      → (refusal w (worlds.lead l (digest_of [])) ≡ None)
      × HasLed w (happens w (worlds.lead l (digest_of []), ample)) l
  first-led w rest l on c s low =
      let Known = KnownAt sizes start all in
      let self : Identity = self_of w l in
      let ch : Chronicle = chronicle_of w l in
      let ev = worlds.lead l (digest_of []) in
      let mid : World = happens w (ev, ample) in
      let g = on-way sizes start all w ((ev, ample) ∷ rest) on in
      let law = (sound-of Known w g l c).lawful in
      elim (cases_Bool (may_lead_from self [] ch)) [
        | inl t ↦ (
            let one = subst (λ (x : Branch). IsOnWay sizes start all w ((worlds.lead l (digest_of x), ample) ∷ rest)
            → may_lead_from self x ch ≡ true → (refusal w (worlds.lead l (digest_of x)) ≡ None)
            × TookStep w (happens w (worlds.lead l (digest_of x), ample)) l (noted (led_from x))) low
            (λ k m. lead-comes sizes start all w rest l k c s m) on t in
            (one.0, led-stood w mid l one.1))
        | inr f ↦ (
            let ok = named w ev (and_parts (is_replica w l) (not (w.is_faulty l)) c).0 refl refl in
            let none = none-taken self ch law low f in
            let st = refused w ev l (lead_in (digest_of [])) fault.UnknownParent (lead-hands w l (digest_of []) c s)
            (lead-refused self ch (genesis-there Known w g l c) f) refl in
            let own : chronicle_of mid l ≡ ch = ap (λ (x : Replica). x.chronicle) (st.row l) in (
              ok,
              record {
                made = st.made;
                sent = st.sent ∙ append-nil w.sent;
                session = st.session;
                others = λ j n. st.row j;
                goes = ap (λ (x : Replica). x.standing) (st.row l) ∙ s;
                alike = subst (IsAlike self ch) (sym own) (alike-none self ch);
                high = (λ i. (qc_high (st.made.sizes i) (own i)).block)
                    ∙ high-empty w.sizes ch law (sound-of Known w g l c).known none;
                leaf_is = inr (ap taken_blocks own ∙ none);
              },
            ))
      ]

  -- what it makes is a first block
  makes-first : (w mid : World) (l : ℕ) → HasLed w mid l → IsReached (KnownAt sizes start all) mid
      → is_correct mid l ≡ true → leads (self_of mid l) (chronicle_of mid l) ≡ true
      → IsFirst (self_of mid l) (chronicle_of mid l)
  makes-first w mid l led g c leading =
      let Known = KnownAt sizes start all in
      let self : Identity = self_of mid l in
      let d : Chronicle = chronicle_of mid l in
      let fresh : leaf self d ≡ [] → IsFirst self d = λ e.
      first-new self d leading (genesis-known Known mid g l c) e (stored-of Known mid g l c) led.high in
      let lost : taken_blocks d ≡ [] → IsLost self d → IsFirst self d = λ none h.
      first-lost self d h (elim (cases_Bool (is_known (digest_of (leaf self d)) d)) [
        | inr n ↦ n
        | inl t ↦ absurd (
            let y = known-block (digest_of (leaf self d)) d t in
            let z = tree-empty d none y.0 y.1 in
            no-genesis Known g.apart g.genesis h.block
            (subst (AllKnown Known) h.leaf_is (g.well.framed.leaves l c led.goes).known)
            (ap digest_of (sym z) ∙ (y.2 ∙ ap digest_of h.leaf_is)))
      ]) in
      elim led.leaf_is [
        | inl e ↦ fresh e
        | inr none ↦ (elim (g.firsts l c led.goes none) [ inl e ↦ fresh e | inr h ↦ lost none h ])
      ]

  -- the beat
  first-beat : (w mid : World) (rest : List Happening) (l v : ℕ) → HasLed w mid l
      → IsOnWay sizes start all mid ((beat l, ample) ∷ rest) → ShareKeys mid → is_correct mid l ≡ true
      → leader mid.sizes v ≡ l → view_of mid l ≡ v
      → (refusal mid (beat l) ≡ None) × HasFirstMade w (happens mid (beat l, ample)) l v
  unfolding ruling leads
  first-beat w mid rest l v led on keys c leading_is in_view =
      by (makes-first w mid l led (on-way sizes start all mid ((beat l, ample) ∷ rest) on) c leading)
    where
      number : me (self_of mid l) ≡ l
      number = keys.numbers l (correct-party mid l c) (member-faulty mid l c)

      leading : leads (self_of mid l) (chronicle_of mid l) ≡ true
      leading =
          eq-eqb (leader mid.sizes (view mid.sizes (chronicle_of mid l))) (me (self_of mid l))
          (ap (leader mid.sizes) in_view ∙ (leading_is ∙ sym number))

      by : IsFirst (self_of mid l) (chronicle_of mid l)
          → (refusal mid (beat l) ≡ None) × HasFirstMade w (happens mid (beat l, ample)) l v
      by f =
          let self : Identity = self_of mid l in
          let d : Chronicle = chronicle_of mid l in
          let next : World = happens mid (beat l, ample) in
          let ok : refusal mid (beat l) ≡ None =
          named mid (beat l) (and_parts (is_replica mid l) (not (mid.is_faulty l)) c).0 refl refl in
          let on1 = way-on sizes start all mid (beat l, ample) rest on ok in
          let st = step-stood mid (beat l) l beat_in (noted beat) (beat-hands mid l c led.goes) refl
          on1.well.good.answers in
          let own = row-own mid next l (noted beat) st in
          let ownc : chronicle_of next l ≡ noted beat ∷ d = ap (λ (x : Replica). x.chronicle) own in
          let frame : Frame = proposal_frame self (view mid.sizes d) f.made in
          let msg : Sent = record { event = mid.now; sender = l; to = to_all; frame = frame } in (
            ok,
            record {
              made_as = made-both w mid next led.made st.made;
              session = st.session ∙ led.session;
              others = λ j n. row-other mid next l (noted beat) st j n ∙ led.others j n;
              goes = ap (λ (x : Replica). x.standing) own;
              alike = subst (IsAlike (self_of w l) (chronicle_of w l)) (sym ownc)
                  (alike-beat (self_of w l) (chronicle_of w l) d led.alike);
              block = f.block;
              made = f.made;
              msg = msg;
              sent = st.sent ∙ (ap (λ (o : List Sending). mid.sent ++ outs mid l o) (first-sent self d leading f)
                  ∙ ap (λ (x : List Sent). x ++ msg ∷ []) led.sent);
              frame_is = (λ i. proposal_frame (sym (same-self mid next st.made l) i) (in_view i) f.made);
              block_is = f.block_is;
              justify = f.justify;
              plain = f.plain;
            },
          )

  -- both
  pub first-made : (w : World) (rest : List Happening) (l v : ℕ)
      → IsOnWay sizes start all w (amply (worlds.lead l (digest_of []) ∷ beat l ∷ []) ++ rest) → ShareKeys w
      → is_correct w l ≡ true → (w.replica l).standing ≡ running → lock_of w l ≡ [] → leader w.sizes v ≡ l
      → view_of w l ≡ v
      → Passes w (amply (worlds.lead l (digest_of []) ∷ beat l ∷ []))
      × HasFirstMade w (after w (amply (worlds.lead l (digest_of []) ∷ beat l ∷ []))) l v
  unfolding after
  first-made w rest l v on keys c s low leads_it in_view =
      let ev = worlds.lead l (digest_of []) in
      let one = first-led w _ l on c s low in
      let mid : World = happens w (ev, ample) in
      let on1 = way-on sizes start all w (ev, ample) _ on one.0 in
      let made = one.1.made in
      let two = first-beat w mid rest l v one.1 on1 (keys-in w mid made keys) (same-correct w mid made l ∙ c)
      (ap (λ (z : Sizes). leader z v) made.sizes ∙ leads_it)
      (ap (λ (z : Sizes). view z (chronicle_of mid l)) made.sizes ∙ (one.1.alike.in_view ∙ in_view)) in
      let next : World = happens mid (beat l, ample) in (
        passes-one w (ev, ample) ((beat l, ample) ∷ []) one.0 (passes-one mid (beat l, ample) [] two.0
            (passes-none next)),
        two.1,
      )
