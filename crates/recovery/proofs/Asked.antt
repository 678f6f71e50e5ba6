-- One replica asks another one for a block, and its question comes there.
use Rattle.ids.specs.declared.kind.Kind.TheVariants as kind
use Rattle.std.proofs.Common.{ℕ, ◌≡◌, ◌==◌, not, Bool, true, false, cond, List, [], ◌∷◌, ◌++◌, map, filter, find}
use Rattle.std.proofs.Common.{length, drop, arith, refl, sym, ap, subst, ◌∙◌, inl, inr, Option, Some, None}
use Rattle.std.proofs.Common.{option_map, slice_get}
use Rattle.std.proofs.lemmas.Bool.{cond-true, cond-false, cond_both, eq-eqb, ne_eqb, eqb-true, cases_eq, and_parts}
use Rattle.std.proofs.lemmas.Bool.{and_from, lt-ltb}
use Rattle.std.proofs.lemmas.List.{append-nil, append_assoc, map-append, length-append}
use Rattle.std.proofs.Math.Seq.{drop-append_seam}
use Rattle.ids.specs.Sizes.{Sizes}
use Rattle.definitions.specs.Bytes.{Bytes}
use Rattle.definitions.specs.Lists.{Among}
use Rattle.definitions.specs.Branches.{Branch, branch_eq}
use Rattle.definitions.specs.Trees.{blocks, standing, find_in}
use Rattle.definitions.specs.Frames.{Frame, fetch_content}
use Rattle.definitions.specs.Checks.{Identity}
use Rattle.definitions.specs.Chronicles.{Admitted, Chronicle, Step.noted, Note.got_fetch, taken_blocks, voted_blocks}
use Rattle.definitions.specs.Chronicles.{horizon, history, executed, decided, window, standing_blocks}
use Rattle.definitions.specs.Chronicles.{stored_blocks, stored_block}
use Rattle.definitions.specs.States.{me, view, votes, raised, qc_high, leaf, pending, find_block}
use Rattle.definitions.specs.Rulings.{Input, Input.ask_in, Input.fetch_in, ruling}
use Rattle.definitions.specs.Sendings.{Sending, To.to_party, sendings, fetch_frame, block_frame, as_taken, supplies}
use Rattle.definitions.specs.Replicas.{MemorySupply.ample, Replica, Reaction.asks_for, Standing.running}
use Rattle.definitions.specs.Worlds.{World, Sent, Event, Event.ask, Event.relay, Event.offer, Event.gather, Happening}
use Rattle.definitions.specs.Worlds.{Source, Source.of_record, is_correct, is_replica, self_of}
use Rattle.definitions.specs.Runs.{refusal, after}
use Rattle.definitions.specs.Events.{acts, happens, party_of, comes, offers, on_checked, recorded, out_of, frames_of}
use Rattle.definitions.specs.Admission.{Checked, Checked.passes, check, check_offer, check_gathered}
use Rattle.linear_law.proofs.Runs.{member-faulty}
use Rattle.recovery.specs.Correct.{OfCorrect, AllGoOn, ShareKeys, chronicle_of, amply}
use Rattle.recovery.specs.Healing.{in_turn, is_question, is_copy, receivers, comes_to, delivered, delivered_since}
use Rattle.recovery.specs.Healing.{ask_one, ask_each}
use Rattle.recovery.specs.Fetching.{OnlyAsked}
use Rattle.recovery.proofs.Worlds.{IsMadeAs, made-both, keys-in, after-append, passes-append, same-self}
use Rattle.recovery.proofs.Worlds.{same-correct, Passes, passes-none, passes-one, named}
use Rattle.recovery.proofs.Copies.{tag-verifies, correct-party, copies-of}
use Rattle.recovery.proofs.Steps.{going, outs, HandsIn, step-stood, asked, frame-behind}
use Rattle.recovery.proofs.Views.{moved-trans, not-moved, pending-due, not-less}
use Rattle.recovery.proofs.Ways.{IsOnWay, way-on, way-past}

-- ---- how events hand in what they bring

pub relay-hands : (w : World) (k r : ℕ) (f : Frame) (i : Input) → is_correct w r ≡ true
    → (w.replica r).standing ≡ running → recorded w k ≡ Some f → check (self_of w r) f ≡ passes i
    → HandsIn w (relay k r) r i
unfolding acts comes party_of
relay-hands w k r f i c s e h = record {
  party = refl;
  correct = c;
  goes_on = s;
  acting = ap (λ (o : Option Frame). comes r ample o w) e
      ∙ (cond-true (is_replica w r) _ _ (and_parts (is_replica w r) (not (w.is_faulty r)) c).0
      ∙ ap (λ (x : Checked). on_checked r ample x w) h);
}

pub offer-hands : (w : World) (k r : ℕ) (f : Frame) (i : Input) → is_correct w r ≡ true
    → (w.replica r).standing ≡ running → recorded w k ≡ Some f → check_offer (self_of w r) f ≡ passes i
    → HandsIn w (offer r (of_record k)) r i
unfolding acts offers party_of
offer-hands w k r f i c s e h = record {
  party = refl;
  correct = c;
  goes_on = s;
  acting = ap (λ (o : Option Frame). offers r ample o w) e ∙ ap (λ (x : Checked). on_checked r ample x w) h;
}

pub gather-hands : (w : World) (r : ℕ) (ss : List Source) (fs : List Frame) (i : Input) → is_correct w r ≡ true
    → (w.replica r).standing ≡ running → frames_of w ss ≡ fs → check_gathered (self_of w r) fs ≡ passes i
    → HandsIn w (gather r ss) r i
unfolding acts party_of
gather-hands w r ss fs i c s e h = record {
  party = refl;
  correct = c;
  goes_on = s;
  acting = ap (λ (l : List Frame). on_checked r ample (check_gathered (self_of w r) l) w) e
      ∙ ap (λ (x : Checked). on_checked r ample x w) h;
}

ask-hands : (w : World) (u r : ℕ) (d : Bytes) → is_correct w u ≡ true → (w.replica u).standing ≡ running
    → HandsIn w (ask u r d) u (ask_in r d)
unfolding acts party_of
ask-hands w u r d c s = record { party = refl; correct = c; goes_on = s; acting = refl }

-- ---- a question leaves a replica as it was

asked-only : (self : Identity) (sender : ℕ) (b : Option Branch) (c : Chronicle)
    → OnlyAsked self c (noted (got_fetch sender b) ∷ c)
unfolding taken_blocks voted_blocks horizon votes qc_high leaf pending raised history executed decided view
asked-only self sender b c = (
  record {
    taken = refl;
    voted = refl;
    forgotten = refl;
    kept = λ x. refl;
    certified = refl;
    leaf_is = cond-false _ _ _ (not-less (length (qc_high self.sizes c).block));
    waiting = pending-due c;
  },
  refl,
)

pub asked-trans : (self : Identity) (a b c : Chronicle) → OnlyAsked self a b → OnlyAsked self b c → OnlyAsked self a c
asked-trans self a b c h k = (moved-trans self a b c h.0 k.0, k.1 ∙ h.1)

pub asked-none : (self : Identity) (c : Chronicle) → OnlyAsked self c c
asked-none self c = (not-moved self c, refl)

-- ---- who answers

-- the copy that a replica has, where it isn't who asks
abbrev pub with-copy : ℕ → Option Admitted → List (ℕ × Admitted)
with-copy r None = []
with-copy r (Some a) = (r, a) ∷ []

-- the block of this digest as a replica took it
abbrev pub copy-at : World → Bytes → ℕ → Option Admitted
copy-at w d r = as_taken (find_block d (chronicle_of w r)) (chronicle_of w r)

abbrev pub answer-of : World → ℕ → Bytes → ℕ → List (ℕ × Admitted)
answer-of w u d r = cond (r == u) [] (with-copy r (copy-at w d r))

unfoldable pub holders-of : World → ℕ → Bytes → List ℕ → List (ℕ × Admitted)
holders-of w u d [] = []
holders-of w u d (r ∷ rs) = answer-of w u d r ++ holders-of w u d rs

-- ---- one question

-- what asking these leaves
pub record Asked (w v : World) (u : ℕ) (d : Bytes) (rs : List ℕ) : Type 0 where
  pub made : IsMadeAs w v
  pub session : v.session ≡ w.session
  pub going_on : AllGoOn v
  pub only : OfCorrect w (λ j. OnlyAsked (self_of w j) (chronicle_of w j) (chronicle_of v j))
  pub more : List Sent
  pub sent : v.sent ≡ w.sent ++ more
  pub copies : filter is_copy (map (λ s. s.frame) more) ≡ copies-of w u (holders-of w u d rs)

-- the question
question : World → ℕ → ℕ → Bytes → Sent
question w u r d = record { event = w.now; sender = u; to = to_party r; frame = fetch_frame (self_of w u) r d }

out-question : (w : World) (u r : ℕ) (d : Bytes) → (w.ring u).party ≡ u → (r ≡ u → ⊥)
    → out_of (self_of w u) ample (asks_for r d) ≡ (to_party r, fetch_frame (self_of w u) r d) ∷ []
out-question w u r d p n =
    cond-true (not (r == (w.ring u).party)) _ _ (ap not (ne_eqb r (w.ring u).party (λ e. n (e ∙ p))))

out-none : (w : World) (u r : ℕ) (d : Bytes) → (w.ring u).party ≡ u → r ≡ u
    → out_of (self_of w u) ample (asks_for r d) ≡ []
out-none w u r d p e =
    cond-false (not (r == (w.ring u).party)) _ _ (ap not (eq-eqb r (w.ring u).party (e ∙ sym p)))

-- the questions of a record that grew
delivered-new : (w v : World) (more : List Sent) → v.sent ≡ w.sent ++ more
    → delivered_since (length w.sent) is_question v ≡ delivered is_question v (length w.sent) more
delivered-new w v more e =
    ap (λ (l : List Sent). delivered is_question v (length w.sent) (drop (length w.sent) l)) e
    ∙ ap (λ (l : List Sent). delivered is_question v (length w.sent) l) (drop-append_seam w.sent more)

-- the events of one question to another replica, and to itself
ask-other-is : (w : World) (u r : ℕ) (d : Bytes)
    → (happens w (ask u r d, ample)).sent ≡ w.sent ++ question w u r d ∷ []
    → ask_one d u r w ≡ (ask u r d, ample) ∷ (relay (length w.sent) r, ample) ∷ []
unfolding ask_one in_turn after delivered is_question fetch_frame receivers comes_to question
ask-other-is w u r d e =
    ap (λ (l : List Event). (ask u r d, ample) ∷ (amply l ++ []))
    (delivered-new w (happens w (ask u r d, ample)) (question w u r d ∷ []) e)

ask-own-is : (w : World) (u r : ℕ) (d : Bytes) → (happens w (ask u r d, ample)).sent ≡ w.sent ++ []
    → ask_one d u r w ≡ (ask u r d, ample) ∷ []
unfolding ask_one in_turn after delivered
ask-own-is w u r d e =
    ap (λ (l : List Event). (ask u r d, ample) ∷ (amply l ++ []))
    (delivered-new w (happens w (ask u r d, ample)) [] e)

-- a digest's length
abbrev pub IsLong : Bytes → Type 0
IsLong d = length d ≡ 32

ask-named : (w : World) (u r : ℕ) (d : Bytes) → is_correct w u ≡ true → is_correct w r ≡ true → IsLong d
    → refusal w (ask u r d) ≡ None
ask-named w u r d cu cr l =
    named w (ask u r d)
    (and_from (is_replica w u) (is_replica w r) (and_parts (is_replica w u) (not (w.is_faulty u)) cu).0
    (and_parts (is_replica w r) (not (w.is_faulty r)) cr).0) refl (eq-eqb (length d) 32 l)

-- the question verifies there
question-checks : (w : World) → ShareKeys w → (u r : ℕ) (d : Bytes) → is_correct w u ≡ true → is_correct w r ≡ true
    → check (self_of w r) (fetch_frame (self_of w u) r d) ≡ passes (fetch_in (me (self_of w u)) d)
unfolding check fetch_frame
question-checks w keys u r d cu cr =
    cond-true _ _ _ (tag-verifies w keys kind.Fetch u r (fetch_content (me (self_of w u)) d) (correct-party w u cu)
    (member-faulty w u cu) cr)

-- what a copy comes to in the record
copy-sent : (w one : World) (u r to : ℕ) (o : Option Admitted) → self_of one r ≡ self_of w r → to ≡ u
    → filter is_copy (map (λ s. s.frame) (outs one r (supplies (self_of one r) to o))) ≡ copies-of w u (with-copy r o)
unfolding is_copy block_frame
copy-sent w one u r to None e i = refl
copy-sent w one u r to (Some a) e i = λ k. block_frame (e k) (i k) a ∷ []

-- from here on: a run whose premises hold
module _ (sizes : Sizes) (start : World) (all : List Happening) (w : World) (keys : ShareKeys w) (goes : AllGoOn w)
    (u : ℕ) (cu : is_correct w u ≡ true) (d : Bytes) (long : IsLong d) where
  abbrev number-u : (w.ring u).party ≡ u
  number-u = keys.numbers u (correct-party w u cu) (member-faulty w u cu)

  -- a question to another replica
  asked-other : (r : ℕ) (rest : List Happening) → is_correct w r ≡ true → (r ≡ u → ⊥)
      → IsOnWay sizes start all w (ask_one d u r w ++ rest)
      → Passes w (ask_one d u r w) × Asked w (after w (ask_one d u r w)) u d (r ∷ [])
  unfolding after ruling sendings holders-of is_question is_copy fetch_frame question
  asked-other r rest cr n on =
      let one : World = happens w (ask u r d, ample) in
      let s1 = asked w (ask u r d) u (ask_in r d) r d (ask-hands w u r d cu (goes u cu)) refl in
      let q : Sent = question w u r d in
      let e1 : one.sent ≡ w.sent ++ q ∷ [] =
      s1.sent ∙ ap (λ (o : List Sending). w.sent ++ outs w u o) (out-question w u r d number-u n) in
      let k : ℕ = length w.sent in
      let two : World = happens one (relay k r, ample) in
      let is = ask-other-is w u r d e1 in
      let on0 = subst (λ (l : List Happening). IsOnWay sizes start all w (l ++ rest)) is on in
      let ok1 = ask-named w u r d cu cr long in
      let on1 = way-on sizes start all w (ask u r d, ample) ((relay k r, ample) ∷ rest) on0 ok1 in
      let cr1 : is_correct one r ≡ true = same-correct w one s1.made r ∙ cr in
      let there : recorded one k ≡ Some (fetch_frame (self_of w u) r d) =
      ap (λ (l : List Sent). option_map (λ s. s.frame) (slice_get l k)) e1 ∙ frame-behind w.sent q [] in
      let checks : check (self_of one r) (fetch_frame (self_of w u) r d) ≡ passes (fetch_in (me (self_of w u)) d) =
      ap (λ (s : Identity). check s (fetch_frame (self_of w u) r d)) (same-self w one s1.made r)
      ∙ question-checks w keys u r d cu cr in
      let goes1 : (one.replica r).standing ≡ running = ap (λ (x : Replica). x.standing) (s1.row r) ∙ goes r cr in
      let ok2 : refusal one (relay k r) ≡ None =
      named one (relay k r) (correct-party one r cr1)
      (lt-ltb k (length one.sent) (let h = ap (λ (l : List Sent). length l) e1 in
      let m = length-append w.sent (q ∷ []) in omega (arith, h, m))) refl in
      let on2 = way-on sizes start all one (relay k r, ample) rest on1 ok2 in
      let c1 : Chronicle = chronicle_of one r in
      let st = step-stood one (relay k r) r (fetch_in (me (self_of w u)) d)
      (noted (got_fetch (me (self_of w u)) (find_block d c1)))
      (relay-hands one k r (fetch_frame (self_of w u) r d) (fetch_in (me (self_of w u)) d) cr1 goes1 there checks)
      refl on2.well.good.answers in
      let out : List Sending = supplies (self_of one r) (me (self_of w u)) (as_taken (find_block d c1) c1) in
      let was : c1 ≡ chronicle_of w r = ap (λ (x : Replica). x.chronicle) (s1.row r) in
      let self1 = same-self w one s1.made r in (
        subst (Passes w) (sym is)
            (passes-one w (ask u r d, ample) ((relay k r, ample) ∷ []) ok1
            (passes-one one (relay k r, ample) [] ok2 (passes-none two))),
        subst (λ (l : List Happening). Asked w (after w l) u d (r ∷ [])) (sym is) (record {
          made = made-both w one two s1.made st.made;
          session = st.session ∙ s1.session;
          going_on = λ j c. subst (λ (row : ℕ → Replica). (row j).standing ≡ running) (sym st.row)
              (cond_both (j == r) (going (noted (got_fetch (me (self_of w u)) (find_block d c1)) ∷ c1)) (one.replica j)
              (λ (x : Replica). x.standing ≡ running) (λ t. refl)
              (λ t. ap (λ (x : Replica). x.standing) (s1.row j)
              ∙ goes j (sym (same-correct w two (made-both w one two s1.made st.made) j) ∙ c)));
          only = λ j c. subst (λ (row : ℕ → Replica). OnlyAsked (self_of w j) (chronicle_of w j) (row j).chronicle)
              (sym st.row)
              (cond_both (j == r) (going (noted (got_fetch (me (self_of w u)) (find_block d c1)) ∷ c1)) (one.replica j)
              (λ (x : Replica). OnlyAsked (self_of w j) (chronicle_of w j) x.chronicle)
              (λ t. subst (λ (i : ℕ). OnlyAsked (self_of w j) (chronicle_of w i)
              (noted (got_fetch (me (self_of w u)) (find_block d c1)) ∷ c1)) (sym (eqb-true j r t))
              (subst (λ (y : Chronicle). OnlyAsked (self_of w j) y
              (noted (got_fetch (me (self_of w u)) (find_block d c1)) ∷ c1)) was
              (asked-only (self_of w j) (me (self_of w u)) (find_block d c1) c1)))
              (λ t. subst (λ (x : Replica). OnlyAsked (self_of w j) (chronicle_of w j) x.chronicle) (sym (s1.row j))
              (asked-none (self_of w j) (chronicle_of w j))));
          more = q ∷ outs one r out;
          sent = st.sent ∙ (ap (λ (l : List Sent). l ++ outs one r out) e1 ∙ append_assoc w.sent (q ∷ [])
              (outs one r out));
          copies = copy-sent w one u r (me (self_of w u)) (as_taken (find_block d c1) c1) self1 number-u
              ∙ (ap (λ (c : Chronicle). copies-of w u (with-copy r (as_taken (find_block d c) c))) was
              ∙ ap (copies-of w u) (sym (cond-false (r == u) [] (with-copy r (copy-at w d r)) (ne_eqb r u n))
              ∙ sym (append-nil _)));
        }),
      )

  -- a question to itself isn't sent
  asked-own : (rest : List Happening) → IsOnWay sizes start all w (ask_one d u u w ++ rest)
      → Passes w (ask_one d u u w) × Asked w (after w (ask_one d u u w)) u d (u ∷ [])
  unfolding after ruling holders-of
  asked-own rest on =
      let one : World = happens w (ask u u d, ample) in
      let s1 = asked w (ask u u d) u (ask_in u d) u d (ask-hands w u u d cu (goes u cu)) refl in
      let e1 : one.sent ≡ w.sent ++ [] =
      s1.sent ∙ ap (λ (o : List Sending). w.sent ++ outs w u o) (out-none w u u d number-u refl) in
      let is = ask-own-is w u u d e1 in (
        subst (Passes w) (sym is)
            (passes-one w (ask u u d, ample) [] (ask-named w u u d cu cu long) (passes-none one)),
        subst (λ (l : List Happening). Asked w (after w l) u d (u ∷ [])) (sym is) (record {
          made = s1.made;
          session = s1.session;
          going_on = λ j c. ap (λ (x : Replica). x.standing) (s1.row j)
              ∙ goes j (sym (same-correct w one s1.made j) ∙ c);
          only = λ j c. subst (λ (x : Replica). OnlyAsked (self_of w j) (chronicle_of w j) x.chronicle) (sym (s1.row j))
              (asked-none (self_of w j) (chronicle_of w j));
          more = [];
          sent = e1;
          copies = ap (copies-of w u) (sym (cond-true (u == u) [] (with-copy u (copy-at w d u)) (eq-eqb u u refl)))
              ∙ ap (copies-of w u) (sym (append-nil (answer-of w u d u)));
        }),
      )

  -- a question to any correct replica
  asked-one : (r : ℕ) (rest : List Happening) → is_correct w r ≡ true
      → IsOnWay sizes start all w (ask_one d u r w ++ rest)
      → Passes w (ask_one d u r w) × Asked w (after w (ask_one d u r w)) u d (r ∷ [])
  asked-one r rest cr on = elim (cases_eq r u) [
    | inl e ↦ subst (λ (i : ℕ). IsOnWay sizes start all w (ask_one d u i w ++ rest)
        → Passes w (ask_one d u i w) × Asked w (after w (ask_one d u i w)) u d (i ∷ [])) (sym e) (asked-own rest) on
    | inr n ↦ asked-other r rest cr n on
  ]

-- ---- all questions

-- who answers doesn't change by questions
window-of : ℕ → List Admitted → List Branch
window-of h taken = blocks (standing h (map stored_block taken))

unfoldable found-copy : Option Branch → List Admitted → Option Admitted
found-copy None taken = None
found-copy (Some b) taken = find (λ a. branch_eq a.branch b) taken

abbrev copy-from : Bytes → ℕ → List Admitted → Option Admitted
copy-from d h taken = found-copy (find_in d (window-of h taken)) taken

copy-is : (w : World) (d : Bytes) (r : ℕ)
    → copy-at w d r ≡ copy-from d (horizon (chronicle_of w r)) (taken_blocks (chronicle_of w r))
unfolding find_block window standing_blocks stored_blocks window-of found-copy
copy-is w d r = by (find_in d (window (chronicle_of w r)))
  where
    by : (o : Option Branch) → as_taken o (chronicle_of w r) ≡ found-copy o (taken_blocks (chronicle_of w r))
    by None = refl
    by (Some b) = refl

same-copy : (w v : World) (d : Bytes) (r : ℕ) (self : Identity) → OnlyAsked self (chronicle_of w r) (chronicle_of v r)
    → copy-at v d r ≡ copy-at w d r
same-copy w v d r self o =
    copy-is v d r
    ∙ ((λ k. copy-from d (o.0.forgotten k) (o.0.taken k)) ∙ sym (copy-is w d r))

same-holders : (w v : World) (u : ℕ) (d : Bytes)
    → OfCorrect w (λ j. OnlyAsked (self_of w j) (chronicle_of w j) (chronicle_of v j)) → (rs : List ℕ)
    → ((r : ℕ) → Among r rs → is_correct w r ≡ true) → holders-of v u d rs ≡ holders-of w u d rs
unfolding holders-of
same-holders w v u d only [] c = refl
same-holders w v u d only (r ∷ rs) c =
    λ k. cond (r == u) [] (with-copy r (same-copy w v d r (self_of w r) (only r (c r (inl refl))) k))
    ++ same-holders w v u d only rs (λ j m. c j (inr m)) k

pub same-copies : (w v : World) (u : ℕ) → IsMadeAs w v → (hs : List (ℕ × Admitted)) → copies-of v u hs
    ≡ copies-of w u hs
same-copies w v u m [] = refl
same-copies w v u m (h ∷ hs) = λ k. block_frame (same-self w v m h.0 k) u h.1 ∷ same-copies w v u m hs k

filter-both : {A : Type 0} (p : A → Bool) (xs ys : List A) → filter p (xs ++ ys) ≡ filter p xs ++ filter p ys
filter-both p [] ys = refl
filter-both p (x ∷ xs) ys = by (p x) (filter-both p xs ys)
  where
    by : (t : Bool) → filter p (xs ++ ys) ≡ filter p xs ++ filter p ys
        → cond t (x ∷ filter p (xs ++ ys)) (filter p (xs ++ ys)) ≡ cond t (x ∷ filter p xs) (filter p xs) ++ filter p ys
    by true e = ap (λ (l : List _). x ∷ l) e
    by false e = e

asked-both : (w v z : World) (u : ℕ) (d : Bytes) (r : ℕ) (rs : List ℕ) → is_correct w r ≡ true
    → ((j : ℕ) → Among j rs → is_correct w j ≡ true) → Asked w v u d (r ∷ []) → Asked v z u d rs
    → Asked w z u d (r ∷ rs)
unfolding holders-of
asked-both w v z u d r rs cr c h k = record {
  made = made-both w v z h.made k.made;
  session = k.session ∙ h.session;
  going_on = k.going_on;
  only = λ j cj.
      asked-trans (self_of w j) (chronicle_of w j) (chronicle_of v j) (chronicle_of z j) (h.only j cj)
      (subst (λ (s : Identity). OnlyAsked s (chronicle_of v j) (chronicle_of z j)) (same-self w v h.made j)
      (k.only j (same-correct w v h.made j ∙ cj)));
  more = h.more ++ k.more;
  sent = k.sent ∙ (ap (λ (l : List Sent). l ++ k.more) h.sent ∙ append_assoc w.sent h.more k.more);
  copies =
      ap (filter is_copy) (map-append (λ (s : Sent). s.frame) h.more k.more)
      ∙ (filter-both is_copy (map (λ s. s.frame) h.more) (map (λ s. s.frame) k.more)
      ∙ ((λ i. h.copies i ++ k.copies i)
      ∙ ((λ i. copies-of w u (append-nil (answer-of w u d r) i) ++ same-copies w v u h.made (holders-of v u d rs) i)
      ∙ ((λ i. copies-of w u (answer-of w u d r) ++ copies-of w u (same-holders w v u d h.only rs c i))
      ∙ sym (map-append (λ (y : ℕ × Admitted). block_frame (self_of w y.0) u y.1) (answer-of w u d r)
      (holders-of w u d rs))))));
}

-- all of a list are asked
pub asked-each : (sizes : Sizes) (start : World) (all : List Happening) (u : ℕ) (d : Bytes) → IsLong d
    → (rs : List ℕ) (rest : List Happening) (w : World) → ShareKeys w → AllGoOn w → is_correct w u ≡ true
    → ((r : ℕ) → Among r rs → is_correct w r ≡ true)
    → IsOnWay sizes start all w (ask_each d u rs w ++ rest)
    → Passes w (ask_each d u rs w) × Asked w (after w (ask_each d u rs w)) u d rs
unfolding ask_each holders-of after
asked-each sizes start all u d long [] rest w keys goes cu c on = (
  passes-none w,
  record {
    made = record { sizes = refl; faulty = refl; ring = refl };
    session = refl;
    going_on = goes;
    only = λ j cj. asked-none (self_of w j) (chronicle_of w j);
    more = [];
    sent = sym (append-nil w.sent);
    copies = refl;
  },
)
asked-each sizes start all u d long (r ∷ rs) rest w keys goes cu c on =
    let here : List Happening = ask_one d u r w in
    let v : World = after w here in
    let later : List Happening = ask_each d u rs v in
    let on0 = subst (IsOnWay sizes start all w) (append_assoc here later rest) on in
    let one = asked-one sizes start all w keys goes u cu d long r (later ++ rest) (c r (inl refl)) on0 in
    let on1 = way-past sizes start all here (later ++ rest) w on0 one.0 in
    let more = asked-each sizes start all u d long rs rest v (keys-in w v one.1.made keys) one.1.going_on
    (same-correct w v one.1.made u ∙ cu) (λ j m. same-correct w v one.1.made j ∙ c j (inr m)) on1 in (
      passes-append w here later one.0 more.0,
      subst (λ (z : World). Asked w z u d (r ∷ rs)) (sym (after-append w here later))
          (asked-both w v (after v later) u d r rs (c r (inl refl)) (λ j m. c j (inr m)) one.1 more.1),
    )
