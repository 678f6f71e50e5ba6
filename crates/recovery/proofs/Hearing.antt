-- A client hears the replies of all correct replicas, and has its receipt.
use Rattle.ids.specs.declared.kind.Kind.TheVariants as kind
use Rattle.std.proofs.Common.{ℕ, suc, ◌≡◌, ◌<◌, ◌⊎◌, ◌==◌, ◌&&◌, not, Bool, true, false}
use Rattle.std.proofs.Common.{List, [], ◌∷◌, ◌++◌, map, filter, length, drop, refl, sym, ap, subst, ◌∙◌, arith}
use Rattle.std.proofs.Common.{inl, inr, nat_lt, Option, Some, None, option_map, slice_get}
use Rattle.std.specs.List.{list_any}
use Rattle.std.specs.Str.{bytes_eq}
use Rattle.std.specs.Cmp.Lexicographic.{bytes_decides}
use Rattle.std.proofs.lemmas.Bool.{cond-true, cond-false, cond_both, and_from, or_left, or_right}
use Rattle.std.proofs.lemmas.Bool.{eq-eqb, eqb-true, le-ltb, lt-ltb}
use Rattle.std.proofs.lemmas.List.{append-nil, append_assoc, length-append}
use Rattle.std.proofs.Math.Seq.{drop-append_seam}
use Rattle.ids.specs.Sizes.{Sizes, AreSizes, client_party, replicas}
use Rattle.definitions.specs.Bytes.{Bytes}
use Rattle.definitions.specs.Lists.{Among}
use Rattle.definitions.specs.Frames.{Command, Core, Frame, reply_content}
use Rattle.definitions.specs.Frames as frame
use Rattle.definitions.specs.Histories.{Answer, answers}
use Rattle.definitions.specs.Keyrings.{verify, tag_for, client_at}
use Rattle.definitions.specs.Tags.{tag}
use Rattle.definitions.specs.Chronicles.{executed}
use Rattle.definitions.specs.Replicas.{MemorySupply.ample, Replica}
use Rattle.definitions.specs.Sendings.{To, To.to_party, reply_to}
use Rattle.definitions.specs.Sessions.{Client, Session, Receipt, Heard}
use Rattle.definitions.specs.Sessions.{on_reply, count_reply}
use Rattle.definitions.specs.Tally.{Told, agrees, agreeing, is_counted}
use Rattle.definitions.specs.Worlds.{World, Sent, AcceptedBy, Event.relay, Happening, is_correct, is_replica, self_of}
use Rattle.definitions.specs.Worlds.{client_of, is_party, new_world}
use Rattle.definitions.specs.Runs.{refusal, after}
use Rattle.definitions.specs.Events.{Effect, happens, recorded, acts, comes, effect, told, party_of, hears, accepted_of}
use Rattle.definitions.specs.Events.{client_number}
use Rattle.definitions.proofs.Lists.{Among-after, Among-before, Among-mapped, any-found, any-from, Among-kept}
use Rattle.linear_law.proofs.Receipts.{held}
use Rattle.linear_law.proofs.Runs.{member-faulty}
use Rattle.linear_law.proofs.Replies.{answer_at}
use Rattle.recovery.specs.Correct.{OfCorrect, AllGoOn, ShareKeys, chronicle_of, correct_replicas, amply}
use Rattle.recovery.specs.Healing.{Phase, in_turn, comes_to, receivers, delivered, delivered_since, is_reply, ask_again}
use Rattle.recovery.specs.NeverWedged.{IsAsked, IsAnswered}
use Rattle.recovery.specs.Rounds.{Carries}
use Rattle.recovery.specs.Requests.{RepliesConvince}
use Rattle.recovery.proofs.Bursts.{distinct-correct}
use Rattle.recovery.proofs.Copies.{correct-party}
use Rattle.recovery.proofs.Correct.{among-correct, correct-listed}
use Rattle.recovery.proofs.Replying.{AreReplies, replies-later, all-tell, all-reply}
use Rattle.recovery.proofs.Requests.{asked-wanted, client-party}
use Rattle.recovery.proofs.Steps.{frame-behind}
use Rattle.recovery.proofs.Tallied.{count-named}
use Rattle.recovery.proofs.Told.{one-answer}
use Rattle.recovery.proofs.Ways.{IsOnWay, KnownAt, on-way-from, on-way, way-on, way-past, turn-on, turn-passes}
use Rattle.recovery.proofs.Ways.{turn-after, turns-none}
use Rattle.recovery.proofs.Wells.{IsReached, family-of}
use Rattle.recovery.proofs.Worlds.{IsMadeAs, made-both, keys-in, same-correct, Passes}
use Rattle.recovery.proofs.Worlds.{passes-none, passes-one, named, effect-correct}

-- ---- one reply

-- what a client that waits makes of a reply to its request
record IsHeard (me : Client) (r : ℕ) (a : Answer) (s : Session) (x : Session × Heard) : Type 0 where
  cases : ((x.0 ≡ s) × (is_counted s.tally r ≡ true))
      ⊎ (x ≡ count_reply me (record { replica = r; place = a.place; text = a.text }) s)

reply-heard : (me : Client) (r : ℕ) (a : Answer) (t : Bytes) (s : Session) → a.client ≡ me.number
    → verify me.ring kind.Reply r (reply_content r a.client a.seq a.place a.text) t ≡ true → s.waiting ≡ true
    → a.seq ≡ s.used → IsHeard me r a s (on_reply me ample (frame.reply r a.client a.seq a.place a.text t) s)
unfolding on_reply
reply-heard me r a t s mine good waits seq =
    let P : Session × Heard → Type 0 = IsHeard me r a s in
    subst P (sym (cond-false (not (a.client == me.number)) _ _ (ap not (eq-eqb a.client me.number mine))))
    (subst P (sym (cond-false (not (verify me.ring kind.Reply r (reply_content r a.client a.seq a.place a.text) t)) _ _
    (ap not good)))
    (subst P (sym (cond-false (not (s.waiting && (a.seq == s.used))) _ _
    (ap not (and_from s.waiting (a.seq == s.used) waits (eq-eqb a.seq s.used seq)))))
    (cond_both (list_any (λ x. x.replica == r) s.tally) _ _ P (λ e. record { cases = inl (refl, e) })
    (λ e. record { cases = inr refl }))))

-- a reply that is counted brings the receipt, or leaves the client waiting with one more
record IsCounted (r seq : ℕ) (a : Answer) (s : Session) (x : Session × Heard) : Type 0 where
  cases : ((rc : Receipt) × Among rc (accepted_of x.1) × (rc.seq ≡ s.used))
      ⊎ ((x.0.waiting ≡ true) × (x.0.used ≡ s.used) × (is_counted x.0.tally r ≡ true)
      × ((i : ℕ) → is_counted s.tally i ≡ true → is_counted x.0.tally i ≡ true))

count-cases : (me : Client) (r seq : ℕ) (a : Answer) (s : Session)
    → IsCounted r seq a s (count_reply me (record { replica = r; place = a.place; text = a.text }) s)
unfolding count_reply
count-cases me r seq a s =
    cond_both (nat_lt me.sizes.faults
    (agreeing (record { replica = r; place = a.place; text = a.text } ∷ s.tally) a.place a.text)) _ _
    (IsCounted r seq a s)
    (λ e. record { cases = inl (_, inl refl, refl) })
    (λ e. record {
      cases = inr (
        refl,
        refl,
        or_left (r == r) (list_any (λ x. x.replica == r) s.tally) (eq-eqb r r refl),
        λ i h. or_right (r == i) (list_any (λ x. x.replica == i) s.tally) h,
      );
    })

heard-cases : (me : Client) (r seq : ℕ) (a : Answer) (s : Session) (x : Session × Heard) → s.waiting ≡ true
    → IsHeard me r a s x → IsCounted r seq a s x
heard-cases me r seq a s x waits h = elim h.cases [
  | inl k ↦ record {
    cases = inr (
      ap (λ (y : Session). y.waiting) k.0 ∙ waits,
      ap (λ (y : Session). y.used) k.0,
      ap (λ (y : Session). is_counted y.tally r) k.0 ∙ k.1,
      λ i e. ap (λ (y : Session). is_counted y.tally i) k.0 ∙ e,
    );
  }
  | inr e ↦ subst (IsCounted r seq a s) (sym e) (count-cases me r seq a s)
]

-- ---- in the world

-- what a correct replica tags for a correct client verifies there
client-verifies : (w : World) → ShareKeys w → (r p : ℕ) (content : Bytes) → is_correct w r ≡ true
    → is_party w p ≡ true → w.is_faulty p ≡ false
    → verify (w.ring p) kind.Reply (w.ring r).party content (tag_for (w.ring r) kind.Reply p content) ≡ true
unfolding verify tag_for
client-verifies w keys r p content c party ok =
    let own = keys.numbers r (correct-party w r c) (member-faulty w r c) in
    let its = keys.numbers p party ok in
    let key : (w.ring r).key p ≡ (w.ring p).key (w.ring r).party =
    keys.keys r c p party ok ∙ ap (w.ring p).key (sym own) in
    (bytes_decides _ _).1 (λ k. tag (key k) kind.Reply (w.ring r).party (sym its k) content)

-- a client's number
number-of : (cl : ℕ) → client_at (client_party cl) ≡ cl
number-of cl = omega arith

-- a client is no replica
no-replica : (w : World) (cl : ℕ) → AreSizes w.sizes → is_replica w (client_party cl) ≡ false
no-replica w cl sizes = le-ltb (client_party cl) (replicas w.sizes) (let f = sizes.1 in omega (arith, f))

-- a client was told something in the next event
record ToldOne (w next : World) (cl : ℕ) (x : Session × Heard) : Type 0 where
  made : IsMadeAs w next
  sent : next.sent ≡ w.sent
  row : next.replica ≡ w.replica
  session : next.session cl ≡ x.0
  old : (r : AcceptedBy) → Among r w.receipts → Among r next.receipts
  new : (rc : Receipt) → Among rc (accepted_of x.1)
      → (r : AcceptedBy) × Among r next.receipts × (r.client ≡ cl) × (r.receipt ≡ rc)

told-one : (w : World) (k cl : ℕ) (x : Session × Heard)
    → effect w (relay k (client_party cl), ample) ≡ told w cl x
    → ToldOne w (happens w (relay k (client_party cl), ample)) cl x
unfolding happens told party_of
told-one w k cl x e =
    let p : ℕ = client_party cl in
    let accepted : Receipt → AcceptedBy =
    λ r. record { event = w.now; client = client_number (relay k p); receipt = r } in
    let now : (happens w (relay k p, ample)).receipts ≡ map accepted (accepted_of x.1) ++ w.receipts =
    ap (λ (f : Effect). map accepted f.accepted ++ w.receipts) e in
    record {
      made = record { sizes = refl; faulty = refl; ring = refl };
      sent = ap (λ (f : Effect). w.sent
          ++ map (λ o. record { event = w.now; sender = p; to = o.0; frame = o.1 }) f.out) e ∙ append-nil w.sent;
      row = ap (λ (f : Effect). f.replica) e;
      session = ap (λ (f : Effect). f.session cl) e
          ∙ cond-true (cl == cl) x.0 (w.session cl) (eq-eqb cl cl refl);
      old = λ r m. subst (λ (l : List AcceptedBy). Among r l) (sym now)
          (Among-after r (map accepted (accepted_of x.1)) w.receipts m);
      new = λ rc m. (
        accepted rc,
        subst (λ (l : List AcceptedBy). Among (accepted rc) l) (sym now)
            (Among-before (accepted rc) (map accepted (accepted_of x.1)) w.receipts
            (Among-mapped accepted (accepted_of x.1) rc m)),
        number-of cl,
        refl,
      );
    }

-- a frame comes to a client
hears-it : (w : World) (k cl : ℕ) (f : Frame) → AreSizes w.sizes → w.is_faulty (client_party cl) ≡ false
    → recorded w k ≡ Some f
    → effect w (relay k (client_party cl), ample) ≡ told w cl (on_reply (client_of w cl) ample f (w.session cl))
unfolding acts comes party_of
hears-it w k cl f sizes ok e =
    effect-correct w (relay k (client_party cl), ample) ok
    ∙ (ap (λ (o : Option Frame). comes (client_party cl) ample o w) e
    ∙ (cond-false (is_replica w (client_party cl)) _ _ (no-replica w cl sizes)
    ∙ ap (λ (i : ℕ). hears i ample f w) (number-of cl)))

-- ---- all replies

-- The client has its receipt; or it waits, and counted each correct replica but those whose replies are to come.
Hears : World → ℕ → ℕ → List ℕ → Type 0
Hears w cl seq rs =
    IsAnswered w cl seq
    ⊎ (((w.session cl).waiting ≡ true) × ((w.session cl).used ≡ seq)
    × OfCorrect w (λ r. (is_counted (w.session cl).tally r ≡ true) ⊎ Among r rs))

-- all replies are to come
all-to-come : (w : World) (cl seq : ℕ) (rs : List ℕ) → (w.session cl).waiting ≡ true → (w.session cl).used ≡ seq
    → ((r : ℕ) → is_correct w r ≡ true → Among r rs) → Hears w cl seq rs
unfolding Hears
all-to-come w cl seq rs waits used all = inr (waits, used, λ r c. inr (all r c))

-- what one reply leaves
hears-more : (w next : World) (cl seq n r : ℕ) (rs : List ℕ) (a : Answer) (x : Session × Heard)
    → ToldOne w next cl x → n ≡ r
    → ((w.session cl).waiting ≡ true → (w.session cl).used ≡ seq → IsCounted n seq a (w.session cl) x)
    → Hears w cl seq (r ∷ rs) → Hears next cl seq rs
unfolding Hears
hears-more w next cl seq n r rs a x t same by (inl (b, m, c, s)) = inl (b, t.old b m, c, s)
hears-more w next cl seq n r rs a x t same by (inr (waits, used, each)) = elim (by waits used).cases [
  | inl (rc, m, s) ↦
      let i = t.new rc m in
      inl (i.0, i.1, i.2, ap (λ (y : Receipt). y.seq) i.3 ∙ (s ∙ used))
  | inr (w2, u2, own, kept) ↦ inr (
    ap (λ (y : Session). y.waiting) t.session ∙ w2,
    ap (λ (y : Session). y.used) t.session ∙ (u2 ∙ used),
    λ i c. elim (each i (sym (same-correct w next t.made i) ∙ c)) [
      | inl e ↦ inl (ap (λ (y : Session). is_counted y.tally i) t.session ∙ kept i e)
      | inr (inl e) ↦ inl (ap (λ (y : Session). is_counted y.tally i) t.session
          ∙ (ap (λ (j : ℕ). is_counted x.0.tally j) (e ∙ sym same) ∙ own))
      | inr (inr e) ↦ inr e
    ],
  )
]

-- the events
delivered-one : (v : World) (k p : ℕ) (s : Sent) (ss : List Sent) → s.to ≡ to_party p → is_reply s.frame ≡ true
    → amply (delivered is_reply v k (s ∷ ss))
    ≡ (relay k p, ample) ∷ amply (delivered is_reply v (suc k) ss)
unfolding delivered receivers comes_to
delivered-one v k p s ss to is =
    ap amply (cond-true (is_reply s.frame) (comes_to (receivers v s.to) (k ∷ []) ++ delivered is_reply v (suc k) ss)
    (delivered is_reply v (suc k) ss) is
    ∙ ap (λ (t : To). comes_to (receivers v t) (k ∷ []) ++ delivered is_reply v (suc k) ss) to)

delivered-none : (v : World) (k : ℕ) → amply (delivered is_reply v k []) ≡ []
unfolding delivered
delivered-none v k = refl

module _ (sizes : Sizes) (start : World) (all : List Happening) (v : World) (cl seq : ℕ) (a : Answer)
    (mine : a.client ≡ cl) (numbered : a.seq ≡ seq) where
  -- what is known of the client's world
  record MayHear (w : World) (rs : List ℕ) (ss : List Sent) : Type 0 where
    keys : ShareKeys w
    are : AreSizes w.sizes
    client_is : cl < w.sizes.clients
    honest : w.is_faulty (client_party cl) ≡ false
    correct : (r : ℕ) → Among r rs → is_correct w r ≡ true
    replies : AreReplies w a rs ss
    hears : Hears w cl seq rs

  record HasHeard (w last : World) : Type 0 where
    made : IsMadeAs w last
    sent : last.sent ≡ w.sent
    row : last.replica ≡ w.replica
    hears : Hears last cl seq []

  reply-is : (w : World) (r : ℕ)
      → (reply_to (self_of w r) a).1
      ≡ frame.reply (w.ring r).party a.client a.seq a.place a.text
      (tag_for (w.ring r) kind.Reply (client_party a.client)
      (reply_content (w.ring r).party a.client a.seq a.place a.text))
  unfolding reply_to
  reply-is w r = refl

  is-reply : (w : World) (r : ℕ) → is_reply (reply_to (self_of w r) a).1 ≡ true
  unfolding reply_to is_reply
  is-reply w r = refl

  to-client : (w : World) (r : ℕ) → (reply_to (self_of w r) a).0 ≡ to_party (client_party cl)
  unfolding reply_to
  to-client w r = ap (λ (i : ℕ). to_party (client_party i)) mine

  all-hear : (rs : List ℕ) (ss : List Sent) (w : World) (rest : List Happening) (k : ℕ) (xs : List Sent)
      → IsOnWay sizes start all w (amply (delivered is_reply v k ss) ++ rest) → w.sent ≡ xs ++ ss → length xs ≡ k
      → MayHear w rs ss
      → Passes w (amply (delivered is_reply v k ss)) × HasHeard w (after w (amply (delivered is_reply v k ss)))
  unfolding after
  all-hear [] [] w rest k xs on e l may =
      let none = delivered-none v k in (
        subst (Passes w) (sym none) (passes-none w),
        subst (λ (h : List Happening). HasHeard w (after w h)) (sym none) (record {
          made = record { sizes = refl; faulty = refl; ring = refl };
          sent = refl;
          row = refl;
          hears = may.hears;
        }),
      )
  all-hear [] (s ∷ ss) w rest k xs on e l may = absurd may.replies
  all-hear (r ∷ rs) [] w rest k xs on e l may = absurd may.replies
  all-hear (r ∷ rs) (s ∷ ss) w rest k xs on e l may =
      let p : ℕ = client_party cl in
      let cr = may.correct r (inl refl) in
      let h = may.replies in
      let is = delivered-one v k p s ss (h.1 ∙ to-client w r) (ap is_reply h.2 ∙ is-reply w r) in
      let later : List Happening = amply (delivered is_reply v (suc k) ss) in
      let on0 = subst (λ (x : List Happening). IsOnWay sizes start all w (x ++ rest)) is on in
      let n : ℕ = (w.ring r).party in
      let content : Bytes = reply_content n a.client a.seq a.place a.text in
      let f : Frame = frame.reply n a.client a.seq a.place a.text
      (tag_for (w.ring r) kind.Reply (client_party a.client) content) in
      let rec : recorded w k ≡ Some f =
      (λ i. option_map (λ z. z.frame) (slice_get (e i) (sym l i)))
      ∙ (frame-behind xs s ss ∙ ap (λ (z : Frame). Some z) (h.2 ∙ reply-is w r)) in
      let me : Client = client_of w cl in
      let before : Session = w.session cl in
      let x : Session × Heard = on_reply me ample f before in
      let next : World = happens w (relay k p, ample) in
      let t = told-one w k cl x (hears-it w k cl f may.are may.honest rec) in
      let party = client-party w cl may.client_is in
      let good : verify (w.ring p) kind.Reply n content
      (tag_for (w.ring r) kind.Reply (client_party a.client) content) ≡ true =
      ap (λ (i : ℕ). verify (w.ring p) kind.Reply n content (tag_for (w.ring r) kind.Reply
      (client_party i) content)) mine
      ∙ client-verifies w may.keys r p content cr party may.honest in
      let same = may.keys.numbers r (correct-party w r cr) (member-faulty w r cr) in
      let counted : before.waiting ≡ true → before.used ≡ seq → IsCounted n seq a before x = λ waits used.
      heard-cases me n seq a before x waits (reply-heard me n a _ before mine good waits (numbered ∙ sym used)) in
      let ok : refusal w (relay k p) ≡ None =
      named w (relay k p) party
      (lt-ltb k (length w.sent)
      (let z = ap (λ (y : List Sent). length y) e in let q = length-append xs (s ∷ ss) in omega
      (arith, l, z, q))) refl in
      let onn = way-on sizes start all w (relay k p, ample) (later ++ rest) on0 ok in
      let more = all-hear rs ss next rest (suc k) (xs ++ s ∷ []) onn
      (t.sent ∙ (e ∙ sym (append_assoc xs (s ∷ []) ss)))
      (let q = length-append xs (s ∷ []) in omega (arith, q, l)) (record {
        keys = keys-in w next t.made may.keys;
        are = subst AreSizes (sym t.made.sizes) may.are;
        client_is = (let z = ap (λ (y : Sizes). y.clients) t.made.sizes in let c = may.client_is in omega
            (arith, z, c));
        honest = ap (λ (g : ℕ → Bool). g p) t.made.faulty ∙ may.honest;
        correct = λ j m. same-correct w next t.made j ∙ may.correct j (inr m);
        replies = replies-later w next a rs ss t.made h.3;
        hears = hears-more w next cl seq n r rs a x t same counted may.hears;
      }) in
      let end : World = after next later in (
        subst (Passes w) (sym is) (passes-one w (relay k p, ample) later ok more.0),
        subst (λ (z : List Happening). HasHeard w (after w z)) (sym is) (record {
          made = made-both w next end t.made more.1.made;
          sent = more.1.sent ∙ t.sent;
          row = more.1.row ∙ t.row;
          hears = more.1.hears;
        }),
      )

-- ---- who heard all has its receipt

-- each reply was sent
reply-sent : (w : World) (a : Answer) (rs : List ℕ) (ss : List Sent) → AreReplies w a rs ss → (r : ℕ) → Among r rs
    → (s : Sent) × Among s ss × (s.sender ≡ r) × (s.frame ≡ (reply_to (self_of w r) a).1)
reply-sent w a [] ss h r m = absurd m
reply-sent w a (i ∷ rs) [] h r m = absurd h
reply-sent w a (i ∷ rs) (s ∷ ss) h r (inl e) =
    (s, inl refl, h.0 ∙ sym e, h.2 ∙ ap (λ (j : ℕ). (reply_to (self_of w j) a).1) (sym e))
reply-sent w a (i ∷ rs) (s ∷ ss) h r (inr m) =
    let k = reply-sent w a rs ss h.3 r m in (k.0, inr k.1, k.2, k.3)

module _ (Known : Core → Type 0) (w : World) (g : IsReached Known w) (cl : ℕ) (a : Answer) (mine : a.client ≡ cl)
    (rs : List ℕ) (ss : List Sent) (replies : AreReplies w a rs ss) (there : (s : Sent) → Among s ss → Among s w.sent)
    (all : (r : ℕ) → is_correct w r ≡ true → Among r rs) where
  -- a correct replica's answer is the one that it sent
  own-stands : (r : ℕ) → is_correct w r ≡ true → Among a (answers w.sizes.most_keys (held w r))
  unfolding reply_to
  own-stands r c =
      let s = reply-sent w a rs ss replies r (all r c) in
      subst (λ (i : ℕ). Among a (answers w.sizes.most_keys (held w i))) s.2
      (g.well.account.replies s.0 (there s.0 s.1) (ap (is_correct w) s.2 ∙ c) _ _ _ _ _ _ s.3)

  -- so what was counted for it agrees
  own-agrees : (r : ℕ) → is_correct w r ≡ true → (w.session cl).used ≡ a.seq
      → is_counted (w.session cl).tally r ≡ true
      → is_counted (filter (agrees a.place a.text) (w.session cl).tally) r ≡ true
  own-agrees r c used h =
      let s : Session = w.session cl in
      let f = any-found (λ (t : Told). t.replica == r) s.tally h in
      let t : Told = f.0 in
      let is = eqb-true t.replica r f.2 in
      let truth = (g.well.account.sessions cl).true_ones t f.1 (ap (is_correct w) is ∙ c) in
      let stands = subst (λ (i : ℕ). Among (answer_at cl s.used t.place t.text) (answers w.sizes.most_keys (held w i)))
      is truth in
      let same = one-answer w.sizes.most_keys (held w r) (answer_at cl s.used t.place t.text) a stands (own-stands r c)
      (sym mine) used in
      any-from (λ (x : Told). x.replica == r) (filter (agrees a.place a.text) s.tally) t
      (Among-kept (agrees a.place a.text) s.tally t f.1
      (and_from (t.place == a.place) (bytes_eq t.text a.text)
      (eq-eqb t.place a.place (ap (λ (x : Answer). x.place) same))
      ((bytes_decides t.text a.text).1 (ap (λ (x : Answer). x.text) same)))) f.2

  -- more than f agree with it, so it doesn't wait any more
  has-receipt : Hears w cl a.seq [] → IsAnswered w cl a.seq
  unfolding Hears
  has-receipt (inl h) = h
  has-receipt (inr (waits, used, each)) =
      let few = g.tallies cl waits a.place a.text in
      let n = count-named (λ (t : Told). t.replica) (replicas w.sizes)
      (filter (agrees a.place a.text) (w.session cl).tally) (is_correct w) (λ r c. elim (each r c) [
        | inl h ↦ own-agrees r c used h
        | inr m ↦ absurd m
      ]) in
      let enough = (family-of Known w g).enough in
      absurd (omega (arith, few, n, enough))

-- ---- the phase

module _ (sizes : Sizes) (start : World) (all : List Happening) where
  pub asked-again : (w : World) (rest : List Happening) (k client : ℕ)
      → IsOnWay sizes start all w (ask_again k w ++ rest)
      → AreSizes w.sizes → ShareKeys w → AllGoOn w → (asked : IsAsked w k client)
      → OfCorrect w (λ r. Carries (executed (chronicle_of w r)) asked.command)
      → Passes w (ask_again k w) × AllGoOn (after w (ask_again k w))
      × IsAnswered (after w (ask_again k w)) client (w.session client).used
  unfolding ask_again
  asked-again w rest k client on are keys goes asked there =
      let Known = KnownAt sizes start all in
      let before : ℕ = length w.sent in
      let first : Phase = λ v. amply (comes_to (correct_replicas v) (k ∷ [])) in
      let second : Phase = λ v. amply (delivered_since before is_reply v) in
      let c : Command = asked.command in
      let on0 = turn-on sizes start all first (second ∷ []) w rest on in
      let g = on-way sizes start all w _ on0 in
      let own = asked-wanted w k client keys g.requests asked in
      let honest : w.is_faulty (client_party c.client) ≡ false =
      ap (λ (i : ℕ). w.is_faulty (client_party i)) own.1 ∙ asked.correct in
      let used : c.seq ≡ (w.session c.client).used =
      asked.seq ∙ ap (λ (i : ℕ). (w.session i).used) (sym own.1) in
      let tell = all-tell Known w g c honest used own.2 goes there in
      let a : Answer = tell.0 in
      let mine : a.client ≡ client = tell.1 ∙ own.1 in
      let cs : List ℕ = correct_replicas w in
      let one = all-reply sizes start all k c a cs w _ on0 (distinct-correct w (replicas w.sizes)) own.0
      (λ r m. (let cr = among-correct w (replicas w.sizes) r m in (cr, tell.3 r cr))) in
      let v : World = after w (first w) in
      let goesv = one.1.goes in
      let more : List Sent = goesv.more in
      let onv = turn-on sizes start all second [] v rest (way-past sizes start all (first w) _ w on0 one.0) in
      let drops : drop before v.sent ≡ more =
      ap (λ (l : List Sent). drop before l) goesv.sent ∙ drop-append_seam w.sent more in
      let is : second v ≡ amply (delivered is_reply v before more) =
      ap (λ (l : List Sent). amply (delivered is_reply v before l)) drops in
      let repliesv = replies-later w v a cs more goesv.made one.1.replies in
      let onh = subst (λ (l : List Happening). IsOnWay sizes start all v (l ++ (in_turn [] (after v
      (second v)) ++ rest)))
      is onv in
      let start_hears : Hears v client c.seq cs = all-to-come v client c.seq cs
      (ap (λ (s : ℕ → Session). (s client).waiting) goesv.session ∙ asked.waits)
      (ap (λ (s : ℕ → Session). (s client).used) goesv.session ∙ sym asked.seq)
      (λ r cr. correct-listed w r (sym (same-correct w v goesv.made r) ∙ cr)) in
      let two = all-hear sizes start all v client c.seq a mine tell.2 cs more v _ before w.sent onh goesv.sent refl
      (record {
        keys = keys-in w v goesv.made keys;
        are = subst AreSizes (sym goesv.made.sizes) are;
        client_is =
            (let z = ap (λ (y : Sizes). y.clients) goesv.made.sizes in let l = asked.client_is in omega (arith, z, l));
        honest = ap (λ (f : ℕ → Bool). f (client_party client)) goesv.made.faulty ∙ asked.correct;
        correct = λ r m. same-correct w v goesv.made r ∙ among-correct w (replicas w.sizes) r m;
        replies = repliesv;
        hears = start_hears;
      }) in
      let end : World = after v (second v) in
      let passes2 : Passes v (second v) = subst (Passes v) (sym is) two.0 in
      let heard = subst (λ (l : List Happening).
      HasHeard sizes start all v client c.seq a mine tell.2 v (after v l)) (sym is) two.1 in
      let one2 = way-past sizes start all (second v) _ v onv passes2 in
      let ge = on-way sizes start all end _ one2 in
      let made = heard.made in
      let receipt = has-receipt Known end ge client a mine cs more
      (replies-later v end a cs more made repliesv)
      (λ s m. subst (λ (l : List Sent). Among s l) (sym heard.sent)
      (subst (λ (l : List Sent). Among s l) (sym goesv.sent) (Among-after s w.sent more m)))
      (λ r cr. correct-listed w r (sym (same-correct w v goesv.made r) ∙ (sym (same-correct v end made r) ∙ cr)))
      (subst (λ (q : ℕ). Hears end client q []) (sym tell.2) heard.hears) in
      let none = turns-none end in
      let ends : after w (ask_again k w) ≡ end =
      turn-after first (second ∷ []) w ∙ (turn-after second [] v ∙ none.1) in (
        turn-passes first (second ∷ []) w one.0 (turn-passes second [] v passes2 none.0),
        subst AllGoOn (sym ends) (λ r cr. ap (λ (x : ℕ → Replica). (x r).standing) heard.row
            ∙ one.1.standing r (goes r (sym (same-correct w v goesv.made r) ∙ (sym (same-correct v end made r) ∙ cr)))),
        subst (λ (z : World). IsAnswered z client (w.session client).used) (sym ends)
            (subst (λ (q : ℕ). IsAnswered end client q) (tell.2 ∙ asked.seq) receipt),
      )

pub replies-convince : RepliesConvince
unfolding ask_again
replies-convince k client sizes is_faulty ring hs w met e are keys goes asked there =
    let start : World = new_world sizes is_faulty ring in
    let all : List Happening = hs ++ ask_again k w in
    let on = subst (IsOnWay sizes start all w) (sym (append-nil (ask_again k w)))
    (on-way-from sizes is_faulty ring hs (ask_again k w) w met e) in
    asked-again sizes start all w [] k client on are keys goes asked there
