-- Every run is linear.
use Rattle.std.proofs.Common.{ℕ, suc, ◌≡◌, ◌^◌, ◌<◌, ◌≤◌, Bool, true, false, [], ◌∷◌, length, cond, refl}
use Rattle.std.proofs.Common.{sym, ap, subst, ◌∙◌, arith, inl, inr, map, None, ◌&&◌, not, nat_lt}
use Rattle.std.proofs.lemmas.Bool.{lt-ltb, and_parts, ltb-true, cases_lt}
use Rattle.definitions.proofs.Lists.{Among-either, Among-map, Among-before, Among-after, length-added}
use Rattle.linear_law.proofs.Effects.{is_member, effects}
use Rattle.linear_law.proofs.Runs.{chronicles, IsHonest}
use Rattle.linear_law.proofs.Entries.{entry-requested}
use Rattle.linear_law.proofs.Replies.{answer_at, answers-grow}
use Rattle.linear_law.proofs.Receipts.{held, RepliesStand, SessionStands, happens-replies, effect-held}
use Rattle.linear_law.proofs.Receipts.{KeepsHeld}
use Rattle.linear_law.proofs.Requested.{RequestsFit}
use Rattle.linear_law.proofs.Fits.{answers-entry, answers-fit}
use Rattle.linear_law.proofs.Accounts.{KeepsSessions, effect-sessions}
use Rattle.linear_law.proofs.Linear.{IsGood, NoneBelow, longest-below, longest-extends, at-beginning}
use Rattle.linear_law.proofs.Linear.{history-submitted}
use Rattle.definitions.proofs.Histories.{held-begins, history_of-grows}
use Rattle.definitions.proofs.Lists.{IsBeginning-trans}
use Rattle.definitions.specs.Lists.{IsBeginning, Among, count_below}
use Rattle.definitions.proofs.Counts.{count-same, count-not}
use Rattle.definitions.specs.Frames.{Command, Core, genesis_core}
use Rattle.ids.specs.Sizes.{Sizes, replicas, quorum, client_party}
use Rattle.definitions.specs.Keyrings.{Keyring}
use Rattle.definitions.proofs.Spellings.{command_content_injective}
use Rattle.definitions.specs.Histories.{Entry, History, history_of, Answer, answers, is_fresh}
use Rattle.definitions.specs.Chronicles.{executed, history}
use Rattle.definitions.specs.Sendings.{Sending}
use Rattle.definitions.specs.Replicas.{MemorySupply}
use Rattle.definitions.specs.Sessions.{Receipt}
use Rattle.definitions.specs.Worlds.{World, Sent, AcceptedBy, Event, new_world}
use Rattle.definitions.specs.Runs.{refusal}
use Rattle.definitions.specs.Events.{Effect, party_of, effect, happens, client_number}
use Rattle.definitions.specs.Linearity.{HasPlace, WasSubmitted, IsLinearBy, IsLinear}
use Rattle.definitions.specs.Frames as frame

-- the entry was sent before the event of this number
abbrev pub SentBefore : World → Entry → ℕ → Type 0
SentBefore w e event =
    (s : Sent) × (c : Command) × Among s w.sent × (s.sender ≡ client_party e.client)
    × (s.frame ≡ frame.request c) × (c.seq ≡ e.seq) × (s.event < event)

-- a receipt is the answer in a history that a member held then, of whose entries each had been sent
pub record ReceiptHolds (w : World) (r : AcceptedBy) : Type 0 where
  pub member : ℕ
  pub is_correct : is_member w member ≡ true
  pub past : History
  pub begins : IsBeginning past (held w member)
  pub answer : Among (answer_at r.client r.receipt.seq r.receipt.place r.receipt.text) (answers w.sizes.most_keys past)
  pub sent : (e : Entry) → Among e past → w.is_faulty (client_party e.client) ≡ false → SentBefore w e r.event

pub record IsAccount (w : World) : Type 0 where
  pub replies : RepliesStand w
  pub sessions : (cl : ℕ) → SessionStands w cl (w.session cl)
  pub receipts : (r : AcceptedBy) → Among r w.receipts → ReceiptHolds w r
  pub fits : RequestsFit w
  pub room : (cl : ℕ) → (w.session cl).used < 2 ^ 64
  pub times : (s : Sent) → Among s w.sent → s.event < w.now
  pub bound : (s : Sent) (c : Command) (cl : ℕ) → Among s w.sent → s.frame ≡ frame.request c
      → s.sender ≡ client_party cl → c.seq ≤ (w.session cl).used
  pub once : (s t : Sent) (c d : Command) → Among s w.sent → Among t w.sent → s.frame ≡ frame.request c
      → t.frame ≡ frame.request d → s.sender ≡ t.sender → c.seq ≡ d.seq → s.event ≡ t.event

pub same-client : (a b : ℕ) → client_party a ≡ client_party b → a ≡ b
same-client a b e = omega arith

module _ (Known : Core → Type 0) where
  -- each event keeps the account
  pub account-happens : (w : World) (e : Event) (m : MemorySupply) → IsGood Known w → IsHonest Known w e
      → refusal w e ≡ None → IsAccount w → IsAccount (happens w (e, m))
  unfolding happens
  account-happens w e m g honest ok a = record {
    replies = happens-replies Known w e m g.run honest ok a.replies;
    sessions = λ cl. (let s =
        k.sessions cl in
        record {
          true_ones = λ t n mem. answers-grow w.sizes.most_keys _ _ (h.grows t.replica) _ (s.true_ones t n mem);
          distinct = s.distinct;
          within = s.within;
        });
    receipts = λ r n. elim (Among-either r _ w.receipts n)
        [ inl x ↦ new-receipt r x | inr x ↦ old-receipt r (a.receipts r x) ];
    fits = λ s c cl n fr by. elim (Among-either s w.sent _ n)
        [ inl x ↦ a.fits s c cl x fr by | inr x ↦ new-fits s c cl x fr by ];
    room = k.room a.room;
    times = λ s n. elim (Among-either s w.sent _ n) [
      | inl x ↦ (let l = a.times s x in omega (arith, l))
      | inr x ↦ (let i = ap (λ (y : Sent). y.event) (Among-map sent f.out s x).2 in omega (arith, i))
    ];
    bound = λ s c cl n fr by. elim (Among-either s w.sent _ n) [
      | inl x ↦ (let l = a.bound s c cl x fr by in let u = k.used cl in omega (arith, l, u))
      | inr x ↦ new-bound s c cl x fr by
    ];
    once = λ s t c d ns nt fs ft by eq. elim (Among-either s w.sent _ ns) [
      | inl x ↦ (elim (Among-either t w.sent _ nt)
          [ inl y ↦ a.once s t c d x y fs ft by eq | inr y ↦ absurd (apart s t c d x y fs ft by eq) ])
      | inr x ↦ (elim (Among-either t w.sent _ nt) [
        | inl y ↦
            absurd (apart t s d c y x ft fs (sym by) (sym eq))
        | inr y ↦
            ap (λ (z : Sent). z.event) (Among-map sent f.out s x).2
            ∙ sym (ap (λ (z : Sent). z.event) (Among-map sent f.out t y).2)
      ])
    ];
  }
    where
      f : Effect
      f = effect w (e, m)

      h : KeepsHeld w e f
      h = effect-held Known w e m f g.run (effects w e m honest.framed ok)

      k : KeepsSessions w e f
      k = effect-sessions Known w e m f g.run honest g.made a.replies (answers-fit Known w g.run g.cores)
          a.sessions (effects w e m honest.framed ok)

      sent : Sending → Sent
      sent o = record { event = w.now; sender = party_of e; to = o.0; frame = o.1 }

      accepted : Receipt → AcceptedBy
      accepted r = record { event = w.now; client = client_number e; receipt = r }

      old-receipt : (r : AcceptedBy) → ReceiptHolds w r → ReceiptHolds (happens w (e, m)) r
      old-receipt r x = record {
        member = x.member;
        is_correct = x.is_correct;
        past = x.past;
        begins = IsBeginning-trans _ _ _ x.begins (h.grows x.member);
        answer = x.answer;
        sent =
            λ y n o. (let b = x.sent y n o in (b.0, b.1, Among-before b.0 w.sent _ b.2, b.3, b.4, b.5, b.6));
      }

      sent-before : (v : ℕ) → is_member w v ≡ true → (y : Entry) → Among y (held w v)
          → w.is_faulty (client_party y.client) ≡ false → SentBefore (happens w (e, m)) y w.now
      sent-before v mv y n o =
          let b = held-begins (w.replica v) in
          let r = entry-requested w (record {
            enough = g.made.enough;
            orderly = g.run.row.orderly;
            lawful = λ p mp. (g.run.row.sound p mp).lawful;
          }) g.requested v mv y
          (subst (λ (l : History). Among y l) b.1 (Among-after y b.0 (held w v) n)) o in
          let q = r.2 in
          let own = a.fits q.0 q.1 r.0.client q.2 q.4 q.3 in (
            q.0,
            q.1,
            Among-before q.0 w.sent _ q.2,
            q.3 ∙ ap (λ (z : Entry). client_party z.client) r.1,
            q.4,
            sym (command_content_injective r.0.client q.1.client r.0.seq q.1.seq r.0.payload q.1.payload q.6
                own.1 q.5).0 ∙ ap (λ (z : Entry). z.seq) r.1,
            a.times q.0 q.2,
          )

      new-receipt : (r : AcceptedBy) → Among r (map accepted f.accepted) → ReceiptHolds (happens w (e, m)) r
      new-receipt r x =
          let i = Among-map accepted f.accepted r x in
          let t = k.accepted i.0 i.1 in
          subst (ReceiptHolds (happens w (e, m))) (sym i.2)
          (record {
            member = t.0;
            is_correct = t.1;
            past = held w t.0;
            begins = h.grows t.0;
            answer = t.2;
            sent = sent-before t.0 t.1;
          })

      new-bound : (s : Sent) (c : Command) (cl : ℕ) → Among s (map sent f.out) → s.frame ≡ frame.request c
          → s.sender ≡ client_party cl → c.seq ≤ (f.session cl).used
      new-bound s c cl x fr by =
          let i = Among-map sent f.out s x in
          let r = k.requests i.0 i.1 c (sym (ap (λ (z : Sent). z.frame) i.2) ∙ fr) in
          let same : r.0 ≡ cl = same-client r.0 cl (sym r.1 ∙ (sym (ap (λ (z : Sent). z.sender) i.2) ∙ by)) in
          subst (λ (n : ℕ). c.seq ≤ (f.session n).used) same r.3

      new-fits : (s : Sent) (c : Command) (cl : ℕ) → Among s (map sent f.out) → s.frame ≡ frame.request c
          → s.sender ≡ client_party cl → (c.client ≡ cl) × (c.seq < 2 ^ 64)
      new-fits s c cl x fr by =
          let i = Among-map sent f.out s x in
          let r = k.requests i.0 i.1 c (sym (ap (λ (z : Sent). z.frame) i.2) ∙ fr) in
          let same : r.0 ≡ cl = same-client r.0 cl (sym r.1 ∙ (sym (ap (λ (z : Sent). z.sender) i.2) ∙ by)) in
          let l = r.3 in
          let u = k.room a.room r.0 in
          (r.4 ∙ same, omega (arith, l, u))

      apart : (s t : Sent) (c d : Command) → Among s w.sent → Among t (map sent f.out)
          → s.frame ≡ frame.request c → t.frame ≡ frame.request d → s.sender ≡ t.sender → c.seq ≡ d.seq → ⊥
      apart s t c d x y fs ft by eq =
          let i = Among-map sent f.out t y in
          let r = k.requests i.0 i.1 d (sym (ap (λ (z : Sent). z.frame) i.2) ∙ ft) in
          let l = a.bound s c r.0 x fs (by ∙ (ap (λ (z : Sent). z.sender) i.2 ∙ r.1)) in
          let q = r.2 in
          omega (arith, l, q, eq)

-- ---- answers and places

within-step : (most_keys : ℕ) (h : History) (new a : Answer) (t : Bool) → new.place ≡ suc (length h) → a.place ≤ length h
    → Among a (cond t (new ∷ answers most_keys h) (answers most_keys h)) → Among a (answers most_keys h)
within-step most_keys h new a true p l (inl i) =
    absurd (let q = ap (λ (x : Answer). x.place) i in omega (arith, q, p, l))
within-step most_keys h new a true p l (inr m) = m
within-step most_keys h new a false p l m = m

answers-within : (most_keys : ℕ) (old new : History) → IsBeginning old new → (a : Answer)
    → Among a (answers most_keys new) → a.place ≤ length old → Among a (answers most_keys old)
unfolding answers
answers-within most_keys old new ([], e) a m l =
    subst (λ (h : History). Among a (answers most_keys h)) (sym e) m
answers-within most_keys old [] (y ∷ added, e) a m l = absurd m
answers-within most_keys old (z ∷ new) (y ∷ added, e) a m l =
    let b : IsBeginning old new = (added, (cc)) in
    let n = length-added b.0 old in
    let k = ap (λ (h : History). length h) b.1 in
    answers-within most_keys old new b a
    (within-step most_keys new _ a (is_fresh z new) refl (omega (arith, n, k, l)) m) l

-- ---- the theorem

pub new-account : (sizes : Sizes) (is_faulty : ℕ → Bool) (ring : ℕ → Keyring)
    → IsAccount (new_world sizes is_faulty ring)
unfolding new_world
new-account sizes is_faulty ring = record {
  replies = λ s k. absurd k;
  sessions = λ cl. record { true_ones = λ t k. absurd k; distinct = tt; within = tt };
  receipts = λ r k. absurd k;
  fits = λ s c cl k. absurd k;
  room = λ cl. omega arith;
  times = λ s k. absurd k;
  bound = λ s c cl k. absurd k;
  once = λ s t c d k. absurd k;
}

-- a receipt's place is before that of what was submitted later
order-holds : (w : World) (h : History) (r : AcceptedBy) (e : Entry) (event place : ℕ) → IsAccount w
    → ReceiptHolds w r → ((v : ℕ) → is_member w v ≡ true → IsBeginning (held w v) h)
    → w.is_faulty (client_party e.client) ≡ false → WasSubmitted w e event → r.event < event
    → HasPlace w h e.client e.seq place → place ≤ r.receipt.place → ⊥
order-holds w h r e event place a x all ok sub later has l =
    let b : IsBeginning x.past h =
    IsBeginning-trans x.past (held w x.member) h x.begins (all x.member x.is_correct) in
    let i = answers-entry w.sizes.most_keys x.past _ x.answer in
    let p = i.place in
    let q = has.4 in
    let m : Among has.0 (answers w.sizes.most_keys x.past) =
    answers-within w.sizes.most_keys x.past h b has.0 has.1 (omega (arith, p, q, l)) in
    let y = answers-entry w.sizes.most_keys x.past has.0 m in
    let client : y.entry.client ≡ e.client = y.client ∙ has.2 in
    let s = x.sent y.entry y.among (ap (λ (c : ℕ). w.is_faulty (client_party c)) client ∙ ok) in
    let same = a.once s.0 sub.sent s.1 sub.command s.2 sub.recorded s.4 sub.is_request
    (s.3 ∙ (ap client_party client ∙ sym sub.by_client)) (s.5 ∙ (y.seq ∙ (has.3 ∙ sym sub.seq))) in
    let t = s.6 in
    let u = sub.at_event in
    omega (arith, same, t, u, later)

not-above : (m n : ℕ) → (n ≤ m → ⊥) → m < n
not-above m n h = elim (cases_lt m n) [ inl k ↦ k | inr k ↦ absurd (h k) ]

linear-by : (Known : Core → Type 0) (w : World) → IsGood Known w → IsAccount w → (h : History)
    → ((v : ℕ) → is_member w v ≡ true → IsBeginning (held w v) h)
    → ((e : Entry) → Among e h → w.is_faulty (client_party e.client) ≡ false → (event : ℕ)
    × WasSubmitted w e event) → IsLinearBy w h
linear-by Known w g a h all from = record {
  histories = all;
  receipts = λ r n. (let x =
      a.receipts r n in
      answers-grow w.sizes.most_keys x.past h
      (IsBeginning-trans x.past (held w x.member) h x.begins (all x.member x.is_correct)) _ x.answer);
  submitted = λ e earlier b fresh c ok. from e (at-beginning e earlier h b) ok;
  in_order = λ r e event place n ok sub later has. not-above r.receipt.place place
      (λ l. order-holds w h r e event place a (a.receipts r n) all ok sub later has l);
}

pub linear : (Known : Core → Type 0) (w : World) → IsGood Known w → IsAccount w → IsLinear w
unfolding NoneBelow history
linear Known w g a =
    elim (longest-below w (replicas w.sizes)) [
      | inl none ↦ (
        [],
        linear-by Known w g a [] (λ i m. absurd (none i (ltb-true _ _ (and_parts _ _ m).0) m))
            (λ e n. absurd n),
      )
      | inr s ↦ (
        history_of (executed (chronicles w s.0)),
        linear-by Known w g a (history_of (executed (chronicles w s.0)))
            (λ i m. IsBeginning-trans _ _ _ (held-begins (w.replica i))
            (history_of-grows _ _ (longest-extends Known w g (replicas w.sizes) s.0 i s.1
            (ltb-true _ _ (and_parts _ _ m).0) m)))
            (λ e n ok. history-submitted Known w g a.fits s.0 s.1.member e n ok),
      )
    ]

-- at most f faulty replicas leave a quorum of correct ones
pub correct-quorum : (sizes : Sizes) (is_faulty : ℕ → Bool)
    → count_below (replicas sizes) is_faulty ≤ sizes.faults
    → quorum sizes ≤ count_below (replicas sizes) (λ p. nat_lt p (replicas sizes) && not (is_faulty p))
correct-quorum sizes is_faulty few =
    let n : ℕ = replicas sizes in
    let same = count-same n (λ p. nat_lt p n && not (is_faulty p)) (λ p. not (is_faulty p))
    (λ i l. ap (λ (t : Bool). t && not (is_faulty i)) (lt-ltb i n l)) in
    omega (arith, few, count-not n is_faulty, same)
