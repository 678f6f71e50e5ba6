-- Replies, tallies and receipts of a run.
use Rattle.ids.specs.declared.kind.Kind.TheVariants as kind
use Rattle.ids.specs.declared.fault.Fault.{Fault}
use Rattle.ids.specs.declared.fault.Fault.TheVariants as fault
use Rattle.std.proofs.Common.{ℕ, suc, ◌≡◌, ◌-◌, ◌^◌, ◌<◌, ◌≤◌, ◌&&◌, not, ◌==◌, Bool, true, false, List, []}
use Rattle.std.proofs.Common.{◌∷◌, length, cond, refl, sym, ap, subst, ◌∙◌, arith, inl, inr, map, filter}
use Rattle.std.proofs.Common.{true≢false, nat_lt, None}
use Rattle.std.specs.List.{list_any, AllByRecursion}
use Rattle.std.specs.Str.{bytes_eq}
use Rattle.std.proofs.lemmas.Bool.{cond_both, and_parts, and_from, not-false, not_from_false, ltb-true}
use Rattle.std.proofs.lemmas.Bool.{eqb-true, eq-eqb, or_parts}
use lib.Pointwise.{bytes_decides}
use Rattle.definitions.proofs.Lists.{Among-either, Among-map}
use Rattle.definitions.proofs.Sound.{Outcome, Outcome.unchanged, Outcome.refused, Outcome.lacks}
use Rattle.definitions.proofs.Sound.{Outcome.conflict, Outcome.stood, Outcome.cut, step-outcome}
use Rattle.linear_law.proofs.Effects.{is_member, Effects, Effects.idle, Effects.step_by, Effects.hearing}
use Rattle.linear_law.proofs.Effects.{Effects.submitting, effects}
use Rattle.linear_law.proofs.Runs.{chronicles, IsRun, IsMadeWell, IsHonest, member-faulty, arises-checked}
use Rattle.linear_law.proofs.Fits.{AnswersFit}
use Rattle.definitions.proofs.Counts.{apart-count, first-passing}
use Rattle.linear_law.proofs.Sends.{sends}
use Rattle.linear_law.proofs.Replies.{ReplyStands, answer_at, answers-grow, sends-reply, held-grows}
use Rattle.definitions.specs.Lists.{IsBeginning, Among, AreDistinct, count_below}
use Rattle.definitions.specs.Bytes.{Bytes}
use Rattle.ids.specs.Sizes.{replicas, quorum, client_party}
use Rattle.definitions.specs.Frames.{Core, Frame, reply_content}
use Rattle.definitions.specs.FrameLimits.{IsFrame}
use Rattle.definitions.proofs.Spellings.{reply_content_injective}
use Rattle.definitions.specs.Keyrings.{client_at, verify}
use Rattle.definitions.specs.Histories.{History, Answer, answers}
use Rattle.definitions.specs.Chronicles.{history}
use Rattle.definitions.specs.Checks.{Identity}
use Rattle.definitions.specs.Rulings.{Ruling}
use Rattle.definitions.specs.Sendings.{Sending, To.to_party, fetch_frame}
use Rattle.definitions.specs.Replicas.{MemorySupply, Replica, Reaction, held_history}
use Rattle.definitions.specs.Sessions.{Client, Session, Heard, Heard.not_counted, Receipt, Submitted}
use Rattle.definitions.specs.Sessions.{Submitted.sent_request, is_ample, submission, request_frame}
use Rattle.definitions.specs.Sessions.{on_reply, count_reply}
use Rattle.definitions.specs.Tally.{Told, agrees}
use Rattle.definitions.specs.Worlds.{World, Sent, Event, put, self_of, client_of, is_replica}
use Rattle.definitions.specs.Runs.{refusal}
use Rattle.definitions.specs.Events.{Effect, nothing, stepped, told, submitted, out_of, accepted_of}
use Rattle.definitions.specs.Events.{submitted_out, brought, party_of, effect, happens}
use Rattle.definitions.specs.Premises.{Claim, IsTagOf, WasSent, NoForgeryIn, accepted_tags, admits, admits_in}
use Rattle.definitions.specs.Frames as frame

abbrev pub held : World → ℕ → History
held w p = held_history (w.replica p)

-- a member's replies are those of what it holds
abbrev pub RepliesStand : World → Type 0
RepliesStand w =
    (s : Sent) → Among s w.sent → is_member w s.sender ≡ true
    → ReplyStands w.sizes.most_keys (held w s.sender) (s.to, s.frame)

-- ---- replies, through an event

put-held : (p : ℕ) (r : Replica) (row : ℕ → Replica) (P : History → Type 0) (i : ℕ)
    → (i ≡ p → P (held_history r)) → P (held_history (row i)) → P (held_history (put p r row i))
put-held p r row P i here there =
    cond_both (i == p) r (row i) (λ (x : Replica). P (held_history x)) (λ e. here (eqb-true i p e))
    (λ e. there)

fetch-reply : (self : Identity) (sender : ℕ) (d : Bytes) (h : History) (o : Sending)
    → Among o ((to_party sender, fetch_frame self sender d) ∷ []) → ReplyStands self.sizes.most_keys h o
unfolding fetch_frame
fetch-reply self sender d h o (inl i) r c s p x t k = absurd (apart (sym (ap (λ (y : Sending). y.1) i) ∙ k))
  where
    apart : fetch_frame self sender d ≡ frame.reply r c s p x t → ⊥
    apart e = cc
fetch-reply self sender d h o (inr m) r c s p x t k = absurd m

nothing-replies : (most_keys : ℕ) (h : History) (o : Sending) → Among o [] → ReplyStands most_keys h o
nothing-replies most_keys h o m = absurd m

outcome-replies : (self : Identity) (m : MemorySupply) (v : Ruling) (old : Replica) (r : Replica × Reaction)
    → Outcome self old.chronicle v old r → (o : Sending) → Among o (out_of self m r.1)
    → ReplyStands self.sizes.most_keys (held_history r.0) o
unfolding held_history
outcome-replies self m v old r (unchanged n l) o k = absurd k
outcome-replies self m v old r (refused s n u l) o k = absurd k
outcome-replies self m v old r (lacks sender d u) o k =
    cond_both (is_ample m && not (sender == self.ring.party))
    ((to_party sender, fetch_frame self sender d) ∷ []) []
    (λ (l : List Sending). Among o l → ReplyStands self.sizes.most_keys (history old.chronicle) o)
    (λ e y. fetch-reply self sender d (history old.chronicle) o y)
    (λ e y. nothing-replies self.sizes.most_keys (history old.chronicle) o y) k
outcome-replies self m v old r (conflict st u e h) o k = absurd k
outcome-replies self m v old r (stood st u e h) o k =
    sends-reply self st old.chronicle h o (sends self st old.chronicle o k)
outcome-replies self m v old r (cut st n u e h) o k = absurd k

-- what an effect does to what is held, and what it replies
pub record KeepsHeld (w : World) (e : Event) (f : Effect) : Type 0 where
  pub grows : (i : ℕ) → IsBeginning (held w i) (held_history (f.replica i))
  pub out : is_member w (party_of e) ≡ true → (o : Sending) → Among o f.out
      → ReplyStands w.sizes.most_keys (held_history (f.replica (party_of e))) o

put-held-own : (p : ℕ) (r : Replica) (row : ℕ → Replica) (P : History → Type 0) → P (held_history r)
    → P (held_history (put p r row p))
put-held-own p r row P h = cond_both (p == p) r (row p) (λ (x : Replica). P (held_history x)) (λ e. h)
    (λ e. absurd (true≢false (sym (eq-eqb p p refl) ∙ e)))

step-held : (w : World) (e : Event) (m : MemorySupply) (r : Replica × Reaction) (v : Ruling)
    → Outcome (self_of w (party_of e)) (chronicles w (party_of e)) v (w.replica (party_of e)) r
    → KeepsHeld w e (stepped w (party_of e) m r)
unfolding stepped
step-held w e m r v o = record {
  grows = λ i. put-held (party_of e) r.0 w.replica (λ (h : History). IsBeginning (held w i) h) i
      (λ k. subst (λ (p : ℕ). IsBeginning (held w p) (held_history r.0)) (sym k)
      (held-grows (self_of w (party_of e)) v (w.replica (party_of e)) r o)) ([], refl);
  out = λ me x k. put-held-own (party_of e) r.0 w.replica (λ (h : History). ReplyStands w.sizes.most_keys h x)
      (outcome-replies (self_of w (party_of e)) m v (w.replica (party_of e)) r o x k);
}

submit-replies : (most_keys : ℕ) (me : Client) (m : MemorySupply) (payload : Bytes) (s : Session)
    (h : History) (o : Sending) → Among o (submitted_out (submission me m payload s).1)
    → ReplyStands most_keys h o
unfolding submission request_frame
submit-replies most_keys me m payload s h o =
    cond_both s.waiting _ _ P (λ e k. absurd k) (λ e.
    cond_both (s.used == (2 ^ 64 - 1)) _ _ P (λ e k. absurd k) (λ e.
    cond_both (not (is_ample m)) _ _ P (λ e k. absurd k) (λ e k. request k)))
  where
    P : Session × Submitted → Type 0
    P x = Among o (submitted_out x.1) → ReplyStands most_keys h o

    request : Among o (submitted_out (sent_request (request_frame me (suc s.used) payload)))
        → ReplyStands most_keys h o
    request (inl i) r c q p x t k = absurd (apart (sym (ap (λ (y : Sending). y.1) i) ∙ k))
      where
        apart : request_frame me (suc s.used) payload ≡ frame.reply r c q p x t → ⊥
        apart y = cc
    request (inr n) r c q p x t k = absurd n

module _ (Known : Core → Type 0) where
  pub effect-held : (w : World) (e : Event) (m : MemorySupply) (f : Effect) → IsRun Known w → Effects w e m f
      → KeepsHeld w e f
  unfolding nothing told submitted
  effect-held w e m f run (idle a h) = record { grows = λ i. ([], refl); out = λ me o k. absurd k }
  effect-held w e m f run (step_by i me ar) =
      step-held w e m _ _ (step-outcome (self_of w (party_of e)) m i (w.replica (party_of e))
      (arises-checked w e i ar) (run.row.sound (party_of e) me))
  effect-held w e m f run (hearing g b ad r ok pa) = record { grows = λ i. ([], refl); out = λ me o k. absurd k }
  effect-held w e m f run (submitting c payload i ok) =
      record { grows = λ j. ([], refl); out = λ me o k. submit-replies w.sizes.most_keys _ m payload _ _ o k }

  pub happens-replies : (w : World) (e : Event) (m : MemorySupply) → IsRun Known w → IsHonest Known w e
      → refusal w e ≡ None → RepliesStand w → RepliesStand (happens w (e, m))
  unfolding happens
  happens-replies w e m run honest ok old s n me =
      elim (Among-either s w.sent _ n) [
        | inl k ↦ (λ r c q p x t y. answers-grow w.sizes.most_keys _ _ (h.grows s.sender) _ (old s k me r c q p x t y))
        | inr k ↦ (
            let i = Among-map sent (effect w (e, m)).out s k in
            let by : s.sender ≡ party_of e = ap (λ (y : Sent). y.sender) i.2 in
            λ r c q p x t y. subst
            (λ (z : ℕ). Among (answer_at c q p x) (answers w.sizes.most_keys (held_history ((effect w (e, m)).replica z))))
            (sym by)
            (h.out (sym (ap (is_member w) by) ∙ me) i.0 i.1 r c q p x t
            (sym (ap (λ (z : Sent). z.frame) i.2) ∙ y)))
      ]
    where
      h : KeepsHeld w e (effect w (e, m))
      h = effect-held w e m (effect w (e, m)) run (effects w e m honest.framed ok)

      sent : Sending → Sent
      sent o = record { event = w.now; sender = party_of e; to = o.0; frame = o.1 }

-- ---- a reply that a client admits

reply-tag : (x : Claim) (s : Sent) (f : Frame) → x.label ≡ kind.Reply → IsTagOf x s f
    → (r c q p : ℕ) × (t g : Bytes) × (f ≡ frame.reply r c q p t g) × (x.content ≡ reply_content r c q p t)
    × (x.receiver ≡ client_party c)
reply-tag x s (frame.request c) l h = absurd (let k = h.0 in cc)
reply-tag x s (frame.proposal w c q v) l h = absurd (let k = h.0 in cc)
reply-tag x s (frame.vote d b) l h = absurd (let k = h.0 in cc)
reply-tag x s (frame.new_view w r q v) l h = absurd (let k = h.0 in cc)
reply-tag x s (frame.reply r c q p t g) l h = (r, c, q, p, t, g, refl, h.1, h.3)
reply-tag x s (frame.fetch r d t) l h = absurd (let k = h.0 in cc)
reply-tag x s (frame.block r c q t) l h = absurd (let k = h.0 in cc)

-- what a counted reply says is so, where its replica is a member
abbrev pub Truth : World → ℕ → ℕ → Told → Type 0
Truth w cl seq t =
    is_member w t.replica ≡ true → Among (answer_at cl seq t.place t.text) (answers w.sizes.most_keys (held w t.replica))

party-number : (p : ℕ) → 256 ≤ p → client_party (client_at p) ≡ p
party-number p h = omega arith

same-party : (a b : ℕ) → client_party a ≡ client_party b → a ≡ b
same-party a b e = omega arith

counted-true : (w : World) (e : Event) (r cl q pl : ℕ) (tx g : Bytes) → RepliesStand w → AnswersFit w
    → IsFrame w.sizes (frame.reply r cl q pl tx g) → NoForgeryIn w e
    → Among (frame.reply r cl q pl tx g) (brought w e)
    → (admits w (party_of e) (frame.reply r cl q pl tx g) ≡ true → admits_in w e (frame.reply r cl q pl tx g) ≡ true)
    → is_replica w (party_of e) ≡ false
    → w.is_faulty (party_of e) ≡ false → 256 ≤ party_of e →
    (cl == (client_at (party_of e))) ≡ true
    → verify (w.ring (client_party (client_at (party_of e)))) kind.Reply r (reply_content r cl q pl tx)
    g ≡ true → Truth w cl q (record { replica = r; place = pl; text = tx })
unfolding accepted_tags
counted-true w e r cl q pl tx g rs fit fr nf b ad rep ok pa mine good mem =
    let good' : verify (w.ring (party_of e)) kind.Reply r (reply_content r cl q pl tx) g ≡ true =
    subst (λ (p : ℕ). verify (w.ring p) kind.Reply r (reply_content r cl q pl tx) g ≡ true)
    (party-number (party_of e) pa) good in
    let x : Claim = record {
      label = kind.Reply;
      sender = r;
      receiver = client_party cl;
      content = reply_content r cl q pl tx;
      tag = g;
    } in
    let sent : WasSent w.sent x =
    nf (frame.reply r cl q pl tx g) b ok (ad (and_from _ _ (not_from_false _ rep) (and_from _ _ mine good'))) x
    (inl refl) (member-faulty w r mem) in
    let i = reply-tag x sent.0 sent.0.frame refl sent.3 in
    let a : Among (answer_at i.1 i.2 i.3 i.4) (answers w.sizes.most_keys (held w r)) =
    subst (λ (p : ℕ). Among (answer_at i.1 i.2 i.3 i.4) (answers w.sizes.most_keys (held w p))) sent.2
    (rs sent.0 sent.1 (ap (is_member w) sent.2 ∙ mem) i.0 i.1 i.2 i.3 i.4 i.5 i.6) in
    let small = fit r mem (answer_at i.1 i.2 i.3 i.4) a in
    let one = reply_content_injective r cl q pl tx i.0 i.1 i.2 i.3 i.4 fr.2.1 fr.3.1 small.0 small.1 i.7 in
    let client : cl ≡ i.1 = same-party cl i.1 i.8 in
    subst (λ (y : Answer). Among y (answers w.sizes.most_keys (held w r)))
    (λ k. record { client = sym client k; seq = sym one.0 k; place = sym one.1 k; text = sym one.2 k }) a

-- ---- tallies

abbrev voices : List Told → List ℕ
voices ts = map (λ t. t.replica) ts

pub record SessionStands (w : World) (cl : ℕ) (s : Session) : Type 0 where
  pub true_ones : (t : Told) → Among t s.tally → Truth w cl s.used t
  pub distinct : AreDistinct (voices s.tally)
  pub within : AllByRecursion (λ v. v < replicas w.sizes) (voices s.tally)

not-heard : (r : ℕ) (ts : List Told) → list_any (λ x. x.replica == r) ts ≡ false → Among r (voices ts) → ⊥
not-heard r [] h m = m
not-heard r (t ∷ ts) h (inl e) = true≢false (sym (eq-eqb t.replica r (sym e)) ∙ (or_parts _ _ h).0)
not-heard r (t ∷ ts) h (inr m) = not-heard r ts (or_parts _ _ h).1 m

kept-voice-step : (p : Told → Bool) (t : Told) (ts : List Told) (v : ℕ) (b : Bool) → p t ≡ b
    → (Among v (voices (filter p ts)) → (x : Told) × Among x ts × (p x ≡ true) × (x.replica ≡ v))
    → Among v (voices (cond b (t ∷ filter p ts) (filter p ts)))
    → (x : Told) × Among x (t ∷ ts) × (p x ≡ true) × (x.replica ≡ v)
kept-voice-step p t ts v true e rest (inl i) = (t, inl refl, e, sym i)
kept-voice-step p t ts v true e rest (inr m) = let r = rest m in (r.0, inr r.1, r.2, r.3)
kept-voice-step p t ts v false e rest m = let r = rest m in (r.0, inr r.1, r.2, r.3)

kept-voice : (p : Told → Bool) (ts : List Told) (v : ℕ) → Among v (voices (filter p ts))
    → (x : Told) × Among x ts × (p x ≡ true) × (x.replica ≡ v)
kept-voice p [] v m = absurd m
kept-voice p (t ∷ ts) v m = kept-voice-step p t ts v (p t) refl (kept-voice p ts v) m

Among-voice : (x : Told) (ts : List Told) → Among x ts → Among x.replica (voices ts)
Among-voice x [] m = absurd m
Among-voice x (t ∷ ts) (inl e) = inl (ap (λ (y : Told). y.replica) e)
Among-voice x (t ∷ ts) (inr m) = inr (Among-voice x ts m)

kept-apart-step : (p : Told → Bool) (n : ℕ) (t : Told) (ts : List Told) (b : Bool)
    → (Among t.replica (voices (filter p ts)) → ⊥) → t.replica < n
    → AreDistinct (voices (filter p ts)) × AllByRecursion (λ v. v < n) (voices (filter p ts))
    → AreDistinct (voices (cond b (t ∷ filter p ts) (filter p ts)))
    × AllByRecursion (λ v. v < n) (voices (cond b (t ∷ filter p ts) (filter p ts)))
kept-apart-step p n t ts true d l h = ((d, h.0), (l, h.1))
kept-apart-step p n t ts false d l h = h

kept-apart : (p : Told → Bool) (n : ℕ) (ts : List Told) → AreDistinct (voices ts)
    → AllByRecursion (λ v. v < n) (voices ts)
    → AreDistinct (voices (filter p ts)) × AllByRecursion (λ v. v < n) (voices (filter p ts))
kept-apart p n [] d l = (tt, tt)
kept-apart p n (t ∷ ts) d l =
    kept-apart-step p n t ts (p t) (λ m. let r =
    kept-voice p ts t.replica m in
    d.0 (subst (λ (v : ℕ). Among v (voices ts)) r.3 (Among-voice r.0 ts r.1))) l.0
    (kept-apart p n ts d.1 l.1)

length-voices : (ts : List Told) → length (voices ts) ≡ length ts
length-voices [] = refl
length-voices (t ∷ ts) = ap suc (length-voices ts)

-- of more than f that agree one is a member
agreed : (w : World) (ts : List Told) (p : Told → Bool)
    → quorum w.sizes ≤ count_below (replicas w.sizes) (is_member w) → AreDistinct (voices ts)
    → AllByRecursion (λ v. v < replicas w.sizes) (voices ts) → w.sizes.faults < length (filter p ts)
    → (x : Told) × Among x ts × (p x ≡ true) × (is_member w x.replica ≡ true)
agreed w ts p q d l m =
    elim (first-passing (is_member w) (voices (filter p ts))) [
      | inl r ↦ (let k = kept-voice p ts r.0 r.1 in (k.0, k.1, k.2, ap (is_member w) k.3 ∙ r.2))
      | inr n ↦ absurd (
          let a = kept-apart p (replicas w.sizes) ts d l in
          let c = apart-count (replicas w.sizes) (is_member w) (voices (filter p ts)) a.0 a.1 n in
          let e = length-voices (filter p ts) in
          omega (arith, c, e, q, m))
    ]

-- what a session makes of a reply
abbrev pub IsTrueReceipt : World → ℕ → Receipt → Type 0
IsTrueReceipt w cl r =
    (v : ℕ) × (is_member w v ≡ true) × Among (answer_at cl r.seq r.place r.text) (answers w.sizes.most_keys (held w v))

pub record HeardWell (w : World) (cl : ℕ) (x : Session × Heard) : Type 0 where
  pub session : SessionStands w cl x.0
  pub receipt : (r : Receipt) → Among r (accepted_of x.1) → IsTrueReceipt w cl r

agrees-parts : (place : ℕ) (text : Bytes) (x : Told) → agrees place text x ≡ true
    → (x.place ≡ place) × (x.text ≡ text)
agrees-parts place text x h =
    let p =
    and_parts (x.place == place) (bytes_eq x.text text) h in
    (eqb-true x.place place p.0, (bytes_decides x.text text).0 p.1)

as-receipt : (w : World) (cl : ℕ) (s : ℕ) (t x : Told) (v : ℕ) (r : Receipt)
    → r ≡ record { seq = s; place = t.place; text = t.text } → (x.place ≡ t.place) × (x.text ≡ t.text)
    → Among (answer_at cl s x.place x.text) (answers w.sizes.most_keys (held w v))
    → Among (answer_at cl r.seq r.place r.text) (answers w.sizes.most_keys (held w v))
as-receipt w cl s t x v r e p m =
    let seq : s ≡ r.seq = sym (ap (λ (y : Receipt). y.seq) e) in
    let place : x.place ≡ r.place = p.0 ∙ sym (ap (λ (y : Receipt). y.place) e) in
    let text : x.text ≡ r.text = p.1 ∙ sym (ap (λ (y : Receipt). y.text) e) in
    subst (λ (a : Answer). Among a (answers w.sizes.most_keys (held w v)))
    (λ j. record { client = cl; seq = seq j; place = place j; text = text j }) m

accepted-well : (w : World) (cl : ℕ) (t : Told) (s : Session)
    → quorum w.sizes ≤ count_below (replicas w.sizes) (is_member w)
    → SessionStands w cl (record { used = s.used; waiting = s.waiting; tally = t ∷ s.tally })
    → w.sizes.faults < length (filter (agrees t.place t.text) (t ∷ s.tally)) → (r : Receipt)
    → r ≡ record { seq = s.used; place = t.place; text = t.text } → IsTrueReceipt w cl r
accepted-well w cl t s q h l r e =
    let k = agreed w (t ∷ s.tally) (agrees t.place t.text) q h.distinct h.within l in (
      k.0.replica,
      k.3,
      as-receipt w cl s.used t k.0 k.0.replica r e (agrees-parts t.place t.text k.0 k.2)
          (h.true_ones k.0 k.1 k.3),
    )

count-well : (w : World) (me : Client) (cl : ℕ) (t : Told) (s : Session) → me.sizes.faults ≡ w.sizes.faults
    → quorum w.sizes ≤ count_below (replicas w.sizes) (is_member w)
    → SessionStands w cl (record { used = s.used; waiting = s.waiting; tally = t ∷ s.tally })
    → HeardWell w cl (count_reply me t s)
unfolding count_reply
count-well w me cl t s ef q h =
    cond_both (nat_lt me.sizes.faults (length (filter (agrees t.place t.text) (t ∷ s.tally)))) _ _
    (HeardWell w cl)
    (λ e. record {
      session = record { true_ones = h.true_ones; distinct = h.distinct; within = h.within };
      receipt = λ r m. elim m [
        | inl i ↦
            accepted-well w cl t s q h (let l =
            ltb-true me.sizes.faults (length (filter (agrees t.place t.text) (t ∷ s.tally))) e in
            omega (arith, l, ef)) r i
        | inr n ↦ absurd n
      ];
    })
    (λ e. record {
      session = record { true_ones = h.true_ones; distinct = h.distinct; within = h.within };
      receipt = λ r m. absurd m;
    })

-- a session that a frame comes to
unheard : (w : World) (cl : ℕ) (s : Session) (n : Fault) → SessionStands w cl s
    → HeardWell w cl (s, not_counted n)
unheard w cl s n h = record { session = h; receipt = λ r m. absurd m }

pub reply-well : (w : World) (e : Event) (m : MemorySupply) (f : Frame) (s : Session) → RepliesStand w
    → AnswersFit w → NoForgeryIn w e → IsMadeWell w → IsFrame w.sizes f → Among f (brought w e)
    → (admits w (party_of e) f ≡ true → admits_in w e f ≡ true)
    → is_replica w (party_of e) ≡ false → w.is_faulty (party_of e) ≡ false → 256 ≤ party_of e
    → SessionStands w (client_at (party_of e)) s
    → HeardWell w (client_at (party_of e)) (on_reply (client_of w (client_at (party_of e))) m f s)
unfolding on_reply
reply-well w e m (frame.reply r cl q pl tx g) s rs fit nf made fr b ad rep ok pa h =
    let me : Client = client_of w (client_at (party_of e)) in
    cond_both (not (cl == me.number)) _ _ P (λ k. unheard w me.number s fault.NotMine h) (λ mine.
    cond_both (not (verify me.ring kind.Reply r (reply_content r cl q pl tx) g)) _ _ P
    (λ k. unheard w me.number s fault.BadTag h) (λ good.
    cond_both (not (s.waiting && (q == s.used))) _ _ P (λ k. unheard w me.number s fault.WrongSeq h) (λ now.
    cond_both (list_any (λ x. x.replica == r) s.tally) _ _ P (λ k. unheard w me.number s fault.Doubled h)
    (λ new.
    cond_both (not (is_ample m)) _ _ P (λ k. unheard w me.number s fault.Memory h) (λ k.
    count-well w me me.number (record { replica = r; place = pl; text = tx }) s refl made.enough
    (record {
      true_ones = truths (not-false _ mine) (not-false _ good)
          (eqb-true q s.used (and_parts _ _ (not-false _ now)).1);
      distinct = (not-heard r s.tally new, h.distinct);
      within = (fr.0, h.within);
    }))))))
  where
    P : Session × Heard → Type 0
    P = HeardWell w (client_at (party_of e))

    truths : (cl == (client_at (party_of e))) ≡ true
        → verify (w.ring (client_party (client_at (party_of e)))) kind.Reply r (reply_content r cl q pl tx)
        g ≡ true → q ≡ s.used → (t : Told)
        → Among t (record { replica = r; place = pl; text = tx } ∷ s.tally)
        → Truth w (client_at (party_of e)) s.used t
    truths mine good eq t (inl i) = subst (Truth w (client_at (party_of e)) s.used) (sym i)
        (subst (λ (c : ℕ). Truth w c s.used (record { replica = r; place = pl; text = tx }))
        (eqb-true cl (client_at (party_of e)) mine)
        (subst (λ (n : ℕ). Truth w cl n (record { replica = r; place = pl; text = tx })) eq
        (counted-true w e r cl q pl tx g rs fit fr nf b ad rep ok pa mine good)))
    truths mine good eq t (inr n) = h.true_ones t n
reply-well w e m (frame.request c) s rs fit nf made fr b ad rep ok pa h = unheard w _ s fault.NotMine h
reply-well w e m (frame.proposal v c q t) s rs fit nf made fr b ad rep ok pa h = unheard w _ s fault.NotMine h
reply-well w e m (frame.vote d x) s rs fit nf made fr b ad rep ok pa h = unheard w _ s fault.NotMine h
reply-well w e m (frame.new_view v r q t) s rs fit nf made fr b ad rep ok pa h = unheard w _ s fault.NotMine h
reply-well w e m (frame.fetch r d t) s rs fit nf made fr b ad rep ok pa h = unheard w _ s fault.NotMine h
reply-well w e m (frame.block r c q t) s rs fit nf made fr b ad rep ok pa h = unheard w _ s fault.NotMine h
