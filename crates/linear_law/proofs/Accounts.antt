-- Sessions, receipts and requests, through each event of a run.
use Rattle.ids.specs.declared.kind.Kind.TheVariants as kind
use Rattle.ids.specs.declared.fault.Fault.{Fault}
use Rattle.ids.specs.declared.fault.Fault.TheVariants as fault
use Rattle.std.proofs.Common.{ℕ, suc, ◌≡◌, ◌-◌, ◌^◌, ◌<◌, ◌≤◌, ◌&&◌, not, ◌==◌, false, List, [], ◌∷◌}
use Rattle.std.proofs.Common.{length, refl, sym, ap, subst, ◌∙◌, arith, inl, inr, true≢false, nat_lt}
use Rattle.std.proofs.Common.{filter}
use Rattle.std.specs.List.{list_any}
use Rattle.std.proofs.lemmas.Bool.{cond_both, eqb-true, eq-eqb, cases_lt}
use Rattle.definitions.proofs.Sound.{Outcome, Outcome.unchanged, Outcome.refused, Outcome.lacks}
use Rattle.definitions.proofs.Sound.{Outcome.conflict, Outcome.stood, Outcome.cut, step-outcome}
use Rattle.linear_law.proofs.Sends.{Sends, Sends.its_vote, Sends.new_reply, Sends.old_reply, Sends.its_view}
use Rattle.linear_law.proofs.Sends.{Sends.its_block, Sends.its_proposal, sends}
use Rattle.linear_law.proofs.Effects.{Effects, Effects.idle, Effects.step_by, Effects.hearing}
use Rattle.linear_law.proofs.Effects.{Effects.submitting}
use Rattle.linear_law.proofs.Runs.{chronicles, IsRun, IsMadeWell, IsHonest, arises-checked}
use Rattle.linear_law.proofs.Fits.{AnswersFit}
use Rattle.linear_law.proofs.Receipts.{RepliesStand, SessionStands, IsTrueReceipt, HeardWell, reply-well}
use Rattle.definitions.specs.Lists.{Among}
use Rattle.definitions.specs.Frames.{Command, Core, Frame, reply_content}
use Rattle.definitions.specs.Bytes.{Bytes}
use Rattle.ids.specs.Sizes.{client_party}
use Rattle.definitions.specs.Keyrings.{client_at, verify}
use Rattle.definitions.specs.Chronicles.{Step, Chronicle}
use Rattle.definitions.specs.Checks.{Identity}
use Rattle.definitions.specs.States.{view}
use Rattle.definitions.specs.Rulings.{Ruling, ruling}
use Rattle.definitions.specs.Sendings.{To, To.to_all, To.to_party, Sending, reply_to, vote_frame}
use Rattle.definitions.specs.Sendings.{block_frame, new_view_frame, proposal_frame, fetch_frame}
use Rattle.definitions.specs.Replicas.{MemorySupply, Replica, Reaction}
use Rattle.definitions.specs.Sessions.{Client, Session, Heard, Receipt, Submitted, Submitted.not_sent}
use Rattle.definitions.specs.Sessions.{is_ample, submission, request_frame, on_reply, count_reply}
use Rattle.definitions.specs.Tally.{agrees}
use Rattle.definitions.specs.Worlds.{World, Event, Event.submit, put, self_of, client_of}
use Rattle.definitions.specs.Events.{Effect, nothing, stepped, told, submitted, out_of, submitted_out}
use Rattle.definitions.specs.Events.{party_of, client_number}
use Rattle.definitions.specs.Frames as frame

-- ---- a replica sends no request

abbrev pub NotRequest : Sending → Type 0
NotRequest o = (c : Command) → o.1 ≡ frame.request c → ⊥

one-not : (to : To) (f : Frame) → ((c : Command) → f ≡ frame.request c → ⊥) → (o : Sending)
    → Among o ((to, f) ∷ []) → NotRequest o
one-not to f apart o (inl i) c h = apart c (sym (ap (λ (x : Sending). x.1) i) ∙ h)
one-not to f apart o (inr m) c h = m

pub none-not : (o : Sending) → Among o [] → NotRequest o
none-not o m c h = m

pub fetch-not : (self : Identity) (sender : ℕ) (d : Bytes) (o : Sending)
    → Among o ((to_party sender, fetch_frame self sender d) ∷ []) → NotRequest o
unfolding fetch_frame
fetch-not self sender d o m = one-not (to_party sender) (fetch_frame self sender d) (λ c h. cc) o m

pub sends-not : (self : Identity) (st : Step) (c : Chronicle) (o : Sending) → Sends self st c o → NotRequest o
unfolding vote_frame reply_to new_view_frame block_frame proposal_frame
sends-not self st c o (its_vote a e v to) x h = let k : vote_frame self a.branch ≡ frame.request x = h in cc
sends-not self st c o (new_reply a m) x h = let k : (reply_to self a).1 ≡ frame.request x = h in cc
sends-not self st c o (old_reply a m) x h = let k : (reply_to self a).1 ≡ frame.request x = h in cc
sends-not self st c o its_view x h = let k : new_view_frame self (st ∷ c) ≡ frame.request x = h in cc
sends-not self st c o (its_block to a m) x h = let k : block_frame self to a ≡ frame.request x = h in cc
sends-not self st c o (its_proposal j l e) x h =
    let k : proposal_frame self (view self.sizes c) j ≡ frame.request x = h in cc

pub outcome-not : (self : Identity) (m : MemorySupply) (v : Ruling) (old : Replica) (r : Replica × Reaction)
    → Outcome self old.chronicle v old r → (o : Sending) → Among o (out_of self m r.1) → NotRequest o
outcome-not self m v old r (unchanged n l) o k = none-not o k
outcome-not self m v old r (refused s n u l) o k = none-not o k
outcome-not self m v old r (lacks sender d u) o k =
    cond_both (is_ample m && not (sender == self.ring.party))
    ((to_party sender, fetch_frame self sender d) ∷ []) []
    (λ (l : List Sending). Among o l → NotRequest o) (λ e y. fetch-not self sender d o y)
    (λ e y. none-not o y) k
outcome-not self m v old r (conflict st u e h) o k = none-not o k
outcome-not self m v old r (stood st u e h) o k =
    sends-not self st old.chronicle o (sends self st old.chronicle o k)
outcome-not self m v old r (cut st n u e h) o k = none-not o k

-- ---- what an event does to sessions and requests

-- each request that goes out has the next number of its client, which it uses
pub record KeepsSessions (w : World) (e : Event) (f : Effect) : Type 0 where
  pub sessions : (cl : ℕ) → SessionStands w cl (f.session cl)
  pub accepted : (r : Receipt) → Among r f.accepted → IsTrueReceipt w (client_number e) r
  pub used : (cl : ℕ) → (w.session cl).used ≤ (f.session cl).used
  pub requests : (o : Sending) → Among o f.out → (c : Command) → o.1 ≡ frame.request c
      → (cl : ℕ) × (party_of e ≡ client_party cl) × (c.seq ≡ suc (w.session cl).used)
      × (c.seq ≤ (f.session cl).used) × (c.client ≡ cl)
  pub room : ((cl : ℕ) → (w.session cl).used < 2 ^ 64) → (cl : ℕ) → (f.session cl).used < 2 ^ 64

pub put-session : (c : ℕ) (x : Session) (row : ℕ → Session) (P : Session → Type 0) (i : ℕ) → (i ≡ c → P x)
    → P (row i) → P (put c x row i)
put-session c x row P i here there = cond_both (i == c) x (row i) P (λ e. here (eqb-true i c e)) (λ e. there)

pub on_reply-used : (me : Client) (m : MemorySupply) (f : Frame) (s : Session)
    → (on_reply me m f s).0.used ≡ s.used
unfolding on_reply count_reply
on_reply-used me m (frame.reply r cl q pl tx g) s =
    cond_both (not (cl == me.number)) _ _ P (λ k. refl) (λ mine.
    cond_both (not (verify me.ring kind.Reply r (reply_content r cl q pl tx) g)) _ _ P (λ k. refl) (λ good.
    cond_both (not (s.waiting && (q == s.used))) _ _ P (λ k. refl) (λ now.
    cond_both (list_any (λ x. x.replica == r) s.tally) _ _ P (λ k. refl) (λ new.
    cond_both (not (is_ample m)) _ _ P (λ k. refl) (λ k.
    cond_both (nat_lt me.sizes.faults
    (length (filter (agrees pl tx) (record { replica = r; place = pl; text = tx } ∷ s.tally)))) _ _ P
    (λ k. refl) (λ k. refl))))))
  where
    P : Session × Heard → Type 0
    P x = x.0.used ≡ s.used
on_reply-used me m (frame.request c) s = refl
on_reply-used me m (frame.proposal v c q t) s = refl
on_reply-used me m (frame.vote d x) s = refl
on_reply-used me m (frame.new_view v r q t) s = refl
on_reply-used me m (frame.fetch r d t) s = refl
on_reply-used me m (frame.block r c q t) s = refl

-- a submission
record SubmittedWell (w : World) (cl number : ℕ) (s : Session) (x : Session × Submitted) : Type 0 where
  session : SessionStands w cl s → SessionStands w cl x.0
  used : s.used ≤ x.0.used
  requests : (o : Sending) → Among o (submitted_out x.1) → (c : Command) → o.1 ≡ frame.request c
      → (c.seq ≡ suc s.used) × (c.seq ≤ x.0.used) × (c.client ≡ number)
  room : s.used < 2 ^ 64 → x.0.used < 2 ^ 64

not-submitted : (w : World) (cl number : ℕ) (n : Fault) (s : Session)
    → SubmittedWell w cl number s (s, not_sent n)
not-submitted w cl number n s =
    record { session = λ h. h; used = omega arith; requests = λ o k. absurd k; room = λ h. h }

abbrev seq_of : Frame → ℕ
seq_of (frame.request c) = c.seq
seq_of f = 0

request-seq : (me : Client) (s : Session) (payload : Bytes) (to : To) (o : Sending)
    → Among o ((to, request_frame me (suc s.used) payload) ∷ []) → (c : Command) → o.1 ≡ frame.request c
    → c.seq ≡ suc s.used
unfolding request_frame
request-seq me s payload to o (inl i) c h = same (sym (ap (λ (x : Sending). x.1) i) ∙ h)
  where
    same : request_frame me (suc s.used) payload ≡ frame.request c → c.seq ≡ suc s.used
    same k = ap (λ (f : Frame). seq_of f) (sym k)
request-seq me s payload to o (inr m) c h = absurd m

abbrev client_in : Frame → ℕ
client_in (frame.request c) = c.client
client_in f = 0

request-client : (me : Client) (s : Session) (payload : Bytes) (to : To) (o : Sending)
    → Among o ((to, request_frame me (suc s.used) payload) ∷ []) → (c : Command) → o.1 ≡ frame.request c
    → c.client ≡ me.number
unfolding request_frame
request-client me s payload to o (inl i) c h = same (sym (ap (λ (x : Sending). x.1) i) ∙ h)
  where
    same : request_frame me (suc s.used) payload ≡ frame.request c → c.client ≡ me.number
    same k = ap (λ (f : Frame). client_in f) (sym k)
request-client me s payload to o (inr m) c h = absurd m

-- the next number still fits, where the last isn't reached
pub next-fits : (n : ℕ) → (n == (2 ^ 64 - 1)) ≡ false → n < 2 ^ 64 → suc n < 2 ^ 64
next-fits n e h = elim (cases_lt n (2 ^ 64 - 1)) [
  | inl l ↦ omega (arith, l)
  | inr g ↦ absurd (true≢false (sym (eq-eqb n (2 ^ 64 - 1) (omega (arith, g, h))) ∙ e))
]

submit-well : (w : World) (cl : ℕ) (me : Client) (m : MemorySupply) (payload : Bytes) (s : Session)
    → SubmittedWell w cl me.number s (submission me m payload s)
unfolding submission
submit-well w cl me m payload s =
    cond_both s.waiting _ _ P (λ e. not-submitted w cl me.number fault.Busy s) (λ e.
    cond_both (s.used == (2 ^ 64 - 1)) _ _ P (λ e. not-submitted w cl me.number fault.Spent s) (λ last.
    cond_both (not (is_ample m)) _ _ P (λ e. not-submitted w cl me.number fault.Memory s) (λ e.
    record {
      session = λ h. record { true_ones = λ t n. absurd n; distinct = tt; within = tt };
      used = omega arith;
      requests = λ o k c h. (let q =
          request-seq me s payload to_all o k c h in
          (q, omega (arith, q), request-client me s payload to_all o k c h));
      room = λ h. next-fits s.used last h;
    })))
  where
    P : Session × Submitted → Type 0
    P = SubmittedWell w cl me.number s

pub submit-party : (e : Event) (c : ℕ) (payload : Bytes) → e ≡ submit c payload → party_of e ≡ client_party c
unfolding party_of
submit-party e c payload i = ap party_of i

pub put-session-own : (c : ℕ) (x : Session) (row : ℕ → Session) (P : Session → Type 0) → P x
    → P (put c x row c)
put-session-own c x row P h =
    cond_both (c == c) x (row c) P (λ e. h) (λ e. absurd (true≢false (sym (eq-eqb c c refl) ∙ e)))

module _ (Known : Core → Type 0) where
  pub effect-sessions : (w : World) (e : Event) (m : MemorySupply) (f : Effect) → IsRun Known w
      → IsHonest Known w e → IsMadeWell w → RepliesStand w → AnswersFit w
      → ((cl : ℕ) → SessionStands w cl (w.session cl)) → Effects w e m f → KeepsSessions w e f
  unfolding nothing stepped told submitted
  effect-sessions w e m f run honest made rs fit ss (idle a h) =
      record {
        sessions = ss;
        accepted = λ r k. absurd k;
        used = λ cl. omega arith;
        requests = λ o k. absurd k;
        room = λ h. h;
      }
  effect-sessions w e m f run honest made rs fit ss (step_by i me ar) = record {
    sessions = ss;
    accepted = λ r k. absurd k;
    used = λ cl. omega arith;
    room = λ h. h;
    requests = λ o k c h. absurd (outcome-not (self_of w (party_of e)) m
        (ruling (self_of w (party_of e)) i (chronicles w (party_of e))) (w.replica (party_of e)) _
        (step-outcome (self_of w (party_of e)) m i (w.replica (party_of e)) (arises-checked w e i ar)
        (run.row.sound (party_of e) me)) o k c h);
  }
  effect-sessions w e m f run honest made rs fit ss (hearing g b ad r ok pa) =
      let cl : ℕ = client_at (party_of e) in
      let x : Session × Heard = on_reply (client_of w cl) m g (w.session cl) in
      let h : HeardWell w cl x =
      reply-well w e m g (w.session cl) rs fit honest.forgery made b.1 b.0 ad r ok pa (ss cl) in
      record {
        sessions = λ i. put-session cl x.0 w.session (λ (y : Session). SessionStands w i y) i
            (λ k. subst (λ (j : ℕ). SessionStands w j x.0) (sym k) h.session) (ss i);
        accepted = h.receipt;
        used = λ i. put-session cl x.0 w.session (λ (y : Session). (w.session i).used ≤ y.used) i
            (λ k. let u =
            on_reply-used (client_of w cl) m g (w.session cl) in let v =
            ap (λ (j : ℕ). (w.session j).used) k in omega (arith, u, v)) (omega arith);
        requests = λ o k. absurd k;
        room = λ h i. put-session cl x.0 w.session (λ (y : Session). y.used < 2 ^ 64) i
            (λ k. let u =
            on_reply-used (client_of w cl) m g (w.session cl) in let v = h cl in omega (arith, u, v))
            (h i);
      }
  effect-sessions w e m f run honest made rs fit ss (submitting c payload i ok) =
      let x : Session × Submitted = submission (client_of w c) m payload (w.session c) in
      let h : SubmittedWell w c c (w.session c) x = submit-well w c (client_of w c) m payload (w.session c) in
      record {
        sessions = λ j. put-session c x.0 w.session (λ (y : Session). SessionStands w j y) j
            (λ k. subst (λ (n : ℕ). SessionStands w n x.0) (sym k) (h.session (ss c))) (ss j);
        accepted = λ r k. absurd k;
        used = λ j. put-session c x.0 w.session (λ (y : Session). (w.session j).used ≤ y.used) j
            (λ k. subst (λ (n : ℕ). (w.session n).used ≤ x.0.used) (sym k) h.used) (omega arith);
        requests = λ o k d q. (let r =
            h.requests o k d q in (
              c,
              submit-party e c payload i,
              r.0,
              put-session-own c x.0 w.session (λ (y : Session). d.seq ≤ y.used) r.1,
              r.2,
            ));
        room =
            λ g j. put-session c x.0 w.session (λ (y : Session). y.used < 2 ^ 64) j (λ k. h.room (g c)) (g j);
      }
