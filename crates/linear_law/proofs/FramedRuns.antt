-- Each frame that a correct party of a run sends is a frame at its sizes, and a certificate in it is cut.
use Rattle.ids.specs.declared.limits.TheConstants.{MOST_PAYLOAD}
use Rattle.ids.specs.declared.fault.Fault.{Fault}
use Rattle.ids.specs.declared.fault.Fault.TheVariants as fault
use Rattle.ids.specs.declared.kind.Kind.TheVariants as kind
use Rattle.std.proofs.Common.{ℕ, suc, ◌≡◌, ◌-◌, ◌<◌, ◌≤◌, ◌^◌, ◌&&◌, ◌==◌, not, true, List, [], ◌∷◌, length}
use Rattle.std.proofs.Common.{refl, sym, ap, subst, arith, inl, inr, Option, Some, None, true≢false}
use Rattle.std.proofs.Common.{is_some}
use Rattle.std.specs.Bool.{⊤}
use Rattle.std.proofs.lemmas.Bool.{and_parts, cond_both, cond-true, eqb-true, eq-eqb, eqb-false, ltb-true}
use Rattle.std.proofs.lemmas.Bool.{not-false}
use Rattle.ids.specs.Sizes.{Sizes, replicas}
use Rattle.definitions.specs.Lists.{Among}
use Rattle.definitions.specs.Bytes.{Bytes}
use Rattle.definitions.specs.Canonical.{request_of, is_canonical}
use Rattle.definitions.specs.Requests.{Asked}
use Rattle.definitions.specs.Frames.{Core, genesis_core, command_content}
use Rattle.definitions.specs.FrameLimits.{IsDigest, IsCore, IsWritten}
use Rattle.definitions.specs.Branches.{Branch}
use Rattle.definitions.specs.Digests.{AllKnown, NoCollision}
use Rattle.definitions.specs.Chronicles.{Step, Chronicle, tree, IsSound}
use Rattle.definitions.specs.Checks.{Identity}
use Rattle.definitions.specs.States.{me, leaf}
use Rattle.definitions.specs.Rulings.{Input, Ruling, Ruling.due, Ruling.missing, Ruling.refusing, ruling}
use Rattle.definitions.specs.Rulings.{conflicts}
use Rattle.definitions.specs.Sendings.{To.to_party, Sending, fetch_frame}
use Rattle.definitions.specs.Replicas.{MemorySupply, MemorySupply.ample, MemorySupply.refused_at_once}
use Rattle.definitions.specs.Replicas.{MemorySupply.refused_after}
use Rattle.definitions.specs.Replicas.{Replica, Standing, Standing.running, Standing.stopped}
use Rattle.definitions.specs.Replicas.{Standing.cut_short, Reaction, Reaction.sends_out, Reaction.fails}
use Rattle.definitions.specs.Replicas.{Reaction.asks_for, executes, on_step, on_ruling, step}
use Rattle.definitions.specs.Sessions.{Client, Session, Submitted, is_ample, submission, request_frame}
use Rattle.definitions.specs.Worlds.{World, Sent, Event, Event.submit, self_of, client_of, put}
use Rattle.definitions.specs.Runs.{refusal, names_party}
use Rattle.definitions.specs.Events.{Effect, nothing, stepped, out_of, told, submitted, submitted_out}
use Rattle.definitions.specs.Events.{party_of, effect, happens}
use Rattle.definitions.specs.Premises.{CoreOf}
use Rattle.definitions.proofs.Lists.{Among-either, Among-map, Among-mapped, Among-after}
use Rattle.definitions.proofs.Vectors.{IsVector-vector_for}
use Rattle.definitions.proofs.RequestTexts.{request_of_some, length-canonical}
use Rattle.definitions.proofs.Sound.{Outcome, Outcome.unchanged, Outcome.refused, Outcome.lacks}
use Rattle.definitions.proofs.Sound.{Outcome.conflict, Outcome.stood, Outcome.cut, step-outcome}
use Rattle.linear_law.proofs.Effects.{is_member, Arises, Effects, Effects.idle, Effects.step_by}
use Rattle.linear_law.proofs.Effects.{Effects.hearing, Effects.submitting, effects, named}
use Rattle.linear_law.proofs.Runs.{chronicles, IsMadeWell, IsHonest, IsAfter, step-keeps, arises-checked}
use Rattle.linear_law.proofs.Fits.{IsCoreOrGenesis}
use Rattle.linear_law.proofs.Linear.{IsGood, ground}
use Rattle.linear_law.proofs.Final.{IsAccount}
use Rattle.linear_law.proofs.MadeCertificates.{qc_high-is}
use Rattle.linear_law.proofs.StoredFrames.{arises-read, AreStored, IsStoredRuling, ruling-stored}
use Rattle.linear_law.proofs.SentFrames.{fetch-fits, sends-fit}
use Rattle.linear_law.proofs.Sends.{sends}
use Rattle.linear_law.proofs.FitAnswers.{answers-fit}
use Rattle.linear_law.proofs.KnownLeaves.{IsLeafKnown, IsGrown, known-now}

-- ---- what a step asks for

-- a digest, where it asks for a block
abbrev pub AsksRightly : Reaction → Type 0
AsksRightly (asks_for sender d) = IsDigest d
AsksRightly (sends_out out) = ⊤
AsksRightly (fails n) = ⊤

-- a step that is to stand asks for nothing
on_step-asks : (self : Identity) (m : MemorySupply) (st : Step) (c : Chronicle)
    → AsksRightly (on_step self m st c).1
unfolding on_step
on_step-asks self ample st c =
    cond_both (conflicts st c) _ _ (λ (r : Replica × Reaction). AsksRightly r.1) (λ e. tt) (λ e. tt)
on_step-asks self refused_at_once st c = tt
on_step-asks self (refused_after k) st c =
    cond_both (conflicts st c) _ _ (λ (r : Replica × Reaction). AsksRightly r.1) (λ e. tt)
    (λ e. cond_both (executes st c) _ _ (λ (r : Replica × Reaction). AsksRightly r.1) (λ x. tt) (λ x. tt))

-- the whole step
pub step-asks : (self : Identity) (m : MemorySupply) (i : Input) (r : Replica)
    → IsStoredRuling self r.chronicle (ruling self i r.chronicle) → AsksRightly (step self m i r).1
unfolding step on_ruling
step-asks self m i r h = by r.standing
  where
    when : (v : Ruling) → IsStoredRuling self r.chronicle v → AsksRightly (on_ruling self m v r.chronicle).1
    when (due st) k = on_step-asks self m st r.chronicle
    when (missing sender d) k = k
    when (refusing n) k = tt

    by : (s : Standing)
        → AsksRightly (elim s as (λ x. Replica × Reaction) [
          | running ↦ on_ruling self m (ruling self i r.chronicle) r.chronicle
          | stopped ↦ (r, fails fault.Stopped)
          | cut_short held ↦ (r, fails fault.Stopped)
        ]).1
    by running = when (ruling self i r.chronicle) h
    by stopped = tt
    by (cut_short held) = tt

-- ---- a step of a member

-- the cores of frames that are sent are known
abbrev SendsKnown : (Core → Type 0) → Sizes → List Sending → Type 0
SendsKnown Known s out = (o : Sending) → Among o out → (x : Core) → CoreOf x o.1 → IsCore s x → Known x

-- what a step leaves
record IsFramedAfter (Known : Core → Type 0) (self : Identity) (m : MemorySupply) (r : Replica × Reaction) :
    Type 0 where
  stored : AreStored self r.0.chronicle
  leaf : r.0.standing ≡ running → IsLeafKnown Known self r.0.chronicle
  out : (o : Sending) → Among o (out_of self m r.1) → IsWritten self.sizes o.1

-- the question for a block that was lacking
pub lacks-fit : (self : Identity) (m : MemorySupply) (sender : ℕ) (d : Bytes) (o : Sending)
    → me self < replicas self.sizes → IsDigest d → Among o (out_of self m (asks_for sender d))
    → IsWritten self.sizes o.1
lacks-fit self m sender d o number h =
    cond_both (is_ample m && not (sender == self.ring.party))
    ((to_party sender, fetch_frame self sender d) ∷ []) []
    (λ (l : List Sending). Among o l → IsWritten self.sizes o.1)
    (λ e k. elim k [
      | inl i ↦
          subst (λ (x : Sending). IsWritten self.sizes x.1) (sym i) (fetch-fits self number sender d h)
      | inr n ↦ absurd n
    ])
    (λ e k. absurd k)

module _ (Known : Core → Type 0) (apart : NoCollision Known) (genesis : Known genesis_core) where
  -- each outcome leaves it so
  after-framed : (self : Identity) (m : MemorySupply) (v : Ruling) (before : Replica) (r : Replica × Reaction)
      → ((c : Core) → Known c → IsCoreOrGenesis self.sizes c) → me self < replicas self.sizes
      → IsGrown Known self before.chronicle
      → (before.standing ≡ running → IsLeafKnown Known self before.chronicle)
      → IsSound self.sizes r.0.chronicle
      → ((x : Branch) → Among x (tree r.0.chronicle) → AllKnown Known x)
      → IsStoredRuling self before.chronicle v → AsksRightly r.1
      → SendsKnown Known self.sizes (out_of self m r.1) → Outcome self before.chronicle v before r
      → IsFramedAfter Known self m r
  after-framed self m v before r cores number g leaf so known stored asks sent (unchanged n l) =
      record { stored = g.stored; leaf = leaf; out = λ o k. absurd k }
  after-framed self m v before r cores number g leaf so known stored asks sent (refused s n u l) =
      record { stored = g.stored; leaf = λ e. leaf u; out = λ o k. absurd k }
  after-framed self m v before r cores number g leaf so known stored asks sent (lacks sender d u) =
      record { stored = g.stored; leaf = λ e. leaf u; out = λ o k. lacks-fit self m sender d o number asks k }
  after-framed self m v before r cores number g leaf so known stored asks sent (conflict st u e h) =
      record { stored = g.stored; leaf = λ i. leaf u; out = λ o k. absurd k }
  after-framed self m v before r cores number g leaf so known stored asks sent (cut st n u e h) =
      record {
        stored = (subst (IsStoredRuling self before.chronicle) e stored, g.stored);
        leaf = λ i. absurd (halted i);
        out = λ o k. absurd k;
      }
    where
      halted : {k : ℕ} → cut_short k ≡ running → ⊥
      halted i = cc
  after-framed self m v before r cores number g leaf so known stored asks sent (stood st u e h) = record {
    stored = now.stored;
    leaf = λ i. kept;
    out = λ o k. sends-fit self st before.chronicle o (record {
      stored = now.stored;
      number = number;
      before = answers-fit Known self.sizes cores before.chronicle g.sound g.known;
      now = answers-fit Known self.sizes cores (st ∷ before.chronicle) so known;
      proposal = kept.proposal;
    }) (sends self st before.chronicle o k);
  }
    where
      now : IsGrown Known self (st ∷ before.chronicle)
      now = record {
        sound = so;
        known = known;
        stored = (subst (IsStoredRuling self before.chronicle) e stored, g.stored);
      }

      kept : IsLeafKnown Known self (st ∷ before.chronicle)
      kept = known-now Known apart genesis self st before.chronicle g now (leaf u) sent

-- ---- a submission

-- a canonical payload is short
pub payload-short : (payload : Bytes) → is_canonical payload ≡ true → length payload ≤ MOST_PAYLOAD
payload-short payload h = by (request_of payload) refl h
  where
    by : (o : Option Asked) → request_of payload ≡ o → is_some o ≡ true → length payload ≤ MOST_PAYLOAD
    by None e t = absurd (true≢false (sym t))
    by (Some r) e t =
        let k =
        request_of_some payload r e in let l =
        length-canonical r k.0 in let n = ap (λ (b : Bytes). length b) k.1 in omega (arith, l, n)

-- the request that goes out
pub submission-fits : (c : Client) (m : MemorySupply) (payload : Bytes) (s : Session) (o : Sending)
    → c.number < c.sizes.clients → s.used < 2 ^ 64 → length payload ≤ MOST_PAYLOAD
    → Among o (submitted_out (submission c m payload s).1) → IsWritten c.sizes o.1
unfolding submission request_frame
submission-fits c m payload s o client room short =
    cond_both s.waiting _ _ P (λ e k. absurd k) (λ e.
    cond_both (s.used == (2 ^ 64 - 1)) _ _ P (λ e k. absurd k) (λ spent.
    cond_both (not (is_ample m)) _ _ P (λ e k. absurd k) (λ e k.
    elim k [
      | inl i ↦ subst (λ (x : Sending). IsWritten c.sizes x.1) (sym i) (
        record {
          client = client;
          seq = (let n = eqb-false s.used (2 ^ 64 - 1) spent in (omega arith, omega (arith, n, room)));
          payload = short;
          vector = IsVector-vector_for c.sizes c.ring kind.Request
              (command_content c.number (suc s.used) payload);
        },
        tt,
      )
      | inr n ↦ absurd n
    ])))
  where
    P : Session × Submitted → Type 0
    P x = Among o (submitted_out x.1) → IsWritten c.sizes o.1

-- what a run does not refuse to submit is a request
pub requested : (w : World) (c : ℕ) (payload : Bytes) → refusal w (submit c payload) ≡ None
    → is_canonical payload ≡ true
unfolding refusal
requested w c payload =
    cond_both (not (names_party w (submit c payload))) _ _ P (λ e k. absurd (some fault.NoSuchParty k)) (λ e.
    cond_both (not (is_canonical payload)) _ _ P (λ f k. absurd (some fault.NotARequest k))
    (λ f k. not-false _ f))
  where
    P : Option Fault → Type 0
    P o = o ≡ None → is_canonical payload ≡ true

    some : (n : Fault) → Some n ≡ None → ⊥
    some n k = cc

-- ---- an event

-- what is kept by each event
pub record IsFramed (Known : Core → Type 0) (w : World) : Type 0 where
  pub stored : (p : ℕ) → is_member w p ≡ true → AreStored (self_of w p) (chronicles w p)
  pub leaves : (p : ℕ) → is_member w p ≡ true → (w.replica p).standing ≡ running
      → IsLeafKnown Known (self_of w p) (chronicles w p)
  pub sent : (s : Sent) → Among s w.sent → IsWritten w.sizes s.frame

-- what an effect keeps
record IsFramedEffect (Known : Core → Type 0) (w : World) (f : Effect) : Type 0 where
  stored : (p : ℕ) → is_member w p ≡ true → AreStored (self_of w p) (f.replica p).chronicle
  leaves : (p : ℕ) → is_member w p ≡ true → (f.replica p).standing ≡ running
      → IsLeafKnown Known (self_of w p) (f.replica p).chronicle
  out : (o : Sending) → Among o f.out → IsWritten w.sizes o.1

-- one replica is put in its place
pub put-both : (P : Replica → Type 0) (p : ℕ) (r : Replica) (row : ℕ → Replica) (j : ℕ) → (j ≡ p → P r)
    → P (row j) → P (put p r row j)
put-both P p r row j here there = cond_both (j == p) r (row j) P (λ e. here (eqb-true j p e)) (λ e. there)

-- it stands in its own place
put-own : (p : ℕ) (r : Replica) (row : ℕ → Replica) → put p r row p ≡ r
put-own p r row = cond-true _ _ _ (eq-eqb p p refl)

-- the number of a member is its own
member-number : (w : World) (p : ℕ) → IsMadeWell w → is_member w p ≡ true
    → me (self_of w p) < replicas w.sizes
member-number w p made mp =
    let l =
    ltb-true p (replicas w.sizes) (and_parts _ _ mp).0 in let e = made.rings p mp in omega (arith, l, e)

module _ (Known : Core → Type 0) (apart : NoCollision Known) (genesis : Known genesis_core) where
  -- a member's step
  step-framed : (w : World) (e : Event) (m : MemorySupply) (i : Input) → IsGood Known w → IsHonest Known w e
      → IsFramed Known w → is_member w (party_of e) ≡ true → Arises w e i → (r : Replica × Reaction)
      → step (self_of w (party_of e)) m i (w.replica (party_of e)) ≡ r
      → SendsKnown Known w.sizes (out_of (self_of w (party_of e)) m r.1)
      → IsFramedAfter Known (self_of w (party_of e)) m r
  step-framed w e m i g honest a mp ar r is sent =
      let p : ℕ = party_of e in
      let self : Identity = self_of w p in
      let c : Chronicle = chronicles w p in
      let so : IsSound w.sizes c = g.run.row.sound p mp in
      let k : IsAfter Known w p m r =
      subst (IsAfter Known w p m) is
      (step-keeps Known apart genesis ground w e m i g.run g.made honest mp ar) in
      let own : (put p r.0 w.replica p).chronicle ≡ r.0.chronicle =
      ap (λ (x : Replica). x.chronicle) (put-own p r.0 w.replica) in
      let h : IsStoredRuling self c (ruling self i c) = ruling-stored self i c (arises-read w e i ar) (qc_high-is self c (a.stored p mp)) so in
      after-framed Known apart genesis self m (ruling self i c) (w.replica p) r g.cores
      (member-number w p g.made mp)
      (record { sound = so; known = g.run.row.known p mp; stored = a.stored p mp })
      (a.leaves p mp)
      (subst (IsSound w.sizes) own (k.row.sound p mp))
      (subst (λ (x : Chronicle). (b : Branch) → Among b (tree x) → AllKnown Known b) own (k.row.known p mp))
      h
      (subst (λ (x : Replica × Reaction). AsksRightly x.1) is (step-asks self m i (w.replica p) h))
      sent
      (subst (Outcome self c (ruling self i c) (w.replica p)) is
      (step-outcome self m i (w.replica p) (arises-checked w e i ar) so))

  -- a member's step in the world
  stepped-framed : (w : World) (p : ℕ) (m : MemorySupply) (r : Replica × Reaction) → IsFramed Known w
      → IsFramedAfter Known (self_of w p) m r → IsFramedEffect Known w (stepped w p m r)
  unfolding stepped
  stepped-framed w p m r a k = record {
    stored = λ q mq. put-both (λ (x : Replica). AreStored (self_of w q) x.chronicle) p r.0 w.replica q
        (λ e. subst (λ (n : ℕ). AreStored (self_of w n) r.0.chronicle) (sym e) k.stored) (a.stored q mq);
    leaves = λ q mq. put-both
        (λ (x : Replica). x.standing ≡ running → IsLeafKnown Known (self_of w q) x.chronicle) p r.0
        w.replica q
        (λ e s. subst (λ (n : ℕ). IsLeafKnown Known (self_of w n) r.0.chronicle) (sym e) (k.leaf s))
        (a.leaves q mq);
    out = k.out;
  }

  -- each effect keeps it
  effect-framed : (w : World) (e : Event) (m : MemorySupply) (f : Effect) → IsGood Known w → IsAccount w
      → IsHonest Known w e → IsFramed Known w → refusal w e ≡ None → SendsKnown Known w.sizes f.out
      → Effects w e m f → IsFramedEffect Known w f
  unfolding nothing told submitted stepped
  effect-framed w e m f g n honest a ok sent (idle x h) =
      record { stored = a.stored; leaves = a.leaves; out = λ o k. absurd k }
  effect-framed w e m f g n honest a ok sent (step_by i me ar) =
      stepped-framed w (party_of e) m _ a (step-framed w e m i g honest a me ar _ refl sent)
  effect-framed w e m f g n honest a ok sent (hearing x b ad r y pa) =
      record { stored = a.stored; leaves = a.leaves; out = λ o k. absurd k }
  effect-framed w e m f g n honest a ok sent (submitting c payload i y) = record {
    stored = a.stored;
    leaves = a.leaves;
    out = λ o k.
        let ok' : refusal w (submit c payload) ≡ None = subst (λ (x : Event). refusal w x ≡ None) i ok in
        submission-fits (client_of w c) m payload (w.session c) o
        (ltb-true c w.sizes.clients (named w (submit c payload) ok')) (n.room c)
        (payload-short payload (requested w c payload ok')) k;
  }

  -- each event keeps it
  pub happens-framed : (w : World) (e : Event) (m : MemorySupply) → IsGood Known w → IsAccount w
      → IsHonest Known w e → IsFramed Known w → refusal w e ≡ None
      → ((s : Sent) → Among s (happens w (e, m)).sent → (x : Core) → CoreOf x s.frame → IsCore w.sizes x
      → Known x) → IsFramed Known (happens w (e, m))
  unfolding happens
  happens-framed w e m g n honest a ok known =
      record {
        stored = k.stored;
        leaves = k.leaves;
        sent = λ s j. elim (Among-either s w.sent _ j) [
          | inl x ↦ a.sent s x
          | inr x ↦
              (let r =
              Among-map sent (effect w (e, m)).out s x in
              subst (λ (y : Sent). IsWritten w.sizes y.frame) (sym r.2) (k.out r.0 r.1))
        ];
      }
    where
      sent : Sending → Sent
      sent o = record { event = w.now; sender = party_of e; to = o.0; frame = o.1 }

      k : IsFramedEffect Known w (effect w (e, m))
      k = effect-framed w e m (effect w (e, m)) g n honest a ok
          (λ o j. known (sent o)
          (Among-after (sent o) w.sent _ (Among-mapped sent (effect w (e, m)).out o j)))
          (effects w e m honest.framed ok)
