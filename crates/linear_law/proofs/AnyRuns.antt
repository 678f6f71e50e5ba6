-- What holds in every run, whatever tags are forged and whatever cores collide: what correct parties send
-- are frames.
use Rattle.std.proofs.Common.{ℕ, suc, ◌≡◌, ◌+◌, ◌-◌, ◌<◌, ◌≤◌, ◌^◌, ◌==◌, not, true, Bool, List, [], ◌∷◌}
use Rattle.std.proofs.Common.{length, refl, sym, subst, arith, inl, inr, Option, Some, None, Ok}
use Rattle.std.proofs.lemmas.Bool.{and_parts, cond_both, ltb-true}
use Rattle.ids.specs.Sizes.{Sizes, replicas}
use Rattle.definitions.specs.Lists.{Among}
use Rattle.definitions.specs.Bytes.{Bytes}
use Rattle.definitions.specs.FrameLimits.{IsCore, IsWritten}
use Rattle.definitions.specs.Branches.{Branch}
use Rattle.definitions.specs.Digests.{AllKnown}
use Rattle.definitions.specs.Chronicles.{Step, Step.took_block, Step.noted, Note.beat, Chronicle}
use Rattle.definitions.specs.Chronicles.{taken_blocks}
use Rattle.definitions.specs.Chronicles.{stored_blocks, tree, IsSound}
use Rattle.definitions.specs.Checks.{Identity}
use Rattle.definitions.specs.Keyrings.{Keyring}
use Rattle.definitions.specs.States.{Justified, me, leaf, child, proposed, made_with, qc_high}
use Rattle.definitions.specs.Rulings.{Input, Ruling, ruling}
use Rattle.definitions.specs.Sendings.{Sending}
use Rattle.definitions.specs.Replicas.{MemorySupply, Replica, Reaction, step}
use Rattle.definitions.specs.Sessions.{Session, Submitted, is_ample, submission}
use Rattle.definitions.specs.Worlds.{World, Sent, Event, Event.submit, Happening, self_of, client_of}
use Rattle.definitions.specs.Worlds.{new_world}
use Rattle.definitions.specs.Runs.{refusal, run}
use Rattle.definitions.specs.Events.{Effect, nothing, stepped, out_of, told, submitted, party_of, effect}
use Rattle.definitions.specs.Events.{happens}
use Rattle.definitions.specs.Premises.{IsReadIn, AllRead}
use Rattle.definitions.proofs.Lists.{Among-either, Among-map}
use Rattle.definitions.proofs.Sound.{Outcome, Outcome.unchanged, Outcome.refused, Outcome.lacks}
use Rattle.definitions.proofs.Sound.{Outcome.conflict, Outcome.stood, Outcome.cut, Keeps, IsCheckedInput}
use Rattle.definitions.proofs.Sound.{ruling-sound, step-outcome}
use Rattle.linear_law.proofs.Effects.{is_member, Arises, Effects, Effects.idle, Effects.step_by}
use Rattle.linear_law.proofs.Effects.{Effects.hearing, Effects.submitting, effects, named}
use Rattle.linear_law.proofs.Runs.{arises-checked}
use Rattle.linear_law.proofs.Rows.{taken-known, step-known}
use Rattle.linear_law.proofs.StoredFrames.{IsStored, AreStored, IsStoredRuling, arises-read, ruling-stored}
use Rattle.linear_law.proofs.MadeCertificates.{qc_high-is}
use Rattle.linear_law.proofs.Leaves.{leaf-low, child-is, child-core}
use Rattle.linear_law.proofs.SentFrames.{IsFitProposal, sends-fit}
use Rattle.linear_law.proofs.Sends.{sends}
use Rattle.linear_law.proofs.FitAnswers.{answers-fit}
use Rattle.linear_law.proofs.Accounts.{put-session, on_reply-used, next-fits}
use Rattle.linear_law.proofs.FramedRuns.{AsksRightly, step-asks, lacks-fit, payload-short, submission-fits}
use Rattle.linear_law.proofs.FramedRuns.{requested, put-both}
use Rattle.linear_law.proofs.Linear.{run-step}
use Rattle.definitions.proofs.Sound.{only-genesis, first-sound}
use Rattle.linear_law.proofs.WholeRuns.{comes-framed}
use Rattle.linear_law.specs.Law.{SentAreFrames, HaveOwnKeys, AnySentFramesAreFrames}

-- ---- one replica

-- what is known of a replica before the event of this number
pub record IsPlain (self : Identity) (now : ℕ) (c : Chronicle) : Type 0 where
  pub sound : IsSound self.sizes c
  pub stored_are : AreStored self c
  pub fit : (x : Branch) → Among x (tree c) → AllKnown (IsCore self.sizes) x
  pub short : length c < now
  pub proposal : (j : Justified) → proposed self c ≡ Some j → IsFitProposal self j

-- it stays so
later : (self : Identity) (now : ℕ) (c : Chronicle) → IsPlain self now c → IsPlain self (suc now) c
later self now c p = record {
  sound = p.sound;
  stored_are = p.stored_are;
  fit = p.fit;
  short = (let l = p.short in omega (arith, l));
  proposal = p.proposal;
}

-- the proposal after a step
proposal-now : (self : Identity) (now : ℕ) (st : Step) (c : Chronicle) → now ≤ 2 ^ 63 → IsPlain self now c
    → (j : Justified) → proposed self (st ∷ c) ≡ Some j → IsFitProposal self j
unfolding proposed
proposal-now self now (noted beat) c few p j e = by (child self c (leaf self c)) refl e
  where
    by : (o : Option Branch) → child self c (leaf self c) ≡ o
        → made_with o (qc_high self.sizes c).certificate (proposed self c) ≡ Some j
        → IsFitProposal self j
    by None i f = p.proposal j f
    by (Some b) i f =
        let is : record { block = b; certificate = (qc_high self.sizes c).certificate } ≡ j = cc in
        let l = leaf-low self c p.sound in
        let s = p.short in
        subst (IsFitProposal self) is (record {
          core_is =
              child-core self c b p.stored_are (omega (arith, l, s, few)) (child-is self c (leaf self c) b i);
          certificate_is = (qc_high-is self c p.stored_are).certificate_is;
          kept = (qc_high-is self c p.stored_are).kept;
        })
proposal-now self now (took_block a) c few p j e = p.proposal j e
proposal-now self now (noted n) c few p j e = p.proposal j e

-- the tree after a step
fit-now : (self : Identity) (st : Step) (c : Chronicle) → IsSound self.sizes (st ∷ c) → IsStored self st
    → ((x : Branch) → Among x (tree c) → AllKnown (IsCore self.sizes) x) → (x : Branch)
    → Among x (tree (st ∷ c)) → AllKnown (IsCore self.sizes) x
unfolding tree stored_blocks taken_blocks
fit-now self (took_block a) c so h fit x m =
    step-known (IsCore self.sizes) a c a.new refl
    (λ n. taken-known (IsCore self.sizes) self.sizes a c (so.lawful.0.1 n) fit
    (subst (IsCore self.sizes) (sym (h.stored n)) h.core_is))
    fit x m
fit-now self (noted n) c so h fit x m = fit x m

-- one step more
grown : (self : Identity) (now : ℕ) (st : Step) (c : Chronicle) → now ≤ 2 ^ 63 → IsPlain self now c
    → IsSound self.sizes (st ∷ c) → IsStored self st → IsPlain self (suc now) (st ∷ c)
grown self now st c few p so h = record {
  sound = so;
  stored_are = (h, p.stored_are);
  fit = fit-now self st c so h p.fit;
  short = (let l = p.short in omega (arith, l));
  proposal = proposal-now self now st c few p;
}

-- what an outcome leaves, and what it sends
record IsPlainAfter (self : Identity) (now : ℕ) (m : MemorySupply) (r : Replica × Reaction) : Type 0 where
  left : IsPlain self (suc now) r.0.chronicle
  out : (o : Sending) → Among o (out_of self m r.1) → IsWritten self.sizes o.1

-- each outcome leaves it so
after-plain :
    (self : Identity) (now : ℕ) (m : MemorySupply) (v : Ruling) (before : Replica) (r : Replica × Reaction)
    → now ≤ 2 ^ 63 → me self < replicas self.sizes
    → IsPlain self now before.chronicle → Keeps self before.chronicle v
    → IsStoredRuling self before.chronicle v → AsksRightly r.1
    → Outcome self before.chronicle v before r → IsPlainAfter self now m r
after-plain self now m v before r few number p kept h asks (unchanged n l) =
    record { left = later self now before.chronicle p; out = λ o k. absurd k }
after-plain self now m v before r few number p kept h asks (refused s n u l) =
    record { left = later self now before.chronicle p; out = λ o k. absurd k }
after-plain self now m v before r few number p kept h asks (lacks sender d u) =
    record {
      left = later self now before.chronicle p;
      out = λ o k. lacks-fit self m sender d o number asks k;
    }
after-plain self now m v before r few number p kept h asks (conflict st u e k) =
    record { left = later self now before.chronicle p; out = λ o k. absurd k }
after-plain self now m v before r few number p kept h asks (cut st n u e k) = record {
  left = grown self now st before.chronicle few p (subst (Keeps self before.chronicle) e kept)
      (subst (IsStoredRuling self before.chronicle) e h);
  out = λ o k. absurd k;
}
after-plain self now m v before r few number p kept h asks (stood st u e k) = record {
  left = next;
  out = λ o k. sends-fit self st before.chronicle o (record {
    stored = next.stored_are;
    number = number;
    before = answers-fit (IsCore self.sizes) self.sizes (λ c x. inr x) before.chronicle p.sound p.fit;
    now =
        answers-fit (IsCore self.sizes) self.sizes (λ c x. inr x) (st ∷ before.chronicle) next.sound next.fit;
    proposal = next.proposal;
  }) (sends self st before.chronicle o k);
}
  where
    next : IsPlain self (suc now) (st ∷ before.chronicle)
    next = grown self now st before.chronicle few p (subst (Keeps self before.chronicle) e kept)
        (subst (IsStoredRuling self before.chronicle) e h)

-- ---- a world

-- what is known of a world
pub record IsPlainWorld (w : World) : Type 0 where
  pub rings : HaveOwnKeys w
  pub each : (p : ℕ) → is_member w p ≡ true → IsPlain (self_of w p) w.now (w.replica p).chronicle
  pub room : (c : ℕ) → (w.session c).used < 2 ^ 64
  pub sent : SentAreFrames w

-- what an effect keeps
record IsPlainEffect (w : World) (f : Effect) : Type 0 where
  each : (p : ℕ) → is_member w p ≡ true → IsPlain (self_of w p) (suc w.now) (f.replica p).chronicle
  room : (c : ℕ) → (f.session c).used < 2 ^ 64
  out : (o : Sending) → Among o f.out → IsWritten w.sizes o.1

-- a correct replica's step
step-plain : (w : World) (e : Event) (m : MemorySupply) (i : Input) → w.now ≤ 2 ^ 63 → IsPlainWorld w
    → is_member w (party_of e) ≡ true → Arises w e i
    → IsPlainAfter (self_of w (party_of e)) w.now m
    (step (self_of w (party_of e)) m i (w.replica (party_of e)))
step-plain w e m i few p mp ar =
    let self : Identity = self_of w (party_of e) in
    let r : Replica = w.replica (party_of e) in
    let k : IsPlain self w.now r.chronicle = p.each (party_of e) mp in
    let ch : IsCheckedInput w.sizes i = arises-checked w e i ar in
    let h : IsStoredRuling self r.chronicle (ruling self i r.chronicle) =
    ruling-stored self i r.chronicle (arises-read w e i ar) (qc_high-is self r.chronicle k.stored_are) k.sound in
    let number : me self < replicas w.sizes =
    (let l =
    ltb-true (party_of e) (replicas w.sizes) (and_parts _ _ mp).0 in let n =
    p.rings (party_of e) mp in omega (arith, l, n)) in
    after-plain self w.now m (ruling self i r.chronicle) r (step self m i r) few number k
    (ruling-sound self i r.chronicle ch k.sound) h (step-asks self m i r h)
    (step-outcome self m i r ch k.sound)

-- it in the world
stepped-plain : (w : World) (p : ℕ) (m : MemorySupply) (r : Replica × Reaction) → IsPlainWorld w
    → IsPlainAfter (self_of w p) w.now m r → IsPlainEffect w (stepped w p m r)
unfolding stepped
stepped-plain w p m r a k = record {
  each = λ q mq. put-both (λ (x : Replica). IsPlain (self_of w q) (suc w.now) x.chronicle) p r.0 w.replica q
      (λ e. subst (λ (n : ℕ). IsPlain (self_of w n) (suc w.now) r.0.chronicle) (sym e) k.left)
      (later (self_of w q) w.now (w.replica q).chronicle (a.each q mq));
  room = a.room;
  out = k.out;
}

-- a submission leaves room for its number
submission-room : (w : World) (c : ℕ) (m : MemorySupply) (payload : Bytes) → (w.session c).used < 2 ^ 64
    → (submission (client_of w c) m payload (w.session c)).0.used < 2 ^ 64
unfolding submission
submission-room w c m payload room =
    let s : Session = w.session c in
    let P : Session × Submitted → Type 0 = λ x. x.0.used < 2 ^ 64 in
    cond_both s.waiting _ _ P (λ e. room) (λ e.
    cond_both (s.used == (2 ^ 64 - 1)) _ _ P (λ e. room) (λ last.
    cond_both (not (is_ample m)) _ _ P (λ e. room) (λ e. next-fits s.used last room)))

-- each effect keeps it
effect-plain : (w : World) (e : Event) (m : MemorySupply) (f : Effect) → w.now ≤ 2 ^ 63 → IsPlainWorld w
    → refusal w e ≡ None → Effects w e m f → IsPlainEffect w f
unfolding nothing told submitted
effect-plain w e m f few a ok (idle x h) =
    record {
      each = λ q mq. later (self_of w q) w.now (w.replica q).chronicle (a.each q mq);
      room = a.room;
      out = λ o k. absurd k;
    }
effect-plain w e m f few a ok (step_by i mp ar) =
    stepped-plain w (party_of e) m (step (self_of w (party_of e)) m i (w.replica (party_of e))) a
    (step-plain w e m i few a mp ar)
effect-plain w e m f few a ok (hearing g b ad r y pa) = record {
  each = λ q mq. later (self_of w q) w.now (w.replica q).chronicle (a.each q mq);
  room = λ j. put-session _ _ w.session (λ (s : Session). s.used < 2 ^ 64) j
      (λ k. subst (λ (n : ℕ). n < 2 ^ 64) (sym (on_reply-used (client_of w _) m g (w.session _)))
      (a.room _)) (a.room j);
  out = λ o k. absurd k;
}
effect-plain w e m f few a ok (submitting c payload i y) = record {
  each = λ q mq. later (self_of w q) w.now (w.replica q).chronicle (a.each q mq);
  room = λ j. put-session c _ w.session (λ (s : Session). s.used < 2 ^ 64) j
      (λ k. submission-room w c m payload (a.room c)) (a.room j);
  out = λ o k.
      let ok' : refusal w (submit c payload) ≡ None = subst (λ (x : Event). refusal w x ≡ None) i ok in
      submission-fits (client_of w c) m payload (w.session c) o
      (ltb-true c w.sizes.clients (named w (submit c payload) ok')) (a.room c)
      (payload-short payload (requested w c payload ok')) k;
}

-- each event keeps it
happens-plain : (w : World) (e : Event) (m : MemorySupply) → w.now ≤ 2 ^ 63 → IsPlainWorld w
    → IsReadIn w.sizes e
    → refusal w e ≡ None → IsPlainWorld (happens w (e, m))
unfolding happens
happens-plain w e m few a rd ok = record {
  rings = a.rings;
  each = k.each;
  room = k.room;
  sent = λ s j. elim (Among-either s w.sent _ j) [
    | inl x ↦ a.sent s x
    | inr x ↦
        (let r =
        Among-map sent (effect w (e, m)).out s x in
        subst (λ (y : Sent). IsWritten w.sizes y.frame) (sym r.2) (k.out r.0 r.1))
  ];
}
  where
    sent : Sending → Sent
    sent o = record { event = w.now; sender = party_of e; to = o.0; frame = o.1 }

    k : IsPlainEffect w (effect w (e, m))
    k = effect-plain w e m (effect w (e, m)) few a ok (effects w e m (comes-framed w e rd a.sent) ok)

-- ---- a run

-- a whole run
run-plain : (hs : List Happening) (w last : World) → w.now + length hs ≤ 2 ^ 63 → IsPlainWorld w
    → AllRead w.sizes hs → run w hs ≡ Ok last → IsPlainWorld last
unfolding run happens
run-plain [] w last few a rd e = let k : w ≡ last = cc in subst IsPlainWorld k a
run-plain (h ∷ hs) w last few a rd e =
    let r = run-step (refusal w h.0) (run (happens w h) hs) last e in
    run-plain hs (happens w h) last (omega (arith, few))
    (happens-plain w h.0 h.1 (omega (arith, few)) a rd.0 r.0) rd.1 r.1

-- the world at its start
new-plain : (sizes : Sizes) (is_faulty : ℕ → Bool) (ring : ℕ → Keyring)
    → HaveOwnKeys (new_world sizes is_faulty ring) → IsPlainWorld (new_world sizes is_faulty ring)
unfolding new_world leaf proposed tree stored_blocks taken_blocks
new-plain sizes is_faulty ring keys = record {
  rings = keys;
  each = λ p m. record {
    sound = first-sound sizes;
    stored_are = tt;
    fit = λ x k. subst (AllKnown (IsCore sizes)) (sym (only-genesis x k)) tt;
    short = omega arith;
    proposal = λ j e. absurd (none j e);
  };
  room = λ c. omega arith;
  sent = λ s m. absurd m;
}
  where
    none : (j : Justified) → None ≡ Some j → ⊥
    none j e = cc

-- the law
pub any-sent-are-frames : AnySentFramesAreFrames
unfolding new_world
any-sent-are-frames sizes is_faulty ring hs last few keys rd e =
    (run-plain hs (new_world sizes is_faulty ring) last (omega (arith, few))
    (new-plain sizes is_faulty ring keys) rd e).sent
