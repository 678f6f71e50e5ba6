-- What each event of a run keeps, and that no event is answered with a conflict.
use Rattle.definitions.proofs.Chronicles.{executed-decided, voted-grows, taken-grows}
use Rattle.ids.specs.declared.kind.Kind.TheVariants as kind
use Rattle.ids.specs.declared.fault.Fault.{Fault}
use Rattle.ids.specs.declared.fault.Fault.TheVariants as fault
use Rattle.std.proofs.Common.{ℕ, suc, ◌≡◌, ◌-◌, ◌≤◌, ◌&&◌, not, Bool, true, false, List, [], ◌∷◌, ◌++◌}
use Rattle.std.proofs.Common.{length, cond, refl, sym, ap, subst, ◌∙◌, inl, inr, map, Option, Some, None}
use Rattle.std.proofs.Common.{true≢false, ◌==◌, nat_lt, filter, ◌^◌}
use Rattle.std.proofs.lemmas.Bool.{and_parts, eq-eqb, cond_both, cond-true, not-true}
use Rattle.std.specs.List.{list_any}
use Rattle.definitions.proofs.Lists.{Among-either, Among-map, Among-filter}
use Rattle.definitions.proofs.Branches.{extends-from}
use Rattle.definitions.proofs.Sound.{Outcome, Outcome.unchanged, Outcome.refused, Outcome.lacks}
use Rattle.definitions.proofs.Sound.{Outcome.conflict, Outcome.stood, Outcome.cut, step-outcome, Keeps}
use Rattle.definitions.proofs.Sound.{ruling-sound, IsCheckedInput}
use Rattle.linear_law.proofs.Inputs.{Carries, SentBy, Evidence, Evidence.of_check, Evidence.of_take}
use Rattle.linear_law.proofs.Inputs.{Evidence.of_own, Evidence.of_senders, TookFrom, FromInput, AllStanding}
use Rattle.linear_law.proofs.Inputs.{ruling-from, all-among, IsCarried, check-carried, offer-carried}
use Rattle.linear_law.proofs.Inputs.{gathered-carried, check-checked, offer-checked, gathered-checked}
use Rattle.linear_law.proofs.Inputs.{check-alone, offer-alone, IsCopyBy, gathered-sent}
use Rattle.linear_law.proofs.HeldVotes.{AllVotes, IsHolding, AreHolding, IsBringing, all_votes-implied}
use Rattle.linear_law.proofs.HeldVotes.{holding-implied, bringing-implied, high-held, ruling-held, IsClaimed}
use Rattle.linear_law.proofs.HeldVotes.{votes-claimed, check-claimed, offer-bringing, gathered-bringing}
use Rattle.linear_law.proofs.StoredFrames.{AreStored}
use Rattle.linear_law.proofs.MadeCertificates.{qc_high-is}
use Rattle.linear_law.proofs.Sends.{Sends, Sends.its_vote, Sends.new_reply, Sends.old_reply, Sends.its_view}
use Rattle.linear_law.proofs.Sends.{Sends.its_block, Sends.its_proposal, sends}
use Rattle.linear_law.proofs.Rows.{IsRow, same-row, put_row, put_row-both, MayFollow, StepMayFollow}
use Rattle.linear_law.proofs.Rows.{row-grows}
use Rattle.linear_law.proofs.Effects.{is_member, ComesFramed, Arises, Arises.of_checked, Arises.of_offer}
use Rattle.linear_law.proofs.Effects.{Arises.of_gathered, Arises.of_timeout, Arises.of_beat}
use Rattle.linear_law.proofs.Effects.{Arises.of_prune, Arises.of_lead, Arises.of_ask, Brings, Effects}
use Rattle.linear_law.proofs.Effects.{Effects.idle}
use Rattle.linear_law.proofs.Effects.{Effects.step_by, Effects.hearing, Effects.submitting}
use Rattle.linear_law.proofs.Effects.{effects, not_conflict}
use Rattle.definitions.specs.Lists.{Among, count_below}
use Rattle.definitions.specs.Chronicles.{HasTaken}
use Rattle.definitions.specs.Digests.{core_of}
use Rattle.definitions.specs.States.{me}
use Rattle.definitions.specs.Frames.{Core, Vote, Certificate, Frame, genesis_core, reply_content}
use Rattle.definitions.specs.Frames.{block_content}
use Rattle.definitions.specs.FrameLimits.{IsFrame, IsWritten}
use Rattle.definitions.proofs.Spellings.{block_content-digest}
use Rattle.definitions.proofs.Certificates.{all-implied}
use Rattle.definitions.specs.Grounds.{own_counted}
use Rattle.definitions.specs.Branches.{Branch, just3, Conflict}
use Rattle.definitions.specs.Bytes.{Bytes}
use Rattle.ids.specs.Sizes.{replicas, quorum}
use Rattle.definitions.specs.Keyrings.{verify}
use Rattle.definitions.specs.Digests.{digest, digest_of, NoCollision}
use Rattle.definitions.specs.Chronicles.{Admitted, Step, Step.took_block, Step.noted, Chronicle, voted_blocks}
use Rattle.definitions.specs.Chronicles.{taken_blocks, decided, decided_by, decides, executed, IsSound}
use Rattle.definitions.specs.Checks.{Identity, Findings, vote_verifies, counted_voters}
use Rattle.definitions.specs.States.{view, qc_high}
use Rattle.definitions.specs.Rulings.{Input, Ruling, Ruling.due, conflicts, ruling}
use Rattle.definitions.specs.Sendings.{Sending, To, To.to_all, To.to_party, sendings, reply_to, vote_frame}
use Rattle.definitions.specs.Sendings.{block_frame, new_view_frame, proposal_frame, fetch_frame}
use Rattle.definitions.specs.Replicas.{MemorySupply, Replica, Reaction, Reaction.sends_out}
use Rattle.definitions.specs.Replicas.{Reaction.asks_for, step}
use Rattle.definitions.specs.Worlds.{World, Sent, Event, self_of, put}
use Rattle.definitions.specs.Runs.{refusal}
use Rattle.definitions.specs.Events.{Effect, nothing, stepped, out_of, answer_of, brought, party_of, effect}
use Rattle.definitions.specs.Events.{happens, told, submitted, heard_answer, submitted_out}
use Rattle.definitions.specs.Events.{submitted_answer}
use Rattle.definitions.specs.Premises.{Claim, own_claim, vote_claim, accepted_tags, IsTagOf, WasSent}
use Rattle.definitions.specs.Premises.{NoForgeryIn, CoreOf}
use Rattle.definitions.specs.Sessions.{is_ample, Client, Session, Heard, Heard.not_counted, Submitted}
use Rattle.definitions.specs.Sessions.{Submitted.not_sent, count_reply, on_reply, submission, request_frame}
use Rattle.definitions.specs.Tally.{Told, agrees}
use Rattle.agreement.proofs.Agreement as agreed
use Rattle.definitions.specs.Frames as frame

abbrev pub chronicles : World → ℕ → Chronicle
chronicles w i = (w.replica i).chronicle

-- what a replica's own frame says of its chronicle: it gave the vote, and took the block
pub record Stands (c : Chronicle) (f : Frame) : Type 0 where
  pub votes : (d : Bytes) (b : Vote) → f ≡ frame.vote d b
      → (x : Branch) × Among x (voted_blocks c) × (digest_of x ≡ d)
  pub blocks : (r : ℕ) (core : Core) (q : Certificate) (t : Bytes) → f ≡ frame.block r core q t
      → (x : Branch) × HasTaken x c × (core_of x ≡ core)

-- a vote that verifies for the replica, in a member's name, was given by it
abbrev pub IsGiven : (ℕ → Bool) → (ℕ → Chronicle) → Identity → Bytes → Vote → Type 0
IsGiven is_member row self d b =
    vote_verifies self d b ≡ true → is_member b.voter ≡ true → Stands (row b.voter) (frame.vote d b)

-- so is each that came to the replica of this number
abbrev pub AreGiven : World → (ℕ → Chronicle) → ℕ → Chronicle → Type 0
AreGiven w row p c = AreHolding (IsGiven (is_member w) row (self_of w p)) c

-- what is kept by each event
pub record IsRun (Known : Core → Type 0) (w : World) : Type 0 where
  pub row : IsRow Known w.sizes (is_member w) (chronicles w)
  pub stands : (s : Sent) → Among s w.sent → is_member w s.sender ≡ true
      → Stands (chronicles w s.sender) s.frame
  pub given : (p : ℕ) → is_member w p ≡ true → AreGiven w (chronicles w) p (chronicles w p)

-- what is assumed of a world's makeup and of an event
pub record IsMadeWell (w : World) : Type 0 where
  pub rings : (p : ℕ) → is_member w p ≡ true → (w.ring p).party ≡ p
  pub enough : quorum w.sizes ≤ count_below (replicas w.sizes) (is_member w)

pub record IsHonest (Known : Core → Type 0) (w : World) (e : Event) : Type 0 where
  pub framed : ComesFramed w e
  pub forgery : NoForgeryIn w e
  pub cores : (f : Frame) → Among f (brought w e) → (c : Core) → CoreOf c f → Known c
  pub written : (s : Sent) → Among s w.sent → IsWritten w.sizes s.frame
  pub stored : (p : ℕ) → is_member w p ≡ true → AreStored (self_of w p) (chronicles w p)

-- ---- a block's step may follow

vote-tag : (x : Claim) (s : Sent) (f : Frame) → x.label ≡ kind.Vote → IsTagOf x s f
    → (b : Vote) × (f ≡ frame.vote x.content b)
vote-tag x s (frame.request c) l h = absurd (let k = h.0 in cc)
vote-tag x s (frame.proposal w c q v) l h = absurd (let k = h.0 in cc)
vote-tag x s (frame.vote d b) l h = (b, ap (λ (e : Bytes). frame.vote e b) (sym h.1))
vote-tag x s (frame.new_view w r q v) l h = absurd (let k = h.0 in cc)
vote-tag x s (frame.reply r c q p t g) l h = absurd (let k = h.0 in cc)
vote-tag x s (frame.fetch r d t) l h = absurd (let k = h.0 in cc)
vote-tag x s (frame.block r c q t) l h = absurd (let k = h.0 in cc)

-- a frame whose own tag is this one is a block's
record IsBlockFrame (x : Claim) (f : Frame) : Type 0 where
  sender : ℕ
  core : Core
  certificate : Certificate
  tag : Bytes
  is : f ≡ frame.block sender core certificate tag
  content : x.content ≡ block_content sender core certificate

block-tag : (x : Claim) (s : Sent) (f : Frame) → x.label ≡ kind.Block → IsTagOf x s f → IsBlockFrame x f
block-tag x s (frame.request c) l h = absurd (let k = h.0 in cc)
block-tag x s (frame.proposal w c q v) l h = absurd (let k = h.0 in cc)
block-tag x s (frame.vote d b) l h = absurd (let k = h.0 in cc)
block-tag x s (frame.new_view w r q v) l h = absurd (let k = h.0 in cc)
block-tag x s (frame.reply r c q p t g) l h = absurd (let k = h.0 in cc)
block-tag x s (frame.fetch r d t) l h = absurd (let k = h.0 in cc)
block-tag x s (frame.block r c q t) l h =
    record { sender = r; core = c; certificate = q; tag = t; is = refl; content = h.1 }

pub member-faulty : (w : World) (p : ℕ) → is_member w p ≡ true → w.is_faulty p ≡ false
member-faulty w p m = not-true _ (and_parts _ _ m).1

pub arises-checked : (w : World) (e : Event) (i : Input) → Arises w e i → IsCheckedInput w.sizes i
arises-checked w e i (of_checked f j b g) = check-checked (self_of w (party_of e)) f j b.is_frame g
arises-checked w e i (of_offer f j b g u) = offer-checked (self_of w (party_of e)) f j b.is_frame g
arises-checked w e i (of_gathered j b g u) =
    gathered-checked (self_of w (party_of e)) (brought w e) j (λ f m. (b f m).is_frame) g
arises-checked w e i of_timeout = tt
arises-checked w e i of_beat = tt
arises-checked w e i (of_prune height) = tt
arises-checked w e i (of_lead d u) = tt
arises-checked w e i (of_ask r d h) = tt

-- the frame of an input that carries a block
pub record HasFrame (w : World) (e : Event) (core : Core) (q : Certificate) (g : Findings) : Type 0 where
  pub frame : Frame
  pub brings : Brings w e frame
  pub carried : IsCarried (self_of w (party_of e)) frame core q g

pub arises-carried : (w : World) (e : Event) (i : Input) (core : Core) (q : Certificate) (g : Findings)
    → Arises w e i → Carries i core q g → HasFrame w e core q g
arises-carried w e i core q g (of_checked f j b h) ca = record {
  frame = f;
  brings = b;
  carried = check-carried (self_of w (party_of e)) f j b.is_frame h core q g ca;
}
arises-carried w e i core q g (of_offer f j b h u) ca = record {
  frame = f;
  brings = b;
  carried = offer-carried (self_of w (party_of e)) f j b.is_frame h core q g ca;
}
arises-carried w e i core q g (of_gathered j b h u) ca =
    let r = gathered-carried (self_of w (party_of e)) (brought w e) j (λ f m. (b f m).is_frame) h in
    record { frame = r.0; brings = b r.0 r.1; carried = r.2 core q g ca }
arises-carried w e i core q g of_timeout ca = absurd ca
arises-carried w e i core q g of_beat ca = absurd ca
arises-carried w e i core q g (of_prune height) ca = absurd ca
arises-carried w e i core q g (of_lead d u) ca = absurd ca
arises-carried w e i core q g (of_ask r d h) ca = absurd ca

-- who sent the block that an input carries sent a frame that the event brings
arises-copy : (w : World) (e : Event) (i : Input) (core : Core) (q : Certificate) (g : Findings)
    (vs : List ℕ) → Arises w e i → Carries i core q g → SentBy i vs → (v : ℕ) → Among v vs
    → (f : Frame) × Brings w e f × IsCopyBy core v f
arises-copy w e i core q g vs (of_checked f j b h) ca by v m =
    absurd (check-alone (self_of w (party_of e)) f j vs h by)
arises-copy w e i core q g vs (of_offer f j b h u) ca by v m =
    absurd (offer-alone (self_of w (party_of e)) f j vs h by)
arises-copy w e i core q g vs (of_gathered j b h u) ca by v m =
    let r = gathered-sent (self_of w (party_of e)) (brought w e) j h core q g vs ca by v m in
    (r.0, b r.0 r.1, r.2)
arises-copy w e i core q g vs of_timeout ca by v m = absurd ca
arises-copy w e i core q g vs of_beat ca by v m = absurd ca
arises-copy w e i core q g vs (of_prune height) ca by v m = absurd ca
arises-copy w e i core q g vs (of_lead d u) ca by v m = absurd ca
arises-copy w e i core q g vs (of_ask r d h) ca by v m = absurd ca

-- a replica gave the votes that stand in its chronicle
voted-stands : (c : Chronicle) (d : Bytes) (b : Vote)
    → ((x : Branch) × Among x (voted_blocks c) × (digest_of x ≡ d)) → Stands c (frame.vote d b)
voted-stands c d b x = record {
  votes = λ e u h. (x.0, x.1, x.2 ∙ (let same : frame.vote d b ≡ frame.vote e u = h in cc));
  blocks = λ r core q t h. absurd (let same : frame.vote d b ≡ frame.block r core q t = h in cc);
}

-- the digest of a branch is that of its newest core
digest-core : (b : Branch) → digest_of b ≡ digest (core_of b)
unfolding digest_of core_of
digest-core [] = refl
digest-core (b ∷ parent) = refl

-- voters that are counted for a certificate gave their votes, where all of its votes were given
counted-given : (is_member : ℕ → Bool) (row : ℕ → Chronicle) (self : Identity) (q : Certificate)
    → AllVotes (IsGiven is_member row self) q → (v : ℕ) → Among v (counted_voters self q)
    → is_member v ≡ true → (x : Branch) × Among x (voted_blocks (row v)) × (digest_of x ≡ q.digest)
unfolding counted_voters
counted-given is_member row self q all v m mv =
    let r = Among-map (λ b. b.voter) (filter (vote_verifies self q.digest) q.votes) v m in
    let k = Among-filter (vote_verifies self q.digest) q.votes r.0 r.1 in
    let given : Stands (row r.0.voter) (frame.vote q.digest r.0) =
    all-among (IsGiven is_member row self q.digest) q.votes r.0 all k.0 k.1
    (sym (ap is_member r.2) ∙ mv) in
    let x = given.votes q.digest r.0 refl in
    (x.0, subst (λ (p : ℕ). Among x.0 (voted_blocks (row p))) (sym r.2) x.1, x.2)

module _ (Known : Core → Type 0) where
  -- a vote of a frame that comes was given
  claimed-given : (w : World) (e : Event) (f : Frame) → IsRun Known w → IsHonest Known w e
      → is_member w (party_of e) ≡ true → Brings w e f → (d : Bytes) (b : Vote)
      → IsClaimed (self_of w (party_of e)) f d b
      → IsGiven (is_member w) (chronicles w) (self_of w (party_of e)) d b
  claimed-given w e f run honest me br d b cl v mv =
      let x : Claim = vote_claim (self_of w (party_of e)) d b in
      let sent : WasSent w.sent x =
      honest.forgery f br.brings (member-faulty w (party_of e) me) br.admitted x (cl v)
      (member-faulty w b.voter mv) in
      let vote = vote-tag x sent.0 sent.0.frame refl sent.3 in
      let r = (run.stands sent.0 sent.1 (ap (is_member w) sent.2 ∙ mv)).votes d vote.0 vote.1 in
      voted-stands (chronicles w b.voter) d b
      (r.0, subst (λ (p : ℕ). Among r.0 (voted_blocks (chronicles w p))) sent.2 r.1, r.2)

  -- so is each of an input
  input-given : (w : World) (e : Event) (i : Input) → IsRun Known w → IsHonest Known w e
      → is_member w (party_of e) ≡ true → Arises w e i
      → IsBringing (IsGiven (is_member w) (chronicles w) (self_of w (party_of e))) i
  input-given w e i run honest me (of_checked f j b g) =
      bringing-implied (IsClaimed (self_of w (party_of e)) f) _ (claimed-given w e f run honest me b) j
      (check-claimed (self_of w (party_of e)) f j g)
  input-given w e i run honest me (of_offer f j b g u) = offer-bringing _ (self_of w (party_of e)) f j g
  input-given w e i run honest me (of_gathered j b g u) =
      gathered-bringing _ (self_of w (party_of e)) (brought w e) j g
  input-given w e i run honest me of_timeout = tt
  input-given w e i run honest me of_beat = tt
  input-given w e i run honest me (of_prune height) = tt
  input-given w e i run honest me (of_lead d u) = tt
  input-given w e i run honest me (of_ask r d h) = tt

  -- a member that sent a copy of the block took one of its digest
  copy-taken : (w : World) (e : Event) (core : Core) (v : ℕ) (f : Frame) → IsRun Known w
      → IsHonest Known w e → is_member w (party_of e) ≡ true → Brings w e f → IsCopyBy core v f
      → is_member w v ≡ true
      → (x : Branch) × HasTaken x (chronicles w v) × (digest_of x ≡ digest core)
  unfolding accepted_tags
  copy-taken w e core v f run honest me br copy mv =
      let self : Identity = self_of w (party_of e) in
      let g : Frame = frame.block v copy.core_of_copy copy.certificate copy.tag in
      let b : Brings w e g = subst (Brings w e) copy.is br in
      let x : Claim = own_claim self g in
      let sent : WasSent w.sent x =
      honest.forgery g b.brings (member-faulty w (party_of e) me) b.admitted x (inl refl)
      (member-faulty w v mv) in
      let s : IsBlockFrame x sent.0.frame = block-tag x sent.0 sent.0.frame refl sent.3 in
      let fr : IsFrame w.sizes (frame.block s.sender s.core s.certificate s.tag) =
      subst (IsFrame w.sizes) s.is (honest.written sent.0 sent.1).0 in
      let same : digest copy.core_of_copy ≡ digest s.core =
      block_content-digest w.sizes v s.sender copy.core_of_copy s.core copy.certificate s.certificate
      b.is_frame.1 fr.1 s.content in
      let t = (run.stands sent.0 sent.1 (ap (is_member w) sent.2 ∙ mv)).blocks s.sender s.core s.certificate
      s.tag s.is in (
        t.0,
        subst (λ (p : ℕ). HasTaken t.0 (chronicles w p)) sent.2 t.1,
        digest-core t.0 ∙ (ap digest t.2 ∙ (sym same ∙ copy.same)),
      )

  -- what a member takes may follow, whatever its evidence
  evidence-follows : (w : World) (e : Event) (i : Input) → IsRun Known w → IsHonest Known w e
      → is_member w (party_of e) ≡ true → Arises w e i → (core : Core) (q : Certificate) (g : Findings)
      (a : Admitted)
      → Carries i core q g → HasFrame w e core q g
      → TookFrom (self_of w (party_of e)) (chronicles w (party_of e)) i core q g a
      → Evidence (self_of w (party_of e)) (chronicles w (party_of e)) i core g a
      → MayFollow Known (is_member w) (chronicles w) a
  unfolding own_counted
  evidence-follows w e i run honest me ar core q g a ca b t (of_check k n) =
      let self : Identity = self_of w (party_of e) in
      record {
        known = λ n. subst Known (sym (t.core_is n))
            (honest.cores b.frame b.brings.brings core b.carried.from);
        votes = λ v m mv.
            let r = counted-given (is_member w) (chronicles w) self q
            (all-from-claims w e b run honest me)
            v (subst (Among v) (k ∙ b.carried.counted) m) mv in
            (r.0, r.1, r.2 ∙ t.justified);
        sent = λ v m mv. absurd (subst (Among v) n m);
      }
    where
      all-from-claims : (w : World) (e : Event) (b : HasFrame w e core q g) → IsRun Known w
          → IsHonest Known w e → is_member w (party_of e) ≡ true
          → AllVotes (IsGiven (is_member w) (chronicles w) (self_of w (party_of e))) q
      all-from-claims w e b run honest me =
          all_votes-implied (IsClaimed (self_of w (party_of e)) b.frame) _
          (claimed-given w e b.frame run honest me b.brings) q
          (votes-claimed (self_of w (party_of e)) b.frame q (λ u m. b.carried.votes _ m))
  evidence-follows w e i run honest me ar core q g a ca b t (of_take k n) = record {
    known = λ n. subst Known (sym (t.core_is n))
        (honest.cores b.frame b.brings.brings core b.carried.from);
    votes = λ v m mv. absurd (subst (Among v) k m);
    sent = λ v m mv. absurd (subst (Among v) n m);
  }
  evidence-follows w e i run honest me ar core q g a ca b t (of_own k n j) =
      let self : Identity = self_of w (party_of e) in
      let c : Chronicle = chronicles w (party_of e) in
      record {
        known = λ n. subst Known (sym (t.core_is n))
            (honest.cores b.frame b.brings.brings core b.carried.from);
        votes = λ v m mv.
            let r = counted-given (is_member w) (chronicles w) self (qc_high w.sizes c).certificate
            (high-held (IsGiven (is_member w) (chronicles w) self) w.sizes c (run.given (party_of e) me)) v
            (subst (Among v) k m) mv in
            let high = (qc_high-is self c (honest.stored (party_of e) me)).justified in
            (r.0, r.1, r.2 ∙ (high ∙ ap digest_of j));
        sent = λ v m mv. absurd (subst (Among v) n m);
      }
  evidence-follows w e i run honest me ar core q g a ca b t (of_senders vs by k n is) = record {
    known = λ n. subst Known (sym (t.core_is n))
        (honest.cores b.frame b.brings.brings core b.carried.from);
    votes = λ v m mv. absurd (subst (Among v) k m);
    sent = λ v m mv.
        let c = arises-copy w e i core q g vs ar ca by v (subst (Among v) n m) in
        let r = copy-taken w e core v c.0 run honest me c.1 c.2 mv in
        (r.0, r.1, r.2 ∙ (ap digest (sym is) ∙ sym (digest-core a.branch)));
  }

  may-follow : (w : World) (e : Event) (i : Input) → IsRun Known w → IsHonest Known w e
      → is_member w (party_of e) ≡ true → Arises w e i → (st : Step)
      → FromInput (self_of w (party_of e)) (chronicles w (party_of e)) i st
      → StepMayFollow Known (is_member w) (chronicles w) st
  may-follow w e i run honest me ar (took_block a) f =
      evidence-follows w e i run honest me ar f.0 f.1 f.2 a f.3
      (arises-carried w e i f.0 f.1 f.2 ar f.3) f.4 f.4.evidence
  may-follow w e i run honest me ar (noted n) f = tt

-- ---- votes and blocks that go out stand in the chronicle

abbrev FrameStands : Chronicle → Sending → Type 0
FrameStands c o = Stands c o.1

-- a frame that is no vote and no block says nothing
other-stands : (c : Chronicle) (f : Frame) → ((d : Bytes) (b : Vote) → f ≡ frame.vote d b → ⊥)
    → ((r : ℕ) (core : Core) (q : Certificate) (t : Bytes) → f ≡ frame.block r core q t → ⊥) → Stands c f
other-stands c f no_vote no_block =
    record { votes = λ d b h. absurd (no_vote d b h); blocks = λ r core q t h. absurd (no_block r core q t h) }

one-stands : (c : Chronicle) (to : To) (f : Frame) → Stands c f → (o : Sending) → Among o ((to, f) ∷ [])
    → FrameStands c o
one-stands c to f st o (inl i) = subst (FrameStands c) (sym i) st
one-stands c to f st o (inr m) = absurd m

nothing-stands : (c : Chronicle) (o : Sending) → Among o [] → FrameStands c o
nothing-stands c o m = absurd m

-- what stands still does after a step more
stands-grows : (st : Step) (c : Chronicle) (f : Frame) → Stands c f → Stands (st ∷ c) f
stands-grows st c f h = record {
  votes = λ d b e. (let r = h.votes d b e in (r.0, voted-grows st c r.0 r.1, r.2));
  blocks = λ r core q t e. (let x = h.blocks r core q t e in
      (x.0, (x.1.0, taken-grows st c x.1.0 x.1.1, x.1.2), x.2));
}

sends-stand : (self : Identity) (st : Step) (c : Chronicle) (o : Sending) → Sends self st c o
    → FrameStands (st ∷ c) o
unfolding vote_frame reply_to new_view_frame block_frame proposal_frame voted_blocks
sends-stand self st c o (its_vote a e v to) = record {
  votes = λ d b h.
      let same : frame.vote (digest_of a.branch) _ ≡ frame.vote d b = h in
      let own : Among a.branch (voted_blocks (took_block a ∷ c)) =
      subst (Among a.branch) (sym (cond-true a.voted (a.branch ∷ voted_blocks c) (voted_blocks c) v))
      (inl refl) in (
        a.branch,
        subst (λ (x : Step). Among a.branch (voted_blocks (x ∷ c))) (sym e) own,
        (let k : digest_of a.branch ≡ d = cc in k),
      );
  blocks = λ r core q t h. absurd (let k : vote_frame self a.branch ≡ frame.block r core q t = h in cc);
}
sends-stand self st c o (new_reply a m) =
    other-stands (st ∷ c) (reply_to self a).1
    (λ d b h. let k : (reply_to self a).1 ≡ frame.vote d b = h in cc)
    (λ r core q t h. let k : (reply_to self a).1 ≡ frame.block r core q t = h in cc)
sends-stand self st c o (old_reply a m) =
    other-stands (st ∷ c) (reply_to self a).1
    (λ d b h. let k : (reply_to self a).1 ≡ frame.vote d b = h in cc)
    (λ r core q t h. let k : (reply_to self a).1 ≡ frame.block r core q t = h in cc)
sends-stand self st c o its_view =
    other-stands (st ∷ c) (new_view_frame self (st ∷ c))
    (λ d b h. let k : new_view_frame self (st ∷ c) ≡ frame.vote d b = h in cc)
    (λ r core q t h. let k : new_view_frame self (st ∷ c) ≡ frame.block r core q t = h in cc)
sends-stand self st c o (its_block to a m) = record {
  votes = λ d b h. absurd (let k : block_frame self to a ≡ frame.vote d b = h in cc);
  blocks = λ r core q t h.
      let same : frame.block (me self) (core_of a.branch) _ _ ≡ frame.block r core q t = h in
      (a.branch, (a, taken-grows st c a m, refl), (let k : core_of a.branch ≡ core = cc in k));
}
sends-stand self st c o (its_proposal j l e) =
    other-stands (st ∷ c) (proposal_frame self (view self.sizes c) j)
    (λ d b h. let k : proposal_frame self (view self.sizes c) j ≡ frame.vote d b = h in cc)
    (λ r core q t h. let k : proposal_frame self (view self.sizes c) j ≡ frame.block r core q t = h in cc)

-- ---- two decisions of one chronicle do not conflict, so none is refused

-- what is decided once stays so
decided-step : (a : Admitted) (as_before : List Admitted) (x : Branch) (t : Bool)
    → Among x (decided_by as_before ++ [] ∷ [])
    → Among x (cond t (just3 a.branch ∷ decided_by as_before) (decided_by as_before) ++ [] ∷ [])
decided-step a before x true m = inr m
decided-step a before x false m = m

decided-taken : (a : Admitted) (before : List Admitted) (x : Branch) (t : Bool)
    → Among x (decided_by before ++ [] ∷ []) → Among x (decided_by (cond t (a ∷ before) before) ++ [] ∷ [])
unfolding decided_by
decided-taken a before x true m = decided-step a before x (decides a.branch) m
decided-taken a before x false m = m

decided-now : (a : Admitted) (before : List Admitted) (t : Bool) → t ≡ true → decides a.branch ≡ true
    → Among (just3 a.branch) (decided_by (cond t (a ∷ before) before) ++ [] ∷ [])
unfolding decided_by
decided-now a before true e d =
    subst (λ (l : List Branch). Among (just3 a.branch) (l ++ [] ∷ [])) (sym (cond-true _ _ _ d)) (inl refl)
decided-now a before false e d = absurd (true≢false (sym e))

-- a step that conflicts decides a block that conflicts with the last executed one
conflict-decides : (st : Step) (c : Chronicle) → conflicts st c ≡ true
    → (b : Branch) × Among b (decided (st ∷ c)) × Among (executed c) (decided (st ∷ c))
    × Conflict b (executed c)
unfolding conflicts decided taken_blocks
conflict-decides (took_block a) c h =
    let p = and_parts _ _ h in
    let q = and_parts _ _ p.1 in
    let r = and_parts _ _ q.1 in (
      just3 a.branch,
      decided-now a (taken_blocks c) a.new p.0 q.0,
      decided-taken a (taken_blocks c) (executed c) a.new (executed-decided c),
      (
        λ e. true≢false (sym (extends-from _ _ e) ∙ not-true _ r.0),
        λ e. true≢false (sym (extends-from _ _ e) ∙ not-true _ r.1),
      ),
    )
conflict-decides (noted n) c h = absurd (true≢false (sym h))

-- a row in which each member's chronicle is lawful and in order has no conflict
pub row-agrees : (Known : Core → Type 0) (w : World) (row : ℕ → Chronicle) → IsMadeWell w
    → IsRow Known w.sizes (is_member w) row → (i j : ℕ) (a b : Branch) → is_member w i ≡ true
    → is_member w j ≡ true → Among a (decided (row i)) → Among b (decided (row j)) → Conflict a b → ⊥
row-agrees Known w row made r i j a b mi mj da db k =
    agreed.no-conflict (record { sizes = w.sizes; is_member = is_member w; chronicle = row }) a b
    (record { enough = made.enough; lawful = λ p m. (r.sound p m).lawful; orderly = r.orderly }) (i, mi, da)
    (j, mj, db) k

put_row-own : (p : ℕ) (c : Chronicle) (row : ℕ → Chronicle) → put_row p c row p ≡ c
put_row-own p c row = cond-true _ _ _ (eq-eqb p p refl)

no-conflict : (Known : Core → Type 0) (w : World) → IsMadeWell w → (p : ℕ) (st : Step)
    → is_member w p ≡ true
    → IsRow Known w.sizes (is_member w) (put_row p (st ∷ chronicles w p) (chronicles w))
    → conflicts st (chronicles w p) ≡ true → ⊥
no-conflict Known w made p st m r h =
    let k = conflict-decides st (chronicles w p) h in
    let own = put_row-own p (st ∷ chronicles w p) (chronicles w) in
    row-agrees Known w _ made r p p k.0 (executed (chronicles w p)) m m
    (subst (λ (c : Chronicle). Among k.0 (decided c)) (sym own) k.1)
    (subst (λ (c : Chronicle). Among (executed (chronicles w p)) (decided c)) (sym own) k.2) k.3

-- ---- one step of a member

pub put-chronicle : (p : ℕ) (r : Replica) (row : ℕ → Replica) (i : ℕ)
    → put_row p r.chronicle (λ j. (row j).chronicle) i ≡ (put p r row i).chronicle
put-chronicle p r row i = by (i == p)
  where
    by : (t : Bool) → cond t r.chronicle (row i).chronicle ≡ (cond t r (row i)).chronicle
    by true = refl
    by false = refl

put_row-same : (p : ℕ) (c : Chronicle) (row : ℕ → Chronicle) → c ≡ row p → (i : ℕ) → row i ≡ put_row p c row i
put_row-same p c row e i = put_row-both (λ (x : Chronicle). row i ≡ x) p c row i (λ k. ap row k ∙ sym e) refl

-- what a member's step leaves
pub record IsAfter (Known : Core → Type 0) (w : World) (p : ℕ) (m : MemorySupply) (r : Replica × Reaction) :
    Type 0 where
  pub row : IsRow Known w.sizes (is_member w) (λ i. (put p r.0 w.replica i).chronicle)
  pub grows : (f : Frame) → Stands (chronicles w p) f → Stands r.0.chronicle f
  pub out : (o : Sending) → Among o (out_of (self_of w p) m r.1) → FrameStands r.0.chronicle o
  pub given : AreGiven w (chronicles w) p r.0.chronicle
  pub mild : answer_of r.1 ≡ Some fault.Conflict → ⊥

-- the row where the chronicle is as before, or has one step more
row-kept : (Known : Core → Type 0) (w : World) (p : ℕ) (r : Replica)
    → IsRow Known w.sizes (is_member w) (chronicles w) → r.chronicle ≡ chronicles w p
    → IsRow Known w.sizes (is_member w) (λ i. (put p r w.replica i).chronicle)
row-kept Known w p r row e =
    same-row Known w.sizes (is_member w) (chronicles w) _
    (λ i. put_row-same p r.chronicle (chronicles w) e i ∙ put-chronicle p r w.replica i) row

row-more : (Known : Core → Type 0) (w : World) (p : ℕ) (r : Replica)
    → IsRow Known w.sizes (is_member w) (put_row p r.chronicle (chronicles w))
    → IsRow Known w.sizes (is_member w) (λ i. (put p r w.replica i).chronicle)
row-more Known w p r row = same-row Known w.sizes (is_member w) (put_row p r.chronicle (chronicles w)) _
    (λ i. put-chronicle p r w.replica i) row

fetch-stands : (self : Identity) (sender : ℕ) (d : Bytes) (c : Chronicle) (o : Sending)
    → Among o ((to_party sender, fetch_frame self sender d) ∷ []) → FrameStands c o
unfolding fetch_frame
fetch-stands self sender d c o m =
    one-stands c (to_party sender) (fetch_frame self sender d)
    (other-stands c (fetch_frame self sender d) (λ e b h. cc) (λ r core q t h. cc)) o m

lacks-stand : (self : Identity) (m : MemorySupply) (sender : ℕ) (d : Bytes) (c : Chronicle) (o : Sending)
    → Among o (out_of self m (asks_for sender d)) → FrameStands c o
lacks-stand self m sender d c o =
    cond_both (is_ample m && not (sender == self.ring.party))
    ((to_party sender, fetch_frame self sender d) ∷ []) []
    (λ (l : List Sending). Among o l → FrameStands c o) (λ e k. fetch-stands self sender d c o k)
    (λ e k. nothing-stands c o k)

code : Fault → Option Fault
code n = Some n

done-mild : (out : List Sending) → answer_of (sends_out out) ≡ code fault.Conflict → ⊥
unfolding code
done-mild out e = cc

module _ (Known : Core → Type 0) (apart : NoCollision Known) (genesis : Known genesis_core)
    (ground : genesis_core.height ≡ 0) where
  -- all that a member's step may leave
  after-step : (w : World) (p : ℕ) (m : MemorySupply) (v : Ruling) (r : Replica × Reaction) → IsMadeWell w
      → IsRow Known w.sizes (is_member w) (chronicles w) → is_member w p ≡ true
      → ((st : Step) → v ≡ due st
      → IsRow Known w.sizes (is_member w) (put_row p (st ∷ chronicles w p) (chronicles w)))
      → AreGiven w (chronicles w) p (chronicles w p)
      → ((st : Step) → v ≡ due st → IsHolding (IsGiven (is_member w) (chronicles w) (self_of w p)) st) →
      Outcome (self_of w p) (chronicles w p) v (w.replica p) r → IsAfter Known w p m r
  unfolding code
  after-step w p m v r made row me more old now (unchanged n l) =
      record {
        row = row-kept Known w p (w.replica p) row refl;
        grows = λ f k. k;
        out = λ o k. nothing-stands _ o k;
        given = old;
        mild = not_conflict n l;
      }
  after-step w p m v r made row me more old now (refused s n u l) =
      record {
        row = row-kept Known w p _ row refl;
        grows = λ f k. k;
        out = λ o k. nothing-stands _ o k;
        given = old;
        mild = not_conflict n l;
      }
  after-step w p m v r made row me more old now (lacks sender d u) =
      record {
        row = row-kept Known w p _ row refl;
        grows = λ f k. k;
        out = λ o k. lacks-stand (self_of w p) m sender d _ o k;
        given = old;
        mild = not_conflict fault.UnknownParent (λ k. cc);
      }
  after-step w p m v r made row me more old now (conflict st u e h) =
      absurd (no-conflict Known w made p st me (more st e) h)
  after-step w p m v r made row me more old now (stood st u e h) =
      record {
        row = row-more Known w p _ (more st e);
        grows = λ f k. stands-grows st _ f k;
        out = λ o k. sends-stand (self_of w p) st _ o (sends (self_of w p) st _ o k);
        given = (now st e, old);
        mild = done-mild (sendings (self_of w p) st (chronicles w p));
      }
  after-step w p m v r made row me more old now (cut st n u e h) =
      record {
        row = row-more Known w p _ (more st e);
        grows = λ f k. stands-grows st _ f k;
        out = λ o k. nothing-stands _ o k;
        given = (now st e, old);
        mild = not_conflict fault.Memory (λ k. cc);
      }

  -- a member's step keeps the row
  pub step-keeps : (w : World) (e : Event) (m : MemorySupply) (i : Input) → IsRun Known w → IsMadeWell w
      → IsHonest Known w e → is_member w (party_of e) ≡ true → Arises w e i
      → IsAfter Known w (party_of e) m (step (self_of w (party_of e)) m i (w.replica (party_of e)))
  step-keeps w e m i run made honest me ar =
      let self : Identity = self_of w (party_of e) in
      let so : IsSound w.sizes (chronicles w (party_of e)) = run.row.sound (party_of e) me in
      let ch : IsCheckedInput w.sizes i = arises-checked w e i ar in
      after-step w (party_of e) m (ruling self i (chronicles w (party_of e))) _ made run.row me
      (λ st v. row-grows Known apart genesis ground w.sizes (is_member w) (chronicles w) run.row
      (party_of e) me st
      (subst (Keeps self (chronicles w (party_of e))) v
      (ruling-sound self i (chronicles w (party_of e)) ch so))
      (may-follow Known w e i run honest me ar st
      (subst (AllStanding (FromInput self (chronicles w (party_of e)) i)) v
      (ruling-from self i (chronicles w (party_of e))))))
      (run.given (party_of e) me)
      (λ st v. subst (AllStanding (IsHolding (IsGiven (is_member w) (chronicles w) self))) v
      (ruling-held (IsGiven (is_member w) (chronicles w) self) self i (chronicles w (party_of e))
      (run.given (party_of e) me) (input-given Known w e i run honest me ar)))
      (step-outcome self m i (w.replica (party_of e)) ch so)

-- what an effect keeps
pub record IsKept (Known : Core → Type 0) (w : World) (e : Event) (f : Effect) : Type 0 where
  pub row : IsRow Known w.sizes (is_member w) (λ i. (f.replica i).chronicle)
  pub grows : (i : ℕ) (g : Frame) → Stands (chronicles w i) g → Stands (f.replica i).chronicle g
  pub out : (o : Sending) → Among o f.out → is_member w (party_of e) ≡ true
      → FrameStands (f.replica (party_of e)).chronicle o
  pub given : (p : ℕ) → is_member w p ≡ true → AreGiven w (chronicles w) p (f.replica p).chronicle
  pub mild : f.answer ≡ Some fault.Conflict → ⊥

step-kept : (Known : Core → Type 0) (w : World) (e : Event) (m : MemorySupply) (r : Replica × Reaction)
    → IsRun Known w → IsAfter Known w (party_of e) m r → IsKept Known w e (stepped w (party_of e) m r)
unfolding stepped
step-kept Known w e m r run a = record {
  given = λ p mp. subst (AreGiven w (chronicles w) p) (put-chronicle (party_of e) r.0 w.replica p)
      (put_row-both (AreGiven w (chronicles w) p) (party_of e) r.0.chronicle (chronicles w) p
      (λ j. subst (λ (n : ℕ). AreGiven w (chronicles w) n r.0.chronicle) (sym j) a.given)
      (run.given p mp));
  row = a.row;
  grows = λ i g k. subst (λ (c : Chronicle). Stands c g) (put-chronicle (party_of e) r.0 w.replica i)
      (put_row-both (λ (c : Chronicle). Stands c g) (party_of e) r.0.chronicle (chronicles w) i
      (λ j. a.grows g (subst (λ (n : ℕ). Stands (chronicles w n) g) j k)) k);
  out = λ o k me. subst (λ (c : Chronicle). FrameStands c o)
      (sym (put_row-own (party_of e) r.0.chronicle (chronicles w))
      ∙ put-chronicle (party_of e) r.0 w.replica (party_of e)) (a.out o k);
  mild = a.mild;
}

-- a session is not answered with a conflict
heard-mild : (x : Session × Heard) → Type 0
heard-mild x = heard_answer x.1 ≡ code fault.Conflict → ⊥

told-mild : (n : Fault) → (n ≡ fault.Conflict → ⊥) → (s : Session) → heard-mild (s, not_counted n)
unfolding code heard-mild
told-mild n l s = not_conflict n l

none-mild : (o : Option Fault) → o ≡ None → o ≡ code fault.Conflict → ⊥
unfolding code
none-mild o e k = cc

count-mild : (me : Client) (t : Told) (s : Session) → heard-mild (count_reply me t s)
unfolding heard-mild count_reply code
count-mild me t s = cond_both
    (nat_lt me.sizes.faults (length (filter (agrees t.place t.text) (t ∷ s.tally)))) _ _
    (λ (x : Session × Heard). heard_answer x.1 ≡ code fault.Conflict → ⊥) (λ e. none-mild None refl)
    (λ e. none-mild None refl)

reply-mild : (me : Client) (m : MemorySupply) (f : Frame) (s : Session) → heard-mild (on_reply me m f s)
unfolding on_reply
reply-mild me m (frame.reply replica client seq place text t) s =
    cond_both (not (client == me.number)) _ _ heard-mild (λ e. told-mild fault.NotMine (λ k. cc) s) (λ e.
    cond_both (not (verify me.ring kind.Reply replica (reply_content replica client seq place text) t)) _ _
    heard-mild (λ e. told-mild fault.BadTag (λ k. cc) s) (λ e.
    cond_both (not (s.waiting && (seq == s.used))) _ _ heard-mild
    (λ e. told-mild fault.WrongSeq (λ k. cc) s) (λ e.
    cond_both (list_any (λ x. x.replica == replica) s.tally) _ _ heard-mild
    (λ e. told-mild fault.Doubled (λ k. cc) s) (λ e.
    cond_both (not (is_ample m)) _ _ heard-mild (λ e. told-mild fault.Memory (λ k. cc) s)
    (λ e. count-mild me _ s)))))
reply-mild me m (frame.request c) s = told-mild fault.NotMine (λ k. cc) s
reply-mild me m (frame.proposal v c q t) s = told-mild fault.NotMine (λ k. cc) s
reply-mild me m (frame.vote d b) s = told-mild fault.NotMine (λ k. cc) s
reply-mild me m (frame.new_view v r q t) s = told-mild fault.NotMine (λ k. cc) s
reply-mild me m (frame.fetch r d t) s = told-mild fault.NotMine (λ k. cc) s
reply-mild me m (frame.block r c q t) s = told-mild fault.NotMine (λ k. cc) s

hearing-kept : (Known : Core → Type 0) (w : World) (e : Event) (c : ℕ) (x : Session × Heard) → IsRun Known w
    → heard-mild x → IsKept Known w e (told w c x)
unfolding told heard-mild code
hearing-kept Known w e c x run h =
    record { row = run.row; grows = λ i y k. k; out = λ o k. absurd k; given = run.given; mild = h }

idle-kept : (Known : Core → Type 0) (w : World) (e : Event) (a : Option Fault) → IsRun Known w
    → (a ≡ Some fault.Conflict → ⊥) → IsKept Known w e (nothing w a)
unfolding nothing
idle-kept Known w e a run h = record { row = run.row; grows = λ i y k. k; out = λ o k. absurd k; given = run.given; mild = h }

-- a submission sends a request alone
record IsSubmission (x : Session × Submitted) : Type 0 where
  out : (c : Chronicle) (o : Sending) → Among o (submitted_out x.1) → FrameStands c o
  mild : submitted_answer x.1 ≡ code fault.Conflict → ⊥

not_sent-is : (n : Fault) → (n ≡ fault.Conflict → ⊥) → (s : Session) → IsSubmission (s, not_sent n)
unfolding code
not_sent-is n l s = record { out = λ c o k. absurd k; mild = not_conflict n l }

submission-is : (me : Client) (m : MemorySupply) (payload : Bytes) (s : Session)
    → IsSubmission (submission me m payload s)
unfolding submission request_frame code
submission-is me m payload s =
    cond_both s.waiting _ _ IsSubmission (λ e. not_sent-is fault.Busy (λ k. cc) s) (λ e.
    cond_both (s.used == (2 ^ 64 - 1)) _ _ IsSubmission (λ e. not_sent-is fault.Spent (λ k. cc) s) (λ e.
    cond_both (not (is_ample m)) _ _ IsSubmission (λ e. not_sent-is fault.Memory (λ k. cc) s) (λ e.
    record {
      out = λ c o k. one-stands c to_all (request_frame me (suc s.used) payload)
          (other-stands c (request_frame me (suc s.used) payload) (λ d b h. cc) (λ r core q t h. cc)) o k;
      mild = none-mild None refl;
    })))

submitting-kept : (Known : Core → Type 0) (w : World) (e : Event) (c : ℕ) (x : Session × Submitted)
    → IsRun Known w → IsSubmission x → IsKept Known w e (submitted w c x)
unfolding submitted code
submitting-kept Known w e c x run h =
    record {
      row = run.row;
      grows = λ i y k. k;
      out = λ o k me. h.out _ o k;
      given = run.given;
      mild = h.mild;
    }

-- ---- one event of a run

module _ (Known : Core → Type 0) (apart : NoCollision Known) (genesis : Known genesis_core)
    (ground : genesis_core.height ≡ 0) where
  effect-kept : (w : World) (e : Event) (m : MemorySupply) (f : Effect) → IsRun Known w → IsMadeWell w
      → IsHonest Known w e → Effects w e m f → IsKept Known w e f
  effect-kept w e m f run made honest (idle a h) = idle-kept Known w e a run h
  effect-kept w e m f run made honest (step_by i me ar) =
      step-kept Known w e m _ run (step-keeps Known apart genesis ground w e m i run made honest me ar)
  effect-kept w e m f run made honest (hearing g b ad r ok pa) =
      hearing-kept Known w e _ _ run (reply-mild _ m g _)
  effect-kept w e m f run made honest (submitting c payload i ok) =
      submitting-kept Known w e c _ run (submission-is _ m payload _)

  pub happens-keeps : (w : World) (e : Event) (m : MemorySupply) → IsRun Known w → IsMadeWell w
      → IsHonest Known w e → refusal w e ≡ None
      → IsRun Known (happens w (e, m)) × IsMadeWell (happens w (e, m))
      × ((effect w (e, m)).answer ≡ Some fault.Conflict → ⊥)
  unfolding happens
  happens-keeps w e m run made honest ok =
      (record { row = k.row; stands = stands; given = given }, record { rings = made.rings; enough = made.enough }, k.mild)
    where
      k : IsKept Known w e (effect w (e, m))
      k = effect-kept w e m (effect w (e, m)) run made honest (effects w e m honest.framed ok)

      sent : Sending → Sent
      sent o = record { event = w.now; sender = party_of e; to = o.0; frame = o.1 }

      new : (s : Sent) → Among s (map sent (effect w (e, m)).out) → is_member w s.sender ≡ true
          → Stands ((effect w (e, m)).replica s.sender).chronicle s.frame
      new s n me =
          let r = Among-map sent (effect w (e, m)).out s n in
          let by : s.sender ≡ party_of e = ap (λ (y : Sent). y.sender) r.2 in
          subst (λ (p : ℕ). Stands ((effect w (e, m)).replica p).chronicle s.frame) (sym by)
          (subst (Stands ((effect w (e, m)).replica (party_of e)).chronicle)
          (sym (ap (λ (y : Sent). y.frame) r.2))
          (k.out r.0 r.1 (sym (ap (is_member w) by) ∙ me)))

      stands : (s : Sent) → Among s (w.sent ++ map sent (effect w (e, m)).out) → is_member w s.sender ≡ true
          → Stands ((effect w (e, m)).replica s.sender).chronicle s.frame
      stands s n me =
          elim (Among-either s w.sent _ n)
          [ inl a ↦ k.grows s.sender s.frame (run.stands s a me) | inr a ↦ new s a me ]

      given : (p : ℕ) → is_member w p ≡ true
          → AreGiven w (λ i. ((effect w (e, m)).replica i).chronicle) p ((effect w (e, m)).replica p).chronicle
      given p mp = all-implied _ _ (holding-implied _ _ (λ d b h v mv. k.grows b.voter (frame.vote d b) (h v mv)))
          ((effect w (e, m)).replica p).chronicle (k.given p mp)
