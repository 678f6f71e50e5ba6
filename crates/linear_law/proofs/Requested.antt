-- A clear command in a correct client's name was submitted by it before.
use Rattle.ids.specs.declared.kind.Kind.TheVariants as kind
use Rattle.std.proofs.Common.{ℕ, ◌≡◌, ◌^◌, ◌<◌, true, false, List, ◌∷◌, refl, sym, ap, subst, ◌∙◌, inl, inr}
use Rattle.std.proofs.Common.{None}
use Rattle.definitions.proofs.Lists.{Among-before}
use Rattle.definitions.proofs.Sound.{Outcome, Outcome.unchanged, Outcome.refused, Outcome.lacks}
use Rattle.definitions.proofs.Sound.{Outcome.conflict, Outcome.stood, Outcome.cut, step-outcome}
use Rattle.linear_law.proofs.Inputs.{all-among, FromInput, AllStanding, ruling-from}
use Rattle.linear_law.proofs.Rows.{put_row-both}
use Rattle.linear_law.proofs.Effects.{ComesFramed, is_member, Arises, Effects, Effects.idle}
use Rattle.linear_law.proofs.Effects.{Effects.step_by, Effects.hearing, Effects.submitting}
use Rattle.linear_law.proofs.Effects.{effects}
use Rattle.linear_law.proofs.Runs.{chronicles, IsRun, IsHonest, member-faulty, arises-checked}
use Rattle.linear_law.proofs.Runs.{arises-carried, put-chronicle}
use Rattle.definitions.proofs.Chronicles.{taken-now}
use Rattle.definitions.specs.Lists.{Among}
use Rattle.definitions.specs.Frames.{Command, Core, Frame, command_content}
use Rattle.definitions.specs.FrameLimits.{IsCommand}
use Rattle.ids.specs.Sizes.{client_party}
use Rattle.definitions.specs.Digests.{core_of}
use Rattle.definitions.specs.Chronicles.{Admitted, Step, Step.took_block, Chronicle, taken_blocks}
use Rattle.definitions.specs.Checks.{Identity}
use Rattle.definitions.specs.Rulings.{Input, Ruling, ruling}
use Rattle.definitions.specs.Replicas.{MemorySupply, Replica, Reaction, step}
use Rattle.definitions.specs.Worlds.{World, Sent, Event, self_of}
use Rattle.definitions.specs.Runs.{refusal}
use Rattle.definitions.specs.Events.{Effect, nothing, stepped, told, submitted, party_of, effect, happens}
use Rattle.definitions.specs.Premises.{Claim, IsTagOf, WasSent}
use Rattle.definitions.specs.Frames as frame

-- its client sent a request of the same content
abbrev pub WasRequested : List Sent → Command → Type 0
WasRequested sent k =
    (s : Sent) × (c : Command) × Among s sent × (s.sender ≡ client_party k.client)
    × (s.frame ≡ frame.request c)
    × (command_content k.client k.seq k.payload ≡ command_content c.client c.seq c.payload)
    × (k.seq < 2 ^ 64)

-- the numbers of the requests that clients sent: the client's own, and a seq that fits into eight bytes
abbrev pub RequestsFit : World → Type 0
RequestsFit w =
    (s : Sent) (c : Command) (cl : ℕ) → Among s w.sent → s.frame ≡ frame.request c
    → s.sender ≡ client_party cl → (c.client ≡ cl) × (c.seq < 2 ^ 64)

abbrev pub AllRequested : World → List Sent → Chronicle → Type 0
AllRequested w sent c =
    (a : Admitted) → Among a (taken_blocks c) → a.clear ≡ true → (k : Command)
    → Among k (core_of a.branch).commands
    → w.is_faulty (client_party k.client) ≡ false → WasRequested sent k

request-tag : (x : Claim) (s : Sent) (f : Frame) → x.label ≡ kind.Request → IsTagOf x s f
    → (c : Command) × (f ≡ frame.request c) × (x.content ≡ command_content c.client c.seq c.payload)
request-tag x s (frame.request c) l h = (c, refl, h.1)
request-tag x s (frame.proposal w c q v) l h = absurd (let k = h.0 in cc)
request-tag x s (frame.vote d b) l h = absurd (let k = h.0 in cc)
request-tag x s (frame.new_view w r q v) l h = absurd (let k = h.0 in cc)
request-tag x s (frame.reply r c q p t g) l h = absurd (let k = h.0 in cc)
request-tag x s (frame.fetch r d t) l h = absurd (let k = h.0 in cc)
request-tag x s (frame.block r c q t) l h = absurd (let k = h.0 in cc)

module _ (Known : Core → Type 0) where
  -- what a step has just taken
  took-requested : (w : World) (e : Event) (i : Input) → IsHonest Known w e
      → is_member w (party_of e) ≡ true → Arises w e i → (a : Admitted) → a.new ≡ true
      → FromInput (self_of w (party_of e)) (chronicles w (party_of e)) i (took_block a) → a.clear ≡ true → (k : Command) → Among k (core_of a.branch).commands
      → w.is_faulty (client_party k.client) ≡ false → WasRequested w.sent k
  took-requested w e i honest me ar a n f cl k m ok =
      let b = arises-carried w e i f.0 f.1 f.2 ar f.3 in
      let mk : Among k f.0.commands = subst (λ (x : Core). Among k x.commands) (f.4.core_is n) m in
      let c = b.carried.commands k (sym f.4.clear_is ∙ cl) mk in
      let small : IsCommand w.sizes k =
      all-among (IsCommand w.sizes) f.0.commands k b.carried.core_is.commands mk in
      let sent : WasSent w.sent c.0 =
      honest.forgery b.frame b.brings.brings (member-faulty w (party_of e) me) b.brings.admitted c.0 c.1
      (ap w.is_faulty c.3 ∙ ok) in
      let r = request-tag c.0 sent.0 sent.0.frame c.2 sent.3 in
      (sent.0, r.0, sent.1, sent.2 ∙ c.3, r.1, sym c.4 ∙ r.2, small.seq.1)

  took-step : (w : World) (e : Event) (i : Input) → IsHonest Known w e → is_member w (party_of e) ≡ true
      → Arises w e i → (st : Step) → FromInput (self_of w (party_of e)) (chronicles w (party_of e)) i st
      → AllRequested w w.sent (chronicles w (party_of e))
      → AllRequested w w.sent (st ∷ chronicles w (party_of e))
  took-step w e i honest me ar st f old a m cl k mk ok =
      elim (taken-now st (chronicles w (party_of e)) a m) [
        | inl x ↦ took-requested w e i honest me ar a x.1 (subst (FromInput (self_of w (party_of e)) (chronicles w (party_of e)) i) x.0 f) cl k mk ok
        | inr y ↦ old a y cl k mk ok
      ]

  outcome-requested : (w : World) (e : Event) (i : Input) (v : Ruling) (r : Replica × Reaction)
      → IsHonest Known w e → is_member w (party_of e) ≡ true → Arises w e i
      → AllStanding (FromInput (self_of w (party_of e)) (chronicles w (party_of e)) i) v
      → AllRequested w w.sent (chronicles w (party_of e))
      → Outcome (self_of w (party_of e)) (chronicles w (party_of e)) v (w.replica (party_of e)) r
      → AllRequested w w.sent r.0.chronicle
  outcome-requested w e i v r honest me ar f old (unchanged n l) = old
  outcome-requested w e i v r honest me ar f old (refused s n u l) = old
  outcome-requested w e i v r honest me ar f old (lacks sender d u) = old
  outcome-requested w e i v r honest me ar f old (conflict st u x h) = old
  outcome-requested w e i v r honest me ar f old (stood st u x h) =
      took-step w e i honest me ar st (subst (AllStanding (FromInput (self_of w (party_of e)) (chronicles w (party_of e)) i)) x f) old
  outcome-requested w e i v r honest me ar f old (cut st n u x h) =
      took-step w e i honest me ar st (subst (AllStanding (FromInput (self_of w (party_of e)) (chronicles w (party_of e)) i)) x f) old

  effect-requested : (w : World) (e : Event) (m : MemorySupply) (f : Effect) → IsRun Known w
      → IsHonest Known w e
      → Effects w e m f → ((p : ℕ) → is_member w p ≡ true → AllRequested w w.sent (chronicles w p))
      → (p : ℕ) → is_member w p ≡ true → AllRequested w w.sent (f.replica p).chronicle
  unfolding nothing stepped told submitted
  effect-requested w e m f run honest (idle a h) old = old
  effect-requested w e m f run honest (step_by i me ar) old = λ p mp.
      let self : Identity = self_of w (party_of e) in
      let r : Replica × Reaction = step self m i (w.replica (party_of e)) in
      subst (AllRequested w w.sent) (put-chronicle (party_of e) r.0 w.replica p)
      (put_row-both (AllRequested w w.sent) (party_of e) r.0.chronicle (chronicles w) p
      (λ x. outcome-requested w e i (ruling self i (chronicles w (party_of e))) r honest me ar
      (ruling-from self i (chronicles w (party_of e))) (old (party_of e) me)
      (step-outcome self m i (w.replica (party_of e)) (arises-checked w e i ar)
      (run.row.sound (party_of e) me)))
      (old p mp))
  effect-requested w e m f run honest (hearing g b ad r ok pa) old = old
  effect-requested w e m f run honest (submitting c payload i ok) old = old

  -- each event keeps it
  pub happens-requested : (w : World) (e : Event) (m : MemorySupply) → IsRun Known w → IsHonest Known w e
      → refusal w e ≡ None → ((p : ℕ) → is_member w p ≡ true → AllRequested w w.sent (chronicles w p))
      → (p : ℕ) → is_member w p ≡ true
      → AllRequested (happens w (e, m)) (happens w (e, m)).sent (chronicles (happens w (e, m)) p)
  unfolding happens
  happens-requested w e m run honest ok old p mp a k cl c mc f =
      let r = effect-requested w e m (effect w (e, m)) run honest (effects w e m honest.framed ok) old p mp
      a k cl c mc f in
      (r.0, r.1, Among-before r.0 w.sent _ r.2, r.3, r.4, r.5, r.6)

-- ---- stored cores

-- each block that was taken is stored with the core of its branch
abbrev pub StoresCores : Chronicle → Type 0
StoresCores c = (a : Admitted) → Among a (taken_blocks c) → core_of a.branch ≡ a.core

took-stored : (self : Identity) (i : Input) (st : Step) (c : Chronicle) → FromInput self c i st → StoresCores c → StoresCores (st ∷ c)
took-stored self i st c f old a m =
    elim (taken-now st c a m) [
      | inl x ↦ (let g = subst (FromInput self c i) x.0 f in g.4.core_is x.1 ∙ sym g.4.stored)
      | inr y ↦ old a y
    ]

outcome-stored : (self : Identity) (i : Input) (v : Ruling) (before : Replica) (r : Replica × Reaction)
    → AllStanding (FromInput self before.chronicle i) v → StoresCores before.chronicle → Outcome self before.chronicle v before r
    → StoresCores r.0.chronicle
outcome-stored self i v before r f old (unchanged n l) = old
outcome-stored self i v before r f old (refused s n u l) = old
outcome-stored self i v before r f old (lacks sender d u) = old
outcome-stored self i v before r f old (conflict st u x h) = old
outcome-stored self i v before r f old (stood st u x h) =
    took-stored self i st before.chronicle (subst (AllStanding (FromInput self before.chronicle i)) x f) old
outcome-stored self i v before r f old (cut st n u x h) =
    took-stored self i st before.chronicle (subst (AllStanding (FromInput self before.chronicle i)) x f) old

module _ (Known : Core → Type 0) where
  effect-stored : (w : World) (e : Event) (m : MemorySupply) (f : Effect) → IsRun Known w → Effects w e m f
      → ((p : ℕ) → is_member w p ≡ true → StoresCores (chronicles w p)) → (p : ℕ) → is_member w p ≡ true
      → StoresCores (f.replica p).chronicle
  unfolding nothing stepped told submitted
  effect-stored w e m f run (idle a h) old = old
  effect-stored w e m f run (step_by i me ar) old = λ p mp.
      let self : Identity = self_of w (party_of e) in
      let r : Replica × Reaction = step self m i (w.replica (party_of e)) in
      subst StoresCores (put-chronicle (party_of e) r.0 w.replica p)
      (put_row-both StoresCores (party_of e) r.0.chronicle (chronicles w) p
      (λ x. outcome-stored self i (ruling self i (chronicles w (party_of e))) (w.replica (party_of e)) r
      (ruling-from self i (chronicles w (party_of e))) (old (party_of e) me)
      (step-outcome self m i (w.replica (party_of e)) (arises-checked w e i ar)
      (run.row.sound (party_of e) me)))
      (old p mp))
  effect-stored w e m f run (hearing g b ad r ok pa) old = old
  effect-stored w e m f run (submitting c payload i ok) old = old

  -- each event keeps it
  pub happens-stored : (w : World) (e : Event) (m : MemorySupply) → IsRun Known w → ComesFramed w e
      → refusal w e ≡ None → ((p : ℕ) → is_member w p ≡ true → StoresCores (chronicles w p)) → (p : ℕ)
      → is_member w p ≡ true → StoresCores (chronicles (happens w (e, m)) p)
  unfolding happens
  happens-stored w e m run rd ok old = effect-stored w e m (effect w (e, m)) run (effects w e m rd ok) old
