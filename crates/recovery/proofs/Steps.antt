-- What one event of a correct replica that goes on does to its world.
use Rattle.ids.specs.declared.fault.Fault.TheVariants as fault
use Rattle.std.proofs.Common.{ℕ, ◌≡◌, ◌==◌, true, false, List, [], ◌∷◌, ◌++◌, map, refl, sym, ap}
use Rattle.std.proofs.Common.{subst, ◌∙◌, inl, inr, Some, option_map, slice_get, length}
use Rattle.std.proofs.lemmas.Bool.{cond-true, cond-false, cond_both, eqb-true, cases_Bool}
use Rattle.definitions.specs.Bytes.{Bytes}
use Rattle.definitions.specs.Checks.{Identity}
use Rattle.definitions.specs.Chronicles.{Chronicle, Step}
use Rattle.definitions.specs.Rulings.{Input, Ruling, Ruling.due, Ruling.missing, Ruling.refusing, ruling, conflicts}
use Rattle.definitions.specs.Sendings.{Sending, sendings}
use Rattle.definitions.specs.Replicas.{MemorySupply.ample, Replica, Reaction, Reaction.sends_out, Standing.running}
use Rattle.ids.specs.declared.fault.Fault.{Fault}
use Rattle.definitions.specs.Replicas.{on_ruling, on_step, stopped_at, stops, Standing, Standing.stopped}
use Rattle.definitions.specs.Replicas.{Reaction.fails, Reaction.asks_for}
use Rattle.definitions.specs.Worlds.{World, Sent, Event, Happening, is_correct, self_of, put}
use Rattle.definitions.specs.Events.{Effect, stepped, acts, effect, happens, party_of, steps, out_of, answer_of}
use Rattle.linear_law.proofs.Linear.{NoneConflicts}
use Rattle.linear_law.proofs.Runs.{member-faulty}
use Rattle.recovery.specs.Correct.{chronicle_of}
use Rattle.recovery.proofs.Worlds.{IsMadeAs, effect-correct, step-running}

-- a replica that goes on
abbrev pub going : Chronicle → Replica
going c = record { chronicle = c; standing = running }

-- frames that a party sends in the next event
abbrev pub outs : World → ℕ → List Sending → List Sent
outs w p os = map (λ o. record { event = w.now; sender = p; to = o.0; frame = o.1 }) os

-- in it the replica took this step, and sent what follows from that
pub record TookStep (w next : World) (p : ℕ) (st : Step) : Type 0 where
  pub made : IsMadeAs w next
  pub row : next.replica ≡ put p (going (st ∷ chronicle_of w p)) w.replica
  pub sent : next.sent ≡ w.sent ++ outs w p (sendings (self_of w p) st (chronicle_of w p))
  pub session : next.session ≡ w.session

-- in it nothing changed but the record
pub record OnlySent (w next : World) (p : ℕ) (out : List Sending) : Type 0 where
  pub made : IsMadeAs w next
  pub row : (j : ℕ) → next.replica j ≡ w.replica j
  pub sent : next.sent ≡ w.sent ++ outs w p out
  pub session : next.session ≡ w.session

-- ---- a step of a replica

-- an event that hands this input to this correct replica
pub record HandsIn (w : World) (e : Event) (p : ℕ) (i : Input) : Type 0 where
  pub party : party_of e ≡ p
  pub correct : is_correct w p ≡ true
  pub goes_on : (w.replica p).standing ≡ running
  pub acting : acts w e ample ≡ steps p ample i w

handed : (w : World) (e : Event) (p : ℕ) (i : Input) → HandsIn w e p i
    → effect w (e, ample) ≡ stepped w p ample (on_ruling (self_of w p) ample (ruling (self_of w p) i
    (chronicle_of w p)) (chronicle_of w p))
handed w e p i h =
    effect-correct w (e, ample) (member-faulty w (party_of e) (ap (is_correct w) h.party ∙ h.correct))
    ∙ (h.acting
    ∙ ap (λ (x : Replica × Reaction). stepped w p ample x) (step-running (self_of w p) ample i (w.replica p) h.goes_on))

-- the world after an event with this effect
happens-by : (w : World) (e : Event) (f : Effect) → effect w (e, ample) ≡ f
    → ((happens w (e, ample)).replica ≡ f.replica) × ((happens w (e, ample)).session ≡ f.session)
    × ((happens w (e, ample)).sent ≡ w.sent ++ outs w (party_of e) f.out)
    × ((happens w (e, ample)).answers ≡ f.answer ∷ w.answers)
unfolding happens
happens-by w e f h = (
  ap (λ (x : Effect). x.replica) h,
  ap (λ (x : Effect). x.session) h,
  ap (λ (x : Effect). w.sent ++ outs w (party_of e) x.out) h,
  ap (λ (x : Effect). x.answer ∷ w.answers) h,
)

made-by : (w : World) (h : Happening) → IsMadeAs w (happens w h)
unfolding happens
made-by w h = record { sizes = refl; faulty = refl; ring = refl }

-- a step that was due stood, where no answer is a conflict
pub step-stood : (w : World) (e : Event) (p : ℕ) (i : Input) (st : Step) → HandsIn w e p i
    → ruling (self_of w p) i (chronicle_of w p) ≡ due st
    → NoneConflicts (happens w (e, ample)).answers → TookStep w (happens w (e, ample)) p st
unfolding on_ruling on_step stepped
step-stood w e p i st h d calm =
    let self : Identity = self_of w p in
    let c : Chronicle = chronicle_of w p in
    let f : effect w (e, ample) ≡ stepped w p ample (on_step self ample st c) =
    handed w e p i h ∙ ap (λ (v : Ruling). stepped w p ample (on_ruling self ample v c)) d in
    let r = happens-by w e (stepped w p ample (on_step self ample st c)) f in
    elim (cases_Bool (conflicts st c)) [
      | inl t ↦ absurd (
          let s : on_step self ample st c ≡ (stopped_at c, fails fault.Conflict) = cond-true _ _ _ t in
          (subst NoneConflicts r.3 calm).0 (ap (λ (x : Replica × Reaction). answer_of x.1) s))
      | inr n ↦ (
          let s : on_step self ample st c ≡ (going (st ∷ c), sends_out (sendings self st c)) = cond-false _ _ _ n in
          record {
            made = made-by w (e, ample);
            row = r.0 ∙ ap (λ (x : Replica × Reaction). put p x.0 w.replica) s;
            sent = r.2 ∙ (ap (λ (x : Replica × Reaction). w.sent ++ outs w (party_of e) (out_of self ample x.1)) s
                ∙ ap (λ (q : ℕ). w.sent ++ outs w q (sendings self st c)) h.party);
            session = r.1;
          })
    ]

-- a row with a replica put in as it was
same-row : (w : World) (p : ℕ) → (w.replica p).standing ≡ running → (j : ℕ)
    → put p (going (chronicle_of w p)) w.replica j ≡ w.replica j
same-row w p s j =
    cond_both (j == p) (going (chronicle_of w p)) (w.replica j) (λ (x : Replica). x ≡ w.replica j)
    (λ e. (λ k. record { chronicle = chronicle_of w p; standing = sym s k }) ∙ ap w.replica (sym (eqb-true j p e)))
    (λ e. refl)

-- an input is refused, with a fault that stops nobody: nothing changes with it
pub refused : (w : World) (e : Event) (p : ℕ) (i : Input) (n : Fault) → HandsIn w e p i
    → ruling (self_of w p) i (chronicle_of w p) ≡ refusing n → stops n (chronicle_of w p) ≡ false
    → OnlySent w (happens w (e, ample)) p []
unfolding on_ruling stepped
refused w e p i n h m goes =
    let self : Identity = self_of w p in
    let c : Chronicle = chronicle_of w p in
    let f : effect w (e, ample) ≡ stepped w p ample (going c, fails n) =
    handed w e p i h ∙ (ap (λ (v : Ruling). stepped w p ample (on_ruling self ample v c)) m
    ∙ ap (λ (s : Standing). stepped w p ample (record { chronicle = c; standing = s }, fails n))
    (cond-false (stops n c) stopped running goes)) in
    let r = happens-by w e (stepped w p ample (going c, fails n)) f in
    record {
      made = made-by w (e, ample);
      row = λ j. ap (λ (row : ℕ → Replica). row j) r.0 ∙ same-row w p h.goes_on j;
      sent = r.2 ∙ ap (λ (q : ℕ). w.sent ++ outs w q []) h.party;
      session = r.1;
    }

-- a question goes out
pub asked : (w : World) (e : Event) (p : ℕ) (i : Input) (to : ℕ) (d : Bytes) → HandsIn w e p i
    → ruling (self_of w p) i (chronicle_of w p) ≡ missing to d
    → OnlySent w (happens w (e, ample)) p (out_of (self_of w p) ample (asks_for to d))
unfolding on_ruling stepped
asked w e p i to d h m =
    let self : Identity = self_of w p in
    let c : Chronicle = chronicle_of w p in
    let f : effect w (e, ample) ≡ stepped w p ample (going c, asks_for to d) =
    handed w e p i h ∙ ap (λ (v : Ruling). stepped w p ample (on_ruling self ample v c)) m in
    let r = happens-by w e (stepped w p ample (going c, asks_for to d)) f in
    record {
      made = made-by w (e, ample);
      row = λ j. ap (λ (row : ℕ → Replica). row j) r.0 ∙ same-row w p h.goes_on j;
      sent = r.2 ∙ ap (λ (q : ℕ). w.sent ++ outs w q (out_of self ample (asks_for to d))) h.party;
      session = r.1;
    }

-- ---- where frames are

-- the frame behind so many others
pub frame-behind : (xs : List Sent) (s : Sent) (ys : List Sent)
    → option_map (λ z. z.frame) (slice_get (xs ++ s ∷ ys) (length xs)) ≡ Some s.frame
frame-behind [] s ys = refl
frame-behind (x ∷ xs) s ys = frame-behind xs s ys
