-- What a replica asks for is what the bytes lack, whatever memory there is.
use Rattle.ids.specs.declared.limits.TheConstants.{MOST_BLOCKS}
use Rattle.ids.specs.declared.fault.Fault.{Fault}
use Rattle.ids.specs.declared.fault.Fault.TheVariants as fault
use Rattle.std.proofs.Common.{ℕ, suc, IfOk, ◌∷◌, ◌≡◌, ◌&&◌, not, Bool, true, false, List, [], length, map, refl}
use Rattle.std.proofs.Common.{sym, ap, subst, ◌∙◌, inl, inr, Option, Some, None, Result, Ok, Err, nat_lt}
use Rattle.std.specs.Bool.{⊤}
use Rattle.std.specs.List.{list_any}
use Rattle.std.specs.Prelude.{IsTrue}
use Rattle.std.proofs.lemmas.Bool.{cond_both, lt-ltb}
use Rattle.ids.specs.Sizes.{Sizes, AreSizes, replicas}
use Rattle.definitions.specs.Bytes.{Bytes}
use Rattle.definitions.specs.Frames.{Core, Certificate, Command, Frame}
use Rattle.definitions.specs.Frames as frame
use Rattle.definitions.specs.Branches.{Branch}
use Rattle.definitions.specs.Checks.{Identity, Findings}
use Rattle.definitions.specs.Chronicles.{Admitted, Step, Chronicle, horizon, window, history, Note.got_vote}
use Rattle.definitions.specs.Chronicles.{Note.got_new_view, Step.noted}
use Rattle.definitions.specs.States.{find_block, is_due, is_same_request, pending}
use Rattle.definitions.specs.Trees.{Placing, Placing.stands, Placing.grows, Placing.lacks_parent}
use Rattle.definitions.specs.Trees.{Placing.unfit, placing}
use Rattle.definitions.specs.Rulings.{Input, timeout_in, beat_in, prune_in, lead_in, ask_in, proposal_in}
use Rattle.definitions.specs.Rulings.{block_in, vote_in, new_view_in, request_in, fetch_in, offered_in}
use Rattle.definitions.specs.Rulings.{relayed_in, view_in, Ruling, on_offer, take_grounded, on_relay, lead}
use Rattle.definitions.specs.Rulings.{Ruling.due}
use Rattle.definitions.specs.Rulings.{Ruling.missing, Ruling.refusing, ruling, conflicts, on_placing}
use Rattle.definitions.specs.Rulings.{on_block, on_request, with_block}
use Rattle.definitions.specs.Admission.{Checked, Checked.passes, Checked.rejected, check, check_offer, when}
use Rattle.definitions.specs.Admission.{check_gathered, check_copies}
use Rattle.definitions.specs.Grounds.{are_replicas, may_lead_from}
use Rattle.definitions.specs.Replicas.{MemorySupply, MemorySupply.ample, MemorySupply.refused_at_once}
use Rattle.definitions.specs.Replicas.{MemorySupply.refused_after}
use Rattle.definitions.specs.Replicas.{Replica, Standing, Standing.running, Standing.stopped}
use Rattle.definitions.specs.Replicas.{Standing.cut_short, Reaction, Reaction.sends_out, Reaction.fails}
use Rattle.definitions.specs.Replicas.{Reaction.asks_for, executes, on_step, on_ruling, step}
use Rattle.definitions.proofs.Trees.{IsPlaced, placed}
use Rattle.definitions.proofs.Spellings.{IsReadAs-unique}
use Rattle.std.specs.Borrow.{Bor}
use Rattle.definitions.specs.Keyrings.{Keys}
use Rattle.definitions.specs.Checks.{identity_of}
use Rattle.admission.specs.Lacking.{lacked_by, IsLackedBy}
use Rattle.admission.specs.Gathering.{Gathers, AnswersGathered}
use Rattle.admission.specs.Inputs.{input_of, is_addressed}
use Rattle.admission.specs.Admitted as admitted
use Rattle.admission.specs.Admitted.{AdmitsBy, AnswersReadBy}
use Rattle.admission.specs.declared.input.Input as entering
use Rattle.admission.specs.declared.input.Input.TheVariants as entry
use Rattle.replica.specs.Steps.{Shows, Stepped}
use Rattle.signed_frames.specs.Outs.{SentBytes, sent_of}
use Rattle.world_schedule.specs.declared.way.Way.{Way}
use Rattle.world_schedule.specs.declared.way.Way.TheVariants.{Brought, Offered}
use Rattle.world_schedule.specs.Asking.{checks_of}
use Rattle.world_schedule.specs.declared.effect.Effect.{Effect}
use Rattle.world_schedule.specs.Turns.{admits, checked, TellsReaction, Takes, TakesBytes, TakesCopies}
use Rattle.world_schedule.specs.Turns.{IsMove, asked_by}
use Rattle.world_schedule.specs.Asking.{AnswersTo, Answers, AnswersCopies, Asks, OnlyRefuses, is_lack}
use Rattle.world_schedule.specs.Asking.{Refuses, TellsAnswer}

-- ---- what reactions there are

-- a ruling asks for what is lacking alone, and refuses for want of a block only where none is asked for
abbrev RulesRightly : Option (ℕ × Bytes) → Ruling → Type 0
RulesRightly lack (due st) = ⊤
RulesRightly lack (missing sender d) = lack ≡ Some (sender, d)
RulesRightly lack (refusing n) = n ≡ fault.UnknownParent → lack ≡ None

-- so does a reaction
abbrev ReactsRightly : Option (ℕ × Bytes) → Reaction → Type 0
ReactsRightly lack (sends_out out) = ⊤
ReactsRightly lack (fails n) = n ≡ fault.UnknownParent → lack ≡ None
ReactsRightly lack (asks_for sender d) = lack ≡ Some (sender, d)

-- it is refused for something else
other : {lack : Option (ℕ × Bytes)} (n : Fault) → (n ≡ fault.UnknownParent → ⊥)
    → n ≡ fault.UnknownParent → lack ≡ None
other n h k = absurd (h k)

-- a step that is to stand asks for nothing
on_step-right : (lack : Option (ℕ × Bytes)) (self : Identity) (m : MemorySupply) (st : Step) (c : Chronicle)
    → ReactsRightly lack (on_step self m st c).1
unfolding on_step
on_step-right lack self ample st c =
    cond_both (conflicts st c) _ _ (λ (r : Replica × Reaction). ReactsRightly lack r.1) (λ e k. cc) (λ e. tt)
on_step-right lack self refused_at_once st c = λ k. cc
on_step-right lack self (refused_after n) st c =
    cond_both (conflicts st c) _ _ (λ (r : Replica × Reaction). ReactsRightly lack r.1) (λ e k. cc)
    (λ e. cond_both (executes st c) _ _ (λ (r : Replica × Reaction). ReactsRightly lack r.1) (λ x k. cc)
    (λ x k. cc))

-- a step
step-right : (lack : Option (ℕ × Bytes)) (self : Identity) (m : MemorySupply) (i : Input) (r : Replica)
    → RulesRightly lack (ruling self i r.chronicle) → ReactsRightly lack (step self m i r).1
unfolding step on_ruling
step-right lack self m i r h = by r.standing
  where
    under : (v : Ruling) → RulesRightly lack v → ReactsRightly lack (on_ruling self m v r.chronicle).1
    under (due st) k = on_step-right lack self m st r.chronicle
    under (missing sender d) k = k
    under (refusing n) k = k

    by : (s : Standing)
        → ReactsRightly lack (elim s as (λ x. Replica × Reaction) [
          | running ↦ on_ruling self m (ruling self i r.chronicle) r.chronicle
          | stopped ↦ (r, fails fault.Stopped)
          | cut_short held ↦ (r, fails fault.Stopped)
        ]).1
    by running = under (ruling self i r.chronicle) h
    by stopped = λ k. cc
    by (cut_short held) = λ k. cc

-- ---- rulings

-- a block that doesn't fit is refused for something else than its parent
unfit-other : (core : Core) (q : Certificate) (c : Chronicle) (n : Fault)
    → IsPlaced (horizon c) MOST_BLOCKS core q (window c) (unfit n) → n ≡ fault.UnknownParent → ⊥
unfit-other core q c n (inl e) k = cc
unfit-other core q c n (inr (inl e)) k = cc
unfit-other core q c n (inr (inr (inl e))) k = cc
unfit-other core q c n (inr (inr (inr (inl e)))) k = cc
unfit-other core q c n (inr (inr (inr (inr e)))) k = cc

placed-right : (self : Identity) (w : Option ℕ) (sender : ℕ) (core : Core) (q : Certificate) (f : Findings)
    (c : Chronicle) (p : Placing) → IsPlaced (horizon c) MOST_BLOCKS core q (window c) p
    → RulesRightly (Some (sender, core.parent)) (on_placing self w sender core q f c p)
unfolding on_placing
placed-right self w sender core q f c (stands b) h = tt
placed-right self w sender core q f c (grows b) h = tt
placed-right self w sender core q f c lacks_parent h = refl
placed-right self w sender core q f c (unfit n) h = other n (unfit-other core q c n h)

grounds-right : (lack : Option (ℕ × Bytes)) (self : Identity) (w : Option ℕ) (o : Option Admitted)
    (c : Chronicle) → RulesRightly lack (take_grounded self w o c)
grounds-right lack self w None c = λ k. cc
grounds-right lack self w (Some a) c = tt

offered-right : (self : Identity) (w : Option ℕ) (sender : ℕ) (core : Core) (q : Certificate) (f : Findings)
    (c : Chronicle) (p : Placing) → IsPlaced (horizon c) MOST_BLOCKS core q (window c) p
    → RulesRightly (Some (sender, core.parent)) (on_offer self w sender core q f c p)
unfolding on_offer
offered-right self w sender core q f c (stands b) h = tt
offered-right self w sender core q f c (grows b) h = grounds-right _ self w _ c
offered-right self w sender core q f c lacks_parent h = refl
offered-right self w sender core q f c (unfit n) h = other n (unfit-other core q c n h)

relayed-right : (self : Identity) (senders : List ℕ) (core : Core) (q : Certificate) (f : Findings)
    (c : Chronicle) (p : Placing) → RulesRightly None (on_relay self senders core q f c p)
unfolding on_relay
relayed-right self senders core q f c (stands b) = tt
relayed-right self senders core q f c (grows b) =
    cond_both (are_replicas self.sizes (suc self.sizes.faults) senders) _ _ (RulesRightly None) (λ e. tt)
    (λ e k. refl)
relayed-right self senders core q f c lacks_parent = λ k. refl
relayed-right self senders core q f c (unfit n) = λ k. refl

lead-right : (self : Identity) (o : Option Branch) (c : Chronicle) → RulesRightly None (lead self o c)
lead-right self None c = λ k. refl
lead-right self (Some b) c =
    cond_both (may_lead_from self b c) _ _ (RulesRightly None) (λ e. tt) (λ e k. refl)

block-right : (self : Identity) (w : Option ℕ) (sender : ℕ) (core : Core) (q : Certificate) (f : Findings)
    (c : Chronicle) → RulesRightly (Some (sender, core.parent)) (on_block self w sender core q f c)
block-right self w sender core q f c =
    placed-right self w sender core q f c (placing (horizon c) MOST_BLOCKS core q (window c))
    (placed (horizon c) MOST_BLOCKS core q (window c))

found-right : (o : Option Branch) (sender : ℕ) (d : Bytes) (follows : Branch → Step)
    → RulesRightly (Some (sender, d)) (with_block o sender d (λ b. due (follows b)))
found-right None sender d follows = refl
found-right (Some b) sender d follows = tt

request-right : (lack : Option (ℕ × Bytes)) (r : Command) (c : Chronicle) → RulesRightly lack (on_request r c)
unfolding on_request
request-right lack r c = cond_both (is_due (history c) r
    && (not (list_any (is_same_request r) (pending c)) && not (nat_lt (length (pending c)) 4096))) _ _
    (RulesRightly lack) (λ e k. cc) (λ e. tt)

-- ---- what was checked

-- what was checked is taken so, and the checks themselves refuse for something else
abbrev IsRight : Option (ℕ × Bytes) → Identity → Checked → Chronicle → Type 0
IsRight lack self (passes i) c = RulesRightly lack (ruling self i c)
IsRight lack self (rejected n) c = n ≡ fault.UnknownParent → ⊥

when-right : (lack : Option (ℕ × Bytes)) (self : Identity) (ok : Bool) (i : Input) (c : Chronicle)
    → RulesRightly lack (ruling self i c) → IsRight lack self (when ok i) c
when-right lack self true i c h = h
when-right lack self false i c h = λ k. cc

check-right : (self : Identity) (read : Option Frame) (c : Chronicle)
    → IsRight (lacked_by self.sizes read) self (checked check self read) c
unfolding check ruling
check-right self None c = λ k. cc
check-right self (Some (frame.request r)) c = when-right _ self _ _ c (request-right None r c)
check-right self (Some (frame.proposal view core q v)) c =
    when-right _ self _ _ c (block-right self _ _ core q _ c)
check-right self (Some (frame.vote d b)) c =
    when-right _ self _ _ c
    (found-right (find_block d c) b.voter d (λ x. noted (got_vote b.voter b.vector x)))
check-right self (Some (frame.new_view view sender q v)) c =
    when-right _ self _ _ c
    (found-right (find_block q.digest c) sender q.digest (λ x. noted (got_new_view view sender q x)))
check-right self (Some (frame.fetch sender d t)) c = when-right _ self _ _ c tt
check-right self (Some (frame.block sender core q t)) c =
    when-right _ self _ _ c (block-right self _ _ core q _ c)
check-right self (Some (frame.reply r k s p t g)) c = λ k. cc

offer-right : (self : Identity) (read : Option Frame) (c : Chronicle)
    → IsRight (lacked_by self.sizes read) self (checked check_offer self read) c
unfolding check_offer ruling
offer-right self None c = λ k. cc
offer-right self (Some (frame.proposal view core q v)) c =
    when-right _ self _ _ c (offered-right self _ _ core q _ c _ (placed (horizon c) MOST_BLOCKS core q (window c)))
offer-right self (Some (frame.block sender core q t)) c =
    when-right _ self _ _ c (offered-right self _ _ core q _ c _ (placed (horizon c) MOST_BLOCKS core q (window c)))
offer-right self (Some (frame.new_view view sender q v)) c = when-right _ self _ _ c tt
offer-right self (Some (frame.request r)) c = λ k. cc
offer-right self (Some (frame.vote d b)) c = λ k. cc
offer-right self (Some (frame.fetch sender d t)) c = λ k. cc
offer-right self (Some (frame.reply r k s p t g)) c = λ k. cc

-- whichever way it comes
pub way-right : (way : Way) (self : Identity) (read : Option Frame) (c : Chronicle)
    → IsRight (lacked_by self.sizes read) self (checked (checks_of way) self read) c
way-right Brought self read c = check-right self read c
way-right Offered self read c = offer-right self read c

pub gathered-right : (self : Identity) (fs : List Frame) (c : Chronicle)
    → IsRight None self (check_gathered self fs) c
unfolding check_gathered check_copies ruling
gathered-right self [] c = λ k. cc
gathered-right self (frame.block sender core q t ∷ fs) c =
    when-right None self _ _ c (relayed-right self _ core q _ c _)
gathered-right self (frame.request r ∷ fs) c = λ k. cc
gathered-right self (frame.proposal view core q v ∷ fs) c = λ k. cc
gathered-right self (frame.vote d b ∷ fs) c = λ k. cc
gathered-right self (frame.new_view view sender q v ∷ fs) c = λ k. cc
gathered-right self (frame.fetch sender d t ∷ fs) c = λ k. cc
gathered-right self (frame.reply r k s p t g ∷ fs) c = λ k. cc

-- an input that no frame brings
pub move-right : (sizes : Sizes) (self : Identity) (i : Input) (c : Chronicle) → IsMove sizes i
    → IsRight (asked_by i) self (passes i) c
unfolding ruling
move-right sizes self timeout_in c h = tt
move-right sizes self beat_in c h = tt
move-right sizes self (prune_in height) c h = tt
move-right sizes self (lead_in block) c h = lead-right self (find_block block c) c
move-right sizes self (ask_in to block) c h = refl
move-right sizes self (proposal_in w core q f) c h = absurd h
move-right sizes self (block_in sender core q f) c h = absurd h
move-right sizes self (vote_in d b) c h = absurd h
move-right sizes self (new_view_in w sender q) c h = absurd h
move-right sizes self (request_in r) c h = absurd h
move-right sizes self (fetch_in sender d) c h = absurd h
move-right sizes self (offered_in w sender core q f) c h = absurd h
move-right sizes self (relayed_in senders core q f) c h = absurd h
move-right sizes self (view_in w sender) c h = absurd h

-- so a reaction to it
admits-right : (lack : Option (ℕ × Bytes)) (self : Identity) (m : MemorySupply) (x : Checked) (old : Replica)
    → IsRight lack self x old.chronicle → ReactsRightly lack (admits self m x old).1
admits-right lack self m (passes i) old h = step-right lack self m i old h
admits-right lack self m (rejected n) old h = other n h

-- where a block is asked for, memory changes nothing
abbrev AsksAny : Identity → MemorySupply → Ruling → Chronicle → ℕ → Bytes → MemorySupply → Type 0
AsksAny self m v c sender d other =
    (on_ruling self m v c).1 ≡ asks_for sender d → on_ruling self other v c ≡ on_ruling self m v c

never-asks : (self : Identity) (m : MemorySupply) (st : Step) (c : Chronicle) (sender : ℕ) (d : Bytes)
    → (on_step self m st c).1 ≡ asks_for sender d → ⊥
unfolding on_step
never-asks self ample st c sender d =
    cond_both (conflicts st c) _ _ (λ (r : Replica × Reaction). r.1 ≡ asks_for sender d → ⊥) (λ e k. cc)
    (λ e k. cc)
never-asks self refused_at_once st c sender d = λ k. cc
never-asks self (refused_after n) st c sender d =
    cond_both (conflicts st c) _ _ (λ (r : Replica × Reaction). r.1 ≡ asks_for sender d → ⊥) (λ e k. cc)
    (λ e. cond_both (executes st c) _ _ (λ (r : Replica × Reaction). r.1 ≡ asks_for sender d → ⊥)
    (λ x k. cc) (λ x k. cc))

ruling-any :
    (self : Identity) (m : MemorySupply) (v : Ruling) (c : Chronicle) (sender : ℕ) (d : Bytes)
    (other : MemorySupply)
    → AsksAny self m v c sender d other
unfolding on_ruling
ruling-any self m (due st) c sender d other e = absurd (never-asks self m st c sender d e)
ruling-any self m (missing s b) c sender d other e = refl
ruling-any self m (refusing n) c sender d other e = refl

step-any :
    (self : Identity) (m : MemorySupply) (i : Input) (r : Replica) (sender : ℕ) (d : Bytes)
    (other : MemorySupply)
    → (step self m i r).1 ≡ asks_for sender d → step self other i r ≡ step self m i r
unfolding step
step-any self m i r sender d other = by r.standing
  where
    at : MemorySupply → Standing → Replica × Reaction
    at x s = elim s as (λ x. Replica × Reaction) [
      | running ↦
          on_ruling self x (ruling self i r.chronicle) r.chronicle
      | stopped ↦ (r, fails fault.Stopped)
      | cut_short held ↦ (r, fails fault.Stopped)
    ]

    by : (s : Standing)
        → (elim s as (λ x. Replica × Reaction) [
          | running ↦
              on_ruling self m (ruling self i r.chronicle) r.chronicle
          | stopped ↦ (r, fails fault.Stopped)
          | cut_short held ↦ (r, fails fault.Stopped)
        ]).1 ≡ asks_for sender d
        → ◌≡◌ {A = Replica × Reaction} (elim s as (λ x. Replica × Reaction) [
          | running ↦ on_ruling self other (ruling self i r.chronicle) r.chronicle
          | stopped ↦ (r, fails fault.Stopped)
          | cut_short held ↦ (r, fails fault.Stopped)
        ])
        (elim s as (λ x. Replica × Reaction) [
          | running ↦
              on_ruling self m (ruling self i r.chronicle) r.chronicle
          | stopped ↦ (r, fails fault.Stopped)
          | cut_short held ↦ (r, fails fault.Stopped)
        ])
    by running = ruling-any self m (ruling self i r.chronicle) r.chronicle sender d other
    by stopped = λ e. refl
    by (cut_short held) = λ e. refl

admits-any : (self : Identity) (m : MemorySupply) (x : Checked) (old : Replica) (sender : ℕ) (d : Bytes)
    (other : MemorySupply) → (admits self m x old).1 ≡ asks_for sender d
    → admits self other x old ≡ admits self m x old
admits-any self m (passes i) old sender d other = step-any self m i old sender d other
admits-any self m (rejected n) old sender d other = λ e. refl

-- ---- what is told

pub told : (lack : Option (ℕ × Bytes)) (self : Identity) (x : Checked) (old new : Replica)
    (result : Result (List SentBytes) Fault) (e : Effect) → IsRight lack self x old.chronicle
    → AnswersTo self x old new result → TellsAnswer self lack result e → Takes self x old new e
told lack self x old new result e right a t = by (admits self a.memory x old).1 refl result a.answer t
  where
    reacts : ReactsRightly lack (admits self a.memory x old).1
    reacts = admits-right lack self a.memory x old right

    by : (y : Reaction) → (admits self a.memory x old).1 ≡ y → (r : Result (List SentBytes) Fault)
        → Shows y r → TellsAnswer self lack r e → Takes self x old new e
    by (sends_out l) is (Ok sent) s t = record {
      memory = a.memory;
      state = a.state;
      tells = subst (λ y. TellsReaction self a.memory y e) (sym is)
          (record { out = t.0 ∙ s; accepted = t.1; answer = t.2 });
    }
    by (sends_out l) is (Err n) s t = absurd s
    by (fails k) is (Ok sent) s t = absurd s
    by (fails k) is (Err n) s t =
        let none : k ≡ fault.UnknownParent → lack ≡ None = subst (ReactsRightly lack) is reacts in
        let only = t.only (λ h. none (sym s ∙ h)) in
        record {
          memory = a.memory;
          state = a.state;
          tells = subst (λ y. TellsReaction self a.memory y e) (sym is) (record {
            out = ap (map sent_of) only.out;
            accepted = only.accepted;
            answer = only.answer ∙ ap Some s;
          });
        }
    by (asks_for sender d) is (Ok sent) s t = absurd s
    by (asks_for sender d) is (Err n) s t =
        let there : lack ≡ Some (sender, d) = subst (ReactsRightly lack) is reacts in
        let asks = t.asks sender d there s in
        let any = admits-any self a.memory x old sender d asks.memory is in
        record {
          memory = asks.memory;
          state = a.state ∙ ap (λ (y : Replica × Reaction). y.0) (sym any);
          tells = subst (λ y. TellsReaction self asks.memory y e)
              (sym (ap (λ (y : Replica × Reaction). y.1) any ∙ is)) asks.tells;
        }

-- ---- refusals

lack-true : (n : Fault) → is_lack n ≡ true → n ≡ fault.UnknownParent
lack-true fault.UnknownParent e = refl
lack-true n e = absurd (let k : false ≡ true = e in cc)

lack-false : (n : Fault) → is_lack n ≡ false → n ≡ fault.UnknownParent → ⊥
lack-false n e k = let h : true ≡ false = subst (λ (x : Fault). is_lack x ≡ false) k e in cc

-- no block was lacking
pub nothing-lacked : (self : Identity) (lack : Option (ℕ × Bytes)) (n : Fault) (e : Effect) → lack ≡ None
    → OnlyRefuses n e → Refuses self lack n e
nothing-lacked self lack n e none only = record {
  asks = λ to block is k. absurd (never to block (sym none ∙ is));
  only = λ h. only;
}
  where
    never : (to : ℕ) (block : Bytes) → ◌≡◌ {A = Option (ℕ × Bytes)} None (Some (to, block)) → ⊥
    never to block k = cc

-- it was refused for something else
pub refused-otherwise : (self : Identity) (lack : Option (ℕ × Bytes)) (n : Fault) (e : Effect)
    → is_lack n ≡ false → OnlyRefuses n e → Refuses self lack n e
refused-otherwise self lack n e is only = record {
  asks = λ to block there k. absurd (lack-false n is k);
  only = λ h. only;
}

-- it was lacking
pub lack-refused : (self : Identity) (lack : Option (ℕ × Bytes)) (to : ℕ) (block : Bytes) (n : Fault)
    (r : Result Effect Fault)
    → lack ≡ Some (to, block) → is_lack n ≡ true → IfOk r (λ e. Asks self to block e)
    → IfOk r (λ e. Refuses self lack n e)
lack-refused self lack to block n (Ok e) there is a = record {
  asks = λ t b found k.
      let same : (to, block) ≡ (t, b) = some_is (sym there ∙ found) in
      subst (λ (p : ℕ × Bytes). Asks self p.0 p.1 e) same a;
  only = λ h. absurd (never (sym there ∙ h (lack-true n is)));
}
  where
    some_is : {t : ℕ} {b : Bytes} → ◌≡◌ {A = Option (ℕ × Bytes)} (Some (to, block)) (Some (t, b))
        → ◌≡◌ {A = ℕ × Bytes} (to, block) (t, b)
    some_is k = cc

    never : ◌≡◌ {A = Option (ℕ × Bytes)} (Some (to, block)) None → ⊥
    never k = cc
lack-refused self lack to block n (Err x) there is a = tt

-- ---- what isn't admitted

-- a refusal of the checks is the replica's answer, and changes nothing
rejected-answers : (self : Identity) (x : Checked) (old : Replica) (n m : Fault)
    (result : Result (List SentBytes) Fault) → x ≡ rejected m → n ≡ m → result ≡ Err n
    → AnswersTo self x old old result
rejected-answers self x old n m result is same e = record {
  memory = ample;
  state = ap (λ (y : Checked). (admits self ample y old).0) (sym is);
  answer = subst (λ (y : Checked). Shows (admits self ample y old).1 result) (sym is)
      (subst (Shows (fails m)) (sym e) same);
}

pub refused-answers : (checks : Identity → Frame → Checked) (keys : Keys) (bytes : Bor Bytes) (old : Replica)
    (n : Fault) (result : Result (List SentBytes) Fault)
    → AdmitsBy checks keys bytes (Err n) → result ≡ Err n
    → Answers checks (identity_of keys) bytes.now old old result
refused-answers checks keys bytes old n result (read, is_read, h) e =
    record { read = read; is_read = is_read; answers = by read h }
  where
    frame-checked : (x : Checked) → admitted.Answers keys bytes x (Err n)
        → AnswersTo (identity_of keys) x old old result
    frame-checked (passes i) h = absurd h
    frame-checked (rejected m) h = rejected-answers (identity_of keys) (rejected m) old n m result refl h e

    same : ◌≡◌ {A = Result entering.Input Fault} (Err n) (Err fault.NotAFrame) → n ≡ fault.NotAFrame
    same k = cc

    by : (o : Option Frame) → AnswersReadBy checks keys bytes (Err n) o
        → AnswersTo (identity_of keys) (checked checks (identity_of keys) o) old old result
    by None h =
        rejected-answers (identity_of keys) (rejected fault.NotAFrame) old n fault.NotAFrame result refl
        (same h) e
    by (Some f) h = frame-checked (checks (identity_of keys) f) h

pub refused-copies : (keys : Keys) (frames : List (Bor Bytes)) (old : Replica) (n : Fault)
    (result : Result (List SentBytes) Fault)
    → Gathers keys frames (Err n) → result ≡ Err n
    → AnswersCopies (identity_of keys) frames old old result
refused-copies keys frames old n result (reads, are_read, h) e =
    record { reads = reads; are_read = are_read; answers = by (check_gathered (identity_of keys) _) h }
  where
    by : (x : Checked) → AnswersGathered keys x (Err n) → AnswersTo (identity_of keys) x old old result
    by (passes i) h = absurd h
    by (rejected m) h = rejected-answers (identity_of keys) (rejected m) old n m result refl h e

-- ---- what is admitted

-- a step is an answer
pub stepped-answers : (self : Identity) (i : Input) (x : Checked) (old new : Replica)
    (result : Result (List SentBytes) Fault) → x ≡ passes i → Stepped self i old result new
    → AnswersTo self x old new result
stepped-answers self i x old new result is t = record {
  memory = t.memory;
  state = t.state ∙ ap (λ (y : Checked). (admits self t.memory y old).0) (sym is);
  answer = subst (λ (y : Checked). Shows (admits self t.memory y old).1 result) (sym is) t.answer;
}

pub admitted-answers : (checks : Identity → Frame → Checked) (keys : Keys) (bytes : Bor Bytes)
    (old new : Replica) (input : entering.Input) (result : Result (List SentBytes) Fault)
    → AdmitsBy checks keys bytes (Ok input) → Stepped (identity_of keys) (input_of input) old result new
    → Answers checks (identity_of keys) bytes.now old new result
admitted-answers checks keys bytes old new input result (read, is_read, h) t =
    record { read = read; is_read = is_read; answers = by read h }
  where
    frame-checked : (x : Checked) → admitted.Answers keys bytes x (Ok input)
        → AnswersTo (identity_of keys) x old new result
    frame-checked (passes i) h =
        stepped-answers (identity_of keys) (input_of input) (passes i) old new result (ap passes (sym h.0)) t
    frame-checked (rejected m) h = absurd h

    never : ◌≡◌ {A = Result entering.Input Fault} (Ok input) (Err fault.NotAFrame) → ⊥
    never k = cc

    by : (o : Option Frame) → AnswersReadBy checks keys bytes (Ok input) o
        → AnswersTo (identity_of keys) (checked checks (identity_of keys) o) old new result
    by None h = absurd (never h)
    by (Some f) h = frame-checked (checks (identity_of keys) f) h

pub admitted-copies : (keys : Keys) (frames : List (Bor Bytes)) (old new : Replica) (input : entering.Input)
    (result : Result (List SentBytes) Fault)
    → Gathers keys frames (Ok input) → Stepped (identity_of keys) (input_of input) old result new
    → AnswersCopies (identity_of keys) frames old new result
admitted-copies keys frames old new input result (reads, are_read, h) t =
    record { reads = reads; are_read = are_read; answers = by (check_gathered (identity_of keys) _) h }
  where
    by : (x : Checked) → AnswersGathered keys x (Ok input) → AnswersTo (identity_of keys) x old new result
    by (passes i) h =
        stepped-answers (identity_of keys) (input_of input) (passes i) old new result (ap passes (sym h.0)) t
    by (rejected m) h = absurd h

-- ---- where there is an effect

-- who asks and who answers is the same
module _ (own keys : Keys) (same : identity_of own ≡ identity_of keys) (old new : Replica)
    (answer : Result (List SentBytes) Fault) where
  pub bytes-if : (checks : Identity → Frame → Checked) (bytes : Bytes) (lack : Option (ℕ × Bytes))
      (r : Result Effect Fault) → AreSizes keys.sizes
      → ((read : Option Frame)
      → IsRight (lacked_by keys.sizes read) (identity_of keys) (checked checks (identity_of keys) read)
      old.chronicle)
      → IsLackedBy keys.sizes bytes lack → Answers checks (identity_of keys) bytes old new answer
      → IfOk r (λ e. TellsAnswer (identity_of own) lack answer e)
      → IfOk r (λ e. TakesBytes checks (identity_of keys) bytes old new e)
  bytes-if checks bytes lack (Ok e) are right (frame, is_read, is) a t =
      let one : frame ≡ a.read =
      IsReadAs-unique keys.sizes are bytes frame a.read is_read a.is_read in
      let lacks : lacked_by keys.sizes a.read ≡ lack = ap (lacked_by keys.sizes) (sym one) ∙ sym is in
      record {
        read = a.read;
        is_read = a.is_read;
        takes = told lack (identity_of keys) (checked checks (identity_of keys) a.read) old new answer e
            (subst (λ (l : Option (ℕ × Bytes)). IsRight l (identity_of keys)
            (checked checks (identity_of keys) a.read) old.chronicle) lacks (right a.read))
            a.answers (subst (λ (i : Identity). TellsAnswer i lack answer e) same t);
      }
  bytes-if checks bytes lack (Err n) are right (frame, is_read, is) a t = tt

  pub copies-if : (frames : List (Bor Bytes)) (r : Result Effect Fault)
      → AnswersCopies (identity_of keys) frames old new answer
      → IfOk r (λ e. TellsAnswer (identity_of own) None answer e)
      → IfOk r (λ e. TakesCopies (identity_of keys) frames old new e)
  copies-if frames (Ok e) a t = record {
    reads = a.reads;
    are_read = a.are_read;
    takes = told None (identity_of keys) _ old new answer e (gathered-right (identity_of keys) _ old.chronicle)
        a.answers (subst (λ (i : Identity). TellsAnswer i None answer e) same t);
  }
  copies-if frames (Err n) a t = tt

  pub moves-if : (i : Input) (r : Result Effect Fault) → IsMove keys.sizes i
      → AnswersTo (identity_of keys) (passes i) old new answer
      → IfOk r (λ e. TellsAnswer (identity_of own) (asked_by i) answer e)
      → IfOk r (λ e. Takes (identity_of keys) (passes i) old new e)
  moves-if i (Ok e) move a t =
      told (asked_by i) (identity_of keys) (passes i) old new answer e
      (move-right keys.sizes (identity_of keys) i old.chronicle move) a
      (subst (λ (j : Identity). TellsAnswer j (asked_by i) answer e) same t)
  moves-if i (Err n) move a t = tt

-- an input that no frame brings is for anyone
pub move-addressed : (keys : Keys) (input : entering.Input) → IsMove keys.sizes (input_of input)
    → IsTrue (is_addressed keys input)
move-addressed keys entry.Timeout h = refl
move-addressed keys entry.Beat h = refl
move-addressed keys (entry.Prune height) h = refl
move-addressed keys (entry.Lead block) h = refl
move-addressed keys (entry.Ask to block) h = lt-ltb to (replicas keys.sizes) h
move-addressed keys (entry.Proposal p) h = absurd h
move-addressed keys (entry.Block p) h = absurd h
move-addressed keys (entry.Vote p) h = absurd h
move-addressed keys (entry.NewView p) h = absurd h
move-addressed keys (entry.Request p) h = absurd h
move-addressed keys (entry.Fetch p) h = absurd h
move-addressed keys (entry.OfferedProposal p) h = absurd h
move-addressed keys (entry.OfferedBlock p) h = absurd h
move-addressed keys (entry.SeenView p) h = absurd h
move-addressed keys (entry.Relayed p) h = absurd h
