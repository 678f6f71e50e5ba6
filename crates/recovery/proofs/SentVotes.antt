-- A correct replica that goes on has sent each of its votes.
use Rattle.std.proofs.Common.{ℕ, ◌≡◌, ◌==◌, Bool, true, false, cond, List, [], ◌∷◌, ◌++◌, map, refl, sym, ap, subst}
use Rattle.std.proofs.Common.{inl, inr, None}
use Rattle.std.proofs.lemmas.Bool.{cond_both, eqb-true, true≢false}
use Rattle.definitions.specs.Lists.{Among}
use Rattle.definitions.specs.Branches.{Branch}
use Rattle.definitions.specs.Chronicles.{Chronicle, Step, Step.took_block, Step.noted, voted_blocks}
use Rattle.definitions.specs.Checks.{Identity}
use Rattle.definitions.specs.Rulings.{Ruling, ruling}
use Rattle.definitions.specs.Replicas.{MemorySupply, Replica, Reaction, step, Standing.running, Standing.stopped}
use Rattle.definitions.specs.Replicas.{Standing.cut_short}
use Rattle.definitions.specs.Sendings.{Sending, sendings, vote_frame, new_replies, To.to_party}
use Rattle.definitions.specs.Frames.{Core}
use Rattle.definitions.specs.States.{view}
use Rattle.ids.specs.Sizes.{leader}
use Rattle.definitions.specs.Worlds.{World, Sent, Event, Happening, self_of}
use Rattle.definitions.specs.Runs.{refusal}
use Rattle.definitions.specs.Events.{Effect, party_of, effect, happens, nothing, stepped, told, submitted, out_of}
use Rattle.definitions.proofs.Lists.{Among-before, Among-after}
use Rattle.definitions.proofs.Sound.{Outcome, Outcome.unchanged, Outcome.refused, Outcome.lacks}
use Rattle.definitions.proofs.Sound.{Outcome.conflict, Outcome.stood, Outcome.cut, step-outcome}
use Rattle.linear_law.proofs.Effects.{ComesFramed, Effects, Effects.idle, Effects.step_by, Effects.hearing}
use Rattle.linear_law.proofs.Effects.{Effects.submitting, effects}
use Rattle.linear_law.proofs.Runs.{arises-checked}
use Rattle.linear_law.proofs.WholeRuns.{IsWell}
use Rattle.recovery.specs.Correct.{OfCorrect}

-- its vote for the block stands in the record
abbrev pub SentVote : List Sent → Identity → ℕ → Branch → Type 0
SentVote sent self r x = (s : Sent) × Among s sent × (s.sender ≡ r) × (s.frame ≡ vote_frame self x)

abbrev pub HasSent : List Sent → Identity → ℕ → Replica → Type 0
HasSent sent self r y = y.standing ≡ running → (x : Branch) → Among x (voted_blocks y.chronicle)
    → SentVote sent self r x

abbrev pub VotesSent : World → Type 0
VotesSent w = OfCorrect w (λ r. HasSent w.sent (self_of w r) r (w.replica r))

sent-more : (xs ys : List Sent) (self : Identity) (r : ℕ) (x : Branch) → SentVote xs self r x
    → SentVote (xs ++ ys) self r x
sent-more xs ys self r x s = (s.0, Among-before s.0 xs ys s.1, s.2, s.3)

-- what goes out in an event
abbrev out-sent : World → ℕ → List Sending → List Sent
out-sent w p os = map (λ o. record { event = w.now; sender = p; to = o.0; frame = o.1 }) os

-- the first of what goes out with a vote
first-out : (w : World) (p : ℕ) (self : Identity) (x : Branch) (o : Sending) (os more : List Sending) (t : Bool)
    → t ≡ true → o.1 ≡ vote_frame self x → (xs : List Sent)
    → SentVote (xs ++ out-sent w p (cond t (o ∷ []) [] ++ more)) self p x
first-out w p self x o os more true e f xs =
    (record { event = w.now; sender = p; to = o.0; frame = o.1 }, Among-after _ xs _ (inl refl), refl, f)
first-out w p self x o os more false e f xs = absurd (true≢false (sym e))

-- a vote that a step gives goes out
step-sends : (w : World) (p : ℕ) (self : Identity) (st : Step) (c : Chronicle) (xs : List Sent) (x : Branch)
    → Among x (voted_blocks (st ∷ c)) → (Among x (voted_blocks c) → SentVote xs self p x)
    → SentVote (xs ++ out-sent w p (sendings self st c)) self p x
unfolding voted_blocks sendings
step-sends w p self (noted n) c xs x m old = sent-more xs _ self p x (old m)
step-sends w p self (took_block a) c xs x m old = by a.voted refl m
  where
    out : List Sent
    out = out-sent w p (sendings self (took_block a) c)

    by : (t : Bool) → a.voted ≡ t → Among x (cond t (a.branch ∷ voted_blocks c) (voted_blocks c))
        → SentVote (xs ++ out) self p x
    by true e (inl i) =
        first-out w p self x (to_party (leader self.sizes (view self.sizes c)), vote_frame self a.branch) []
        (new_replies self (took_block a) c) a.voted e (ap (vote_frame self) (sym i)) xs
    by true e (inr k) = sent-more xs out self p x (old k)
    by false e k = sent-more xs out self p x (old k)

pub stopped-apart : stopped ≡ running → ⊥
stopped-apart e = cc

pub cut-apart : (n : ℕ) → cut_short n ≡ running → ⊥
cut-apart n e = cc

-- what a step's outcome leaves
outcome-votes : (w : World) (p : ℕ) (self : Identity) (m : MemorySupply) (v : Ruling) (r : Replica)
    (x : Replica × Reaction) → Outcome self r.chronicle v r x → HasSent w.sent self p r
    → HasSent (w.sent ++ out-sent w p (out_of self m x.1)) self p x.0
outcome-votes w p self m v r x (unchanged n k) h = λ s y i. sent-more w.sent _ self p y (h s y i)
outcome-votes w p self m v r x (refused stopping n u k) h = λ s y i. sent-more w.sent [] self p y (h u y i)
outcome-votes w p self m v r x (lacks sender d u) h = λ s y i. sent-more w.sent _ self p y (h u y i)
outcome-votes w p self m v r x (conflict st u e k) h = λ s y i. absurd (stopped-apart s)
outcome-votes w p self m v r x (stood st u e k) h = λ s y i. step-sends w p self st r.chronicle w.sent y i (h u y)
outcome-votes w p self m v r x (cut st n u e k) h = λ s y i. absurd (cut-apart _ s)

effect-votes : (Known : Core → Type 0) (w : World) (e : Event) (m : MemorySupply) (f : Effect) → IsWell Known w
    → VotesSent w → Effects w e m f
    → OfCorrect w (λ r. HasSent (w.sent ++ out-sent w (party_of e) f.out) (self_of w r) r (f.replica r))
unfolding nothing stepped told submitted
effect-votes Known w e m f g h (idle a n) = λ r c s y i. sent-more w.sent [] (self_of w r) r y (h r c s y i)
effect-votes Known w e m f g h (step_by i c ar) = λ r d.
    let p : ℕ = party_of e in
    let self : Identity = self_of w p in
    let x = step self m i (w.replica p) in
    let out = step-outcome self m i (w.replica p) (arises-checked w e i ar) (g.good.run.row.sound p c) in
    cond_both (r == p) x.0 (w.replica r)
    (λ (y : Replica). HasSent (w.sent ++ out-sent w p (out_of self m x.1)) (self_of w r) r y)
    (λ t. subst (λ (j : ℕ). HasSent (w.sent ++ out-sent w p (out_of self m x.1)) (self_of w j) j x.0)
    (sym (eqb-true r p t))
    (outcome-votes w p self m (ruling self i (w.replica p).chronicle) (w.replica p) x out (h p c)))
    (λ t s y k. sent-more w.sent _ (self_of w r) r y (h r d s y k))
effect-votes Known w e m f g h (hearing x b a n k l) = λ r c s y i. sent-more w.sent [] (self_of w r) r y (h r c s y i)
effect-votes Known w e m f g h (submitting c payload n k) =
    λ r d s y i. sent-more w.sent _ (self_of w r) r y (h r d s y i)

-- an event leaves each vote sent
pub happens-votes : (Known : Core → Type 0) (w : World) (h : Happening) → IsWell Known w → ComesFramed w h.0
    → refusal w h.0 ≡ None → VotesSent w → VotesSent (happens w h)
unfolding happens
happens-votes Known w h g framed ok all =
    effect-votes Known w h.0 h.1 (effect w h) g all (effects w h.0 h.1 framed ok)
