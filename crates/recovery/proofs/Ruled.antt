-- Each step of a correct replica was due by an input whose tags were found right.
use Rattle.std.proofs.Common.{ℕ, ◌≡◌, ◌==◌, List, [], ◌∷◌, refl, sym, subst, None}
use Rattle.std.specs.Bool.{⊤}
use Rattle.std.proofs.lemmas.Bool.{cond_both, eqb-true}
use Rattle.definitions.specs.Chronicles.{Chronicle, Step}
use Rattle.definitions.specs.Checks.{Identity, findings}
use Rattle.definitions.specs.Frames.{Core, Frame}
use Rattle.definitions.specs.Frames as frame
use Rattle.definitions.specs.Rulings.{Input, Ruling.due, ruling, Input.proposal_in, Input.block_in}
use Rattle.definitions.specs.Rulings.{Input.offered_in, Input.relayed_in}
use Rattle.definitions.specs.Replicas.{MemorySupply, Replica, Reaction, step}
use Rattle.definitions.specs.Admission.{Checked.passes, check}
use Rattle.definitions.specs.Worlds.{World, Event, Happening, self_of}
use Rattle.definitions.specs.Runs.{refusal}
use Rattle.definitions.specs.Events.{Effect, party_of, effect, happens, brought, nothing, stepped, told, submitted}
use Rattle.definitions.proofs.Checks.{when-good}
use Rattle.definitions.proofs.Sound.{Outcome, Outcome.unchanged, Outcome.refused, Outcome.lacks}
use Rattle.definitions.proofs.Sound.{Outcome.conflict, Outcome.stood, Outcome.cut, step-outcome}
use Rattle.linear_law.proofs.Offers.{not_mine, IsOffered, IsOffered.by_proposal}
use Rattle.linear_law.proofs.Offers.{IsOffered.by_block, IsOffered.by_view, IsGathered, IsGathered.copies}
use Rattle.linear_law.proofs.Effects.{ComesFramed, Arises, Arises.of_checked, Arises.of_offer, Arises.of_gathered}
use Rattle.linear_law.proofs.Effects.{Arises.of_timeout, Arises.of_beat, Arises.of_prune, Arises.of_lead}
use Rattle.linear_law.proofs.Effects.{Arises.of_ask, Effects, Effects.idle, Effects.step_by, Effects.hearing}
use Rattle.linear_law.proofs.Effects.{Effects.submitting, effects}
use Rattle.linear_law.proofs.Runs.{arises-checked}
use Rattle.linear_law.proofs.WholeRuns.{IsWell}
use Rattle.recovery.specs.Correct.{OfCorrect, chronicle_of}

-- what is said of a block in an input is what the replica found
abbrev pub IsFound : Identity → Input → Type 0
IsFound self (proposal_in w core q f) = f ≡ findings self core q
IsFound self (block_in s core q f) = f ≡ findings self core q
IsFound self (offered_in w s core q f) = f ≡ findings self core q
IsFound self (relayed_in ss core q f) = f ≡ findings self core q
IsFound self i = ⊤

-- a step was due by such an input
abbrev pub WasDue : Identity → Step → Chronicle → Type 0
WasDue self st c = (i : Input) × IsFound self i × (ruling self i c ≡ due st)

-- so was each of a chronicle
abbrev pub AreRuled : Identity → Chronicle → Type 0
AreRuled self [] = ⊤
AreRuled self (st ∷ c) = WasDue self st c × AreRuled self c

-- ---- inputs

check-found : (self : Identity) (f : Frame) (i : Input) → check self f ≡ passes i → IsFound self i
unfolding check
check-found self (frame.proposal view core q v) i e = subst (IsFound self) (when-good _ _ _ e).1 refl
check-found self (frame.block sender core q t) i e = subst (IsFound self) (when-good _ _ _ e).1 refl
check-found self (frame.request c) i e = subst (IsFound self) (when-good _ _ _ e).1 tt
check-found self (frame.vote d b) i e = subst (IsFound self) (when-good _ _ _ e).1 tt
check-found self (frame.new_view w s q v) i e = subst (IsFound self) (when-good _ _ _ e).1 tt
check-found self (frame.fetch s d t) i e = subst (IsFound self) (when-good _ _ _ e).1 tt
check-found self (frame.reply r c s p t g) i e = absurd (not_mine i e)

offer-found : (self : Identity) (f : Frame) (i : Input) → IsOffered self f i → IsFound self i
offer-found self f i (by_proposal view core q v) = refl
offer-found self f i (by_block sender core q t) = refl
offer-found self f i (by_view view sender q v) = tt

gathered-found : (self : Identity) (fs : List Frame) (i : Input) → IsGathered self fs i → IsFound self i
gathered-found self fs i (copies sender core q t more same) = refl

arises-found : (w : World) (e : Event) (i : Input) → Arises w e i → IsFound (self_of w (party_of e)) i
arises-found w e i (of_checked f j b g) = check-found (self_of w (party_of e)) f j g
arises-found w e i (of_offer f j b g u) = offer-found (self_of w (party_of e)) f j g
arises-found w e i (of_gathered j b g u) = gathered-found (self_of w (party_of e)) (brought w e) j g
arises-found w e i of_timeout = tt
arises-found w e i of_beat = tt
arises-found w e i (of_prune height) = tt
arises-found w e i (of_lead d u) = tt
arises-found w e i (of_ask r d h) = tt

-- ---- events

outcome-ruled : (self : Identity) (i : Input) (r : Replica) (x : Replica × Reaction) → IsFound self i
    → AreRuled self r.chronicle → Outcome self r.chronicle (ruling self i r.chronicle) r x
    → AreRuled self x.0.chronicle
outcome-ruled self i r x f h (unchanged n k) = h
outcome-ruled self i r x f h (refused stopping n u k) = h
outcome-ruled self i r x f h (lacks sender d u) = h
outcome-ruled self i r x f h (conflict st u e k) = h
outcome-ruled self i r x f h (stood st u e k) = ((i, f, e), h)
outcome-ruled self i r x f h (cut st n u e k) = ((i, f, e), h)

abbrev pub AllRuled : World → Type 0
AllRuled w = OfCorrect w (λ r. AreRuled (self_of w r) (chronicle_of w r))

effect-ruled : (Known : Core → Type 0) (w : World) (e : Event) (m : MemorySupply) (f : Effect) → IsWell Known w
    → AllRuled w → Effects w e m f → OfCorrect w (λ r. AreRuled (self_of w r) (f.replica r).chronicle)
unfolding nothing stepped told submitted
effect-ruled Known w e m f g h (idle a n) = h
effect-ruled Known w e m f g h (step_by i c ar) = λ r d.
    let p : ℕ = party_of e in
    let self : Identity = self_of w p in
    let out = step-outcome self m i (w.replica p) (arises-checked w e i ar) (g.good.run.row.sound p c) in
    cond_both (r == p) (step self m i (w.replica p)).0 (w.replica r) (λ (x : Replica). AreRuled
    (self_of w r) x.chronicle)
    (λ t. subst (λ (j : ℕ). AreRuled (self_of w j) (step self m i (w.replica p)).0.chronicle) (sym (eqb-true r p t))
    (outcome-ruled self i (w.replica p) _ (arises-found w e i ar) (h p c) out))
    (λ t. h r d)
effect-ruled Known w e m f g h (hearing x b a n k l) = h
effect-ruled Known w e m f g h (submitting c payload n k) = h

-- an event leaves all ruled
pub happens-ruled : (Known : Core → Type 0) (w : World) (h : Happening) → IsWell Known w → ComesFramed w h.0
    → refusal w h.0 ≡ None → AllRuled w → AllRuled (happens w h)
unfolding happens
happens-ruled Known w h g framed ok all =
    effect-ruled Known w h.0 h.1 (effect w h) g all (effects w h.0 h.1 framed ok)
