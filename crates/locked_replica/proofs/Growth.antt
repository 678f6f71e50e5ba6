-- What a replica has executed is never less after a step.
use Rattle.std.proofs.Common.{◌≡◌, ℕ, ◌+◌, ◌≤◌, false, [], ◌∷◌, List, length, min, refl, sym, ap, subst}
use Rattle.std.proofs.Common.{arith, le_refl, Result}
use Rattle.std.proofs.lemmas.Bool.{cond_both}
use Rattle.ids.specs.declared.fault.Fault.{Fault}
use Rattle.definitions.specs.Lists.{beginning}
use Rattle.definitions.proofs.Lists.{length-added, length-beginning}
use Rattle.definitions.specs.Checks.{Identity}
use Rattle.definitions.specs.Chronicles.{Step, Chronicle, history}
use Rattle.definitions.specs.Histories as H
use Rattle.definitions.specs.Chronicles as C
use Rattle.definitions.specs.Branches as B
use Rattle.definitions.specs.Rulings.{Input, Ruling, ruling, conflicts, Ruling.due, Ruling.missing}
use Rattle.definitions.specs.Rulings.{Ruling.refusing}
use Rattle.definitions.specs.Replicas.{MemorySupply, MemorySupply.ample, MemorySupply.refused_at_once}
use Rattle.definitions.specs.Replicas.{MemorySupply.refused_after}
use Rattle.definitions.specs.Replicas.{Standing, Standing.running, Standing.stopped, Standing.cut_short}
use Rattle.definitions.specs.Replicas.{Replica, Reaction, held_history, executes, stops, on_step, on_ruling}
use Rattle.definitions.specs.Replicas.{step}
use Rattle.linear_law.proofs.Replies.{history-grows}
use Rattle.signed_frames.specs.Outs.{SentBytes}
use Rattle.replica.specs.Steps.{Stepped}
use Rattle.locked_replica.specs.Kept.{mark_of}

longer : (s : Step) (c : Chronicle) → conflicts s c ≡ false → length (history c) ≤ length (history (s ∷ c))
longer s c h =
    let g = history-grows s c h in
    let a = length-added g.0 (history c) in
    let b = ap length g.1 in
    omega (arith, a, b)

cut : (s : Step) (c : Chronicle) (k : ℕ) → conflicts s c ≡ false
    → length (history c)
    ≤ length (beginning (min (length (history c) + k) (length (history (s ∷ c)))) (history (s ∷ c)))
cut s c k h =
    let more = longer s c h in
    let held = length-beginning (min (length (history c) + k) (length (history (s ∷ c)))) (history (s ∷ c))
    (omega arith) in
    omega (arith, more, held)

on_step-longer : (self : Identity) (m : MemorySupply) (s : Step) (c : Chronicle)
    → length (history c) ≤ length (held_history (on_step self m s c).0)
unfolding on_step held_history
on_step-longer self ample s c =
    cond_both (conflicts s c) _ _ (λ (p : Replica × Reaction). length (history c) ≤ length (held_history p.0))
    (λ e. le_refl _) (λ e. longer s c e)
on_step-longer self refused_at_once s c = le_refl _
on_step-longer self (refused_after k) s c =
    cond_both (conflicts s c) _ _
    (λ (p : Replica × Reaction). length (history c) ≤ length (held_history p.0)) (λ e. le_refl _)
    (λ e. cond_both (executes s c) _ _
    (λ (p : Replica × Reaction). length (history c) ≤ length (held_history p.0)) (λ x. cut s c k e)
    (λ x. le_refl _))

on_ruling-longer : (self : Identity) (m : MemorySupply) (v : Ruling) (c : Chronicle)
    → length (history c) ≤ length (held_history (on_ruling self m v c).0)
unfolding on_ruling held_history
on_ruling-longer self m (due s) c = on_step-longer self m s c
on_ruling-longer self m (missing sender d) c = le_refl _
on_ruling-longer self m (refusing n) c =
    cond_both (stops n c) stopped running (λ (s : Standing). length (history c)
    ≤ length (held_history (record { chronicle = c; standing = s }))) (λ e. le_refl _) (λ e. le_refl _)

step-longer : (self : Identity) (m : MemorySupply) (i : Input) (c : Chronicle) (s : Standing)
    → length (held_history (record { chronicle = c; standing = s }))
    ≤ length (held_history (step self m i (record { chronicle = c; standing = s })).0)
unfolding step held_history
step-longer self m i c running = on_ruling-longer self m (ruling self i c) c
step-longer self m i c stopped = le_refl _
step-longer self m i c (cut_short held) = le_refl _

pub mark_grows : (self : Identity) (i : Input) (old new : Replica) (answer : Result (List SentBytes) Fault)
    → Stepped self i old answer new → mark_of old ≤ mark_of new
mark_grows self i old new answer stepped =
    subst (λ (r : Replica). mark_of old ≤ mark_of r) (sym stepped.state)
    (step-longer self stepped.memory i old.chronicle old.standing)

first : (s : Standing) → length (held_history (record { chronicle = []; standing = s })) ≡ 0
unfolding held_history history H.history_of C.executed B.highest C.decided C.decided_by C.taken_blocks
    beginning
first running = refl
first stopped = refl
first (cut_short held) = refl

-- a replica that has made no step has executed nothing
pub mark_first : (r : Replica) → r.chronicle ≡ [] → mark_of r ≡ 0
mark_first r none = subst (λ (c : Chronicle). mark_of (record { chronicle = c; standing = r.standing }) ≡ 0)
    (sym none) (first r.standing)
