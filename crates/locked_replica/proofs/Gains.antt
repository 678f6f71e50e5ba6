-- By how many steps a chronicle grows, by the answer.
use Rattle.std.proofs.Common.{◌≡◌, ◌⊎◌, suc, ◌+◌, List, length, refl, sym, ap, ◌∙◌, subst, inl, inr, arith}
use Rattle.std.proofs.Common.{Result, Ok, Err}
use Rattle.std.proofs.lemmas.Bool.{cond_both}
use Rattle.ids.specs.declared.fault.Fault.{Fault}
use Rattle.ids.specs.declared.fault.Fault.TheVariants as fault
use Rattle.definitions.specs.Checks.{Identity}
use Rattle.definitions.specs.Chronicles.{Step}
use Rattle.definitions.specs.Rulings.{Input, Ruling, ruling, conflicts, Ruling.due, Ruling.missing}
use Rattle.definitions.specs.Rulings.{Ruling.refusing}
use Rattle.definitions.specs.Replicas.{MemorySupply, MemorySupply.ample, MemorySupply.refused_at_once}
use Rattle.definitions.specs.Replicas.{MemorySupply.refused_after}
use Rattle.definitions.specs.Replicas.{Standing, Standing.running, Standing.stopped, Standing.cut_short}
use Rattle.definitions.specs.Replicas.{Replica, Reaction, Reaction.sends_out, Reaction.fails}
use Rattle.definitions.specs.Replicas.{Reaction.asks_for, executes, on_step, on_ruling, step}
use Rattle.signed_frames.specs.Outs.{SentBytes}
use Rattle.replica.specs.Steps.{Shows, Stepped}
use Rattle.turns.specs.Shares.{ShareState, with_more_steps, Counts}
use Rattle.locked_replica.specs.Kept.{gained}

-- a reaction, and by how much the chronicle grew with it
abbrev Grows : Replica → Replica × Reaction → Type 0
Grows r (new, sends_out out) = length new.chronicle ≡ suc (length r.chronicle)
Grows r (new, fails n) =
    (length new.chronicle ≡ length r.chronicle)
    ⊎ ((n ≡ fault.Memory) × (length new.chronicle ≡ suc (length r.chronicle)))
Grows r (new, asks_for sender d) = length new.chronicle ≡ length r.chronicle

on_step-grows : (self : Identity) (m : MemorySupply) (s : Step) (r : Replica)
    → Grows r (on_step self m s r.chronicle)
unfolding on_step
on_step-grows self ample s r = cond_both (conflicts s r.chronicle) _ _ (Grows r) (λ e. inl refl) (λ e. refl)
on_step-grows self refused_at_once s r = inl refl
on_step-grows self (refused_after k) s r =
    cond_both (conflicts s r.chronicle) _ _ (Grows r) (λ e. inl refl)
    (λ e. cond_both (executes s r.chronicle) _ _ (Grows r) (λ x. inr (refl, refl)) (λ x. inl refl))

on_ruling-grows : (self : Identity) (m : MemorySupply) (v : Ruling) (r : Replica)
    → Grows r (on_ruling self m v r.chronicle)
unfolding on_ruling
on_ruling-grows self m (due s) r = on_step-grows self m s r
on_ruling-grows self m (missing sender d) r = refl
on_ruling-grows self m (refusing n) r = inl refl

step-grows : (self : Identity) (m : MemorySupply) (i : Input) (r : Replica) → Grows r (step self m i r)
unfolding step
step-grows self m i r = by r.standing
  where
    by : (s : Standing)
        → Grows r (elim s as (λ x. Replica × Reaction) [
          | running ↦
              on_ruling self m (ruling self i r.chronicle) r.chronicle
          | stopped ↦ (r, fails fault.Stopped)
          | cut_short held ↦ (r, fails fault.Stopped)
        ])
    by running = on_ruling-grows self m (ruling self i r.chronicle) r
    by stopped = inl refl
    by (cut_short held) = inl refl

-- a share counts what was gained
one_more : (share : ShareState) (old new : Replica) → length new.chronicle ≡ suc (length old.chronicle)
    → with_more_steps share (gained old new) ≡ with_more_steps share 1
one_more share old new e = ap (with_more_steps share) (omega (arith, e))

none_more : (share : ShareState) (old new : Replica) → length new.chronicle ≡ length old.chronicle
    → with_more_steps share (gained old new) ≡ share
none_more share old new e =
    let none : share.count + gained old new ≡ share.count = omega (arith, e) in
    ap (λ n. record share { count = n }) none

by_answer :
    (share : ShareState) (old : Replica) (x : Replica × Reaction) (answer : Result (List SentBytes) Fault)
    → Grows old x → Shows x.1 answer → Counts share answer (with_more_steps share (gained old x.0))
by_answer share old (new, sends_out out) (Ok sent) g s = one_more share old new g
by_answer share old (new, fails m) (Err n) g s =
    elim g [
      | inl same ↦ inl (none_more share old new same)
      | inr more ↦ inr (s ∙ more.0, one_more share old new more.1)
    ]
by_answer share old (new, asks_for sender d) (Err n) g s = inl (none_more share old new g)
by_answer share old (new, sends_out out) (Err n) g s = absurd s
by_answer share old (new, fails m) (Ok sent) g s = absurd s
by_answer share old (new, asks_for sender d) (Ok sent) g s = absurd s

-- what a share counts of a step
pub step-counts : (share share' : ShareState) (self : Identity) (i : Input) (old new : Replica)
    (answer : Result (List SentBytes) Fault) → Stepped self i old answer new
    → share' ≡ with_more_steps share (gained old new) → Counts share answer share'
step-counts share share' self i old new answer stepped more =
    let state = stepped.state in
    let counts = by_answer share old (step self stepped.memory i old) answer
    (step-grows self stepped.memory i old) stepped.answer in
    subst (Counts share answer) (ap (λ r. with_more_steps share (gained old r)) (sym state) ∙ sym more) counts
