-- The whole step of a replica, from that of what it keeps.
use Rattle.ids.specs.declared.fault.Fault.TheVariants as fault
use Rattle.std.proofs.Common.{ℕ, true, false, true≢false, suc, ◌≡◌, ◌⊎◌, length, refl, sym, ap, ◌∙◌, subst}
use Rattle.std.proofs.Common.{inl, inr, Err}
use Rattle.std.proofs.lemmas.Bool.{cond_both}
use Rattle.definitions.specs.Keyrings.{Keys}
use Rattle.definitions.specs.Checks.{Identity, identity_of}
use Rattle.definitions.specs.Chronicles.{Step, Chronicle}
use Rattle.definitions.specs.Rulings.{Input, Ruling, Ruling.missing, Ruling.refusing, ruling, conflicts}
use Rattle.definitions.specs.Rulings as rulings
use Rattle.definitions.specs.Replicas.{MemorySupply, ample, refused_at_once, refused_after, running, Standing}
use Rattle.definitions.specs.Replicas.{Replica, Reaction, on_step, on_ruling, step, executes}
use Rattle.replica.specs.Kept.{Variables, StateParts}
use Rattle.replica.specs.Steps.{Stepped, is_running, standing_of}
use Rattle.replica.specs.declared.standing.Standing as mark
use Rattle.replica.specs.declared.standing.Standing.TheVariants.{Running, Stopped, CutShort}
use Rattle.replica.specs.Advances.{IsWholeOf, Advances, answer_of, standing_after}
use Rattle.replica.specs.declared.standing.Taken.{Taken}
use Rattle.definitions.specs.Histories.{History}

-- a step adds one to the chronicle or nothing
abbrev IsGrown : Chronicle → Replica × Reaction → Type 0
IsGrown c r = (length r.0.chronicle ≡ length c) ⊎ (length r.0.chronicle ≡ suc (length c))

step-grows : (self : Identity) (m : MemorySupply) (st : Step) (c : Chronicle)
    → IsGrown c (on_step self m st c)
unfolding on_step
step-grows self ample st c = cond_both (conflicts st c) _ _ (IsGrown c) (λ e. inl refl) (λ e. inr refl)
step-grows self refused_at_once st c = inl refl
step-grows self (refused_after k) st c =
    cond_both (conflicts st c) _ _ (IsGrown c) (λ e. inl refl)
    (λ e. cond_both (executes st c) _ _ (IsGrown c) (λ x. inr refl) (λ x. inl refl))

ruling-grows : (self : Identity) (m : MemorySupply) (v : Ruling) (c : Chronicle)
    → IsGrown c (on_ruling self m v c)
unfolding on_ruling
ruling-grows self m (rulings.due st) c = step-grows self m st c
ruling-grows self m (missing sender d) c = inl refl
ruling-grows self m (refusing n) c = inl refl

pub grows-from : (keys : Keys) (i : Input) (c : Chronicle) (taken : Taken) (s : StateParts) (h : History)
    → Advances keys i c taken s h
    → (length s.variables.chronicle ≡ length c) ⊎ (length s.variables.chronicle ≡ suc (length c))
grows-from keys i c taken s h t =
    let e =
    ap (λ (v : Variables). length v.chronicle) t.whole.state.same
    ∙ ap (λ (r : Replica). length r.chronicle) (sym t.replica_is) in
    elim (ruling-grows (identity_of keys) t.memory (ruling (identity_of keys) i c) c)
    [ inl k ↦ inl (e ∙ k) | inr k ↦ inr (e ∙ k) ]

-- what is kept after it
pub kept-from :
    (keys : Keys) (i : Input) (c : Chronicle) (taken : Taken) (s : StateParts) (h : History) (m : Standing)
    → Advances keys i c taken s h → m ≡ standing_after s.variables.horizon taken (length h)
    → IsWholeOf keys (record { chronicle = s.variables.chronicle; standing = m }) s h
kept-from keys i c taken s h m t e =
    subst (λ (r : Replica). IsWholeOf keys r s h) (λ j.
    record {
      chronicle = (ap (λ (v : Variables). v.chronicle) (sym t.whole.state.same)) j;
      standing = (t.standing ∙ sym e) j;
    }) t.whole

-- the step of a replica that goes on
pub stepped-from : (keys : Keys) (i : Input) (old : Replica) (c : Chronicle) (taken : Taken) (s : StateParts)
    (h : History) (m : Standing) → old ≡ record { chronicle = c; standing = running }
    → Advances keys i c taken s h
    → m ≡ standing_after s.variables.horizon taken (length h)
    → Stepped (identity_of keys) i old (answer_of taken)
    (record { chronicle = s.variables.chronicle; standing = m })
unfolding step
stepped-from keys i old c taken s h m e t k =
    let same : t.replica ≡ record { chronicle = s.variables.chronicle; standing = m } =
    λ j. record {
      chronicle = (ap (λ (v : Variables). v.chronicle) (sym t.whole.state.same)) j;
      standing = (t.standing ∙ sym k) j;
    } in
    subst (λ (x : Replica). Stepped (identity_of keys) i x (answer_of taken)
    (record { chronicle = s.variables.chronicle; standing = m })) (sym e)
    (record { memory = t.memory; state = sym (t.replica_is ∙ same); answer = t.answer })

-- a stopped one never changes
pub stepped-not : (keys : Keys) (i : Input) (old : Replica) (c : Chronicle) (m : mark.Standing) (held : ℕ)
    → old ≡ record { chronicle = c; standing = standing_of m held } → is_running m ≡ false
    → Stepped (identity_of keys) i old (Err fault.Stopped) old
unfolding step
stepped-not keys i old c Running held e n = absurd (true≢false n)
stepped-not keys i old c (Stopped why) held e n =
    subst (λ (x : Replica). Stepped (identity_of keys) i x (Err fault.Stopped) x) (sym e)
    (record { memory = ample; state = refl; answer = refl })
stepped-not keys i old c CutShort held e n =
    subst (λ (x : Replica). Stepped (identity_of keys) i x (Err fault.Stopped) x) (sym e)
    (record { memory = ample; state = refl; answer = refl })

abbrev pub at : Chronicle → Standing → Replica
at c m = record { chronicle = c; standing = m }

pub goes-on : (c : Chronicle) (m : mark.Standing) (held : ℕ) → is_running m ≡ true
    → at c (standing_of m held) ≡ at c running
goes-on c Running held e = refl
goes-on c (Stopped why) held e = absurd (true≢false (sym e))
goes-on c CutShort held e = absurd (true≢false (sym e))
