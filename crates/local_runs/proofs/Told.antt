-- Events that can come to a process alone: what is known of them, in any world of a run.
use Rattle.ids.specs.declared.fault.Fault.{Fault}
use Rattle.ids.specs.declared.fault.Fault.TheVariants as fault
use Rattle.std.proofs.Common.{ℕ, ◌≡◌, ◌==◌, ◌<◌, not, Bool, true, false, List, [], ◌∷◌, refl, sym, arith}
use Rattle.std.proofs.Common.{subst, Option, Some, None, cond}
use Rattle.std.specs.Bool.{⊤}
use Rattle.std.specs.List.{AllByRecursion, list_all}
use Rattle.std.proofs.lemmas.Bool.{and_parts, ltb-true, eq-eqb}
use Rattle.ids.specs.Sizes.{Sizes}
use Rattle.definitions.specs.Keyrings.{Keyring}
use Rattle.definitions.specs.Worlds.{World, Source, Source.of_record, Source.of_bytes, Event, Event.submit, Event.relay}
use Rattle.definitions.specs.Worlds.{Event.inject, Event.timeout, Event.beat, Event.prune, Event.offer, Event.gather}
use Rattle.definitions.specs.Worlds.{Event.lead, Event.ask, Happening, new_world}
use Rattle.definitions.specs.Events.{party_of}
use Rattle.definitions.specs.Runs.{refusal, names_party, names_frame, names_request, is_there}
use Rattle.local_runs.specs.Law.{run_of, IsInterleaving, CanComeAlone}

-- the source is bytes
abbrev pub IsBytes : Source → Type 0
IsBytes (of_record k) = ⊥
IsBytes (of_bytes bytes read) = ⊤

-- so are all that an event brings
abbrev pub BringsBytes : Event → Type 0
BringsBytes (relay k to) = ⊥
BringsBytes (offer to source) = IsBytes source
BringsBytes (gather to sources) = AllByRecursion IsBytes sources
BringsBytes e = ⊤

-- what is known of an event that can come alone
pub record IsTold (w : World) (h : Happening) : Type 0 where
  pub bytes : BringsBytes h.0
  pub party : names_party w h.0 ≡ true
  pub request : names_request h.0 ≡ true

abbrev code : Fault → Option Fault
code n = Some n

-- what isn't refused passes the three tests
tests : (p f q : Bool)
    → cond (not p) (code fault.NoSuchParty) (cond (not f) (code fault.NoSuchFrame)
    (cond (not q) (code fault.NotARequest) None)) ≡ None
    → (p ≡ true) × (f ≡ true) × (q ≡ true)
tests true true true e = (refl, refl, refl)
tests true true false e = absurd (let k : code fault.NotARequest ≡ None = e in cc)
tests true false q e = absurd (let k : code fault.NoSuchFrame ≡ None = e in cc)
tests false f q e = absurd (let k : code fault.NoSuchParty ≡ None = e in cc)

pub passed : (w : World) (e : Event) → refusal w e ≡ None
    → (names_party w e ≡ true) × (names_frame w e ≡ true) × (names_request e ≡ true)
unfolding refusal
passed w e n = tests (names_party w e) (names_frame w e) (names_request e) n

none-below : (k : ℕ) → (k < 0) → ⊥
none-below k h = omega (arith, h)

module _ (sizes : Sizes) (is_faulty : ℕ → Bool) (ring : ℕ → Keyring) where
  abbrev start : World
  start = new_world sizes is_faulty ring

  source-bytes : (s : Source) → is_there start s ≡ true → IsBytes s
  unfolding new_world
  source-bytes (of_record k) e = absurd (none-below k (ltb-true k 0 e))
  source-bytes (of_bytes bytes read) e = tt

  sources-bytes : (ss : List Source) → list_all (is_there start) ss ≡ true → AllByRecursion IsBytes ss
  sources-bytes [] e = tt
  sources-bytes (s ∷ ss) e =
      let p = and_parts _ _ e in (source-bytes s p.0, sources-bytes ss p.1)

  brings-bytes : (e : Event) → names_frame start e ≡ true → BringsBytes e
  unfolding new_world
  brings-bytes (submit c payload) f = tt
  brings-bytes (relay k to) f = absurd (none-below k (ltb-true k 0 f))
  brings-bytes (inject to bytes read) f = tt
  brings-bytes (timeout r) f = tt
  brings-bytes (beat r) f = tt
  brings-bytes (prune r height) f = tt
  brings-bytes (offer to source) f = source-bytes source f
  brings-bytes (gather to sources) f = sources-bytes sources f
  brings-bytes (lead r d) f = tt
  brings-bytes (ask r to d) f = tt

  told : (h : Happening) → CanComeAlone start h → IsTold start h
  told h e =
      let t = passed start h.0 e in record { bytes = brings-bytes h.0 t.1; party = t.0; request = t.2 }

-- ---- each event of an interleaving is one of a local run

all-told-step : (P : Happening → Type 0) (x : Happening) (hs : List Happening) (t : Bool) → t ≡ true
    → AllByRecursion P (cond t (x ∷ hs) hs) → P x
all-told-step P x hs true e a = a.0
all-told-step P x hs false e a = absurd (let k : false ≡ true = e in cc)

all-told-rest : (P : Happening → Type 0) (x : Happening) (hs : List Happening) (t : Bool)
    → AllByRecursion P (cond t (x ∷ hs) hs) → AllByRecursion P hs
all-told-rest P x hs true a = a.1
all-told-rest P x hs false a = a

all-told : (P : Happening → Type 0) (order : List Happening)
    → ((p : ℕ) → AllByRecursion P (run_of p order)) → AllByRecursion P order
all-told P [] a = tt
all-told P (h ∷ hs) a = (
  all-told-step P h (run_of (party_of h.0) hs) (party_of h.0 == party_of h.0) (eq-eqb _ _ refl) (a (party_of h.0)),
  all-told P hs (λ p. all-told-rest P h (run_of p hs) (party_of h.0 == p) (a p)),
)

pub interleaving-told : (sizes : Sizes) (is_faulty : ℕ → Bool) (ring : ℕ → Keyring) (runs : ℕ → List Happening)
    (order : List Happening) → IsInterleaving runs order
    → ((p : ℕ) → AllByRecursion (CanComeAlone (new_world sizes is_faulty ring)) (runs p))
    → AllByRecursion (IsTold (new_world sizes is_faulty ring)) order
interleaving-told sizes is_faulty ring runs order inter a =
    each order (all-told (CanComeAlone (new_world sizes is_faulty ring)) order
    (λ p. subst (AllByRecursion (CanComeAlone (new_world sizes is_faulty ring))) (sym (inter p)) (a p)))
  where
    each : (hs : List Happening) → AllByRecursion (CanComeAlone (new_world sizes is_faulty ring)) hs
        → AllByRecursion (IsTold (new_world sizes is_faulty ring)) hs
    each [] b = tt
    each (h ∷ hs) b = (told sizes is_faulty ring h b.0, each hs b.1)
