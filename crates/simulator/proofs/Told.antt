-- What is read and told, where the reader's bytes are known.
use Rattle.std.proofs.Common.{◌≡◌, Option, Some, None, IfSome, Result, Ok, Err, OnOk, Vec, Global, ℕ}
use Rattle.std.proofs.Common.{inl, inr, refl, subst, ◌++◌}
use Rattle.std.specs.List.{flat_map}
use Rattle.std.specs.Prelude.{IfOk, IfErr, MatchResult, List, is_ok}
use Rattle.ids.specs.Sizes.{Sizes, AreSizes}
use Rattle.definitions.specs.Keyrings.{Keys}
use Rattle.world_schedule.specs.Settings.{Setting, why_not}
use Rattle.std.specs.Io.KnownBytes.{Appends}
use Rattle.ids.specs.declared.fault.Fault as refusal
use Rattle.definitions.specs.Bytes.{Bytes}
use Rattle.world_schedule.specs.Running.{IsRunOf}
use Rattle.world_schedule.specs.declared.event.Event.{Event}
use Rattle.world_schedule.specs.declared.outcome.Outcome.{Outcome}
use Rattle.healer.specs.Served.{AreServed}
use Rattle.simulator.specs.Faults.{IsWhyNot, IsWhyNoOutcome, IsWhyNoRun, IsWhyNoWorld}
use Rattle.run_report.specs.Reports.{outcome_text}
use Rattle.simulator.specs.Schedules.{IsTextOf}
use Rattle.simulator.specs.Lines.{event_text}
use Rattle.simulator.specs.Schedules.{ended}
use Rattle.simulator.specs.Simulations.{sizes_of, setting_of, all_keys, IsWorldOf, IsTextOfRun, IsToldOf}
use Rattle.simulator.specs.Simulations.{HasHealed, IsHealedFrom}
use Rattle.simulator.specs.declared.lines.Heading.{Heading}
use Rattle.simulator.specs.declared.schedule.Schedule.{Schedule}
use Rattle.simulator.specs.declared.sim_fault.SimFault.{SimFault}
use Rattle.simulator.specs.declared.sim_fault.SimFault.TheVariants as sim

pub run_told : (r : Result (Vec ℕ Global) refusal.Fault) (s : Schedule) (o : Outcome)
    → IfOk r (λ text. text.items ≡ outcome_text o) → IsRunOf (setting_of s.heading) s.events.items o
    → IfOk r (λ text. IsTextOfRun s text.items)
run_told (Ok text) s o is ran = record { outcome = o; ran = ran; tells = is }
run_told (Err e) s o is ran = tt

-- the world that was made of a heading
pub world_made : (r : Result Setting refusal.Fault) (h : Heading) (config : Sizes) (keyrings : List Keys)
    → config ≡ sizes_of h → keyrings ≡ all_keys config → AreSizes (sizes_of h)
    → IfOk r (λ w. w ≡ record { sizes = config; faulty = h.faulty.items; keyrings = keyrings })
    → MatchResult r (λ _. why_not config h.faulty.items ≡ None) (λ n. why_not config h.faulty.items ≡ Some n)
    → IfOk r (IsWorldOf h)
world_made (Ok w) h config keyrings config_is keyrings_are sizes made no_fault =
    record {
      setting_is = rw (made, keyrings_are, config_is) refl;
      sizes_are = sizes;
      may_be = subst (λ sizes. why_not sizes h.faulty.items ≡ None) config_is no_fault;
    }
world_made (Err n) h config keyrings config_is keyrings_are sizes made no_fault = tt

-- why none was made
pub why_no_world : (r : Result Setting refusal.Fault) (h : Heading) (config : Sizes)
    → config ≡ sizes_of h → AreSizes (sizes_of h)
    → MatchResult r (λ _. why_not config h.faulty.items ≡ None) (λ n. why_not config h.faulty.items ≡ Some n)
    → IfErr r (IsWhyNoWorld h)
why_no_world (Ok w) h config config_is sizes no_fault = tt
why_no_world (Err n) h config config_is sizes fault =
    inr (inr (sizes, subst (λ sizes. why_not sizes h.faulty.items ≡ Some n) config_is fault))

-- why there is no schedule
pub why_no_schedule : (known : Option Bytes) (text : Bytes) (fault : SimFault)
    → IfSome known (λ xs. text ≡ xs) → IsWhyNot text fault → IsWhyNoOutcome known fault
why_no_schedule None text (sim.Line number) read why = tt
why_no_schedule (Some xs) text (sim.Line number) read why = rw (← read) why
why_no_schedule known text (sim.Fault fault) read why = inl why

-- why a schedule that was read has no run
pub why_no_run : (known : Option Bytes) (text : Bytes) (s : Schedule) (fault : refusal.Fault)
    → IfSome known (λ xs. text ≡ xs) → IsTextOf s text → IsWhyNoRun s fault
    → IsWhyNoOutcome known (sim.Fault fault)
why_no_run None text s fault read is why = inr (inr (inr (s, tt, why)))
why_no_run (Some xs) text s fault read is why = inr (inr (inr (s, rw (← read) is, why)))

pub told_of : (known old new : Option Bytes) (input text : Bytes) (s : Schedule)
    → IfSome known (λ xs. input ≡ xs) → IsTextOf s input → IsTextOfRun s text → Appends old new text
    → IfSome known (IsToldOf old new)
told_of None old new input text s read is told written = tt
told_of (Some xs) old new input text s read is told written =
    record { schedule = s; read = rw (← read) is; text = text; told = told; written = written }

-- what a call promised where it went well holds where its answer, with the error changed, did
pub on_ok : {A E D : Type 0} (before : Result A E) (after : Result A D) {Q P : Type 0}
    → is_ok after ≡ is_ok before → OnOk before Q → (Q → P) → OnOk after P
on_ok (Ok x) (Ok y) same q then = then q
on_ok (Ok x) (Err e) same q then = tt
on_ok (Err e) (Ok y) same q then = let no : ⊥ = cc (same) in absurd no
on_ok (Err e) (Err d) same q then = tt

-- a text with the lines of healing
pub healed_told : (r : Result (Unit {0}) refusal.Fault) (s : Schedule) (added : List Event) (o : Outcome)
    (old new : Bytes) → OnOk r (new ≡ old ++ flat_map (λ e. ended (event_text e)) added)
    → IsRunOf (setting_of s.heading) (s.events.items ++ added) o → AreServed (setting_of s.heading) s.events.items o
    → OnOk r (HasHealed s old new)
healed_told (Ok x) s added o old new is ran served =
    record { added = added; longer = is; outcome = o; ran = ran; served = served }
healed_told (Err e) s added o old new is ran served = tt

pub healed_from : (known old new : Option Bytes) (input text : Bytes) (s : Schedule)
    → IfSome known (λ xs. input ≡ xs) → IsTextOf s input → HasHealed s input text → Appends old new text
    → IfSome known (IsHealedFrom old new)
healed_from None old new input text s read is healed written = tt
healed_from (Some xs) old new input text s read is healed written = record {
  schedule = s;
  read = rw (← read) is;
  text = text;
  healed = subst (λ (x : Bytes). HasHealed s x text) read healed;
  written = written;
}
