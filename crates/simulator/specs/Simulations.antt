-- What simulating a schedule tells.
use Rattle.std.specs.Prelude.{◌≡◌, List, ◌++◌, map, Option, None}
use Rattle.std.specs.List.{flat_map, range_with_len}
use Rattle.std.specs.Io.KnownBytes.{Appends}
use Rattle.ids.specs.declared.limits.TheConstants.{MOST_KEYS}
use Rattle.ids.specs.Sizes.{Sizes, AreSizes, replicas, client_party}
use Rattle.definitions.specs.Bytes.{Bytes}
use Rattle.definitions.specs.Keyrings.{Keys}
use Rattle.simulated_keys.specs.Keys.{simulated_keys}
use Rattle.world_schedule.specs.Settings.{Setting, why_not}
use Rattle.world_schedule.specs.Running.{IsRunOf}
use Rattle.world_schedule.specs.declared.event.Event.{Event}
use Rattle.world_schedule.specs.declared.outcome.Outcome.{Outcome}
use Rattle.healer.specs.Served.{AreServed}
use Rattle.run_report.specs.Reports.{outcome_text}
use Rattle.simulator.specs.Lines.{event_text}
use Rattle.simulator.specs.Schedules.{IsTextOf, ended}
use Rattle.simulator.specs.declared.lines.Heading.{Heading}
use Rattle.simulator.specs.declared.schedule.Schedule.{Schedule}

-- the keys of all parties, replicas first
abbrev pub all_keys : Sizes → List Keys
all_keys sizes =
    map (simulated_keys sizes) (range_with_len 0 (replicas sizes))
    ++ map (λ c. simulated_keys sizes (client_party c)) (range_with_len 0 sizes.clients)

-- the sizes, the faulty parties and the keys of a schedule's world
abbrev pub sizes_of : Heading → Sizes
sizes_of h = record { faults = h.faults; clients = h.clients; most_keys = MOST_KEYS }

abbrev pub setting_of : Heading → Setting
setting_of h = record { sizes = sizes_of h; faulty = h.faulty.items; keyrings = all_keys (sizes_of h) }

-- the setting is the heading's, and its sizes and faulty parties may be such
pub record IsWorldOf (h : Heading) (setting : Setting) : Type 0 where
  pub setting_is : setting ≡ setting_of h
  pub sizes_are : AreSizes (sizes_of h)
  pub may_be : why_not (sizes_of h) h.faulty.items ≡ None

-- the text tells of an outcome of the schedule's run
pub record IsTextOfRun (s : Schedule) (text : Bytes) : Type 0 where
  pub outcome : Outcome
  pub ran : IsRunOf (setting_of s.heading) s.events.items outcome
  pub tells : text ≡ outcome_text outcome

-- the input is a schedule, and the text of an outcome of its run was appended to what was written before
pub record IsToldOf (old new : Option Bytes) (input : Bytes) : Type 0 where
  pub schedule : Schedule
  pub read : IsTextOf schedule input
  pub text : Bytes
  pub told : IsTextOfRun schedule text
  pub written : Appends old new text

-- a schedule's text became longer by the lines of more events, and the run of all has an outcome, in which each client
-- that waited is served
pub record HasHealed (s : Schedule) (old new : Bytes) : Type 0 where
  pub added : List Event
  pub longer : new ≡ old ++ flat_map (λ e. ended (event_text e)) added
  pub outcome : Outcome
  pub ran : IsRunOf (setting_of s.heading) (s.events.items ++ added) outcome
  pub served : AreServed (setting_of s.heading) s.events.items outcome

-- the input is a schedule, and its text with more events was appended to what was written before
pub record IsHealedFrom (old new : Option Bytes) (input : Bytes) : Type 0 where
  pub schedule : Schedule
  pub read : IsTextOf schedule input
  pub text : Bytes
  pub healed : HasHealed schedule input text
  pub written : Appends old new text
