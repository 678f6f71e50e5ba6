-- What the options of a command line ask for.
use Rattle.std.specs.Prelude.{◌≡◌, ℕ, ◌==◌, ◌-◌, ◌^◌, nat_lt, List, codes, Option, Some, None, option_map, unwrap_or}
use Rattle.std.specs.Prelude.{if◌then◌else◌, ⊤, map}
use Rattle.std.specs.Str.Parse.{digits_value, without_leading_plus}
use Rattle.clap.specs.declared.parser.matches.Found.{Found}
use Rattle.clap.specs.declared.parser.matches.ArgMatches.{ArgMatches}
use Rattle.clap.specs.Words.{first_value, found_of, matched_of, one_text, raw_values, rows_of, subcommand_name_of, subcommand_rows_of}
use Rattle.ids.specs.Sizes.{Sizes}
use Rattle.station.specs.declared.terms.Liars.{Liars}
use Rattle.station.specs.declared.terms.Terms.{Terms}
use Rattle.station.specs.declared.terms.Workers.{Workers}
use Rattle.station.specs.declared.terms.Workers.TheVariants.{One, Two}
use Rattle.command_line.specs.declared.files.Files.{Files}
use Rattle.command_line.specs.declared.of_front.FrontOptions.{FrontOptions}
use Rattle.command_line.specs.declared.options.Options.{Options}
use Rattle.command_line.specs.declared.of_replica.ReplicaOptions.{ReplicaOptions}
use Rattle.command_line.specs.declared.wanted.Wanted.{Wanted}
use Rattle.command_line.specs.declared.wanted.Wanted.TheVariants.{Here, Replica, Front, Ask, Audit}
use Rattle.command_line.specs.declared.of_ask.AskOptions.{AskOptions}
use Rattle.command_line.specs.declared.of_audit.AuditOptions.{AuditOptions}
use Rattle.state_marks.specs.declared.asks.Ask.{Ask as Asked}
use Rattle.state_marks.specs.declared.asks.Ask.TheVariants as ask

-- the number of an option, in decimal
abbrev pub number_of : Found → List ℕ → Option ℕ
number_of found name = option_map (λ text. digits_value 10 (without_leading_plus text)) (one_text found name)

-- a number for which 0 stands for none
abbrev pub unless_zero : ℕ → Option ℕ
unless_zero n = if n == 0 then None else Some n

-- how many are served: all that come where 0 is said
abbrev pub most_of : ℕ → ℕ
most_of n = unwrap_or (unless_zero n) (2 ^ 64 - 1)

-- so many workers
abbrev pub workers_of : ℕ → Workers
workers_of n = if nat_lt n 2 then One else Two

-- with an archive nothing is forgotten; else so many heights are kept
pub record IsWindow (found : Found) (heights : ℕ) (window : Option ℕ) : Type 0 where
  pub archive : one_text found (codes "archive") ≡ Some (codes "true") → window ≡ None
  pub none : one_text found (codes "archive") ≡ None → window ≡ Some heights
  pub not_asked_for : one_text found (codes "archive") ≡ Some (codes "false") → window ≡ Some heights

-- nobody lies unless a lie is named; and then so many do, until they are to fall silent
abbrev pub AreLiars : Found → ℕ → Option Liars → Type 0
AreLiars found count None = ⊤
AreLiars found count (Some liars) = (liars.count ≡ count)
    × (option_map unless_zero (number_of found (codes "liar-until")) ≡ Some liars.until)
    × (first_value found (codes "liar") ≡ None → ⊥)

-- what is asked of each replica, of which so many are to lie, if any
pub record AreTermsOfEach (found : Found) (count : ℕ) (terms : Terms) : Type 0 where
  pub liars : AreLiars found count terms.liars
  pub blocks : option_map unless_zero (number_of found (codes "blocks")) ≡ Some terms.blocks
  pub window_most : option_map unless_zero (number_of found (codes "window-most")) ≡ Some terms.window_most
  pub recorded : number_of found (codes "record") ≡ Some terms.record
  pub workers : option_map workers_of (number_of found (codes "workers")) ≡ Some terms.workers
  pub watch : option_map unless_zero (number_of found (codes "watch")) ≡ Some terms.watch

-- the terms of all replicas here are what the options ask for
pub record AreTerms (found : Found) (count : ℕ) (terms : Terms) : Type 0 where
  pub each : AreTermsOfEach found count terms
  pub liar_clients : number_of found (codes "liar-client") ≡ Some terms.liar_clients
  pub most : option_map most_of (number_of found (codes "serve")) ≡ Some terms.most
  pub heights : ℕ
  pub window : number_of found (codes "window") ≡ Some heights
  pub kept : IsWindow found heights terms.window
  pub late : option_map unless_zero (number_of found (codes "late")) ≡ Some terms.late
  pub patience : terms.patience ≡ 1

-- so are those of one replica, which forgets, begins at once and has no clients of its own
pub record AreTermsOfOne (found : Found) (count : ℕ) (terms : Terms) : Type 0 where
  pub each : AreTermsOfEach found count terms
  pub window : option_map (λ heights. Some heights) (number_of found (codes "window")) ≡ Some terms.window
  pub at_once : terms.late ≡ None
  pub liar_clients : terms.liar_clients ≡ 0
  pub endless : terms.most ≡ 2 ^ 64 - 1

-- each option says what the words ask for
pub record AreOptions (found : Found) (options : Options) : Type 0 where
  pub keys : first_value found (codes "keys") ≡ Some options.keys.now
  pub faults : number_of found (codes "faults") ≡ Some options.faults
  pub clients : number_of found (codes "clients") ≡ Some options.clients
  pub port : number_of found (codes "port") ≡ Some options.port
  pub keys_held : number_of found (codes "keys-held") ≡ Some options.keys_held
  pub liars : number_of found (codes "liars") ≡ Some options.liars
  pub terms : AreTerms found options.liars options.terms

-- the sizes that they ask for
abbrev pub sizes_of : Options → Sizes
sizes_of options =
    record { faults = options.faults; clients = options.clients; most_keys = options.keys_held }

-- the files are those that the words name
pub record AreFiles (found : Found) (files : Files) : Type 0 where
  pub deployment : first_value found (codes "deployment") ≡ Some files.deployment.now
  pub keys : first_value found (codes "keys") ≡ Some files.keys.now
  pub state : first_value found (codes "state") ≡ Some files.state.now

-- each option of a replica says what the words ask for; if it is to lie, 255 replicas are
pub record AreReplicaOptions (found : Found) (options : ReplicaOptions) : Type 0 where
  pub number : number_of found (codes "id") ≡ Some options.number
  pub files : AreFiles found options.files
  pub listen : first_value found (codes "listen") ≡ option_map (λ text. text.now) options.listen
  pub terms : AreTermsOfOne found 255 options.terms
  pub patience : number_of found (codes "patience") ≡ Some options.terms.patience

-- so does each of a front
pub record AreFrontOptions (found : Found) (options : FrontOptions) : Type 0 where
  pub number : number_of found (codes "id") ≡ Some options.number
  pub files : AreFiles found options.files
  pub listen : first_value found (codes "listen") ≡ Some options.listen.now
  pub port : number_of found (codes "port") ≡ Some options.port
  pub most : option_map most_of (number_of found (codes "serve")) ≡ Some options.most
  pub watch : option_map unless_zero (number_of found (codes "watch")) ≡ Some options.watch

-- by which name it is asked
abbrev pub name_of : Asked → List ℕ
name_of ask.Window = codes "window"
name_of ask.Stop = codes "stop"

-- so does what is asked of a replica's process
pub record AreAskOptions (found : Found) (options : AskOptions) : Type 0 where
  pub ask : first_value found (codes "what") ≡ Some (name_of options.ask)
  pub state : first_value found (codes "state") ≡ Some options.state.now

-- so do the files that are to be judged, in their order
pub record AreAuditOptions (found : Found) (options : AuditOptions) : Type 0 where
  pub paths : option_map raw_values (matched_of found (codes "windows")) ≡ Some (map (λ path. path.now) options.paths.now)

-- what was found behind the name of a command
pub record IsBehind (matches : ArgMatches) (name : List ℕ) (found : Found) : Type 0 where
  pub named : subcommand_name_of matches ≡ Some name
  pub rows : option_map (λ behind. behind.1) (subcommand_rows_of matches) ≡ Some (rows_of found)

-- what the words want: their command, with options as it has them
abbrev pub IsWanted : ArgMatches → Wanted → Type 0
IsWanted matches (Here options) =
    (subcommand_name_of matches ≡ None) × AreOptions (found_of matches) options
IsWanted matches (Replica options) =
    (found : Found) × IsBehind matches (codes "replica") found × AreReplicaOptions found options
IsWanted matches (Front options) =
    (found : Found) × IsBehind matches (codes "front") found × AreFrontOptions found options
IsWanted matches (Ask options) =
    (found : Found) × IsBehind matches (codes "ask") found × AreAskOptions found options
IsWanted matches (Audit options) =
    (found : Found) × IsBehind matches (codes "audit") found × AreAuditOptions found options
