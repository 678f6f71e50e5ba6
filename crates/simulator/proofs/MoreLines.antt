-- One more line of a schedule.
use Rattle.std.proofs.Common.{◌≡◌, List, [], ◌∷◌, ◌++◌, ◌∙◌, ap, sym, append_assoc}
use Rattle.std.specs.List.{flat_map}
use Rattle.std.proofs.lemmas.List.{append-nil}
use Rattle.std.proofs.lemmas.List.Concat.{flat_map-append}
use Rattle.definitions.specs.Bytes.{Bytes}
use Rattle.simulator.specs.Lines.{heading_text, event_text}
use Rattle.simulator.specs.Schedules.{BeginsWith, ended, lines}
use Rattle.world_schedule.specs.declared.event.Event.{Event}
use Rattle.simulator.specs.declared.lines.Heading.{Heading}

regroup : (h f e b : Bytes) → (h ++ f) ++ (e ++ b) ≡ (h ++ (f ++ e)) ++ b
regroup h f e b = sym (append_assoc (h ++ f) e b) ∙ ap (λ x. x ++ b) (append_assoc h f e)

pub one_more_line : (text rest behind : Bytes) (n : Heading) (events : List Event) (e : Event)
    → text ≡ lines n events ++ rest
    → BeginsWith rest (event_text e) behind → text ≡ lines n (events ++ e ∷ []) ++ behind
one_more_line text rest behind n events e whole begins =
    let line : Event → Bytes = λ e. ended (event_text e) in
    let joined : flat_map line (events ++ e ∷ []) ≡ flat_map line events ++ line e =
    flat_map-append line events (e ∷ []) ∙ ap (λ x. flat_map line events ++ x) (append-nil (line e)) in
    whole ∙ ap (λ x. lines n events ++ x) begins
    ∙ regroup (ended (heading_text n)) (flat_map line events) (line e) behind
    ∙ ap (λ x. (ended (heading_text n) ++ x) ++ behind) (sym joined)
