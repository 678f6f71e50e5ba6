use Rattle.std.proofs.Common.{length, ap, sym, ◌∙◌, List}
use Rattle.std.proofs.lemmas.List.{length-map}
use Rattle.world_schedule.specs.Outcomes.{Shown}
use Rattle.healer.proofs.healer.count_frames.Goals as goal

pub returns : goal.returns
returns c = λ hs w t.
    sym (length-map c.frames.result.now _) ∙ (ap (λ (l : List Shown). length l) (c.frames.ensures hs w t) ∙ length-map w.sent _)
