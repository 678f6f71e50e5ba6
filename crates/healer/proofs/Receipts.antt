-- Nobody is wedged where a run is healed.
use Rattle.ids.specs.declared.fault.Fault.{Fault}
use Rattle.std.proofs.Common.{ℕ, ◌≡◌, List, ◌++◌, map, reverse, sym, ap, subst, ◌∙◌, Some, Result, Ok, OnOk}
use Rattle.std.proofs.lemmas.List.{reverse-reverse}
use Rattle.ids.specs.Sizes.{Sizes, AreSizes}
use Rattle.definitions.specs.Runs.{run, after}
use Rattle.definitions.specs.Lists.{Among}
use Rattle.definitions.specs.Worlds.{World, Happening, AcceptedBy}
use Rattle.recovery.specs.Healing.{heal}
use Rattle.recovery.specs.NeverWedged.{IsAnswered, NeverWedged}
use Rattle.world_schedule.specs.declared.running.State.{State}
use Rattle.world_schedule.specs.Outcomes.{accepted_by}
use Rattle.world_schedule.specs.Progress.{Stand, StandsAt}
use Rattle.world_schedule.specs.Settings.{Setting, Holds, is_faulty_in, ring_in, start_of}
use Rattle.healer.specs.Courses.{Course, Goes}
use Rattle.healer.specs.Receipts.{Answers}
use Rattle.healer.proofs.Parts.{run-after}
use Rattle.healer.proofs.Tellings.{same-sizes-told}
use Rattle.healer.proofs.Turns.{on-ok-too}

-- receipts are told, so they are those of each world in which the run may stand
same-receipts : (r : Stand) (gs hs : List Happening) (v w : World) → StandsAt r gs v → StandsAt r hs w
    → v.receipts ≡ w.receipts
same-receipts r gs hs v w s t =
    let same : s.state ≡ t.state = same-state (sym s.goes ∙ t.goes) in
    sym (reverse-reverse v.receipts)
    ∙ (ap (λ (l : List AcceptedBy). reverse l)
    (sym s.comes.now_at.told.receipts
    ∙ (ap (λ (x : State). map accepted_by x.journal.receipts.items) same ∙ t.comes.now_at.told.receipts))
    ∙ reverse-reverse w.receipts)
  where
    same-state : {a b : State} → Some a ≡ Some b → a ≡ b
    same-state e = cc

pub answers-is : (request : ℕ) (a b : Course) (r : Result (Unit {0}) Fault) → NeverWedged
    → a.stand.setting ≡ a.origin.setting → Holds a.origin.setting → OnOk r (Goes a (heal request) b)
    → OnOk r (Answers a request b)
answers-is request a b r never own holds came =
    on-ok-too _ _ r (λ goes client hs w t asked met may gs v s.
    let o : Setting = a.origin.setting in
    let ends : run (start_of o) hs ≡ Ok w = subst (λ (z : Setting). run (start_of z) hs ≡ Ok w) own t.comes.ends in
    let sizes : AreSizes w.sizes =
    subst (λ (z : Sizes). AreSizes z) (ap (λ (z : Setting). z.sizes) (sym own) ∙ same-sizes-told a.stand hs w t)
    holds.sizes_are in
    let h = never request client o.sizes (is_faulty_in o) (ring_in o) hs w met ends sizes may asked in
    let there : IsAnswered (after w (heal request w)) client (w.session client).used =
    subst (λ (z : World). IsAnswered z client (w.session client).used) (sym (run-after (heal request w) w h.0 h.1)) h.3 in (
      there.0,
      subst (λ (l : List AcceptedBy). Among there.0 l)
          (same-receipts b.stand (hs ++ heal request w) gs (after w (heal request w)) v (goes hs w t) s) there.1,
      there.2,
      there.3,
    )) came
