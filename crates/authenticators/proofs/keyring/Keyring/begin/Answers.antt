use Rattle.std.proofs.Common.{◌≡◌, inl, inr, ap, [], ◌∙◌, ℕ, List, arith}
use Rattle.std.proofs.lemmas.Bool.{cases_lt}
use Rattle.std.proofs.lemmas.List.{get_or-set_other, get_or-set_same, length-set}
use Rattle.lanes.specs.Lanes.{state_lane}
use Rattle.authenticators.proofs.keyring.Keyring.begin.Goals as goal

pub loop-g-preserved : goal.loop-g-preserved
loop-g-preserved c =
    let groups = c.loop-g.groups in
    let t = c.loop-g.g in
    let new = c.begun.result in
    let before = c.loop-g.invariant in record {
      long = length-set groups t new ∙ before.long;
      lanes = λ g j low lt within.
          let lane = λ (group : List (List ℕ)). state_lane group j in
          elim (cases_lt g t) [
            | inl below ↦ ap lane (get_or-set_other groups t g new [] (omega arith)) ∙ before.lanes g j below lt within
            | inr above ↦
                let e : t ≡ g = omega arith in
                rw (← e) (ap lane (get_or-set_same groups t new [] (omega arith)) ∙ c.begun.ensures j lt (omega arith))
          ];
    }
