use Rattle.std.proofs.Common.{◌≡◌, inl, inr, ap, [], ◌∙◌, ℕ, List, arith}
use Rattle.std.proofs.lemmas.Bool.{cases_lt}
use Rattle.std.proofs.lemmas.List.{get_or-set_other, get_or-set_same, length-set}
use Rattle.sha2.specs.Sha256.{digest_bytes}
use Rattle.lanes.specs.Lanes.{state_lane}
use Rattle.authenticators.proofs.keyring.Keyring.finish.Goals as goal

pub loop-g-preserved : goal.loop-g-preserved
loop-g-preserved c =
    let groups = c.loop-g.groups in
    let t = c.loop-g.g in
    let new = c.finished.result in
    let before = c.loop-g.invariant in record {
      long = length-set groups t new ∙ before.long;
      done = λ g j text low lt within held.
          let mac = λ (group : List (List ℕ)). digest_bytes (state_lane group j) 8 in
          elim (cases_lt g t) [
            | inl below ↦ ap mac (get_or-set_other groups t g new [] (omega arith)) ∙ before.done g j text below lt within held
            | inr above ↦
                let e : t ≡ g = omega arith in
                let same = ap (λ (group : List (List ℕ)). state_lane group j) (before.left t (omega arith)) in
                rw (← e) (ap mac (get_or-set_same groups t new [] (omega arith)) ∙ c.finished.ensures j text lt (omega arith) (same ∙ (rw (← e) at held)))
          ];
      left = λ g above. get_or-set_other groups t g new [] (omega arith) ∙ before.left g (omega arith);
    }
