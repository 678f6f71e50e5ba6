use Rattle.std.proofs.Common.{ℕ, List, Bor, [], arith}
use Rattle.std.proofs.lemmas.List.Folds.{length-flat_map-take}
use Rattle.appending.proofs.put_parts.Goals as goal

pub put-requires : goal.put-requires
put-requires c =
    omega (
      arith,
      length-flat_map-take (λ (p : Bor (List ℕ)). p.now) c.args.parts.now _
          (record { ref_ptr = (0, 0); now = [] }) c.loop-part-test.true,
    )
