use Rattle.std.proofs.Common.{ℕ, List, Bor, [], rules}
use Rattle.std.proofs.lemmas.List.Folds.{length-flat_map-take}
use Rattle.appending.proofs.add_parts_len.Goals as goal

pub returns-in_err-len : goal.returns-in_err-len
returns-in_err-len c =
    let bound = length-flat_map-take (λ (p : Bor (List ℕ)). p.now) c.args.parts.now _
    (record { ref_ptr = (0, 0); now = [] }) c.loop-part-test.true in
    search rules
