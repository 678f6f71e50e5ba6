use Rattle.std.proofs.Common.{ℕ, List, Bor, [], rules}
use Rattle.std.proofs.lemmas.List.Folds.{length-flat_map-take}
use Rattle.handshake.proofs.parts.fill.Goals as goal

pub slice_bounds-copy_from_slice-end : goal.slice_bounds-copy_from_slice-end
slice_bounds-copy_from_slice-end c =
    let bound = length-flat_map-take (λ (p : Bor (List ℕ)). p.now) c.args.parts.now _
    (record { ref_ptr = (0, 0); now = [] }) c.loop-part-test.true in
    search rules
