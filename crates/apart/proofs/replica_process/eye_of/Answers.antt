use Rattle.std.proofs.Common.{◌≡◌, ◌+◌, ◌∙◌, ◌<◌, List, ap, sym, arith, length}
use Rattle.std.proofs.lemmas.List.FromFn.{get_or-map-range_with_len, length-map-range_with_len}
use Rattle.std.specs.Prelude.{get_or}
use Rattle.marks.specs.Eyes.{EyeState, first_eye}
use Rattle.apart.proofs.replica_process.eye_of.Goals as goal

pub swap_remove-requires : goal.swap_remove-requires
swap_remove-requires c =
    let size = ap (λ (l : List EyeState). length l) c.requires.eyes in
    let all = length-map-range_with_len (first_eye c.args.marks.now) 0 c.args.marks.now.words in
    omega (arith, size, all, c.requires.number, c.from.ensures, c.number.view_is)

pub returns : goal.returns
returns c =
    let z = c.args.marks.now in
    let at : c.from.result ≡ c.args.number = omega (arith, c.from.ensures, c.number.view_is) in
    let low = c.requires.number in
    c.swap_remove.ensures.value ∙ (λ i. get_or (c.requires.eyes i) (at i) c.swap_remove.result)
    ∙ get_or-map-range_with_len (first_eye z) 0 z.words c.args.number c.args.number
    c.swap_remove.result (omega (arith, low)) (omega arith)
