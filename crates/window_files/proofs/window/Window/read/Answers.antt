use Rattle.std.proofs.Common.{◌≡◌, ◌∙◌, ap, sym, length}
use Rattle.std.specs.List.{flat_map}
use Rattle.std.proofs.lemmas.Result.{err_from_is_err_and}
use Rattle.window_files.specs.declared.head.Head.{Head}
use Rattle.window_files.specs.Files.{digest_line, count_of}
use Rattle.window_files.proofs.Heads.{same_head}
use Rattle.window_files.proofs.window.Window.read.Goals as goal

pub returns-in-Err-clause-bad : goal.returns-in-Err-clause-bad
returns-in-Err-clause-bad c = λ line same w fits e.
    c.in-Err.ensures.bad w.head (flat_map digest_line w.digests) fits.0 e

pub returns-in_err-digests-clause-bad : goal.returns-in_err-digests-clause-bad
returns-in_err-digests-clause-bad c = λ line same w fits e.
    let gave = err_from_is_err_and c.from_residual.result c.from_residual.ensures.1 in
    let heads = same_head c.in-Ok.read.0 w.head c.in-Ok.read.1.now (flat_map digest_line w.digests)
    c.in-Ok.ensures.head fits.0 (sym c.in-Ok.ensures.read ∙ e) in
    let count : length w.digests ≡ c.count.result =
    fits.1 ∙ sym (ap (λ (h : Head). count_of h) heads.head) ∙ sym c.count.ensures in
    c.in_err-digests.ensures.bad line (cc (gave.1, gave.2, same)) w.digests (count, fits.2, heads.rest)
