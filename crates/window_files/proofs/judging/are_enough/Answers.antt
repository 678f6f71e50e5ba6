use Rattle.std.proofs.Common.{◌≡◌, ◌≤◌, length, refl, sym, ◌∙◌}
use Rattle.std.specs.List.{All}
use Rattle.std.specs.Borrow.{Bor}
use Rattle.std.proofs.lemmas.Bool.{false≢true}
use Rattle.ids.specs.Sizes.{quorum}
use Rattle.window_files.specs.Files.{Window}
use Rattle.window_files.proofs.judging.are_enough.Goals.{then-have_sizes, else-have_sizes}
use Rattle.window_files.proofs.judging.are_enough.Goals as goal

pub returns-then-are_quorum : goal.returns-then-are_quorum
returns-then-are_quorum c =
    let both : All (λ (w : Bor Window). w.now.head.config ≡ c.head.result.now.config) c.args.windows.now
    × (quorum c.head.result.now.config ≤ length c.args.windows.now) =
    elim c.if-have_sizes.branch [
      | then-have_sizes w ↦
          (w.if-have_sizes.ensures.0 refl, w.are_quorum.ensures.0 (sym w.value-is ∙ c.if-are_quorum.true))
      | else-have_sizes w ↦ absurd (false≢true (sym w.if-have_sizes.false ∙ sym w.value-is ∙ c.if-are_quorum.true))
    ] in (
      λ d. record {
        sizes = c.head.result.now.config;
        same = both.0;
        enough = both.1;
        distinct = c.are_distinct.ensures.0 d;
      },
      λ e. c.are_distinct.ensures.1 e.distinct,
    )
