-- Questions at a place.
use Rattle.std.proofs.Common.{ℕ, ◌≡◌, ◌∙◌, ◌<◌, ◌≤◌, List, Some, None, ap, sym, subst, length, get_or, set}
use Rattle.std.specs.Prelude.{count_by, position, slice_get}
use Rattle.asking.specs.Asking.{Asking, Question, changed, is_for}
use Rattle.asking.proofs.Changing.{get-at, unwritten, written}

-- the question for a block is changed at its place
pub put-back : (f : Question → Question) (block : List ℕ) (a now : Asking) (i : ℕ) (old new : Question) → a ≡ now
    → count_by (is_for block) a.questions ≤ 1 → position (is_for block) now.questions ≡ Some i
    → old ≡ get_or a.questions i old → new ≡ f old
    → record a { questions = set a.questions i new } ≡ record now { questions = changed block f now.questions }
put-back f block a now i old new view once at e is =
    ap (λ (qs : List Question). record a { questions = qs })
    (written (is_for block) f a.questions i old new once
    (ap (λ (b : Asking). position (is_for block) b.questions) view ∙ at) e is)
    ∙ ap (λ (b : Asking). record b { questions = changed block f b.questions }) view

-- where there is none nothing is changed
pub left-alone : (f : Question → Question) (block : List ℕ) (a : Asking) → position (is_for block) a.questions ≡ None
    → a ≡ record a { questions = changed block f a.questions }
left-alone f block a none =
    ap (λ (qs : List Question). record a { questions = qs }) (sym (unwritten (is_for block) f a.questions none))

-- what was read at a place is what stands there
pub stands-at : (a now : Asking) (place : ℕ) (q : Question) → a ≡ now → place < length now.questions
    → q ≡ get_or a.questions place q → slice_get now.questions place ≡ Some q
stands-at a now place q view within is =
    ap (λ (b : Asking). slice_get b.questions place) (sym view)
    ∙ get-at a.questions place q (subst (λ (b : Asking). place < length b.questions) (sym view) within)
    ∙ ap Some (sym is)
