-- Several executed commands at once.
use Rattle.std.proofs.Common.{◌≡◌, Bool, true, false, ◌&&◌, ◌||◌, not, List, [], ◌∷◌, map, reverse, filter, refl}
use Rattle.std.proofs.Common.{sym, ap, ◌∙◌}
use Rattle.std.specs.List.{list_any}
use Rattle.std.proofs.lemmas.List.Sorted.{IsPermutation-reverse, list_any-IsPermutation}
use Rattle.definitions.specs.Frames.{Command}
use Rattle.definitions.specs.Histories.{Entry, History, entry_of}
use Rattle.mempool.specs.Pool.{is_overtaken, is_up_to, left_after}
use Rattle.mempool.proofs.Following.{any-mapped, filter-alike, filter-both}

-- whether an entry overtakes a request
abbrev overtakes : Command → Entry → Bool
overtakes r e = is_up_to e.client e.seq r

not-or : (a b : Bool) → not (a || b) ≡ (not b && not a)
not-or true true = refl
not-or true false = refl
not-or false true = refl
not-or false false = refl

-- one pass for all entries
at-once : (h : History) (rs : List Command)
    → filter (λ r. not (list_any (overtakes r) h)) rs ≡ left_after h rs
unfolding left_after
at-once [] [] = refl
at-once [] (r ∷ rs) = ap (λ l. r ∷ l) (at-once [] rs)
at-once (e ∷ h) rs =
    filter-alike _ _ (λ r. not-or (overtakes r e) (list_any (overtakes r) h)) rs
    ∙ filter-both (λ r. not (list_any (overtakes r) h)) (λ r. not (overtakes r e)) rs
    ∙ ap (filter (λ r. not (overtakes r e))) (at-once h rs)

pub overtaken-left : (executed rs : List Command)
    → filter (λ r. not (is_overtaken executed r)) rs ≡ left_after (reverse (map entry_of executed)) rs
overtaken-left executed rs =
    filter-alike _ _
    (λ r. ap not (sym (any-mapped entry_of (overtakes r) executed)
    ∙ list_any-IsPermutation (overtakes r) _ _ (IsPermutation-reverse (map entry_of executed)))) rs
    ∙ at-once (reverse (map entry_of executed)) rs
