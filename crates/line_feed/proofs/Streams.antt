-- Items that stand one behind the other in a text that grows.
use Rattle.ids.specs.declared.limits.TheConstants.{MOST_DATA, MOST_LINE}
use Rattle.std.proofs.Common.{◌≡◌, ◌∙◌, ℕ, ◌+◌, ◌<◌, ◌≤◌, Bool, true, false, List, [], ◌∷◌, ◌++◌, length}
use Rattle.std.proofs.Common.{drop, Option, Some, None, refl, sym, ap, subst, inl, inr, arith, append_assoc}
use Rattle.std.proofs.Common.{append-nil, length-append}
use Rattle.std.proofs.lemmas.List.{drop-append-le}
use Rattle.std.specs.List.{AllByRecursion}
use Rattle.std.specs.Prelude.{if◌then◌else◌, IsSomeAnd}
use Rattle.definitions.specs.Bytes.{Bytes}
use Rattle.definitions.specs.Requests.{crlf, Head, data_field}
use Rattle.definitions.specs.Items.{Item, goes_on, IsLineOf, IsItemAt, IsUnfinished}
use Rattle.definitions.proofs.Lines.{length-line}
use Rattle.definitions.proofs.ItemLaws.{IsItemAt-append, IsItemAt-unique, takes_some}
use Rattle.line_feed.specs.Feeding.{left_behind, Call, pushed, asked_next, Lead, all_pushed, all_given}
use Rattle.line_feed.specs.Feeding.{StandFirst}

-- ---- what an item takes

-- what is left behind an item, of a longer text
left_more : (text more : Bytes) (x : Item) (used : ℕ) → IsItemAt text x used → (b : Bool) → goes_on x ≡ b
    → (if b then drop used (text ++ more) else text ++ more) ≡ (if b then drop used text else text) ++ more
left_more text more x used is true e = drop-append-le used text more ((takes_some text x used is e).1)
left_more text more x used is false e = refl

-- an unfinished text isn't long
pub unfinished_short : (text : Bytes) → IsUnfinished text → length text ≤ 8193
unfinished_short text (inl u) = omega (arith, u.0)
unfinished_short text (inr u) =
    let few = short (data_field u.2) (length u.1) u.6 in
    omega (
      arith,
      few,
      length_line u.0 u.2 u.3 u.4,
      ap (λ (t : Bytes). length t) u.5,
      length-append (u.0 ++ crlf) u.1,
      length-append u.0 crlf,
    )
  where
    short : (o : Option ℕ) (n : ℕ) → IsSomeAnd o (λ bytes. (bytes ≤ MOST_DATA) × (n < bytes + 2)) → n ≤ 4097
    short (Some bytes) n h = omega (arith, h.0, h.1)
    short None n h = absurd h

    length_line : (l : Bytes) (head : Head) (noreply : Bool) → IsLineOf l head noreply
        → length l + 2 ≤ MOST_LINE
    length_line l head noreply is =
        omega (arith, length-line head noreply is.0 is.1, ap (λ (t : Bytes). length t) is.2)

-- ---- items one behind the other

-- more bytes came
pub StandFirst-more : (items : List Item) (text left more : Bytes) → StandFirst text items left
    → StandFirst (text ++ more) items (left ++ more)
StandFirst-more [] text left more e = ap (λ (t : Bytes). t ++ more) e
StandFirst-more (x ∷ items) text left more h = (
  h.0,
  IsItemAt-append text more x h.0 h.1,
  subst (λ (t : Bytes). StandFirst t items (left ++ more))
      (sym (left_more text more x h.0 h.1 (goes_on x) refl))
      (StandFirst-more items (left_behind x h.0 text) left more h.2),
)

-- more items follow
pub StandFirst-then : (items later : List Item) (text mid left : Bytes) → StandFirst text items mid
    → StandFirst mid later left → StandFirst text (items ++ later) left
StandFirst-then [] later text mid left e h = subst (λ (t : Bytes). StandFirst t later left) e h
StandFirst-then (x ∷ items) later text mid left g h =
    (g.0, g.1, StandFirst-then items later (left_behind x g.0 text) mid left g.2 h)

-- what was given before, and what calls give then
given_then : (calls : List Call) (text held left : Bytes) (items : List Item) → StandFirst text items held
    → Lead held calls left → StandFirst (text ++ all_pushed calls) (items ++ all_given calls) left
given_then [] text held left items before e = rw (append-nil text, append-nil items, e) before
given_then (pushed bytes ∷ calls) text held left items before h =
    subst (λ (t : Bytes). StandFirst t (items ++ all_given calls) left)
    (append_assoc text bytes (all_pushed calls))
    (given_then calls (text ++ bytes) (held ++ bytes) left items
    (StandFirst-more items text held bytes before) h)
given_then (asked_next None ∷ calls) text held left items before h =
    given_then calls text h.0 left items (subst (StandFirst text items) (sym h.1.1) before) h.2
given_then (asked_next (Some x) ∷ calls) text held left items before h =
    subst (λ (xs : List Item). StandFirst (text ++ all_pushed calls) xs left)
    (append_assoc items (x ∷ []) (all_given calls))
    (given_then calls text h.0 left (items ++ x ∷ [])
    (StandFirst-then items (x ∷ []) text held h.0 before (h.1.0, h.1.1, h.1.2)) h.2)

-- from the first call on
pub given_from_first : (calls : List Call) (held : Bytes) → Lead [] calls held
    → StandFirst (all_pushed calls) (all_given calls) held
given_from_first calls held h = given_then calls [] [] held [] refl h

-- ---- the end

-- where an item stands that ends all, no other does, now or later
same_again : (items : List Item) (text left : Bytes) (end : Item) (used : ℕ) → goes_on end ≡ false
    → IsItemAt text end used → StandFirst text items left
    → AllByRecursion (λ item. item ≡ end) items × (left ≡ text)
same_again [] text left end used ends at h = (tt, h)
same_again (x ∷ items) text left end used ends at h =
    let same : x ≡ end = (IsItemAt-unique text x end h.0 used h.1 at).0 in
    let stays : left_behind x h.0 text ≡ text =
    ap (λ (b : Bool). if b then drop h.0 text else text) (ap goes_on same ∙ ends) in
    let rest = same_again items text left end used ends at
    (subst (λ (t : Bytes). StandFirst t items left) stays h.2) in
    ((same, rest.0), rest.1)

pub end_again : (text : Bytes) (end : Item) (items : List Item) (left : Bytes) → goes_on end ≡ false
    → StandFirst text (end ∷ items) left → AllByRecursion (λ item. item ≡ end) items × (left ≡ text)
end_again text end items left ends h =
    same_again items text left end h.0 ends h.1 (subst (λ (t : Bytes). StandFirst t items left)
    (ap (λ (b : Bool). if b then drop h.0 text else text) ends) h.2)
