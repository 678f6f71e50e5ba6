-- The exchanges of a text are of its first items.
use Rattle.std.proofs.Common.{◌≡◌, ℕ, List, [], ◌∷◌, ◌++◌, map, drop, Some, None, refl, sym, ap, ◌∙◌}
use Rattle.std.specs.Prelude.{◌≢◌}
use Rattle.ids.specs.declared.line_fault.LineFault.TheVariants.{UnknownName, BadFields, TooLarge, BadChunk}
use Rattle.ids.specs.declared.line_fault.LineFault.TheVariants.{LineTooLong}
use Rattle.definitions.specs.Bytes.{Bytes}
use Rattle.definitions.specs.Items.{Item, asked, quit, bad, AreItems}
use Rattle.definitions.specs.ServerText.{Exchange, answered, finished, told, item_in, AreExchanges}
use Rattle.definitions.proofs.ItemLaws.{IsItemAt-unique, IsUnfinished-no_item, same_behind}
use Rattle.connection.specs.declared.end.End.TheVariants.{NoReply}
use Rattle.connection.specs.Serving.{end_of, ended_by}

-- so many items are left, and none unless the service refused
abbrev pub Behind : List Exchange → List Item → Type 0
Behind xs items =
    (behind : List Item) × (items ≡ map item_in xs ++ behind) × ((ended_by xs ≢ Some NoReply) → behind ≡ [])

-- one more in front
with_first : (x : Exchange) (xs : List Exchange) (y : Item) (ys : List Item) → item_in x ≡ y
    → None ≡ end_of x → Behind xs ys → Behind (x ∷ xs) (y ∷ ys)
with_first x xs y ys same open_yet rest = (
  rest.0,
  ap (λ (i : Item). i ∷ ys) (sym same) ∙ ap (λ (l : List Item). item_in x ∷ l) rest.1,
  λ no. rest.2 (λ e. no (ended_on xs e)),
)
  where
    ended_on : (zs : List Exchange) → ended_by zs ≡ Some NoReply → ended_by (x ∷ zs) ≡ Some NoReply
    ended_on [] e = absurd cc
    ended_on (z ∷ zs) e = e

-- the last one, behind which nothing stands
as_last : (x : Exchange) (xs : List Exchange) (y : Item) (ys : List Item) → item_in x ≡ y → xs ≡ []
    → ys ≡ [] → Behind (x ∷ xs) (y ∷ ys)
as_last x xs y ys same none nothing = (
  [],
  ap (λ (i : Item). i ∷ ys) (sym same)
      ∙ ap (λ (l : List Item). item_in x ∷ l)
      (nothing ∙ ap (λ (l : List Exchange). map item_in l ++ []) (sym none)),
  λ no. refl,
)

-- the last one, which was refused
as_refused : (x : Exchange) (xs : List Exchange) (y : Item) (ys : List Item) → item_in x ≡ y → xs ≡ []
    → end_of x ≡ Some NoReply → Behind (x ∷ xs) (y ∷ ys)
as_refused x xs y ys same none refused = (
  ys,
  ap (λ (i : Item). i ∷ ys) (sym same)
      ∙ ap (λ (l : List Item). item_in x ∷ l) (ap (λ (l : List Exchange). map item_in l ++ ys) (sym none)),
  λ no. absurd (no (ap (λ (l : List Exchange). ended_by (x ∷ l)) none ∙ refused)),
)

pub first_items : (text : Bytes) (xs : List Exchange) (items : List Item) → AreExchanges text xs
    → AreItems text items → Behind xs items
first_items text [] [] a is = ([], refl, λ no. refl)
first_items text [] (y ∷ ys) a is = absurd (IsUnfinished-no_item text y is.0 a is.1)
first_items text (x ∷ xs) [] a is = absurd (IsUnfinished-no_item text (item_in x) a.0 is a.1)
first_items text (answered r n (Some t) ∷ xs) (y ∷ ys) a is =
    let same = IsItemAt-unique text (asked r n) y a.0 is.0 a.1 is.1 in
    with_first (answered r n (Some t)) xs y ys same.0 refl
    (first_items (drop a.0 text) xs ys a.2 (same_behind text (asked r n) y a.0 is.0 ys same is.2))
first_items text (told UnknownName ∷ xs) (y ∷ ys) a is =
    let same = IsItemAt-unique text (bad UnknownName) y a.0 is.0 a.1 is.1 in
    with_first (told UnknownName) xs y ys same.0 refl
    (first_items (drop a.0 text) xs ys a.2 (same_behind text (bad UnknownName) y a.0 is.0 ys same is.2))
first_items text (answered r n None ∷ xs) (y ∷ ys) a is =
    as_refused (answered r n None) xs y ys (IsItemAt-unique text (asked r n) y a.0 is.0 a.1 is.1).0 a.2 refl
first_items text (finished ∷ xs) (y ∷ ys) a is =
    let same =
    IsItemAt-unique text quit y a.0 is.0 a.1 is.1 in
    as_last finished xs y ys same.0 a.2 (same_behind text quit y a.0 is.0 ys same is.2)
first_items text (told BadFields ∷ xs) (y ∷ ys) a is =
    let same =
    IsItemAt-unique text (bad BadFields) y a.0 is.0 a.1 is.1 in
    as_last (told BadFields) xs y ys same.0 a.2 (same_behind text (bad BadFields) y a.0 is.0 ys same is.2)
first_items text (told TooLarge ∷ xs) (y ∷ ys) a is =
    let same =
    IsItemAt-unique text (bad TooLarge) y a.0 is.0 a.1 is.1 in
    as_last (told TooLarge) xs y ys same.0 a.2 (same_behind text (bad TooLarge) y a.0 is.0 ys same is.2)
first_items text (told BadChunk ∷ xs) (y ∷ ys) a is =
    let same =
    IsItemAt-unique text (bad BadChunk) y a.0 is.0 a.1 is.1 in
    as_last (told BadChunk) xs y ys same.0 a.2 (same_behind text (bad BadChunk) y a.0 is.0 ys same is.2)
first_items text (told LineTooLong ∷ xs) (y ∷ ys) a is =
    let same =
    IsItemAt-unique text (bad LineTooLong) y a.0 is.0 a.1 is.1 in
    as_last (told LineTooLong) xs y ys same.0 a.2 (same_behind text (bad LineTooLong) y a.0 is.0 ys same is.2)
