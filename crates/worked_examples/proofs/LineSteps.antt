-- Items at texts that are written out: the line's bytes are tested, and the item is computed.
use Rattle.ids.specs.declared.limits.TheConstants.{MOST_LINE}
use Rattle.std.proofs.Common.{◌≡◌, ℕ, ◌+◌, ◌≤◌, true, ◌++◌, length, replicate, Some, None, refl, arith}
use Rattle.std.specs.Prelude.{nat_le}
use Rattle.std.specs.List.{list_all}
use Rattle.std.proofs.lemmas.List.Elements.{All-replicate}
use Rattle.definitions.specs.Bytes.{Bytes}
use Rattle.definitions.specs.Requests.{crlf}
use Rattle.definitions.specs.Items.{Item, HasNoEnd, IsItemAt, IsUnfinished}
use Rattle.definitions.proofs.Lines.{no_cr, head_at}
use Rattle.definitions.proofs.ItemLaws.{word_has_no_end, item_by_line, made_item, made_open}

-- the item that a line and the rest make
pub item_at : (l rest : Bytes) (x : Item) (used : ℕ) → list_all (λ b. nat_le 32 b) l ≡ true
    → length l + 2 ≤ MOST_LINE → item_by_line l rest (head_at l) ≡ Some (x, used)
    → IsItemAt (l ++ crlf ++ rest) x used
item_at l rest x used plain fits made =
    made_item (l ++ crlf ++ rest) l rest x used (word_has_no_end l plain, fits, refl) made

-- no item yet
pub open_at : (l rest : Bytes) → list_all (λ b. nat_le 32 b) l ≡ true → length l + 2 ≤ MOST_LINE
    → item_by_line l rest (head_at l) ≡ None → IsUnfinished (l ++ crlf ++ rest)
open_at l rest plain fits made =
    made_open (l ++ crlf ++ rest) l rest (word_has_no_end l plain, fits, refl) made

-- letters have no end within
pub letters_have_no_end : (n : ℕ) → HasNoEnd (replicate n 97)
letters_have_no_end n i e _ = no_cr (replicate n 97) (All-replicate (λ b. 32 ≤ b) n 97 (omega arith)) i e
