-- The texts of a retrieval and of its reply.
use Rattle.std.proofs.Common.{◌≡◌, ◌+◌, ◌<◌, ◌≤◌, Bool, List, [], ◌∷◌, ◌++◌, length, get_or, take, map}
use Rattle.std.proofs.Common.{refl, sym, ap, ◌∙◌, arith, ℕ}
use Rattle.std.specs.Prelude.{codes, ◌==◌}
use Rattle.std.specs.List.{join_with_byte}
use Rattle.std.proofs.lemmas.List.{append-nil}
use Rattle.std.proofs.lemmas.List.Folds.{flat_map-map, length-flat_map-take}
use Rattle.std.proofs.lemmas.List.Splits.{length-slice_split}
use Rattle.definitions.specs.Bytes.{Bytes}
use Rattle.definitions.specs.Requests.{space, crlf}
use Rattle.definitions.specs.Replies.{value_text, reply_text}
use Rattle.definitions.specs.Replies as replies
use Rattle.mc_lines.specs.declared.reply.Value.{Value}
use Rattle.mc_lines.specs.Fields.{parts}
use Rattle.mc_lines.specs.Meaning.{value_of}
use Rattle.mc_lines.specs.Writing.{values_text}
use Rattle.mc_lines.proofs.Parts.{parts_joined}

-- one more field before others
joined_more : (name : Bytes) (fs : List Bytes) → 0 < length fs
    → join_with_byte space (name ∷ fs) ≡ name ++ space ∷ join_with_byte space fs
joined_more name [] some = absurd (omega arith)
joined_more name (f ∷ fs) some = refl

-- a name and the text of keys are the line of a retrieval
pub retrieval_text : (name text : Bytes)
    → name ++ space ∷ text ++ crlf ≡ join_with_byte space (name ∷ (parts text ++ [])) ++ crlf ++ []
retrieval_text name text =
    let whole : join_with_byte space (name ∷ (parts text ++ [])) ≡ name ++ space ∷ text =
    ap (λ (fs : List Bytes). join_with_byte space (name ∷ fs)) (append-nil (parts text))
    ∙ joined_more name (parts text) (omega (arith, length-slice_split (λ b. b == space) text))
    ∙ ap (λ (t : Bytes). name ++ space ∷ t) (parts_joined text) in
    sym (append-nil (join_with_byte space (name ∷ (parts text ++ [])) ++ crlf)
    ∙ ap (λ (t : Bytes). t ++ crlf) whole)

-- the texts of values are those of the reply
pub reply_of_values : (values : List Value) (with_cas_unique : Bool)
    → values_text with_cas_unique values ++ replies.ended (codes "END")
    ≡ reply_text (replies.values (map value_of values) with_cas_unique)
reply_of_values values with_cas_unique =
    ap (λ (t : Bytes). t ++ replies.ended (codes "END"))
    (sym (flat_map-map (value_text with_cas_unique) value_of values))

-- the first values and the next have no more text than all of them
pub length-values_text-take : (values : List Value) (with_cas_unique : Bool) (i : ℕ) (v : Value)
    → v ≡ get_or values i v → i < length values
    → length (values_text with_cas_unique (take i values)) + length (value_text with_cas_unique (value_of v))
    ≤ length (values_text with_cas_unique values)
length-values_text-take values with_cas_unique i v is within =
    omega (
      arith,
      length-flat_map-take (λ (x : Value). value_text with_cas_unique (value_of x)) values i v within,
      ap (λ (x : Value). length (value_text with_cas_unique (value_of x))) is,
    )
