-- Canonical texts.
use Rattle.std.proofs.Common.{◌≡◌, ◌≤◌, true, false, length, Option, Some, None, refl, sym, subst}
use Rattle.std.specs.Prelude.{is_some}
use Rattle.definitions.specs.Bytes.{Bytes}
use Rattle.definitions.specs.Requests.{Asked, canonical, IsRequest}
use Rattle.definitions.specs.Canonical.{request_of, is_canonical}
use Rattle.definitions.proofs.RequestTexts.{request_of_some, length-canonical}

-- a canonical text spells a request
pub spells : (text : Bytes) → is_canonical text ≡ true
    → (r : Asked) × (request_of text ≡ Some r) × IsRequest r false × (text ≡ canonical r)
spells text is = by (request_of text) refl is
  where
    by : (o : Option Asked) → request_of text ≡ o → is_some o ≡ true
        → (r : Asked) × (request_of text ≡ Some r) × IsRequest r false × (text ≡ canonical r)
    by (Some r) e is = let p = request_of_some text r e in (r, e, p.0, p.1)
    by None e is = absurd cc

-- so it is no longer than the longest
pub short : (text : Bytes) → is_canonical text ≡ true → length text ≤ 4393
short text is =
    let r = spells text is in
    subst (λ (t : Bytes). length t ≤ 4393) (sym r.3) (length-canonical r.0 r.2)
