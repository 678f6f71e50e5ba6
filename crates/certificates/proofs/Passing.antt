-- What a check comes to.
use Rattle.std.proofs.Common.{◌≡◌, Bool, true, false, refl}
use Rattle.definitions.specs.Rulings.{Input}
use Rattle.definitions.specs.Admission.{is_passed, when}

pub is_passed_when : (ok : Bool) (i : Input) → is_passed (when ok i) ≡ ok
is_passed_when true i = refl
is_passed_when false i = refl
