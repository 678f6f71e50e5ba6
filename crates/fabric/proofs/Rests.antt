-- What is left of a list.
use Rattle.std.proofs.Common.{List, ◌++◌, ◌≡◌, ap, sym, ◌∙◌}
use Rattle.std.proofs.lemmas.List.{append_assoc}
use Rattle.fabric.specs.Proposed.{IsRest}

pub rest-of-rest : {X : Type 0} (xs ys zs gone : List X) → IsRest xs ys → ys ≡ gone ++ zs → IsRest xs zs
rest-of-rest xs ys zs gone are left =
    (are.0 ++ gone, are.1 ∙ ap (λ l. are.0 ++ l) left ∙ sym (append_assoc are.0 gone zs))
