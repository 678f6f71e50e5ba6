-- What goes over a link in parts, and what stays.
use Rattle.std.proofs.Common.{List, [], ◌∷◌, ◌++◌}
use Rattle.std.proofs.Common.{None, refl, subst}
use Rattle.client_accept.specs.Sessions.{Held}
use Rattle.client_service.specs.Links.{Traffic}
use Rattle.client_service.specs.Links.{Passes, Goes}

pub goes_both : {L : Type 0} (carries : L → Traffic → L → Type 0) (ts us : List Traffic)
    (old mid new : Held × L)
    → Goes carries old ts mid → Goes carries mid us new → Goes carries old (ts ++ us) new
goes_both carries [] us old mid new first second = subst (λ x. Goes carries x us new) first second
goes_both carries (t ∷ ts) us old mid new (between, passes, first) second =
    (between, passes, goes_both carries ts us between mid new first second)

pub goes_one : {L : Type 0} (carries : L → Traffic → L → Type 0) (t : Traffic) (old new : Held × L)
    → Passes carries old t None new → Goes carries old (t ∷ []) new
goes_one carries t old new passes = (new, passes, refl)
