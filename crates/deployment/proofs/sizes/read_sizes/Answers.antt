use Rattle.std.proofs.Common.{◌≡◌, ◌≤◌, ◌++◌, ◌∷◌, ◌∙◌, ap, sym, arith, codes, decimal}
use Rattle.deployment.proofs.Only.{same_number}
use Rattle.deployment.proofs.sizes.read_sizes.Goals as goal

pub returns-clause-read : goal.returns-clause-read
returns-clause-read c =
    rw c.in-Some-sized-3.ensures.made (c.in-Some.ensures.1
    ∙ ap (λ t. (codes "faults " ++ decimal c.in-Some.faults.0) ++ 10 ∷ t)
    (c.in-Some-number_at.ensures.1
    ∙ ap (λ t. (codes "clients " ++ decimal c.in-Some-number_at.clients.0) ++ 10 ∷ t)
    c.in-Some-number_at-2.ensures.1))

pub returns-in_default-sized-clause-bad : goal.returns-in_default-sized-clause-bad
returns-in_default-sized-clause-bad c = λ sizes rest are e.
    let f = same_number (codes "faults ") c.in-Some.faults.0 sizes.faults c.in-Some.faults.1.now _
    c.in-Some.ensures.0 (omega arith) (sym c.in-Some.ensures.1 ∙ e) in
    c.in_default-sized.ensures.refused
    (omega (arith, f.0), omega (arith, f.0), omega arith, omega arith, (omega arith, omega arith))

pub returns-in_default-number_at-clause-bad : goal.returns-in_default-number_at-clause-bad
returns-in_default-number_at-clause-bad c = λ sizes rest are e.
    let f = same_number (codes "faults ") c.in-Some.faults.0 sizes.faults c.in-Some.faults.1.now _
    c.in-Some.ensures.0 (omega arith) (sym c.in-Some.ensures.1 ∙ e) in
    c.in_default-number_at.ensures sizes.clients _ (omega arith) f.1

pub returns-in_default-sized-2-clause-bad : goal.returns-in_default-sized-2-clause-bad
returns-in_default-sized-2-clause-bad c = λ sizes rest are e.
    let f = same_number (codes "faults ") c.in-Some.faults.0 sizes.faults c.in-Some.faults.1.now _
    c.in-Some.ensures.0 (omega arith) (sym c.in-Some.ensures.1 ∙ e) in
    let g = same_number (codes "clients ") c.in-Some-number_at.clients.0 sizes.clients
    c.in-Some-number_at.clients.1.now _ c.in-Some-number_at.ensures.0 (omega arith)
    (sym c.in-Some-number_at.ensures.1 ∙ f.1) in
    c.in_default-sized-2.ensures.refused
    (omega (arith, f.0), omega (arith, f.0), omega (arith, g.0), omega (arith, g.0), (omega arith, omega arith))

pub returns-in_default-number_at-2-clause-bad : goal.returns-in_default-number_at-2-clause-bad
returns-in_default-number_at-2-clause-bad c = λ sizes rest are e.
    let f = same_number (codes "faults ") c.in-Some.faults.0 sizes.faults c.in-Some.faults.1.now _
    c.in-Some.ensures.0 (omega arith) (sym c.in-Some.ensures.1 ∙ e) in
    let g = same_number (codes "clients ") c.in-Some-number_at.clients.0 sizes.clients
    c.in-Some-number_at.clients.1.now _ c.in-Some-number_at.ensures.0 (omega arith)
    (sym c.in-Some-number_at.ensures.1 ∙ f.1) in
    c.in_default-number_at-2.ensures sizes.most_keys _ (omega (arith, are.4.1)) g.1

pub returns-in_default-sized-3-clause-bad : goal.returns-in_default-sized-3-clause-bad
returns-in_default-sized-3-clause-bad c = λ sizes rest are e.
    let f = same_number (codes "faults ") c.in-Some.faults.0 sizes.faults c.in-Some.faults.1.now _
    c.in-Some.ensures.0 (omega arith) (sym c.in-Some.ensures.1 ∙ e) in
    let g = same_number (codes "clients ") c.in-Some-number_at.clients.0 sizes.clients
    c.in-Some-number_at.clients.1.now _ c.in-Some-number_at.ensures.0 (omega arith)
    (sym c.in-Some-number_at.ensures.1 ∙ f.1) in
    let h = same_number (codes "keys-held ") c.in-Some-number_at-2.kept.0 sizes.most_keys
    c.in-Some-number_at-2.kept.1.now rest c.in-Some-number_at-2.ensures.0 (omega (arith, are.4.1))
    (sym c.in-Some-number_at-2.ensures.1 ∙ g.1) in
    c.in_default-sized-3.ensures.refused (
      omega (arith, f.0),
      omega (arith, f.0),
      omega (arith, g.0),
      omega (arith, g.0),
      (omega (arith, h.0, are.4.0), omega (arith, h.0, are.4.1)),
    )
