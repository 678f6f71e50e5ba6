use Rattle.std.proofs.Common.{◌≡◌, ℕ, Bool, true, false, cond, Option, None, Some, refl, sym, ap, ◌∙◌}
use Rattle.std.proofs.Common.{bytes_eq}
use Rattle.std.specs.Option.{option_eq}
use Rattle.std.proofs.lemmas.Bool.{eq-eqb, eqb-true, cond-true}
use lib.Dec.{eqb}
use Rattle.definitions.specs.Bytes.{Bytes}
use Rattle.definitions.proofs.Trees.{same_bytes}
use Rattle.block_tree.specs.declared.index.Index.{Index}
use Rattle.block_tree.specs.Indexed.{number_of, other_than}
use Rattle.block_tree.proofs.index.Index.remove.Goals as goal

is_number : (o : Option ℕ) (n : ℕ) → option_eq eqb o (Some n) ≡ true → o ≡ Some n
is_number None n e = absurd (cc)
is_number (Some k) n e = ap (λ (m : ℕ). Some m) (eqb-true k n e)

without : (i : Index) (a d : Bytes) (n : ℕ) → number_of i a ≡ Some n → (t : Bool) → bytes_eq a d ≡ t
    → cond t None (number_of i d) ≡ cond t (other_than n (number_of i d)) (number_of i d)
without i a d n is true e =
    sym (ap (other_than n) (ap (number_of i) (sym (same_bytes a d e)) ∙ is)
    ∙ cond-true _ _ _ (eq-eqb n n refl))
without i a d n is false e = refl

pub returns-then-eq : goal.returns-then-eq
returns-then-eq c d =
    c.remove.ensures.updates.0 d
    ∙ without c.args.self.now c.args.digest.now d c.args.number
    (sym c.get.ensures ∙ is_number c.get.result c.args.number (sym c.eq.ensures ∙ c.if-eq.true))
    (bytes_eq c.args.digest.now d) refl
