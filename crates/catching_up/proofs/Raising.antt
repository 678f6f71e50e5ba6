-- One more height was told.
use Rattle.std.proofs.Common.{ℕ, ◌≡◌, ◌+◌, ◌<◌, ◌≤◌, ◌&&◌, Bool, true, false, cond, List, length, ap, refl, sym, ◌∙◌, arith}
use Rattle.std.proofs.Common.{below_more, get_or, ltb}
use Rattle.std.proofs.lemmas.Bool.{false≢true, ltb-false, ltb-true}
use Rattle.std.proofs.lemmas.List.{get_or_default}
use Rattle.catching_up.specs.Told.{IsForemost, is_backed}

-- a height that was told, if it is backed, is at most this
abbrev IsBelow : (faults : ℕ) → (told : List ℕ) → (new k : ℕ) → Type 0
IsBelow faults told new k = is_backed faults told (get_or told k 0) ≡ true → get_or told k 0 ≤ new

pub one-more : (faults : ℕ) (told : List ℕ) (count best height new : ℕ) → IsForemost faults told count best
    → height ≡ get_or told count height → count < length told
    → new ≡ cond (ltb best height && is_backed faults told height) height best
    → IsForemost faults told (count + 1) new
one-more faults told count best height new h at lt is =
    by (ltb best height) (is_backed faults told height) refl refl is
  where
    here : get_or told count 0 ≡ height
    here = get_or_default told count 0 height lt ∙ sym at

    to : (new : ℕ) → best ≤ new → (is_backed faults told height ≡ true → height ≤ new)
        → (k : ℕ) → k < count + 1 → IsBelow faults told new k
    to new up own =
        below_more (IsBelow faults told new) count (λ k l b. omega (arith, h.greatest k l b, up))
        (λ b. omega (arith, here, own (ap (λ n. is_backed faults told n) (sym here) ∙ b)))

    by : (b c : Bool) → ltb best height ≡ b → is_backed faults told height ≡ c → new ≡ cond (b && c) height best
        → IsForemost faults told (count + 1) new
    by true true e g i = record {
      backed = λ _. ap (λ n. is_backed faults told n) i ∙ g;
      greatest = to new (omega (arith, i, ltb-true best height e)) (λ _. omega (arith, i));
    }
    by true false e g i = record {
      backed = λ l. ap (λ n. is_backed faults told n) i ∙ h.backed (omega (arith, l, i));
      greatest = to new (omega (arith, i)) (λ b. absurd (false≢true (sym g ∙ b)));
    }
    by false c e g i = record {
      backed = λ l. ap (λ n. is_backed faults told n) i ∙ h.backed (omega (arith, l, i));
      greatest = to new (omega (arith, i)) (λ _. omega (arith, i, ltb-false best height e));
    }
