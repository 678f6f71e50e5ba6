-- What an array holds that a function of the place filled.
use denote.Param.Members.{Mut}
use Rattle.std.proofs.Common.{◌≡◌, refl, ℕ, zero, suc, ◌<◌, ◌≤◌, ◌+◌, List, ap, sym, subst, slice_index_or, arith, ◌⊎◌, inl, inr}
use Rattle.std.specs.Fn.{Called}
use Rattle.std.specs.Array.{IsFromFnResultFrom}

later : (i k : ℕ) → i ≤ k → (k ≡ i) ⊎ (i + 1 ≤ k)
later zero zero from = inl refl
later zero (suc k) from = inr (omega arith)
later (suc i) zero from = absurd (omega arith)
later (suc i) (suc k) from = elim (later i k (omega arith)) [ inl e ↦ inl (ap suc e) | inr e ↦ inr (omega (arith, e)) ]

module _ {F B : Type 0} (g : Mut F (ℕ × Unit {0}) B) (f : F) (P : ℕ → B → Type 0) (gives : (i : ℕ) (y : B) (q : F) → Called g f (i, tt) y q → (q ≡ f) × P i y) where
  -- where the function isn't changed by a call, and what it gives for a place has a property, each place has it
  pub filled : (ys : List B) (i n : ℕ) → IsFromFnResultFrom g f ys i n → (k : ℕ) (d : B) → i ≤ k → k < i + n → P k (slice_index_or ys k d)
  filled ys i zero each k d from below = absurd (omega arith)
  filled ys i (suc n) (q, y, is, call, rest) k d from below =
      let here : (k ≡ i) → P k (slice_index_or ys k d) = λ e. subst (λ j. P j (slice_index_or ys j d)) (sym e) (subst (P i) (sym (is.1 d)) (gives i y q call).1) in
      let there : i + 1 ≤ k → P k (slice_index_or ys k d) = λ e. filled ys (i + 1) n (subst (λ p. IsFromFnResultFrom g p ys (i + 1) n) (gives i y q call).0 rest) k d e (omega arith) in
      elim (later i k from) [ inl e ↦ here e | inr e ↦ there e ]
