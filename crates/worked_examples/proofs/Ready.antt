-- What healing asks of a world with these four replicas' keys, from what is computed of it.
use Rattle.std.specs.Prelude.{nat_lt}
use Rattle.std.proofs.Common.{ℕ, zero, suc, ◌≡◌, ◌<◌, ◌==◌, ◌++◌, ◌&&◌, ◌⊎◌, Bool, true, List, [], ◌∷◌, length}
use Rattle.std.proofs.Common.{refl, sym, ap, ap₂, subst, ◌∙◌, arith, inl, inr}
use Rattle.std.specs.List.{list_all}
use Rattle.std.specs.Int.{w16, to_be_bytes}
use Rattle.std.proofs.lemmas.Bool.{and_parts, ltb-true}
use Rattle.std.proofs.lemmas.List.Sums.{count_by-le-length}
use Rattle.std.proofs.Math.Nat.{min_comm, max_comm}
use Rattle.ids.specs.Sizes.{replicas}
use Rattle.definitions.specs.Branches.{Branch}
use Rattle.definitions.specs.Chronicles.{window}
use Rattle.definitions.specs.Keyrings.{Keyring}
use Rattle.definitions.specs.Lists.{Among}
use Rattle.definitions.specs.Worlds.{World}
use Rattle.definitions.proofs.Lists.{all-passes}
use Rattle.recovery.specs.Correct.{OfCorrect, AllGoOn, chronicle_of, lock_of, view_of}
use Rattle.recovery.specs.NeverWedged.{MayHeal, NobodyPruned, PrunedWell, healer, ground_of, blocks_made}
use Rattle.worked_examples.specs.Runs.{ring}

-- the key of two parties is the same for both
same_key : (p q : ℕ) → (ring p).key q ≡ (ring q).key p
same_key p q =
    ap₂ (λ (a b : ℕ). to_be_bytes w16 a ++ to_be_bytes w16 b) (min_comm p q) (max_comm p q)

-- what holds of each number below four holds of the correct replicas
pub of_four : (w : World) → replicas w.sizes ≡ 4 → (P : ℕ → Type 0) → P 0 → P 1 → P 2 → P 3 → OfCorrect w P
of_four w four P p0 p1 p2 p3 r c =
    below r (subst (λ (n : ℕ). r < n) four
    (ltb-true r (replicas w.sizes) (and_parts (nat_lt r (replicas w.sizes)) _ c).0))
  where
    below : (r : ℕ) → r < 4 → P r
    below zero l = p0
    below (suc zero) l = p1
    below (suc (suc zero)) l = p2
    below (suc (suc (suc zero))) l = p3
    below (suc (suc (suc (suc n)))) l = absurd (omega (arith, l))

-- what healing asks about is below nine: views, blocks of windows, the ground's and the lock's heights, blocks to make
abbrev pub is_small : World → Bool
is_small w =
    list_all (λ r. nat_lt (view_of w r) 9) (0 ∷ 1 ∷ 2 ∷ 3 ∷ [])
    && (list_all (λ r. nat_lt (length (window (chronicle_of w r))) 9) (0 ∷ 1 ∷ 2 ∷ 3 ∷ [])
    && list_all (λ n. nat_lt n 9) (length (ground_of w) ∷ length (lock_of w (healer w)) ∷ blocks_made w ∷ []))

-- so it is of each of four
all_below : (w : World) → replicas w.sizes ≡ 4 → (f : ℕ → ℕ)
    → list_all (λ r. nat_lt (f r) 9) (0 ∷ 1 ∷ 2 ∷ 3 ∷ []) ≡ true → OfCorrect w (λ r. f r < 9)
all_below w four f e =
    of_four w four (λ r. f r < 9) (at 0 (inl refl)) (at 1 (inr (inl refl))) (at 2 (inr (inr (inl refl))))
    (at 3 (inr (inr (inr (inl refl)))))
  where
    at : (r : ℕ) → Among r (0 ∷ 1 ∷ 2 ∷ 3 ∷ []) → f r < 9
    at r m = ltb-true (f r) 9 (all-passes (λ i. nat_lt (f i) 9) (0 ∷ 1 ∷ 2 ∷ 3 ∷ []) r e m)

-- what is computed of a small world
pub record Small (w : World) : Type 0 where
  pub four : replicas w.sizes ≡ 4
  pub rings : w.ring ≡ ring
  pub goes : AllGoOn w
  pub few : is_small w ≡ true
  pub kept : NobodyPruned w ⊎ PrunedWell w

pub may-heal : (w : World) → Small w → MayHeal w
may-heal w s = record {
  keys = record {
    numbers = λ p party ok. ap (λ (k : ℕ → Keyring). (k p).party) s.rings;
    keys = λ r c p party ok.
        ap (λ (k : ℕ → Keyring). (k r).key p) s.rings
        ∙ (same_key r p ∙ sym (ap (λ (k : ℕ → Keyring). (k p).key r) s.rings));
  };
  goes = s.goes;
  views = λ r c. let v = all_below w s.four (view_of w) parts.0 r c in let f = s.four in omega (arith, v, f);
  room = record {
    trees = λ r c. let f = windows r c in omega (arith, g, m, f);
    heights = λ r c h up.
        let f = windows r c in
        let k = count_by-le-length (λ (x : Branch). length x == h) (window (chronicle_of w r)) in
        omega (arith, f, k);
    low = omega (arith, m, l);
  };
  kept = s.kept;
}
  where
    heights : List ℕ
    heights = length (ground_of w) ∷ length (lock_of w (healer w)) ∷ blocks_made w ∷ []

    parts : (list_all (λ r. nat_lt (view_of w r) 9) (0 ∷ 1 ∷ 2 ∷ 3 ∷ []) ≡ true)
        × ((list_all (λ r. nat_lt (length (window (chronicle_of w r))) 9) (0 ∷ 1 ∷ 2 ∷ 3 ∷ [])
        && list_all (λ n. nat_lt n 9) heights) ≡ true)
    parts = and_parts _ _ s.few

    rest : (list_all (λ r. nat_lt (length (window (chronicle_of w r))) 9) (0 ∷ 1 ∷ 2 ∷ 3 ∷ []) ≡ true)
        × (list_all (λ n. nat_lt n 9) heights ≡ true)
    rest = and_parts _ _ parts.1

    windows : OfCorrect w (λ r. length (window (chronicle_of w r)) < 9)
    windows = all_below w s.four (λ r. length (window (chronicle_of w r))) rest.0

    low_one : (n : ℕ) → Among n heights → n < 9
    low_one n i = ltb-true n 9 (all-passes (λ j. nat_lt j 9) heights n rest.1 i)

    g : length (ground_of w) < 9
    g = low_one (length (ground_of w)) (inl refl)

    l : length (lock_of w (healer w)) < 9
    l = low_one (length (lock_of w (healer w))) (inr (inl refl))

    m : blocks_made w < 9
    m = low_one (blocks_made w) (inr (inr (inl refl)))
