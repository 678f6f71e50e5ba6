-- What is remembered of taken blocks.
use Rattle.std.proofs.Common.{ℕ, ◌≡◌, ◌+◌, ◌<◌, ◌≤◌, List, [], ◌∷◌, cond}
use Rattle.std.proofs.Common.{refl, sym, ap, ◌∙◌, arith, nat_lt, nat_le, ◌&&◌}
use Rattle.std.proofs.lemmas.Bool.{cond_both, leb-true, leb-false, le-leb, lt-leb}
use Rattle.std.proofs.lemmas.Bool.{ne_eqb, and_left, cond-true, cond-false}
use Rattle.doorkeeper.specs.declared.brought.Brought.{Brought}
use Rattle.doorkeeper.specs.Doors.{brought, most_of_each, remembered, PassedAll}
use Rattle.doorkeeper.proofs.Accounts.{is_from, count-cons, count-no}

-- a block of another height counts for none of this one
pub other-height : (height payer : ℕ) (b : Brought) (taken : List Brought) → (b.height ≡ height → ⊥)
    → brought height payer (b ∷ taken) ≡ brought height payer taken
other-height height payer b taken d =
    count-no (is_from height payer) b taken (and_left _ _ (ne_eqb b.height height d))

-- of a height that is remembered, all count
pub brought-remembered : (base height payer : ℕ) (taken : List Brought) → base ≤ height
    → brought height payer (remembered base taken) ≡ brought height payer taken
brought-remembered base height payer [] l = refl
brought-remembered base height payer (b ∷ taken) l =
    let rest : brought height payer (remembered base taken) ≡ brought height payer taken =
    brought-remembered base height payer taken l in
    cond_both (nat_le base b.height) (b ∷ remembered base taken) (remembered base taken)
    (λ (xs : List Brought). brought height payer xs ≡ brought height payer (b ∷ taken))
    (λ t. count-cons (is_from height payer) b (remembered base taken)
    ∙ (ap (λ (k : ℕ). cond (is_from height payer b) 1 0 + k) rest
    ∙ sym (count-cons (is_from height payer) b taken)))
    (λ f. rest ∙ sym (other-height height payer b taken (lower (leb-false base b.height f))))
  where
    lower : b.height < base → b.height ≡ height → ⊥
    lower k e = omega arith

-- of a lower one none do
pub brought-forgotten : (base height payer : ℕ) (taken : List Brought) → height < base
    → brought height payer (remembered base taken) ≡ 0
brought-forgotten base height payer [] l = refl
brought-forgotten base height payer (b ∷ taken) l =
    let rest : brought height payer (remembered base taken) ≡ 0 =
    brought-forgotten base height payer taken l in
    cond_both (nat_le base b.height) (b ∷ remembered base taken) (remembered base taken)
    (λ (xs : List Brought). brought height payer xs ≡ 0)
    (λ t. other-height height payer b (remembered base taken) (higher (leb-true base b.height t)) ∙ rest)
    (λ f. rest)
  where
    higher : base ≤ b.height → b.height ≡ height → ⊥
    higher k e = omega arith

-- what passed still did where some are forgotten
pub passed-remembered : (n base : ℕ) (taken : List Brought) → PassedAll n taken
    → PassedAll n (remembered base taken)
passed-remembered n base [] p = p
passed-remembered n base (b ∷ taken) p =
    let rest : PassedAll n (remembered base taken) =
    passed-remembered n base taken p.1 in
    cond_both (nat_le base b.height) (b ∷ remembered base taken) (remembered base taken) (PassedAll n)
    (λ t. (
      ap (λ (k : ℕ). nat_lt b.payer n && nat_lt k (most_of_each n))
          (brought-remembered base b.height b.payer taken (leb-true base b.height t)) ∙ p.0,
      rest,
    ))
    (λ _. rest)

-- to forget more
pub remembered-again : (base before : ℕ) (taken : List Brought) → before ≤ base
    → remembered base (remembered before taken) ≡ remembered base taken
remembered-again base before [] l = refl
remembered-again base before (b ∷ taken) l =
    let rest : remembered base (remembered before taken) ≡ remembered base taken =
    remembered-again base before taken l in
    cond_both (nat_le before b.height) (b ∷ remembered before taken) (remembered before taken)
    (λ (xs : List Brought). remembered base xs ≡ remembered base (b ∷ taken))
    (λ t. ap (λ (xs : List Brought). cond (nat_le base b.height) (b ∷ xs) xs) rest)
    (λ f. rest
    ∙ sym (cond-false (nat_le base b.height) (b ∷ remembered base taken) (remembered base taken)
    (lt-leb base b.height (lower (leb-false before b.height f)))))
  where
    lower : b.height < before → b.height < base
    lower k = omega arith

-- what is lower than all that is remembered takes nothing away
pub remembered-same : (base before : ℕ) (taken : List Brought) → base ≤ before
    → remembered base (remembered before taken) ≡ remembered before taken
remembered-same base before [] l = refl
remembered-same base before (b ∷ taken) l =
    let rest : remembered base (remembered before taken) ≡ remembered before taken =
    remembered-same base before taken l in
    cond_both (nat_le before b.height) (b ∷ remembered before taken) (remembered before taken)
    (λ (xs : List Brought). remembered base xs ≡ xs)
    (λ t. cond-true (nat_le base b.height) (b ∷ remembered base (remembered before taken))
    (remembered base (remembered before taken)) (le-leb base b.height (higher (leb-true before b.height t)))
    ∙ ap (λ (xs : List Brought). b ∷ xs) rest)
    (λ f. rest)
  where
    higher : before ≤ b.height → base ≤ b.height
    higher k = omega arith
