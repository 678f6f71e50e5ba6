-- The counts of taken blocks, after one more and after some were forgotten.
use Rattle.std.proofs.Common.{ℕ, ◌≡◌, ◌+◌, ◌<◌, List, ◌∷◌, cond, filter, IsTrue}
use Rattle.std.proofs.Common.{Option, Some, None, refl, sym, ap, ◌∙◌, arith, ◌==◌, nat_eq, nat_le, get_or}
use Rattle.std.proofs.lemmas.Bool.{cond_both, eqb-true, eq-eqb, ne_eqb, eqb-false, leb-true, leb-false}
use Rattle.std.proofs.lemmas.Bool.{and_from, and_right}
use Rattle.std.proofs.lemmas.Map.Entries.{lookup-filter-keys}
use Rattle.std.specs.HashMap.{get, Updates}
use Rattle.std.specs.Map.{lookup}
use Rattle.ids.specs.declared.limits.TheConstants.{MOST_REPLICAS}
use Rattle.doorkeeper.specs.declared.brought.Brought.{Brought}
use Rattle.doorkeeper.specs.Doors.{brought, passes, remembered}
use Rattle.doorkeeper.specs.Rows.{Rows, count_in, AreCounts}
use Rattle.doorkeeper.proofs.Accounts.{is_from, count-yes, count-no}
use Rattle.doorkeeper.proofs.Remembering.{other-height, brought-remembered, brought-forgotten}
use Rattle.doorkeeper.proofs.Remembering.{passed-remembered}

-- one more of its payer, in the row of its height
at-height : (payer : ℕ) (b : Brought) (taken : List Brought)
    → brought b.height payer (b ∷ taken)
    ≡ cond (payer == b.payer) (brought b.height payer taken + 1) (brought b.height payer taken)
at-height payer b taken =
    cond_both (payer == b.payer) (brought b.height payer taken + 1) (brought b.height payer taken)
    (λ (k : ℕ). brought b.height payer (b ∷ taken) ≡ k)
    (λ t. count-yes (is_from b.height payer) b taken (and_from (b.height == b.height) (b.payer == payer)
    (eq-eqb b.height b.height refl) (eq-eqb b.payer payer (sym (eqb-true payer b.payer t))))
    ∙ (omega arith))
    (λ f. count-no (is_from b.height payer) b taken (and_right _ _ (ne_eqb b.payer payer
    (λ e. eqb-false payer b.payer f (sym e)))))

-- a block more, in the row of its height
pub counted-more : (n : ℕ) (rows rows' : Rows) (taken : List Brought) (b : Brought) (row : List ℕ)
    → AreCounts n rows taken → IsTrue (passes n b taken)
    → Updates nat_eq rows rows' b.height (Some row)
    → ((other : ℕ) → other < MOST_REPLICAS → get_or row other 0
    ≡ cond (other == b.payer) (brought b.height other taken + 1) (brought b.height other taken))
    → AreCounts n rows' (b ∷ taken)
counted-more n rows rows' taken b row counts pass put now = record {
  right = λ height payer l. rw (put.0 height)
      (cond_both (nat_eq b.height height) (Some row) (get nat_eq rows height)
      (λ (o : Option (List ℕ)). count_in payer o ≡ brought height payer (b ∷ taken))
      (λ t. now payer l
      ∙ (sym (at-height payer b taken)
      ∙ ap (λ (h : ℕ). brought h payer (b ∷ taken)) (eqb-true b.height height t)))
      (λ f. counts.right height payer l
      ∙ sym (other-height height payer b taken (eqb-false b.height height f))));
  passed = (pass, counts.passed);
}

-- what is lower than the base was forgotten
pub counted-forgotten : (n : ℕ) (rows rows' : Rows) (taken : List Brought) (base : ℕ)
    → AreCounts n rows taken → rows'.entries ≡ filter (λ e. nat_le base e.0) rows.entries
    → AreCounts n rows' (remembered base taken)
counted-forgotten n rows rows' taken base counts kept = record {
  right = λ height payer l. rw (at height)
      (cond_both (nat_le base height) (get nat_eq rows height) None
      (λ (o : Option (List ℕ)). count_in payer o ≡ brought height payer (remembered base taken))
      (λ t. counts.right height payer l
      ∙ sym (brought-remembered base height payer taken (leb-true base height t)))
      (λ f. sym (brought-forgotten base height payer taken (leb-false base height f))));
  passed = passed-remembered n base taken counts.passed;
}
  where
    at : (height : ℕ) → get nat_eq rows' height ≡ cond (nat_le base height) (get nat_eq rows height) None
    at height = ap (λ (es : List (ℕ × List ℕ)). lookup (nat_eq height) es) kept
        ∙ lookup-filter-keys (nat_eq height) (nat_le base) (nat_le base height)
        (λ k t. ap (nat_le base) (sym (eqb-true height k t))) rows.entries
