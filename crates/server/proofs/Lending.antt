-- Replicas that are lent from a row.
use Rattle.std.proofs.Common.{◌≡◌, refl, ℕ, zero, suc, ◌<◌, ◌≤◌, ◌+◌, List, [], ◌∷◌, Option, Some, None, Result, Ok, Err}
use Rattle.std.proofs.Common.{IfOk, OnErr, ap, subst, ◌∙◌, map, take, length, slice_index_or, arith}
use Rattle.std.specs.Prelude.{◌↔◌, IsOk, IfSome}
use Rattle.std.specs.List.{slice_get}
use Rattle.std.specs.Borrow.{Bor}
use Rattle.std.proofs.lemmas.Bool.{false≢true}
use Rattle.std.proofs.lemmas.Option.{slice_get-get_or}
use Rattle.ids.specs.declared.fault.Fault.{Fault}
use Rattle.definitions.specs.Audit.{IsVerdict, HistoriesAgree}
use Rattle.definitions.specs.Digests.{NoCollision}
use Rattle.definitions.specs.WindowAudit.{WindowsShow}
use Rattle.audit_ground.specs.Law.{KnownTo}
use Rattle.replica.specs.Steps.{Held}
use Rattle.audit.specs.Judged.{judged, AreEnough}
use Rattle.audit.specs.Verdicts.{verdict_of, window_verdict_of}
use Rattle.audit.specs.declared.verdict.Verdict.{Verdict}
use Rattle.audit.specs.declared.verdict.WindowVerdict.{WindowVerdict}
use Rattle.audit.specs.declared.verdict.WindowVerdict.TheVariants.{Agree}
use Rattle.server.specs.Ends.{IsOfAudit, IsOfWindows, AreFew, Shows, AreLent}

-- what stands at a place of a row, where something does
abbrev pub StandsAt : List (Option Held) → ℕ → Bor Held → Type 0
StandsAt row k lent = IfSome (slice_get row k) (λ one. IfSome one (λ whole. lent.now ≡ whole))

cons_same : (x y : Held) (xs ys : List Held) → x ≡ y → xs ≡ ys → x ∷ xs ≡ y ∷ ys
cons_same x y xs ys e f = ap (λ a. a ∷ xs) e ∙ ap (λ zs. y ∷ zs) f

same : (xs : List (Bor Held)) (rs : List Held) → length rs ≤ length xs
    → ((k : ℕ) → k < length rs → (d : Bor Held) → (r : Held) → slice_get rs k ≡ Some r → (slice_index_or xs k d).now ≡ r)
    → AreLent rs (take (length rs) xs)
same xs [] le each = refl
same [] (r ∷ rs) le each = absurd (omega (arith, le))
same (x ∷ xs) (r ∷ rs) le each =
    cons_same x.now r _ _ (each 0 (omega arith) x r refl)
    (same xs rs (omega (arith, le)) (λ k lt d q e. each (suc k) (omega (arith, lt)) d q e))

stands : (o : Option (Option Held)) (r v : Held) → o ≡ Some (Some r)
    → IfSome o (λ one. IfSome one (λ whole. v ≡ whole)) → v ≡ r
stands o r v e s = subst (λ p. IfSome p (λ one. IfSome one (λ whole. v ≡ whole))) e s

-- what was filled from a row that shows replicas lends them
pub are_lent : (row : List (Option Held)) (replicas : List Held) (lent : List (Bor Held)) → Shows row replicas
    → length lent ≡ 31 → ((k : ℕ) (d : Bor Held) → 0 ≤ k → k < 31 → StandsAt row k (slice_index_or lent k d))
    → (n : ℕ) → n ≡ length replicas → AreLent replicas (take n lent)
are_lent row replicas lent shows long each n many = rw many
    (same lent replicas (omega (arith, shows.room, long))
    (λ k lt d r e. stands _ r _ (shows.at k lt ∙ ap Some e) (each k d (omega arith) (omega (arith, lt, shows.room)))))

-- a row that was filled place by place shows all
pub shows_all : (row : List (Option Held)) (replicas : List Held) → length replicas ≤ 31 → length row ≡ 31
    → ((k : ℕ) (d : Option Held) → 0 ≤ k → k < 31 → slice_index_or row k d ≡ slice_get replicas k)
    → Shows row replicas
shows_all row replicas few long each = record {
  room = few;
  at = λ k lt. slice_get-get_or row k None (omega (arith, lt, few, long))
      ∙ ap Some (each k None (omega arith) (omega (arith, lt, few)));
}

-- what stands at a place of replicas
abbrev pub IsAt : List Held → ℕ → Bor Held → Type 0
IsAt all k lent = IfSome (slice_get all k) (λ one. lent.now ≡ one)

-- what was filled from replicas lends them
pub all_are_lent : (lent : List (Bor Held)) (all : List Held) → length all ≤ length lent
    → ((k : ℕ) (d : Bor Held) → k < length all → IsAt all k (slice_index_or lent k d))
    → AreLent all (take (length all) lent)
all_are_lent xs [] le each = refl
all_are_lent [] (r ∷ rs) le each = absurd (omega (arith, le))
all_are_lent (x ∷ xs) (r ∷ rs) le each =
    cons_same x.now r _ _ (each 0 x (omega arith))
    (all_are_lent xs rs (omega (arith, le)) (λ k d lt. each (suc k) d (omega (arith, lt))))

-- what the audit answers for what is lent, it says of the replicas
pub audit_said : (replicas : List Held) (lent : List (Bor Held)) (result : Result Verdict Fault)
    → AreLent replicas lent → (IsOk result ↔ AreEnough lent)
    → IfOk result (λ v. IsVerdict (judged lent) (verdict_of v)) → IfOk result (IsOfAudit replicas)
audit_said replicas lent (Ok v) these enough is =
    record { lent = lent; these = these; enough = enough.0 refl; is = is }
audit_said replicas lent (Err n) these enough is = tt

pub audit_refused : (replicas : List Held) (lent : List (Bor Held)) (result : Result Verdict Fault)
    → AreLent replicas lent → (IsOk result ↔ AreEnough lent) → OnErr result (AreFew replicas)
audit_refused replicas lent (Ok v) these enough = tt
audit_refused replicas lent (Err n) these enough =
    record { lent = lent; these = these; few = λ e. false≢true (enough.1 e) }

-- and what the windows show of what is lent
pub windows_said : (replicas : List Held) (lent : List (Bor Held)) (result : Result WindowVerdict Fault)
    → AreLent replicas lent → (IsOk result ↔ AreEnough lent)
    → IfOk result (λ v. WindowsShow (judged lent) (window_verdict_of v))
    → (result ≡ Ok Agree → NoCollision (KnownTo (judged lent)) → HistoriesAgree (judged lent))
    → IfOk result (IsOfWindows replicas)
windows_said replicas lent (Ok v) these enough shows agree = record {
  lent = lent;
  these = these;
  enough = enough.0 refl;
  is = shows;
  agree = λ e. agree (ap (λ (w : WindowVerdict). Ok w) e);
}
windows_said replicas lent (Err n) these enough shows agree = tt

pub windows_refused : (replicas : List Held) (lent : List (Bor Held)) (result : Result WindowVerdict Fault)
    → AreLent replicas lent → (IsOk result ↔ AreEnough lent) → OnErr result (AreFew replicas)
windows_refused replicas lent (Ok v) these enough = tt
windows_refused replicas lent (Err n) these enough =
    record { lent = lent; these = these; few = λ e. false≢true (enough.1 e) }

-- where there is no first one, there are too few
pub none_are_few : (replicas : List Held) → slice_get replicas 0 ≡ None → AreFew replicas
none_are_few [] e = record { lent = []; these = refl; few = λ e. absurd (omega (arith, e.enough)) }
none_are_few (r ∷ rs) e = absurd (cc)
