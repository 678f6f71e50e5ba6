-- The lines of several replicas or fronts, one more.
use Rattle.std.proofs.Common.{◌≡◌, ℕ, suc, ◌+◌, ◌≤◌, List, [], ◌∷◌, ◌++◌, length, arith, refl, sym, ap, ◌∙◌, add-zero}
use Rattle.std.proofs.Common.{map, decimal, codes}
use Rattle.std.specs.Prelude.{sum}
use Rattle.std.specs.Borrow.{Bor}
use Rattle.std.proofs.lemmas.List.Sums.{sum_by_push}
use Rattle.std.specs.List.{AllByRecursion}
use Rattle.definitions.specs.Bytes.{Bytes}
use Rattle.deployment.specs.Fields.{IsAddress, numbered}
use Rattle.deployment.specs.Deployments.{AreAddresses, line, replicas_text, fronts_text}

pub one_more_replica : (i : ℕ) (before : List Bytes) (address rest : Bytes)
    → replicas_text i (before ++ address ∷ []) rest
    ≡ replicas_text i before (line (codes "replica " ++ (numbered (i + length before) ++ address)) rest)
one_more_replica i [] address rest = rw add-zero refl
one_more_replica i (a ∷ later) address rest =
    let place : i + 1 + length later ≡ i + suc (length later) = omega arith in
    ap (line (codes "replica " ++ (numbered i ++ a)))
    (rw place at (one_more_replica (i + 1) later address rest))

pub one_more_front : (k : ℕ) (before : List ℕ) (clients : ℕ) (rest : Bytes)
    → fronts_text k (before ++ clients ∷ []) rest
    ≡ fronts_text k before (line (codes "front " ++ (numbered (k + length before) ++ decimal clients)) rest)
one_more_front k [] clients rest = rw add-zero refl
one_more_front k (n ∷ ns) clients rest =
    let place : k + 1 + length ns ≡ k + suc (length ns) = omega arith in
    ap (line (codes "front " ++ (numbered k ++ decimal n)))
    (rw place at (one_more_front (k + 1) ns clients rest))

pub all_push : {X : Type 0} (P : X → Type 0) (xs : List X) (x : X) → AllByRecursion P xs → P x
    → AllByRecursion P (xs ++ x ∷ [])
all_push P [] x all more = (more, tt)
all_push P (y ∷ ys) x all more = (all.0, all_push P ys x all.1 more)

pub now_push : (xs : List (Bor Bytes)) (x : Bor Bytes)
    → map (λ a. a.now) (xs ++ x ∷ []) ≡ map (λ a. a.now) xs ++ x.now ∷ []
now_push [] x = refl
now_push (y ∷ ys) x = ap (λ l. y.now ∷ l) (now_push ys x)

pub length_push : {X : Type 0} (xs : List X) (x : X) → length (xs ++ x ∷ []) ≡ length xs + 1
length_push [] x = refl
length_push (y ∷ ys) x = omega (arith, length_push ys x)

pub sum_push : (xs : List ℕ) (x : ℕ) → sum (xs ++ x ∷ []) ≡ sum xs + x
sum_push xs x = sum_by_push (λ n. n) xs x

pub more_addresses : (i : ℕ) (text rest more : Bytes) (before after : List (Bor Bytes)) (x : Bor Bytes)
    → AreAddresses i (map (λ a. a.now) before) → text ≡ replicas_text 0 (map (λ a. a.now) before) rest
    → IsAddress x.now → rest ≡ (codes "replica " ++ (numbered i ++ x.now)) ++ 10 ∷ more
    → after ≡ before ++ x ∷ []
    → AreAddresses (i + 1) (map (λ a. a.now) after) × (text ≡ replicas_text 0 (map (λ a. a.now) after) more)
more_addresses i text rest more before after x are is fits next pushed =
    let old = map (λ (a : Bor Bytes). a.now) before in
    let all : map (λ (a : Bor Bytes). a.now) after ≡ old ++ x.now ∷ [] =
    ap (map (λ (a : Bor Bytes). a.now)) pushed ∙ now_push before x in
    let place : 0 + length old ≡ i = omega (arith, are.0) in
    let longer = one_more_replica 0 old x.now more in
    rw all (
      (omega (arith, length_push old x.now, are.0), all_push IsAddress old x.now are.1 fits),
      is ∙ ap (replicas_text 0 old) next ∙ sym (rw place at longer),
    )

pub more_fronts : (k clients : ℕ) (text rest more : Bytes) (before after : List ℕ)
    → text ≡ fronts_text 0 before rest → length before ≡ k
    → rest ≡ (codes "front " ++ (numbered k ++ decimal clients)) ++ 10 ∷ more → after ≡ before ++ clients ∷ []
    → text ≡ fronts_text 0 after more
more_fronts k clients text rest more before after is long next pushed =
    let place : 0 + length before ≡ k = omega (arith, long) in
    let longer = one_more_front 0 before clients more in
    rw pushed (is ∙ ap (fronts_text 0 before) next ∙ sym (rw place at longer))
