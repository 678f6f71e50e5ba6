-- The digest of a block on the branch of one that a replica has, and what stands over its lock.
use Rattle.std.specs.Prelude.{nat_le, ◌||◌, unwrap_or}
use Rattle.std.specs.Option.{option_and_then}
use Rattle.std.proofs.Common.{ℕ, ◌+◌, ◌≤◌, ◌≡◌, ◌==◌, length, ap, ◌∙◌, arith, Option, Some, None, option_map, find, reverse, refl, subst, []}
use Rattle.std.proofs.lemmas.Bool.{cond-true, le-leb}
use Rattle.definitions.specs.Branches.{Branch, branch_eq, just1, just2}
use Rattle.definitions.specs.Bytes.{Bytes}
use Rattle.definitions.specs.Chronicles.{Admitted, Chronicle, horizon, taken_blocks}
use Rattle.definitions.specs.Digests.{digest_of}
use Rattle.definitions.specs.Lists.{beginning}
use Rattle.definitions.specs.States.{find_block}
use Rattle.definitions.specs.Replicas.{Replica}
use Rattle.definitions.specs.Worlds.{World}
use Rattle.recovery.specs.Correct.{chronicle_of, lock_of}
use Rattle.recovery.specs.Healing.{justified_by, over_lock}
use Rattle.replica.specs.Execution.{seen_at}
use Rattle.replica.specs.Locked as kept
use Rattle.replica.specs.Steps as steps
use Rattle.healer.specs.Courses.{IsReplicaIn}
use Rattle.healer.specs.Grounds.{HasWhole}

same-digest : (x y : Bytes) → Some x ≡ Some y → x ≡ y
same-digest x y e = cc

seen : (x : Branch) (k : ℕ) → k ≤ length x → seen_at 0 k x ≡ Some (beginning k x)
seen x k l =
    cond-true (nat_le 0 (k + 2) || (k == 0)) _ None (ap (λ b. b || (k == 0)) (le-leb 0 (k + 2) (omega arith)))
    ∙ cond-true (nat_le k (length x)) (Some (beginning k x)) None (le-leb k (length x) l)

pub below-is : (c : Chronicle) (d : Bytes) (top k : ℕ) (x : Branch) (found : Bytes) → HasWhole c d top x → k ≤ top
    → Some found ≡ option_map digest_of (option_and_then (seen_at (horizon c) k) (find_block d c))
    → found ≡ digest_of (beginning k x)
below-is c d top k x found h l e =
    let high = h.high in
    same-digest found (digest_of (beginning k x))
    (e ∙ (ap (λ (n : ℕ). option_map digest_of (option_and_then (seen_at n k) (find_block d c))) h.whole
    ∙ (ap (λ (o : Option Branch). option_map digest_of (option_and_then (seen_at 0 k) o)) h.found
    ∙ ap (λ (o : Option Branch). option_map digest_of o) (seen x k (omega (arith, l, high))))))

-- ---- what stands over a lock

over-same : (w : World) (i : ℕ) → kept.over_lock (chronicle_of w i) ≡ over_lock i w
over-same w i =
    by (find (λ a. branch_eq (just2 a.branch) (lock_of w i)) (reverse (taken_blocks (chronicle_of w i))))
  where
    by : (o : Option Admitted) → unwrap_or (option_map (λ a. just1 a.branch) o) [] ≡ justified_by o
    by None = refl
    by (Some a) = refl

-- what a replica of the world answers
pub over-is : (w : World) (i : ℕ) (h : steps.Held) (d : Bytes) (top : ℕ) → IsReplicaIn w i h
    → HasWhole h.replica.chronicle d top (kept.over_lock h.replica.chronicle)
    → HasWhole (chronicle_of w i) d top (over_lock i w)
over-is w i h d top r x =
    subst (λ (b : Branch). HasWhole (chronicle_of w i) d top b) (over-same w i)
    (subst (λ (z : Replica). HasWhole z.chronicle d top (kept.over_lock z.chronicle)) r.state x)
