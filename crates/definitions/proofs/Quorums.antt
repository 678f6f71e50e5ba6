-- Quorums of replicas share members.
use Rattle.definitions.proofs.Counts.{found, overlap, apart-count, first-passing}
use Rattle.std.proofs.Common.{ℕ, ◌≡◌, ◌<◌, ◌≤◌, ◌&&◌, Bool, true, List, length, arith, inl, inr}
use Rattle.std.proofs.lemmas.Bool.{and_parts}
use Rattle.std.specs.List.{AllByRecursion}
use Rattle.definitions.specs.Lists.{Among, AreDistinct, count_below}
use Rattle.ids.specs.Sizes.{Sizes, replicas, quorum}

-- three quorums share a replica
pub shared : (s : Sizes) (m p q : ℕ → Bool) → quorum s ≤ count_below (replicas s) m
    → quorum s ≤ count_below (replicas s) p → quorum s ≤ count_below (replicas s) q
    → (i : ℕ) × (m i ≡ true) × (p i ≡ true) × (q i ≡ true)
shared s m p q hm hp hq =
    let n : ℕ = replicas s in
    let two = overlap n p q in
    let three = overlap n m (λ i. p i && q i) in
    let some = found n (λ i. m i && (p i && q i)) (omega (arith, two, three)) in
    let outer = and_parts (m some.0) (p some.0 && q some.0) some.1 in
    let inner = and_parts (p some.0) (q some.0) outer.1 in
    (some.0, outer.0, inner.0, inner.1)

-- more replicas than may be faulty have a member among them
pub some-member : (s : Sizes) (p : ℕ → Bool) (vs : List ℕ) → quorum s ≤ count_below (replicas s) p
    → AreDistinct vs → AllByRecursion (λ v. v < replicas s) vs → s.faults < length vs
    → (v : ℕ) × Among v vs × (p v ≡ true)
some-member s p vs q d l k =
    elim (first-passing p vs)
    [ inl r ↦ r | inr f ↦ absurd (let h = apart-count (replicas s) p vs d l f in omega (arith, h, q, k)) ]
