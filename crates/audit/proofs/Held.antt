-- Replicas that are enough are judged.
use Rattle.std.proofs.Common.{ℕ, ◌≡◌, ◌<◌, List, sym, ap, subst, arith}
use Rattle.std.specs.Prelude.{All}
use Rattle.std.specs.Borrow.{Bor}
use Rattle.std.proofs.lemmas.List.{length-map}
use Rattle.ids.specs.Sizes.{Sizes, replicas}
use Rattle.definitions.specs.Lists.{Among}
use Rattle.definitions.specs.Audit.{Member}
use Rattle.definitions.proofs.Lists.{Among-map, AllByRecursion-from}
use Rattle.audit_ground.specs.Law.{AreJudged, IsLawfullyKept, numbers}
use Rattle.replica.specs.Steps.{Held}
use Rattle.audit.specs.Judged.{member_of, judged, AreEnough, IsHeld}
use Rattle.audit.proofs.Lists.{each-holds}

-- each is held at the sizes of all
held : (rs : List (Bor Held)) (sizes : Sizes) → All (λ r. r.now.keys.sizes ≡ sizes) rs
    → All (λ r. IsHeld r.now) rs → (r : Bor Held) → Among r rs
    → (r.now.keys.party < replicas sizes) × IsLawfullyKept sizes r.now.replica.chronicle
held rs sizes same h r m =
    let e = each-holds (λ (x : Bor Held). x.now.keys.sizes ≡ sizes) rs same r m in
    let k = each-holds (λ (x : Bor Held). IsHeld x.now) rs h r m in (
      subst (λ (s : Sizes). r.now.keys.party < replicas s) e k.0,
      subst (λ (s : Sizes). IsLawfullyKept s r.now.replica.chronicle) e k.1,
    )

-- the number of a member is below n
below : (rs : List (Bor Held)) (sizes : Sizes) → All (λ r. r.now.keys.sizes ≡ sizes) rs
    → All (λ r. IsHeld r.now) rs → (i : ℕ) → Among i (numbers (judged rs)) → i < replicas sizes
below rs sizes same h i n =
    let m = Among-map (λ (x : Member). x.number) (judged rs) i n in
    let r = Among-map (λ (x : Bor Held). member_of x.now) rs m.0 m.1 in
    let l = (held rs sizes same h r.0 r.1).0 in
    let e = ap (λ (x : Member). x.number) r.2 in
    omega (arith, l, e, m.2)

pub are-judged : (rs : List (Bor Held)) (e : AreEnough rs) → All (λ r. IsHeld r.now) rs
    → AreJudged e.sizes (judged rs)
are-judged rs e h = record {
  enough = (
      let n = length-map rs (λ (x : Bor Held). member_of x.now) in
      let q = e.enough in omega (arith, n, q)
      );
  distinct = e.distinct;
  below = AllByRecursion-from (λ (i : ℕ). i < replicas e.sizes) (numbers (judged rs))
      (below rs e.sizes e.same h);
  kept = λ m n apart.
      let r = Among-map (λ (x : Bor Held). member_of x.now) rs m n in
      subst (λ (x : Member). IsLawfullyKept e.sizes x.replica.chronicle) (sym r.2)
      (held rs e.sizes e.same h r.0 r.1).1;
}
