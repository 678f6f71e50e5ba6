-- What holds of every lawful family, and that there is one that decides.
use Rattle.std.specs.Prelude.{ℕ, ◌≡◌, ◌<◌, ◌≤◌, ◌⊎◌, true, false, length}
use Rattle.ids.specs.Sizes.{replicas}
use Rattle.definitions.specs.Lists.{Among}
use Rattle.definitions.specs.Branches.{Branch, justify_height, Extends, Conflict}
use Rattle.definitions.specs.Chronicles.{decided}
use Rattle.definitions.specs.Careful.{AreCareful}
use Rattle.definitions.specs.Agreement.{Family, IsLawfulFamily, MayBeCertified}

-- a member decided the branch
abbrev pub IsDecided : Family → Branch → Type 0
IsDecided fam b = (i : ℕ) × (fam.is_member i ≡ true) × Among b (decided (fam.chronicle i))

-- of two decided branches one extends the other
abbrev pub OneExtends : Type 0
OneExtends =
    (fam : Family) (a b : Branch) → IsLawfulFamily fam → IsDecided fam a → IsDecided fam b
    → Extends a b ⊎ Extends b a

-- no two decided branches conflict
abbrev pub NoConflict : Type 0
NoConflict =
    (fam : Family) (a b : Branch) → IsLawfulFamily fam → IsDecided fam a → IsDecided fam b → Conflict a b → ⊥

-- a certified branch that is no lower than a decided one extends it
abbrev pub CertifiedExtends : Type 0
CertifiedExtends =
    (fam : Family) (x b : Branch) → IsLawfulFamily fam → MayBeCertified fam x → IsDecided fam b
    → length b ≤ length x → Extends x b

-- Where members vote carefully, no block above a decided one, of a certified branch, justifies one below the decided one.
abbrev pub NoneJustifiesBelow : Type 0
NoneJustifiesBelow =
    (fam : Family) (c b x : Branch) → IsLawfulFamily fam
    → ((i : ℕ) → fam.is_member i ≡ true → AreCareful (fam.chronicle i))
    → MayBeCertified fam c → IsDecided fam b → Extends c x → length b < length x → length b ≤ justify_height x

-- a family of four replicas, one of them no member, in which a branch above genesis is decided
pub record SomeDecision : Type 0 where
  pub fam : Family
  pub lawful : IsLawfulFamily fam
  pub four : replicas fam.sizes ≡ 4
  pub outsider : ℕ
  pub is_replica : outsider < 4
  pub no_member : fam.is_member outsider ≡ false
  pub branch : Branch
  pub decided : IsDecided fam branch
  pub above : 0 < length branch
