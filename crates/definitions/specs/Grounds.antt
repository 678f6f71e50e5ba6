-- Grounds: what a replica takes, and leads from, though it has no certificate that is good for it (this
-- project's own). A vote has one tag for each receiver, so a certificate may be good for one replica alone.
use Rattle.std.specs.Prelude.{ℕ, ◌≡◌, ◌⊎◌, ◌==◌, ◌&&◌, ◌||◌, not, Bool, true, List, [], ◌∷◌, length, if◌then◌else◌}
use Rattle.std.specs.Prelude.{nat_lt, nat_le, Option, Some, None}
use Rattle.std.specs.List.{list_any, list_all}
use Rattle.ids.specs.Sizes.{Sizes, replicas, quorum}
use Rattle.definitions.specs.Frames.{Certificate}
use Rattle.definitions.specs.Branches.{Branch, just1, branch_eq}
use Rattle.definitions.specs.Chronicles.{Admitted, Chronicle, lock, standing_blocks}
use Rattle.definitions.specs.Checks.{Identity, counted_voters, is_good}
use Rattle.definitions.specs.States.{qc_high}

-- no number stands twice
unfoldable pub are_distinct : List ℕ → Bool
are_distinct [] = true
are_distinct (x ∷ xs) = not (list_any (λ y. y == x) xs) && are_distinct xs

-- these are distinct replicas, and at least so many
unfoldable pub are_replicas : Sizes → ℕ → List ℕ → Bool
are_replicas s least vs =
    are_distinct vs && (list_all (λ v. nat_lt v (replicas s)) vs && nat_le least (length vs))

-- some block of the tree justifies b
unfoldable pub is_justified : Branch → Chronicle → Bool
is_justified b c = list_any (λ s. branch_eq (just1 s.branch) b) (standing_blocks c)

-- the voters of the highest certificate whose tags for this replica verify
unfoldable pub own_counted : Identity → Chronicle → List ℕ
own_counted self c = counted_voters self (qc_high self.sizes c).certificate

-- b is the block of the highest certificate, of which this replica counts a quorum
unfoldable pub is_own_certified : Identity → Branch → Chronicle → Bool
is_own_certified self b c =
    branch_eq (qc_high self.sizes c).block b
    && are_replicas self.sizes (quorum self.sizes) (own_counted self c)

-- a certificate that isn't good for its holder is kept without votes
abbrev pub without_votes : Certificate → Certificate
without_votes q = record q { votes = [] }

-- so what is kept is good for its holder, or has no votes
abbrev pub IsKept : Identity → Certificate → Type 0
IsKept self q = (is_good self q ≡ true) ⊎ (q.votes ≡ [])

-- A block as it is taken on grounds, if what it justifies has any: some block that was taken justifies it
-- too, or else it is the block of the own highest certificate, which then takes the place of the one that
-- came.
unfoldable pub grounded : Identity → Admitted → Chronicle → Option Admitted
grounded self a c =
    if is_justified (just1 a.branch) c
    then Some (record a { certificate = without_votes a.certificate; counted = [] })
    else (if is_own_certified self (just1 a.branch) c
    then Some (record a {
      certificate = (qc_high self.sizes c).certificate;
      counted = own_counted self c;
    })
    else None)

-- a block of the tree from which the replica may lead: it is no lower than the lock, and has grounds
unfoldable pub may_lead_from : Identity → Branch → Chronicle → Bool
may_lead_from self b c =
    nat_le (length (lock c)) (length b) && (is_justified b c || is_own_certified self b c)
