-- A replica that is kept for several threads, and its shares.
use Rattle.std.specs.Prelude.{◌≡◌, ℕ, ◌-◌, ◌<◌, ◌==◌, Bool, ◌&&◌, IsTrue, List, length, sum}
use Rattle.std.specs.Prelude.{slice_index, nat_lt, All, EachIndex, count_by}
use Rattle.definitions.specs.Keyrings.{Keys}
use Rattle.definitions.specs.Chronicles.{IsLawful}
use Rattle.definitions.specs.Replicas.{Replica, held_history}
use Rattle.marks.specs.Eyes.{EyeState, IsOwnerOf}
use Rattle.turns.specs.Shares.{ShareState}

-- a kept replica: its keys and its state, the count of each share made of it, and the eye that owns its mark
pub record KeptState : Type 0 where
  pub keys : Keys
  pub replica : Replica
  pub shares : List ℕ
  pub eye : EyeState

-- what its mark says: how many commands it has executed
abbrev pub mark_of : Replica → ℕ
mark_of replica = length (held_history replica)

-- What holds of each kept replica: its chronicle is lawful, the shares count its steps together, and its
-- eye owns its mark and has put there how far it has executed.
pub record Holds (kept : KeptState) : Type 0 where
  pub lawful : IsLawful kept.keys.sizes kept.replica.chronicle
  pub counts : sum kept.shares ≡ length kept.replica.chronicle
  pub number : kept.keys.party < kept.eye.marks.words
  pub owner : IsOwnerOf kept.keys.party kept.eye.sight
  pub put : kept.eye.sight.put ≡ mark_of kept.replica

-- the share is one of those made, with the count that is kept for it
abbrev pub is_own : KeptState → ShareState → Bool
is_own kept share = (share.replica == kept.keys.party)
    && (nat_lt share.number (length kept.shares) && (slice_index kept.shares share.number == share.count))

-- these are all the shares made, each once
pub record AreAll (kept : KeptState) (shares : List ShareState) : Type 0 where
  pub own : All (λ s. IsTrue (is_own kept s)) shares
  pub once : EachIndex kept.shares (λ i. count_by (λ s. s.number == i) shares ≡ 1)

-- how many steps a replica gained
abbrev pub gained : Replica → Replica → ℕ
gained old new = length new.chronicle - length old.chronicle
