-- The audit of kept replicas: what their chronicles say of one another, by the digests that they stored.
-- Steps are counted from 0, the oldest.
use Rattle.std.specs.Prelude.{ℕ, suc, ◌≡◌, ◌≤◌, ◌==◌, ◌⊎◌, ◌&&◌, ◌||◌, not, Bool, true, false, List, []}
use Rattle.std.specs.Prelude.{◌∷◌, length, if◌then◌else◌, Option, None, Some, ⊤}
use Rattle.std.specs.List.{list_any, list_all}
use Rattle.std.specs.Str.{bytes_eq}
use Rattle.definitions.specs.Bytes.{Bytes}
use Rattle.definitions.specs.Lists.{beginning, IsBeginning, Among}
use Rattle.definitions.specs.Frames.{Core, genesis_core}
use Rattle.definitions.specs.Digests.{digest}
use Rattle.definitions.specs.Chronicles.{Step, Step.took_block, Chronicle}
use Rattle.definitions.specs.Replicas.{Replica, held_history}

-- a replica that is handed in, with its number
pub record Member : Type 0 where
  pub number : ℕ
  pub replica : Replica

-- the replicas that are judged
abbrev pub Judged : Type 0
Judged = List Member

-- a replica of this number is judged
unfoldable pub is_judged : Judged → ℕ → Bool
is_judged [] i = false
is_judged (m ∷ rest) i = (m.number == i) || is_judged rest i

-- what the first judged replica of this number stored
unfoldable pub chronicle_of : Judged → ℕ → Chronicle
chronicle_of [] i = []
chronicle_of (m ∷ rest) i = if m.number == i then m.replica.chronicle else chronicle_of rest i

-- ---- votes and taken blocks, by digests

-- the step gives a vote for the block of this digest
unfoldable pub gives_vote : Bytes → Step → Bool
gives_vote d (took_block a) = a.voted && bytes_eq (digest a.core) d
gives_vote d s = false

-- the voters that a step counts, where it takes a block
unfoldable pub counted_by : Step → List ℕ
counted_by (took_block a) = if a.new then a.counted else []
counted_by s = []

-- what their votes are for
unfoldable pub counted_for : Step → Bytes
counted_for (took_block a) = a.certificate.digest
counted_for s = []

-- the step takes the block of this digest
unfoldable pub takes : Bytes → Step → Bool
takes d (took_block a) = a.new && bytes_eq (digest a.core) d
takes d s = false

-- the senders that a step names, where it takes a block
unfoldable pub sent_by : Step → List ℕ
sent_by (took_block a) = if a.new then a.senders else []
sent_by s = []

-- the block that they sent
unfoldable pub sent_block : Step → Bytes
sent_block (took_block a) = digest a.core
sent_block s = []

-- ---- fronts

-- a beginning of each judged chronicle, by its length
abbrev pub Cut : Type 0
Cut = ℕ → ℕ

-- the step that follows the oldest k
unfoldable pub step_after : {A : Type 0} → ℕ → List A → Option A
step_after k [] = None
step_after k (x ∷ older) = if length older == k then Some x else step_after k older

-- v's vote for d stands in the cut
unfoldable pub has_vote : Judged → Cut → Bytes → ℕ → Bool
has_vote ks k d v = list_any (gives_vote d) (beginning (k v) (chronicle_of ks v))

-- v took the block of digest d in the cut
unfoldable pub has_taken : Judged → Cut → Bytes → ℕ → Bool
has_taken ks k d v = list_any (takes d) (beginning (k v) (chronicle_of ks v))

-- each of these that is judged passes
abbrev pub each_judged : Judged → (ℕ → Bool) → List ℕ → Bool
each_judged ks passes vs = list_all (λ v. not (is_judged ks v) || passes v) vs

-- each vote that a step counts in a judged replica's name stands in the cut, and each judged sender of its
-- block took it there
unfoldable pub is_backed : Judged → Cut → Step → Bool
is_backed ks k s =
    each_judged ks (has_vote ks k (counted_for s)) (counted_by s)
    && each_judged ks (has_taken ks k (sent_block s)) (sent_by s)

-- u has a step that follows the cut, and it is backed
unfoldable pub may_move : Judged → Cut → ℕ → Bool
may_move ks k u = elim (step_after (k u) (chronicle_of ks u)) [ None ↦ false | Some s ↦ is_backed ks k s ]

-- The replicas whose steps come one after the other, newest first; each makes its own steps in their order.
abbrev pub Turns : Type 0
Turns = List ℕ

-- how many steps each replica has made
unfoldable pub steps_in : Turns → Cut
steps_in [] i = 0
steps_in (u ∷ earlier) i = if u == i then suc (steps_in earlier i) else steps_in earlier i

-- each turn was allowed after those before it
abbrev pub AreAllowed : (Cut → ℕ → Bool) → Turns → Type 0
AreAllowed may [] = ⊤
AreAllowed may (u ∷ earlier) = (may (steps_in earlier) u ≡ true) × AreAllowed may earlier

-- the greatest cut to which allowed turns lead
pub record IsGreatest (may : Cut → ℕ → Bool) (k : Cut) : Type 0 where
  pub turns : Turns
  pub allowed : AreAllowed may turns
  pub reached : (i : ℕ) → steps_in turns i ≡ k i
  pub greatest : (other : Turns) → AreAllowed may other → (i : ℕ) → steps_in other i ≤ k i

-- the fronts: the greatest beginnings whose steps stand in one order in which each counted vote of a judged
-- replica comes before the step that counts it, and each taking of a judged sender before the step that
-- names it
abbrev pub AreFronts : Judged → Cut → Type 0
AreFronts ks k = IsGreatest (may_move ks) k

-- ---- reasons

-- where a core stands: it is genesis's, or that of a stored step
pub data CorePlace : Type 0 where
  at_genesis : CorePlace
  at_step : (replica step : ℕ) → CorePlace

-- why histories fork
pub data Reason : Type 0 where
  missing_vote : (receiver voter : ℕ) → (digest : Bytes) → Reason
  missing_take : (receiver sender : ℕ) → (digest : Bytes) → Reason
  collision : (first second : CorePlace) → Reason

-- what an audit answers
pub data Verdict : Type 0 where
  agree : Verdict
  fork : Reason → Verdict

-- an unbacked vote: the first step of u behind its front counts v's vote for d, and v's front has none
pub record IsUnbacked (ks : Judged) (u v : ℕ) (d : Bytes) : Type 0 where
  pub fronts : Cut
  pub are_fronts : AreFronts ks fronts
  pub step : Step
  pub behind : step_after (fronts u) (chronicle_of ks u) ≡ Some step
  pub counted : Among v (counted_by step)
  pub digest : counted_for step ≡ d
  pub judged : is_judged ks v ≡ true
  pub missing : has_vote ks fronts d v ≡ false

-- an unbacked block: the first step of u behind its front names v as a sender of the block of digest d, and
-- within its front v didn't take it
pub record IsUntaken (ks : Judged) (u v : ℕ) (d : Bytes) : Type 0 where
  pub fronts : Cut
  pub are_fronts : AreFronts ks fronts
  pub step : Step
  pub behind : step_after (fronts u) (chronicle_of ks u) ≡ Some step
  pub sent : Among v (sent_by step)
  pub digest : sent_block step ≡ d
  pub judged : is_judged ks v ≡ true
  pub missing : has_taken ks fronts d v ≡ false

-- the core that a step stored, where it admitted a block
unfoldable pub core_in : Option Step → Option Core
core_in (Some (took_block a)) = Some a.core
core_in (Some s) = None
core_in None = None

-- the core at a place
unfoldable pub core_at : Judged → CorePlace → Option Core
core_at ks at_genesis = Some genesis_core
core_at ks (at_step i k) = core_in (step_after k (chronicle_of ks i))

-- two unequal cores of one digest
pub record IsCollision (ks : Judged) (first second : CorePlace) : Type 0 where
  pub a : Core
  pub b : Core
  pub first_is : core_at ks first ≡ Some a
  pub second_is : core_at ks second ≡ Some b
  pub unequal : a ≡ b → ⊥
  pub one_digest : digest a ≡ digest b

-- the reason holds of the judged replicas
abbrev pub Holds : Judged → Reason → Type 0
Holds ks (missing_vote u v d) = IsUnbacked ks u v d
Holds ks (missing_take u v d) = IsUntaken ks u v d
Holds ks (collision p q) = IsCollision ks p q

-- the histories are pairwise beginnings of one another
abbrev pub HistoriesAgree : Judged → Type 0
HistoriesAgree ks = (a b : Member) → Among a ks → Among b ks →
    IsBeginning (held_history a.replica) (held_history b.replica)
    ⊎ IsBeginning (held_history b.replica) (held_history a.replica)

-- what an audit may answer: agree exactly where the histories agree, else a reason that holds
abbrev pub IsVerdict : Judged → Verdict → Type 0
IsVerdict ks agree = HistoriesAgree ks
IsVerdict ks (fork reason) = (HistoriesAgree ks → ⊥) × Holds ks reason
