-- A run without offers, copies of blocks, leads and questions is judged as if there were none of them.
use Rattle.std.specs.Prelude.{ℕ, ◌≡◌, ◌<◌, true, List, [], ◌∷◌, length, nat_lt, if◌then◌else◌, Option, Some, None}
use Rattle.std.specs.Prelude.{IfSome, Ok, Bool, ⊤}
use Rattle.std.specs.List.{AllByRecursion}
use Rattle.ids.specs.Sizes.{Sizes}
use Rattle.definitions.specs.Branches.{Branch}
use Rattle.definitions.specs.Checks.{Identity, is_good}
use Rattle.definitions.specs.Chronicles.{Step, Step.took_block, Step.noted, Note.seen_view, Note.led_from}
use Rattle.definitions.specs.Chronicles.{Chronicle}
use Rattle.definitions.specs.Digests.{digest}
use Rattle.definitions.specs.Frames.{genesis_core}
use Rattle.definitions.specs.Keyrings.{Keyring}
use Rattle.definitions.specs.States.{Justified, raised, qc_high}
use Rattle.definitions.specs.Worlds.{World, Event, offer, gather, lead, ask, Happening, new_world, is_correct}
use Rattle.definitions.specs.Worlds.{self_of}
use Rattle.definitions.specs.Runs.{run}
use Rattle.definitions.specs.Premises.{ArePremises}

-- an event of another kind
abbrev pub IsUsual : Event → Type 0
IsUsual (offer to source) = ⊥
IsUsual (gather to sources) = ⊥
IsUsual (lead r d) = ⊥
IsUsual (ask r to d) = ⊥
IsUsual e = ⊤

-- ---- the highest certificate, where no step leads and each certificate has votes

-- the one of the greater height, the older one where they are equal
abbrev pub first_of : Option Justified → Justified → Justified
first_of None q = q
first_of (Some p) q = if nat_lt (length q.block) (length p.block) then p else q

-- the first certificate of the greatest height
unfoldable pub first_highest : Sizes → Chronicle → Justified
first_highest s [] = record { block = []; certificate = record { digest = digest genesis_core; votes = [] } }
first_highest s (x ∷ earlier) = first_of (raised s x earlier) (first_highest s earlier)

-- a certificate of a block above genesis has votes
abbrev pub HasVotes : Justified → Type 0
HasVotes j = 0 < length j.block → 0 < length j.certificate.votes

-- no step leads, and what each brings has votes, as good certificates do
abbrev pub NoneLeads : Sizes → Chronicle → Type 0
NoneLeads s [] = ⊤
NoneLeads s (x ∷ earlier) =
    ((b : Branch) → x ≡ noted (led_from b) → ⊥) × IfSome (raised s x earlier) HasVotes × NoneLeads s earlier

-- ---- a run

-- a block was taken by a certificate that is good for the replica, no view counts without one, and none leads
abbrev pub IsUsualStep : Identity → Step → Type 0
IsUsualStep self (took_block a) = (is_good self a.certificate ≡ true) × (a.senders ≡ [])
IsUsualStep self (noted (seen_view view sender)) = ⊥
IsUsualStep self (noted (led_from b)) = ⊥
IsUsualStep self st = ⊤

-- so is each step of a replica, and its highest certificate is the first of the greatest height
pub record IsJudgedAsBefore (self : Identity) (c : Chronicle) : Type 0 where
  pub steps : AllByRecursion (IsUsualStep self) c
  pub highest : qc_high self.sizes c ≡ first_highest self.sizes c

-- each correct replica is judged so at the end of each such run
abbrev pub UsualRunsAreJudgedAsBefore : Type 0
UsualRunsAreJudgedAsBefore =
    (sizes : Sizes) (is_faulty : ℕ → Bool) (ring : ℕ → Keyring) (hs : List Happening) (last : World)
    → ArePremises (new_world sizes is_faulty ring) hs → AllByRecursion (λ h. IsUsual h.0) hs
    → run (new_world sizes is_faulty ring) hs ≡ Ok last → (i : ℕ) → is_correct last i ≡ true
    → IsJudgedAsBefore (self_of last i) (last.replica i).chronicle
