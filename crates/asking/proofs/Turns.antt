-- Accounts are apart, and payers have their turns.
use Rattle.std.proofs.Common.{ℕ, ◌≡◌, ◌⊎◌, ◌+◌, ◌-◌, ◌<◌, ◌≤◌, ◌&&◌, Bool, true, false, cond, inl, inr, arith, refl}
use Rattle.std.proofs.Common.{sym, ap}
use Rattle.std.proofs.Common.{subst, ◌∙◌, Some, [], ◌∷◌, ◌++◌, nat_lt, get_or}
use Rattle.std.specs.Prelude.{slice_get, count_by}
use Rattle.std.proofs.lemmas.Bool.{cases_eq, cases_lt, cond_both, ne_eqb, lt-ltb, le-ltb, le-leb, lt-leb, ltb-true}
use Rattle.std.proofs.lemmas.Bool.{eq-eqb, ltb-false, or_parts}
use Rattle.std.proofs.lemmas.List.Sums.{sum_by_push}
use Rattle.tuning.specs.declared.asking.TheConstants.{MOST_ASKED_FOR}
use Rattle.asking.specs.Asking.{Asking, IsBounded, Question, has_room, is_paid_by, is_wanted}
use Rattle.asking.specs.Asking.{new_question, one_behind, places_behind}
use Rattle.asking.specs.Laws.{ComeNearer, OthersKeepRoom}
use Rattle.asking.proofs.Changing.{get-at, some-counted, within-at}

pub others-keep-room : OthersKeepRoom
others-keep-room n block payer other whom now qs apart =
    cond_both (is_wanted block qs) qs (qs ++ new_question block payer whom now ∷ [])
    (λ l. has_room n other l ≡ has_room n other qs) (λ t. refl)
    (λ f. ap (λ k. nat_lt other n && nat_lt k MOST_ASKED_FOR)
    (sum_by_push (λ (q : Question). cond (is_paid_by other q) 1 0) qs (new_question block payer whom now)
    ∙ ap (λ b. count_by (is_paid_by other) qs + cond b 1 0) (ne_eqb payer other apart) ∙ omega arith))

-- places behind the turn, either way
abbrev IsBehind : (n turn payer places : ℕ) → Type 0
IsBehind n turn payer places =
    ((turn ≤ payer) × (places ≡ payer - turn)) ⊎ ((payer < turn) × (places ≡ payer + n - turn))

behind : (n turn payer : ℕ) → IsBehind n turn payer (places_behind n turn payer)
behind n turn payer = elim (cases_lt payer turn) [
  | inl l ↦ inr (l, rw (lt-leb turn payer l) refl)
  | inr l ↦ inl (l, rw (le-leb turn payer l) refl)
]

abbrev IsNextTo : (n r u : ℕ) → Type 0
IsNextTo n r u = ((r + 1 < n) × (u ≡ r + 1)) ⊎ ((n ≤ r + 1) × (u ≡ 0))

next-to : (n r : ℕ) → IsNextTo n r (one_behind n r)
next-to n r = elim (cases_lt (r + 1) n) [
  | inl l ↦ inl (l, rw (lt-ltb (r + 1) n l) refl)
  | inr l ↦ inr (l, rw (le-ltb (r + 1) n l) refl)
]

nearer : (n turn p q u a b c : ℕ) → turn < n → p < n → q < n → (p ≡ q → ⊥) → IsBehind n turn q a → IsBehind n turn p b
    → a ≤ b → IsNextTo n q u → IsBehind n u p c → c < b
nearer n turn p q u a b c l m k apart g h le nx i = grind arith

-- a payer is a replica
payer-within : (a : Asking) → IsBounded a → (k : ℕ) (q : Question) → slice_get a.questions k ≡ Some q
    → q.payer < a.replicas
payer-within a is k q at = by (nat_lt q.payer a.replicas) refl
  where
    own : get_or a.questions k q ≡ q
    own = let there = get-at a.questions k q (within-at a.questions k q at) in cc

    counts : 1 ≤ count_by (is_paid_by q.payer) a.questions
    counts = some-counted (is_paid_by q.payer) a.questions k q (within-at a.questions k q at)
        (ap (is_paid_by q.payer) own ∙ eq-eqb q.payer q.payer refl)

    by : (b : Bool) → nat_lt q.payer a.replicas ≡ b → q.payer < a.replicas
    by true e = ltb-true q.payer a.replicas e
    by false e =
        let none : cond (nat_lt q.payer a.replicas) MOST_ASKED_FOR 0 ≡ 0 = ap (λ b. cond b MOST_ASKED_FOR 0) e in
        absurd (omega (arith, counts, is.few q.payer, none))

pub come-nearer : ComeNearer
come-nearer old new now ask is asks k other at due = elim (cases_eq other.payer q.payer) [
  | inl e ↦ inl e
  | inr apart ↦ inr (subst (λ (a : Asking). places_behind a.replicas a.turn other.payer
      < places_behind old.replicas old.turn other.payer) (sym asks.is)
      (nearer old.replicas old.turn other.payer q.payer (one_behind old.replicas q.payer)
      (places_behind old.replicas old.turn q.payer) (places_behind old.replicas old.turn other.payer)
      (places_behind old.replicas (one_behind old.replicas q.payer) other.payer) is.turn
      (payer-within old is k other at) (payer-within old is asks.place q asks.next.at) apart
      (behind old.replicas old.turn q.payer) (behind old.replicas old.turn other.payer)
      (ltb-false _ _ (or_parts _ _ (asks.next.first k other at due)).0) (next-to old.replicas q.payer)
      (behind old.replicas (one_behind old.replicas q.payer) other.payer)))
]
  where
    q : Question
    q = asks.question
