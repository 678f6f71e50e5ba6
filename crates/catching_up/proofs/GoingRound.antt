-- Turns go round.
use Rattle.std.proofs.Common.{ℕ, suc, ◌≡◌, ◌⊎◌, ◌+◌, ◌-◌, ◌<◌, ◌≤◌, false, cond, List, [], ◌∷◌, length, refl, ap, sym, ◌∙◌, subst, arith}
use Rattle.std.proofs.Common.{inl, inr, ltb}
use Rattle.std.specs.Prelude.{Contains}
use Rattle.std.proofs.lemmas.Bool.{cases_eq, cases_lt, eq-eqb, ne_eqb, le-ltb, lt-ltb}
use Rattle.asking.specs.Asking.{one_behind}
use Rattle.catching_up.specs.Turns.{next_peer}
use Rattle.catching_up.specs.States.{CatchingUp, IsSound, asked, stays, whom}
use Rattle.catching_up.specs.Laws.{AskInARow, EachIsAsked, IsLike}

-- how many steps lead from one up to another, of n in a ring: n to itself
abbrev ahead : (n p q : ℕ) → ℕ
ahead n p q = cond (ltb p q) (q - p) (q + n - p)

abbrev IsAhead : (n p q steps : ℕ) → Type 0
IsAhead n p q steps = ((p < q) × (steps ≡ q - p)) ⊎ ((q ≤ p) × (steps ≡ q + n - p))

ahead-is : (n p q : ℕ) → IsAhead n p q (ahead n p q)
ahead-is n p q = elim (cases_lt p q) [
  | inl l ↦ inl (l, rw (lt-ltb p q l) refl)
  | inr l ↦ inr (l, rw (le-ltb p q l) refl)
]

abbrev IsNextTo : (n p v : ℕ) → Type 0
IsNextTo n p v = ((p + 1 < n) × (v ≡ p + 1)) ⊎ ((n ≤ p + 1) × (v ≡ 0))

next-to : (n p : ℕ) → IsNextTo n p (one_behind n p)
next-to n p = elim (cases_lt (p + 1) n) [
  | inl l ↦ inl (l, rw (lt-ltb (p + 1) n l) refl)
  | inr l ↦ inr (l, rw (le-ltb (p + 1) n l) refl)
]

next-within : (n p v : ℕ) → 0 < n → IsNextTo n p v → v < n
next-within n p v l h = grind arith

-- from the next one it is a step less
one-less : (n p q v a b : ℕ) → p < n → q < n → IsNextTo n p v → IsAhead n p q a → IsAhead n v q b → (v ≡ q → ⊥)
    → a ≡ b + 1
one-less n p q v a b l m h i j apart = grind arith

one-step : (n p v a : ℕ) → p < n → IsNextTo n p v → IsAhead n p v a → a ≡ 1
one-step n p v a l h i = grind arith

-- one that is so many steps ahead is asked within so many turns: the replica itself has none
abbrev Reaches : (steps own turns : ℕ) → Type 0
Reaches steps own turns = (steps ≤ turns) ⊎ ((steps ≤ turns + 1) × (own < steps))

-- the next peer is next to a peer, or next to the replica itself, which is next to that
abbrev IsNextPeer : (n own p u : ℕ) → Type 0
IsNextPeer n own p u = (IsNextTo n p u × (u ≡ own → ⊥)) ⊎ (IsNextTo n p own × IsNextTo n own u)

next-peer : (n own p : ℕ) → IsNextPeer n own p (next_peer n own p)
next-peer n own p = elim (cases_eq (one_behind n p) own) [
  | inl e ↦ inr (
    subst (λ (v : ℕ). IsNextTo n p v) e (next-to n p),
    rw (eq-eqb (one_behind n p) own e, e) (next-to n own),
  )
  | inr ne ↦ inl (rw (ne_eqb (one_behind n p) own ne) (next-to n p), rw (ne_eqb (one_behind n p) own ne) ne)
]

nearer-far : (a b c d m : ℕ) → a ≡ c + 1 → b ≡ d + 1 → Reaches a b (suc m) → Reaches c d m
nearer-far a b c d m e f h = grind arith

nearer-past : (a b c d m : ℕ) → a ≡ c + 2 → Reaches a b (suc m) → Reaches c d m
nearer-past a b c d m e h = grind arith

nearer : (n own p q u m : ℕ) → own < n → p < n → q < n → (q ≡ own → ⊥) → (u ≡ q → ⊥) → IsNextPeer n own p u
    → Reaches (ahead n p q) (ahead n p own) (suc m) → Reaches (ahead n u q) (ahead n u own) m
nearer n own p q u m lo lp lq other apart next h = elim next [
  | inl (to, not_own) ↦ nearer-far (ahead n p q) (ahead n p own) (ahead n u q) (ahead n u own) m
      (one-less n p q u _ _ lp lq to (ahead-is n p q) (ahead-is n u q) apart)
      (one-less n p own u _ _ lp lo to (ahead-is n p own) (ahead-is n u own) not_own) h
  | inr (to, on) ↦ nearer-past (ahead n p q) (ahead n p own) (ahead n u q) (ahead n u own) m
      (let one = one-less n p q own _ _ lp lq to (ahead-is n p q) (ahead-is n own q) (λ e. other (sym e)) in
      let two = one-less n own q u _ _ lo lq on (ahead-is n own q) (ahead-is n u q) apart in
      omega (arith, one, two)) h
]

next-peer-within : (n own p u : ℕ) → 0 < n → IsNextPeer n own p u → u < n
next-peer-within n own p u l next = elim next [
  | inl (to, not_own) ↦ next-within n p u l to
  | inr (to, on) ↦ next-within n own u l on
]

-- none is asked within no turns
none-yet : (n p q own a b : ℕ) → p < n → q < n → own < n → IsAhead n p q a → IsAhead n p own b → Reaches a b 0 → ⊥
none-yet n p q own a b lp lq lo i j h = grind arith

-- each is asked within as many turns as there are others
at-first : (n p q own a b m : ℕ) → p < n → q < n → own < n → (q ≡ own → ⊥) → IsAhead n p q a → IsAhead n p own b
    → n ≤ m + 1 → Reaches a b m
at-first n p q own a b m lp lq lo other i j l = grind arith

contains-later : (q p : ℕ) (peers : List ℕ) → Contains peers q → Contains (p ∷ peers) q
contains-later q p peers h = (suc h.0, omega (arith, h.1), h.2)

-- who is asked where the last one isn't asked again
whom-next : (now : ℕ) (s : CatchingUp) → stays now s ≡ false → whom now s ≡ next_peer s.replicas s.own s.peer
whom-next now s e = ap (λ b. cond b s.peer (next_peer s.replicas s.own s.peer)) e

abbrev Far : (n own p q turns : ℕ) → Type 0
Far n own p q turns = Reaches (ahead n p q) (ahead n p own) turns

found : (peers : List ℕ) (old : CatchingUp) → IsSound old → AskInARow old peers → (q : ℕ) → q < old.replicas
    → (q ≡ old.own → ⊥) → Far old.replicas old.own old.peer q (length peers) → Contains peers q
found [] old sound asks q lq other far =
    absurd (none-yet old.replicas old.peer q old.own _ _ sound.peer lq sound.own
    (ahead-is old.replicas old.peer q) (ahead-is old.replicas old.peer old.own) far)
found (p ∷ peers) old sound asks q lq other far =
    let s : CatchingUp = asks.0 in
    let like : IsLike old s = asks.2 in
    let is_whom : p ≡ next_peer old.replicas old.own old.peer =
    asks.4 ∙ (whom-next asks.1 s asks.3 ∙ (ap (λ n. next_peer n s.own s.peer) like.replicas
    ∙ (ap (λ o. next_peer old.replicas o s.peer) like.own ∙ ap (λ r. next_peer old.replicas old.own r) like.peer))) in
    let next : IsNextPeer old.replicas old.own old.peer p =
    subst (λ (u : ℕ). IsNextPeer old.replicas old.own old.peer u) (sym is_whom)
    (next-peer old.replicas old.own old.peer) in
    elim (cases_eq p q) [
      | inl e ↦ (0, omega arith, e)
      | inr apart ↦ contains-later q p peers (found peers (asked asks.1 s)
          (record {
            others = omega (arith, sound.others, like.replicas);
            own = omega (arith, sound.own, like.replicas, like.own);
            peer = omega (
              arith,
              next-peer-within old.replicas old.own old.peer p (omega (arith, sound.others)) next,
              like.replicas,
              asks.4,
            );
            awaiting = refl;
          }) asks.5 q (omega (arith, lq, like.replicas)) (λ e. other (e ∙ like.own))
          (let near : Far old.replicas old.own p q (length peers) =
          nearer old.replicas old.own old.peer q p (length peers) sound.own sound.peer lq other apart next far in
          subst (λ (n : ℕ). Far n s.own (whom asks.1 s) q (length peers)) (sym like.replicas)
          (subst (λ (o : ℕ). Far old.replicas o (whom asks.1 s) q (length peers)) (sym like.own)
          (subst (λ (u : ℕ). Far old.replicas old.own u q (length peers)) asks.4 near))))
    ]

pub each-is-asked : EachIsAsked
each-is-asked s peers sound asks enough q lq other =
    found peers s sound asks q lq other
    (at-first s.replicas s.peer q s.own _ _ (length peers) sound.peer lq sound.own other
    (ahead-is s.replicas s.peer q) (ahead-is s.replicas s.peer s.own) enough)
