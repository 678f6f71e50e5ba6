-- A request that isn't due was executed.
use Rattle.std.proofs.Common.{ℕ, ◌≡◌, ◌<◌, ◌≤◌, ◌==◌, ◌&&◌, true, false, List, [], ◌∷◌, map, filter}
use Rattle.std.proofs.Common.{length, sym, ap, subst, ◌∙◌, arith, inl, inr, refl}
use Rattle.std.proofs.lemmas.Bool.{and_from, eq-eqb, eqb-true, ltb-false, cases_lt}
use Rattle.ids.specs.Sizes.{client_party}
use Rattle.definitions.specs.Lists.{Among, greatest}
use Rattle.definitions.specs.Branches.{Branch, Extends}
use Rattle.definitions.specs.Chronicles.{executed, history}
use Rattle.definitions.specs.Frames.{Command, Core}
use Rattle.definitions.specs.Histories.{Entry, History, last_seq}
use Rattle.definitions.specs.States.{is_due}
use Rattle.definitions.specs.Worlds.{World, is_correct}
use Rattle.definitions.proofs.Chronicles.{executed-decided}
use Rattle.definitions.proofs.Horizons.{executed-locked}
use Rattle.definitions.proofs.Lists.{Among-filter, Among-map, any-from}
use Rattle.agreement.proofs.Agreement.{certified-extends-decided}
use Rattle.linear_law.specs.Law.{correct_family}
use Rattle.linear_law.proofs.Linear.{history-submitted}
use Rattle.recovery.specs.Correct.{chronicle_of, lock_of}
use Rattle.recovery.specs.Rounds.{Carries}
use Rattle.recovery.proofs.Carried.{carries-over}
use Rattle.recovery.proofs.Families.{locked-certified}
use Rattle.recovery.proofs.Locks.{nil}
use Rattle.recovery.proofs.Wells.{IsReached, family-of}

-- a number up to the greatest is reached
greatest-reached : (xs : List ℕ) (n : ℕ) → 0 < n → n ≤ greatest xs → (x : ℕ) × Among x xs × (n ≤ x)
unfolding greatest
greatest-reached [] n p h = absurd (omega (arith, p, h))
greatest-reached (x ∷ xs) n p h = elim (cases_lt x n) [
  | inl l ↦ (let r = greatest-reached xs n p (omega (arith, h, l)) in (r.0, inr r.1, r.2))
  | inr k ↦ (x, inl refl, omega (arith, k))
]

-- so is a seq by some entry of its client
seq-reached : (cl n : ℕ) (h : History) → 0 < n → n ≤ last_seq cl h
    → (e : Entry) × Among e h × (e.client ≡ cl) × (n ≤ e.seq)
unfolding last_seq
seq-reached cl n h p l =
    let r = greatest-reached (map (λ e. e.seq) (filter (λ e. e.client == cl) h)) n p l in
    let i = Among-map (λ (e : Entry). e.seq) (filter (λ e. e.client == cl) h) r.0 r.1 in
    let f = Among-filter (λ (e : Entry). e.client == cl) h i.0 i.1 in
    let s = i.2 in
    let k = r.2 in
    (i.0, f.0, eqb-true i.0.client cl f.1, omega (arith, s, k))

module _ (Known : Core → Type 0) (w : World) (g : IsReached Known w) (r : ℕ) (cr : is_correct w r ≡ true) where
  -- a correct client's entries have numbers that it gave
  pub entry-low : (e : Entry) → Among e (history (chronicle_of w r)) → w.is_faulty (client_party e.client) ≡ false
      → e.seq ≤ (w.session e.client).used
  entry-low e m ok =
      let s = (history-submitted Known w g.well.good g.well.account.fits r cr e m ok).1 in
      let b = g.well.account.bound s.sent s.command e.client s.recorded s.is_request s.by_client in
      let q = s.seq in
      omega (arith, b, q)

  module _ (c : Command) (ok : w.is_faulty (client_party c.client) ≡ false) (used : c.seq ≡ (w.session c.client).used)
      (some : 0 < c.seq) where
    -- so its last request was executed where it isn't due
    pub executed-carries : is_due (history (chronicle_of w r)) c ≡ false → Carries (executed (chronicle_of w r)) c
    unfolding history is_due
    executed-carries d =
        let f = seq-reached c.client c.seq (history (chronicle_of w r)) some
        (ltb-false (last_seq c.client (history (chronicle_of w r))) c.seq d) in
        let low = entry-low f.0 f.1 (ap (λ (i : ℕ). w.is_faulty (client_party i)) f.2 ∙ ok) in
        let same = ap (λ (i : ℕ). (w.session i).used) f.2 in
        let high = f.3 in
        any-from (λ (e : Entry). (e.client == c.client) && (e.seq == c.seq)) (history (chronicle_of w r)) f.0 f.1
        (and_from _ _ (eq-eqb f.0.client c.client f.2) (eq-eqb f.0.seq c.seq (omega (arith, low, same, high, used))))

    -- below the lock
    pub lock-carries : is_due (history (chronicle_of w r)) c ≡ false → Carries (lock_of w r) c
    lock-carries d =
        let fam = family-of Known w g in
        let there = executed-decided (chronicle_of w r) in
        let high = executed-locked (chronicle_of w r) in
        let over : Extends (lock_of w r) (executed (chronicle_of w r)) = elim (cases_lt 0 (length (lock_of w r))) [
          | inl up ↦ certified-extends-decided (correct_family w) (lock_of w r) (executed (chronicle_of w r)) fam
              (locked-certified (correct_family w) fam r cr up) (r, cr, there) high
          | inr z ↦ subst (λ (x : Branch). Extends x (executed (chronicle_of w r)))
              (nil (executed (chronicle_of w r)) (omega (arith, z, high)) ∙ sym (nil (lock_of w r) (omega (arith, z))))
              ([], refl)
        ] in
        carries-over (lock_of w r) (executed (chronicle_of w r)) c over (executed-carries d)
