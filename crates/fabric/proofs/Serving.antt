-- A row of the link from which something may be taken is nearer after each take.
use Rattle.std.proofs.Common.{◌≡◌, ◌⊎◌, ◌<◌, ◌≤◌, ℕ, Bool, true, false, length, arith, inl, inr, refl, sym, subst, ◌∙◌}
use Rattle.std.specs.Prelude.{if◌then◌else◌}
use Rattle.std.proofs.lemmas.Bool.{true≢false}
use Rattle.fair_queue.specs.Queues.{NoneReady, ready_at}
use Rattle.fair_queue.specs.Laws.{ComeNearer}
use Rattle.fabric.specs.Orders.{Order, TakesOwn, TakesOfLink, IsNearer, takes_until, row_of, LinkIsServed}

-- one take at least is counted beside those of the rows before
at-least-one : (b : Bool) → 1 ≤ (if b then 1 else 2)
at-least-one true = omega arith
at-least-one false = omega arith

-- where something may be taken from the link, an own frame is taken only where the link isn't next
link-isnt-next : {T : Type 0} (old : Order T) (place : ℕ) → place < length old.link.rows
    → ready_at old.link.rows (row_of old place) ≡ true
    → (old.link_is_next ≡ false) ⊎ NoneReady old.link → old.link_is_next ≡ false
link-isnt-next old place within ready (inl e) = e
link-isnt-next old place within ready (inr none) = absurd (true≢false (sym ready ∙ none place within))

own-nearer : {T : Type 0} (old new : Order T) (place : ℕ) → place < length old.link.rows
    → ready_at old.link.rows (row_of old place) ≡ true → TakesOwn old new → IsNearer old place new
own-nearer {T} old new place within ready own =
    let free : old.link_is_next ≡ false = link-isnt-next old place within ready own.may in
    let fewer : takes_until place true < takes_until place old.link_is_next = rw free (omega arith) in
    subst (λ (o : Order T). IsNearer old place o) (sym own.is) (place, refl, ready, fewer)

link-nearer : {T : Type 0} (old new : Order T) (place : ℕ) → ComeNearer T → old.link.turn < length old.link.rows
    → place < length old.link.rows → ready_at old.link.rows (row_of old place) ≡ true
    → (taken : TakesOfLink old new) → (taken.taken.number ≡ row_of old place) ⊎ IsNearer old place new
link-nearer old new place law turn within ready taken =
    elim (law old.link new.link taken.value taken.taken place turn within ready) [
      | inl served ↦ inl served
      | inr near ↦ inr (
        near.0,
        near.2,
        near.3,
        (let one = at-least-one old.link_is_next in
            let fewer : takes_until near.0 false < takes_until place old.link_is_next = omega (arith, near.1, one) in
            subst (λ (b : Bool). takes_until near.0 b < takes_until place old.link_is_next) (sym taken.is) fewer),
      )
    ]

pub link-served : (T : Type 0) → ComeNearer T → LinkIsServed T
link-served T law old new place turn within ready =
    (own-nearer old new place within ready, link-nearer old new place law turn within ready)
