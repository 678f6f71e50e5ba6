-- Judged replicas by their numbers.
use Rattle.std.proofs.Common.{ℕ, zero, suc, ◌≡◌, ◌<◌, length, get_or, arith, Bool, true, false, cond, List}
use Rattle.std.proofs.Common.{[], ◌∷◌, refl, sym, ap, ◌∙◌, inl, inr}
use Rattle.std.proofs.Common.{Option, None, Some, find}
use Rattle.std.specs.Prelude.{MatchOption, ◌==◌}
use Rattle.std.specs.Borrow.{Bor}
use Rattle.std.proofs.lemmas.Bool.{cond-true, cond-false, or_left, or_right}
use Rattle.definitions.specs.Lists.{Among}
use Rattle.definitions.specs.Audit.{Member, is_judged, chronicle_of}
use Rattle.definitions.proofs.Lists.{Among-map, Among-mapped}
use Rattle.audit_ground.proofs.Members.{judged-member}
use Rattle.replica.specs.Steps.{Held}
use Rattle.audit.specs.Judged.{member_of, judged}

-- what is found of a number is judged by it, and has its chronicle
abbrev pub IsFound : List (Bor Held) → ℕ → Option (Bor Held) → Type 0
IsFound rs n o = MatchOption o (is_judged (judged rs) n ≡ false)
    (λ r. (is_judged (judged rs) n ≡ true) × (chronicle_of (judged rs) n ≡ r.now.replica.chronicle))

found-step : (x : Bor Held) (rest : List (Bor Held)) (n : ℕ) (b : Bool) → (x.now.keys.party == n) ≡ b
    → IsFound rest n (find (λ r. r.now.keys.party == n) rest)
    → IsFound (x ∷ rest) n (cond b (Some x) (find (λ r. r.now.keys.party == n) rest))
unfolding is_judged chronicle_of
found-step x rest n true e h =
    (or_left (x.now.keys.party == n) (is_judged (judged rest) n) e, cond-true _ _ _ e)
found-step x rest n false e h = later (find (λ r. r.now.keys.party == n) rest) h
  where
    later : (o : Option (Bor Held)) → IsFound rest n o → IsFound (x ∷ rest) n o
    later None k = rw e k
    later (Some r) k =
        (or_right (x.now.keys.party == n) (is_judged (judged rest) n) k.0, cond-false _ _ _ e ∙ k.1)

pub found : (rs : List (Bor Held)) (n : ℕ) → IsFound rs n (find (λ r. r.now.keys.party == n) rs)
unfolding is_judged
found [] n = refl
found (x ∷ rest) n = found-step x rest n (x.now.keys.party == n) refl (found rest n)

-- a judged number is that of one of the replicas, whose chronicle is that of the number
pub by-number : (rs : List (Bor Held)) (u : ℕ) → is_judged (judged rs) u ≡ true
    → (r : Bor Held) × Among r rs × (r.now.keys.party ≡ u)
    × (chronicle_of (judged rs) u ≡ r.now.replica.chronicle)
by-number rs u h =
    let m = judged-member (judged rs) u h in
    let r = Among-map (λ (x : Bor Held). member_of x.now) rs m.0 m.1 in (
      r.0,
      r.1,
      sym (ap (λ (k : Member). k.number) r.2) ∙ m.2,
      m.3 ∙ ap (λ (k : Member). k.replica.chronicle) r.2,
    )

-- an element at a place is one of them
pub item-among : {A : Type 0} (xs : List A) (i : ℕ) (x : A) → i < length xs → x ≡ get_or xs i x → Among x xs
item-among [] i x l e = absurd (omega arith)
item-among (y ∷ ys) zero x l e = inl e
item-among (y ∷ ys) (suc i) x l e = inr (item-among ys i x (omega arith) e)

-- so is the replica at a place, as it is judged
pub member-among : (rs : List (Bor Held)) (i : ℕ) (x : Bor Held) → i < length rs → x ≡ get_or rs i x
    → Among (member_of x.now) (judged rs)
member-among rs i x l e =
    Among-mapped (λ (r : Bor Held). member_of r.now) rs x (item-among rs i x l e)
