-- What is told of the replicas of a run.
use Rattle.std.proofs.Common.{ℕ, IfOk, Result, Ok, Err, suc, ◌≡◌, ◌+◌, ◌<◌, ◌≤◌, ◌&&◌, not, Bool, true}
use Rattle.std.proofs.Common.{false, List, [], ◌∷◌, ◌++◌, length, map, filter, cond, refl, sym, ap, ◌∙◌}
use Rattle.std.proofs.Common.{arith, nat_lt}
use Rattle.std.specs.Prelude.{slice_index_or, Vec}
use Rattle.std.specs.declared.alloc.Global.{Global}
use Rattle.ids.specs.declared.fault.Fault.{Fault}
use Rattle.std.specs.List.{range_with_len}
use Rattle.std.proofs.lemmas.Bool.{cond_both, cond-true, cond-false, lt-ltb}
use Rattle.ids.specs.Sizes.{replicas}
use Rattle.definitions.specs.Replicas.{held_history}
use Rattle.definitions.specs.Worlds.{World, is_correct}
use Rattle.replica.specs.Steps as steps
use Rattle.client_accept.specs.Sessions as sessions
use Rattle.world_schedule.specs.Told.{Told}
use Rattle.world_schedule.specs.Settings.{Setting, is_faulty_in}
use Rattle.world_schedule.specs.Outcomes.{told_of, histories_of, told_by}
use Rattle.world_schedule.specs.Seats.{AreOf}

-- what is told of a replica
abbrev told : steps.Held → Told
told h = record { replica = h.keys.party; history = held_history h.replica }

-- those of some more
pub told_append : (s : Setting) (xs ys : List steps.Held)
    → told_by s (xs ++ ys) ≡ told_by s xs ++ told_by s ys
told_append s [] ys = refl
told_append s (x ∷ xs) ys =
    cond_both (not (is_faulty_in s x.keys.party))
    (x ∷ filter (λ h. not (is_faulty_in s h.keys.party)) (xs ++ ys))
    (filter (λ h. not (is_faulty_in s h.keys.party)) (xs ++ ys))
    (λ (l : List steps.Held). map told l
    ≡ map told (cond (not (is_faulty_in s x.keys.party))
    (x ∷ filter (λ h. not (is_faulty_in s h.keys.party)) xs)
    (filter (λ h. not (is_faulty_in s h.keys.party)) xs)) ++ told_by s ys)
    (λ t. ap (λ l. told x ∷ l) (told_append s xs ys)
    ∙ ap (λ (l : List steps.Held). map told l ++ told_by s ys)
    (sym (cond-true (not (is_faulty_in s x.keys.party))
    (x ∷ filter (λ h. not (is_faulty_in s h.keys.party)) xs)
    (filter (λ h. not (is_faulty_in s h.keys.party)) xs) t)))
    (λ t. told_append s xs ys
    ∙ ap (λ (l : List steps.Held). map told l ++ told_by s ys)
    (sym (cond-false (not (is_faulty_in s x.keys.party))
    (x ∷ filter (λ h. not (is_faulty_in s h.keys.party)) xs)
    (filter (λ h. not (is_faulty_in s h.keys.party)) xs) t)))

-- one more, where it is among those
both : (w : World) (b c : Bool) (x : steps.Held) (l : List steps.Held) (a : ℕ) (ns : List ℕ) → b ≡ c
    → told x ≡ told_of w a → map told l ≡ map (told_of w) ns
    → map told (cond b (x ∷ l) l) ≡ map (told_of w) (cond c (a ∷ ns) ns)
both w true true x l a ns e p q = λ i. p i ∷ q i
both w false false x l a ns e p q = q
both w true false x l a ns e p q = absurd (no e)
  where
    no : true ≡ false → ⊥
    no k = cc
both w false true x l a ns e p q = absurd (no e)
  where
    no : false ≡ true → ⊥
    no k = cc

-- those from a number on
record AreFrom (w : World) (a : ℕ) (l : List steps.Held) : Type 0 where
  party : (i : ℕ) (d : steps.Held) → i < length l → (slice_index_or l i d).keys.party ≡ a + i
  replica : (i : ℕ) (d : steps.Held) → i < length l → (slice_index_or l i d).replica ≡ w.replica (a + i)

told-from : (s : Setting) (w : World) (a : ℕ) (l : List steps.Held) → w.sizes ≡ s.sizes
    → w.is_faulty ≡ is_faulty_in s → a + length l ≤ replicas s.sizes → AreFrom w a l
    → told_by s l ≡ map (told_of w) (filter (is_correct w) (range_with_len a (length l)))
told-from s w a [] e f k h = refl
told-from s w a (x ∷ xs) e f k h =
    let party : x.keys.party ≡ a = h.party 0 x (omega arith) ∙ omega arith in
    let state : x.replica ≡ w.replica a = h.replica 0 x (omega arith) ∙ ap w.replica (omega arith) in
    let sizes : replicas w.sizes ≡ replicas s.sizes = ap replicas e in
    let member : nat_lt a (replicas w.sizes) ≡ true = lt-ltb a (replicas w.sizes) (omega (arith, k, sizes)) in
    let same : not (is_faulty_in s x.keys.party) ≡ is_correct w a =
    ap (λ (p : ℕ). not (is_faulty_in s p)) party ∙ ap (λ (g : ℕ → Bool). not (g a)) (sym f)
    ∙ ap (λ (b : Bool). b && not (w.is_faulty a)) (sym member) in
    both w (not (is_faulty_in s x.keys.party)) (is_correct w a) x _ a _ same
    (λ i. record { replica = party i; history = held_history (state i) })
    (told-from s w (a + 1) xs e f (omega (arith, k)) (record {
      party = λ i d l. h.party (suc i) d (omega (arith, l)) ∙ omega arith;
      replica = λ i d l. h.replica (suc i) d (omega (arith, l)) ∙ ap w.replica (omega arith);
    }))

-- those of the world
pub told-all : (s : Setting) (held : List steps.Held) (seats : List sessions.Held) (w : World)
    → AreOf s held seats w → told_by s held ≡ histories_of w
told-all s held seats w at =
    let count : length held ≡ replicas s.sizes = at.seated.replica_count in
    told-from s w 0 held at.setting.sizes_are at.setting.faulty_are (omega (arith, count)) (record {
      party = λ i d l. (at.seated.replica_keys i d (omega (arith, l, count))).party_is ∙ omega arith;
      replica = λ i d l. at.replicas_are i d (omega (arith, l, count)) ∙ ap w.replica (omega arith);
    })
    ∙ ap (λ (n : ℕ). map (told_of w) (filter (is_correct w) (range_with_len 0 n)))
    (count ∙ ap replicas (sym at.setting.sizes_are))

-- where they are told
pub told-if : (s : Setting) (held : List steps.Held) (seats : List sessions.Held)
    (r : Result (Vec Told Global) Fault) → IfOk r (λ hs. hs.items ≡ told_by s held)
    → IfOk r (λ hs. (w : World) → AreOf s held seats w → hs.items ≡ histories_of w)
told-if s held seats (Ok hs) e = λ w at. e ∙ told-all s held seats w at
told-if s held seats (Err n) e = tt
