-- What always holds of the questions holds after each change.
use Rattle.std.proofs.Common.{ℕ, ◌≡◌, ◌+◌, ◌<◌, ◌≤◌, ◌==◌, ◌&&◌, Bool, true, false, cond, not, List, [], ◌∷◌, ◌++◌}
use Rattle.std.proofs.Common.{length, map, nat_lt, filter, get_or, set, refl, sym, ap, subst, ◌∙◌, arith}
use Rattle.std.specs.Prelude.{count_by, sum_by, bytes_eq, is_some, None}
use Rattle.std.proofs.lemmas.Slice.Eq.{bytes_eq-Decides}
use Rattle.std.proofs.lemmas.Bool.{cond_both, and_from, and_parts, leb-true, ltb-true, eqb-true, cond-true}
use Rattle.std.proofs.lemmas.Bool.{cond-false, lt-ltb}
use Rattle.std.proofs.lemmas.List.Quantifiers.{position-Some}
use Rattle.std.specs.Prelude.{position, find, Some, MatchOption, Ok, Err, Result}
use Rattle.std.specs.Option.{option_map_or}
use Rattle.ids.specs.declared.fault.Fault.{Fault}
use Rattle.ids.specs.declared.fault.Fault.TheVariants as fault
use Rattle.std.proofs.Common.{nat_le}
use Rattle.std.proofs.lemmas.List.Sums.{sum_by-cons, sum_by_push, sum_by-set}
use Rattle.std.proofs.lemmas.List.Elements.{All-push, All-set, All-map, All-filter}
use Rattle.tuning.specs.declared.asking.TheConstants.{MOST_ASKED_FOR, MOST_COPY_BYTES, QUESTION_PACE}
use Rattle.asking.specs.declared.block_copy.BlockCopy.{BlockCopy}
use Rattle.asking.specs.Asking.{Asking, Pace, Question, AreDistinct, IsBounded, has_room, is_for, is_from, is_paid_by}
use Rattle.asking.specs.Asking.{freed, is_wanted, kept_for, released, size_of, waits_for, with_copy, closed, fits, hastened}
use Rattle.asking.specs.Asking.{why_no_copy}
use Rattle.asking.proofs.Changing.{count-no, found-at, none-counted}

-- a sum over fewer elements
pub sum-filtered : {X : Type 0} (f : X → ℕ) (p : X → Bool) (xs : List X) → sum_by f (filter p xs) ≤ sum_by f xs
sum-filtered f p [] = omega arith
sum-filtered f p (x ∷ xs) =
    cond_both (p x) (x ∷ filter p xs) (filter p xs) (λ l. sum_by f l ≤ sum_by f (x ∷ xs))
    (λ t. omega (arith, sum_by-cons f x (filter p xs), sum_by-cons f x xs, sum-filtered f p xs))
    (λ e. omega (arith, sum_by-cons f x xs, sum-filtered f p xs))

-- a sum over elements that were changed in nothing that it counts
pub sum-mapped : {X : Type 0} (f : X → ℕ) (g : X → X) → ((x : X) → f (g x) ≡ f x) → (xs : List X)
    → sum_by f (map g xs) ≡ sum_by f xs
sum-mapped f g same [] = refl
sum-mapped f g same (x ∷ xs) =
    sum_by-cons f (g x) (map g xs) ∙ (λ i. same x i + sum-mapped f g same xs i) ∙ sym (sum_by-cons f x xs)

-- a sum after one element was set
pub sum-set : {X : Type 0} (f : X → ℕ) (xs : List X) (i : ℕ) (old new : X) → i < length xs → old ≡ get_or xs i old
    → f new ≡ f old → sum_by f (set xs i new) ≡ sum_by f xs
sum-set f xs i old new l at same =
    let whole = sum_by-set f xs i new old l in
    let own : f (get_or xs i old) ≡ f old = ap f (sym at) in omega (arith, whole, own, same)

-- how many bytes a question counts on an account
abbrev pub weight : ℕ → Question → ℕ
weight payer q = cond (is_paid_by payer q) (size_of q.copies) 0

-- a question was changed in what isn't counted
pub set-bounded : (a : Asking) (i : ℕ) (old new : Question) (turn : ℕ) (pace : Pace) → IsBounded a
    → i < length a.questions → old ≡ get_or a.questions i old → new.block ≡ old.block → new.payer ≡ old.payer
    → new.copies ≡ old.copies → turn < a.replicas → pace.asked ≤ QUESTION_PACE
    → IsBounded (record { replicas = a.replicas; questions = set a.questions i new; turn = turn; pace = pace })
set-bounded a i old new turn pace is l at block payer copies turns paced = record {
  some = is.some;
  once = λ d. subst (λ k. k ≤ 1) (sym (sum-set (λ q. cond {A = ℕ} (is_for d q) 1 0) a.questions i old new l at
      (ap (λ b. cond {A = ℕ} (bytes_eq b d) 1 0) block))) (is.once d);
  few = λ p. subst (λ k. k ≤ cond (nat_lt p a.replicas) MOST_ASKED_FOR 0)
      (sym (sum-set (λ q. cond {A = ℕ} (is_paid_by p q) 1 0) a.questions i old new l at
      (ap (λ b. cond {A = ℕ} (b == p) 1 0) payer))) (is.few p);
  light = λ p. subst (λ k. k ≤ MOST_COPY_BYTES) (sym (sum-set (weight p) a.questions i old new l at
      (λ j. cond (payer j == p) (size_of (copies j)) 0))) (is.light p);
  distinct = All-set (λ q. AreDistinct a.replicas q.copies) a.questions i new
      (subst (AreDistinct a.replicas) (ap (λ q. q.copies) (sym at) ∙ sym copies) (is.distinct i old l)) is.distinct;
  turn = turns;
  pace = paced;
}

-- a new question on an account that has room
pub push-bounded : (a : Asking) (q : Question) → IsBounded a → is_wanted q.block a.questions ≡ false
    → has_room a.replicas q.payer a.questions ≡ true → q.copies ≡ []
    → IsBounded (record a { questions = a.questions ++ q ∷ [] })
push-bounded a q is new room none = record {
  some = is.some;
  once = λ d. once d (bytes_eq q.block d) refl;
  few = λ p. few p (is_paid_by p q) refl;
  light = λ p. omega (arith, sum_by_push (weight p) a.questions q, nothing p, is.light p);
  distinct = All-push (λ r. AreDistinct a.replicas r.copies) a.questions q is.distinct
      (subst (AreDistinct a.replicas) (sym none) (λ s. omega arith));
  turn = is.turn;
  pace = is.pace;
}
  where
    nothing : (p : ℕ) → weight p q ≡ 0
    nothing p = cond_both (is_paid_by p q) (size_of q.copies) 0 (λ k. k ≡ 0) (λ t. ap size_of none) (λ f. refl)

    once : (d : List ℕ) (b : Bool) → bytes_eq q.block d ≡ b
        → count_by (is_for d) (a.questions ++ q ∷ []) ≤ 1
    once d true e =
        let same : q.block ≡ d = (bytes_eq-Decides q.block d).0 e in
        let none : count_by (is_for d) a.questions ≡ 0 =
        none-counted (is_for d) a.questions (subst (λ b. is_wanted b a.questions ≡ false) same new) in
        let own : cond {A = ℕ} (is_for d q) 1 0 ≡ 1 = ap (λ b. cond {A = ℕ} b 1 0) e in
        omega (arith, sum_by_push (λ r. cond {A = ℕ} (is_for d r) 1 0) a.questions q, none, own)
    once d false e =
        let own : cond {A = ℕ} (is_for d q) 1 0 ≡ 0 = ap (λ b. cond {A = ℕ} b 1 0) e in
        omega (arith, sum_by_push (λ r. cond {A = ℕ} (is_for d r) 1 0) a.questions q, is.once d, own)

    few : (p : ℕ) (b : Bool) → is_paid_by p q ≡ b
        → count_by (is_paid_by p) (a.questions ++ q ∷ []) ≤ cond (nat_lt p a.replicas) MOST_ASKED_FOR 0
    few p true e =
        let same : q.payer ≡ p = eqb-true q.payer p e in
        let both = and_parts _ _ (subst (λ k. has_room a.replicas k a.questions ≡ true) same room) in
        let least = ltb-true _ _ both.1 in
        let own : cond {A = ℕ} (is_paid_by p q) 1 0 ≡ 1 = ap (λ b. cond {A = ℕ} b 1 0) e in
        let most : cond (nat_lt p a.replicas) MOST_ASKED_FOR 0 ≡ MOST_ASKED_FOR =
        ap (λ b. cond b MOST_ASKED_FOR 0) both.0 in
        omega (arith, sum_by_push (λ r. cond {A = ℕ} (is_paid_by p r) 1 0) a.questions q, least, own, most)
    few p false e =
        let own : cond {A = ℕ} (is_paid_by p q) 1 0 ≡ 0 = ap (λ b. cond {A = ℕ} b 1 0) e in
        omega (arith, sum_by_push (λ r. cond {A = ℕ} (is_paid_by p r) 1 0) a.questions q, is.few p, own)

-- fewer questions
pub filter-bounded : (a : Asking) (p : Question → Bool) → IsBounded a
    → IsBounded (record a { questions = filter p a.questions })
filter-bounded a p is = record {
  some = is.some;
  once = λ d. omega (arith, sum-filtered (λ q. cond {A = ℕ} (is_for d q) 1 0) p a.questions, is.once d);
  few = λ r. omega (arith, sum-filtered (λ q. cond {A = ℕ} (is_paid_by r q) 1 0) p a.questions, is.few r);
  light = λ r. omega (arith, sum-filtered (weight r) p a.questions, is.light r);
  distinct = All-filter p (λ q. AreDistinct a.replicas q.copies) a.questions is.distinct;
  turn = is.turn;
  pace = is.pace;
}

-- questions that are changed in what isn't counted
pub map-bounded : (a : Asking) (f : Question → Question) → ((q : Question) → (f q).block ≡ q.block)
    → ((q : Question) → (f q).payer ≡ q.payer) → ((q : Question) → (f q).copies ≡ q.copies) → IsBounded a
    → IsBounded (record a { questions = map f a.questions })
map-bounded a f block payer copies is = record {
  some = is.some;
  once = λ d. subst (λ k. k ≤ 1) (sym (sum-mapped (λ q. cond {A = ℕ} (is_for d q) 1 0) f
      (λ q. ap (λ b. cond {A = ℕ} (bytes_eq b d) 1 0) (block q)) a.questions)) (is.once d);
  few = λ p. subst (λ k. k ≤ cond (nat_lt p a.replicas) MOST_ASKED_FOR 0)
      (sym (sum-mapped (λ q. cond {A = ℕ} (is_paid_by p q) 1 0) f (λ q. ap (λ b. cond {A = ℕ} (b == p) 1 0) (payer q))
      a.questions)) (is.few p);
  light = λ p. subst (λ k. k ≤ MOST_COPY_BYTES) (sym (sum-mapped (weight p) f
      (λ q j. cond (payer q j == p) (size_of (copies q j)) 0) a.questions)) (is.light p);
  distinct = All-map (λ q. AreDistinct a.replicas q.copies) f a.questions
      (λ k d l. subst (AreDistinct a.replicas) (sym (copies (get_or a.questions k d))) (is.distinct k d l));
  turn = is.turn;
  pace = is.pace;
}

-- ---- what changes keep

-- another question for the same block, on the same account, with the same copies
abbrev pub IsLike : Question → Question → Type 0
IsLike q r = (r.block ≡ q.block) × (r.payer ≡ q.payer) × (r.copies ≡ q.copies)

pub hastened-like : (now : ℕ) (q : Question) → IsLike q (hastened now q)
hastened-like now q =
    cond_both (nat_le q.times 1 && is_some q.whom) (record q { whom = None; due = now }) q (IsLike q) (λ t. (refl, refl, refl))
    (λ f. (refl, refl, refl))

pub released-like : (block : List ℕ) (q : Question) → IsLike q (released block q)
released-like block q =
    cond_both (waits_for block q) (record q { behind = None }) q (IsLike q) (λ t. (refl, refl, refl))
    (λ f. (refl, refl, refl))

pub freed-like : (q : Question) → IsLike q (freed q)
freed-like q = (refl, refl, refl)

-- one is closed
pub close-bounded : (a : Asking) (block : List ℕ) → IsBounded a
    → IsBounded (record a { questions = closed block a.questions })
close-bounded a block is =
    map-bounded (record a { questions = filter (λ q. not (is_for block q)) a.questions }) (released block)
    (λ q. (released-like block q).0) (λ q. (released-like block q).1) (λ q. (released-like block q).2)
    (filter-bounded a (λ q. not (is_for block q)) is)

-- one more copy has its bytes
pub size-with : (sender : ℕ) (frame : List ℕ) (copies : List BlockCopy)
    → size_of (with_copy sender frame copies) ≤ size_of copies + length frame
size-with sender frame copies =
    omega (
      arith,
      sum_by_push (λ (c : BlockCopy). length c.frame) (filter (λ c. not (is_from sender c)) copies)
          (record { sender = sender; frame = frame }),
      sum-filtered (λ (c : BlockCopy). length c.frame) (λ c. not (is_from sender c)) copies,
    )

-- none of its sender's is left beside it
none-left : (sender : ℕ) (copies : List BlockCopy)
    → count_by (is_from sender) (filter (λ c. not (is_from sender c)) copies) ≡ 0
none-left sender [] = refl
none-left sender (c ∷ copies) =
    by (filter (λ k. not (is_from sender k)) copies) (is_from sender c) refl (none-left sender copies)
  where
    by : (rest : List BlockCopy) (b : Bool) → is_from sender c ≡ b → count_by (is_from sender) rest ≡ 0
        → count_by (is_from sender) (cond (not (is_from sender c)) (c ∷ rest) rest) ≡ 0
    by rest true e none = ap (λ b. count_by (is_from sender) (cond (not b) (c ∷ rest) rest)) e ∙ none
    by rest false e none =
        ap (λ b. count_by (is_from sender) (cond (not b) (c ∷ rest) rest)) e
        ∙ count-no (is_from sender) c rest e ∙ none

pub distinct-with : (n sender : ℕ) (frame : List ℕ) (copies : List BlockCopy) → AreDistinct n copies → sender < n
    → AreDistinct n (with_copy sender frame copies)
distinct-with n sender frame copies are l other = by (sender == other) refl
  where
    left : List BlockCopy
    left = filter (λ c. not (is_from sender c)) copies

    copy : BlockCopy
    copy = record { sender = sender; frame = frame }

    pushed : count_by (is_from other) (left ++ copy ∷ [])
        ≡ count_by (is_from other) left + cond {A = ℕ} (sender == other) 1 0
    pushed = sum_by_push (λ (c : BlockCopy). cond {A = ℕ} (is_from other c) 1 0) left copy

    by : (b : Bool) → (sender == other) ≡ b
        → count_by (is_from other) (left ++ copy ∷ []) ≤ cond {A = ℕ} (nat_lt other n) 1 0
    by true e =
        let same : sender ≡ other = eqb-true sender other e in
        let own : cond {A = ℕ} (sender == other) 1 0 ≡ 1 = ap (λ b. cond {A = ℕ} b 1 0) e in
        let none : count_by (is_from other) left ≡ 0 =
        subst (λ k. count_by (is_from k) left ≡ 0) same (none-left sender copies) in
        let one : cond {A = ℕ} (nat_lt other n) 1 0 ≡ 1 =
        ap (λ b. cond {A = ℕ} b 1 0) (lt-ltb other n (subst (λ k. k < n) same l)) in
        omega (arith, pushed, own, none, one)
    by false e =
        let own : cond {A = ℕ} (sender == other) 1 0 ≡ 0 = ap (λ b. cond {A = ℕ} b 1 0) e in
        let fewer =
        sum-filtered (λ (c : BlockCopy). cond {A = ℕ} (is_from other c) 1 0) (λ c. not (is_from sender c)) copies in
        omega (arith, pushed, own, fewer, are other)

-- a copy more, where the account has room for its bytes
pub keep-bounded : (a : Asking) (i : ℕ) (old new : Question) (sender : ℕ) (frame : List ℕ) → IsBounded a
    → i < length a.questions → old ≡ get_or a.questions i old
    → new ≡ record old { copies = with_copy sender frame old.copies } → sender < a.replicas
    → kept_for old.payer a.questions + length frame ≤ MOST_COPY_BYTES
    → IsBounded (record a { questions = set a.questions i new })
keep-bounded a i old new sender frame is l at with below fits = record {
  some = is.some;
  once = λ d. subst (λ k. k ≤ 1) (sym (sum-set (λ q. cond {A = ℕ} (is_for d q) 1 0) a.questions i old new l at
      (ap (λ q. cond {A = ℕ} (is_for d q) 1 0) with))) (is.once d);
  few = λ p. subst (λ k. k ≤ cond (nat_lt p a.replicas) MOST_ASKED_FOR 0)
      (sym (sum-set (λ q. cond {A = ℕ} (is_paid_by p q) 1 0) a.questions i old new l at
      (ap (λ q. cond {A = ℕ} (is_paid_by p q) 1 0) with))) (is.few p);
  light = λ p. light p (is_paid_by p old) refl;
  distinct = All-set (λ q. AreDistinct a.replicas q.copies) a.questions i new
      (subst (λ q. AreDistinct a.replicas q.copies) (sym with)
      (distinct-with a.replicas sender frame old.copies
      (subst (λ q. AreDistinct a.replicas q.copies) (sym at) (is.distinct i old l)) below)) is.distinct;
  turn = is.turn;
  pace = is.pace;
}
  where
    whole : (p : ℕ) → sum_by (weight p) (set a.questions i new) + weight p old
        ≡ sum_by (weight p) a.questions + weight p new
    whole p = ap (λ k. sum_by (weight p) (set a.questions i new) + k) (ap (weight p) at)
        ∙ sum_by-set (weight p) a.questions i new old l

    light : (p : ℕ) (b : Bool) → is_paid_by p old ≡ b → kept_for p (set a.questions i new) ≤ MOST_COPY_BYTES
    light p true e =
        let same : old.payer ≡ p = eqb-true old.payer p e in
        let before : weight p old ≡ size_of old.copies = ap (λ b. cond b (size_of old.copies) 0) e in
        let after : weight p new ≡ size_of (with_copy sender frame old.copies) =
        ap (weight p) with ∙ ap (λ b. cond b (size_of (with_copy sender frame old.copies)) 0) e in
        let room : kept_for p a.questions + length frame ≤ MOST_COPY_BYTES =
        subst (λ k. kept_for k a.questions + length frame ≤ MOST_COPY_BYTES) same fits in
        omega (arith, whole p, before, after, size-with sender frame old.copies, room)
    light p false e =
        let before : weight p old ≡ 0 = ap (λ b. cond b (size_of old.copies) 0) e in
        let after : weight p new ≡ 0 =
        ap (weight p) with ∙ ap (λ b. cond b (size_of (with_copy sender frame old.copies)) 0) e in
        omega (arith, whole p, before, after, is.light p)

-- one question was changed, and with it the turn and the pace
pub like-bounded : (a : Asking) (i : ℕ) (old new : Question) (turn : ℕ) (pace : Pace) (p : Question → Bool)
    → IsBounded a → position p a.questions ≡ Some i → old ≡ get_or a.questions i old → IsLike old new
    → turn < a.replicas → pace.asked ≤ QUESTION_PACE
    → IsBounded (record { replicas = a.replicas; questions = set a.questions i new; turn = turn; pace = pace })
like-bounded a i old new turn pace p is e at like turns paced =
    set-bounded a i old new turn pace is (position-Some p a.questions i old e).0 at like.0 like.1 like.2 turns paced

-- ---- why a copy isn't kept

pub why-full : (a : Asking) (block : List ℕ) (sender bytes : ℕ) → is_wanted block a.questions ≡ true
    → sender < a.replicas → fits block bytes a.questions ≡ false
    → why_no_copy a block sender bytes ≡ Some fault.Full
why-full a block sender bytes w l f =
    cond-true _ _ _ (and_from _ _ w (lt-ltb sender a.replicas l)) ∙ cond-false _ _ _ f

pub why-none : (a : Asking) (block : List ℕ) (sender bytes : ℕ) → is_wanted block a.questions ≡ true
    → sender < a.replicas → fits block bytes a.questions ≡ true → why_no_copy a block sender bytes ≡ None
why-none a block sender bytes w l f =
    cond-true _ _ _ (and_from _ _ w (lt-ltb sender a.replicas l)) ∙ cond-true _ _ _ f

-- it wasn't refused
abbrev pub IsRefusal : ℕ → Fault → Type 0
IsRefusal place f = let kept : Result ℕ Fault = Ok place in kept ≡ Err f

pub may-keep : (a : Asking) (block : List ℕ) (sender bytes place : ℕ) (P : Type 0)
    → MatchOption (why_no_copy a block sender bytes) P (IsRefusal place)
    → (sender < a.replicas) × (fits block bytes a.questions ≡ true)
may-keep a block sender bytes place P =
    by (is_wanted block a.questions && nat_lt sender a.replicas) (fits block bytes a.questions) refl refl
  where
    by : (b k : Bool) → (is_wanted block a.questions && nat_lt sender a.replicas) ≡ b
        → fits block bytes a.questions ≡ k
        → MatchOption (cond b (cond k None (Some fault.Full)) (Some fault.NotMine)) P (IsRefusal place)
        → (sender < a.replicas) × (fits block bytes a.questions ≡ true)
    by true true e f m = (ltb-true sender a.replicas (and_parts _ _ e).1, f)
    by true false e f m = absurd (cc)
    by false k e f m = absurd (cc)

-- the room that a copy has
pub room-for : (qs : List Question) (block : List ℕ) (bytes i : ℕ) (old : Question) → fits block bytes qs ≡ true
    → position (is_for block) qs ≡ Some i → old ≡ get_or qs i old
    → kept_for old.payer qs + bytes ≤ MOST_COPY_BYTES
room-for qs block bytes i old f e at =
    let found : find (is_for block) qs ≡ Some old = found-at (is_for block) qs i old e ∙ ap Some (sym at) in
    leb-true _ _ (sym (ap (λ o. option_map_or
    (λ (q : Question). nat_le (kept_for q.payer qs + bytes) MOST_COPY_BYTES) o false) found) ∙ f)
