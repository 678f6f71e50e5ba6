-- What a history tells of its clients, entry by entry.
use Rattle.std.proofs.Common.{ℕ, ◌≡◌, ◌≢◌, ◌==◌, ◌<◌, ◌≤◌, ◌&&◌, ◌||◌, not, Bool, true, false, List, []}
use Rattle.std.proofs.Common.{◌∷◌, cond, max, refl, sym, ap, ◌∙◌, arith, Option, Some, None, find, filter}
use Rattle.std.proofs.Common.{map, nat_lt}
use Rattle.std.specs.List.{list_all}
use Rattle.std.proofs.lemmas.Bool.{cond-true, cond-false, ltb-true, ltb-false, lt-ltb, le-ltb, eqb-true}
use Rattle.std.proofs.lemmas.Bool.{eq-eqb, ne_eqb}
use Rattle.definitions.specs.Lists.{greatest}
use Rattle.definitions.specs.Histories.{Entry, History, Answer, is_fresh, last_seq, answers, answer_in}
use Rattle.definitions.specs.Histories.{last_answer}
use Rattle.executor.specs.Rows.{numbered_after, number_in}

-- one test after another
and-true : (b : Bool) → (b && true) ≡ b
and-true true = refl
and-true false = refl

-- of two lower bounds the greater one decides
both-higher : (e s a : ℕ) → a < e → (nat_lt e s && nat_lt a s) ≡ nat_lt e s
both-higher e s a l = by (nat_lt e s) refl
  where
    by : (b : Bool) → nat_lt e s ≡ b → (b && nat_lt a s) ≡ b
    by false k = refl
    by true k = let m = ltb-true e s k in lt-ltb a s (omega (arith, m, l))

both-lower : (e s a : ℕ) → e ≤ a → (nat_lt e s && nat_lt a s) ≡ nat_lt a s
both-lower e s a l = by (nat_lt e s) refl
  where
    by : (b : Bool) → nat_lt e s ≡ b → (b && nat_lt a s) ≡ nat_lt a s
    by true k = refl
    by false k = let m = ltb-false e s k in sym (le-ltb a s (omega (arith, m, l)))

-- An entry more of the client, after the answer o: what is numbered after it and after o is numbered after
-- the new last answer.
after-one : (e s : ℕ) (o : Option Answer) (new : Answer) → new.seq ≡ e → (t : Bool) → numbered_after e o ≡ t
    → (nat_lt e s && numbered_after s o) ≡ numbered_after s (cond t (Some new) o)
after-one e s None new i true h = and-true (nat_lt e s) ∙ ap (λ n. nat_lt n s) (sym i)
after-one e s None new i false h = cc
after-one e s (Some a) new i true h = both-higher e s a.seq (ltb-true a.seq e h)
    ∙ ap (λ n. nat_lt n s) (sym i)
after-one e s (Some a) new i false h = both-lower e s a.seq (ltb-false a.seq e h)

-- the number of the new last answer
number-one : (e : ℕ) (o : Option Answer) (new : Answer) → new.seq ≡ e → (t : Bool) → numbered_after e o ≡ t
    → max e (number_in o) ≡ number_in (cond t (Some new) o)
number-one e None new i true h = omega (arith, i)
number-one e None new i false h = cc
number-one e (Some a) new i true h = let l = ltb-true a.seq e h in omega (arith, i, l)
number-one e (Some a) new i false h = let l = ltb-false a.seq e h in omega (arith, i, l)

-- ---- the last answer

-- of an entry of another client
other-answer : (most_keys client : ℕ) (e : Entry) (h : History) → (e.client == client) ≡ false
    → last_answer most_keys client (e ∷ h) ≡ last_answer most_keys client h
unfolding last_answer answers
other-answer most_keys client e h k = by (is_fresh e h)
  where
    by : (t : Bool)
        → find (λ a. a.client == client) (cond t (answer_in most_keys e h ∷ answers most_keys h) (answers most_keys h))
        ≡ find (λ a. a.client == client) (answers most_keys h)
    by true = cond-false _ _ _ k
    by false = refl

-- of an entry of the client
own-answer : (most_keys client : ℕ) (e : Entry) (h : History) → (e.client == client) ≡ true
    → last_answer most_keys client (e ∷ h) ≡ cond (is_fresh e h) (Some (answer_in most_keys e h)) (last_answer most_keys client h)
unfolding last_answer answers
own-answer most_keys client e h k = by (is_fresh e h)
  where
    by : (t : Bool)
        → find (λ a. a.client == client) (cond t (answer_in most_keys e h ∷ answers most_keys h) (answers most_keys h))
        ≡ cond t (Some (answer_in most_keys e h)) (find (λ a. a.client == client) (answers most_keys h))
    by true = cond-true _ _ _ k
    by false = refl

-- ---- the last answer tells which entries are fresh, and the last number

-- whether an entry of this client and number would be fresh
abbrev is_after : ℕ → ℕ → History → Bool
is_after client seq h = list_all (λ x. not (x.client == client) || nat_lt x.seq seq) h

-- the numbers of a client's entries
abbrev numbers : ℕ → History → List ℕ
numbers client h = map (λ e. e.seq) (filter (λ e. e.client == client) h)

record IsTold (most_keys client : ℕ) (h : History) : Type 0 where
  fresh : (seq : ℕ) → is_after client seq h ≡ numbered_after seq (last_answer most_keys client h)
  number : greatest (numbers client h) ≡ number_in (last_answer most_keys client h)

told-other : (most_keys client : ℕ) (e : Entry) (h : History) → (e.client == client) ≡ false → IsTold most_keys client h
    → IsTold most_keys client (e ∷ h)
unfolding greatest
told-other most_keys client e h k t = record {
  fresh = λ seq. ap (λ b. (not b || nat_lt e.seq seq) && is_after client seq h) k ∙ t.fresh seq
      ∙ ap (numbered_after seq) (sym (other-answer most_keys client e h k));
  number = ap (λ b. greatest (map (λ x. x.seq)
      (cond b (e ∷ filter (λ x. x.client == client) h) (filter (λ x. x.client == client) h)))) k
      ∙ t.number ∙ ap number_in (sym (other-answer most_keys client e h k));
}

told-own : (most_keys client : ℕ) (e : Entry) (h : History) → (e.client == client) ≡ true
    → is_fresh e h ≡ numbered_after e.seq (last_answer most_keys client h) → IsTold most_keys client h → IsTold most_keys client (e ∷ h)
unfolding greatest
told-own most_keys client e h k f t = record {
  fresh = λ seq. ap (λ b. (not b || nat_lt e.seq seq) && is_after client seq h) k
      ∙ ap (λ b. nat_lt e.seq seq && b) (t.fresh seq)
      ∙ after-one e.seq seq (last_answer most_keys client h) (answer_in most_keys e h) refl (is_fresh e h) (sym f)
      ∙ ap (numbered_after seq) (sym (own-answer most_keys client e h k));
  number = ap (λ b. greatest (map (λ x. x.seq)
      (cond b (e ∷ filter (λ x. x.client == client) h) (filter (λ x. x.client == client) h)))) k
      ∙ ap (max e.seq) t.number
      ∙ number-one e.seq (last_answer most_keys client h) (answer_in most_keys e h) refl (is_fresh e h) (sym f)
      ∙ ap number_in (sym (own-answer most_keys client e h k));
}

fresh-of : (e : Entry) (h : History) → is_fresh e h ≡ is_after e.client e.seq h
unfolding is_fresh
fresh-of e h = refl

told-entry : (most_keys client : ℕ) (e : Entry) (h : History) → IsTold most_keys client h → IsTold most_keys client (e ∷ h)
told-entry most_keys client e h t = by (e.client == client) refl
  where
    by : (b : Bool) → (e.client == client) ≡ b → IsTold most_keys client (e ∷ h)
    by false k = told-other most_keys client e h k t
    by true k =
        let same = eqb-true e.client client k in
        told-own most_keys client e h k (fresh-of e h ∙ ap (λ c. is_after c e.seq h) same ∙ t.fresh e.seq) t

told : (most_keys client : ℕ) (h : History) → IsTold most_keys client h
unfolding greatest last_answer answers
told most_keys client [] = record { fresh = λ seq. refl; number = refl }
told most_keys client (e ∷ h) = told-entry most_keys client e h (told most_keys client h)

-- an entry is fresh where its number is greater than that of the client's last answer
pub fresh-is : (most_keys : ℕ) (e : Entry) (h : History) → is_fresh e h ≡ numbered_after e.seq (last_answer most_keys e.client h)
fresh-is most_keys e h = fresh-of e h ∙ (told most_keys e.client h).fresh e.seq

-- the last number is that of the last answer
pub number-is : (most_keys client : ℕ) (h : History) → last_seq client h ≡ number_in (last_answer most_keys client h)
unfolding last_seq
number-is most_keys client h = (told most_keys client h).number

-- nothing is answered at the start
pub first-answer : (most_keys client : ℕ) → last_answer most_keys client [] ≡ None
unfolding last_answer answers
first-answer most_keys client = refl

-- ---- the last answers after one more entry

-- after one that isn't fresh
pub stale-answer : (most_keys client : ℕ) (e : Entry) (h : History) → is_fresh e h ≡ false
    → last_answer most_keys client (e ∷ h) ≡ last_answer most_keys client h
unfolding last_answer answers
stale-answer most_keys client e h k = ap (find (λ a. a.client == client)) (cond-false _ _ _ k)

-- after a fresh one, of its client
pub fresh-answer : (most_keys : ℕ) (e : Entry) (h : History) → is_fresh e h ≡ true
    → last_answer most_keys e.client (e ∷ h) ≡ Some (answer_in most_keys e h)
fresh-answer most_keys e h k = own-answer most_keys e.client e h (eq-eqb e.client e.client refl) ∙ cond-true _ _ _ k

-- and of the others
pub others-answer : (most_keys client : ℕ) (e : Entry) (h : History) → client ≢ e.client
    → last_answer most_keys client (e ∷ h) ≡ last_answer most_keys client h
others-answer most_keys client e h k = other-answer most_keys client e h (ne_eqb e.client client (λ i. k (sym i)))
