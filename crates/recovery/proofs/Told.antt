-- A client's last request has one answer.
use Rattle.std.proofs.Common.{ℕ, ◌≡◌, ◌<◌, ◌≤◌, ◌==◌, ◌||◌, not, Bool, true, false, cond, List, [], ◌∷◌}
use Rattle.std.proofs.Common.{map, filter, find, refl, sym, ap, subst, ◌∙◌, arith, inl, inr, Some, true≢false, nat_lt}
use Rattle.std.specs.List.{list_all}
use Rattle.std.proofs.lemmas.Bool.{cond-true, cond-false, and_cases, or_cases, or_parts, not-true, not-false}
use Rattle.std.proofs.lemmas.Bool.{eqb-true, eq-eqb, ltb-true, ltb-false}
use Rattle.definitions.specs.Lists.{Among, greatest}
use Rattle.definitions.specs.Histories.{Entry, History, Answer, is_fresh, last_seq, answers, answer_in, last_answer}
use Rattle.definitions.specs.Histories.{answer_to, if_numbered}
use Rattle.definitions.proofs.Lists.{Among-filter, Among-kept, Among-map, Among-mapped, greatest-above, all-passes}
use Rattle.linear_law.proofs.Fits.{answers-entry}

-- ---- a client's greatest number

greatest-below : (xs : List ℕ) (n : ℕ) → ((x : ℕ) → Among x xs → x ≤ n) → greatest xs ≤ n
unfolding greatest
greatest-below [] n h = omega arith
greatest-below (x ∷ xs) n h =
    let a = h x (inl refl) in let b = greatest-below xs n (λ y m. h y (inr m)) in omega (arith, a, b)

pub last-above : (cl : ℕ) (h : History) (e : Entry) → Among e h → e.client ≡ cl → e.seq ≤ last_seq cl h
unfolding last_seq
last-above cl h e m i =
    greatest-above (map (λ (x : Entry). x.seq) (filter (λ (x : Entry). x.client == cl) h)) e.seq
    (Among-mapped (λ (x : Entry). x.seq) (filter (λ (x : Entry). x.client == cl) h) e
    (Among-kept (λ (x : Entry). x.client == cl) h e m (eq-eqb e.client cl i)))

pub last-below : (cl : ℕ) (h : History) (n : ℕ) → ((e : Entry) → Among e h → e.client ≡ cl → e.seq ≤ n)
    → last_seq cl h ≤ n
unfolding last_seq
last-below cl h n f =
    greatest-below (map (λ (x : Entry). x.seq) (filter (λ (x : Entry). x.client == cl) h)) n (λ x m.
    let i = Among-map (λ (e : Entry). e.seq) (filter (λ (e : Entry). e.client == cl) h) x m in
    let k = Among-filter (λ (e : Entry). e.client == cl) h i.0 i.1 in
    let l = f i.0 k.0 (eqb-true i.0.client cl k.1) in
    let e = i.2 in
    omega (arith, l, e))

-- ---- fresh entries

-- whether an entry is of another client, or has a lower number
abbrev is_lower : Entry → Entry → Bool
is_lower e x = not (x.client == e.client) || nat_lt x.seq e.seq

lower-is : (e x : Entry) → is_lower e x ≡ true → x.client ≡ e.client → x.seq < e.seq
lower-is e x h i = elim (or_cases (not (x.client == e.client)) (nat_lt x.seq e.seq) h) [
  | inl n ↦ absurd (true≢false (sym (eq-eqb x.client e.client i) ∙ not-true _ n))
  | inr l ↦ ltb-true x.seq e.seq l
]

fresh-high : (e : Entry) (h : History) → is_fresh e h ≡ true → last_seq e.client h ≤ e.seq
unfolding is_fresh
fresh-high e h f = last-below e.client h e.seq (λ x m i.
    let l = lower-is e x (all-passes (is_lower e) h x f m) i in omega (arith, l))

all-found : {A : Type 0} (p : A → Bool) (xs : List A) → list_all p xs ≡ false → (x : A) × Among x xs × (p x ≡ false)
all-found p [] h = absurd (true≢false h)
all-found p (x ∷ xs) h = elim (and_cases (p x) (list_all p xs) h) [
  | inl e ↦ (x, inl refl, e)
  | inr t ↦ (let r = all-found p xs t in (r.0, inr r.1, r.2))
]

stale-low : (e : Entry) (h : History) → is_fresh e h ≡ false → e.seq ≤ last_seq e.client h
unfolding is_fresh
stale-low e h f =
    let x = all-found (is_lower e) h f in
    let parts = or_parts (not (x.0.client == e.client)) (nat_lt x.0.seq e.seq) x.2 in
    let l = ltb-false x.0.seq e.seq parts.1 in
    let a = last-above e.client h x.0 x.1 (eqb-true x.0.client e.client (not-false _ parts.0)) in
    omega (arith, l, a)

-- ---- the last answer

-- the answer to the greatest number
IsLast : ℕ → ℕ → History → Type 0
IsLast most_keys cl h =
    (a : Answer) × (last_answer most_keys cl h ≡ Some a) × (a.client ≡ cl) × (a.seq ≡ last_seq cl h)

last-is : (most_keys cl : ℕ) (h : History) → 0 < last_seq cl h → IsLast most_keys cl h
unfolding IsLast last_answer answers last_seq greatest
last-is most_keys cl [] p = absurd (omega (arith, p))
last-is most_keys cl (e ∷ h) p = by (λ q. last-is most_keys cl h q) (e.client == cl) refl (is_fresh e h) refl p
  where
    new : Answer
    new = answer_in most_keys e h

    low : ℕ
    low = last_seq cl h

    Goal : Bool → Bool → Type 0
    Goal t f = (a : Answer)
        × (find (λ x. x.client == cl) (cond f (new ∷ answers most_keys h) (answers most_keys h)) ≡ Some a)
        × (a.client ≡ cl)
        × (a.seq ≡ greatest (map (λ x. x.seq) (cond t (e ∷ filter (λ x. x.client == cl) h)
        (filter (λ x. x.client == cl) h))))

    older : (f : Bool) → (e.client == cl) ≡ false → IsLast most_keys cl h → Goal false f
    older true n r = (r.0, cond-false (e.client == cl) _ _ n ∙ r.1, r.2, r.3)
    older false n r = r

    by : (0 < last_seq cl h → IsLast most_keys cl h) → (t : Bool) → (e.client == cl) ≡ t → (f : Bool)
        → is_fresh e h ≡ f
        → 0 < greatest (map (λ x. x.seq) (cond t (e ∷ filter (λ x. x.client == cl) h)
        (filter (λ x. x.client == cl) h))) → Goal t f
    by rest true i true f p =
        let c = eqb-true e.client cl i in
        let high = subst (λ (n : ℕ). last_seq n h ≤ e.seq) c (fresh-high e h f) in
        (new, cond-true (e.client == cl) _ _ i, c, omega (arith, high))
    by rest true i false f p =
        let c = eqb-true e.client cl i in
        let high = subst (λ (n : ℕ). e.seq ≤ last_seq n h) c (stale-low e h f) in
        let r = rest (omega (arith, p, high)) in
        let s = r.3 in
        (r.0, r.1, r.2, omega (arith, s, high))
    by rest false i f j p = older f i (rest p)

-- so a client's last number is answered
pub last-answered : (most_keys cl seq : ℕ) (h : History) → 0 < seq → last_seq cl h ≡ seq
    → (a : Answer) × (answer_to most_keys cl seq h ≡ Some a) × (a.client ≡ cl) × (a.seq ≡ seq)
unfolding answer_to IsLast
last-answered most_keys cl seq h p e =
    let r = last-is most_keys cl h (omega (arith, p, e)) in
    let s = r.3 ∙ e in (
      r.0,
      ap (λ o. if_numbered seq o) r.1 ∙ cond-true (r.0.seq == seq) (Some r.0) _ (eq-eqb r.0.seq seq s),
      r.2,
      s,
    )

-- ---- one answer

-- of one client and number there is one answer
pub one-answer : (most_keys : ℕ) (h : History) (a b : Answer) → Among a (answers most_keys h)
    → Among b (answers most_keys h) → a.client ≡ b.client → a.seq ≡ b.seq → a ≡ b
unfolding answers is_fresh
one-answer most_keys [] a b m n c s = absurd m
one-answer most_keys (e ∷ h) a b m n c s = by (λ i j. one-answer most_keys h a b i j c s) (is_fresh e h) refl m n
  where
    new : Answer
    new = answer_in most_keys e h

    -- an older answer has a lower number
    older : (x : Answer) → is_fresh e h ≡ true → Among x (answers most_keys h) → x.client ≡ e.client → x.seq < e.seq
    older x f k i =
        let y = answers-entry most_keys h x k in
        let l = lower-is e y.entry (all-passes (is_lower e) h y.entry f y.among) (y.client ∙ i) in
        let q = y.seq in
        omega (arith, l, q)

    by : (Among a (answers most_keys h) → Among b (answers most_keys h) → a ≡ b) → (f : Bool) → is_fresh e h ≡ f
        → Among a (cond f (new ∷ answers most_keys h) (answers most_keys h))
        → Among b (cond f (new ∷ answers most_keys h) (answers most_keys h)) → a ≡ b
    by rest true f (inl i) (inl j) = i ∙ sym j
    by rest true f (inl i) (inr j) =
        let k = ap (λ (x : Answer). x.client) i in
        let q = ap (λ (x : Answer). x.seq) i in
        let l = older b f j (sym c ∙ k) in
        absurd (omega (arith, l, q, s))
    by rest true f (inr i) (inl j) =
        let k = ap (λ (x : Answer). x.client) j in
        let q = ap (λ (x : Answer). x.seq) j in
        let l = older a f i (c ∙ k) in
        absurd (omega (arith, l, q, s))
    by rest true f (inr i) (inr j) = rest i j
    by rest false f i j = rest i j
