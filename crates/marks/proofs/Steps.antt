-- Each step keeps the rule of the words.
use Rattle.std.proofs.Common.{◌≡◌, ◌≢◌, ◌⊎◌, ℕ, zero, suc, ◌+◌, ◌<◌, ◌≤◌, max, min, List, [], ◌∷◌, ◌++◌}
use Rattle.std.proofs.Common.{map, length, set, refl, sym, ap, ◌∙◌, subst, ⊎_elim, inl, inr, arith, le_refl}
use Rattle.std.proofs.Common.{length-set, get_or-set_same, get_or-set_other, lt_irrefl}
use Rattle.std.specs.Prelude.{slice_index, slice_set, replicate}
use Rattle.std.proofs.lemmas.Bool.{cases_eq}
use Rattle.std.proofs.lemmas.List.{length-replicate}
use Rattle.std.proofs.lemmas.List.FromFn.{map-range_with_len_more}
use Rattle.std.specs.List.{range_with_len}
use Rattle.std.proofs.Math.Nat.{max-eq_right}
use mathlib.Core.Option.{some, some-ne-none, some-injective}
use lib.ListN.{get_elem?}
use Rattle.atomic_table.specs.Table.{State, Me, keeps, Allows, Splits, opening}
use Rattle.atomic_table.proofs.Lists.{at_set, set_again}
use Rattle.atomic_table.specs.Seated.{TableId}
use Rattle.definitions.specs.Marks.{Sight, Owns, Fits, Marked, sees, puts, Loads, Raises}
use Rattle.marks.specs.Eyes.{EyeState, IsOwnerOf, first_eye, opener, without_first, only_first, onlooker}

-- the rule, of a table's state
abbrev pub Rule : {S : Type 0} → ℕ → State S Sight → Type 0
Rule count s = Marked count s.words s.views

-- a fact of each word after a write: of the one written, and of the others
at_word : (P : ℕ → Type 0) (words : List ℕ) (i x k : ℕ) → i < length words → (k ≡ i → P x)
    → (k ≢ i → P (slice_index words k)) → P (slice_index (slice_set words i x) k)
at_word P words i x k h here there =
    ⊎_elim
    (λ (e : k ≡ i). subst P (sym (ap (slice_index (slice_set words i x)) e ∙ get_or-set_same words i x 0 h))
    (here e))
    (λ (ne : k ≢ i). subst P (sym (get_or-set_other words i k x 0 ne)) (there ne))
    (cases_eq k i)

-- a seat that doesn't own the word still fits, and so does one whose word stays
others_fit : (words : List ℕ) (i x : ℕ) (u : Sight) → i < length words → slice_index words i ≤ x
    → (Owns u i → slice_index words i ≡ x) → Fits words u → Fits (slice_set words i x) u
others_fit words i x u h le own f =
    record {
      wide = f.wide ∙ sym (length-set words i x);
      own = λ k o. at_word (λ n. n ≡ u.put) words i x k h
          (λ e. let o' : Owns u i = subst (Owns u) e o in sym (own o') ∙ f.own i o') (λ ne. f.own k o);
      least = λ k. at_word (λ n. slice_index u.seen k ≤ n) words i x k h
          (λ e. let l =
          f.least k in let s : slice_index words k ≡ slice_index words i =
          ap (slice_index words) e in omega arith) (λ ne. f.least k);
    }

-- the seat that steps sees what is in the word then
sees_least : (words : List ℕ) (i x k : ℕ) (v : Sight) → i < length words → slice_index words i ≤ x
    → Fits words v → slice_index (slice_set v.seen i x) k ≤ slice_index (slice_set words i x) k
sees_least words i x k v h le f =
    let wide : i < length v.seen = omega (arith, f.wide) in
    at_word (λ n. n ≤ slice_index (slice_set words i x) k) v.seen i x k wide
    (λ e. at_word (λ n. x ≤ n) words i x k h (λ _. le_refl x) (λ ne. absurd (ne e)))
    (λ ne. at_word (λ n. slice_index v.seen k ≤ n) words i x k h (λ e. absurd (ne e)) (λ _. f.least k))

-- what stood at a place before a seat's view changed, and owned no less
before : (views : List Sight) (id : ℕ) (v w : Sight) → get_elem? views id ≡ some v
    → ((k : ℕ) → Owns w k → Owns v k)
    → (j : ℕ) (u : Sight) → get_elem? (set views id w) j ≡ some u
    → (o : Sight) × (get_elem? views j ≡ some o) × ((k : ℕ) → Owns u k → Owns o k)
before views id v w at owned j u e =
    ⊎_elim
    (λ (x : (j ≡ id) × (w ≡ u)).
    (v, ap (get_elem? views) x.0 ∙ at, λ k o. owned k (subst (λ (t : Sight). Owns t k) (sym x.1) o)))
    (λ (x : (j ≢ id) × (get_elem? views j ≡ some u)). (u, x.1, λ k o. o))
    (at_set views id j w u e)

-- a step on the word i, by a seat after which it and all others fit
pub steps : (count : ℕ) (words : List ℕ) (views : List Sight) (i x id : ℕ) (v w : Sight)
    → Marked count words views → get_elem? views id ≡ some v → i < count → slice_index words i ≤ x
    → ((k : ℕ) → Owns w k → Owns v k) → (Owns v i ⊎ (slice_index words i ≡ x)) → Fits (slice_set words i x) w
    → Marked count (slice_set words i x) (slice_set views id w)
steps count words views i x id v w m at in_range le owned may fits =
    let h : i < length words = omega (arith, m.wide) in
    record {
      wide = length-set words i x ∙ m.wide;
      fits = λ j u e. ⊎_elim
          (λ (t : (j ≡ id) × (w ≡ u)). subst (Fits (slice_set words i x)) t.1 fits)
          (λ (t : (j ≢ id) × (get_elem? views j ≡ some u)). others_fit words i x u h le
          (λ o. ⊎_elim (λ (own : Owns v i). absurd (t.0 (m.one_owner j id u v i t.1 at o own)))
          (λ (same : slice_index words i ≡ x). same) may)
          (m.fits j u t.1))
          (at_set views id j w u e);
      one_owner = λ a b u t k ea eb ou ot.
          let p = before views id v w at owned a u ea in
          let q = before views id v w at owned b t eb in
          m.one_owner a b p.0 q.0 k p.1 q.1 (p.2 k ou) (q.2 k ot);
    }

-- a load, by anyone
pub looks : {S : Type 0} (count slots id i : ℕ) (me : Me S Sight) → i < count
    → Allows (Rule {S = S} count) slots id me i (λ n. n) (λ n me'. Loads i me.0 n me'.0)
looks {S} count slots id i me in_range s m sized at small =
    let v = me.0 in
    let n = slice_index s.words i in
    let f = m.fits id v at in
    let h : i < length s.words = omega (arith, m.wide) in
    let wide : i < length v.seen = omega (arith, f.wide) in
    let w = sees v i n in
    let new : Fits (slice_set s.words i n) w = record {
      wide = length-set v.seen i n ∙ f.wide ∙ sym (length-set s.words i n);
      own = λ k o. at_word (λ y. y ≡ v.put) s.words i n k h (λ e. f.own i (subst (Owns v) e o))
          (λ ne. f.own k o);
      least = λ k. sees_least s.words i n k v h (le_refl n) f;
    } in (
      w,
      keeps,
      tt,
      steps count s.words s.views i n id v w m at in_range (le_refl n) (λ k o. o) (inr refl) new,
      record { least = f.least i; own = f.own i; seen = get_or-set_same v.seen i n 0 wide; only = refl },
    )

-- a put, by the owner
pub raises : {S : Type 0} (count slots id i x : ℕ) (me : Me S Sight) → i < count → IsOwnerOf i me.0
    → me.0.put ≤ x
    → Allows (Rule {S = S} count) slots id me i (λ n. max n x) (λ n me'. Raises i me.0 x me'.0)
raises {S} count slots id i x me in_range owner more s m sized at small =
    let v = me.0 in
    let n = slice_index s.words i in
    let f = m.fits id v at in
    let h : i < length s.words = omega (arith, m.wide) in
    let mine : Owns v i = (omega (arith, owner.0), omega (arith, owner.1)) in
    let was : n ≡ v.put = f.own i mine in
    let le : n ≤ x = omega arith in
    let w = puts v i x in
    let new : Fits (slice_set s.words i x) w = record {
      wide = length-set v.seen i x ∙ f.wide ∙ sym (length-set s.words i x);
      own = λ k o. at_word (λ y. y ≡ x) s.words i x k h (λ e. refl)
          (λ ne. absurd (ne (omega (arith, owner.0, owner.1, o.0, o.1))));
      least = λ k. sees_least s.words i x k v h le f;
    } in
    let after = steps count s.words s.views i x id v w m at in_range le (λ k o. o) (inl mine) new in (
      w,
      keeps,
      tt,
      subst (λ (y : ℕ). Marked count (slice_set s.words i y) (slice_set s.views id w))
          (sym (max-eq_right le)) after,
      refl,
    )

-- what stands at a place of a list with one more at its end
of_snoc : (l : List Sight) (a b : Sight) (j : ℕ) → get_elem? (l ++ a ∷ []) j ≡ some b
    → (get_elem? l j ≡ some b) ⊎ ((j ≡ length l) × (a ≡ b))
of_snoc [] a b zero e = inr (refl, some-injective a b e)
of_snoc [] a b (suc j) e = absurd (some-ne-none b (sym e))
of_snoc (x ∷ xs) a b zero e = inl e
of_snoc (x ∷ xs) a b (suc j) e = ⊎_elim (λ t. inl t) (λ t. inr (ap suc t.0, t.1)) (of_snoc xs a b j e)

-- one more that owns none
pub onlooks : {S : Type 0} (count id : ℕ) (v : Sight) → Splits (Rule {S = S} count) id v v (onlooker v)
onlooks {S} count id v s m at =
    let same : slice_set s.views id v ≡ s.views = set_again s.views id v at in
    let f = m.fits id v at in
    let new : Fits s.words (onlooker v) =
    record { wide = f.wide; own = λ k o. absurd (omega (arith, o.1)); least = f.least } in
    let after : Marked count s.words (s.views ++ onlooker v ∷ []) = record {
      wide = m.wide;
      fits = λ j u e. ⊎_elim (λ (t : get_elem? s.views j ≡ some u). m.fits j u t)
          (λ (t : (j ≡ length s.views) × (onlooker v ≡ u)). subst (Fits s.words) t.1 new)
          (of_snoc s.views (onlooker v) u j e);
      one_owner = λ a b u t k ea eb ou ot. ⊎_elim
          (λ (p : get_elem? s.views a ≡ some u). ⊎_elim
          (λ (q : get_elem? s.views b ≡ some t). m.one_owner a b u t k p q ou ot)
          (λ (q : (b ≡ length s.views) × (onlooker v ≡ t)). let none_owned : k < 0 =
          (subst (λ (y : Sight). Owns y k) (sym q.1) ot).1 in absurd (omega arith))
          (of_snoc s.views (onlooker v) t b eb))
          (λ (p : (a ≡ length s.views) × (onlooker v ≡ u)). let none_owned : k < 0 =
          (subst (λ (y : Sight). Owns y k) (sym p.1) ou).1 in absurd (omega arith))
          (of_snoc s.views (onlooker v) u a ea);
    } in
    subst (λ (views : List Sight). Marked count s.words (views ++ onlooker v ∷ [])) (sym same) after

-- the owner of several words gives the first of them away
pub deals : {S : Type 0} (count id : ℕ) (v : Sight) → v.first < v.end
    → Splits (Rule {S = S} count) id v (without_first v) (only_first v)
deals {S} count id v some_left s m at =
    let l = without_first v in
    let r = only_first v in
    let f = m.fits id v at in
    let left : Fits s.words l =
    record { wide = f.wide; own = λ k o. f.own k (omega (arith, o.0), o.1); least = f.least } in
    let right : Fits s.words r =
    record { wide = f.wide; own = λ k o. f.own k (o.0, omega (arith, o.1)); least = f.least } in
    let old = before s.views id v l at (λ k o. (omega (arith, o.0), o.1)) in
    let kept : (j : ℕ) (u : Sight) → get_elem? (set s.views id l) j ≡ some u → Fits s.words u =
    λ j u e. ⊎_elim
    (λ (t : (j ≡ id) × (l ≡ u)). subst (Fits s.words) t.1 left)
    (λ (t : (j ≢ id) × (get_elem? s.views j ≡ some u)). m.fits j u t.1)
    (at_set s.views id j l u e) in
    -- the new seat owns no word of a seat that was there
    let apart : (j : ℕ) (u : Sight) (k : ℕ) → get_elem? (set s.views id l) j ≡ some u → Owns u k → Owns r k
    → ⊥ = λ j u k e ou own. ⊎_elim
    (λ (t : (j ≡ id) × (l ≡ u)). let lo : v.first + 1 ≤ k =
    (subst (λ (y : Sight). Owns y k) (sym t.1) ou).0 in let hi : k < v.first + 1 =
    own.1 in lt_irrefl k (omega arith))
    (λ (t : (j ≢ id) × (get_elem? s.views j ≡ some u)). t.0
    (m.one_owner j id u v k t.1 at ou (own.0, omega (arith, own.1))))
    (at_set s.views id j l u e) in
    record {
      wide = m.wide;
      fits = λ j u e. ⊎_elim (λ (t : get_elem? (set s.views id l) j ≡ some u). kept j u t)
          (λ (t : (j ≡ length (set s.views id l)) × (r ≡ u)). subst (Fits s.words) t.1 right)
          (of_snoc (set s.views id l) r u j e);
      one_owner = λ a b u t k ea eb ou ot. ⊎_elim
          (λ (p : get_elem? (set s.views id l) a ≡ some u). ⊎_elim
          (λ (q : get_elem? (set s.views id l) b ≡ some t). let x =
          old a u p in let y = old b t q in m.one_owner a b x.0 y.0 k x.1 y.1 (x.2 k ou) (y.2 k ot))
          (λ (q : (b ≡ length (set s.views id l)) × (r ≡ t)).
          absurd (apart a u k p ou (subst (λ (y : Sight). Owns y k) (sym q.1) ot)))
          (of_snoc (set s.views id l) r t b eb))
          (λ (p : (a ≡ length (set s.views id l)) × (r ≡ u)). ⊎_elim
          (λ (q : get_elem? (set s.views id l) b ≡ some t).
          absurd (apart b t k q ot (subst (λ (y : Sight). Owns y k) (sym p.1) ou)))
          (λ (q : (b ≡ length (set s.views id l)) × (r ≡ t)). p.0 ∙ sym q.0)
          (of_snoc (set s.views id l) r t b eb))
          (of_snoc (set s.views id l) r u a ea);
    }

-- a seat alone
only_seat : (v u : Sight) (j : ℕ) → get_elem? (v ∷ []) j ≡ some u → (j ≡ 0) × (v ≡ u)
only_seat v u zero e = (refl, some-injective v u e)
only_seat v u (suc j) e = absurd (some-ne-none u (sym e))

zeros : (n i : ℕ) → slice_index (replicate n 0) i ≡ 0
zeros zero i = refl
zeros (suc n) zero = refl
zeros (suc n) (suc i) = zeros n i

-- the words begin at 0
pub opens : {S : Type 0} (count : ℕ) (slots : List S)
    → Rule {S = S} count (opening (replicate count 0) slots (opener count))
opens {S} count slots =
    let first : Fits (replicate count 0) (opener count) =
    record { wide = refl; own = λ k o. zeros count k; least = λ k. le_refl _ } in
    record {
      wide = length-replicate count 0;
      fits = λ j u e. subst (Fits (replicate count 0)) (only_seat (opener count) u j e).1 first;
      one_owner =
          λ a b u t k ea eb ou ot. (only_seat (opener count) u a ea).0
          ∙ sym (only_seat (opener count) t b eb).0;
    }

-- the eye of a number, made of a seat
pub is_first_eye : (z at : TableId) (n k end : ℕ) (v : Sight) → at ≡ z → z.words ≡ n
    → v ≡ record { first = k; end = end; put = 0; seen = replicate n 0 } → end ≡ min (k + 1) n
    → let e : EyeState = record { marks = at; sight = v } in e ≡ first_eye z k
is_first_eye z at n k end v same words is last =
    let seen : v ≡ (first_eye z k).sight =
    is
    ∙ (λ i. record {
      first = k;
      end = (last ∙ ap (λ m. min (k + 1) m) (sym words)) i;
      put = 0;
      seen = replicate (sym words i) 0;
    }) in
    λ i. record { marks = same i; sight = seen i }

-- one more eye behind those before it
pub one_more_eye : (z : TableId) (k : ℕ) (old new : List EyeState) (e : EyeState) → new ≡ old ++ e ∷ []
    → old ≡ map (first_eye z) (range_with_len 0 k) → e ≡ first_eye z k
    → new ≡ map (first_eye z) (range_with_len 0 (k + 1))
one_more_eye z k old new e pushed so_far is =
    pushed ∙ (λ i. so_far i ++ is i ∷ []) ∙ sym (map-range_with_len_more (first_eye z) 0 k k (omega arith))
