-- What a record keeps over a history of calls.
use Rattle.std.proofs.Common.{ℕ, ◌≡◌, ◌≤◌, ◌<◌, Bool, true, false, cond, List, [], ◌∷◌, ◌++◌, length, refl, ap, sym, ◌∙◌, arith, subst}
use Rattle.std.proofs.Common.{append_assoc, leb, ltb}
use Rattle.std.proofs.lemmas.List.{append-nil}
use Rattle.std.proofs.lemmas.List.Elements.{filter-append}
use Rattle.std.proofs.lemmas.Bool.{le-leb, lt-leb, le-ltb, lt-ltb, ltb-true, ltb-false}
use Rattle.std.specs.List.{AllByRecursion as Each}
use Rattle.frame_record.specs.declared.recorded.Recorded.{Recorded}
use Rattle.frame_record.specs.Costs.{cost, cost_of, fitting}
use Rattle.frame_record.specs.Recording.{Recording, above, empty, inserted, is_low, up_to, with_frame}
use Rattle.frame_record.specs.Laws.{Call, put, too_low, known, lost, KeepsTheNewest, Lead, all_put}
use Rattle.frame_record.proofs.Order.{Rising, each-append, each-filter, each-imp, filter-none, filter-whole, rising-back}
use Rattle.frame_record.proofs.Order.{rising-below, rising-inserted}

-- ---- one frame more

-- above the lowest that is kept, what was dropped is left alone
kept-insert : (r x : Recorded) (ds ks : List Recorded) → x.height ≤ r.height → Rising (ds ++ x ∷ ks)
    → inserted r (ds ++ x ∷ ks) ≡ ds ++ inserted r (x ∷ ks)
kept-insert r x ds ks le h =
    let below = rising-below ds x ks h in
    let low = filter-append (λ y. leb y.height r.height) ds (x ∷ ks) in
    let high = filter-append (λ y. ltb r.height y.height) ds (x ∷ ks) in
    let all = filter-whole (λ y. leb y.height r.height) ds
    (each-imp (λ y. y.height ≤ x.height) (λ y. leb y.height r.height ≡ true)
    (λ y l. le-leb y.height r.height (omega (arith, l, le))) ds below) in
    let none = filter-none (λ y. ltb r.height y.height) ds
    (each-imp (λ y. y.height ≤ x.height) (λ y. ltb r.height y.height ≡ false)
    (λ y l. le-ltb r.height y.height (omega (arith, l, le))) ds below) in
    let front : up_to r.height (ds ++ x ∷ ks) ≡ ds ++ up_to r.height (x ∷ ks) =
    low ∙ ap (λ l. l ++ up_to r.height (x ∷ ks)) all in
    let back : above r.height (ds ++ x ∷ ks) ≡ above r.height (x ∷ ks) =
    high ∙ ap (λ l. l ++ above r.height (x ∷ ks)) none in
    ap (λ l. l ++ r ∷ above r.height (ds ++ x ∷ ks)) front
    ∙ (ap (λ l. (ds ++ up_to r.height (x ∷ ks)) ++ r ∷ l) back
    ∙ append_assoc ds (up_to r.height (x ∷ ks)) (r ∷ above r.height (x ∷ ks)))

-- below it, what is kept is left alone
low-insert : (r x : Recorded) (ds ks : List Recorded) → r.height < x.height → Rising (x ∷ ks)
    → inserted r (ds ++ x ∷ ks) ≡ inserted r ds ++ x ∷ ks
low-insert r x ds ks lt h =
    let high = filter-append (λ y. ltb r.height y.height) ds (x ∷ ks) in
    let low = filter-append (λ y. leb y.height r.height) ds (x ∷ ks) in
    let none = filter-none (λ y. leb y.height r.height) (x ∷ ks) (
      lt-leb x.height r.height lt,
      each-imp (λ y. x.height ≤ y.height) (λ y. leb y.height r.height ≡ false)
          (λ y l. lt-leb y.height r.height (omega (arith, l, lt))) ks h.0,
    ) in
    let all = filter-whole (λ y. ltb r.height y.height) (x ∷ ks) (
      lt-ltb r.height x.height lt,
      each-imp (λ y. x.height ≤ y.height) (λ y. ltb r.height y.height ≡ true)
          (λ y l. lt-ltb r.height y.height (omega (arith, l, lt))) ks h.0,
    ) in
    let front : up_to r.height (ds ++ x ∷ ks) ≡ up_to r.height ds =
    low ∙ (ap (λ l. up_to r.height ds ++ l) none ∙ append-nil (up_to r.height ds)) in
    let back : above r.height (ds ++ x ∷ ks) ≡ above r.height ds ++ x ∷ ks =
    high ∙ ap (λ l. above r.height ds ++ l) all in
    ap (λ l. l ++ r ∷ above r.height (ds ++ x ∷ ks)) front
    ∙ (ap (λ l. up_to r.height ds ++ r ∷ l) back
    ∙ sym (append_assoc (up_to r.height ds) (r ∷ above r.height ds) (x ∷ ks)))

-- ---- the oldest make way

abbrev IsEnd : List Recorded → List Recorded → Type 0
IsEnd some all = (front : List Recorded) × (all ≡ front ++ some)

end-cond : (b : Bool) (r : Recorded) (rs some : List Recorded) → IsEnd some rs → IsEnd (cond b (r ∷ rs) some) (r ∷ rs)
end-cond true r rs some h = ([], refl)
end-cond false r rs some h = (r ∷ h.0, ap (λ l. r ∷ l) h.1)

fitting-end : (most : ℕ) (rs : List Recorded) → IsEnd (fitting most rs) rs
fitting-end most [] = ([], refl)
fitting-end most (r ∷ rs) = end-cond (leb (cost (r ∷ rs)) most) r rs (fitting most rs) (fitting-end most rs)

each-fitting-cond : (P : Recorded → Type 0) (b : Bool) (xs ys : List Recorded) → Each P xs → Each P ys
    → Each P (cond b xs ys)
each-fitting-cond P true xs ys e g = e
each-fitting-cond P false xs ys e g = g

each-fitting : (P : Recorded → Type 0) (most : ℕ) (rs : List Recorded) → Each P rs → Each P (fitting most rs)
each-fitting P most [] e = tt
each-fitting P most (r ∷ rs) e =
    each-fitting-cond P (leb (cost (r ∷ rs)) most) (r ∷ rs) (fitting most rs) e (each-fitting P most rs e.1)

some-cond : (b : Bool) (r : Recorded) (rs ys : List Recorded) → 0 < length ys → 0 < length (cond b (r ∷ rs) ys)
some-cond true r rs ys h = omega arith
some-cond false r rs ys h = h

-- one is left where each alone costs no more than all may
fitting-some : (most : ℕ) (r : Recorded) (rs : List Recorded) → Each (λ x. cost_of x ≤ most) (r ∷ rs)
    → 0 < length (fitting most (r ∷ rs))
fitting-some most r [] e = let fits = le-leb (cost (r ∷ [])) most (omega (arith, e.0)) in rw fits (omega arith)
fitting-some most r (x ∷ rs) e =
    some-cond (leb (cost (r ∷ x ∷ rs)) most) r (x ∷ rs) (fitting most (x ∷ rs)) (fitting-some most x rs e.1)

fitting-some-of : (most : ℕ) (rs : List Recorded) → 0 < length rs → Each (λ x. cost_of x ≤ most) rs
    → 0 < length (fitting most rs)
fitting-some-of most [] l e = l
fitting-some-of most (r ∷ rs) l e = fitting-some most r rs e

-- ---- over all calls

-- what was dropped, before what is kept: in order; and none was where nothing is kept
record IsSoFar (dropped : List Recorded) (now : Recording) : Type 0 where
  pub rising : Rising (dropped ++ now.frames)
  pub light : Each (λ x. cost_of x ≤ now.most) now.frames
  pub none : length now.frames ≡ 0 → dropped ≡ []

insert-above : (r : Recorded) (ds ks : List Recorded) → is_low r.height ks ≡ false → Rising (ds ++ ks)
    → (length ks ≡ 0 → ds ≡ []) → inserted r (ds ++ ks) ≡ ds ++ inserted r ks
insert-above r ds [] low h none = subst (λ (l : List Recorded). inserted r (l ++ []) ≡ l ++ inserted r [])
    (sym (none refl)) refl
insert-above r ds (x ∷ ks) low h none = kept-insert r x ds ks (ltb-false r.height x.height low) h

insert-below : (r : Recorded) (ds ks : List Recorded) → is_low r.height ks ≡ true → Rising (ds ++ ks)
    → inserted r (ds ++ ks) ≡ inserted r ds ++ ks
insert-below r ds [] low h = cc
insert-below r ds (x ∷ ks) low h =
    low-insert r x ds ks (ltb-true r.height x.height low) (rising-back ds (x ∷ ks) h)

low-some : (height : ℕ) (ks : List Recorded) (P : Type 0) → is_low height ks ≡ true → length ks ≡ 0 → P
low-some height [] P low e = cc
low-some height (x ∷ ks) P low e = absurd (omega (arith, e))

each-inserted : (P : Recorded → Type 0) (r : Recorded) (rs : List Recorded) → P r → Each P rs → Each P (inserted r rs)
each-inserted P r rs one all =
    each-append P (up_to r.height rs) (r ∷ above r.height rs)
    (each-filter P (λ y. leb y.height r.height) rs all) (one, each-filter P (λ y. ltb r.height y.height) rs all)

some-append : (xs : List Recorded) (r : Recorded) (ys : List Recorded) → 0 < length (xs ++ r ∷ ys)
some-append [] r ys = omega arith
some-append (x ∷ xs) r ys = omega arith

abbrev Keeps : (all : List Recorded) → List Call → Recording → Type 0
Keeps all calls new = (dropped : List Recorded) × (all_put all calls ≡ dropped ++ new.frames)

keeps : (calls : List Call) (old new : Recording) (dropped : List Recorded) → IsSoFar dropped old → Lead old calls new
    → Keeps (dropped ++ old.frames) calls new
keeps [] old new dropped so h = (dropped, ap (λ (w : Recording). dropped ++ w.frames) (sym h))
keeps (put r ∷ calls) old new dropped so h =
    let next : List Recorded = inserted r old.frames in
    let parts = fitting-end old.most next in
    let whole : inserted r (dropped ++ old.frames) ≡ (dropped ++ parts.0) ++ fitting old.most next =
    insert-above r dropped old.frames h.1 so.rising so.none
    ∙ (ap (λ l. dropped ++ l) parts.1 ∙ sym (append_assoc dropped parts.0 (fitting old.most next))) in
    let light : Each (λ x. cost_of x ≤ old.most) next =
    each-inserted (λ x. cost_of x ≤ old.most) r old.frames (ltb-false old.most (cost_of r) h.0) so.light in
    let left : 0 < length (fitting old.most next) =
    fitting-some-of old.most next (some-append (up_to r.height old.frames) r (above r.height old.frames)) light in
    let now : IsSoFar (dropped ++ parts.0) (with_frame r old) = record {
      rising = subst Rising whole (rising-inserted r (dropped ++ old.frames) so.rising);
      light = each-fitting (λ x. cost_of x ≤ old.most) old.most next light;
      none = λ e. absurd (omega (arith, e, left));
    } in
    let later = keeps calls (with_frame r old) new (dropped ++ parts.0) now h.2 in
    subst (λ (l : List Recorded). Keeps l calls new) (sym whole) later
keeps (too_low r ∷ calls) old new dropped so h =
    let whole : inserted r (dropped ++ old.frames) ≡ inserted r dropped ++ old.frames =
    insert-below r dropped old.frames h.0 so.rising in
    let now : IsSoFar (inserted r dropped) old = record {
      rising = subst Rising whole (rising-inserted r (dropped ++ old.frames) so.rising);
      light = so.light;
      none = λ e. low-some r.height old.frames (inserted r dropped ≡ []) h.0 e;
    } in
    let later = keeps calls old new (inserted r dropped) now h.1 in
    subst (λ (l : List Recorded). Keeps l calls new) (sym whole) later
keeps (known r ∷ calls) old new dropped so h = keeps calls old new dropped so h.1
keeps (lost ∷ calls) old new dropped so h = keeps calls old new dropped so h

pub keeps-the-newest : KeepsTheNewest
keeps-the-newest most calls new h =
    keeps calls (empty most) new [] (record { rising = tt; light = tt; none = λ e. refl }) h
