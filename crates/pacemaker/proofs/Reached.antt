-- The greatest view that many have passed: of all announcements, and of the last ones alone.
use Rattle.std.proofs.Common.{ℕ, suc, ◌≡◌, ◌<◌, ◌≤◌, ◌⊎◌, ◌==◌, Bool, true, false, List, [], ◌∷◌, cond}
use Rattle.std.proofs.Common.{nat_lt, nat_le, slice_index, slice_set, replicate, min, ◌-◌, ◌^◌, refl, sym}
use Rattle.std.proofs.Common.{ap, subst, ◌∙◌, arith, inl, inr, map, filter, max}
use Rattle.std.proofs.lemmas.Bool.{cases_lt, ltb-true, lt-ltb}
use Rattle.std.proofs.lemmas.Bool.Decides.{eqb_tells}
use Rattle.std.proofs.lemmas.List.{get_or-set_other, length-set, get_or-replicate}
use Rattle.std.proofs.lemmas.Grind.{get_or-set_at}
use Rattle.ids.specs.declared.limits.TheConstants.{MOST_REPLICAS}
use Rattle.ids.specs.Sizes.{Sizes, replicas}
use Rattle.definitions.specs.Lists.{Among, greatest, count_below}
use Rattle.definitions.specs.Frames.{Certificate}
use Rattle.definitions.specs.Branches.{Branch}
use Rattle.definitions.specs.Chronicles.{Chronicle, Step, Step.took_block, Step.noted, Note.got_vote}
use Rattle.definitions.specs.Chronicles.{Note.got_new_view, Note.got_request, Note.got_fetch}
use Rattle.definitions.specs.Chronicles.{Note.timed_out, Note.beat, Note.pruned, Note.seen_view}
use Rattle.definitions.specs.Chronicles.{Note.led_from}
use Rattle.definitions.specs.States.{announcements, announced, reached_view, view}
use Rattle.definitions.proofs.Lists.{greatest-above, Among-map, Among-mapped, Among-filter, Among-kept}
use Rattle.definitions.proofs.Counts.{count-same}
use Rattle.pacemaker.specs.Pacing.{Pace, IsPaceOf, LeavesPace, IsReached, passed_by}
use Rattle.pacemaker.proofs.Counting.{at_least, passed_least}

-- the greatest of some numbers is 0 or one of them
pub greatest-among : (xs : List ℕ) → (greatest xs ≡ 0) ⊎ Among (greatest xs) xs
unfolding greatest
greatest-among [] = inl refl
greatest-among (x ∷ xs) = elim (cases_lt x (greatest xs)) [
  | inl less ↦
      let e : max x (greatest xs) ≡ greatest xs = omega arith in
      elim (greatest-among xs)
      [ inl z ↦ inl (e ∙ z) | inr m ↦ inr (inr (subst (λ (y : ℕ). Among y xs) (sym e) m)) ]
  | inr more ↦ inr (inl (omega arith))
]

-- a bound on each is one on the greatest
pub greatest-below : (xs : List ℕ) (most : ℕ) → ((x : ℕ) → Among x xs → x ≤ most) → greatest xs ≤ most
greatest-below xs most h = elim (greatest-among xs) [ inl z ↦ omega arith | inr m ↦ h (greatest xs) m ]

-- what a replica announced last is 0 or stands among the announcements
pub announced-among : (i : ℕ) (c : Chronicle)
    → (announced i c ≡ 0) ⊎ Among (announced i c) (map (λ p. p.1) (announcements c))
unfolding announced
announced-among i c =
    let own = filter (λ p. p.0 == i) (announcements c) in
    elim (greatest-among (map (λ p. p.1) own)) [
      | inl z ↦ inl z
      | inr m ↦
          let r = Among-map (λ (p : ℕ × ℕ). p.1) own (announced i c) m in
          inr (subst (λ (v : ℕ). Among v (map (λ p. p.1) (announcements c))) (sym r.2)
          (Among-mapped (λ (p : ℕ × ℕ). p.1) (announcements c) r.0
          (Among-filter (λ (p : ℕ × ℕ). p.0 == i) (announcements c) r.0 r.1).0))
    ]

-- what a pacemaker finds is what the chronicle says
pub reached-is : (c : Chronicle) (p : Pace) (v : ℕ)
    → ((i : ℕ) → i < replicas p.sizes → slice_index p.announced i ≡ announced i c) → IsReached p v
    → reached_view p.sizes c ≡ v
unfolding reached_view
reached-is c p v rows r =
    let n = replicas p.sizes in
    let f = p.sizes.faults in
    let all = map (λ (x : ℕ × ℕ). x.1) (announcements c) in
    let passed : ℕ → ℕ = λ w. at_least n (λ i. announced i c) w in
    let test : ℕ → Bool = λ w. nat_lt f (count_below n (λ i. nat_le w (announced i c))) in
    let many = filter test all in
    let same : (w : ℕ) → passed_by p w ≡ passed w =
    λ w. count-same n (λ i. nat_le w (slice_index p.announced i)) (λ i. nat_le w (announced i c))
    (λ i l. ap (nat_le w) (rows i l)) in
    let at_most : greatest many ≤ v = greatest-below many v (λ w m.
    let k = Among-filter test all w m in
    let least = passed_least n f (λ i. announced i c) w (ltb-true f (passed w) k.1) in
    let row : slice_index p.announced least.0 ≡ announced least.0 c = rows least.0 least.1 in
    let most = r.most least.0 least.1
    (omega (arith, least.3, same (slice_index p.announced least.0), ap passed row)) in
    omega (arith, least.2, most, row)) in
    let at_least : v ≤ greatest many = elim r.some [
      | inl z ↦ omega (arith, z)
      | inr (i, l, is, enough) ↦
          let row : v ≡ announced i c = sym is ∙ rows i l in
          elim (announced-among i c) [
            | inl z ↦ omega (arith, row, z)
            | inr m ↦ greatest-above many v
                (subst (λ (w : ℕ). Among w many) (sym row) (Among-kept test all (announced i c) m
                (lt-ltb f (passed (announced i c)) (omega (arith, enough, same v, ap passed row)))))
          ]
    ] in
    omega (arith, at_most, at_least)

next_step : (b : Bool) (x : ℕ × ℕ) (xs : List (ℕ × ℕ))
    → greatest (map (λ p. p.1) (cond b (x ∷ xs) xs))
    ≡ cond b (max x.1 (greatest (map (λ p. p.1) xs))) (greatest (map (λ p. p.1) xs))
unfolding greatest
next_step true x xs = refl
next_step false x xs = refl

-- the last announcement counts where it is the greater one
pub announced-next : (i view sender : ℕ) (q : Certificate) (b : Branch) (c : Chronicle) →
    announced i (noted (got_new_view view sender q b) ∷ c)
    ≡ cond (sender == i) (max view (announced i c)) (announced i c)
unfolding announced announcements
announced-next i view sender q b c =
    next_step (sender == i) (sender, view) (filter (λ p. p.0 == i) (announcements c))

-- the row after an announcement is that of the chronicle with it
pub row_next : (p : Pace) (c : Chronicle) (v sender : ℕ) (q : Certificate) (b : Branch) → IsPaceOf c p
    → sender < replicas p.sizes → replicas p.sizes ≤ MOST_REPLICAS →
    (i : ℕ) → i < replicas p.sizes
    → slice_index (slice_set p.announced sender (max v (slice_index p.announced sender))) i
    ≡ announced i (noted (got_new_view v sender q b) ∷ c)
row_next p c v sender q b o l most i below =
    let new = max v (slice_index p.announced sender) in
    elim (eqb_tells sender i) [
      | inl (same, is) ↦
          get_or-set_at p.announced sender i new 0 (sym is) (omega (arith, o.row, l, most))
          ∙ ap (max v) (o.announced sender l ∙ ap (λ (k : ℕ). announced k c) is)
          ∙ sym (announced-next i v sender q b c
          ∙ ap (λ (t : Bool). cond t (max v (announced i c)) (announced i c)) same)
      | inr (other, differs) ↦
          get_or-set_other p.announced sender i new 0 (λ e. differs (sym e))
          ∙ o.announced i below
          ∙ sym (announced-next i v sender q b c
          ∙ ap (λ (t : Bool). cond t (max v (announced i c)) (announced i c)) other)
    ]

view-next : (s : Sizes) (v sender : ℕ) (q : Certificate) (b : Branch) (c : Chronicle)
    → view s (noted (got_new_view v sender q b) ∷ c)
    ≡ max (view s c) (reached_view s (noted (got_new_view v sender q b) ∷ c))
unfolding view
view-next s v sender q b c = refl

view-later : (s : Sizes) (c : Chronicle) → view s (noted timed_out ∷ c) ≡ min (suc (view s c)) (2 ^ 64 - 1)
unfolding view
view-later s c = refl

announced-later : (i : ℕ) (c : Chronicle) → announced i (noted timed_out ∷ c) ≡ announced i c
unfolding announced announcements
announced-later i c = refl

-- the pace after a timeout
pub paced-later : (p new : Pace) (c : Chronicle) → IsPaceOf c p
    → new ≡ record p { view = min (suc p.view) (2 ^ 64 - 1) } → IsPaceOf (noted timed_out ∷ c) new
paced-later p new c o e =
    let is : IsPaceOf (noted timed_out ∷ c) (record p { view = min (suc p.view) (2 ^ 64 - 1) }) = record {
      row = o.row;
      view = ap (λ (w : ℕ). min (suc w) (2 ^ 64 - 1)) o.view ∙ sym (view-later p.sizes c);
      announced = λ i l. o.announced i l ∙ sym (announced-later i c);
    } in
    subst (λ (x : Pace). IsPaceOf (noted timed_out ∷ c) x) (sym e) is

-- the pace with what a replica announced
abbrev pub with_announced : Pace → ℕ → ℕ → Pace
with_announced p v sender =
    record p { announced = slice_set p.announced sender (max v (slice_index p.announced sender)) }

-- the pace after an announcement, where the view became the greater one of the old view and the one that is
-- reached
pub paced-next : (p n new : Pace) (c : Chronicle) (v sender w r : ℕ) (q : Certificate) (b : Branch)
    → IsPaceOf c p → sender < replicas p.sizes → replicas p.sizes ≤ MOST_REPLICAS →
    n ≡ with_announced p v sender → IsReached n r → new ≡ record n { view = w } → w ≡ max n.view r →
    IsPaceOf (noted (got_new_view v sender q b) ∷ c) new
paced-next p n new c v sender w r q b o l most noted_is reached_view new_is e =
    let m = with_announced p v sender in
    let reached' : IsReached m r = subst (λ (x : Pace). IsReached x r) noted_is reached_view in
    let is = reached-is (noted (got_new_view v sender q b) ∷ c) m r (row_next p c v sender q b o l most)
    reached' in
    let e' : w ≡ max p.view r = e ∙ ap (λ (x : Pace). max x.view r) noted_is in
    let whole : IsPaceOf (noted (got_new_view v sender q b) ∷ c) (record m { view = w }) = record {
      row = length-set p.announced sender (max v (slice_index p.announced sender)) ∙ o.row;
      view =
          e' ∙ ap (λ (x : ℕ). max x r) o.view ∙ ap (max (view p.sizes c)) (sym is)
          ∙ sym (view-next p.sizes v sender q b c);
      announced = row_next p c v sender q b o l most;
    } in
    subst (λ (x : Pace). IsPaceOf (noted (got_new_view v sender q b) ∷ c) x)
    (sym (new_is ∙ ap (λ (x : Pace). record x { view = w }) noted_is)) whole

announced-none : (i : ℕ) → announced i [] ≡ 0
unfolding announced announcements greatest
announced-none i = refl

view-none : (s : Sizes) → view s [] ≡ 0
unfolding view
view-none s = refl

-- nobody has announced anything at the start
pub paced-none : (s : Sizes) → replicas s ≤ MOST_REPLICAS
    → IsPaceOf [] (record { sizes = s; view = 0; announced = replicate MOST_REPLICAS 0 })
paced-none s most = record {
  row = refl;
  view = sym (view-none s);
  announced = λ i l. get_or-replicate MOST_REPLICAS i 0 0 (omega (arith, l, most)) ∙ sym (announced-none i);
}

-- an announcement is one without its certificate, too
pub paced-seen : (c : Chronicle) (p : Pace) (v sender : ℕ) (q : Certificate) (b : Branch)
    → IsPaceOf (noted (got_new_view v sender q b) ∷ c) p → IsPaceOf (noted (seen_view v sender) ∷ c) p
unfolding view reached_view announced announcements
paced-seen c p v sender q b o = record { row = o.row; view = o.view; announced = o.announced }

-- ---- any other step

view-stays : (s : Sizes) (st : Step) (c : Chronicle) → LeavesPace st → view s (st ∷ c) ≡ view s c
unfolding view
view-stays s (took_block a) c h = refl
view-stays s (noted (got_vote voter v b)) c h = refl
view-stays s (noted (got_new_view w sender q b)) c h = absurd h
view-stays s (noted (got_request r)) c h = refl
view-stays s (noted (got_fetch sender b)) c h = refl
view-stays s (noted timed_out) c h = absurd h
view-stays s (noted beat) c h = refl
view-stays s (noted (pruned height)) c h = refl
view-stays s (noted (seen_view w sender)) c h = absurd h
view-stays s (noted (led_from b)) c h = refl

announced-stays : (i : ℕ) (st : Step) (c : Chronicle) → LeavesPace st → announced i (st ∷ c) ≡ announced i c
unfolding announced announcements
announced-stays i (took_block a) c h = refl
announced-stays i (noted (got_vote voter v b)) c h = refl
announced-stays i (noted (got_new_view w sender q b)) c h = absurd h
announced-stays i (noted (got_request r)) c h = refl
announced-stays i (noted (got_fetch sender b)) c h = refl
announced-stays i (noted timed_out) c h = absurd h
announced-stays i (noted beat) c h = refl
announced-stays i (noted (pruned height)) c h = refl
announced-stays i (noted (seen_view w sender)) c h = absurd h
announced-stays i (noted (led_from b)) c h = refl

-- keeps the pace
pub paced-still : (st : Step) (c : Chronicle) (p : Pace) → LeavesPace st → IsPaceOf c p → IsPaceOf (st ∷ c) p
paced-still st c p h o = record {
  row = o.row;
  view = o.view ∙ sym (view-stays p.sizes st c h);
  announced = λ i l. o.announced i l ∙ sym (announced-stays i st c h);
}
