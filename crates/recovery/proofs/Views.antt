-- Timeouts bring the correct replicas of a world into one view.
use Rattle.std.proofs.Common.{ℕ, zero, suc, ◌≡◌, ◌<◌, ◌≤◌, ◌+◌, ◌-◌, ◌*◌, ◌%◌, ◌/◌, ◌^◌, ◌==◌, Bool, true, false}
use Rattle.std.proofs.Common.{cond, List, [], ◌∷◌, ◌++◌, length, refl, sym, ap, subst, ◌∙◌, arith, inl, inr}
use Rattle.std.proofs.Common.{map, filter}
use Rattle.std.proofs.Common.{nat_lt, None}
use Rattle.std.proofs.lemmas.Bool.{cond_both, cond-true, cond-false, eqb-true, eq-eqb, and_parts, ltb-true}
use Rattle.std.proofs.Math.Nat.{mod-lt, mod-add-div, add-mod-mod, add-mul-mod_self_left, mod-eq_of_lt}
use Rattle.ids.specs.Sizes.{Sizes, replicas}
use Rattle.definitions.specs.Lists.{Among}
use Rattle.definitions.specs.Chronicles.{Chronicle, Step, Step.took_block, Step.noted, taken_blocks, voted_blocks}
use Rattle.definitions.specs.Chronicles.{Note.got_vote, Note.got_new_view, Note.got_request, Note.got_fetch}
use Rattle.definitions.specs.Chronicles.{Note.timed_out, Note.beat, Note.pruned, Note.seen_view, Note.led_from}
use Rattle.definitions.specs.Chronicles.{horizon, history, executed, decided}
use Rattle.definitions.specs.Checks.{Identity}
use Rattle.definitions.specs.States.{view, votes, raised, qc_high, leaf, pending, is_due, with_request}
use Rattle.definitions.specs.Rulings.{Input.timeout_in, ruling, conflicts}
use Rattle.definitions.specs.Replicas.{MemorySupply.ample, Replica, Standing.running, on_ruling, on_step}
use Rattle.definitions.specs.Worlds.{World, Event.timeout, Happening, is_correct, self_of, put}
use Rattle.definitions.specs.Runs.{refusal, after}
use Rattle.definitions.specs.Events.{Effect, stepped, acts, happens, party_of}
use Rattle.linear_law.proofs.Runs.{member-faulty}
use Rattle.recovery.specs.Correct.{OfCorrect, AllGoOn, chronicle_of, view_of, correct_replicas, amply}
use Rattle.recovery.specs.Healing.{in_turn, timeouts, waits_until, come_to, highest_view, next_led, view_to_come}
use Rattle.recovery.specs.Views.{OnlyViewMoved, CameTo, TimeoutsBringTogether, ACorrectLeaderComes}
use Rattle.recovery.proofs.Worlds.{IsMadeAs, made-after, same-correct, same-self, after-append, Passes, passes-none}
use Rattle.recovery.proofs.Worlds.{named, after-none, passes-one, passes-append, effect-correct, step-running}
use Rattle.recovery.proofs.Correct.{among-correct, correct-listed}

-- ---- one timeout of a chronicle

filter-twice : {A : Type 0} (p : A → Bool) (xs : List A) → filter p (filter p xs) ≡ filter p xs
filter-twice p [] = refl
filter-twice p (x ∷ xs) = by (p x) refl (filter-twice p xs)
  where
    by : (t : Bool) → p x ≡ t → filter p (filter p xs) ≡ filter p xs
        → filter p (cond t (x ∷ filter p xs) (filter p xs)) ≡ cond t (x ∷ filter p xs) (filter p xs)
    by true e rest = cond-true (p x) (x ∷ filter p (filter p xs)) (filter p (filter p xs)) e
        ∙ ap (λ (l : List _). x ∷ l) rest
    by false e rest = rest

due-step : (st : Step) (c : Chronicle)
    → filter (is_due (history (st ∷ c))) (filter (is_due (history (st ∷ c))) (with_request st (pending c)))
    ≡ filter (is_due (history (st ∷ c))) (with_request st (pending c))
due-step st c = filter-twice (is_due (history (st ∷ c))) (with_request st (pending c))

-- what waits is due
pub pending-due : (c : Chronicle) → filter (is_due (history c)) (pending c) ≡ pending c
unfolding pending
pending-due [] = refl
pending-due (noted (led_from b) ∷ c) = refl
pending-due (noted (got_vote voter v b) ∷ c) = due-step (noted (got_vote voter v b)) c
pending-due (noted (got_new_view w sender q b) ∷ c) = due-step (noted (got_new_view w sender q b)) c
pending-due (noted (got_request r) ∷ c) = due-step (noted (got_request r)) c
pending-due (noted (got_fetch sender b) ∷ c) = due-step (noted (got_fetch sender b)) c
pending-due (noted timed_out ∷ c) = due-step (noted timed_out) c
pending-due (noted beat ∷ c) = due-step (noted beat) c
pending-due (noted (pruned height) ∷ c) = due-step (noted (pruned height)) c
pending-due (noted (seen_view w sender) ∷ c) = due-step (noted (seen_view w sender)) c
pending-due (took_block a ∷ c) = due-step (took_block a) c

pub not-less : (n : ℕ) → nat_lt n n ≡ false
not-less n = grind arith

-- a timeout moves the view alone
timed-out : (self : Identity) (c : Chronicle) → OnlyViewMoved self c (noted timed_out ∷ c)
unfolding taken_blocks voted_blocks horizon votes qc_high leaf pending raised history executed decided
timed-out self c = record {
  taken = refl;
  voted = refl;
  forgotten = refl;
  kept = λ b. refl;
  certified = refl;
  leaf_is = cond-false _ _ _ (not-less (length (qc_high self.sizes c).block));
  waiting = pending-due c;
}

-- another one moves nothing else either
pub moved-trans : (self : Identity) (a b c : Chronicle) → OnlyViewMoved self a b → OnlyViewMoved self b c
    → OnlyViewMoved self a c
moved-trans self a b c h k = record {
  taken = k.taken ∙ h.taken;
  voted = k.voted ∙ h.voted;
  forgotten = k.forgotten ∙ h.forgotten;
  kept = λ x. k.kept x ∙ h.kept x;
  certified = k.certified ∙ h.certified;
  leaf_is = k.leaf_is ∙ h.leaf_is;
  waiting = k.waiting ∙ h.waiting;
}

pub not-moved : (self : Identity) (c : Chronicle) → OnlyViewMoved self c c
not-moved self c = record {
  taken = refl;
  voted = refl;
  forgotten = refl;
  kept = λ x. refl;
  certified = refl;
  leaf_is = refl;
  waiting = refl;
}

-- ---- a replica that waits

-- it goes on, its view rose to no more than v, and nothing else changed
record HasWaited (self : Identity) (v : ℕ) (before now : Replica) : Type 0 where
  going_on : now.standing ≡ running
  moved : OnlyViewMoved self before.chronicle now.chronicle
  rose : view self.sizes before.chronicle ≤ view self.sizes now.chronicle
  low : view self.sizes now.chronicle ≤ v

-- its timeout
abbrev timed : Replica → Replica
timed x = record { chronicle = noted timed_out ∷ x.chronicle; standing = running }

timed-view : (s : Sizes) (x : Replica) → view s x.chronicle < 2 ^ 64 - 1
    → view s (timed x).chronicle ≡ suc (view s x.chronicle)
unfolding view
timed-view s x h = omega (arith, h)

has-timed : (self : Identity) (v : ℕ) (x : Replica) → view self.sizes x.chronicle < v → v < 2 ^ 64
    → HasWaited self v x (timed x)
has-timed self v x h l =
    let e = timed-view self.sizes x (omega (arith, h, l)) in
    record {
      going_on = refl;
      moved = timed-out self x.chronicle;
      rose = omega (arith, e);
      low = omega (arith, e, h);
    }

has-not : (self : Identity) (v : ℕ) (x : Replica) → x.standing ≡ running → view self.sizes x.chronicle ≤ v
    → HasWaited self v x x
has-not self v x s l =
    record { going_on = s; moved = not-moved self x.chronicle; rose = omega arith; low = l }

waited-trans : (self : Identity) (v : ℕ) (x y z : Replica) → HasWaited self v x y → HasWaited self v y z
    → HasWaited self v x z
waited-trans self v x y z h k = record {
  going_on = k.going_on;
  moved = moved-trans self x.chronicle y.chronicle z.chronicle h.moved k.moved;
  rose = let a = h.rose in let b = k.rose in omega (arith, a, b);
  low = k.low;
}

-- ---- a world whose correct replicas wait

record AllWaited (v : ℕ) (w last : World) : Type 0 where
  made : IsMadeAs w last
  session : last.session ≡ w.session
  each : OfCorrect w (λ r. HasWaited (self_of w r) v (w.replica r) (last.replica r))

-- all go on, in views no higher than v
record MayWait (v : ℕ) (w : World) : Type 0 where
  going_on : AllGoOn w
  low : OfCorrect w (λ r. view_of w r ≤ v)

waited-none : (v : ℕ) (w : World) → MayWait v w → AllWaited v w w
waited-none v w m = record {
  made = record { sizes = refl; faulty = refl; ring = refl };
  session = refl;
  each = λ r c. has-not (self_of w r) v (w.replica r) (m.going_on r c) (m.low r c);
}

-- what was so of the first world's identities is so of the next one's
each-in : (v : ℕ) (w mid last : World) → IsMadeAs w mid
    → OfCorrect mid (λ r. HasWaited (self_of mid r) v (mid.replica r) (last.replica r))
    → OfCorrect w (λ r. HasWaited (self_of w r) v (mid.replica r) (last.replica r))
each-in v w mid last m h = λ r c.
    subst (λ (self : Identity). HasWaited self v (mid.replica r) (last.replica r)) (same-self w mid m r)
    (h r (same-correct w mid m r ∙ c))

waited-both : (v : ℕ) (w mid last : World) → AllWaited v w mid → AllWaited v mid last → AllWaited v w last
waited-both v w mid last h k = record {
  made = record {
    sizes = k.made.sizes ∙ h.made.sizes;
    faulty = k.made.faulty ∙ h.made.faulty;
    ring = k.made.ring ∙ h.made.ring;
  };
  session = k.session ∙ h.session;
  each = λ r c.
      waited-trans (self_of w r) v (w.replica r) (mid.replica r) (last.replica r) (h.each r c)
      (each-in v w mid last h.made k.each r c);
}

-- they may wait on
waits-on : (v : ℕ) (w mid : World) → AllWaited v w mid → MayWait v mid
waits-on v w mid h = record {
  going_on = λ r c. (h.each r (sym (same-correct w mid h.made r) ∙ c)).going_on;
  low = λ r c.
      subst (λ (s : Sizes). view s (chronicle_of mid r) ≤ v) (sym h.made.sizes)
      (h.each r (sym (same-correct w mid h.made r) ∙ c)).low;
}

-- ---- the events

-- a timeout of a correct replica that goes on
timeout-happens : (w : World) (r : ℕ) → is_correct w r ≡ true → (w.replica r).standing ≡ running
    → (happens w (timeout r, ample)).replica ≡ put r (timed (w.replica r)) w.replica
unfolding happens acts stepped ruling on_ruling on_step conflicts party_of
timeout-happens w r c s =
    ap (λ (e : Effect). e.replica) (effect-correct w (timeout r, ample) (member-faulty w r c))
    ∙ ap (λ (x : Replica × _). put r x.0 w.replica) (step-running (self_of w r) ample timeout_in (w.replica r) s)

timeout-session : (w : World) (r : ℕ) → is_correct w r ≡ true
    → (happens w (timeout r, ample)).session ≡ w.session
unfolding happens acts stepped party_of
timeout-session w r c =
    ap (λ (e : Effect). e.session) (effect-correct w (timeout r, ample) (member-faulty w r c))

timeout-passes : (w : World) (r : ℕ) → is_correct w r ≡ true → refusal w (timeout r) ≡ None
timeout-passes w r c = named w (timeout r) (and_parts _ _ c).0 refl refl

timeout-waits : (v : ℕ) (w : World) (r : ℕ) → MayWait v w → is_correct w r ≡ true → view_of w r < v → v < 2 ^ 64
    → AllWaited v w (happens w (timeout r, ample))
unfolding after
timeout-waits v w r m c h l = record {
  made = made-after w ((timeout r, ample) ∷ []);
  session = timeout-session w r c;
  each = λ j d.
      subst (λ (row : ℕ → Replica). HasWaited (self_of w j) v (w.replica j) (row j))
      (sym (timeout-happens w r c (m.going_on r c)))
      (cond_both (j == r) (timed (w.replica r)) (w.replica j) (HasWaited (self_of w j) v (w.replica j))
      (λ e. subst (λ (i : ℕ). HasWaited (self_of w j) v (w.replica j) (timed (w.replica i))) (eqb-true j r e)
      (has-timed (self_of w j) v (w.replica j)
      (subst (λ (i : ℕ). view_of w i < v) (sym (eqb-true j r e)) h) l))
      (λ e. has-not (self_of w j) v (w.replica j) (m.going_on j d) (m.low j d)));
}

-- it moved the view by one
timeout-view : (w : World) (r : ℕ) → is_correct w r ≡ true → (w.replica r).standing ≡ running
    → view_of w r < 2 ^ 64 - 1
    → view w.sizes (chronicle_of (happens w (timeout r, ample)) r) ≡ suc (view_of w r)
timeout-view w r c s h =
    ap (λ (row : ℕ → Replica). view w.sizes (row r).chronicle) (timeout-happens w r c s)
    ∙ (ap (λ (x : Replica). view w.sizes x.chronicle)
    (cond-true (r == r) (timed (w.replica r)) (w.replica r) (eq-eqb r r refl))
    ∙ timed-view w.sizes (w.replica r) h)

-- the view by the sizes of another world that was made so
view-in : (w last : World) (r : ℕ) → IsMadeAs w last → view_of last r ≡ view w.sizes (chronicle_of last r)
view-in w last r m = ap (λ (s : Sizes). view s (chronicle_of last r)) m.sizes

-- so many timeouts of it
timeouts-wait : (n v : ℕ) (w : World) (r : ℕ) → MayWait v w → is_correct w r ≡ true → view_of w r + n ≤ v
    → v < 2 ^ 64
    → Passes w (amply (timeouts r n)) × AllWaited v w (after w (amply (timeouts r n)))
    × (view w.sizes (chronicle_of (after w (amply (timeouts r n))) r) ≡ view_of w r + n)
unfolding timeouts after
timeouts-wait zero v w r m c h l = (passes-none w, waited-none v w m, omega arith)
timeouts-wait (suc n) v w r m c h l =
    let one : World = happens w (timeout r, ample) in
    let last : World = after one (amply (timeouts r n)) in
    let a = timeout-waits v w r m c (omega (arith, h)) l in
    let e = timeout-view w r c (m.going_on r c) (omega (arith, h, l)) in
    let i = view-in w one r a.made in
    let rest = timeouts-wait n v one r (waits-on v w one a) (same-correct w one a.made r ∙ c)
    (omega (arith, h, e, i)) l in
    let j : view one.sizes (chronicle_of last r) ≡ view w.sizes (chronicle_of last r) =
    ap (λ (s : Sizes). view s (chronicle_of last r)) a.made.sizes in (
      passes-one w (timeout r, ample) (amply (timeouts r n)) (timeout-passes w r c) rest.0,
      waited-both v w one last a rest.1,
      omega (arith, rest.2, e, i, j),
    )

-- ---- all of them

-- what a phase leaves
record HaveWaited (v : ℕ) (w : World) (hs : List Happening) (rs : List ℕ) : Type 0 where
  passes : Passes w hs
  waited : AllWaited v w (after w hs)
  there : (r : ℕ) → Among r rs → is_correct w r ≡ true → view w.sizes (chronicle_of (after w hs) r) ≡ v

one-waits : (v : ℕ) (w : World) (r : ℕ) → MayWait v w → is_correct w r ≡ true → v < 2 ^ 64
    → HaveWaited v w (waits_until v r w) (r ∷ [])
one-waits v w r m c l =
    let low = m.low r c in
    let h = timeouts-wait (v - view_of w r) v w r m c (omega (arith, low)) l in
    record {
      passes = h.0;
      waited = h.1;
      there = λ j n d. elim n [
        | inl e ↦ subst (λ (i : ℕ). view w.sizes (chronicle_of (after w (waits_until v r w)) i) ≡ v) (sym e)
            (omega (arith, h.2, low))
        | inr k ↦ absurd k
      ];
    }

-- one phase after the other
both-wait : (v : ℕ) (w : World) (xs ys : List Happening) (r : ℕ) (rs : List ℕ)
    → HaveWaited v w xs (r ∷ []) → HaveWaited v (after w xs) ys rs → HaveWaited v w (xs ++ ys) (r ∷ rs)
both-wait v w xs ys r rs h k =
    let mid : World = after w xs in
    let same = after-append w xs ys in
    let all = waited-both v w mid (after mid ys) h.waited k.waited in
    record {
      passes = passes-append w xs ys h.passes k.passes;
      waited = subst (AllWaited v w) (sym same) all;
      there = λ j n d. subst (λ (z : World). view w.sizes (chronicle_of z j) ≡ v) (sym same) (elim n [
        | inl e ↦
            let step = each-in v w mid (after mid ys) h.waited.made k.waited.each j d in
            let here = h.there j (inl e) d in
            let up = step.rose in
            let low = step.low in
            omega (arith, here, up, low)
        | inr m ↦ sym (ap (λ (s : Sizes). view s (chronicle_of (after mid ys) j)) h.waited.made.sizes)
            ∙ k.there j m (same-correct w mid h.waited.made j ∙ d)
      ]);
    }

list-waits : (v : ℕ) (rs : List ℕ) (w : World) → MayWait v w
    → ((r : ℕ) → Among r rs → is_correct w r ≡ true) → v < 2 ^ 64
    → HaveWaited v w (in_turn (map (waits_until v) rs) w) rs
unfolding in_turn
list-waits v [] w m c l =
    record { passes = passes-none w; waited = waited-nothing; there = λ r n d. absurd n }
  where
    waited-nothing : AllWaited v w (after w [])
    waited-nothing = subst (AllWaited v w) (sym (after-none w)) (waited-none v w m)
list-waits v (r ∷ rs) w m c l =
    let h = one-waits v w r m (c r (inl refl)) l in
    let mid : World = after w (waits_until v r w) in
    both-wait v w (waits_until v r w) (in_turn (map (waits_until v) rs) mid) r rs h
    (list-waits v rs mid (waits-on v w mid h.waited)
    (λ j n. same-correct w mid h.waited.made j ∙ c j (inr n)) l)

came-to : (v : ℕ) (w : World) → MayWait v w → v < 2 ^ 64 → CameTo v w (after w (come_to v w))
unfolding come_to
came-to v w m l =
    let last : World = after w (come_to v w) in
    let h = list-waits v (correct_replicas w) w m (among-correct w (replicas w.sizes)) l in
    let made = h.waited.made in
    let was : (r : ℕ) → is_correct last r ≡ true → is_correct w r ≡ true =
    λ r c. sym (same-correct w last made r) ∙ c in
    record {
      ran = h.passes;
      going_on = λ r c. (h.waited.each r (was r c)).going_on;
      views = λ r c. view-in w last r made ∙ h.there r (correct-listed w r (was r c)) (was r c);
      rest = λ r c. (h.waited.each r (was r c)).moved;
      session = h.waited.session;
    }

pub timeouts-bring-together : TimeoutsBringTogether
timeouts-bring-together w v g l low = came-to v w (record { going_on = g; low = low }) l

-- ---- a view that a correct replica leads

-- a highest view is no lower than any of them
highest-view-above : (w : World) (rs : List ℕ) (r : ℕ) → Among r rs → view_of w r ≤ highest_view w rs
unfolding highest_view
highest-view-above w [] r m = absurd m
highest-view-above w (s ∷ rs) r (inl e) =
    let k = ap (λ (z : ℕ). view_of w z) e in omega (arith, k)
highest-view-above w (s ∷ rs) r (inr m) = let h = highest-view-above w rs r m in omega (arith, h)

-- and below what all are below
highest-view-below : (w : World) (rs : List ℕ) (k n : ℕ) → k < n
    → ((r : ℕ) → Among r rs → view_of w r + k < n) → highest_view w rs + k < n
unfolding highest_view
highest-view-below w [] k n l h = omega (arith, l)
highest-view-below w (r ∷ rs) k n l h =
    let rest = highest-view-below w rs k n l (λ s m. h s (inr m)) in
    let here = h r (inl refl) in
    omega (arith, rest, here)

-- the first view from v on that a replica leads
led-next : (n l v : ℕ) → l < n → (next_led n l v % n ≡ l) × (v ≤ next_led n l v) × (next_led n l v < v + n)
led-next n l v h =
    let few = mod-lt v {m = n} (omega (arith, h)) in
    let small = mod-lt (l + (n - v % n)) {m = n} (omega (arith, h)) in
    let parts = mod-add-div v n in
    let sum : v + (l + (n - v % n)) ≡ (l + n * 1) + n * (v / n) = omega (arith, few, parts) in (
      add-mod-mod v (l + (n - v % n)) n
          ∙ (ap (λ (x : ℕ). x % n) sum
          ∙ (add-mul-mod_self_left (l + n * 1) n (v / n) ∙ (add-mul-mod_self_left l n 1 ∙ mod-eq_of_lt h))),
      omega arith,
      omega (arith, small),
    )

pub leader-comes : ACorrectLeaderComes
leader-comes w l c g views =
    let n : ℕ = replicas w.sizes in
    let h : ℕ = highest_view w (correct_replicas w) in
    let next = led-next n l (suc h) (ltb-true l n (and_parts _ _ c).0) in
    let own = views l c in
    let top = highest-view-below w (correct_replicas w) n (2 ^ 64) (omega (arith, own))
    (λ r m. views r (among-correct w n r m)) in (
      next.0,
      came-to (view_to_come l w) w (record {
        going_on = g;
        low = λ r d. (let k = highest-view-above w (correct_replicas w) r (correct-listed w r d) in
            let up = next.1 in omega (arith, k, up));
      }) (let low = next.2 in omega (arith, top, low)),
    )
