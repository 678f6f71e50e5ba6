-- Schedules in which recorded frames alone come, each to whom it was sent.
use Rattle.std.proofs.Common.{ℕ, zero, suc, ◌+◌, ◌≡◌, Bool, true, false, cond, List, [], ◌∷◌, ◌++◌, map, drop, arith}
use Rattle.std.proofs.Common.{refl, subst, Some, None, slice_get, inl, inr}
use Rattle.std.specs.Bool.{⊤}
use Rattle.std.specs.List.{AllByRecursion}
use Rattle.ids.specs.Sizes.{Sizes}
use Rattle.definitions.specs.Lists.{Among}
use Rattle.definitions.specs.Frames.{Frame}
use Rattle.definitions.specs.Premises.{IsFor, AllRead, NoForgery}
use Rattle.definitions.specs.Replicas.{MemorySupply.ample}
use Rattle.definitions.specs.Worlds.{World, Sent, Event, Event.submit, Event.relay, Event.inject, Event.timeout}
use Rattle.definitions.specs.Worlds.{Event.beat, Event.prune, Event.offer, Event.gather, Event.lead, Event.ask, Source}
use Rattle.definitions.specs.Worlds.{Source.of_record, Source.of_bytes, Happening, is_replica}
use Rattle.definitions.specs.Events.{happens}
use Rattle.definitions.specs.Runs.{after}
use Rattle.definitions.proofs.Certificates.{all-implied}
use Rattle.linear_law.specs.Law.{IsDeliveredFrom, IsDelivered}
use Rattle.linear_law.proofs.Deliveries.{IsPassedOn, NamesReplica, happens-passed, brings-passed, no-forgery}
use Rattle.linear_law.proofs.Deliveries.{delivered-read}
use Rattle.linear_law.proofs.WholeRuns.{slice_get-among}
use Rattle.recovery.specs.Correct.{amply}
use Rattle.recovery.specs.Healing.{numbers_of, sent_since, comes_to, receivers, delivered, delivered_since, offered_to}
use Rattle.recovery.proofs.Fetched.{all-both}
use Rattle.recovery.proofs.Offers.{sent-later}

-- ---- what comes to whom it was sent

abbrev pub IsHanded : World → Event → Type 0
IsHanded w e = IsDelivered w e × NamesReplica w e

abbrev pub AllHanded : World → List Happening → Type 0
AllHanded w [] = ⊤
AllHanded w (h ∷ hs) = IsHanded w h.0 × AllHanded (happens w h) hs

-- one schedule after the other
pub handed-both : (w : World) (xs ys : List Happening) → AllHanded w xs → AllHanded (after w xs) ys
    → AllHanded w (xs ++ ys)
unfolding after
handed-both w [] ys a b = b
handed-both w (x ∷ xs) ys a b = (a.0, handed-both (happens w x) xs ys a.1 b)

one-passed : (w : World) (x : Happening) → IsPassedOn w → IsHanded w x.0 → IsPassedOn (happens w x)
one-passed w x a h = happens-passed w x.0 x.1 a (λ f b. brings-passed w x.0 f a h.0 b) h.1

-- it passes on what holds, forges nothing, and nothing of it is read
pub handed-passed : (w : World) (hs : List Happening) → IsPassedOn w → AllHanded w hs → IsPassedOn (after w hs)
unfolding after
handed-passed w [] a h = a
handed-passed w (x ∷ hs) a h = handed-passed (happens w x) hs (one-passed w x a h.0) h.1

pub handed-forges : (w : World) (hs : List Happening) → IsPassedOn w → AllHanded w hs → NoForgery w hs
handed-forges w [] a h = tt
handed-forges w (x ∷ hs) a h =
    (no-forgery w x.0 a h.0.0, handed-forges (happens w x) hs (one-passed w x a h.0) h.1)

pub handed-read : (sizes : Sizes) (w : World) (hs : List Happening) → AllHanded w hs → AllRead sizes hs
handed-read sizes w [] h = tt
handed-read sizes w (x ∷ hs) h = (delivered-read sizes w x.0 h.0.0, handed-read sizes (happens w x) hs h.1)

-- ---- events that may come at any time from now on

-- frame k stands in the record, and is one for this party
abbrev pub IsThere : World → ℕ → ℕ → Type 0
IsThere w k p = (s : Sent) × (slice_get w.sent k ≡ Some s) × IsFor p s.to s.frame

abbrev pub SourceIsThere : World → ℕ → Source → Type 0
SourceIsThere w p (of_record k) = IsThere w k p
SourceIsThere w p (of_bytes bytes read) = ⊥

abbrev pub MayCome : World → Event → Type 0
MayCome w (submit c payload) = ⊤
MayCome w (relay k to) = IsThere w k to
MayCome w (inject to bytes read) = ⊥
MayCome w (timeout r) = is_replica w r ≡ true
MayCome w (beat r) = is_replica w r ≡ true
MayCome w (prune r height) = is_replica w r ≡ true
MayCome w (offer to source) = (is_replica w to ≡ true) × SourceIsThere w to source
MayCome w (gather to sources) = (is_replica w to ≡ true) × AllByRecursion (SourceIsThere w to) sources
MayCome w (lead r d) = is_replica w r ≡ true
MayCome w (ask r to d) = is_replica w r ≡ true

-- it may
source-now : (w : World) (p : ℕ) (s : Source) → SourceIsThere w p s → IsDeliveredFrom w p s
source-now w p (of_record k) h = λ t e.
    let i = h.1 in
    let is : h.0 ≡ t = cc in
    subst (λ (z : Sent). IsFor p z.to z.frame) is h.2
source-now w p (of_bytes bytes read) h = absurd h

handed-now : (w : World) (e : Event) → MayCome w e → IsHanded w e
handed-now w (submit c payload) h = (tt, tt)
handed-now w (relay k to) h = (source-now w to (of_record k) h, tt)
handed-now w (inject to bytes read) h = absurd h
handed-now w (timeout r) h = (tt, h)
handed-now w (beat r) h = (tt, h)
handed-now w (prune r height) h = (tt, h)
handed-now w (offer to source) h = (source-now w to source h.1, h.0)
handed-now w (gather to sources) h =
    (all-implied (SourceIsThere w to) (IsDeliveredFrom w to) (source-now w to) sources h.1, h.0)
handed-now w (lead r d) h = (tt, h)
handed-now w (ask r to d) h = (tt, h)

-- and after any event
there-later : (w : World) (h : Happening) (k p : ℕ) → IsThere w k p → IsThere (happens w h) k p
unfolding happens
there-later w h k p t = (t.0, sent-later w.sent _ k t.0 t.1, t.2)

source-later : (w : World) (h : Happening) (p : ℕ) (s : Source) → SourceIsThere w p s
    → SourceIsThere (happens w h) p s
source-later w h p (of_record k) t = there-later w h k p t
source-later w h p (of_bytes bytes read) t = absurd t

comes-later : (w : World) (h : Happening) (e : Event) → MayCome w e → MayCome (happens w h) e
unfolding happens
comes-later w h (submit c payload) m = tt
comes-later w h (relay k to) m = there-later w h k to m
comes-later w h (inject to bytes read) m = absurd m
comes-later w h (timeout r) m = m
comes-later w h (beat r) m = m
comes-later w h (prune r height) m = m
comes-later w h (offer to source) m = (m.0, source-later w h to source m.1)
comes-later w h (gather to sources) m =
    (m.0, all-implied (SourceIsThere w to) (SourceIsThere (happens w h) to) (source-later w h to) sources m.1)
comes-later w h (lead r d) m = m
comes-later w h (ask r to d) m = m

-- so such events come one after the other
pub all-come : (w : World) (es : List Event) → AllByRecursion (MayCome w) es → AllHanded w (amply es)
all-come w [] a = tt
all-come w (e ∷ es) a = (
  handed-now w e a.0,
  all-come (happens w (e, ample)) es
      (all-implied (MayCome w) (MayCome (happens w (e, ample))) (comes-later w (e, ample)) es a.1),
)

-- ---- frames by number

-- what holds of the frames that pass holds of their numbers
numbers-hold : (p : Frame → Bool) (P : ℕ → Type 0) (k : ℕ) (ys : List Sent)
    → ((i : ℕ) (s : Sent) → slice_get ys i ≡ Some s → p s.frame ≡ true → P (k + i)) → AllByRecursion P (numbers_of p k ys)
unfolding numbers_of
numbers-hold p P k [] h = tt
numbers-hold p P k (s ∷ ys) h =
    by (p s.frame) refl (numbers-hold p P (suc k) ys (λ i t e o.
    let n : k + suc i ≡ suc k + i = omega arith in subst P n (h (suc i) t e o)))
  where
    by : (t : Bool) → p s.frame ≡ t → AllByRecursion P (numbers_of p (suc k) ys)
        → AllByRecursion P (cond t (k ∷ numbers_of p (suc k) ys) (numbers_of p (suc k) ys))
    by true o rest = (let n : k + 0 ≡ k = omega arith in subst P n (h 0 s refl o), rest)
    by false o rest = rest

-- so it is of deliveries
delivered-hold : (p : Frame → Bool) (P : Event → Type 0) (w : World) (k : ℕ) (ys : List Sent)
    → ((i : ℕ) (s : Sent) (q : ℕ) → slice_get ys i ≡ Some s → p s.frame ≡ true → Among q (receivers w s.to)
    → P (relay (k + i) q)) → AllByRecursion P (delivered p w k ys)
unfolding delivered comes_to
delivered-hold p P w k [] h = tt
delivered-hold p P w k (s ∷ ys) h =
    by (p s.frame) refl (delivered-hold p P w (suc k) ys (λ i t q e o m.
    let n : k + suc i ≡ suc k + i = omega arith in subst (λ (j : ℕ). P (relay j q)) n (h (suc i) t q e o m)))
  where
    each : (qs : List ℕ) → ((q : ℕ) → Among q qs → P (relay k q)) → AllByRecursion P (comes_to qs (k ∷ []))
    each [] g = tt
    each (q ∷ qs) g = (g q (inl refl), each qs (λ j m. g j (inr m)))

    by : (t : Bool) → p s.frame ≡ t → AllByRecursion P (delivered p w (suc k) ys)
        → AllByRecursion P (cond t (comes_to (receivers w s.to) (k ∷ []) ++ delivered p w (suc k) ys)
        (delivered p w (suc k) ys))
    by true o rest =
        all-both P (comes_to (receivers w s.to) (k ∷ [])) (delivered p w (suc k) ys)
        (each (receivers w s.to) (λ q m. let n : k + 0 ≡ k = omega arith in
        subst (λ (j : ℕ). P (relay j q)) n (h 0 s q refl o m))) rest
    by false o rest = rest

-- frames behind others
dropped : (xs : List Sent) (k i : ℕ) (s : Sent) → slice_get (drop k xs) i ≡ Some s → slice_get xs (k + i) ≡ Some s
dropped xs zero i s e = let n : i ≡ zero + i = omega arith in subst (λ (j : ℕ). slice_get xs j ≡ Some s) n e
dropped [] (suc k) i s e = absurd (none e)
  where
    none : None ≡ Some s → ⊥
    none h = cc
dropped (x ∷ xs) (suc k) i s e =
    let n : suc (k + i) ≡ suc k + i = omega arith in
    subst (λ (j : ℕ). slice_get (x ∷ xs) j ≡ Some s) n (dropped xs k i s e)

-- those that were sent since the record had so many
pub since-hold : (before : ℕ) (p : Frame → Bool) (w : World) (P : ℕ → Type 0)
    → ((k : ℕ) (s : Sent) → slice_get w.sent k ≡ Some s → Among s (drop before w.sent) → p s.frame ≡ true → P k)
    → AllByRecursion P (sent_since before p w)
since-hold before p w P h =
    numbers-hold p P before (drop before w.sent) (λ i s e o.
    h (before + i) s (dropped w.sent before i s e) (slice_get-among (drop before w.sent) i s e) o)

pub deliveries-hold : (before : ℕ) (p : Frame → Bool) (w : World) (P : Event → Type 0)
    → ((k : ℕ) (s : Sent) (q : ℕ) → slice_get w.sent k ≡ Some s → Among s (drop before w.sent) → p s.frame ≡ true
    → Among q (receivers w s.to) → P (relay k q)) → AllByRecursion P (delivered_since before p w)
deliveries-hold before p w P h =
    delivered-hold p P w before (drop before w.sent) (λ i s q e o m.
    h (before + i) s q (dropped w.sent before i s e) (slice_get-among (drop before w.sent) i s e) o m)

-- ---- lists of events

relays-come : (w : World) (p : ℕ) (ks : List ℕ) → AllByRecursion (λ k. IsThere w k p) ks
    → AllByRecursion (MayCome w) (map (λ k. relay k p) ks)
relays-come w p [] h = tt
relays-come w p (k ∷ ks) h = (h.0, relays-come w p ks h.1)

pub comes-come : (w : World) (ps ks : List ℕ) → ((p : ℕ) → AllByRecursion (λ k. IsThere w k p) ks)
    → AllByRecursion (MayCome w) (comes_to ps ks)
unfolding comes_to
comes-come w [] ks h = tt
comes-come w (p ∷ ps) ks h =
    all-both (MayCome w) (map (λ k. relay k p) ks) (comes_to ps ks) (relays-come w p ks (h p)) (comes-come w ps ks h)

offers-come : (w : World) (r : ℕ) (ks : List ℕ) → is_replica w r ≡ true → AllByRecursion (λ k. IsThere w k r) ks
    → AllByRecursion (MayCome w) (map (λ k. offer r (of_record k)) ks)
offers-come w r [] c h = tt
offers-come w r (k ∷ ks) c h = ((c, h.0), offers-come w r ks c h.1)

pub offered-come : (w : World) (rs ks : List ℕ) → ((r : ℕ) → Among r rs → is_replica w r ≡ true)
    → ((r : ℕ) → AllByRecursion (λ k. IsThere w k r) ks) → AllByRecursion (MayCome w) (offered_to rs ks)
unfolding offered_to
offered-come w [] ks c h = tt
offered-come w (r ∷ rs) ks c h =
    all-both (MayCome w) (map (λ k. offer r (of_record k)) ks) (offered_to rs ks)
    (offers-come w r ks (c r (inl refl)) (h r)) (offered-come w rs ks (λ s m. c s (inr m)) h)

pub sources-there : (w : World) (p : ℕ) (ks : List ℕ) → AllByRecursion (λ k. IsThere w k p) ks
    → AllByRecursion (SourceIsThere w p) (map of_record ks)
sources-there w p [] h = tt
sources-there w p (k ∷ ks) h = (h.0, sources-there w p ks h.1)
