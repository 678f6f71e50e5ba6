-- Frames of the record, by their kind and to whom they go.
use Rattle.ids.specs.Numbers.{kind_number}
use Rattle.ids.specs.declared.kind.Kind.{Kind}
use Rattle.ids.specs.declared.kind.Kind.TheVariants as kind
use Rattle.std.specs.Prelude.{slice_index_or}
use Rattle.std.proofs.Common.{ℕ, zero, suc, ◌+◌, ◌-◌, ◌<◌, ◌≤◌, ◌≡◌, ◌==◌, Bool, true, false, cond, List, [], ◌∷◌, ◌++◌, map}
use Rattle.std.proofs.Common.{length, take, drop, length-drop, slice_get, Option, Some, None, sym, ap, subst, ◌∙◌, refl, arith, append_assoc}
use Rattle.std.proofs.lemmas.Bool.{cond-true, cond-false}
use Rattle.std.proofs.lemmas.List.{map-append, length-map, take_more, take_all, length-take-le, get_or-drop}
use Rattle.std.proofs.lemmas.Option.{slice_get_within, get_or_from_slice_get}
use Rattle.definitions.specs.Events.{happens}
use Rattle.definitions.specs.Frames.{Frame, kind_of}
use Rattle.definitions.specs.Frames as frame
use Rattle.definitions.specs.Runs.{after}
use Rattle.definitions.specs.Sendings.{To, To.to_all, To.to_party}
use Rattle.definitions.specs.Worlds.{World, Sent, Event, Event.relay, Happening}
use Rattle.recovery.specs.Correct.{amply}
use Rattle.recovery.specs.Healing.{Phase, numbers_of, is_proposal, is_vote, is_question, is_copy, is_reply, comes_to}
use Rattle.recovery.specs.Healing.{receivers, delivered, delivered_since}
use Rattle.signed_frames.specs.declared.out.To as code
use Rattle.signed_frames.specs.Outs.{to_of}
use Rattle.world_schedule.specs.declared.outcome.SentFrame.{SentFrame}
use Rattle.world_schedule.specs.Outcomes.{Shown, shown_frame, shown_sent}
use Rattle.healer.specs.Courses.{Course, Goes, GoesWhere, Told, AreCorrect}
use Rattle.healer.specs.Records.{is_of, GoesTo}
use Rattle.healer.proofs.Courses.{nothing-behind}
use Rattle.healer.proofs.Members.{same-correct, still-correct}
use Rattle.healer.proofs.Turns.{where-told, where-as, where-too, where-both, where-none}

-- ---- kinds

kinds-at : (f : Frame)
    → (is_of kind.Proposal f ≡ is_proposal f) × (is_of kind.Vote f ≡ is_vote f) × (is_of kind.Fetch f ≡ is_question f)
    × (is_of kind.Block f ≡ is_copy f) × (is_of kind.Reply f ≡ is_reply f)
unfolding is_proposal is_vote is_question is_copy is_reply
kinds-at (frame.proposal v core q t) = (refl, refl, refl, refl, refl)
kinds-at (frame.vote d b) = (refl, refl, refl, refl, refl)
kinds-at (frame.new_view v r q t) = (refl, refl, refl, refl, refl)
kinds-at (frame.request c) = (refl, refl, refl, refl, refl)
kinds-at (frame.block r core q t) = (refl, refl, refl, refl, refl)
kinds-at (frame.fetch r d t) = (refl, refl, refl, refl, refl)
kinds-at (frame.reply r c q x t g) = (refl, refl, refl, refl, refl)

pub proposals : is_of kind.Proposal ≡ is_proposal
proposals = λ i. λ f. (kinds-at f).0 i

pub votes : is_of kind.Vote ≡ is_vote
votes = λ i. λ f. (kinds-at f).1 i

pub questions : is_of kind.Fetch ≡ is_question
questions = λ i. λ f. (kinds-at f).2 i

pub copies : is_of kind.Block ≡ is_copy
copies = λ i. λ f. (kinds-at f).3 i

pub replies : is_of kind.Reply ≡ is_reply
replies = λ i. λ f. (kinds-at f).4 i

-- ---- a frame as it is told

-- what is told of a frame of the record is what stands there
pub shown-at : (fs : List SentFrame) (ss : List Sent) (n : ℕ) (d : SentFrame) → map shown_frame fs ≡ map shown_sent ss
    → n < length fs → (s : Sent) × (slice_get ss n ≡ Some s) × (shown_frame (slice_index_or fs n d) ≡ shown_sent s)
shown-at [] ss n d e l = absurd (omega (arith, l))
shown-at (f ∷ fs) [] n d e l = absurd (none e)
  where
    none : shown_frame f ∷ map shown_frame fs ≡ [] → ⊥
    none h = cc
shown-at (f ∷ fs) (s ∷ ss) zero d e l =
    (s, refl, ap (λ (xs : List Shown). slice_index_or xs 0 (shown_frame f)) e)
shown-at (f ∷ fs) (s ∷ ss) (suc n) d e l = shown-at fs ss n d (ap (drop 1) e) (omega (arith, l))

pub kind-shown : (f : SentFrame) (s : Sent) (k : Kind) (t : Bool) → shown_frame f ≡ shown_sent s
    → (kind_number f.kind == kind_number k) ≡ t → is_of k s.frame ≡ t
kind-shown f s k t e h = sym (ap (λ (x : Shown). kind_number x.1.1 == kind_number k) e) ∙ h

-- the frame at a place
pub frame-at : (fs : List SentFrame) (ss : List Sent) (n : ℕ) (f : SentFrame) → map shown_frame fs ≡ map shown_sent ss
    → n < length fs → f ≡ slice_index_or fs n f
    → (s : Sent) × (slice_get ss n ≡ Some s) × (shown_frame f ≡ shown_sent s)
frame-at fs ss n f e l at =
    let a = shown-at fs ss n f e l in (a.0, a.1, ap (λ (x : SentFrame). shown_frame x) at ∙ a.2)

pub as-many : (fs : List SentFrame) (ss : List Sent) → map shown_frame fs ≡ map shown_sent ss → length fs ≡ length ss
as-many fs ss e =
    sym (length-map fs shown_frame) ∙ (ap (λ (l : List Shown). length l) e ∙ length-map ss shown_sent)

-- to whom it goes
pub goes-nowhere : (fs : List SentFrame) (ss : List Sent) (n : ℕ) (f : SentFrame) (k : Kind)
    → map shown_frame fs ≡ map shown_sent ss → n < length fs → f ≡ slice_index_or fs n f
    → (kind_number f.kind == kind_number k) ≡ false → (s : Sent) × (slice_get ss n ≡ Some s) × GoesTo k s None
goes-nowhere fs ss n f k e l at t =
    let a = frame-at fs ss n f e l at in (a.0, a.1, kind-shown f a.0 k false a.2 t)

pub goes-there : (fs : List SentFrame) (ss : List Sent) (n : ℕ) (f : SentFrame) (k : Kind)
    → map shown_frame fs ≡ map shown_sent ss → n < length fs → f ≡ slice_index_or fs n f
    → (kind_number f.kind == kind_number k) ≡ true → (s : Sent) × (slice_get ss n ≡ Some s) × GoesTo k s (Some f.to)
goes-there fs ss n f k e l at t =
    let a = frame-at fs ss n f e l at in
    (a.0, a.1, (kind-shown f a.0 k true a.2 t, ap (λ (x : Shown). x.1.0) a.2))

-- ---- rows from a place on

take-one : (xs : List Sent) (n : ℕ) (s : Sent) → slice_get xs n ≡ Some s → take 1 (drop n xs) ≡ s ∷ []
take-one xs n s h =
    let l : n < length xs = slice_get_within xs n s h in
    let d = length-drop n xs in
    take_more (drop n xs) 0 s (omega (arith, l, d))
    ∙ ap (λ (x : Sent). x ∷ []) (get_or-drop n xs 0 s ∙ (ap (λ (k : ℕ). slice_index_or xs k s) (omega arith)
    ∙ get_or_from_slice_get xs n s s h))

-- one more
take-further : (xs : List Sent) (b n : ℕ) (s : Sent) → b ≤ n → slice_get xs n ≡ Some s
    → take ((n + 1) - b) (drop b xs) ≡ take (n - b) (drop b xs) ++ s ∷ []
take-further xs b n s m h =
    let l : n < length xs = slice_get_within xs n s h in
    let d = length-drop b xs in
    let e : (n + 1) - b ≡ (n - b) + 1 = omega (arith, m) in
    let k : b + (n - b) ≡ n = omega (arith, m) in
    ap (λ (j : ℕ). take j (drop b xs)) e
    ∙ (take_more (drop b xs) (n - b) s (omega (arith, l, d, m))
    ∙ ap (λ (x : Sent). take (n - b) (drop b xs) ++ x ∷ []) (get_or-drop b xs (n - b) s
    ∙ (ap (λ (j : ℕ). slice_index_or xs j s) k ∙ get_or_from_slice_get xs n s s h)))

take-length : (xs : List Sent) (b n : ℕ) (s : Sent) → b ≤ n → slice_get xs n ≡ Some s
    → b + length (take (n - b) (drop b xs)) ≡ n
take-length xs b n s m h =
    let l : n < length xs = slice_get_within xs n s h in
    let d = length-drop b xs in
    let k = length-take-le (n - b) (drop b xs) (omega (arith, l, d, m)) in
    omega (arith, k, m)

-- all of them
take-whole : (xs : List Sent) (b n : ℕ) → length xs ≤ n → take (n - b) (drop b xs) ≡ drop b xs
take-whole xs b n l = let d = length-drop b xs in take_all (n - b) (drop b xs) (omega (arith, l, d))

-- ---- numbers of frames

numbers-behind : (p : Frame → Bool) (xs : List Sent) (s : Sent) (k : ℕ)
    → numbers_of p k (xs ++ s ∷ []) ≡ numbers_of p k xs ++ cond (p s.frame) ((k + length xs) ∷ []) []
unfolding numbers_of
numbers-behind p [] s k = ap (λ (n : ℕ). cond (p s.frame) (n ∷ []) []) (let e : k ≡ k + 0 = omega arith in e)
numbers-behind p (x ∷ xs) s k = by (p x.frame) (numbers-behind p xs s (suc k))
  where
    next : cond (p s.frame) ((suc k + length xs) ∷ []) [] ≡ cond (p s.frame) ((k + suc (length xs)) ∷ []) []
    next = ap (λ (n : ℕ). cond (p s.frame) (n ∷ []) []) (let e : suc k + length xs ≡ k + suc (length xs) = omega arith in e)

    by : (t : Bool)
        → numbers_of p (suc k) (xs ++ s ∷ []) ≡ numbers_of p (suc k) xs ++ cond (p s.frame) ((suc k + length xs) ∷ []) []
        → cond t (k ∷ numbers_of p (suc k) (xs ++ s ∷ [])) (numbers_of p (suc k) (xs ++ s ∷ []))
        ≡ cond t (k ∷ numbers_of p (suc k) xs) (numbers_of p (suc k) xs)
        ++ cond (p s.frame) ((k + suc (length xs)) ∷ []) []
    by true e = ap (λ (l : List ℕ). k ∷ l) (e ∙ ap (λ (l : List ℕ). numbers_of p (suc k) xs ++ l) next)
    by false e = e ∙ ap (λ (l : List ℕ). numbers_of p (suc k) xs ++ l) next

pub numbers-none : (p : Frame → Bool) (b n : ℕ) (ss : List Sent) → n ≡ b → [] ≡ numbers_of p b (take (n - b) (drop b ss))
unfolding numbers_of
numbers-none p b n ss e =
    ap (λ (k : ℕ). numbers_of p b (take k (drop b ss))) (let k : 0 ≡ n - b = omega (arith, e) in k)

numbers-next : (p : Frame → Bool) (ss : List Sent) (b n : ℕ) (s : Sent) (ks : List ℕ) → b ≤ n → slice_get ss n ≡ Some s
    → ks ≡ numbers_of p b (take (n - b) (drop b ss))
    → ks ++ cond (p s.frame) (n ∷ []) [] ≡ numbers_of p b (take ((n + 1) - b) (drop b ss))
numbers-next p ss b n s ks m at h =
    let xs : List Sent = take (n - b) (drop b ss) in
    ap (λ (l : List ℕ). l ++ cond (p s.frame) (n ∷ []) []) h
    ∙ sym (ap (λ (l : List Sent). numbers_of p b l) (take-further ss b n s m at)
    ∙ (numbers-behind p xs s b
    ∙ ap (λ (k : ℕ). numbers_of p b xs ++ cond (p s.frame) (k ∷ []) []) (take-length ss b n s m at)))

-- a frame that is one of them
pub number-taken : (p : Frame → Bool) (ss : List Sent) (b n : ℕ) (s : Sent) (ks : List ℕ) → b ≤ n
    → slice_get ss n ≡ Some s → p s.frame ≡ true → ks ≡ numbers_of p b (take (n - b) (drop b ss))
    → ks ++ n ∷ [] ≡ numbers_of p b (take ((n + 1) - b) (drop b ss))
number-taken p ss b n s ks m at t h =
    ap (λ (l : List ℕ). ks ++ l) (sym (cond-true (p s.frame) (n ∷ []) [] t)) ∙ numbers-next p ss b n s ks m at h

-- and one that isn't
pub number-passed : (p : Frame → Bool) (ss : List Sent) (b n : ℕ) (s : Sent) (ks : List ℕ) → b ≤ n
    → slice_get ss n ≡ Some s → p s.frame ≡ false → ks ≡ numbers_of p b (take (n - b) (drop b ss))
    → ks ≡ numbers_of p b (take ((n + 1) - b) (drop b ss))
number-passed p ss b n s ks m at t h =
    sym (nothing-behind ks) ∙ (ap (λ (l : List ℕ). ks ++ l) (sym (cond-false (p s.frame) (n ∷ []) [] t))
    ∙ numbers-next p ss b n s ks m at h)

pub numbers-all : (p : Frame → Bool) (b n : ℕ) (ss : List Sent) (ks : List ℕ) → length ss ≤ n
    → ks ≡ numbers_of p b (take (n - b) (drop b ss)) → ks ≡ numbers_of p b (drop b ss)
numbers-all p b n ss ks l h = h ∙ ap (λ (xs : List Sent). numbers_of p b xs) (take-whole ss b n l)

-- ---- frames that come to whom they go

delivered-behind : (p : Frame → Bool) (w : World) (xs : List Sent) (s : Sent) (k : ℕ)
    → delivered p w k (xs ++ s ∷ []) ≡ delivered p w k xs ++ delivered p w (k + length xs) (s ∷ [])
unfolding delivered
delivered-behind p w [] s k = ap (λ (n : ℕ). delivered p w n (s ∷ [])) (let e : k ≡ k + 0 = omega arith in e)
delivered-behind p w (x ∷ xs) s k = by (p x.frame) (delivered-behind p w xs s (suc k))
  where
    first : List Event
    first = comes_to (receivers w x.to) (k ∷ [])

    next : delivered p w (suc k + length xs) (s ∷ []) ≡ delivered p w (k + suc (length xs)) (s ∷ [])
    next =
        ap (λ (n : ℕ). delivered p w n (s ∷ [])) (let e : suc k + length xs ≡ k + suc (length xs) = omega arith in e)

    by : (t : Bool)
        → delivered p w (suc k) (xs ++ s ∷ []) ≡ delivered p w (suc k) xs ++ delivered p w (suc k + length xs) (s ∷ [])
        → cond t (first ++ delivered p w (suc k) (xs ++ s ∷ [])) (delivered p w (suc k) (xs ++ s ∷ []))
        ≡ cond t (first ++ delivered p w (suc k) xs) (delivered p w (suc k) xs)
        ++ delivered p w (k + suc (length xs)) (s ∷ [])
    by true e =
        ap (λ (l : List Event). first ++ l) (e ∙ ap (λ (l : List Event). delivered p w (suc k) xs ++ l) next)
        ∙ sym (append_assoc first (delivered p w (suc k) xs) (delivered p w (k + suc (length xs)) (s ∷ [])))
    by false e = e ∙ ap (λ (l : List Event). delivered p w (suc k) xs ++ l) next

-- those of one place
abbrev pub delivered_at : (Frame → Bool) → ℕ → Phase
delivered_at p n w = amply (delivered p w n (take 1 (drop n w.sent)))

-- those of the places below this one
abbrev pub delivered_below : (Frame → Bool) → ℕ → ℕ → Phase
delivered_below p b n w = amply (delivered p w b (take (n - b) (drop b w.sent)))

at-place : (p : Frame → Bool) (n : ℕ) (w : World) (s : Sent) → slice_get w.sent n ≡ Some s
    → delivered_at p n w ≡ amply (delivered p w n (s ∷ []))
at-place p n w s h = ap (λ (xs : List Sent). amply (delivered p w n xs)) (take-one w.sent n s h)

one-delivered : (p : Frame → Bool) (n : ℕ) (w : World) (s : Sent) (t : Bool) → p s.frame ≡ t
    → delivered p w n (s ∷ []) ≡ cond t (comes_to (receivers w s.to) (n ∷ [])) []
unfolding delivered
one-delivered p n w s true h =
    cond-true (p s.frame) _ _ h ∙ nothing-behind (comes_to (receivers w s.to) (n ∷ []))
one-delivered p n w s false h = cond-false (p s.frame) _ _ h

pub delivers-nothing : (p : Frame → Bool) (n : ℕ) (w : World) (s : Sent) → slice_get w.sent n ≡ Some s
    → p s.frame ≡ false → delivered_at p n w ≡ []
delivers-nothing p n w s at h =
    at-place p n w s at ∙ ap (λ (es : List Event). amply es) (one-delivered p n w s false h)

pub delivers-it : (p : Frame → Bool) (n : ℕ) (w : World) (s : Sent) (to : To) → slice_get w.sent n ≡ Some s
    → p s.frame ≡ true → to ≡ s.to → amply (comes_to (receivers w to) (n ∷ [])) ≡ delivered_at p n w
delivers-it p n w s to at h e =
    ap (λ (x : To). amply (comes_to (receivers w x) (n ∷ []))) e
    ∙ sym (at-place p n w s at ∙ ap (λ (es : List Event). amply es) (one-delivered p n w s true h))

-- what comes to whom it goes
pub comes-to-all : (n : ℕ) (rs : List ℕ) (to : To) (a b : Course) → to ≡ to_all
    → Goes a (λ w. amply (comes_to rs (n ∷ []))) b
    → GoesWhere a (AreCorrect rs) (λ w. amply (comes_to (receivers w to) (n ∷ []))) b
unfolding receivers
comes-to-all n rs to a b is g =
    where-as a b (AreCorrect rs) (λ w. amply (comes_to rs (n ∷ [])))
    (λ w. amply (comes_to (receivers w to) (n ∷ [])))
    (λ w c. ap (λ (ps : List ℕ). amply (comes_to ps (n ∷ []))) c
    ∙ ap (λ (x : To). amply (comes_to (receivers w x) (n ∷ []))) (sym is))
    (where-too a b (AreCorrect rs) (λ w. amply (comes_to rs (n ∷ []))) g)

pub comes-to-one : (n p q : ℕ) (rs : List ℕ) (to : To) (a b : Course) → to ≡ to_party q → p ≡ q
    → Goes a (λ w. amply (map (λ k. relay k p) (n ∷ []))) b
    → GoesWhere a (AreCorrect rs) (λ w. amply (comes_to (receivers w to) (n ∷ []))) b
unfolding receivers comes_to
comes-to-one n p q rs to a b is e g =
    where-as a b (AreCorrect rs) (λ w. amply (map (λ k. relay k p) (n ∷ [])))
    (λ w. amply (comes_to (receivers w to) (n ∷ [])))
    (λ w c. ap (λ (x : ℕ). amply (map (λ k. relay k x) (n ∷ []))) e
    ∙ ap (λ (x : To). amply (comes_to (receivers w x) (n ∷ []))) (sym is))
    (where-too a b (AreCorrect rs) (λ w. amply (map (λ k. relay k p) (n ∷ []))) g)

-- it comes to whom it goes, if it is of this kind
pub delivers-none : (k : Kind) (n : ℕ) (rs : List ℕ) (o : Option code.To) (a : Course)
    → Told a (λ w. (s : Sent) × (slice_get w.sent n ≡ Some s) × GoesTo k s o) → o ≡ None
    → GoesWhere a (AreCorrect rs) (delivered_at (is_of k) n) a
delivers-none k n rs o a told e =
    where-told a a (AreCorrect rs) (λ w. []) (delivered_at (is_of k) n)
    (λ hs w t c. let f = told hs w t in
    sym (delivers-nothing (is_of k) n w f.0 f.1 (subst (λ (x : Option code.To). GoesTo k f.0 x) e f.2)))
    (where-none a (AreCorrect rs) (λ w. []) (λ w. refl))

pub delivers-some : (k : Kind) (n : ℕ) (rs : List ℕ) (o : Option code.To) (to : code.To) (a b : Course)
    → Told a (λ w. (s : Sent) × (slice_get w.sent n ≡ Some s) × GoesTo k s o) → o ≡ Some to
    → GoesWhere a (AreCorrect rs) (λ w. amply (comes_to (receivers w (to_of to)) (n ∷ []))) b
    → GoesWhere a (AreCorrect rs) (delivered_at (is_of k) n) b
delivers-some k n rs o to a b told e g =
    where-told a b (AreCorrect rs) (λ w. amply (comes_to (receivers w (to_of to)) (n ∷ []))) (delivered_at (is_of k) n)
    (λ hs w t c. let f = told hs w t in let m = subst (λ (x : Option code.To). GoesTo k f.0 x) e f.2 in
    delivers-it (is_of k) n w f.0 (to_of to) f.1 m.0 m.1) g

-- ---- and all of a kind

there-behind : (xs ys : List Sent) (n : ℕ) (s : Sent) → slice_get xs n ≡ Some s → slice_get (xs ++ ys) n ≡ Some s
there-behind [] ys n s h = let no : ⊥ = cc in absurd no
there-behind (x ∷ xs) ys zero s h = h
there-behind (x ∷ xs) ys (suc n) s h = there-behind xs ys n s h

still-there : (w : World) (hs : List Happening) (n : ℕ) (s : Sent) → slice_get w.sent n ≡ Some s
    → slice_get (after w hs).sent n ≡ Some s
unfolding after happens
still-there w [] n s h = h
still-there w (x ∷ hs) n s h = still-there (happens w x) hs n s (there-behind w.sent _ n s h)

same-receivers : (w : World) (hs : List Happening) (to : To) → receivers (after w hs) to ≡ receivers w to
unfolding receivers
same-receivers w hs to_all = same-correct w hs
same-receivers w hs (to_party p) = refl

same-delivered : (p : Frame → Bool) (w : World) (hs : List Happening) (n : ℕ) (s : Sent) (t : Bool) → p s.frame ≡ t
    → delivered p (after w hs) n (s ∷ []) ≡ delivered p w n (s ∷ [])
same-delivered p w hs n s t h =
    one-delivered p n (after w hs) s t h
    ∙ (ap (λ (ps : List ℕ). cond t (comes_to ps (n ∷ [])) []) (same-receivers w hs s.to)
    ∙ sym (one-delivered p n w s t h))

pub delivers-first : (p : Frame → Bool) (b n : ℕ) (a : Course) (P : World → Type 0) → n ≡ b
    → GoesWhere a P (delivered_below p b n) a
unfolding delivered
delivers-first p b n a P e =
    where-none a P (delivered_below p b n) (λ w.
    ap (λ (k : ℕ). amply (delivered p w b (take k (drop b w.sent)))) (let k : n - b ≡ 0 = omega (arith, e) in k))

pub delivers-next : (p : Frame → Bool) (b n count : ℕ) (rs : List ℕ) (a x y : Course) → b ≤ n → n < count
    → Told a (λ w. count ≡ length w.sent) → GoesWhere a (AreCorrect rs) (delivered_below p b n) x
    → GoesWhere x (AreCorrect rs) (delivered_at p n) y → GoesWhere a (AreCorrect rs) (delivered_below p b (n + 1)) y
delivers-next p b n count rs a x y m l told g h =
    where-told a y (AreCorrect rs) (λ w. delivered_below p b n w ++ delivered_at p n (after w (delivered_below p b n w)))
    (delivered_below p b (n + 1)) (λ hs w t c. whole w (told hs w t))
    (where-both a x y (AreCorrect rs) (AreCorrect rs) (delivered_below p b n) (delivered_at p n) g h
    (λ w c. still-correct rs w (delivered_below p b n w) c))
  where
    whole : (w : World) → count ≡ length w.sent
        → delivered_below p b n w ++ delivered_at p n (after w (delivered_below p b n w)) ≡ delivered_below p b (n + 1) w
    whole w e =
        let f = found w.sent n (omega (arith, l, e)) in
        let s : Sent = f.0 in
        let xs : List Sent = take (n - b) (drop b w.sent) in
        let hs : List Happening = delivered_below p b n w in
        ap (λ (z : List Happening). hs ++ z)
        (at-place p n (after w hs) s (still-there w hs n s f.1)
        ∙ ap (λ (es : List Event). amply es) (same-delivered p w hs n s (p s.frame) refl))
        ∙ (sym (map-append _ (delivered p w b xs) (delivered p w n (s ∷ [])))
        ∙ ap (λ (es : List Event). amply es) (sym (
        ap (λ (zs : List Sent). delivered p w b zs) (take-further w.sent b n s m f.1)
        ∙ (delivered-behind p w xs s b
        ∙ ap (λ (k : ℕ). delivered p w b xs ++ delivered p w k (s ∷ [])) (take-length w.sent b n s m f.1)))))
      where
        found : (ss : List Sent) (n : ℕ) → n < length ss → (s : Sent) × (slice_get ss n ≡ Some s)
        found [] n k = absurd (omega (arith, k))
        found (s ∷ ss) zero k = (s, refl)
        found (s ∷ ss) (suc n) k = found ss n (omega (arith, k))

pub delivers-all : (p : Frame → Bool) (b n count : ℕ) (rs : List ℕ) (a x : Course) → count ≤ n
    → Told a (λ w. count ≡ length w.sent) → GoesWhere a (AreCorrect rs) (delivered_below p b n) x
    → GoesWhere a (AreCorrect rs) (λ w. amply (delivered_since b p w)) x
delivers-all p b n count rs a x l told g =
    where-told a x (AreCorrect rs) (delivered_below p b n) (λ w. amply (delivered_since b p w))
    (λ hs w t c. let e = told hs w t in
    ap (λ (zs : List Sent). amply (delivered p w b zs)) (take-whole w.sent b n (omega (arith, l, e)))) g
