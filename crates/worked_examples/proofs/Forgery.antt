-- Tests of a whole run that compute: that no tag is forged in it, which cores it has, and that no two of some
-- cores collide.
use Rattle.std.proofs.Common.{ℕ, ◌≡◌, ◌==◌, ◌&&◌, not, Bool, true, false, List, [], ◌∷◌, ◌++◌, refl, sym}
use Rattle.std.proofs.Common.{ap, subst, ◌∙◌, ◌⊎◌, inl, inr, true≢false, Option, Some, None, get_or}
use Rattle.std.specs.Prelude.{Result, Ok, Err}
use Rattle.ids.specs.declared.fault.Fault.{Fault}
use Rattle.std.specs.Prelude.{◌||◌, bytes_eq}
use Rattle.std.proofs.lemmas.Bool.{and_parts, or_cases, eqb-true, eq-eqb, not-true}
use Rattle.std.proofs.lemmas.Slice.Eq.{bytes_eq-Decides}
use Rattle.ids.specs.Numbers.{kind_number}
use Rattle.ids.specs.Sizes.{client_party}
use Rattle.definitions.specs.Bytes.{Bytes}
use Rattle.definitions.specs.Lists.{Among}
use Rattle.definitions.specs.Frames.{Core, Frame, genesis_core, kind_of, content_of, own_tag}
use Rattle.definitions.specs.Frames as frame
use Rattle.definitions.specs.Digests.{digest}
use Rattle.definitions.specs.Sendings.{To}
use Rattle.definitions.specs.Worlds.{World, Sent, AcceptedBy, Event, Happening, self_of}
use Rattle.definitions.specs.Events.{brought, party_of, happens}
use Rattle.definitions.specs.Runs.{refusal, run, after}
use Rattle.definitions.specs.Premises.{Claim, IsFor, IsTagOf, WasSent, accepted_tags, NoForgeryIn, NoForgery}
use Rattle.definitions.specs.Premises.{CoreOf, CoreBrought, CoreOfRun}
use Rattle.definitions.proofs.Lists.{Among-before, Among-after}
use Rattle.definitions.proofs.Spellings.{kind_number_injective}

-- ---- no tag is forged

-- a frame with a vector, or a reply to this party; of questions and blocks the test says no
abbrev is_for : ℕ → Frame → Bool
is_for party (frame.reply replica client seq place text t) = party == client_party client
is_for party (frame.fetch sender d t) = false
is_for party (frame.block sender core q t) = false
is_for party f = true

-- the tag is one of the frame's own
abbrev is_tag_of : Claim → Frame → Bool
is_tag_of x f =
    (kind_number x.label == kind_number (kind_of f))
    && (bytes_eq x.content (content_of f) && (bytes_eq x.tag (own_tag f x.receiver) && is_for x.receiver f))

-- its sender sent it
abbrev was_sent : List Sent → Claim → Bool
was_sent [] x = false
was_sent (s ∷ sent) x = ((s.sender == x.sender) && is_tag_of x s.frame) || was_sent sent x

-- each of these tags that is in a correct party's name was sent
abbrev were_sent : (ℕ → Bool) → List Sent → List Claim → Bool
were_sent is_faulty sent [] = true
were_sent is_faulty sent (x ∷ xs) =
    (is_faulty x.sender || was_sent sent x) && were_sent is_faulty sent xs

-- so were those of what an event brings to a correct party
abbrev pub none_forged_in : World → Event → List Frame → Bool
none_forged_in w e [] = true
none_forged_in w e (f ∷ fs) = (w.is_faulty (party_of e)
    || were_sent w.is_faulty w.sent (accepted_tags (self_of w (party_of e)) f)) && none_forged_in w e fs

-- and so of a whole schedule
abbrev none_forged : World → List Happening → Bool
none_forged w [] = true
none_forged w (h ∷ hs) = none_forged_in w h.0 (brought w h.0) && none_forged (happens w h) hs

for-sound : (party : ℕ) (to : To) (f : Frame) → is_for party f ≡ true → IsFor party to f
for-sound party to (frame.reply replica client seq place text t) e = eqb-true _ _ e
for-sound party to (frame.fetch sender d t) e = absurd (true≢false (sym e))
for-sound party to (frame.block sender core q t) e = absurd (true≢false (sym e))
for-sound party to (frame.request c) e = tt
for-sound party to (frame.proposal v core q t) e = tt
for-sound party to (frame.vote d b) e = tt
for-sound party to (frame.new_view v r q t) e = tt

tag-sound : (x : Claim) (s : Sent) → is_tag_of x s.frame ≡ true → IsTagOf x s s.frame
tag-sound x s e =
    let a = and_parts _ _ e in
    let b = and_parts _ _ a.1 in
    let c = and_parts _ _ b.1 in (
      kind_number_injective _ _ (eqb-true _ _ a.0),
      (bytes_eq-Decides _ _).0 b.0,
      (bytes_eq-Decides _ _).0 c.0,
      for-sound x.receiver s.to s.frame c.1,
    )

sent-sound : (sent : List Sent) (x : Claim) → was_sent sent x ≡ true → WasSent sent x
sent-sound [] x e = absurd (true≢false (sym e))
sent-sound (s ∷ sent) x e =
    elim (or_cases _ _ e) [
      | inl h ↦ (let a = and_parts _ _ h in (s, inl refl, eqb-true _ _ a.0, tag-sound x s a.1))
      | inr h ↦ (let r = sent-sound sent x h in (r.0, inr r.1, r.2, r.3))
    ]

all-sound : (is_faulty : ℕ → Bool) (sent : List Sent) (xs : List Claim) (x : Claim)
    → were_sent is_faulty sent xs ≡ true → Among x xs → is_faulty x.sender ≡ false → WasSent sent x
all-sound is_faulty sent [] x e m ok = absurd m
all-sound is_faulty sent (y ∷ xs) x e (inl i) ok =
    elim (or_cases _ _ (subst (λ (z : Claim). (is_faulty z.sender || was_sent sent z) ≡ true) (sym i)
    (and_parts _ _ e).0)) [
      | inl h ↦ absurd (true≢false (sym h ∙ ok))
      | inr h ↦ sent-sound sent x h
    ]
all-sound is_faulty sent (y ∷ xs) x e (inr m) ok = all-sound is_faulty sent xs x (and_parts _ _ e).1 m ok

frames-sound : (w : World) (e : Event) (fs : List Frame) (f : Frame) → none_forged_in w e fs ≡ true
    → Among f fs
    → w.is_faulty (party_of e) ≡ false → (x : Claim) → Among x (accepted_tags (self_of w (party_of e)) f)
    → w.is_faulty x.sender ≡ false → WasSent w.sent x
frames-sound w e [] f t b ok x m correct = absurd b
frames-sound w e (g ∷ fs) f t (inl i) ok x m correct =
    elim (or_cases _ _ (and_parts _ _ t).0) [
      | inl h ↦ absurd (true≢false (sym h ∙ ok))
      | inr h ↦ all-sound w.is_faulty w.sent _ x h
          (subst (λ (k : Frame). Among x (accepted_tags (self_of w (party_of e)) k)) i m) correct
    ]
frames-sound w e (g ∷ fs) f t (inr b) ok x m correct =
    frames-sound w e fs f (and_parts _ _ t).1 b ok x m correct

event-sound : (w : World) (e : Event) → none_forged_in w e (brought w e) ≡ true → NoForgeryIn w e
event-sound w e t f b ok ad x m correct = frames-sound w e (brought w e) f t b ok x m correct

-- what the test says is so
run-sound : (hs : List Happening) (w : World) → none_forged w hs ≡ true → NoForgery w hs
run-sound [] w e = tt
run-sound (h ∷ hs) w e =
    let a = and_parts _ _ e in (event-sound w h.0 a.0, run-sound hs (happens w h) a.1)

-- ---- the cores of a run

abbrev cores_of : Frame → List Core
cores_of (frame.proposal v core q t) = core ∷ []
cores_of (frame.block s core q t) = core ∷ []
cores_of f = []

abbrev pub cores_in : List Frame → List Core
cores_in [] = []
cores_in (f ∷ fs) = cores_of f ++ cores_in fs

-- of the frames of a record
abbrev cores_sent : List Sent → List Core
cores_sent [] = []
cores_sent (s ∷ sent) = cores_of s.frame ++ cores_sent sent

-- of what is brought
abbrev cores_brought : World → List Happening → List Core
cores_brought w [] = []
cores_brought w (h ∷ hs) = cores_in (brought w h.0) ++ cores_brought (happens w h) hs

core-of : (c : Core) (f : Frame) → CoreOf c f → Among c (cores_of f)
core-of c (frame.proposal v core q t) e = inl e
core-of c (frame.block s core q t) e = inl e
core-of c (frame.request k) e = absurd e
core-of c (frame.vote d b) e = absurd e
core-of c (frame.new_view v r q t) e = absurd e
core-of c (frame.reply r k q p t g) e = absurd e
core-of c (frame.fetch s d t) e = absurd e

sent-among : (sent : List Sent) (c : Core) (s : Sent) → Among s sent → CoreOf c s.frame
    → Among c (cores_sent sent)
sent-among [] c s m o = absurd m
sent-among (t ∷ sent) c s (inl e) o =
    Among-before c (cores_of t.frame) (cores_sent sent)
    (core-of c t.frame (subst (λ (x : Sent). CoreOf c x.frame) e o))
sent-among (t ∷ sent) c s (inr m) o =
    Among-after c (cores_of t.frame) (cores_sent sent) (sent-among sent c s m o)

core-in : (c : Core) (f : Frame) (fs : List Frame) → Among f fs → CoreOf c f → Among c (cores_in fs)
core-in c f [] m o = absurd m
core-in c f (g ∷ fs) (inl e) o =
    Among-before c (cores_of g) (cores_in fs) (core-of c g (subst (CoreOf c) e o))
core-in c f (g ∷ fs) (inr m) o = Among-after c (cores_of g) (cores_in fs) (core-in c f fs m o)

brought-among : (hs : List Happening) (w : World) (c : Core) → CoreBrought c w hs
    → Among c (cores_brought w hs)
brought-among [] w c k = absurd k
brought-among (h ∷ hs) w c (inl x) =
    Among-before c (cores_in (brought w h.0)) (cores_brought (happens w h) hs)
    (core-in c x.0 (brought w h.0) x.1 x.2)
brought-among (h ∷ hs) w c (inr k) =
    Among-after c (cores_in (brought w h.0)) (cores_brought (happens w h) hs)
    (brought-among hs (happens w h) c k)

-- ---- one walk through a schedule

-- the run takes the event
abbrev pub is_taken : Option Fault → Bool
is_taken None = true
is_taken (Some n) = false

-- what is seen of a schedule: whether it is taken, whether no tag is forged, the cores brought, and the last
-- world
pub record Seen : Type 0 where
  pub taken : Bool
  pub honest : Bool
  pub brought : List Core
  pub last : World

abbrev pub seen_with : World → Happening → Seen → Seen
seen_with w h rest = record {
  taken = is_taken (refusal w h.0) && rest.taken;
  honest = none_forged_in w h.0 (brought w h.0) && rest.honest;
  brought = cores_in (brought w h.0) ++ rest.brought;
  last = rest.last;
}

abbrev pub seen : World → List Happening → Seen
seen w [] = record { taken = true; honest = true; brought = []; last = w }
seen w (h ∷ hs) = seen_with w h (seen (happens w h) hs)

-- what is told of it in numbers and cores, so that it is computed once
pub record Facts : Type 0 where
  pub taken : Bool
  pub honest : Bool
  pub brought : List Core
  pub sent : List Core
  pub receipts : List AcceptedBy

abbrev pub facts : Seen → Facts
facts s = record {
  taken = s.taken;
  honest = s.honest;
  brought = s.brought;
  sent = cores_sent s.last.sent;
  receipts = s.last.receipts;
}

seen-honest : (hs : List Happening) (w : World) → (seen w hs).honest ≡ none_forged w hs
seen-honest [] w = refl
seen-honest (h ∷ hs) w =
    ap (λ (t : Bool). none_forged_in w h.0 (brought w h.0) && t) (seen-honest hs (happens w h))

seen-brought : (hs : List Happening) (w : World) → (seen w hs).brought ≡ cores_brought w hs
seen-brought [] w = refl
seen-brought (h ∷ hs) w =
    ap (λ (l : List Core). cores_in (brought w h.0) ++ l) (seen-brought hs (happens w h))

pub seen-last : (hs : List Happening) (w : World) → (seen w hs).last ≡ after w hs
unfolding after
seen-last [] w = refl
seen-last (h ∷ hs) w = seen-last hs (happens w h)

taken-one : (o : Option Fault) → is_taken o ≡ true → o ≡ None
taken-one None e = refl
taken-one (Some n) e = absurd (true≢false (sym e))

run-one : (o : Option Fault) (next : Result World Fault) → o ≡ None
    → elim o as (λ x. Result World Fault) [ Some n ↦ Err n | None ↦ next ] ≡ next
run-one None next e = refl
run-one (Some n) next e = absurd (apart e)
  where
    apart : Some n ≡ None → ⊥
    apart k = cc

seen-taken : (hs : List Happening) (w : World) → (seen w hs).taken ≡ true → run w hs ≡ Ok (after w hs)
unfolding after run
seen-taken [] w e = refl
seen-taken (h ∷ hs) w e =
    let a = and_parts _ _ e in
    run-one (refusal w h.0) (run (happens w h) hs) (taken-one (refusal w h.0) a.0)
    ∙ seen-taken hs (happens w h) a.1

module _ (w : World) (hs : List Happening) (f : Facts) (e : facts (seen w hs) ≡ f) where
  pub taken-whole : f.taken ≡ true → run w hs ≡ Ok (after w hs)
  taken-whole t = seen-taken hs w (ap (λ (x : Facts). x.taken) e ∙ t)

  pub forges-nothing : f.honest ≡ true → NoForgery w hs
  forges-nothing t = run-sound hs w (sym (seen-honest hs w) ∙ (ap (λ (x : Facts). x.honest) e ∙ t))

  pub receipts-are : (after w hs).receipts ≡ f.receipts
  receipts-are = ap (λ (x : World). x.receipts) (sym (seen-last hs w)) ∙ ap (λ (x : Facts). x.receipts) e

  sent-are : cores_sent (after w hs).sent ≡ f.sent
  sent-are =
      ap (λ (x : World). cores_sent x.sent) (sym (seen-last hs w)) ∙ ap (λ (x : Facts). x.sent) e

  brought-are : cores_brought w hs ≡ f.brought
  brought-are = sym (seen-brought hs w) ∙ ap (λ (x : Facts). x.brought) e

  -- the cores of the run are genesis's and these
  pub cores-are : (c : Core) → CoreOfRun w hs c
      → (c ≡ genesis_core) ⊎ (Among c f.sent ⊎ Among c f.brought)
  cores-are c (inl k) = inl k
  cores-are c (inr (inl x)) =
      inr (inl (subst (λ (l : List Core). Among c l) sent-are
      (sent-among (after w hs).sent c x.0 x.1 x.2)))
  cores-are c (inr (inr k)) =
      inr (inr (subst (λ (l : List Core). Among c l) brought-are (brought-among hs w c k)))

-- ---- no two of some cores collide

-- the first byte of a core's digest
abbrev first_byte : Core → ℕ
first_byte c = get_or (digest c) 0 0

-- no core's is this byte
abbrev none_begins : ℕ → List Core → Bool
none_begins n [] = true
none_begins n (c ∷ cs) = not (n == first_byte c) && none_begins n cs

-- no two cores have the same
abbrev pub all_differ : List Core → Bool
all_differ [] = true
all_differ (c ∷ cs) = none_begins (first_byte c) cs && all_differ cs

other-byte : (n : ℕ) (cs : List Core) (c : Core) → none_begins n cs ≡ true → Among c cs
    → n ≡ first_byte c → ⊥
other-byte n [] c e m i = m
other-byte n (d ∷ cs) c e (inl k) i =
    true≢false (sym (eq-eqb n (first_byte d) (i ∙ ap first_byte k)) ∙ not-true _ (and_parts _ _ e).0)
other-byte n (d ∷ cs) c e (inr m) i = other-byte n cs c (and_parts _ _ e).1 m i

byte-of : (a b : Core) → digest a ≡ digest b → first_byte a ≡ first_byte b
byte-of a b h = ap (λ (l : Bytes). get_or l 0 0) h

pub none-collides : (cs : List Core) (a b : Core) → all_differ cs ≡ true → Among a cs → Among b cs
    → digest a ≡ digest b → a ≡ b
none-collides [] a b e m n h = absurd m
none-collides (c ∷ cs) a b e (inl i) (inl j) h = i ∙ sym j
none-collides (c ∷ cs) a b e (inl i) (inr n) h =
    absurd (other-byte (first_byte c) cs b (and_parts _ _ e).0 n (sym (ap first_byte i) ∙ byte-of a b h))
none-collides (c ∷ cs) a b e (inr m) (inl j) h =
    absurd (other-byte (first_byte c) cs a (and_parts _ _ e).0 m
    (sym (ap first_byte j) ∙ byte-of b a (sym h)))
none-collides (c ∷ cs) a b e (inr m) (inr n) h = none-collides cs a b (and_parts _ _ e).1 m n h
