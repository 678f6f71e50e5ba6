-- Frames that stand one behind the other in a stream that grows.
use Rattle.std.proofs.Common.{◌≡◌, ◌∙◌, ℕ, ◌+◌, ◌<◌, ◌≤◌, ◌^◌, List, [], ◌∷◌, ◌++◌, length, take, refl, sym, ap}
use Rattle.std.proofs.Common.{subst, inl, inr, arith, append_assoc, length-append}
use Rattle.std.proofs.lemmas.List.{append-nil, take_at, take-append-le}
use Rattle.std.proofs.lemmas.Nat.{from_be_bytes-to_be_bytes_4}
use Rattle.std.specs.Int.{w32, to_be_bytes, from_be_bytes}
use Rattle.std.specs.List.{AllByRecursion}
use Rattle.definitions.specs.Bytes.{Bytes}
use Rattle.definitions.proofs.Spellings.{append_parts, to_be_bytes_parts}
use Rattle.wire_frames.specs.Framing.{on_wire, stream, told, IsUnfinished, IsTooLong, Gives, gave, more, refused}
use Rattle.wire_frames.specs.Framing.{Call, pushed, asked, Lead, all_pushed, all_given, IsNeverRefused}

-- ---- one frame

-- a frame with others behind it
on_wire_then : (f t : Bytes) → on_wire f ++ t ≡ to_be_bytes w32 (length f) ++ (f ++ t)
on_wire_then f t = append_assoc (to_be_bytes w32 (length f)) f t

-- what the length tells is the length
told-on_wire : (f t : Bytes) → length f < 2 ^ 32 → told (on_wire f ++ t) ≡ length f
told-on_wire f t short =
    ap (from_be_bytes w32)
    (ap (take 4) (on_wire_then f t) ∙ take_at (to_be_bytes w32 (length f)) (f ++ t) 4 refl)
    ∙ from_be_bytes-to_be_bytes_4 (length f) short

-- how long it is
length-on_wire : (f t : Bytes) → length (on_wire f ++ t) ≡ 4 + length f + length t
length-on_wire f t =
    omega (
      arith,
      ap (λ (l : Bytes). length l) (on_wire_then f t),
      length-append (to_be_bytes w32 (length f)) (f ++ t),
      length-append f t,
    )

-- two that stand at the front of one stream are one, and so is what stands behind them
same_frame : (f g s t : Bytes) → length f < 2 ^ 32 → length g < 2 ^ 32 → on_wire f ++ s ≡ on_wire g ++ t
    → (f ≡ g) × (s ≡ t)
same_frame f g s t hf hg e =
    let parts = to_be_bytes_parts w32 (length f) (length g) (f ++ s) (g ++ t)
    (from_be_bytes-to_be_bytes_4 (length f) hf) (from_be_bytes-to_be_bytes_4 (length g) hg)
    (sym (on_wire_then f s) ∙ (e ∙ on_wire_then g t)) in
    append_parts f g s t parts.0 parts.1

-- ---- what was pushed

-- what calls give of what is held, and of what is pushed then
pub given_of_pushed : (longest : ℕ) (calls : List Call) (held left : Bytes) → Lead longest held calls left
    → held ++ all_pushed calls ≡ stream (all_given calls) ++ left
given_of_pushed longest [] held left e = append-nil held ∙ sym e
given_of_pushed longest (pushed bytes ∷ calls) held left h =
    sym (append_assoc held bytes (all_pushed calls)) ∙ given_of_pushed longest calls (held ++ bytes) left h
given_of_pushed longest (asked (gave f) ∷ calls) held left h =
    ap (λ (l : Bytes). l ++ all_pushed calls) h.1.1
    ∙ (append_assoc (on_wire f) h.0 (all_pushed calls)
    ∙ (ap (λ (l : Bytes). on_wire f ++ l) (given_of_pushed longest calls h.0 left h.2)
    ∙ sym (append_assoc (on_wire f) (stream (all_given calls)) left)))
given_of_pushed longest (asked more ∷ calls) held left h =
    given_of_pushed longest calls held left (subst (λ (l : Bytes). Lead longest l calls left) h.1.1 h.2)
given_of_pushed longest (asked refused ∷ calls) held left h =
    given_of_pushed longest calls held left (subst (λ (l : Bytes). Lead longest l calls left) h.1.1 h.2)

-- ---- what was put

-- frames that are short enough
abbrev AreShort : ℕ → List Bytes → Type 0
AreShort longest frames = AllByRecursion (λ frame. length frame ≤ longest) frames

-- a length that no item has doesn't stand at the front of frames
no_such_length : (longest : ℕ) (frames : List Bytes) (held t : Bytes) → longest < 2 ^ 32 → AreShort longest frames
    → IsTooLong longest held → held ++ t ≡ stream frames → ⊥
no_such_length longest [] held t limit short long e =
    omega (arith, long.0, ap (λ (l : Bytes). length l) e, length-append held t)
no_such_length longest (f ∷ frames) held t limit short long e =
    let fits : length f < 2 ^ 32 = omega (arith, short.0) in
    let front : take 4 (held ++ t) ≡ take 4 held = take-append-le 4 held t long.0 in
    let is : told held ≡ length f =
    ap (from_be_bytes w32) (sym front ∙ ap (take 4) e) ∙ told-on_wire f (stream frames) fits in
    omega (arith, long.1, is, short.0)

-- nothing whole stands in the front of frames only where there are none
none_left : (longest : ℕ) (frames : List Bytes) (held : Bytes) → longest < 2 ^ 32 → AreShort longest frames
    → IsUnfinished longest held → held ≡ stream frames → frames ≡ []
none_left longest [] held limit short part e = refl
none_left longest (f ∷ frames) held limit short part e =
    let fits : length f < 2 ^ 32 = omega (arith, short.0) in
    let size : length held ≡ 4 + length f + length (stream frames) =
    ap (λ (l : Bytes). length l) e ∙ length-on_wire f (stream frames) in
    let is : told held ≡ length f = ap told e ∙ told-on_wire f (stream frames) fits in
    absurd (elim part [ inl few ↦ omega (arith, few, size) | inr some ↦ omega (arith, some.1, size, is) ])

-- what calls give of what is held, where that begins frames
pub record GivesOf (longest : ℕ) (frames : List Bytes) (calls : List Call) (left coming : Bytes) : Type 0 where
  pub never : IsNeverRefused calls
  pub rest : List Bytes
  pub first : frames ≡ all_given calls ++ rest
  pub behind : left ++ coming ≡ stream rest
  pub short : AreShort longest rest

pub gives_of_put : (longest : ℕ) (calls : List Call) (frames : List Bytes) (held left coming : Bytes)
    → longest < 2 ^ 32 → AreShort longest frames → Lead longest held calls left
    → held ++ (all_pushed calls ++ coming) ≡ stream frames → GivesOf longest frames calls left coming
gives_of_put longest [] frames held left coming limit short h e = record {
  never = tt;
  rest = frames;
  first = refl;
  behind = ap (λ (l : Bytes). l ++ coming) h ∙ e;
  short = short;
}
gives_of_put longest (pushed bytes ∷ calls) frames held left coming limit short h e =
    let g = gives_of_put longest calls frames (held ++ bytes) left coming limit short h
    (append_assoc held bytes (all_pushed calls ++ coming)
    ∙ (ap (λ (l : Bytes). held ++ l) (sym (append_assoc bytes (all_pushed calls) coming)) ∙ e)) in
    record { never = g.never; rest = g.rest; first = g.first; behind = g.behind; short = g.short }
gives_of_put longest (asked (gave f) ∷ calls) [] held left coming limit short h e =
    absurd (omega (
      arith,
      length-on_wire f (h.0 ++ (all_pushed calls ++ coming)),
      ap (λ (l : Bytes). length l) (sym (append_assoc (on_wire f) h.0 (all_pushed calls ++ coming))
          ∙ (ap (λ (l : Bytes). l ++ (all_pushed calls ++ coming)) (sym h.1.1) ∙ e)),
    ))
gives_of_put longest (asked (gave f) ∷ calls) (x ∷ frames) held left coming limit short h e =
    let fits : length f < 2 ^ 32 = omega (arith, h.1.0) in
    let fits_too : length x < 2 ^ 32 = omega (arith, short.0) in
    let same = same_frame f x (h.0 ++ (all_pushed calls ++ coming)) (stream frames) fits fits_too
    (sym (append_assoc (on_wire f) h.0 (all_pushed calls ++ coming))
    ∙ (ap (λ (l : Bytes). l ++ (all_pushed calls ++ coming)) (sym h.1.1) ∙ e)) in
    let g = gives_of_put longest calls frames h.0 left coming limit short.1 h.2 same.1 in
    record {
      never = g.never;
      rest = g.rest;
      first = ap (λ (b : Bytes). b ∷ frames) (sym same.0) ∙ ap (λ (l : List Bytes). f ∷ l) g.first;
      behind = g.behind;
      short = g.short;
    }
gives_of_put longest (asked more ∷ calls) frames held left coming limit short h e =
    let g = gives_of_put longest calls frames held left coming limit short
    (subst (λ (l : Bytes). Lead longest l calls left) h.1.1 h.2) e in
    record { never = g.never; rest = g.rest; first = g.first; behind = g.behind; short = g.short }
gives_of_put longest (asked refused ∷ calls) frames held left coming limit short h e =
    absurd (no_such_length longest frames held (all_pushed calls ++ coming) limit short h.1.0 e)

pub nothing_left : (longest : ℕ) (frames : List Bytes) (left coming : Bytes) → longest < 2 ^ 32
    → AreShort longest frames → left ++ coming ≡ stream frames → coming ≡ [] → IsUnfinished longest left → frames ≡ []
nothing_left longest frames left coming limit short e over part =
    none_left longest frames left limit short part
    (sym (append-nil left) ∙ (ap (λ (l : Bytes). left ++ l) (sym over) ∙ e))

-- ---- a refusal

-- with more bytes behind it, the length is told still
long_still : (longest : ℕ) (held bytes : Bytes) → IsTooLong longest held → IsTooLong longest (held ++ bytes)
long_still longest held bytes long = (
  omega (arith, long.0, length-append held bytes),
  subst (λ (l : Bytes). longest < from_be_bytes w32 l) (sym (take-append-le 4 held bytes long.0)) long.1,
)

-- it is no whole frame
not_given : (longest : ℕ) (held f left : Bytes) → longest < 2 ^ 32 → IsTooLong longest held
    → Gives longest held (gave f) left → ⊥
not_given longest held f left limit long g =
    let fits : length f < 2 ^ 32 = omega (arith, g.0) in
    omega (arith, long.1, g.0, ap told g.1, told-on_wire f left fits)

pub nothing_more : (longest : ℕ) (calls : List Call) (held left : Bytes) → longest < 2 ^ 32
    → IsTooLong longest held → Lead longest held calls left → all_given calls ≡ []
nothing_more longest [] held left limit long h = refl
nothing_more longest (pushed bytes ∷ calls) held left limit long h =
    nothing_more longest calls (held ++ bytes) left limit (long_still longest held bytes long) h
nothing_more longest (asked (gave f) ∷ calls) held left limit long h =
    absurd (not_given longest held f h.0 limit long h.1)
nothing_more longest (asked more ∷ calls) held left limit long h =
    nothing_more longest calls held left limit long
    (subst (λ (l : Bytes). Lead longest l calls left) h.1.1 h.2)
nothing_more longest (asked refused ∷ calls) held left limit long h =
    nothing_more longest calls held left limit long
    (subst (λ (l : Bytes). Lead longest l calls left) h.1.1 h.2)
