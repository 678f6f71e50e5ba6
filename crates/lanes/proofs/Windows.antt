-- A block that shows a text from some byte on, as pieces are written into it; and how long a text and its padding are.
use Rattle.std.proofs.Common.{◌≡◌, ℕ, suc, add-one, ◌+◌, ◌-◌, ◌*◌, ◌/◌, ◌%◌, ◌^◌, ◌<◌, ◌≤◌, List, ◌∷◌, ◌++◌, length, take, drop, min, max, replicate, slice_index, refl, inl, inr, sym, ap, ◌∙◌, arith, length-append, length-drop}
use Rattle.std.proofs.lemmas.List.{ext_get_or, get_or-append_right, get_or-drop, get_or-replicate, get_or-take, get_or_append_left, get_or_past, length-replicate, length-take-le}
use Rattle.std.proofs.lemmas.Bool.{cases_lt}
use Rattle.std.specs.Int.{w64, to_be_bytes}
use Rattle.lanes.specs.Texts.{IsWindow, block_at, blocks_of, tail}
use borrow.Rule.Slice.PartMut.{put_mid, post_of}

-- an element of a list of which the part from a on was replaced by as many others
put_below : (a n : ℕ) (xs ys : List ℕ) (k : ℕ) → a ≤ length xs → k < a → slice_index (put_mid a n xs ys) k ≡ slice_index xs k
put_below a n xs ys k fits lt =
    let la : length (take a xs) ≡ a = length-take-le a xs fits in
    get_or_append_left (take a xs) (ys ++ post_of a n xs) 0 k (omega arith) ∙ get_or-take a xs k 0 lt

put_within : (a n : ℕ) (xs ys : List ℕ) (k : ℕ) → a ≤ length xs → a ≤ k → k < a + length ys → slice_index (put_mid a n xs ys) k ≡ slice_index ys (k - a)
put_within a n xs ys k fits low high =
    let la : length (take a xs) ≡ a = length-take-le a xs fits in
    get_or-append_right (take a xs) (ys ++ post_of a n xs) a k 0 la low ∙ get_or_append_left ys (post_of a n xs) 0 (k - a) (omega arith)

put_above : (a n : ℕ) (xs ys : List ℕ) (k : ℕ) → a ≤ length xs → length ys ≡ n → a + n ≤ k → slice_index (put_mid a n xs ys) k ≡ slice_index xs k
put_above a n xs ys k fits ly high =
    let la : length (take a xs) ≡ a = length-take-le a xs fits in
    let same : a + (n + (k - a - n)) ≡ k = omega arith in
    get_or-append_right (take a xs) (ys ++ post_of a n xs) a k 0 la (omega arith)
    ∙ get_or-append_right ys (post_of a n xs) n (k - a) 0 ly (omega arith)
    ∙ get_or-drop n (drop a xs) (k - a - n) 0 ∙ get_or-drop a xs (n + (k - a - n)) 0 ∙ ap (slice_index xs) same

-- the next piece of a text, as far as it falls into the block
pub IsWindow_put : (block before piece ys : List ℕ) (start at from to : ℕ) → length block ≡ 64 → length before ≡ at → IsWindow block start before
    → from ≡ max at start → to ≡ min (at + length piece) (start + 64) → from < to
    → ys ≡ take (to - at - (from - at)) (drop (from - at) piece)
    → IsWindow (put_mid (from - start) (to - start - (from - start)) block ys) start (before ++ piece)
IsWindow_put block before piece ys start at from to lb lm window ef et lt ey = λ k low.
    let a : ℕ = from - start in
    let n : ℕ = to - start - (from - start) in
    let m : ℕ = from - at in
    let rest : length (drop m piece) ≡ length piece - m = length-drop m piece in
    let ly : length ys ≡ n = ap length ey ∙ length-take-le (to - at - m) (drop m piece) (omega arith) ∙ (let e : to - at - m ≡ n = omega arith in e) in
    elim (cases_lt k a) [
      | inl below ↦ put_below a n block ys k (omega arith) below ∙ window k low ∙ sym (get_or_append_left before piece 0 (start + k) (omega arith))
      | inr within ↦ elim (cases_lt k (a + n)) [
        | inl inside ↦
            let same : m + (k - a) ≡ start + k - at = omega arith in
            put_within a n block ys k (omega arith) within (omega arith)
            ∙ ap (λ (l : List ℕ). slice_index l (k - a)) ey
            ∙ get_or-take (to - at - m) (drop m piece) (k - a) 0 (omega arith)
            ∙ get_or-drop m piece (k - a) 0 ∙ ap (slice_index piece) same
            ∙ sym (get_or-append_right before piece at (start + k) 0 lm (omega arith))
        | inr above ↦
            put_above a n block ys k (omega arith) ly above ∙ window k low ∙ get_or_past before (start + k) 0 (omega arith)
            ∙ sym (get_or_past (before ++ piece) (start + k) 0 (omega (arith, length-append before piece)))
      ]
    ]

-- zeros behind the end change nothing
pub zeros : (z i : ℕ) → slice_index (replicate z 0) i ≡ 0
zeros z i = elim (cases_lt i z) [
  | inl below ↦ get_or-replicate z i 0 0 below
  | inr above ↦ get_or_past (replicate z 0) i 0 (omega (arith, length-replicate {A = ℕ} z 0))
]

-- zeros show what has ended before them, and what is zeros
pub IsWindow_past : (m : List ℕ) (start : ℕ) → length m ≤ start → IsWindow (replicate 64 0) start m
IsWindow_past m start past = λ k low. zeros 64 k ∙ sym (get_or_past m (start + k) 0 (omega arith))

pub IsWindow_blank : (n : ℕ) → IsWindow (replicate 64 0) 0 (replicate n 0)
IsWindow_blank n = λ k low. zeros 64 k ∙ sym (zeros n (0 + k))

slice_index-zeros : (m : List ℕ) (z p : ℕ) → slice_index (m ++ replicate z 0) p ≡ slice_index m p
slice_index-zeros m z p = elim (cases_lt p (length m)) [
  | inl below ↦ get_or_append_left m (replicate z 0) 0 p below
  | inr above ↦ get_or-append_right m (replicate z 0) (length m) p 0 refl above ∙ zeros z (p - length m) ∙ sym (get_or_past m p 0 above)
]

pub IsWindow-zeros : (block m : List ℕ) (start z : ℕ) → IsWindow block start m → IsWindow block start (m ++ replicate z 0)
IsWindow-zeros block m start z window = λ k low. window k low ∙ sym (slice_index-zeros m z (start + k))

-- a block that shows a text which reaches to its end is a block of the text
pub IsWindow_block : (block p : List ℕ) (i start : ℕ) → length block ≡ 64 → start ≡ i * 64 → start + 64 ≤ length p → IsWindow block start p
    → block ≡ block_at p i
IsWindow_block block p i start lb es fits window =
    let rest : length (drop (i * 64) p) ≡ length p - i * 64 = length-drop (i * 64) p in
    let long : length (block_at p i) ≡ 64 = length-take-le 64 (drop (i * 64) p) (omega arith) in
    ext_get_or 0 block (block_at p i) (omega arith) (λ k low.
    window k (omega arith) ∙ ap (λ (s : ℕ). slice_index p (s + k)) es
    ∙ sym (get_or-take 64 (drop (i * 64) p) k 0 (omega arith) ∙ get_or-drop (i * 64) p k 0))

pub length-tail : (m : List ℕ) → length (tail m) ≡ blocks_of (length m) * 64
length-tail m =
    let n : ℕ = length m in
    let z : ℕ = (119 - (64 + n) % 64) % 64 in
    let zeros : List ℕ = replicate z 0 in
    let bits : List ℕ = to_be_bytes w64 ((64 + n) * 8 % 2 ^ 64) in
    let marked : List ℕ = 0x80 ∷ zeros in
    let long : length zeros ≡ z = length-replicate {A = ℕ} z 0 in
    let padding : length (marked ++ bits) ≡ length marked + 8 = length-append marked bits in
    let more : length marked ≡ z + 1 = simp add-one (ap suc long) in
    let all : length (m ++ (marked ++ bits)) ≡ n + length (marked ++ bits) = length-append m (marked ++ bits) in
    all ∙ ap (λ (k : ℕ). n + k) (padding ∙ ap (λ (k : ℕ). k + 8) more) ∙ (let e : n + (z + 1 + 8) ≡ ((n + 8) / 64 + 1) * 64 = omega arith in e)
