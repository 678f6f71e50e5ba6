-- The hash values of texts behind one block.
use Rattle.std.proofs.Common.{◌≡◌, ℕ, zero, suc, ◌+◌, ◌-◌, ◌*◌, ◌/◌, ◌≤◌, List, ◌++◌, length, take, drop, sym, ap, refl, ◌∙◌, arith, length-append, length-drop}
use Rattle.std.proofs.lemmas.List.{append_assoc, drop-append-le, take-append-le, take_at}
use Rattle.std.proofs.Math.Seq.{drop-append-add, take-append-add}
use Rattle.sha2.specs.Sha256.{compress, digest_bytes, final_hash, hash_after, initial_hash_256, padded_message, padding, sha256}
use Rattle.sha2.proofs.Absorbing256.{hash_after_next}
use Rattle.lanes.specs.Texts.{after_text, block_at, tail}
use Rattle.lanes.proofs.Windows.{length-tail}

-- what lies behind the front of a list
drop_front : (xs ys : List ℕ) (n k : ℕ) → k ≡ length xs + n → drop k (xs ++ ys) ≡ drop n ys
drop_front xs ys n k e = rw e (drop-append-add xs ys n)

-- the first block of a text, and one more
pub first_block : (s p b new : List ℕ) → b ≡ block_at p 0 → new ≡ compress s b → new ≡ hash_after s p 1
unfolding hash_after
first_block s p b new eb en = en ∙ ap (compress s) eb

pub next_block : (s p b state new : List ℕ) (i : ℕ) → state ≡ hash_after s p i → b ≡ block_at p i → new ≡ compress state b → new ≡ hash_after s p (i + 1)
next_block s p b state new i es eb en = rw (en, es, eb) (sym (hash_after_next s p i))

-- the first block of a text with another head in place of as many bytes
pub with_another : (z h rest : List ℕ) → length z ≡ length h → length h ≤ 64 → h ++ drop (length h) (block_at (tail (z ++ rest)) 0) ≡ block_at (tail (h ++ rest)) 0
with_another z h rest same short =
    let n : ℕ = 64 - length h in
    let lz : length (z ++ rest) ≡ length (h ++ rest) = length-append z rest ∙ ap (λ (k : ℕ). k + length rest) same ∙ sym (length-append h rest) in
    let behind : List ℕ = rest ++ padding (64 + length (h ++ rest)) in
    let whole : (k : List ℕ) → length k ≡ length h → take 64 (k ++ behind) ≡ k ++ take n behind = λ k long.
    let e : 64 ≡ length k + n = omega arith in
    ap (λ (m : ℕ). take m (k ++ behind)) e ∙ take-append-add k behind n in
    let ez : block_at (tail (z ++ rest)) 0 ≡ z ++ take n behind = rw (lz, append_assoc z rest (padding (64 + length (h ++ rest)))) (whole z same) in
    let eh : block_at (tail (h ++ rest)) 0 ≡ h ++ take n behind = rw (append_assoc h rest (padding (64 + length (h ++ rest)))) (whole h refl) in
    let cut : drop (length h) (z ++ take n behind) ≡ take n behind = drop_front z (take n behind) 0 (length h) (omega arith) in
    rw (ez, cut) (sym eh)

-- blocks behind the first one
hash_after_first : (ini k p : List ℕ) (n : ℕ) → length k ≡ 64 → hash_after ini (k ++ p) (suc n) ≡ hash_after (compress ini k) p n
unfolding hash_after
hash_after_first ini k p zero long = ap (compress ini) (take_at k p 64 (omega arith))
hash_after_first ini k p (suc n) long =
    let before : hash_after ini (k ++ p) (suc n) ≡ hash_after (compress ini k) p n = hash_after_first ini k p n long in
    let block : take 64 (drop (suc n * 64) (k ++ p)) ≡ take 64 (drop (n * 64) p) = ap (take 64) (drop_front k p (n * 64) (suc n * 64) (omega arith)) in
    (λ i. compress (before i) (block i))

-- the digest of a text, from the hash value after its first block
pub digest_after : (k m h : List ℕ) → length k ≡ 64 → h ≡ after_text (compress initial_hash_256 k) m → digest_bytes h 8 ≡ sha256 (k ++ m)
unfolding sha256
digest_after k m h long e =
    let lm : length (k ++ m) ≡ 64 + length m = length-append k m ∙ ap (λ (n : ℕ). n + length m) long in
    let p : padded_message (k ++ m) ≡ k ++ tail m = rw lm (append_assoc k m (padding (64 + length m))) in
    let lp : length (k ++ tail m) ≡ 64 + ((length m + 8) / 64 + 1) * 64 = omega (arith, length-append k (tail m), length-tail m) in
    let count : length (k ++ tail m) / 64 ≡ suc ((length m + 8) / 64 + 1) = omega arith in
    let whole : final_hash initial_hash_256 (k ++ m) ≡ after_text (compress initial_hash_256 k) m =
    rw (p, count) (hash_after_first initial_hash_256 k (tail m) ((length m + 8) / 64 + 1) long) in
    ap (λ (x : List ℕ). digest_bytes x 8) (e ∙ sym whole)

-- a block that lies within the second part of a text
pub block_within : (a rest : List ℕ) (i s : ℕ) → s ≡ 64 * i - length a → length a ≤ 64 * i → s + 64 ≤ length rest
    → take (s + 64 - s) (drop s rest) ≡ block_at (tail (a ++ rest)) i
block_within a rest i s es low high =
    let end : List ℕ = padding (64 + length (a ++ rest)) in
    let from : drop (i * 64) (a ++ (rest ++ end)) ≡ drop s (rest ++ end) = drop_front a (rest ++ end) s (i * 64) (omega arith) in
    let part : drop s (rest ++ end) ≡ drop s rest ++ end = drop-append-le s rest end (omega arith) in
    let long : 64 ≤ length (drop s rest) = omega (arith, length-drop s rest) in
    let width : s + 64 - s ≡ 64 = omega arith in
    rw (width, append_assoc a rest end, from, part) (sym (take-append-le 64 (drop s rest) end long))
