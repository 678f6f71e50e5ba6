-- The bytes of a handshake are their parts, and the parts are read back.
use Rattle.std.proofs.Common.{◌≡◌, ◌∙◌, ℕ, ◌+◌, ◌<◌, ◌≤◌, ◌^◌, ◌++◌, length, take, drop, get_or, refl, sym, ap}
use Rattle.std.proofs.Common.{inl, inr, arith, append_assoc}
use Rattle.std.proofs.lemmas.List.{take-append-drop, drop-drop, take_all, take_at, drop_at, get_or-take, get_or-drop}
use Rattle.std.proofs.lemmas.List.{get_or_past, length-take, length-drop}
use Rattle.std.proofs.lemmas.Bool.{cases_lt}
use Rattle.std.proofs.lemmas.Nat.{be_bytes_2, from_be_bytes-to_be_bytes_2}
use Rattle.std.specs.Int.{w16, to_be_bytes, from_be_bytes}
use Rattle.definitions.specs.Bytes.{Bytes}
use Rattle.handshake.specs.declared.ask.Ask.{Ask}
use Rattle.handshake.specs.Texts.{ask_head, ask_in, ask_tag_in, answer_life_in, answer_tag_in}
use Rattle.handshake.specs.Laws.{AreBytes, IsAsk}

-- ---- bytes are their parts

-- bytes of a part are bytes
of_part : (bytes : Bytes) (n m i : ℕ) → ((j : ℕ) → get_or bytes j 0 < 256)
    → get_or (take n (drop m bytes)) i 0 < 256
of_part bytes n m i each =
    elim (cases_lt i n) as (λ _. get_or (take n (drop m bytes)) i 0 < 256) [
      | inl lt ↦ rw (get_or-take n (drop m bytes) i 0 lt, get_or-drop m bytes i 0) (each (m + i))
      | inr ge ↦ rw (get_or_past (take n (drop m bytes)) i 0 (omega (arith, ge, length-take n (drop m bytes))))
          (omega arith)
    ]

-- a number of two bytes is small
pub two_bytes : (bytes : Bytes) → ((j : ℕ) → get_or bytes j 0 < 256)
    → from_be_bytes w16 (take 2 bytes) < 2 ^ 16
two_bytes bytes each =
    let first : get_or (take 2 bytes) 0 0 < 256 = of_part bytes 2 0 0 each in
    let second : get_or (take 2 bytes) 1 0 < 256 = of_part bytes 2 0 1 each in
    omega (arith, first, second)

-- a number of two bytes is spelled as it stands
spelled : (bytes : Bytes) (m : ℕ) → ((j : ℕ) → get_or bytes j 0 < 256) → m + 2 ≤ length bytes
    → to_be_bytes w16 (from_be_bytes w16 (take 2 (drop m bytes))) ≡ take 2 (drop m bytes)
spelled bytes m each le =
    be_bytes_2 (take 2 (drop m bytes)) (from_be_bytes w16 (take 2 (drop m bytes)))
    (omega (arith, length-take 2 (drop m bytes), length-drop m bytes)) (λ i. of_part bytes 2 m i each) refl

-- a part with what stands behind it is what stands from its place on
put_before : (bytes part rest : Bytes) (at n next : ℕ) → at + n ≡ next → part ≡ take n (drop at bytes)
    → rest ≡ drop next bytes → part ++ rest ≡ drop at bytes
put_before bytes part rest at n next e first behind =
    let further : drop next bytes ≡ drop n (drop at bytes) =
    ap (λ (k : ℕ). drop k bytes) (sym e) ∙ sym (drop-drop n at bytes) in
    ap (λ (l : Bytes). l ++ rest) first
    ∙ (ap (λ (l : Bytes). take n (drop at bytes) ++ l) (behind ∙ further)
    ∙ take-append-drop n (drop at bytes))

-- parts in a row, from the left and from the right
in_row : (a b c d e f : Bytes) → ((((a ++ b) ++ c) ++ d) ++ e) ++ f ≡ a ++ (b ++ (c ++ (d ++ (e ++ f))))
in_row a b c d e f = simp append_assoc

-- parts that are cut at these places are the whole
whole : (bytes d a s l n t : Bytes) → d ≡ take 2 bytes → a ≡ take 2 (drop 2 bytes)
    → s ≡ take 32 (drop 4 bytes) → l ≡ take 16 (drop 36 bytes) → n ≡ take 16 (drop 52 bytes)
    → t ≡ drop 68 bytes → ((((d ++ a) ++ s) ++ l) ++ n) ++ t ≡ bytes
whole bytes d a s l n t hd ha hs hl hn ht =
    in_row d a s l n t
    ∙ put_before bytes d (a ++ (s ++ (l ++ (n ++ t)))) 0 2 2 refl hd
    (put_before bytes a (s ++ (l ++ (n ++ t))) 2 2 4 refl ha
    (put_before bytes s (l ++ (n ++ t)) 4 32 36 refl hs
    (put_before bytes l (n ++ t) 36 16 52 refl hl
    (put_before bytes n t 52 16 68 refl hn ht))))

-- an ask is what is read of it, and its tag
pub ask_whole : (bytes : Bytes) → AreBytes 100 bytes → ask_head (ask_in bytes) ++ ask_tag_in bytes ≡ bytes
ask_whole bytes are =
    whole bytes (to_be_bytes w16 (from_be_bytes w16 (take 2 bytes)))
    (to_be_bytes w16 (from_be_bytes w16 (take 2 (drop 2 bytes)))) (take 32 (drop 4 bytes)) (take 16 (drop 36 bytes))
    (take 16 (drop 52 bytes)) (take 32 (drop 68 bytes)) (spelled bytes 0 are.each (omega (arith, are.len)))
    (spelled bytes 2 are.each (omega (arith, are.len))) refl refl refl
    (take_all 32 (drop 68 bytes) (omega (arith, length-drop 68 bytes, are.len)))

-- so is an answer
pub answer_whole : (bytes : Bytes) → AreBytes 48 bytes → answer_life_in bytes ++ answer_tag_in bytes ≡ bytes
answer_whole bytes are =
    put_before bytes (take 16 bytes) (take 32 (drop 16 bytes)) 0 16 16 refl refl
    (take_all 32 (drop 16 bytes) (omega (arith, length-drop 16 bytes, are.len)))

-- ---- the parts are read back

-- four parts in a row, of these lengths
record Parts (bytes s l n t : Bytes) : Type 0 where
  pub sizes : take 32 bytes ≡ s
  pub life : take 16 (drop 32 bytes) ≡ l
  pub nonce : take 16 (drop 48 bytes) ≡ n
  pub tag : take 32 (drop 64 bytes) ≡ t

parts_of : (s l n t : Bytes) → length s ≡ 32 → length l ≡ 16 → length n ≡ 16 → length t ≡ 32
    → Parts (((s ++ l) ++ n) ++ t) s l n t
parts_of s l n t hs hl hn ht =
    let all = ((s ++ l) ++ n) ++ t in
    let row : all ≡ s ++ (l ++ (n ++ t)) = simp append_assoc in
    let from_life : drop 32 all ≡ l ++ (n ++ t) = ap (drop 32) row ∙ drop_at s (l ++ (n ++ t)) 32 hs in
    let from_nonce : drop 48 all ≡ n ++ t =
    sym (drop-drop 16 32 all) ∙ (ap (drop 16) from_life ∙ drop_at l (n ++ t) 16 hl) in
    let from_tag : drop 64 all ≡ t =
    sym (drop-drop 16 48 all) ∙ (ap (drop 16) from_nonce ∙ drop_at n t 16 hn) in
    record {
      sizes = ap (take 32) row ∙ take_at s (l ++ (n ++ t)) 32 hs;
      life = ap (take 16) from_life ∙ take_at l (n ++ t) 16 hl;
      nonce = ap (take 16) from_nonce ∙ take_at n t 16 hn;
      tag = ap (take 32) from_tag ∙ take_all 32 t (omega (arith, ht));
    }

-- what is read of an ask and its tag
pub record Read (bytes : Bytes) (a : Ask) (tag : Bytes) : Type 0 where
  pub ask_is : ask_in bytes ≡ a
  pub tag_is : ask_tag_in bytes ≡ tag

-- asks of the same parts are one
pub same_ask : (x y : Ask) → x.dialler ≡ y.dialler → x.acceptor ≡ y.acceptor → x.sizes ≡ y.sizes
    → x.life ≡ y.life → x.nonce ≡ y.nonce → x ≡ y
same_ask x y hd ha hs hl hn =
    let make : ℕ → ℕ → Bytes → Bytes → Bytes → Ask =
    λ d a s l n. record { dialler = d; acceptor = a; sizes = s; life = l; nonce = n } in
    ap (λ (d : ℕ). make d x.acceptor x.sizes x.life x.nonce) hd
    ∙ (ap (λ (a : ℕ). make y.dialler a x.sizes x.life x.nonce) ha
    ∙ (ap (λ (s : Bytes). make y.dialler y.acceptor s x.life x.nonce) hs
    ∙ (ap (λ (l : Bytes). make y.dialler y.acceptor y.sizes l x.nonce) hl
    ∙ ap (λ (n : Bytes). make y.dialler y.acceptor y.sizes y.life n) hn)))

pub ask_read : (a : Ask) (tag : Bytes) → IsAsk a → length tag ≡ 32 → Read (ask_head a ++ tag) a tag
ask_read a tag is len =
    let parts = parts_of a.sizes a.life a.nonce tag is.sizes is.life is.nonce len in
    record {
      ask_is = same_ask (ask_in (ask_head a ++ tag)) a (from_be_bytes-to_be_bytes_2 a.dialler is.dialler)
          (from_be_bytes-to_be_bytes_2 a.acceptor is.acceptor) parts.sizes parts.life parts.nonce;
      tag_is = parts.tag;
    }

-- what is read of an answer
pub answer_read : (life tag : Bytes) → length life ≡ 16 → length tag ≡ 32
    → (answer_life_in (life ++ tag) ≡ life) × (answer_tag_in (life ++ tag) ≡ tag)
answer_read life tag hl ht = (
  take_at life tag 16 hl,
  ap (take 32) (drop_at life tag 16 hl) ∙ take_all 32 tag (omega (arith, ht)),
)
