-- A turn keeps what is said of the bytes so far: an or is 0 where both of its sides are, and an exclusive or where its
-- two are equal.
use Rattle.std.proofs.Common.{◌≡◌, ◌∙◌, ◌+◌, ℕ, List, take, get_or, bit_or, bit_xor, ap, sym, arith}
use Rattle.std.specs.Int.Bits.{xor_add_and, xor_self}
use Rattle.std.proofs.lemmas.List.{get_or-take, take-take, take_more_same}
use Rattle.std.proofs.lemmas.Nat.{and_le_l, and_le_r, le_or_l, le_or_r}
use Rattle.handshake.proofs.parts.are_equal.Goals as goal

none_differs : (x y : ℕ) → bit_xor x y ≡ 0 → x ≡ y
none_differs x y none = omega (arith, xor_add_and x y, and_le_l x y, and_le_r x y)

equal_so_far : (d x y : ℕ) → d ≡ 0 → x ≡ y → bit_or d (bit_xor x y) ≡ 0
equal_so_far d x y none same = ap (λ d. bit_or d (bit_xor x y)) none ∙ ap (λ x. bit_xor x y) same ∙ xor_self y

pub loop-i-preserved : goal.loop-i-preserved
loop-i-preserved c =
    let a = c.args.a.now in
    let b = c.args.b.now in
    let i = c.loop-i.i in
    let d = c.loop-i.differing in
    let x = bit_xor (get_or a i 0) (get_or b i 0) in
    record {
      same = λ none.
          take_more_same a b i 0 (omega arith) (omega arith)
          (c.loop-i.invariant.same (omega (arith, le_or_l d x)))
          (none_differs (get_or a i 0) (get_or b i 0) (omega (arith, le_or_r d x)));
      none = λ same.
          let before : take i a ≡ take i b =
          sym (take-take i (i + 1) a (omega arith)) ∙ ap (take i) same ∙ take-take i (i + 1) b (omega arith) in
          let here : get_or a i 0 ≡ get_or b i 0 =
          sym (get_or-take (i + 1) a i 0 (omega arith)) ∙ ap (λ (s : List ℕ). get_or s i 0) same
          ∙ get_or-take (i + 1) b i 0 (omega arith) in
          equal_so_far d (get_or a i 0) (get_or b i 0) (c.loop-i.invariant.none before) here;
    }
