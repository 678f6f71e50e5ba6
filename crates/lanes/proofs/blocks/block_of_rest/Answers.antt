use Rattle.std.proofs.Common.{◌≡◌, ◌+◌, ◌-◌, ◌*◌, ◌/◌, ◌%◌, ◌^◌, ℕ, List, [], ◌∷◌, ◌++◌, length, replicate, ap, ◌∙◌, arith, length-append}
use Rattle.std.proofs.lemmas.List.{append_assoc, length-replicate}
use Rattle.std.specs.Int.{w64, to_be_bytes}
use Rattle.lanes.specs.Texts.{tail}
use Rattle.lanes.proofs.Windows.{IsWindow_block, IsWindow-zeros, length-tail}
use Rattle.lanes.proofs.blocks.block_of_rest.Goals as goal

pub returns : goal.returns
returns c = λ h lh window.
    let rest = c.args.rest.now in
    let m : List ℕ = h ++ rest in
    let lm : length m ≡ c.args.at + length rest = length-append h rest ∙ ap (λ (n : ℕ). n + length rest) lh in
    let start = 64 * c.args.i in
    let z : ℕ = (119 - (64 + length m) % 64) % 64 in
    let mark : List ℕ = 0x80 ∷ [] in
    let w2 = c.put.ensures h lh window in
    let w3 = c.put-2.ensures m lm w2 in
    let w4 = IsWindow-zeros c.put-2.new.block (m ++ mark) start z w3 in
    let long : length ((m ++ mark) ++ replicate z 0) ≡ 64 * ((c.args.at + length rest + 8) / 64) + 56 = omega (arith, length-append (m ++ mark) (replicate z 0), length-append m mark, length-replicate {A = ℕ} z 0) in
    let w5 = c.put-3.ensures ((m ++ mark) ++ replicate z 0) long w4 in
    let bits : c.to_be_bytes.result ≡ to_be_bytes w64 ((64 + length m) * 8 % 2 ^ 64) = rw lm c.to_be_bytes.ensures in
    let e : ((m ++ mark) ++ replicate z 0) ++ c.to_be_bytes.result ≡ tail m =
    ap (λ (x : List ℕ). ((m ++ mark) ++ replicate z 0) ++ x) bits ∙ append_assoc (m ++ mark) (replicate z 0) _ ∙ append_assoc m mark _ in
    let fits : length (tail m) ≡ ((length m + 8) / 64 + 1) * 64 = length-tail m in
    IsWindow_block c.put-3.new.block (tail m) c.args.i start (omega arith) (omega arith) (omega arith) (rw e at w5)
