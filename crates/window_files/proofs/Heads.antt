-- The first lines: what a text begins with is one thing alone.
use Rattle.std.proofs.Common.{◌≡◌, ℕ, ◌-◌, ◌^◌, ◌<◌, List, ◌++◌, Some, None, arith, sym, ap, ◌∙◌}
use Rattle.std.proofs.Common.{decimal, codes}
use Rattle.ids.specs.Sizes.{Sizes}
use Rattle.definitions.specs.Bytes.{Bytes}
use Rattle.deployment.specs.Fields.{IsAt, IsBelow}
use Rattle.deployment.proofs.Only.{same_number, same_sizes}
use Rattle.window_files.specs.declared.head.Head.{Head}
use Rattle.window_files.specs.Files.{Window, IsHead, IsWindow, head_text, text_of}
use Rattle.window_files.specs.Reading.{IsWithin}
use Rattle.window_files.proofs.Digests.{same_digests}

-- a number that isn't within its limits, where it stands, is none that is
pub out_of_limits : (word text rest : Bytes) (least most n : ℕ) → most < 2 ^ 64
    → IsAt (λ m. word ++ decimal m) (IsBelow (2 ^ 64)) text (Some (n, rest))
    → (IsWithin least most n → ⊥) → IsAt (λ m. word ++ decimal m) (IsWithin least most) text None
out_of_limits word text rest least most n small is out = λ m more fits e.
    let same = same_number word n m rest more is.0 (omega (arith, fits.1, small)) (sym is.1 ∙ e) in
    out (omega (arith, fits.0, same.0), omega (arith, fits.1, same.0))

-- a number that isn't there
pub not_there : (word text : Bytes) (least most : ℕ) → most < 2 ^ 64
    → IsAt (λ m. word ++ decimal m) (IsBelow (2 ^ 64)) text None
    → IsAt (λ m. word ++ decimal m) (IsWithin least most) text None
not_there word text least most small none = λ m more fits e. none m more (omega (arith, fits.1, small)) e

-- the lines one by one, of two that are the same
pub record Same (h k : Head) (r s : Bytes) : Type 0 where
  pub head : h ≡ k
  pub rest : r ≡ s

pub same_head : (h k : Head) (r s : Bytes) → IsHead h → IsHead k → head_text h r ≡ head_text k s → Same h k r s
same_head h k r s p q e =
    let sizes = same_sizes h.config k.config _ _ p.0 q.0 e in
    let number = same_number (codes "window ") h.number k.number _ _ (omega (arith, p.0.1, p.1)) (omega (arith, q.0.1, q.1)) sizes.1 in
    let height = same_number (codes "executed ") h.height k.height _ _ p.2 q.2 number.1 in
    let lowest = same_number (codes "from ") h.lowest k.lowest r s (omega (arith, p.4, p.2)) (omega (arith, q.4, q.2)) height.1 in
    record {
      head = equal h k sizes.0 number.0 height.0 lowest.0;
      rest = lowest.1;
    }
  where
    equal : (h k : Head) → h.config ≡ k.config → h.number ≡ k.number → h.height ≡ k.height → h.lowest ≡ k.lowest
        → h ≡ k
    equal h k a b c d =
        ap (λ (x : Sizes). record h { config = x }) a
        ∙ ap (λ (x : ℕ). record h { config = k.config; number = x }) b
        ∙ ap (λ (x : ℕ). record h { config = k.config; number = k.number; height = x }) c
        ∙ ap (λ (x : ℕ). record h { config = k.config; number = k.number; height = k.height; lowest = x }) d

-- a text is the file of one window
pub one_window : (v w : Window) → IsWindow v → IsWindow w → text_of v ≡ text_of w → v ≡ w
one_window v w p q e =
    let heads = same_head v.head w.head _ _ p.0 q.0 e in
    let counts = p.1 ∙ ap (λ (h : Head). h.height - (h.lowest - 1)) heads.head ∙ sym q.1 in
    let digests = same_digests v.digests w.digests p.2 q.2 counts heads.rest in
    ap (λ (h : Head). record v { head = h }) heads.head
    ∙ ap (λ (ds : List Bytes). record v { head = w.head; digests = ds }) digests
