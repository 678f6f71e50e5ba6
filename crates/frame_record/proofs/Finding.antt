-- Whether a frame that brought a block is recorded.
use Rattle.std.proofs.Common.{ℕ, ◌≡◌, ◌<◌, ◌≤◌, ◌&&◌, true, false, List, length, ap, sym, ◌∙◌, arith}
use Rattle.std.proofs.Common.{get_or, inl, inr, ltb}
use Rattle.std.specs.List.{list_any}
use Rattle.std.specs.Prelude.{bytes_eq}
use Rattle.std.proofs.lemmas.Bool.{cases_lt, ltb-true, ne_eqb}
use Rattle.std.proofs.lemmas.List.{get_or_default}
use Rattle.std.proofs.lemmas.List.Folds.{list_any_at, list_any_none}
use Rattle.definitions.specs.Bytes.{Bytes}
use Rattle.frame_record.specs.declared.recorded.Recorded.{Recorded}
use Rattle.frame_record.specs.Costs.{is_of}
use Rattle.frame_record.specs.Recording.{AreInOrder}

-- of another height it isn't
lower-isnt : (height : ℕ) (block : Bytes) (r : Recorded) → r.height < height → is_of height block r ≡ false
lower-isnt height block r l =
    let apart = ne_eqb r.height height (λ e. omega (arith, l, e)) in ap (λ b. b && bytes_eq r.block block) apart

-- a frame at a place, which was read
abbrev IsAt : List Recorded → (place : ℕ) → Recorded → Type 0
IsAt frames place r = r ≡ get_or frames place r

-- where one is of a lower height, and none behind it is the one, none is
pub none-down : (height : ℕ) (block : Bytes) (frames : List Recorded) (i : ℕ) (r : Recorded) → AreInOrder frames
    → i < length frames → IsAt frames i r → ltb r.height height ≡ true
    → ((j : ℕ) (d : Recorded) → i < j → j < length frames → is_of height block (get_or frames j d) ≡ false)
    → list_any (is_of height block) frames ≡ false
none-down height block frames i r ordered l at low behind =
    list_any_none (is_of height block) frames (λ j d m. elim (cases_lt i j) [
      | inl k ↦ behind j d k m
      | inr k ↦ lower-isnt height block (get_or frames j d)
          (let up = ordered j i d k l in
          let same = ap (λ (x : Recorded). x.height) (get_or_default frames i d r l ∙ sym at) in
          omega (arith, up, same, ltb-true r.height height low))
    ])

pub none-at-all : (height : ℕ) (block : Bytes) (frames : List Recorded)
    → ((j : ℕ) (d : Recorded) → j < length frames → is_of height block (get_or frames j d) ≡ false)
    → list_any (is_of height block) frames ≡ false
none-at-all height block frames each = list_any_none (is_of height block) frames each

pub one-there : (height : ℕ) (block : Bytes) (frames : List Recorded) (i : ℕ) (r : Recorded) → i < length frames
    → IsAt frames i r → is_of height block r ≡ true → list_any (is_of height block) frames ≡ true
one-there height block frames i r l at is =
    list_any_at (is_of height block) frames i r l (ap (λ (x : Recorded). is_of height block x) (sym at) ∙ is)

-- one more isn't the one
pub one-more-isnt : (height : ℕ) (block : Bytes) (frames : List Recorded) (i : ℕ) (r : Recorded) → i < length frames
    → IsAt frames i r → is_of height block r ≡ false
    → ((j : ℕ) (d : Recorded) → i < j → j < length frames → is_of height block (get_or frames j d) ≡ false)
    → (j : ℕ) (d : Recorded) → i ≤ j → j < length frames → is_of height block (get_or frames j d) ≡ false
one-more-isnt height block frames i r l at isnt behind j d k m = elim (cases_lt i j) [
  | inl lt ↦ behind j d lt m
  | inr le ↦
      let here : j ≡ i = omega (arith, k, le) in
      ap (λ n. is_of height block (get_or frames n d)) here
      ∙ (ap (λ (x : Recorded). is_of height block x) (get_or_default frames i d r l ∙ sym at) ∙ isnt)
]
