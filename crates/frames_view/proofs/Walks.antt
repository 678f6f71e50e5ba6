-- Going over a list element by element, as a loop does.
use Rattle.std.proofs.Common.{◌≡◌, ℕ, suc, ◌-◌, ◌+◌, ◌≤◌, ◌<◌, Option, Some, None, refl, sym, ◌∙◌, arith}
use Rattle.std.proofs.Common.{add-one}
use Rattle.std.proofs.lemmas.Bool.{le-leb, lt-leb}
use Rattle.definitions.specs.Bytes.{Bytes}
use Rattle.frames_view.specs.Readings.{Reader, behind, behind_rising}

module _ {X : Type 0} (read : Reader X) (count i : ℕ) (bytes : Bytes) (total : Option Bytes) where
  -- an element that isn't there is wanting in all
  pub behind_ends : i < count → read bytes ≡ None → behind read (count - i) bytes ≡ total → total ≡ None
  behind_ends lt none so_far =
      let k : count - i ≡ suc (count - (i + 1)) = omega arith in
      sym so_far ∙ rw (k, none) refl

  -- behind one more
  pub behind_goes_on : (x : X) (after : Bytes) → i < count → read bytes ≡ Some (x, after)
      → behind read (count - i) bytes ≡ total → behind read (count - (i + 1)) after ≡ total
  behind_goes_on x after lt some so_far =
      let k : count - i ≡ suc (count - (i + 1)) = omega arith in
      let one : behind read (count - i) bytes ≡ behind read (count - (i + 1)) after = rw (k, some) refl in
      sym one ∙ so_far

  -- behind all
  pub behind_all : count ≤ i → behind read (count - i) bytes ≡ total → Some bytes ≡ total
  behind_all le so_far =
      let k : count - i ≡ 0 = omega arith in
      let one : behind read (count - i) bytes ≡ Some bytes = rw k refl in
      sym one ∙ so_far

  module _ (rank : X → ℕ) (least : ℕ) where
    pub rising_ends : i < count → read bytes ≡ None
        → behind_rising rank read least (count - i) bytes ≡ total → total ≡ None
    rising_ends lt none so_far =
        let k : count - i ≡ suc (count - (i + 1)) = omega arith in
        sym so_far ∙ rw (k, none) refl

    -- one that doesn't rise is refused
    pub rising_refuses : (x : X) (after : Bytes) → i < count → read bytes ≡ Some (x, after) → rank x < least
        → behind_rising rank read least (count - i) bytes ≡ total → total ≡ None
    rising_refuses x after lt some low so_far =
        let k : count - i ≡ suc (count - (i + 1)) = omega arith in
        let test = lt-leb least (rank x) low in
        sym so_far ∙ rw (k, some, test) refl

    pub rising_goes_on : (x : X) (after : Bytes) → i < count → read bytes ≡ Some (x, after) → least ≤ rank x
        → behind_rising rank read least (count - i) bytes ≡ total
        → behind_rising rank read (rank x + 1) (count - (i + 1)) after ≡ total
    rising_goes_on x after lt some high so_far =
        let k : count - i ≡ suc (count - (i + 1)) = omega arith in
        let test = le-leb least (rank x) high in
        let one : behind_rising rank read least (count - i) bytes
        ≡ behind_rising rank read (suc (rank x)) (count - (i + 1)) after = rw (k, some, test) refl in
        rw add-one (sym one ∙ so_far)

    pub rising_all : count ≤ i → behind_rising rank read least (count - i) bytes ≡ total → Some bytes ≡ total
    rising_all le so_far =
        let k : count - i ≡ 0 = omega arith in
        let one : behind_rising rank read least (count - i) bytes ≡ Some bytes = rw k refl in
        sym one ∙ so_far
