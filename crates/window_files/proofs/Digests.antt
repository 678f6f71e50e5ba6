-- The lines of digests, one after the other.
use Rattle.std.proofs.Common.{◌≡◌, ◌≢◌, ℕ, ◌+◌, ◌<◌, ◌≤◌, ◌==◌, true, List, [], ◌∷◌, ◌++◌, length, drop, take, Ok, None, arith}
use Rattle.std.proofs.Common.{refl, sym, ap, ◌∙◌, append_assoc}
use Rattle.std.specs.List.{AllByRecursion, flat_map}
use Rattle.std.proofs.lemmas.Bool.{eqb-true}
use Rattle.std.proofs.lemmas.List.{length-append, append-nil, append_cancel_right}
use Rattle.std.proofs.lemmas.Grind.{flat_map-append}
use Rattle.std.proofs.Math.Seq.{drop-append_seam, take-append_seam}
use Rattle.hex.specs.Hex.{encode_lower, decode_sized}
use Rattle.hex.proofs.HexLemmas.{decode_sized-encode_lower}
use Rattle.definitions.specs.Bytes.{Bytes}
use Rattle.deployment.proofs.Lines.{all_push, length_push}
use Rattle.key_file.proofs.Lines.{length-key}
use Rattle.window_files.specs.Files.{IsDigest, digest_line}
use Rattle.window_files.specs.Reading.{IsDigestAt, AreDigestsOf}

-- the line of each digest is as long
length-line : (d : Bytes) → IsDigest d → length (digest_line d) ≡ 65
length-line d fits = let digits = length-key d fits in
    let whole = length-append (encode_lower d) (10 ∷ []) in omega (arith, digits, whole)

-- two fronts of one text that are as long
same_fronts : (a b r s : Bytes) → length a ≡ length b → a ++ r ≡ b ++ s → (a ≡ b) × (r ≡ s)
same_fronts a b r s long e = (
  sym (take-append_seam a r) ∙ ap (take (length a)) e ∙ rw long (take-append_seam b s),
  sym (drop-append_seam a r) ∙ ap (drop (length a)) e ∙ rw long (drop-append_seam b s),
)

-- two digests' lines at the front of one text
same_line : (d x : Bytes) (r s : Bytes) → IsDigest d → IsDigest x → digest_line d ++ r ≡ digest_line x ++ s
    → (digest_line d ≡ digest_line x) × (r ≡ s)
same_line d x r s p q e =
    same_fronts (digest_line d) (digest_line x) r s (length-line d p ∙ sym (length-line x q)) e

-- what stands behind the lines of some digests, where all is the lines of no fewer
behind_lines : (ds es : List Bytes) (rest : Bytes) → AllByRecursion IsDigest ds → AllByRecursion IsDigest es
    → length ds ≤ length es → flat_map digest_line ds ++ rest ≡ flat_map digest_line es
    → (left : List Bytes) × AllByRecursion IsDigest left × (length left + length ds ≡ length es)
    × (rest ≡ flat_map digest_line left)
behind_lines [] es rest all every fewer e = (es, every, omega arith, e)
behind_lines (d ∷ ds) [] rest all every fewer e = absurd (omega (arith, fewer))
behind_lines (d ∷ ds) (x ∷ xs) rest all every fewer e =
    let tails = same_line d x (flat_map digest_line ds ++ rest) (flat_map digest_line xs) all.0 every.0
    (sym (append_assoc (digest_line d) (flat_map digest_line ds) rest) ∙ e) in
    let more = behind_lines ds xs rest all.1 every.1 (omega (arith, fewer)) tails.1 in
    (more.0, more.1, omega (arith, more.2), more.3)

-- so many digests are read
pub record AreRead (count : ℕ) (text : Bytes) (ds : List Bytes) (rest : Bytes) : Type 0 where
  pub fit : AllByRecursion IsDigest ds
  pub long : length ds ≡ count
  pub is : text ≡ flat_map digest_line ds ++ rest

pub none_read : (text : Bytes) → AreRead 0 text [] text
none_read text = record { fit = tt; long = refl; is = refl }

pub one_more : (i : ℕ) (text rest more : Bytes) (ds now : List Bytes) (d : Bytes) → AreRead i text ds rest
    → IsDigest d → rest ≡ digest_line d ++ more → now ≡ ds ++ d ∷ [] → AreRead (i + 1) text now more
one_more i text rest more ds now d read fits e pushed =
    let lines : flat_map digest_line (ds ++ d ∷ []) ≡ flat_map digest_line ds ++ digest_line d =
    flat_map-append digest_line ds (d ∷ [])
    ∙ ap (λ t. flat_map digest_line ds ++ t) (append-nil (digest_line d)) in
    rw pushed (record {
      fit = all_push IsDigest ds d read.fit fits;
      long = omega (arith, length_push ds d, read.long);
      is = read.is ∙ ap (λ t. flat_map digest_line ds ++ t) e
          ∙ sym (append_assoc (flat_map digest_line ds) (digest_line d) more)
          ∙ ap (λ t. t ++ more) (sym lines);
    })

-- one is missing
pub no_digest : (i count : ℕ) (text rest : Bytes) (ds found : List Bytes) → i < count → AreRead i text ds rest
    → IsDigestAt rest None → AreDigestsOf count found text → ⊥
no_digest i count text rest ds found below read none are =
    let left = behind_lines ds found rest read.fit are.1 (omega (arith, read.long, are.0))
    (sym read.is ∙ are.2) in
    by left.0 left.1 (omega (arith, left.2, read.long, are.0)) left.3
  where
    by : (left : List Bytes) → AllByRecursion IsDigest left → 0 < length left → rest ≡ flat_map digest_line left
        → ⊥
    by [] all some e = omega (arith, some)
    by (x ∷ xs) all some e = none x (flat_map digest_line xs) all.0 e

-- something stands behind all of them
pub something_left : (count : ℕ) (text rest : Bytes) (ds found : List Bytes) → AreRead count text ds rest
    → rest ≢ [] → AreDigestsOf count found text → ⊥
something_left count text rest ds found read some are =
    let left = behind_lines ds found rest read.fit are.1 (omega (arith, read.long, are.0))
    (sym read.is ∙ are.2) in
    by left.0 (omega (arith, left.2, read.long, are.0)) left.3
  where
    by : (left : List Bytes) → length left ≡ 0 → rest ≡ flat_map digest_line left → ⊥
    by [] none e = some e
    by (x ∷ xs) none e = omega (arith, none)

-- a text of no bytes
pub is_nothing : (text : Bytes) → true ≡ (length text == 0) → text ≡ []
is_nothing [] e = refl
is_nothing (x ∷ xs) e = absurd (let none = eqb-true (length (x ∷ xs)) 0 (sym e) in omega (arith, none))

-- nothing does
pub all_read : (count : ℕ) (text rest : Bytes) (ds : List Bytes) → AreRead count text ds rest → rest ≡ []
    → AreDigestsOf count ds text
all_read count text rest ds read end = (
  read.long,
  read.fit,
  read.is ∙ ap (λ t. flat_map digest_line ds ++ t) end ∙ append-nil (flat_map digest_line ds),
)

-- lines are of one list of digests
same_digest : (d x : Bytes) → IsDigest d → IsDigest x → digest_line d ≡ digest_line x → d ≡ x
same_digest d x p q e =
    let digits = append_cancel_right (encode_lower d) (encode_lower x) (10 ∷ []) e in
    let first = decode_sized-encode_lower d 32 p.0 p.1 in
    let second = decode_sized-encode_lower x 32 q.0 q.1 in
    let both : decode_sized (encode_lower d) 32 ≡ Ok x = ap (λ t. decode_sized t 32) digits ∙ second in
    cc (first, both)

pub same_digests : (ds es : List Bytes) → AllByRecursion IsDigest ds → AllByRecursion IsDigest es
    → length ds ≡ length es → flat_map digest_line ds ≡ flat_map digest_line es → ds ≡ es
same_digests [] [] all every long e = refl
same_digests [] (x ∷ xs) all every long e = absurd (omega (arith, long))
same_digests (d ∷ ds) [] all every long e = absurd (omega (arith, long))
same_digests (d ∷ ds) (x ∷ xs) all every long e =
    let both = same_line d x (flat_map digest_line ds) (flat_map digest_line xs) all.0 every.0 e in
    let first = same_digest d x all.0 every.0 both.0 in
    let more = same_digests ds xs all.1 every.1 (omega (arith, long)) both.1 in
    cc (first, more)
