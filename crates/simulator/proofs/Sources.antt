-- Sources behind one another, each behind a space.
use Rattle.std.proofs.Common.{◌≡◌, ◌≢◌, ℕ, suc, ◌/◌, ◌%◌, ◌<◌, ◌≤◌, ◌^◌, List, [], ◌∷◌, ◌++◌, length, drop}
use Rattle.std.proofs.Common.{Option, Some, None, Err, arith, sym, refl, ◌∙◌, ap, codes, decimal}
use Rattle.std.proofs.Common.{slice_index, append_assoc, rules, Vec, Global, Bor, true, false, option_map}
use Rattle.std.specs.Option.{is_some}
use Rattle.std.specs.List.{All}
use Rattle.std.proofs.lemmas.List.{append-nil}
use Rattle.std.proofs.lemmas.List.Concat.{flat_map-append}
use Rattle.std.proofs.lemmas.List.Elements.{All-head, All-tail, All-get_or, All-from_recursion}
use Rattle.hex.specs.Hex.{encode_lower, encode_with, lower_digits, IsBytes}
use Rattle.definitions.specs.Bytes.{Bytes}
use Rattle.run_report.specs.Names.{replica_text}
use Rattle.simulator.specs.Texts.{IsReadOf, IsReading, IsWord, IsCut, IsBelow, behind_word}
use Rattle.simulator.specs.Lines.{IsSource, source_text, sources_text, IsGathering, gathering_text}
use Rattle.simulator.specs.declared.words.NotRead.{NotRead}
use Rattle.simulator.specs.declared.words.NotRead.TheVariants.{Bad, Memory}
use Rattle.simulator.proofs.Numbers.{no_letter}
use Rattle.simulator.proofs.Parties.{cut_once, decimal_word, replica_word, word_behind}
use Rattle.world_schedule.specs.declared.event.Source.{Source}
use Rattle.world_schedule.specs.declared.event.Source.TheVariants.{Record, Bytes as SomeBytes}

-- ---- one source

digit_above : (d : ℕ) → d < 16 → slice_index lower_digits d ≢ 32
digit_above d small e =
    let high : 48 ≤ slice_index lower_digits d = All-get_or (λ c. 48 ≤ c) lower_digits d 0 small
    (All-from_recursion (λ c. 48 ≤ c) lower_digits (search rules)) in
    omega (arith, high, e)

hex_word : (bytes : Bytes) → IsBytes bytes → IsWord (encode_lower bytes)
unfolding encode_with
hex_word [] fits = λ i within. absurd (omega (arith, within))
hex_word (b ∷ bytes) fits =
    let small : b < 256 = fits 0 in
    word_behind (slice_index lower_digits (b / 16)) (slice_index lower_digits (b % 16) ∷ encode_lower bytes)
    (digit_above (b / 16) (omega (arith, small)))
    (word_behind (slice_index lower_digits (b % 16)) (encode_lower bytes)
    (digit_above (b % 16) (omega (arith, small))) (hex_word bytes (λ i. fits (suc i))))

source_word : (s : Source) → IsSource s → IsWord (source_text s)
source_word (Record frame) fits = decimal_word frame fits
source_word (SomeBytes bytes) fits =
    word_behind 120 (encode_lower bytes.items) (λ e. omega (arith, e)) (hex_word bytes.items fits)

-- where the digits behind the letter write no bytes, the word is no source
pub no_source : (word digits : Bytes) → word ≡ 120 ∷ digits → (w : NotRead)
    → IsReading (λ (v : Vec ℕ Global). encode_lower v.items) (λ v. IsBytes v.items) digits (Err w)
    → IsReading source_text IsSource word (Err w)
no_source word digits whole Memory none = tt
no_source word digits whole Bad none = λ s fits spelled. by s fits (spelled ∙ whole)
  where
    by : (s : Source) → IsSource s → source_text s ≡ 120 ∷ digits → ⊥
    by (Record frame) fits e =
        no_letter frame 120 fits (omega arith) 0 (omega (arith, ap length e))
        (ap (λ (t : Bytes). slice_index t 0) e)
    by (SomeBytes bytes) fits e = none bytes fits (ap (drop 1) e)

-- nor is a word that begins otherwise and isn't a number
pub no_number : (word : Bytes) → ((rest : Bytes) → word ≢ 120 ∷ rest)
    → IsReadOf decimal (IsBelow (2 ^ 64)) word None → IsReading source_text IsSource word (Err Bad)
no_number word other none = λ s. by s
  where
    by : (s : Source) → IsSource s → source_text s ≢ word
    by (Record frame) fits spelled = none frame fits spelled
    by (SomeBytes bytes) fits spelled = other (encode_lower bytes.items) (sym spelled)

-- ---- several

-- what stands behind a word is nothing, or a space and more
others_behind : List Source → Option Bytes
others_behind [] = None
others_behind (s ∷ ss) = Some (source_text s ++ sources_text ss)

is_behind : (ss : List Source) → behind_word (others_behind ss) ≡ sources_text ss
unfolding others_behind
is_behind [] = refl
is_behind (s ∷ ss) = refl

-- the sources that a text spells, the first of them and the others
pub record First (word : Bytes) (rest : Option Bytes) (s : Source) (others : List Source) : Type 0 where
  pub fits : IsSource s
  pub others_fit : All IsSource others
  pub spells : source_text s ≡ word
  pub behind : sources_text others ≡ behind_word rest

pub first_source : (fields word : Bytes) (rest : Option Bytes) → IsCut fields word rest → (more : List Source)
    → All IsSource more → sources_text more ≡ behind_word (Some fields)
    → (s : Source) × (others : List Source) × First word rest s others
first_source fields word rest cut [] fits e = absurd (omega (arith, ap length e))
first_source fields word rest cut (s ∷ others) fits e =
    let one = All-head IsSource s others fits in
    let both = cut_once (source_text s) word (others_behind others) rest (source_word s one) cut.first
    (ap (λ t. source_text s ++ t) (is_behind others) ∙ ap (drop 1) e ∙ cut.whole) in (
      s,
      others,
      record {
        fits = one;
        others_fit = All-tail IsSource s others fits;
        spells = both.0;
        behind = sym (is_behind others) ∙ both.1;
      },
    )

-- where the next word is no source, the whole text spells none
pub unspelled : (text fields word : Bytes) (rest : Option Bytes) → IsCut fields word rest → (w : NotRead)
    → IsReading source_text IsSource word (Err w)
    → ((ss : List Source) → All IsSource ss → sources_text ss ≡ text
    → (more : List Source) × All IsSource more × (sources_text more ≡ behind_word (Some fields)))
    → IsReading (λ (v : Vec Source Global). sources_text v.items) (λ v. All IsSource v.items) text (Err w)
unspelled text fields word rest cut Memory none only = tt
unspelled text fields word rest cut Bad none only = λ v fits spelled.
    let more = only v.items fits spelled in
    let first = first_source fields word rest cut more.0 more.1 more.2 in
    none first.0 first.2.fits first.2.spells

pub more_spelled : (ss : List Source) (s : Source) (text fields word : Bytes) (rest : Option Bytes)
    → IsCut fields word rest → source_text s ≡ word
    → sources_text ss ++ behind_word (Some fields) ≡ text
    → sources_text (ss ++ s ∷ []) ++ behind_word rest ≡ text
more_spelled ss s text fields word rest cut spells before =
    let one : sources_text (s ∷ []) ≡ 32 ∷ source_text s = append-nil (32 ∷ source_text s) in
    let joined : sources_text (ss ++ s ∷ []) ≡ sources_text ss ++ 32 ∷ source_text s =
    flat_map-append (λ q. codes " " ++ source_text q) ss (s ∷ []) ∙ ap (λ t. sources_text ss ++ t) one in
    let inner : source_text s ++ behind_word rest ≡ fields =
    ap (λ w. w ++ behind_word rest) spells ∙ sym cut.whole in
    ap (λ t. t ++ behind_word rest) joined
    ∙ append_assoc (sources_text ss) (32 ∷ source_text s) (behind_word rest)
    ∙ ap (λ t. sources_text ss ++ 32 ∷ t) inner ∙ before

-- ---- behind a replica

-- where no replica stands in front, or nothing behind it, or no sources, it is no gathering
pub gathering_cut : (fields word : Bytes) (rest : Option Bytes) → IsCut fields word rest
    → (g : ℕ × Vec Source Global) → IsGathering g → gathering_text g ≡ fields
    → (replica_text g.0 ≡ word) × (sources_text g.1.items ≡ behind_word rest)
gathering_cut fields word rest cut g fits spelled =
    let both = cut_once (replica_text g.0) word (others_behind g.1.items) rest (replica_word g.0 fits.0)
    cut.first (ap (λ t. replica_text g.0 ++ t) (is_behind g.1.items) ∙ spelled ∙ cut.whole) in
    (both.0, sym (is_behind g.1.items) ∙ both.1)

pub none_behind : (fields word : Bytes) (r : Option (Bor Bytes)) → IsCut fields word (option_map (λ x. x.now) r)
    → is_some r ≡ false → (g : ℕ × Vec Source Global) → IsGathering g → gathering_text g ≢ fields
none_behind fields word None cut e g fits spelled =
    empty g.1.items fits.2 (gathering_cut fields word None cut g fits spelled).1
  where
    empty : (ss : List Source) → 0 < length ss → sources_text ss ≢ []
    empty [] some e = absurd (omega (arith, some))
    empty (s ∷ ss) some e = omega (arith, ap length e)
none_behind fields word (Some x) cut e g fits spelled = let never : ⊥ = cc e in never

pub some_behind : (ss : List Source) (r : Option (Bor Bytes)) → is_some r ≡ true
    → sources_text ss ≡ behind_word (option_map (λ x. x.now) r) → 0 < length ss
some_behind ss None some e = let never : ⊥ = cc some in absurd never
some_behind [] (Some x) some e = absurd (omega (arith, ap length e))
some_behind (s ∷ ss) (Some x) some e = omega arith

pub no_sources : (fields word : Bytes) (rest : Option Bytes) → IsCut fields word rest → (w : NotRead)
    → IsReading (λ (v : Vec Source Global). sources_text v.items) (λ v. All IsSource v.items)
    (behind_word rest) (Err w) → IsReading gathering_text IsGathering fields (Err w)
no_sources fields word rest cut Memory none = tt
no_sources fields word rest cut Bad none = λ g fits spelled.
    none g.1 fits.1 (gathering_cut fields word rest cut g fits spelled).1
