-- Sources, one after the other.
use Rattle.std.proofs.Common.{ℕ, ◌≡◌, ◌<◌, ◌+◌, List, [], ◌∷◌, ◌++◌, length, take, Option, sym, ap, subst}
use Rattle.std.proofs.Common.{◌∙◌, arith, length-append}
use Rattle.std.specs.Prelude.{slice_index_or}
use Rattle.std.specs.List.{AllByRecursion}
use Rattle.std.specs.Borrow.{Bor}
use Rattle.std.proofs.lemmas.List.{take_more}
use Rattle.ids.specs.Sizes.{Sizes}
use Rattle.definitions.specs.Bytes.{Bytes}
use Rattle.definitions.specs.Frames.{Frame}
use Rattle.definitions.specs.Premises.{IsReadFrom}
use Rattle.world_schedule.specs.declared.event.Source.{Source}
use Rattle.world_schedule.specs.declared.outcome.SentFrame.{SentFrame}
use Rattle.world_schedule.specs.Schedules.{source_of, sources_of}
use Rattle.world_schedule.specs.Sources.{AreBytes, AreBytesOf}

-- one more of a row
longer : (ss : List Source) (i : ℕ) (d s : Source) → i < length ss → s ≡ slice_index_or ss i d
    → take (i + 1) ss ≡ take i ss ++ s ∷ []
longer ss i d s l is = take_more ss i d l ∙ ap (λ x. take i ss ++ x ∷ []) (sym is)

-- one more is read
read-more : (sizes : Sizes) (reads : List (Option Frame)) (ss : List Source) (r : Option Frame) (s : Source)
    → length reads ≡ length ss → AllByRecursion (IsReadFrom sizes) (sources_of reads ss)
    → IsReadFrom sizes (source_of r s)
    → AllByRecursion (IsReadFrom sizes) (sources_of (reads ++ r ∷ []) (ss ++ s ∷ []))
read-more sizes [] [] r s e h k = (k, tt)
read-more sizes (q ∷ reads) [] r s e h k = absurd (omega (arith, e))
read-more sizes [] (x ∷ ss) r s e h k = absurd (omega (arith, e))
read-more sizes (q ∷ reads) (x ∷ ss) r s e h k =
    (h.0, read-more sizes reads ss r s (omega (arith, e)) h.1 k)

pub reads-on : (sizes : Sizes) (ss : List Source) (i : ℕ) (d s : Source) (reads : List (Option Frame))
    (r : Option Frame) → i < length ss → s ≡ slice_index_or ss i d
    → length reads ≡ length (take i ss) → AllByRecursion (IsReadFrom sizes) (sources_of reads (take i ss))
    → IsReadFrom sizes (source_of r s)
    → (more : List (Option Frame)) × (length more ≡ length (take (i + 1) ss))
    × AllByRecursion (IsReadFrom sizes) (sources_of more (take (i + 1) ss))
reads-on sizes ss i d s reads r l is e h k =
    let whole = sym (longer ss i d s l is) in
    let one = length-append reads (r ∷ []) in
    let two = length-append (take i ss) (s ∷ []) in
    let same : length (reads ++ r ∷ []) ≡ length (take i ss ++ s ∷ []) = omega (arith, one, two, e) in (
      reads ++ r ∷ [],
      same ∙ ap length whole,
      subst (λ x. AllByRecursion (IsReadFrom sizes) (sources_of (reads ++ r ∷ []) x)) whole
          (read-more sizes reads (take i ss) r s e h k),
    )

-- one more has its bytes
bytes-more : (sent : List SentFrame) (ss : List Source) (bs : List (Bor Bytes)) (s : Source) (b : Bor Bytes)
    → AreBytesOf sent ss bs → AreBytes sent s b.now → AreBytesOf sent (ss ++ s ∷ []) (bs ++ b ∷ [])
bytes-more sent [] [] s b h k = (k, tt)
bytes-more sent [] (c ∷ bs) s b h k = absurd h
bytes-more sent (x ∷ ss) [] s b h k = absurd h
bytes-more sent (x ∷ ss) (c ∷ bs) s b h k = (h.0, bytes-more sent ss bs s b h.1 k)

pub bytes-on : (sent : List SentFrame) (ss : List Source) (i : ℕ) (d s : Source) (bs : List (Bor Bytes))
    (b : Bor Bytes) → i < length ss → s ≡ slice_index_or ss i d → AreBytesOf sent (take i ss) bs
    → AreBytes sent s b.now → AreBytesOf sent (take (i + 1) ss) (bs ++ b ∷ [])
bytes-on sent ss i d s bs b l is h k =
    subst (λ x. AreBytesOf sent x (bs ++ b ∷ [])) (sym (longer ss i d s l is))
    (bytes-more sent (take i ss) bs s b h k)
