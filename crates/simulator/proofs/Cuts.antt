-- Lines of printable characters, and where they end.
use Rattle.std.proofs.Common.{◌≡◌, ℕ, suc, List, ◌+◌, ◌-◌, ◌/◌, ◌%◌, slice_index, ◌^◌, ◌<◌, Bool, true}
use Rattle.std.proofs.Common.{false, [], ◌∷◌, ◌++◌, length, get_or, take, drop, Some, None, arith, sym}
use Rattle.std.proofs.Common.{refl, ◌∙◌, ap, codes, decimal, nat_lt, cond, lit≤, lit<, lt-ltb, position}
use Rattle.std.proofs.Common.{rules, add-one, append_assoc}
use Rattle.std.specs.List.{All, position_or_len}
use Rattle.std.specs.Str.{IsUtf8}
use Rattle.std.proofs.Math.Seq.{take-append_seam, drop-append-add, split_at, get_or-append_seam}
use Rattle.std.proofs.Math.ListN.{get_or-append, get_or-eq_default}
use Rattle.std.proofs.lemmas.List.{length-append, length-drop, take_all}
use Rattle.std.proofs.lemmas.List.Elements.{All-append, All-cons, All-nil, All-head, All-tail, All-push}
use Rattle.std.proofs.lemmas.List.Elements.{All-get_or, All-from_recursion}
use Rattle.std.proofs.lemmas.List.Quantifiers.{position-Some}
use Rattle.std.proofs.lemmas.List.Sums.{position_or_len_is}
use Rattle.std.proofs.lemmas.Fmt.{decimal_by_steps}
use Rattle.std.proofs.lemmas.Str.{IsUtf8-from_ascii}
use Rattle.std.proofs.lemmas.Bool.{eqb-true, ltb-true, ltb-false, ne_eqb}
use Rattle.hex.specs.Hex.{encode_lower, encode_with, lower_digits, IsBytes}
use Rattle.definitions.specs.Bytes.{Bytes}
use Rattle.simulator.specs.Texts.{IsBelow, spaced, party_text}
use Rattle.run_report.specs.Names.{replica_text, client_text}
use Rattle.simulator.specs.Lines.{IsHeading, heading_text, parties_text, submission_text, injection_text}
use Rattle.simulator.specs.Lines.{delivery_text, pruning_text, IsEvent, event_text, offer_text, offered_text}
use Rattle.simulator.specs.Lines.{IsSource, source_text, sources_text, gathering_text, IsLead, lead_text}
use Rattle.simulator.specs.Lines.{question_text}
use Rattle.simulator.specs.Schedules.{BeginsWith, IsPrintable, IsPlain, is_lf}
use Rattle.world_schedule.specs.declared.event.Event.{Event}
use Rattle.simulator.specs.declared.lines.Heading.{Heading}
use Rattle.world_schedule.specs.declared.event.Event.TheVariants.{Submit, Relay, Inject, Timeout, Beat}
use Rattle.world_schedule.specs.declared.event.Event.TheVariants.{Prune, Offer, Gather, Lead, Ask}
use Rattle.world_schedule.specs.declared.event.Source.{Source}
use Rattle.world_schedule.specs.declared.event.Source.TheVariants.{Record, Bytes as SomeBytes}

-- ---- what schedules are written with is printable

plain_decimal : (n : ℕ) → n < 2 ^ 64 → IsPlain (decimal n)
plain_decimal n small = decimal_by_steps (λ _ ds. IsPlain ds)
    (λ d low. All-cons IsPrintable (48 + d) [] (omega arith, omega arith) (All-nil IsPrintable))
    (λ d ds high plain. All-push IsPrintable ds (48 + d % 10) plain (omega arith, omega arith)) n small

plain_spaced : (first second : Bytes) → IsPlain first → IsPlain second → IsPlain (spaced first second)
plain_spaced first second one two =
    All-append IsPrintable first (32 ∷ second) one (All-cons IsPrintable 32 second (lit≤ tt, lit< tt) two)

plain_replica : (r : ℕ) → r < 256 → IsPlain (replica_text r)
plain_replica r small =
    All-cons IsPrintable 114 (decimal r) (lit≤ tt, lit< tt) (plain_decimal r (omega arith))

plain_client : (c : ℕ) → c < 256 → IsPlain (client_text c)
plain_client c small = All-cons IsPrintable 99 (decimal c) (lit≤ tt, lit< tt) (plain_decimal c (omega arith))

plain_party : (p : ℕ) → p < 512 → (b : Bool) → nat_lt p 256 ≡ b
    → IsPlain (cond b (replica_text p) (client_text (p - 256)))
plain_party p small true low =
    All-cons IsPrintable 114 (decimal p) (lit≤ tt, lit< tt) (plain_decimal p (omega arith))
plain_party p small false high =
    All-cons IsPrintable 99 (decimal (p - 256)) (lit≤ tt, lit< tt) (plain_decimal (p - 256) (omega arith))

plain_parties : (ps : List ℕ) → All (IsBelow 512) ps → IsPlain (parties_text ps)
plain_parties [] fits = All-nil IsPrintable
plain_parties (p ∷ ps) fits =
    All-cons IsPrintable 32 (party_text p ++ parties_text ps) (lit≤ tt, lit< tt)
    (All-append IsPrintable (party_text p) (parties_text ps)
    (plain_party p (All-head (IsBelow 512) p ps fits) (nat_lt p 256) refl)
    (plain_parties ps (All-tail (IsBelow 512) p ps fits)))

pub plain_heading : (h : Heading) → IsHeading h → IsPlain (heading_text h)
plain_heading h fits =
    All-append IsPrintable (codes "world ")
    (spaced (decimal h.faults) (decimal h.clients ++ parties_text h.faulty.items))
    (All-from_recursion IsPrintable (codes "world ") (search rules))
    (plain_spaced (decimal h.faults) (decimal h.clients ++ parties_text h.faulty.items)
    (plain_decimal h.faults fits.0)
    (All-append IsPrintable (decimal h.clients) (parties_text h.faulty.items)
    (plain_decimal h.clients fits.1) (plain_parties h.faulty.items fits.2.0)))

plain_digit : (d : ℕ) → d < 16 → IsPrintable (slice_index lower_digits d)
plain_digit d small =
    All-get_or IsPrintable lower_digits d 0 small (All-from_recursion IsPrintable lower_digits (search rules))

plain_digits : (bytes : Bytes) → IsBytes bytes → IsPlain (encode_lower bytes)
unfolding encode_with
plain_digits [] fits = All-nil IsPrintable
plain_digits (b ∷ bytes) fits =
    let small : b < 256 = fits 0 in
    All-cons IsPrintable (slice_index lower_digits (b / 16))
    (slice_index lower_digits (b % 16) ∷ encode_lower bytes) (plain_digit (b / 16) (omega (arith, small)))
    (All-cons IsPrintable (slice_index lower_digits (b % 16)) (encode_lower bytes)
    (plain_digit (b % 16) (omega (arith, small))) (plain_digits bytes (λ i. fits (suc i))))

plain_source : (s : Source) → IsSource s → IsPlain (source_text s)
plain_source (Record frame) fits = plain_decimal frame fits
plain_source (SomeBytes bytes) fits =
    All-cons IsPrintable 120 (encode_lower bytes.items) (lit≤ tt, lit< tt) (plain_digits bytes.items fits)

plain_sources : (ss : List Source) → All IsSource ss → IsPlain (sources_text ss)
plain_sources [] fits = All-nil IsPrintable
plain_sources (s ∷ ss) fits =
    All-cons IsPrintable 32 (source_text s ++ sources_text ss) (lit≤ tt, lit< tt)
    (All-append IsPrintable (source_text s) (sources_text ss) (plain_source s (All-head IsSource s ss fits))
    (plain_sources ss (All-tail IsSource s ss fits)))

plain_lead : (replica : ℕ) (block : Bytes) → IsLead (replica, block) → IsPlain (lead_text (replica, block))
plain_lead replica block fits =
    plain_spaced (replica_text replica) (encode_lower block) (plain_replica replica fits.0)
    (plain_digits block fits.1.0)

pub plain_event : (e : Event) → IsEvent e → IsPlain (event_text e)
plain_event (Submit client payload) fits =
    All-append IsPrintable (codes "submit ") (submission_text (client, payload))
    (All-from_recursion IsPrintable (codes "submit ") (search rules))
    (plain_spaced (client_text client) (encode_lower payload.items) (plain_client client fits.0)
    (plain_digits payload.items fits.1))
plain_event (Relay frame to) fits =
    All-append IsPrintable (codes "relay ") (delivery_text (frame, to))
    (All-from_recursion IsPrintable (codes "relay ") (search rules))
    (plain_spaced (decimal frame) (party_text to) (plain_decimal frame fits.0)
    (plain_party to fits.1 (nat_lt to 256) refl))
plain_event (Inject to bytes) fits =
    All-append IsPrintable (codes "inject ") (injection_text (to, bytes))
    (All-from_recursion IsPrintable (codes "inject ") (search rules))
    (plain_spaced (party_text to) (encode_lower bytes.items) (plain_party to fits.0 (nat_lt to 256) refl)
    (plain_digits bytes.items fits.1))
plain_event (Timeout replica) fits =
    All-append IsPrintable (codes "timeout ") (replica_text replica)
    (All-from_recursion IsPrintable (codes "timeout ") (search rules)) (plain_replica replica fits)
plain_event (Beat replica) fits =
    All-append IsPrintable (codes "beat ") (replica_text replica)
    (All-from_recursion IsPrintable (codes "beat ") (search rules)) (plain_replica replica fits)
plain_event (Prune replica height) fits =
    All-append IsPrintable (codes "prune ") (pruning_text (replica, height))
    (All-from_recursion IsPrintable (codes "prune ") (search rules))
    (plain_spaced (replica_text replica) (decimal height) (plain_replica replica fits.0)
    (plain_decimal height fits.1))
plain_event (Offer to (Record frame)) fits =
    All-append IsPrintable (codes "offer ") (offer_text (frame, to))
    (All-from_recursion IsPrintable (codes "offer ") (search rules))
    (plain_spaced (decimal frame) (replica_text to) (plain_decimal frame fits.0) (plain_replica to fits.1))
plain_event (Offer to (SomeBytes bytes)) fits =
    All-append IsPrintable (codes "offer-bytes ") (offered_text (to, bytes))
    (All-from_recursion IsPrintable (codes "offer-bytes ") (search rules))
    (plain_spaced (replica_text to) (encode_lower bytes.items) (plain_replica to fits.0)
    (plain_digits bytes.items fits.1))
plain_event (Gather to sources) fits =
    All-append IsPrintable (codes "gather ") (gathering_text (to, sources))
    (All-from_recursion IsPrintable (codes "gather ") (search rules))
    (All-append IsPrintable (replica_text to) (sources_text sources.items) (plain_replica to fits.0)
    (plain_sources sources.items fits.1))
plain_event (Lead replica block) fits =
    All-append IsPrintable (codes "lead ") (lead_text (replica, block))
    (All-from_recursion IsPrintable (codes "lead ") (search rules)) (plain_lead replica block fits)
plain_event (Ask replica to block) fits =
    All-append IsPrintable (codes "ask ") (question_text (replica, to, block))
    (All-from_recursion IsPrintable (codes "ask ") (search rules))
    (plain_spaced (replica_text replica) (lead_text (to, block)) (plain_replica replica fits.0)
    (plain_lead to block fits.1))

pub plain_is_utf8 : (words : Bytes) → IsPlain words → IsUtf8 words
plain_is_utf8 words plain = IsUtf8-from_ascii words (λ i. by i (nat_lt i (length words)) refl)
  where
    by : (i : ℕ) (b : Bool) → nat_lt i (length words) ≡ b → get_or words i 0 < 128
    by i true within =
        let printable =
        All-get_or IsPrintable words i 0 (ltb-true i (length words) within) plain in
        omega (arith, printable.1)
    by i false beyond =
        let none : get_or words i 0 ≡ 0 =
        get_or-eq_default words 0 (ltb-false i (length words) beyond) in omega (arith, none)

-- ---- the first LF

no_lf : (byte : ℕ) → IsPrintable byte → is_lf byte ≡ false
no_lf byte printable = ne_eqb byte 10 (λ e. omega (arith, e, printable.0))

-- it stands behind the printable words that a text begins with
lf_behind : (words rest : Bytes) → IsPlain words → position_or_len is_lf (words ++ 10 ∷ rest) ≡ length words
lf_behind words rest plain =
    position_or_len_is is_lf (words ++ 10 ∷ rest) (length words) 0
    (omega (arith, length-append words (10 ∷ rest)))
    (λ k within. rw (get_or-append words (10 ∷ rest) 0 k within)
    (no_lf _ (All-get_or IsPrintable words k 0 within plain)))
    (λ _. rw (get_or-append_seam words 10 rest 0) refl)

lf_of : (bs words rest : Bytes) → IsPlain words → BeginsWith bs words rest
    → position_or_len is_lf bs ≡ length words
lf_of bs words rest plain begins =
    rw (begins ∙ append_assoc words (10 ∷ []) rest) (lf_behind words rest plain)

pub cut_at : (bs words rest : Bytes) (end : ℕ) → position is_lf bs ≡ Some end → IsPlain words
    → BeginsWith bs words rest → (words ≡ take end bs) × (rest ≡ drop (end + 1) bs)
cut_at bs words rest end found plain begins =
    let at = position-Some is_lf bs end 0 found in
    let here : position_or_len is_lf bs ≡ end =
    position_or_len_is is_lf bs end 0 (omega (arith, at.0)) at.2 (λ _. at.1) in
    let same : end ≡ length words = sym here ∙ lf_of bs words rest plain begins in
    rw (same, begins ∙ append_assoc words (10 ∷ []) rest)
    (sym (take-append_seam words (10 ∷ rest)), sym (drop-append-add words (10 ∷ rest) 1))

pub uncut : (bs words rest : Bytes) → position is_lf bs ≡ None → IsPlain words → BeginsWith bs words rest → ⊥
uncut bs words rest none plain begins =
    let whole : bs ≡ words ++ 10 ∷ rest = begins ∙ append_assoc words (10 ∷ []) rest in
    let long : length bs ≡ length words + length (10 ∷ rest) =
    ap length whole ∙ length-append words (10 ∷ rest) in
    let within : position_or_len is_lf bs < length bs =
    omega (arith, long, lf_of bs words rest plain begins) in
    let some : position is_lf bs ≡ Some (position_or_len is_lf bs) =
    rw (lt-ltb (position_or_len is_lf bs) (length bs) within) refl in cc

pub cut : (bs : Bytes) (end : ℕ) → position is_lf bs ≡ Some end
    → BeginsWith bs (take end bs) (drop (end + 1) bs)
cut bs end found =
    let at = position-Some is_lf bs end 0 found in
    let lf : get_or bs end 0 ≡ 10 = eqb-true _ _ at.1 in
    let whole : bs ≡ take end bs ++ get_or bs end 0 ∷ drop (end + 1) bs =
    rw add-one (split_at bs end 0 at.0) in
    let ends : bs ≡ take end bs ++ 10 ∷ drop (end + 1) bs = rw lf at whole in
    ends ∙ sym (append_assoc (take end bs) (10 ∷ []) (drop (end + 1) bs))

-- all that is left from a place on
pub all_behind : (bs : Bytes) (n : ℕ) → take (length bs - n) (drop n bs) ≡ drop n bs
all_behind bs n = take_all (length bs - n) (drop n bs) (omega (arith, length-drop n bs))
