-- What is read of a line, put together from what is read of its parts.
use Rattle.std.proofs.Common.{zero, suc, false, ◌≡◌, ◌≢◌, ℕ, ◌<◌, ◌+◌, inr, ◌++◌, List, length, drop}
use Rattle.std.proofs.Common.{Option, Some, None, option_map, Result, Err, arith, refl, sym, ap, ◌∙◌}
use Rattle.std.proofs.Common.{decimal, Vec, Global}
use Rattle.hex.specs.Hex.{encode_lower, IsBytes}
use Rattle.ids.specs.declared.party.PartyId.{PartyId}
use Rattle.definitions.specs.Bytes.{Bytes}
use Rattle.simulator.specs.Texts.{IsReadOf, IsReading, IsWord, behind_word, party_text, spaced}
use Rattle.run_report.specs.Names.{client_text, replica_text}
use Rattle.simulator.specs.Lines.{IsHeading, heading_text, AreSizesOf, AreParties, parties_text, IsSubmission}
use Rattle.simulator.specs.Lines.{submission_text, IsInjection, injection_text, IsEvent, AreOffered}
use Rattle.simulator.specs.Lines.{offered_text}
use Rattle.std.specs.Prelude.{IsErrOf, ◌==◌}
use Rattle.std.specs.List.{All}
use Rattle.simulator.specs.Schedules.{lines, HasNoEvent}
use Rattle.simulator.specs.Faults.{IsWhyNot, fault_of_line}
use Rattle.world_schedule.specs.declared.event.Event.{Event}
use Rattle.simulator.specs.declared.lines.Heading.{Heading}
use Rattle.simulator.specs.declared.words.NotRead.{NotRead}
use Rattle.simulator.specs.declared.words.NotRead.TheVariants.{Bad, Memory}
use Rattle.simulator.proofs.Parties.{cut_once, client_word, party_word, replica_word, decimal_word, others_behind}
use Rattle.simulator.proofs.Parties.{is_behind}

-- where nothing was read, the text spells nothing
pub unread :
    {X Y : Type 0} (f : X → Y) (spelling : Y → Bytes) (Fits : Y → Type 0) (text : Bytes) (r : Option X)
    → ((x : X) → r ≡ Some x → ⊥)
    → IsReadOf spelling Fits text (option_map f r) → (y : Y) → Fits y → spelling y ≢ text
unread f spelling Fits text None not is = is
unread f spelling Fits text (Some x) not is = absurd (not x refl)

pub unread_plain : {X : Type 0} (spelling : X → Bytes) (Fits : X → Type 0) (text : Bytes) (r : Option X)
    → ((x : X) → r ≡ Some x → ⊥)
    → IsReadOf spelling Fits text r → (x : X) → Fits x → spelling x ≢ text
unread_plain spelling Fits text None not is = is
unread_plain spelling Fits text (Some x) not is = absurd (not x refl)

-- fields that begin with one word begin alike, and what stands behind them is alike
same_fields : (one other a b fields : Bytes) → IsWord one → IsWord other → spaced one a ≡ fields
    → spaced other b ≡ fields → (one ≡ other) × (a ≡ b)
same_fields one other a b fields free free' first second =
    let both = cut_once one other (Some a) (Some b) free free' (first ∙ sym second) in
    (both.0, ap (drop 1) both.1)

-- where the digits behind a client write no bytes, the fields are no submission
pub no_payload : (fields digits : Bytes) (client : ℕ) → client < 256
    → spaced (client_text client) digits ≡ fields → (w : NotRead)
    → IsReading (λ (v : Vec ℕ Global). encode_lower v.items) (λ v. IsBytes v.items) digits (Err w)
    → IsReading submission_text IsSubmission fields (Err w)
no_payload fields digits client small spelled Memory none = tt
no_payload fields digits client small spelled Bad none = λ s fits spells.
    let both = same_fields (client_text s.0) (client_text client) (encode_lower s.1.items) digits fields
    (client_word s.0 fits.0) (client_word client small) spells spelled in
    none s.1 fits.1 both.1

pub no_bytes : (fields digits : Bytes) (to : ℕ) → to < 512 → spaced (party_text to) digits ≡ fields
    → (w : NotRead)
    → IsReading (λ (v : Vec ℕ Global). encode_lower v.items) (λ v. IsBytes v.items) digits (Err w)
    → IsReading injection_text IsInjection fields (Err w)
no_bytes fields digits to small spelled Memory none = tt
no_bytes fields digits to small spelled Bad none = λ i fits spells.
    let both = same_fields (party_text i.0) (party_text to) (encode_lower i.1.items) digits fields
    (party_word i.0 fits.0) (party_word to small) spells spelled in
    none i.1 fits.1 both.1

pub none_offered : (fields digits : Bytes) (to : ℕ) → to < 256 → spaced (replica_text to) digits ≡ fields
    → (w : NotRead)
    → IsReading (λ (v : Vec ℕ Global). encode_lower v.items) (λ v. IsBytes v.items) digits (Err w)
    → IsReading offered_text AreOffered fields (Err w)
none_offered fields digits to small spelled Memory none = tt
none_offered fields digits to small spelled Bad none = λ o fits spells.
    let both = same_fields (replica_text o.0) (replica_text to) (encode_lower o.1.items) digits fields
    (replica_word o.0 fits.0) (replica_word to small) spells spelled in
    none o.1 fits.1 both.1

-- where no parties stand behind the sizes, the words are no heading
pub no_parties : (words : Bytes) (faults clients : ℕ) (rest : Option Bytes)
    → AreSizesOf words (Some (faults, clients, rest)) → (w : NotRead)
    → IsReading (λ (v : Vec PartyId Global). parties_text v.items) (λ v. AreParties v.items)
    (behind_word rest) (Err w) → IsReading heading_text IsHeading words (Err w)
no_parties words faults clients rest sizes Memory none = tt
no_parties words faults clients rest sizes Bad none = λ h fits spells.
    let fields = same_fields (decimal h.faults) (decimal faults)
    (decimal h.clients ++ parties_text h.faulty.items) (decimal clients ++ behind_word rest)
    (drop 6 words)
    (decimal_word h.faults fits.0) (decimal_word faults sizes.0) (ap (drop 6) spells)
    (sym (ap (drop 6) sizes.2)) in
    let both = cut_once (decimal h.clients) (decimal clients) (others_behind h.faulty.items) rest
    (decimal_word h.clients fits.1) (decimal_word clients sizes.1)
    (ap (λ t. decimal h.clients ++ t) (is_behind h.faulty.items) ∙ fields.1) in
    none h.faulty fits.2 (sym (is_behind h.faulty.items) ∙ both.1)

-- where a line was bad, its words spell nothing
pub refused : {X Y : Type 0} (spelling : X → Bytes) (Fits : X → Type 0) (text : Bytes)
    (r : Result Y NotRead) (w : NotRead) → r ≡ Err w → IsErrOf r Bad
    → IsReading spelling Fits text (Err w) → (x : X) → Fits x → spelling x ≢ text
refused spelling Fits text r Bad is bad none = none
refused spelling Fits text r Memory is bad none = let no : ⊥ = cc (is, bad) in absurd no

-- why a line behind a heading and events wasn't read
pub not_a_line : (text rest : Bytes) (h : Heading) (events : List Event) (w : NotRead) → IsHeading h
    → All IsEvent events → text ≡ lines h events ++ rest → 0 < length rest
    → (w ≡ Bad → 0 < length rest → HasNoEvent rest) → IsWhyNot text (fault_of_line w (length events + 2))
not_a_line text rest h events Memory fits all begins more none = refl
not_a_line text rest h events Bad fits all begins more none =
    inr (h, events, rest, refl, record { fits = fits; events = all; begins = begins; fails = none refl more })

pub some_left : (n : ℕ) → (n == 0) ≡ false → 0 < n
some_left zero is = absurd (cc)
some_left (suc n) is = omega arith
