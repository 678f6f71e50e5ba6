-- What is read of parties, and of two fields.
use Rattle.std.proofs.Common.{◌≡◌, ◌≢◌, ℕ, ◌-◌, ◌<◌, Bool, true, false, ◌∷◌, None, arith, sym, refl, nat_lt}
use Rattle.std.proofs.Common.{cond, lit<, ◌++◌, ◌∙◌, ap, codes, slice_index, Option, Some, Err, drop, List}
use Rattle.std.proofs.Common.{decimal, ◌^◌, Bor}
use Rattle.std.proofs.lemmas.Bool.{ltb-true}
use Rattle.std.proofs.lemmas.Str.Pattern.{IsSplitOnceResult, split_after}
use Rattle.definitions.specs.Bytes.{Bytes}
use Rattle.simulator.specs.Lines.{IsDelivery, delivery_text, IsSubmission, submission_text, IsInjection}
use Rattle.simulator.specs.Lines.{injection_text, IsPruning, pruning_text, IsQuiet, IsBare, IsEvent}
use Rattle.simulator.specs.Lines.{event_text, IsOffer, offer_text, AreOffered, offered_text, IsGathering}
use Rattle.simulator.specs.Lines.{gathering_text, IsLead, lead_text, IsQuestion, question_text}
use Rattle.world_schedule.specs.declared.event.Event.{Event}
use Rattle.world_schedule.specs.declared.event.Event.TheVariants.{Submit, Relay, Inject}
use Rattle.world_schedule.specs.declared.event.Event.TheVariants.{Prune, Offer, Gather, Lead, Ask}
use Rattle.world_schedule.specs.declared.event.Source.TheVariants.{Record, Bytes as SomeBytes}
use Rattle.simulator.specs.declared.words.NotRead.{NotRead}
use Rattle.simulator.specs.declared.words.NotRead.TheVariants.{Bad, Memory}
use Rattle.simulator.proofs.Numbers.{no_space}
use Rattle.simulator.specs.Texts.{spaced, IsWord, IsReadOf, IsReading, IsBelow, party_text}
use Rattle.run_report.specs.Names.{replica_text, client_text}

-- what is no client's and no replica's is no party's
pub no_party : (bs : Bytes) → ((rest : Bytes) → bs ≢ 99 ∷ rest)
    → IsReadOf replica_text (IsBelow 256) bs None → IsReadOf party_text (IsBelow 512) bs None
no_party bs other none = λ p small spelled. by p (nat_lt p 256) refl spelled
  where
    by : (p : ℕ) (b : Bool) → nat_lt p 256 ≡ b → cond b (replica_text p) (client_text (p - 256)) ≡ bs → ⊥
    by p true low spelled = none p (ltb-true p 256 low) spelled
    by p false high spelled = other _ (sym spelled)

-- the first space stands behind the word
pub parted_word : (bs : Bytes) (r : Option (Bor (List ℕ) × Bor (List ℕ))) (x : Bor (List ℕ) × Bor (List ℕ))
    → IsSplitOnceResult 32 bs r → r ≡ Some x
    → (word rest : Bytes) → IsWord word → spaced word rest ≡ bs → (word ≡ x.0.now) × (rest ≡ x.1.now)
parted_word bs r x split is word rest free spelled =
    let parts = split_after 32 bs word rest r split (lit< tt) (sym spelled) free in
    let both = rw is at parts in
    (sym both.0, sym both.1)

pub unparted_word : (bs : Bytes) (r : Option (Bor (List ℕ) × Bor (List ℕ))) → IsSplitOnceResult 32 bs r
    → r ≡ None
    → (word rest : Bytes) → IsWord word → spaced word rest ≢ bs
unparted_word bs r split is word rest free spelled =
    let parts = split_after 32 bs word rest r split (lit< tt) (sym spelled) free in
    rw is at parts

pub parted : (bs : Bytes) (r : Option (Bor (List ℕ) × Bor (List ℕ))) (x : Bor (List ℕ) × Bor (List ℕ))
    → IsSplitOnceResult 32 bs r → r ≡ Some x
    → (n : ℕ) → n < 2 ^ 64 → (rest : Bytes) → spaced (decimal n) rest ≡ bs
    → (decimal n ≡ x.0.now) × (rest ≡ x.1.now)
parted bs r x split is n small rest spelled =
    parted_word bs r x split is (decimal n) rest (no_space n small) spelled

pub unparted : (bs : Bytes) (r : Option (Bor (List ℕ) × Bor (List ℕ))) → IsSplitOnceResult 32 bs r → r ≡ None
    → (n : ℕ) → n < 2 ^ 64 → (rest : Bytes) → spaced (decimal n) rest ≢ bs
unparted bs r split is n small rest spelled =
    unparted_word bs r split is (decimal n) rest (no_space n small) spelled

abbrev first_byte : Bytes → ℕ
first_byte bytes = slice_index bytes 0

-- what begins as a relay and isn't one is no event without bytes
pub no_delivery : (bs rest : Bytes) → bs ≡ codes "relay " ++ rest
    → IsReadOf delivery_text IsDelivery rest None → IsReadOf event_text IsBare bs None
no_delivery bs rest whole none = λ e fits spelled. by e fits (spelled ∙ whole)
  where
    by : (e : Event) → IsBare e → event_text e ≡ codes "relay " ++ rest → ⊥
    by (Relay frame to) fits same = none (frame, to) fits (cc)
    by (Offer to (Record frame)) fits same = absurd (omega (arith, ap first_byte same))
    by (Offer to (SomeBytes bytes)) fits same = fits
    by e fits same = absurd (omega (arith, ap first_byte same))

-- nor is what begins as an offer of a recorded frame
pub no_offer : (bs rest : Bytes) → bs ≡ codes "offer " ++ rest
    → IsReadOf offer_text IsOffer rest None → IsReadOf event_text IsBare bs None
no_offer bs rest whole none = λ e fits spelled. by e fits (spelled ∙ whole)
  where
    by : (e : Event) → IsBare e → event_text e ≡ codes "offer " ++ rest → ⊥
    by (Offer to (Record frame)) fits same = none (frame, to) fits (ap (drop 6) same)
    by (Offer to (SomeBytes bytes)) fits same = fits
    by e fits same = absurd (omega (arith, ap first_byte same))

-- what begins as a pruning and isn't one is no event that brings nothing
pub no_pruning : (bs rest : Bytes) → bs ≡ codes "prune " ++ rest
    → IsReadOf pruning_text IsPruning rest None → IsReadOf event_text IsQuiet bs None
no_pruning bs rest whole none = λ e fits spelled. by e fits (spelled ∙ whole)
  where
    by : (e : Event) → IsQuiet e → event_text e ≡ codes "prune " ++ rest → ⊥
    by (Prune replica height) fits same = none (replica, height) fits (ap (drop 6) same)
    by (Offer to source) fits same = fits
    by e fits same = absurd (omega (arith, ap first_byte same))

-- nor is what begins as a lead
pub no_lead : (bs rest : Bytes) → bs ≡ codes "lead " ++ rest
    → IsReadOf lead_text IsLead rest None → IsReadOf event_text IsQuiet bs None
no_lead bs rest whole none = λ e fits spelled. by e fits (spelled ∙ whole)
  where
    by : (e : Event) → IsQuiet e → event_text e ≡ codes "lead " ++ rest → ⊥
    by (Lead replica block) fits same = none (replica, block) fits (ap (drop 5) same)
    by (Offer to source) fits same = fits
    by e fits same = absurd (omega (arith, ap first_byte same))

-- nor is what begins as a question
pub no_question : (bs rest : Bytes) → bs ≡ codes "ask " ++ rest
    → IsReadOf question_text IsQuestion rest None → IsReadOf event_text IsQuiet bs None
no_question bs rest whole none = λ e fits spelled. by e fits (spelled ∙ whole)
  where
    by : (e : Event) → IsQuiet e → event_text e ≡ codes "ask " ++ rest → ⊥
    by (Ask replica to block) fits same = none (replica, to, block) fits (ap (drop 4) same)
    by (Offer to source) fits same = fits
    by e fits same = absurd (omega (arith, ap first_byte same))

-- what begins as a submission and isn't one is no event
pub no_submission : (bs rest : Bytes) → bs ≡ codes "submit " ++ rest
    → IsReading submission_text IsSubmission rest (Err Bad) → IsReading event_text IsEvent bs (Err Bad)
no_submission bs rest whole none = λ e fits spelled. by e fits (spelled ∙ whole)
  where
    by : (e : Event) → IsEvent e → event_text e ≡ codes "submit " ++ rest → ⊥
    by (Submit client payload) fits same = none (client, payload) fits (ap (drop 7) same)
    by (Offer to (Record frame)) fits same = absurd (omega (arith, ap first_byte same))
    by (Offer to (SomeBytes bytes)) fits same = absurd (omega (arith, ap first_byte same))
    by e fits same = absurd (omega (arith, ap first_byte same))

-- nor is what begins as an injection
pub no_injection : (bs rest : Bytes) → bs ≡ codes "inject " ++ rest
    → IsReading injection_text IsInjection rest (Err Bad) → IsReading event_text IsEvent bs (Err Bad)
no_injection bs rest whole none = λ e fits spelled. by e fits (spelled ∙ whole)
  where
    by : (e : Event) → IsEvent e → event_text e ≡ codes "inject " ++ rest → ⊥
    by (Inject to bytes) fits same = none (to, bytes) fits (ap (drop 7) same)
    by (Offer to (Record frame)) fits same = absurd (omega (arith, ap first_byte same))
    by (Offer to (SomeBytes bytes)) fits same = absurd (omega (arith, ap first_byte same))
    by e fits same = absurd (omega (arith, ap first_byte same))

-- nor is what begins as an offer of bytes
pub none_offered : (bs rest : Bytes) → bs ≡ codes "offer-bytes " ++ rest
    → IsReading offered_text AreOffered rest (Err Bad) → IsReading event_text IsEvent bs (Err Bad)
none_offered bs rest whole none = λ e fits spelled. by e fits (spelled ∙ whole)
  where
    by : (e : Event) → IsEvent e → event_text e ≡ codes "offer-bytes " ++ rest → ⊥
    by (Offer to (SomeBytes bytes)) fits same = none (to, bytes) fits (ap (drop 12) same)
    by (Offer to (Record frame)) fits same =
        absurd (omega (arith, ap (λ (t : Bytes). slice_index t 5) same))
    by e fits same = absurd (omega (arith, ap first_byte same))

-- nor is what begins as a gathering
pub no_gathering : (bs rest : Bytes) → bs ≡ codes "gather " ++ rest
    → IsReading gathering_text IsGathering rest (Err Bad) → IsReading event_text IsEvent bs (Err Bad)
no_gathering bs rest whole none = λ e fits spelled. by e fits (spelled ∙ whole)
  where
    by : (e : Event) → IsEvent e → event_text e ≡ codes "gather " ++ rest → ⊥
    by (Gather to sources) fits same = none (to, sources) fits (ap (drop 7) same)
    by (Offer to (Record frame)) fits same = absurd (omega (arith, ap first_byte same))
    by (Offer to (SomeBytes bytes)) fits same = absurd (omega (arith, ap first_byte same))
    by e fits same = absurd (omega (arith, ap first_byte same))

pub not_submitted : (bs rest : Bytes) → bs ≡ codes "submit " ++ rest → (w : NotRead)
    → IsReading submission_text IsSubmission rest (Err w) → IsReading event_text IsEvent bs (Err w)
not_submitted bs rest whole Memory none = tt
not_submitted bs rest whole Bad none = no_submission bs rest whole none

pub not_injected : (bs rest : Bytes) → bs ≡ codes "inject " ++ rest → (w : NotRead)
    → IsReading injection_text IsInjection rest (Err w) → IsReading event_text IsEvent bs (Err w)
not_injected bs rest whole Memory none = tt
not_injected bs rest whole Bad none = no_injection bs rest whole none

pub not_offered : (bs rest : Bytes) → bs ≡ codes "offer-bytes " ++ rest → (w : NotRead)
    → IsReading offered_text AreOffered rest (Err w) → IsReading event_text IsEvent bs (Err w)
not_offered bs rest whole Memory none = tt
not_offered bs rest whole Bad none = none_offered bs rest whole none

pub not_gathered : (bs rest : Bytes) → bs ≡ codes "gather " ++ rest → (w : NotRead)
    → IsReading gathering_text IsGathering rest (Err w) → IsReading event_text IsEvent bs (Err w)
not_gathered bs rest whole Memory none = tt
not_gathered bs rest whole Bad none = no_gathering bs rest whole none
