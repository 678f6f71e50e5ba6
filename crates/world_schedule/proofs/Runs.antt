-- One event after the other: what the code does is the definitions' run.
use Rattle.ids.specs.declared.fault.Fault.{Fault}
use Rattle.ids.specs.declared.fault.Fault.TheVariants as fault
use Rattle.std.proofs.Common.{ℕ, IfOk, OnOk, OnErr, MatchResult, take, zero, suc, ◌≡◌, ◌⊎◌, ◌+◌, ◌<◌, ◌≤◌}
use Rattle.std.proofs.Common.{◌^◌, not, ◌&&◌, Bool, true, false, List, [], ◌∷◌, ◌++◌, length, map, drop}
use Rattle.std.proofs.Common.{reverse, refl, sym, ap, subst, ◌∙◌, inl, inr, arith, Option, Some, None}
use Rattle.std.proofs.Common.{Result, Ok, Err, nat_lt, length-append, slice_get, option_map, MatchOption}
use Rattle.std.specs.Prelude.{slice_index_or}
use Rattle.std.specs.Option.{option_to_list}
use Rattle.std.proofs.lemmas.Bool.{and_parts, not-false, ltb-true, or_left, cond_both, cond-true, cond-false}
use Rattle.std.proofs.lemmas.List.{length-map, map-append, reverse-append, take-append-drop, take_more}
use Rattle.std.proofs.lemmas.List.{drop_more, take_all}
use Rattle.ids.specs.Sizes.{Sizes, AreSizes, replicas, client_party}
use Rattle.definitions.specs.Bytes.{Bytes}
use Rattle.definitions.specs.Lists.{Among}
use Rattle.definitions.specs.Frames.{Frame, spelling}
use Rattle.definitions.specs.FrameLimits.{IsWritten, IsReadAs}
use Rattle.definitions.specs.Keyrings.{client_at, is_replica_of, is_client_of}
use Rattle.definitions.specs.Sendings.{Sending}
use Rattle.definitions.specs.Replicas.{MemorySupply.ample}
use Rattle.definitions.specs.Sessions.{Receipt}
use Rattle.definitions.specs.Worlds as worlds
use Rattle.definitions.specs.Worlds.{World, Sent, AcceptedBy, Happening, new_world, is_correct}
use Rattle.definitions.specs.Runs.{refusal, run, is_there}
use Rattle.definitions.specs.Rulings.{Input}
use Rattle.std.specs.List.{list_all, flat_map, AllByRecursion}
use Rattle.std.specs.Borrow.{Bor}
use Rattle.std.specs.Prelude.{if◌then◌else◌, Vec}
use Rattle.std.specs.Global.{Global}
use Rattle.admission.specs.Gathering.{AreReadAs}
use Rattle.definitions.specs.Events as events
use Rattle.definitions.specs.Events.{nothing, comes, recorded, acts, party_of, effect, happens, client_number}
use Rattle.definitions.specs.Events.{frame_of, listed}
use Rattle.definitions.specs.Premises.{IsReadFrom, IsReadIn, AllRead, ArePremises}
use Rattle.definitions.proofs.Spellings.{IsReadAs-unique}
use Rattle.linear_law.specs.Law.{SentAreFrames}
use Rattle.linear_law.proofs.Linear.{run-step}
use Rattle.linear_law.proofs.WholeRuns.{every-run-linear, none-conflicts}
use Rattle.linear_law.proofs.AnyRuns.{any-sent-are-frames}
use Rattle.replica.specs.Steps as steps
use Rattle.replica.specs.Steps.{bytes_of, shown}
use Rattle.signed_frames.specs.Outs.{SentBytes, sent_of}
use Rattle.signed_frames.specs.declared.out.Sending as code
use Rattle.client_accept.specs.Sessions as sessions
use Rattle.world_schedule.specs.declared.effect.Effect.{Effect}
use Rattle.world_schedule.specs.declared.event.Event.{Event}
use Rattle.world_schedule.specs.declared.event.Event.TheVariants.{Submit, Relay, Inject, Timeout, Beat}
use Rattle.world_schedule.specs.declared.event.Event.TheVariants.{Prune, Offer, Gather, Lead, Ask}
use Rattle.world_schedule.specs.declared.event.Source.{Source}
use Rattle.world_schedule.specs.declared.event.Source.TheVariants.{Record, Bytes as SomeBytes}
use Rattle.world_schedule.specs.Sources.{AreBytes, AreBytesOf}
use Rattle.world_schedule.specs.declared.outcome.SentFrame.{SentFrame}
use Rattle.world_schedule.specs.declared.outcome.Outcome.{Outcome}
use Rattle.world_schedule.specs.declared.journal.Journal.{Journal}
use Rattle.world_schedule.specs.declared.running.State.{State}
use Rattle.world_schedule.specs.Settings.{Setting, is_faulty_in, ring_in, start_of, Holds}
use Rattle.world_schedule.specs.Schedules.{party_named, event_of, has_party, has_frame, why_refused, IsEventOf}
use Rattle.world_schedule.specs.Schedules.{first_read, source_of, sources_of, has_source}
use Rattle.world_schedule.specs.Schedules.{AreThese, IsRefusedFor}
use Rattle.world_schedule.specs.Outcomes.{Shown, shown_frame, shown_sent, accepted_by, histories_of, TellsOf}
use Rattle.world_schedule.specs.Told.{Told}
use Rattle.world_schedule.specs.Turns.{Tells}
use Rattle.world_schedule.specs.Seats.{with_effect, AreOf, Brings, Offers, Gathers, gathers, Hands, Moves, Acts}
use Rattle.world_schedule.specs.Seats.{Does, HasKeysOf}
use Rattle.world_schedule.specs.Progress.{IsJournalOf, IsAt, GoesOn, ComesTo, HasCome, Stand, StandsAt, Happened}
use Rattle.world_schedule.specs.Progress.{HasRun, IsReplicaOf, IsSessionOf}
use Rattle.world_schedule.specs.Running.{IsRunOf}

-- ---- which events are refused

-- sources are there for the definitions where they are for the code
source-there : (w : World) (read : Option Frame) (source : Source)
    → is_there w (source_of read source) ≡ has_source (length w.sent) source
source-there w read (Record frame) = refl
source-there w read (SomeBytes bytes) = refl

sources-there : (w : World) (reads : List (Option Frame)) (ss : List Source)
    → list_all (is_there w) (sources_of reads ss) ≡ list_all (has_source (length w.sent)) ss
sources-there w [] [] = refl
sources-there w (r ∷ reads) [] = refl
sources-there w [] (x ∷ ss) = λ i. source-there w None x i && sources-there w [] ss i
sources-there w (r ∷ reads) (x ∷ ss) = λ i. source-there w r x i && sources-there w reads ss i

-- the definitions refuse an event for what the code tests
pub refusal-is : (w : World) (read : List (Option Frame)) (event : Event) (sizes : Sizes) (sent : ℕ)
    → w.sizes ≡ sizes → length w.sent ≡ sent
    → refusal w (event_of read event) ≡ why_refused sizes sent event
unfolding refusal
refusal-is w read (Submit client payload) sizes sent e n =
    ap (λ (z : Sizes). why_refused z sent (Submit client payload)) e
refusal-is w read (Relay frame to) sizes sent e n =
    ap (λ (z : Sizes). why_refused z (length w.sent) (Relay frame to)) e
    ∙ ap (λ (k : ℕ). why_refused sizes k (Relay frame to)) n
refusal-is w read (Inject to bytes) sizes sent e n =
    ap (λ (z : Sizes). why_refused z sent (Inject to bytes)) e
refusal-is w read (Timeout replica) sizes sent e n =
    ap (λ (z : Sizes). why_refused z sent (Timeout replica)) e
refusal-is w read (Beat replica) sizes sent e n = ap (λ (z : Sizes). why_refused z sent (Beat replica)) e
refusal-is w read (Prune replica height) sizes sent e n =
    ap (λ (z : Sizes). why_refused z sent (Prune replica height)) e
refusal-is w read (Offer to (Record frame)) sizes sent e n =
    ap (λ (z : Sizes). why_refused z (length w.sent) (Offer to (Record frame))) e
    ∙ ap (λ (k : ℕ). why_refused sizes k (Offer to (Record frame))) n
refusal-is w read (Offer to (SomeBytes bytes)) sizes sent e n =
    ap (λ (z : Sizes). why_refused z sent (Offer to (SomeBytes bytes))) e
refusal-is w read (Gather to sources) sizes sent e n =
    ap (λ (b : Bool). if not (is_replica_of w.sizes to) then Some fault.NoSuchParty
    else (if not b then Some fault.NoSuchFrame else None)) (sources-there w read sources.items)
    ∙ ap (λ (z : Sizes). why_refused z (length w.sent) (Gather to sources)) e
    ∙ ap (λ (k : ℕ). why_refused sizes k (Gather to sources)) n
refusal-is w read (Lead replica block) sizes sent e n =
    ap (λ (z : Sizes). why_refused z sent (Lead replica block)) e
refusal-is w read (Ask replica to block) sizes sent e n =
    ap (λ (z : Sizes). why_refused z sent (Ask replica to block)) e

-- an event is at the party that it names
pub party-is : (read : List (Option Frame)) (event : Event) → party_of (event_of read event) ≡ party_named event
unfolding party_of
party-is read (Submit client payload) = refl
party-is read (Relay frame to) = refl
party-is read (Inject to bytes) = refl
party-is read (Timeout replica) = refl
party-is read (Beat replica) = refl
party-is read (Prune replica height) = refl
party-is read (Offer to source) = refl
party-is read (Gather to sources) = refl
party-is read (Lead replica block) = refl
party-is read (Ask replica to block) = refl

-- ---- the record

-- a frame of the record is that of the definitions' record
record Recorded (frames : List SentFrame) (xs : List Sent) (k : ℕ) (d : SentFrame) : Type 0 where
  sent : Sent
  here : slice_get xs k ≡ Some sent
  among : Among sent xs
  bytes : (slice_index_or frames k d).frame.items ≡ spelling sent.frame

recorded-at : (frames : List SentFrame) (xs : List Sent) (k : ℕ) (d : SentFrame)
    → map shown_frame frames ≡ map shown_sent xs → k < length frames → Recorded frames xs k d
recorded-at [] xs k d e l = absurd (omega (arith, l))
recorded-at (f ∷ frames) [] k d e l = absurd (none e)
  where
    none : shown_frame f ∷ map shown_frame frames ≡ [] → ⊥
    none h = cc
recorded-at (f ∷ frames) (x ∷ xs) zero d e l =
    record { sent = x; here = refl; among = inl refl; bytes = ap (λ (s : Shown). s.1.2) first }
  where
    first : shown_frame f ≡ shown_sent x
    first = ap (λ (s : List Shown). slice_index_or s 0 (shown_frame f)) e
recorded-at (f ∷ frames) (x ∷ xs) (suc k) d e l =
    let r = recorded-at frames xs k d (ap (drop 1) e) (omega (arith, l)) in
    record { sent = r.sent; here = r.here; among = inr r.among; bytes = r.bytes }

-- what the bytes of a source are read as is its frame
source-read : (s : Setting) (w : World) (sent : List SentFrame) (source : Source) (bytes : Bytes)
    (read : Option Frame) → AreSizes s.sizes → w.sizes ≡ s.sizes
    → map shown_frame sent ≡ map shown_sent w.sent → SentAreFrames w → AreBytes sent source bytes
    → IsReadAs s.sizes bytes read
    → (frame_of w (source_of read source) ≡ read) × IsReadFrom s.sizes (source_of read source)
source-read s w sent (Record k) bytes read are same told fit (d, l, is) rd =
    let r = recorded-at sent w.sent k d told l in
    let fits = subst (λ (z : Sizes). IsWritten z r.sent.frame) same (fit r.sent r.among) in
    let spells : IsReadAs s.sizes bytes (Some r.sent.frame) = (fits.0, inr (fits.1, is ∙ r.bytes)) in
    let one : read ≡ Some r.sent.frame =
    IsReadAs-unique s.sizes are bytes read (Some r.sent.frame) rd spells in
    (ap (option_map (λ (x : Sent). x.frame)) r.here ∙ sym one, tt)
source-read s w sent (SomeBytes own) bytes read are same told fit is rd =
    (refl, subst (λ (b : Bytes). IsReadAs s.sizes b read) is rd)

sources-read : (s : Setting) (w : World) (sent : List SentFrame) (ss : List Source) (frames : List (Bor Bytes))
    (reads : List (Option Frame)) → AreSizes s.sizes → w.sizes ≡ s.sizes
    → map shown_frame sent ≡ map shown_sent w.sent → SentAreFrames w → AreBytesOf sent ss frames
    → AreReadAs s.sizes frames reads
    → (events.frames_of w (sources_of reads ss) ≡ flat_map listed reads)
    × AllByRecursion (IsReadFrom s.sizes) (sources_of reads ss)
sources-read s w sent [] [] [] are same told fit b rd = (refl, tt)
sources-read s w sent [] [] (r ∷ reads) are same told fit b rd = absurd rd
sources-read s w sent [] (x ∷ frames) reads are same told fit b rd = absurd b
sources-read s w sent (x ∷ ss) [] reads are same told fit b rd = absurd b
sources-read s w sent (x ∷ ss) (y ∷ frames) [] are same told fit b rd = absurd rd
sources-read s w sent (x ∷ ss) (y ∷ frames) (r ∷ reads) are same told fit b rd =
    let one = source-read s w sent x y.now r are same told fit b.0 rd.0 in
    let others = sources-read s w sent ss frames reads are same told fit b.1 rd.1 in
    (λ i. listed (one.0 i) ++ others.0 i, (one.1, others.1))

-- ---- one event at a party

module _ (s : Setting) (w : World) (held : List steps.Held) (seats : List sessions.Held) (e : Effect) where
  -- a recorded frame comes
  pub relayed : (k to : ℕ) (frames : List SentFrame) (d : SentFrame) (bytes : Bytes) → AreSizes s.sizes
      → w.sizes ≡ s.sizes → map shown_frame frames ≡ map shown_sent w.sent → SentAreFrames w
      → k < length frames
      → bytes ≡ (slice_index_or frames k d).frame.items → Brings s w to bytes held seats e
      → Acts s w (Relay k to) held seats e
  unfolding acts party_of
  relayed k to frames d bytes are same told fit l is b =
      let r = recorded-at frames w.sent k d told l in
      let fits = subst (λ (z : Sizes). IsWritten z r.sent.frame) same (fit r.sent r.among) in
      let spells : IsReadAs s.sizes bytes (Some r.sent.frame) = (fits.0, inr (fits.1, is ∙ r.bytes)) in
      let read : b.read ≡ Some r.sent.frame =
      IsReadAs-unique s.sizes are bytes b.read (Some r.sent.frame) b.is_read spells in
      let there : recorded w k ≡ b.read = ap (option_map (λ (x : Sent). x.frame)) r.here ∙ sym read in
      record {
        happening = (worlds.relay k to, b.memory);
        is_event = ([], tt, refl);
        parties = subst (λ (o : Option Frame). AreOf s held seats (with_effect w (comes to b.memory o w)))
            (sym there) b.parties;
        tells =
            subst (λ (o : Option Frame). Tells (comes to b.memory o w) (client_at to) e) (sym there) b.tells;
      }

  -- any bytes come
  pub injected : (to : ℕ) (event : Event) (bytes : Bytes)
      → ((reads : List (Option Frame)) → event_of reads event ≡ worlds.inject to bytes (first_read reads))
      → Brings s w to bytes held seats e → Acts s w event held seats e
  unfolding acts party_of
  injected to event bytes is b = record {
    happening = (worlds.inject to bytes b.read, b.memory);
    is_event =
        (b.read ∷ [], subst (IsReadIn s.sizes) (sym (is (b.read ∷ []))) b.is_read, sym (is (b.read ∷ [])));
    parties = b.parties;
    tells = b.tells;
  }

  -- a client submits
  pub handed : (client : ℕ) (event : Event) (payload : Bytes)
      → event_of [] event ≡ worlds.submit client payload → Hands s w client payload held seats e
      → Acts s w event held seats e
  unfolding acts party_of
  handed client event payload is b = record {
    happening = (worlds.submit client payload, b.memory);
    is_event = ([], subst (IsReadIn s.sizes) (sym is) tt, sym is);
    parties = b.parties;
    tells = b.tells;
  }

  -- a timeout
  pub timed-out : (i : ℕ) → Moves s w Rattle.definitions.specs.Rulings.timeout_in i held seats e
      → Acts s w (Timeout i) held seats e
  unfolding acts party_of
  timed-out i b = record {
    happening = (worlds.timeout i, b.memory);
    is_event = ([], tt, refl);
    parties = b.parties;
    tells = b.tells;
  }

  -- a beat
  pub beaten : (i : ℕ) → Moves s w Rattle.definitions.specs.Rulings.beat_in i held seats e
      → Acts s w (Beat i) held seats e
  unfolding acts party_of
  beaten i b = record {
    happening = (worlds.beat i, b.memory);
    is_event = ([], tt, refl);
    parties = b.parties;
    tells = b.tells;
  }

  -- leave to prune
  pub pruned-to : (i height : ℕ)
      → Moves s w (Rattle.definitions.specs.Rulings.prune_in height) i held seats e
      → Acts s w (Prune i height) held seats e
  unfolding acts party_of
  pruned-to i height b = record {
    happening = (worlds.prune i height, b.memory);
    is_event = ([], tt, refl);
    parties = b.parties;
    tells = b.tells;
  }

  -- a lead
  pub led : (i : ℕ) (block : Bytes) → Moves s w (Rattle.definitions.specs.Rulings.lead_in block) i held seats e
      → Acts s w (Lead i block) held seats e
  unfolding acts party_of
  led i block b = record {
    happening = (worlds.lead i block, b.memory);
    is_event = ([], tt, refl);
    parties = b.parties;
    tells = b.tells;
  }

  -- a question
  pub asked : (i to : ℕ) (block : Bytes)
      → Moves s w (Rattle.definitions.specs.Rulings.ask_in to block) i held seats e
      → Acts s w (Ask i to block) held seats e
  unfolding acts party_of
  asked i to block b = record {
    happening = (worlds.ask i to block, b.memory);
    is_event = ([], tt, refl);
    parties = b.parties;
    tells = b.tells;
  }

  -- an offer
  pub offered : (to : ℕ) (source : Source) (sent : List SentFrame) (bytes : Bytes) → AreSizes s.sizes
      → w.sizes ≡ s.sizes → map shown_frame sent ≡ map shown_sent w.sent → SentAreFrames w
      → AreBytes sent source bytes → Offers s w to bytes held seats e
      → Acts s w (Offer to source) held seats e
  unfolding acts party_of
  offered to source sent bytes are same told fit there b =
      let r = source-read s w sent source bytes b.read are same told fit there b.is_read in
      record {
        happening = (worlds.offer to (source_of b.read source), b.memory);
        is_event = (b.read ∷ [], r.1, refl);
        parties = subst (λ (o : Option Frame). AreOf s held seats (with_effect w (events.offers to b.memory o w)))
            (sym r.0) b.parties;
        tells = subst (λ (o : Option Frame). Tells (events.offers to b.memory o w) (client_at to) e) (sym r.0)
            b.tells;
      }

  -- copies of a block
  pub gathered : (to : ℕ) (sources : Vec Source Global) (sent : List SentFrame) (frames : List (Bor Bytes))
      → AreSizes s.sizes → w.sizes ≡ s.sizes → map shown_frame sent ≡ map shown_sent w.sent → SentAreFrames w
      → AreBytesOf sent sources.items frames → Gathers s w to frames held seats e
      → Acts s w (Gather to sources) held seats e
  unfolding acts party_of
  gathered to sources sent frames are same told fit there b =
      let r = sources-read s w sent sources.items frames b.reads are same told fit there b.are_read in
      record {
        happening = (worlds.gather to (sources_of b.reads sources.items), b.memory);
        is_event = (b.reads, r.1, refl);
        parties = subst (λ (fs : List Frame). AreOf s held seats (with_effect w (gathers to b.memory fs w)))
            (sym r.0) b.parties;
        tells = subst (λ (fs : List Frame). Tells (gathers to b.memory fs w) (client_at to) e) (sym r.0)
            b.tells;
      }

  -- a correct party does what it does
  pub correct-does : (event : Event) → is_faulty_in s (party_named event) ≡ false
      → w.is_faulty ≡ is_faulty_in s → Acts s w event held seats e → Does s w event held seats e
  unfolding effect
  correct-does event ok faulty a =
      let at : w.is_faulty (party_of a.happening.0) ≡ false =
      ap w.is_faulty (ap party_of a.is_event.2 ∙ party-is a.is_event.0 event)
      ∙ ap (λ (f : ℕ → Bool). f (party_named event)) faulty ∙ ok in
      let is : effect w a.happening ≡ acts w a.happening.0 a.happening.1 = cond-false _ _ _ at in
      record {
        happening = a.happening;
        is_event = a.is_event;
        parties = subst (λ (x : events.Effect). AreOf s held seats (with_effect w x)) (sym is) a.parties;
        tells = subst (λ (x : events.Effect). Tells x (client_number a.happening.0) e) (sym is) a.tells;
      }

  -- a faulty one does nothing
  pub faulty-does : (event : Event) (read : List (Option Frame)) → IsReadIn s.sizes (event_of read event)
      → is_faulty_in s (party_named event) ≡ true → w.is_faulty ≡ is_faulty_in s → AreOf s held seats w
      → e.out.items ≡ [] → e.accepted ≡ None → e.answer ≡ None → Does s w event held seats e
  unfolding effect nothing
  faulty-does event read rd bad faulty at out accepted answer =
      let h : Happening = (event_of read event, ample) in
      let there : w.is_faulty (party_of h.0) ≡ true =
      ap w.is_faulty (party-is read event) ∙ ap (λ (f : ℕ → Bool). f (party_named event)) faulty ∙ bad in
      let is : effect w h ≡ nothing w None = cond-true _ _ _ there in
      record {
        happening = h;
        is_event = (read, rd, refl);
        parties = subst (λ (x : events.Effect). AreOf s held seats (with_effect w x)) (sym is) at;
        tells = subst (λ (x : events.Effect). Tells x (client_number h.0) e) (sym is)
            (record { out = ap (map sent_of) out; accepted = ap option_to_list accepted; answer = answer });
      }

-- ---- what is told of it

-- the frames of an event
abbrev in_event : ℕ → ℕ → Sending → Sent
in_event now party o = record { event = now; sender = party; to = o.0; frame = o.1 }

-- with the number of the event
abbrev dated : ℕ → SentBytes → Shown
dated now x = (now, x)

abbrev dated_sending : ℕ → code.Sending → Shown
dated_sending now o = (now, sent_of o)

sent-shown : (now party : ℕ) (out : List Sending)
    → map shown_sent (map (in_event now party) out) ≡ map (dated now) (shown out)
sent-shown now party [] = refl
sent-shown now party (o ∷ out) = ap (λ l. dated now (bytes_of o) ∷ l) (sent-shown now party out)

code-shown : (now : ℕ) (out : List code.Sending)
    → map (dated_sending now) out ≡ map (dated now) (map sent_of out)
code-shown now [] = refl
code-shown now (o ∷ out) = ap (λ l. dated_sending now o ∷ l) (code-shown now out)

-- a receipt, if any
abbrev receipt_at : ℕ → ℕ → Receipt → AcceptedBy
receipt_at now client r = record { event = now; client = client; receipt = r }

receipts-told : (now client : ℕ) (o : List (ℕ × Receipt)) (acc : List Receipt) → length o ≤ 1
    → o ≡ map (λ r. (client, r)) acc
    → map (λ a. record { event = now; client = a.0; receipt = a.1 }) o
    ≡ reverse (map (receipt_at now client) acc)
receipts-told now client o [] l e = ap (map (λ a. record { event = now; client = a.0; receipt = a.1 })) e
receipts-told now client o (r ∷ []) l e =
    ap (map (λ a. record { event = now; client = a.0; receipt = a.1 })) e
receipts-told now client o (r ∷ q ∷ acc) l e = absurd (let n = ap length e in omega (arith, n, l))

one-at-most : {A : Type 0} (o : Option A) → length (option_to_list o) ≤ 1
one-at-most None = omega arith
one-at-most (Some x) = omega arith

-- what an event adds to what is told
pub record Noted (old new : Journal) (e : Effect) : Type 0 where
  pub frames : map shown_frame new.frames.items
      ≡ map shown_frame old.frames.items ++ map (dated_sending (suc (length old.answers.items))) e.out.items
  pub receipts : map accepted_by new.receipts.items
      ≡ map accepted_by old.receipts.items
      ++ map (λ a. record { event = suc (length old.answers.items); client = a.0; receipt = a.1 })
      (option_to_list e.accepted)
  pub answers : new.answers.items ≡ old.answers.items ++ e.answer ∷ []

noted-is : (w : World) (h : Happening) (old new : Journal) (e : Effect) → IsJournalOf old w
    → Tells (effect w h) (client_number h.0) e → Noted old new e → IsJournalOf new (happens w h)
unfolding happens
noted-is w h old new e j t n = record {
  frames = n.frames
      ∙ (λ i. j.frames i ++ code-shown (suc (length old.answers.items)) e.out.items i)
      ∙ ap (λ l. map shown_sent w.sent ++ map (dated (suc (length old.answers.items))) l) t.out
      ∙ ap (λ (k : ℕ). map shown_sent w.sent ++ map (dated k) (shown (effect w h).out)) (sym j.now)
      ∙ ap (λ l. map shown_sent w.sent ++ l) (sym (sent-shown w.now (party_of h.0) (effect w h).out))
      ∙ sym (map-append shown_sent w.sent (map (in_event w.now (party_of h.0)) (effect w h).out));
  answers =
      n.answers ∙ (λ i. j.answers i ++ t.answer i ∷ [])
      ∙ sym (reverse-append ((effect w h).answer ∷ []) w.answers);
  receipts = n.receipts
      ∙ (λ i. j.receipts i ++ receipts-told (suc (length old.answers.items)) (client_number h.0)
      (option_to_list e.accepted) (effect w h).accepted (one-at-most e.accepted) t.accepted i)
      ∙ ap (λ (k : ℕ). reverse w.receipts
      ++ reverse (map (receipt_at k (client_number h.0)) (effect w h).accepted)) (sym j.now)
      ∙ sym (reverse-append (map (receipt_at w.now (client_number h.0)) (effect w h).accepted) w.receipts);
  now =
      (let a =
      ap length n.answers in let b =
      length-append old.answers.items (e.answer ∷ []) in let c = j.now in omega (arith, a, b, c));
}

-- an event that was noted
pub went-on : (s : Setting) (w : World) (event : Event) (old new : State) (e : Effect) → IsAt s old w
    → why_refused s.sizes (length old.journal.frames.items) event ≡ None
    → Does s w event new.parties.replicas.items new.parties.sessions.items e
    → Noted old.journal new.journal e → GoesOn s w event new
unfolding happens
went-on s w event old new e at ok d n = record {
  happening = d.happening;
  is_event = d.is_event;
  allowed =
      ap (refusal w) d.is_event.2
      ∙ refusal-is w d.is_event.0 event s.sizes (length old.journal.frames.items)
      at.parties.setting.sizes_are sent-count ∙ ok;
  now_at = record {
    parties = record {
      setting = record {
        sizes_are = d.parties.setting.sizes_are;
        faulty_are = d.parties.setting.faulty_are;
        rings_are = d.parties.setting.rings_are;
      };
      seated = d.parties.seated;
      replicas_are = d.parties.replicas_are;
      sessions_are = d.parties.sessions_are;
    };
    told = noted-is w d.happening old.journal new.journal e at.told d.tells n;
  };
}
  where
    sent-count : length w.sent ≡ length old.journal.frames.items
    sent-count =
        sym (length-map w.sent shown_sent) ∙ sym (ap length at.told.frames)
        ∙ length-map old.journal.frames.items shown_frame

-- an event that is refused
pub was-refused : (s : Setting) (w : World) (event : Event) (old : State) (n : Fault) → IsAt s old w
    → why_refused s.sizes (length old.journal.frames.items) event ≡ Some n
    → refusal w (event_of [] event) ≡ Some n
was-refused s w event old n at bad =
    refusal-is w [] event s.sizes (length old.journal.frames.items) at.parties.setting.sizes_are
    (sym (length-map w.sent shown_sent) ∙ sym (ap length at.told.frames)
    ∙ length-map old.journal.frames.items shown_frame) ∙ bad

-- ---- one event after the other

-- one more of these
these-more : (sizes : Sizes) (events : List Event) (hs : List Happening) (event : Event) (h : Happening)
    → AreThese sizes events hs → IsEventOf sizes event h.0
    → AreThese sizes (events ++ event ∷ []) (hs ++ h ∷ [])
these-more sizes [] [] event h a i = (i, tt)
these-more sizes (x ∷ events) (g ∷ hs) event h a i = (a.0, these-more sizes events hs event h a.1 i)
these-more sizes [] (g ∷ hs) event h a i = absurd a
these-more sizes (x ∷ events) [] event h a i = absurd a

-- a run goes on
run-more : (hs : List Happening) (w last : World) (h : Happening) → run w hs ≡ Ok last
    → refusal last h.0 ≡ None → run w (hs ++ h ∷ []) ≡ Ok (happens last h)
unfolding run
run-more [] w last h e ok =
    let is : w ≡ last = same e in
    subst (λ (x : World). elim (refusal x h.0) as (λ o. Result World Fault)
    [ Some n ↦ Err n | None ↦ Ok (happens x h) ] ≡ Ok (happens last h)) (sym is)
    (subst (λ (o : Option Fault). elim o as (λ o. Result World Fault)
    [ Some n ↦ Err n | None ↦ Ok (happens last h) ] ≡ Ok (happens last h)) (sym ok) refl)
  where
    same : ◌≡◌ {A = Result World Fault} (Ok w) (Ok last) → w ≡ last
    same k = cc
run-more (g ∷ hs) w last h e ok =
    let r = run-step (refusal w g.0) (run (happens w g) hs) last e in
    subst (λ (o : Option Fault). elim o as (λ o. Result World Fault)
    [ Some n ↦ Err n | None ↦ run (happens w g) (hs ++ h ∷ []) ] ≡ Ok (happens last h)) (sym r.0)
    (run-more hs (happens w g) last h r.1 ok)

-- the number of the next event
run-now : (hs : List Happening) (w last : World) → run w hs ≡ Ok last → last.now ≡ w.now + length hs
unfolding run happens
run-now [] w last e = let is : w ≡ last = same e in ap (λ (x : World). x.now) (sym is) ∙ omega arith
  where
    same : ◌≡◌ {A = Result World Fault} (Ok w) (Ok last) → w ≡ last
    same k = cc
run-now (h ∷ hs) w last e =
    let r = run-step (refusal w h.0) (run (happens w h) hs) last e in
    let k = run-now hs (happens w h) last r.1 in
    omega (arith, k)

-- the bytes of these are read rightly
these-read : (sizes : Sizes) (events : List Event) (hs : List Happening) → AreThese sizes events hs
    → AllRead sizes hs
these-read sizes [] [] a = tt
these-read sizes (x ∷ events) (h ∷ hs) a =
    (subst (IsReadIn sizes) (sym a.0.2) a.0.1, these-read sizes events hs a.1)
these-read sizes [] (h ∷ hs) a = absurd a
these-read sizes (x ∷ events) [] a = absurd a

-- a correct party's keys
own-keys : (s : Setting) → Holds s → (p : ℕ) → is_correct (start_of s) p ≡ true
    → ((start_of s).ring p).party ≡ p
unfolding new_world
own-keys s holds p c =
    let k : (is_replica_of s.sizes p && not (is_faulty_in s p)) ≡ true = c in
    holds.keys p (or_left (is_replica_of s.sizes p) (is_client_of s.sizes p)
    (and_parts (is_replica_of s.sizes p) (not (is_faulty_in s p)) k).0)

-- what was sent so far are frames
pub sent-so-far : (s : Setting) (state : State) (hs : List Happening) (w : World) → Holds s
    → length state.journal.answers.items < 2 ^ 63 → ComesTo s state hs w → SentAreFrames w
unfolding new_world
sent-so-far s state hs w holds few c =
    any-sent-are-frames s.sizes (is_faulty_in s) (ring_in s) hs w
    (let n =
    run-now hs (start_of s) w c.ends in let k =
    c.now_at.told.now in let o : (start_of s).now ≡ 1 = refl in omega (arith, n, k, o, few))
    (own-keys s holds) c.read c.ends

-- nothing happened yet
pub comes-first : (s : Setting) (state : State) → IsAt s state (start_of s) → ComesTo s state [] (start_of s)
unfolding run
comes-first s state at = record { read = tt; ends = refl; now_at = at }

-- the bytes of one more are read rightly
read-more : (sizes : Sizes) (hs : List Happening) (h : Happening) → AllRead sizes hs → IsReadIn sizes h.0
    → AllRead sizes (hs ++ h ∷ [])
read-more sizes [] h a r = (r, tt)
read-more sizes (g ∷ hs) h a r = (a.0, read-more sizes hs h a.1 r)

-- one event more
pub comes-more : (s : Setting) (event : Event) (old new : State) (hs : List Happening) (w : World)
    → ComesTo s old hs w → (g : GoesOn s w event new)
    → ComesTo s new (hs ++ g.happening ∷ []) (happens w g.happening)
comes-more s event old new hs w c g = record {
  read = read-more s.sizes hs g.happening c.read (subst (IsReadIn s.sizes) (sym g.is_event.2) g.is_event.1);
  ends = run-more hs (start_of s) w g.happening c.ends g.allowed;
  now_at = g.now_at;
}

-- so a run that goes on has one event more
pub next-stand : (s : Setting) (event : Event) (old new : State) (hs : List Happening) (w : World)
    → ComesTo s old hs w → GoesOn s w event new
    → Happened s hs w event (record { setting = s; state = Some new })
next-stand s event old new hs w c g = record {
  happening = g.happening;
  is_event = g.is_event;
  allowed = g.allowed;
  stands = record { state = new; goes = refl; comes = comes-more s event old new hs w c g };
}

-- and has come to where it stands
pub next-come : (s : Setting) (event : Event) (old new : State) (hs : List Happening) (w : World)
    → ComesTo s old hs w → GoesOn s w event new → HasCome s new
next-come s event old new hs w c g = record {
  happenings = hs ++ g.happening ∷ [];
  world = happens w g.happening;
  comes = comes-more s event old new hs w c g;
}

-- which state it is
same-state : (old new : State) → Some old ≡ Some new → old ≡ new
same-state old new e = cc

pub stand-comes : (s : Setting) (old : State) (r : Stand) (hs : List Happening) (w : World)
    → r ≡ record { setting = s; state = Some old } → StandsAt r hs w → ComesTo s old hs w
stand-comes s old r hs w is t =
    let e : Some t.state ≡ Some old = sym t.goes ∙ ap (λ (x : Stand). x.state) is in
    subst (λ (x : State). ComesTo s x hs w) (same-state t.state old e)
    (subst (λ (z : Setting). ComesTo z t.state hs w) (ap (λ (x : Stand). x.setting) is) t.comes)

-- one that was refused stands nowhere
pub no-stand : (s : Setting) (r : Stand) (hs : List Happening) (w : World)
    → r ≡ record { setting = s; state = None } → StandsAt r hs w → ⊥
no-stand s r hs w is t = none (sym t.goes ∙ ap (λ (x : Stand). x.state) is)
  where
    none : Some t.state ≡ None → ⊥
    none e = cc

-- ---- what stands where

got : {A : Type 0} (xs : List A) (i : ℕ) → i < length xs
    → (x : A) × (slice_get xs i ≡ Some x) × ((d : A) → slice_index_or xs i d ≡ x)
got [] i l = absurd (omega (arith, l))
got (x ∷ xs) zero l = (x, refl, λ d. refl)
got (x ∷ xs) (suc i) l = got xs i (omega (arith, l))

-- a replica
pub replica-found : (s : Setting) (state : State) (w : World) (i : ℕ) (o : Option (Bor steps.Held))
    → IsAt s state w → i < replicas s.sizes
    → option_map (λ (r : Bor steps.Held). r.now) o ≡ slice_get state.parties.replicas.items i
    → MatchOption o ⊥ (λ r. IsReplicaOf s w i r.now)
replica-found s state w i None at l e =
    let n = at.parties.seated.replica_count in
    let g = got state.parties.replicas.items i (omega (arith, n, l)) in absurd (none g.0 (e ∙ g.1))
  where
    none : (x : steps.Held) → None ≡ Some x → ⊥
    none x h = cc
replica-found s state w i (Some r) at l e =
    let n = at.parties.seated.replica_count in
    let g = got state.parties.replicas.items i (omega (arith, n, l)) in
    let is : slice_index_or state.parties.replicas.items i r.now ≡ r.now = g.2 r.now ∙ sym (same g.0 (e ∙ g.1)) in
    record {
      keys = subst (λ (h : steps.Held). HasKeysOf s i h.keys) is (at.parties.seated.replica_keys i r.now l);
      state = ap (λ (h : steps.Held). h.replica) (sym is) ∙ at.parties.replicas_are i r.now l;
    }
  where
    same : (x : steps.Held) → Some r.now ≡ Some x → r.now ≡ x
    same x h = cc

-- a client's session
pub session-found : (s : Setting) (state : State) (w : World) (i : ℕ) (o : Option (Bor sessions.Held))
    → IsAt s state w → i < s.sizes.clients
    → option_map (λ (r : Bor sessions.Held). r.now) o ≡ slice_get state.parties.sessions.items i
    → MatchOption o ⊥ (λ r. IsSessionOf s w i r.now)
session-found s state w i None at l e =
    let n = at.parties.seated.session_count in
    let g = got state.parties.sessions.items i (omega (arith, n, l)) in absurd (none g.0 (e ∙ g.1))
  where
    none : (x : sessions.Held) → None ≡ Some x → ⊥
    none x h = cc
session-found s state w i (Some r) at l e =
    let n = at.parties.seated.session_count in
    let g = got state.parties.sessions.items i (omega (arith, n, l)) in
    let is : slice_index_or state.parties.sessions.items i r.now ≡ r.now = g.2 r.now ∙ sym (same g.0 (e ∙ g.1)) in
    record {
      keys = subst (λ (h : sessions.Held). HasKeysOf s (client_party i) h.keys) is
          (at.parties.seated.session_keys i r.now l);
      state = ap (λ (h : sessions.Held). h.session) (sym is) ∙ at.parties.sessions_are i r.now l;
    }
  where
    same : (x : sessions.Held) → Some r.now ≡ Some x → r.now ≡ x
    same x h = cc

-- ---- a whole run

-- nothing happened yet
pub first-run : (s : Setting) (r : Stand) → r.setting ≡ s → StandsAt r [] (start_of s) → HasRun s [] r
first-run s r is t = record {
  setting = is;
  happenings = [];
  are_these = tt;
  world = start_of s;
  stands = t;
}

-- one event more
pub next-run : (s : Setting) (these : List Event) (event : Event) (old new : Stand) (r : HasRun s these old)
    → new.setting ≡ old.setting → Happened old.setting r.happenings r.world event new
    → HasRun s (these ++ event ∷ []) new
next-run s these event old new r is g = record {
  setting = is ∙ r.setting;
  happenings = r.happenings ++ g.happening ∷ [];
  are_these = these-more s.sizes these r.happenings event g.happening r.are_these
      (subst (λ (z : Setting). IsEventOf z.sizes event g.happening.0) r.setting g.is_event);
  world = happens r.world g.happening;
  stands = g.stands;
}

-- the whole run
pub whole-run : (s : Setting) (events : List Event) (r : Stand) (o : Outcome) → Holds s
    → (ran : HasRun s events r) → TellsOf ran.world o → IsRunOf s events o
unfolding new_world
whole-run s events r o holds ran t = record {
  happenings = ran.happenings;
  are_these = ran.are_these;
  last = ran.world;
  ends = ends;
  tells = t;
  linear = λ honest apart.
      let met : ArePremises (start_of s) ran.happenings =
      record {
        few = holds.few;
        keys = own-keys s holds;
        read = these-read s.sizes events ran.happenings ran.are_these;
        no_forgery = honest;
        no_collision = apart;
      } in (
        every-run-linear s.sizes (is_faulty_in s) (ring_in s) ran.happenings ran.world met ends,
        none-conflicts s.sizes (is_faulty_in s) (ring_in s) ran.happenings ran.world met ends,
      );
}
  where
    ends : run (start_of s) ran.happenings ≡ Ok ran.world
    ends = subst (λ (z : Setting). run (start_of z) ran.happenings ≡ Ok ran.world) ran.setting ran.stands.comes.ends

-- ---- where there is an effect

-- a submission
pub handed-if : (s : Setting) (held held' : List steps.Held) (seats seats' : List sessions.Held)
    (event : Event) (client : ℕ) (payload : Bytes) (sent : List SentFrame) (r : Result Effect Fault)
    → event_of [] event ≡ worlds.submit client payload
    → IfOk r (λ e. (w : World) → AreOf s held seats w → Hands s w client payload held' seats' e)
    → IfOk r (λ e. (w : World) → AreOf s held seats w → map shown_frame sent ≡ map shown_sent w.sent
    → SentAreFrames w → Acts s w event held' seats' e)
handed-if s held held' seats seats' event client payload sent (Ok e) is h =
    λ w at told fit. handed s w held' seats' e client event payload is (h w at)
handed-if s held held' seats seats' event client payload sent (Err n) is h = tt

-- bytes
pub injected-if : (s : Setting) (held held' : List steps.Held) (seats seats' : List sessions.Held)
    (event : Event) (to : ℕ) (bytes : Bytes) (sent : List SentFrame) (r : Result Effect Fault)
    → ((reads : List (Option Frame)) → event_of reads event ≡ worlds.inject to bytes (first_read reads))
    → IfOk r (λ e. (w : World) → AreOf s held seats w → Brings s w to bytes held' seats' e)
    → IfOk r (λ e. (w : World) → AreOf s held seats w → map shown_frame sent ≡ map shown_sent w.sent
    → SentAreFrames w → Acts s w event held' seats' e)
injected-if s held held' seats seats' event to bytes sent (Ok e) is h =
    λ w at told fit. injected s w held' seats' e to event bytes is (h w at)
injected-if s held held' seats seats' event to bytes sent (Err n) is h = tt

-- a frame of the record is named
allowed-frame : (sizes : Sizes) (sent k to : ℕ) → why_refused sizes sent (Relay k to) ≡ None → k < sent
allowed-frame sizes sent k to =
    cond_both (not (has_party sizes (Relay k to))) _ _ P (λ e h. absurd (some fault.NoSuchParty h)) (λ e.
    cond_both (not (nat_lt k sent)) _ _ P (λ f h. absurd (some fault.NoSuchFrame h))
    (λ f h. ltb-true k sent (not-false _ f)))
  where
    P : Option Fault → Type 0
    P o = o ≡ None → k < sent

    some : (n : Fault) → Some n ≡ None → ⊥
    some n h = cc

-- a frame of the record
pub relayed-if : (s : Setting) (held held' : List steps.Held) (seats seats' : List sessions.Held)
    (event : Event) (k to : ℕ) (bytes : Bytes) (sent : List SentFrame) (d : SentFrame)
    (r : Result Effect Fault) → event ≡ Relay k to → AreSizes s.sizes
    → why_refused s.sizes (length sent) event ≡ None → bytes ≡ (slice_index_or sent k d).frame.items
    → IfOk r (λ e. (w : World) → AreOf s held seats w → Brings s w to bytes held' seats' e)
    → IfOk r (λ e. (w : World) → AreOf s held seats w → map shown_frame sent ≡ map shown_sent w.sent
    → SentAreFrames w → Acts s w event held' seats' e)
relayed-if s held held' seats seats' event k to bytes sent d (Ok e) is are ok there h = λ w at told fit.
    subst (λ (x : Event). Acts s w x held' seats' e) (sym is)
    (relayed s w held' seats' e k to sent d bytes are at.setting.sizes_are told fit
    (allowed-frame s.sizes (length sent) k to
    (subst (λ (x : Event). why_refused s.sizes (length sent) x ≡ None) is ok)) there (h w at))
relayed-if s held held' seats seats' event k to bytes sent d (Err n) is are ok there h = tt

-- an input that no frame brings
pub moved-if : (s : Setting) (held held' : List steps.Held) (seats seats' : List sessions.Held)
    (event named : Event) (input : Input) (i : ℕ) (sent : List SentFrame) (r : Result Effect Fault)
    → event ≡ named
    → ((w : World) (e : Effect) → Moves s w input i held' seats' e → Acts s w named held' seats' e)
    → IfOk r (λ e. (w : World) → AreOf s held seats w → Moves s w input i held' seats' e)
    → IfOk r (λ e. (w : World) → AreOf s held seats w → map shown_frame sent ≡ map shown_sent w.sent
    → SentAreFrames w → Acts s w event held' seats' e)
moved-if s held held' seats seats' event named input i sent (Ok e) is act h =
    λ w at told fit. subst (λ (x : Event). Acts s w x held' seats' e) (sym is) (act w e (h w at))
moved-if s held held' seats seats' event named input i sent (Err n) is act h = tt

-- an offer
pub offered-if : (s : Setting) (held held' : List steps.Held) (seats seats' : List sessions.Held)
    (event : Event) (to : ℕ) (source : Source) (bytes : Bytes) (sent : List SentFrame) (r : Result Effect Fault)
    → event ≡ Offer to source → AreSizes s.sizes → AreBytes sent source bytes
    → IfOk r (λ e. (w : World) → AreOf s held seats w → Offers s w to bytes held' seats' e)
    → IfOk r (λ e. (w : World) → AreOf s held seats w → map shown_frame sent ≡ map shown_sent w.sent
    → SentAreFrames w → Acts s w event held' seats' e)
offered-if s held held' seats seats' event to source bytes sent (Ok e) is are there h = λ w at told fit.
    subst (λ (x : Event). Acts s w x held' seats' e) (sym is)
    (offered s w held' seats' e to source sent bytes are at.setting.sizes_are told fit there (h w at))
offered-if s held held' seats seats' event to source bytes sent (Err n) is are there h = tt

-- copies of a block
pub gathered-if : (s : Setting) (held held' : List steps.Held) (seats seats' : List sessions.Held)
    (event : Event) (to : ℕ) (sources : Vec Source Global) (ss : List Source) (sent : List SentFrame)
    (r : Result Effect Fault) → event ≡ Gather to sources → AreSizes s.sizes → ss ≡ sources.items
    → IfOk r (λ e. (frames : List (Bor Bytes)) × AreBytesOf sent ss frames
    × ((w : World) → AreOf s held seats w → Gathers s w to frames held' seats' e))
    → IfOk r (λ e. (w : World) → AreOf s held seats w → map shown_frame sent ≡ map shown_sent w.sent
    → SentAreFrames w → Acts s w event held' seats' e)
gathered-if s held held' seats seats' event to sources ss sent (Ok e) is are lent (frames, there, h) =
    λ w at told fit. subst (λ (x : Event). Acts s w x held' seats' e) (sym is)
    (gathered s w held' seats' e to sources sent frames are at.setting.sizes_are told fit
    (subst (λ (l : List Source). AreBytesOf sent l frames) lent there) (h w at))
gathered-if s held held' seats seats' event to sources ss sent (Err n) is are lent h = tt

-- what is named is there
allowed : (p f : Bool) (r : Option Fault) → (if not p then Some fault.NoSuchParty
    else (if not f then Some fault.NoSuchFrame else r)) ≡ None → (p ≡ true) × (f ≡ true)
allowed true true r e = (refl, refl)
allowed true false r e = absurd (some fault.NoSuchFrame e)
  where
    some : (n : Fault) → Some n ≡ None → ⊥
    some n h = cc
allowed false f r e = absurd (some fault.NoSuchParty e)
  where
    some : (n : Fault) → Some n ≡ None → ⊥
    some n h = cc

pub allowed-event : (sizes : Sizes) (sent : ℕ) (event named : Event) → event ≡ named
    → why_refused sizes sent event ≡ None
    → (has_party sizes named ≡ true) × (has_frame sent named ≡ true)
allowed-event sizes sent event named is ok =
    allowed (has_party sizes named) (has_frame sent named) _
    (subst (λ (x : Event). why_refused sizes sent x ≡ None) is ok)

pub is-below : (sizes : Sizes) (i : ℕ) → is_replica_of sizes i ≡ true → i < replicas sizes
is-below sizes i h = ltb-true i (replicas sizes) h

pub both-below : (sizes : Sizes) (i j : ℕ) → (is_replica_of sizes i && is_replica_of sizes j) ≡ true
    → (i < replicas sizes) × (j < replicas sizes)
both-below sizes i j h =
    let both = and_parts _ _ h in (is-below sizes i both.0, is-below sizes j both.1)

-- an event at a correct party
pub correct-if : (s : Setting) (held held' : List steps.Held) (seats seats' : List sessions.Held)
    (event : Event) (sent : List SentFrame) (r : Result Effect Fault)
    → is_faulty_in s (party_named event) ≡ false
    → IfOk r (λ e. (w : World) → AreOf s held seats w → map shown_frame sent ≡ map shown_sent w.sent
    → SentAreFrames w → Acts s w event held' seats' e)
    → IfOk r (λ e. (w : World) → AreOf s held seats w → map shown_frame sent ≡ map shown_sent w.sent
    → SentAreFrames w → Does s w event held' seats' e)
correct-if s held held' seats seats' event sent (Ok e) ok h =
    λ w at told fit. correct-does s w held' seats' e event ok at.setting.faulty_are (h w at told fit)
correct-if s held held' seats seats' event sent (Err n) ok h = tt

-- after an event's effect was noted, or not for want of memory
pub after-note :
    (s : Setting) (w : World) (event : Event) (old new : State) (e : Effect) (r : Result (Unit {0}) Fault)
    → IsAt s old w → why_refused s.sizes (length old.journal.frames.items) event ≡ None
    → Does s w event new.parties.replicas.items new.parties.sessions.items e
    → OnOk r (map shown_frame new.journal.frames.items
    ≡ map shown_frame old.journal.frames.items
    ++ map (dated_sending (suc (length old.journal.answers.items))) e.out.items)
    → OnOk r (map accepted_by new.journal.receipts.items
    ≡ map accepted_by old.journal.receipts.items
    ++ map
    (λ a. record { event = suc (length old.journal.answers.items); client = a.0; receipt = a.1 })
    (option_to_list e.accepted))
    → OnOk r (new.journal.answers.items ≡ old.journal.answers.items ++ e.answer ∷ [])
    → OnErr r (r ≡ Err fault.Memory)
    → MatchResult r (λ _. GoesOn s w event new)
    (λ n. (n ≡ fault.Memory) ⊎ (refusal w (event_of [] event) ≡ Some n))
after-note s w event old new e (Ok x) at ok d f p a m =
    went-on s w event old new e at ok d (record { frames = f; receipts = p; answers = a })
after-note s w event old new e (Err n) at ok d f p a m = inl (same m)
  where
    same : ◌≡◌ {A = Result (Unit {0}) Fault} (Err n) (Err fault.Memory) → n ≡ fault.Memory
    same k = cc

-- an event stood
pub stood :
    (s : Setting) (w : World) (event : Event) (new : State) (old : Result (Unit {0}) Fault) (x : Unit {0})
    → old ≡ Ok x
    → MatchResult old (λ _. GoesOn s w event new)
    (λ n. (n ≡ fault.Memory) ⊎ (refusal w (event_of [] event) ≡ Some n)) → GoesOn s w event new
stood s w event new old x is h =
    subst (λ (r : Result (Unit {0}) Fault). MatchResult r (λ _. GoesOn s w event new)
    (λ n. (n ≡ fault.Memory) ⊎ (refusal w (event_of [] event) ≡ Some n))) is h

-- nothing was told yet
pub first-at : (s : Setting) (state : State)
    → AreOf s state.parties.replicas.items state.parties.sessions.items (start_of s)
    → state.journal.frames.items ≡ [] → state.journal.answers.items ≡ [] → state.journal.receipts.items ≡ []
    → IsAt s state (start_of s)
unfolding new_world
first-at s state p f a r = record {
  parties = p;
  told = record {
    frames = ap (map shown_frame) f;
    answers = a;
    receipts = ap (map accepted_by) r;
    now = ap (λ l. suc (length l)) (sym a);
  };
}

-- an event is refused
pub ends-refused : (s : Setting) (events : List Event) (i : ℕ) (d event : Event) (old : Stand) (n : Fault)
    → i < length events → event ≡ slice_index_or events i d → (r : HasRun s (take i events) old)
    → (n ≡ fault.Memory) ⊎ (refusal r.world (event_of [] event) ≡ Some n)
    → (n ≡ fault.Memory) ⊎ IsRefusedFor s events n
ends-refused s events i d event old n l is r (inl m) = inl m
ends-refused s events i d event old n l is r (inr h) = inr (record {
  these = take i events;
  event = event;
  others = drop (i + 1) events;
  events_are =
      sym (take-append-drop i events)
      ∙ ap (λ l. take i events ++ l)
      (drop_more events i d l ∙ ap (λ (x : Event). x ∷ drop (i + 1) events) (sym is));
  happenings = r.happenings;
  are_these = r.are_these;
  world = r.world;
  ends = subst (λ (z : Setting). run (start_of z) r.happenings ≡ Ok r.world) r.setting r.stands.comes.ends;
  refused = h;
})

-- one event more of the schedule
pub goes-further : (s : Setting) (events : List Event) (i : ℕ) (d event : Event) (old new : Stand)
    → i < length events → event ≡ slice_index_or events i d → (r : HasRun s (take i events) old)
    → new.setting ≡ old.setting → Happened old.setting r.happenings r.world event new
    → HasRun s (take (i + 1) events) new
goes-further s events i d event old new l is r same g =
    subst (λ (es : List Event). HasRun s es new)
    (ap (λ (x : Event). take i events ++ x ∷ []) is ∙ sym (take_more events i d l))
    (next-run s (take i events) event old new r same g)

-- the end of the schedule
pub ends-whole : (s : Setting) (events : List Event) (i : ℕ) (r : Stand) (o : Result Outcome Fault)
    → Holds s → length events ≤ i → (ran : HasRun s (take i events) r)
    → IfOk o (λ x. (hs : List Happening) (w : World) → StandsAt r hs w → TellsOf w x)
    → IfOk o (IsRunOf s events)
ends-whole s events i r (Ok x) holds l ran t =
    subst (λ (es : List Event). IsRunOf s es x) (take_all i events l)
    (whole-run s (take i events) r x holds ran (t ran.happenings ran.world ran.stands))
ends-whole s events i r (Err n) holds l ran t = tt

-- what it came to
pub tells-of : (s : Setting) (state : State) (o : Outcome) (histories : List Told)
    → o.frames ≡ state.journal.frames → o.answers ≡ state.journal.answers
    → o.receipts ≡ state.journal.receipts
    → ((w : World) → AreOf s state.parties.replicas.items state.parties.sessions.items w → o.histories.items
    ≡ histories_of w) → (w : World) → IsAt s state w → TellsOf w o
tells-of s state o histories f a r h w at = record {
  frames = ap (λ v. map shown_frame v.items) f ∙ at.told.frames;
  answers = ap (λ v. v.items) a ∙ at.told.answers;
  receipts = ap (λ v. map accepted_by v.items) r ∙ at.told.receipts;
  histories = h w at.parties;
}
