-- What comes of a replica's questions: questions of its own, and copies for it alone.
use Rattle.ids.specs.declared.fault.Fault.TheVariants as fault
use Rattle.std.proofs.Common.{ℕ, ◌≡◌, true, false, List, [], ◌∷◌, ◌++◌, drop, length}
use Rattle.std.proofs.Common.{refl, sym, ap, subst, ◌∙◌, inl, inr, Option, Some, None, slice_get, option_map}
use Rattle.std.specs.Bool.{⊤}
use Rattle.std.specs.List.{AllByRecursion}
use Rattle.std.proofs.lemmas.Bool.{cond_both, and_from, not_from_false, true≢false}
use Rattle.std.proofs.lemmas.List.{append-nil, append_assoc}
use Rattle.std.proofs.Math.Seq.{drop-append_seam}
use Rattle.definitions.specs.Lists.{Among}
use Rattle.definitions.specs.Bytes.{Bytes}
use Rattle.definitions.specs.Chronicles.{Admitted, Step, Step.noted, Note.got_fetch}
use Rattle.definitions.specs.Checks.{Identity}
use Rattle.definitions.specs.Frames.{Frame}
use Rattle.definitions.specs.Frames as frame
use Rattle.ids.specs.Sizes.{Sizes}
use Rattle.definitions.specs.Keyrings.{Keyring, client_at, is_replica_of}
use Rattle.definitions.specs.Rulings.{Input.ask_in, Input.fetch_in, Ruling.due, Ruling.missing}
use Rattle.definitions.specs.Rulings.{ruling}
use Rattle.definitions.specs.Replicas.{MemorySupply, MemorySupply.ample, Replica}
use Rattle.definitions.specs.Replicas.{step}
use Rattle.definitions.specs.Sendings.{To, To.to_party, Sending, sendings, supplies, as_taken, fetch_frame, block_frame}
use Rattle.definitions.specs.States.{me, find_block}
use Rattle.definitions.specs.Admission.{Checked, Checked.passes, Checked.rejected, check}
use Rattle.definitions.specs.Worlds.{World, Sent, Event, Event.submit, Event.relay, Event.inject, Event.timeout}
use Rattle.definitions.specs.Worlds.{Event.beat, Event.prune, Event.offer, Event.gather, Event.lead, Event.ask}
use Rattle.definitions.specs.Worlds.{Happening, is_replica, self_of}
use Rattle.definitions.specs.Events.{Effect, nothing, stepped, told, hears, comes, on_checked, out_of, acts, effect}
use Rattle.definitions.specs.Events.{happens, party_of}
use Rattle.definitions.specs.Runs.{after}
use Rattle.definitions.proofs.Certificates.{all-implied}
use Rattle.definitions.proofs.Lists.{Among-either, Among-map}
use Rattle.linear_law.specs.Law.{HaveOwnKeys}
use Rattle.linear_law.proofs.Sends.{input-out}
use Rattle.recovery.specs.Correct.{amply}
use Rattle.recovery.specs.Healing.{is_question, delivered_since, ask_one, ask_each}
use Rattle.recovery.proofs.Handed.{deliveries-hold}
use Rattle.recovery.proofs.Offers.{sent-later}
use Rattle.recovery.proofs.Ways.{turn-after, turns-none}
use Rattle.recovery.proofs.Worlds.{made-after, after-append, same-correct}

-- ---- questions

-- a question of this replica, or a copy for it alone
abbrev pub GoesBack : ℕ → To → Frame → Type 0
GoesBack u to (frame.fetch r d t) = r ≡ u
GoesBack u to (frame.block r core q t) = to ≡ to_party u
GoesBack u to f = ⊤

-- a question of this replica
abbrev IsQuestionOf : ℕ → Frame → Type 0
IsQuestionOf u (frame.fetch r d t) = r ≡ u
IsQuestionOf u f = ⊥

-- it asks, or its question comes
abbrev Asks : ℕ → World → Event → Type 0
Asks u w (ask r to d) = (r ≡ u) × (is_replica w r ≡ true)
Asks u w (relay k to) = (s : Sent) × (slice_get w.sent k ≡ Some s) × IsQuestionOf u s.frame
Asks u w e = ⊥

-- what is asked
ask-out : (self : Identity) (m : MemorySupply) (u to : ℕ) (d : Bytes) (r : Replica) → me self ≡ u → (o : Sending)
    → Among o (out_of self m (step self m (ask_in to d) r).1) → GoesBack u o.0 o.1
unfolding ruling fetch_frame
ask-out self m u to d r is =
    input-out self m (λ o. GoesBack u o.0 o.1) (ask_in to d) r (λ st e o k. absurd (apart st e)) (λ n x e. is)
  where
    apart : (st : Step) → missing to d ≡ due st → ⊥
    apart st e = cc

-- what is answered
answer-out : (self : Identity) (m : MemorySupply) (u n : ℕ) (d : Bytes) (r : Replica) → n ≡ u → (o : Sending)
    → Among o (out_of self m (step self m (fetch_in n d) r).1) → GoesBack u o.0 o.1
unfolding ruling sendings block_frame
answer-out self m u n d r is =
    input-out self m (λ o. GoesBack u o.0 o.1) (fetch_in n d) r
    (λ st e o k. let same : noted (got_fetch n (find_block d r.chronicle)) ≡ st = cc in
    supplied (as_taken (find_block d r.chronicle) r.chronicle) o
    (subst (λ (x : Step). Among o (sendings self x r.chronicle)) (sym same) k)) (λ to x e. absurd (apart to x e))
  where
    apart : (to : ℕ) (x : Bytes) → due (noted (got_fetch n (find_block d r.chronicle))) ≡ missing to x → ⊥
    apart to x e = cc

    supplied : (a : Option Admitted) (o : Sending) → Among o (supplies self n a) → GoesBack u o.0 o.1
    supplied None o k = absurd k
    supplied (Some a) o (inl i) = subst (λ (x : Sending). GoesBack u x.0 x.1) (sym i) (ap to_party is)
    supplied (Some a) o (inr z) = absurd z

-- where a question comes
comes-out : (w : World) (m : MemorySupply) (u p : ℕ) (f : Frame) → IsQuestionOf u f → (o : Sending)
    → Among o (comes p m (Some f) w).out → GoesBack u o.0 o.1
unfolding comes check stepped told nothing
comes-out w m u p (frame.fetch n d t) is o =
    cond_both (is_replica w p) (on_checked p m (check (self_of w p) (frame.fetch n d t)) w)
    (hears (client_at p) m (frame.fetch n d t) w) (λ (f : Effect). Among o f.out → GoesBack u o.0 o.1)
    (λ e. cond_both _ (passes (fetch_in n d)) (rejected fault.BadTag)
    (λ (x : Checked). Among o (on_checked p m x w).out → GoesBack u o.0 o.1)
    (λ t. answer-out (self_of w p) m u n d (w.replica p) is o) (λ t k. absurd k)) (λ e k. absurd k)
comes-out w m u p (frame.block r core q t) is o = absurd is
comes-out w m u p (frame.proposal v core q t) is o = absurd is
comes-out w m u p (frame.vote d b) is o = absurd is
comes-out w m u p (frame.new_view v r q t) is o = absurd is
comes-out w m u p (frame.request c) is o = absurd is
comes-out w m u p (frame.reply r c q x t g) is o = absurd is

acts-out : (w : World) (m : MemorySupply) (u : ℕ) (e : Event) → HaveOwnKeys w → w.is_faulty (party_of e) ≡ false
    → Asks u w e → (o : Sending) → Among o (acts w e m).out → GoesBack u o.0 o.1
unfolding acts party_of stepped
acts-out w m u (ask r to d) keys ok a =
    ask-out (self_of w r) m u to d (w.replica r) (keys r (and_from _ _ a.1 (not_from_false _ ok)) ∙ a.0)
acts-out w m u (relay k to) keys ok a = λ o n.
    comes-out w m u to a.0.frame a.2 o (subst (λ (x : Option Frame). Among o (comes to m x w).out)
    (ap (λ (x : Option Sent). option_map (λ s. s.frame) x) a.1) n)
acts-out w m u (submit c payload) keys ok a = absurd a
acts-out w m u (inject to bytes read) keys ok a = absurd a
acts-out w m u (timeout r) keys ok a = absurd a
acts-out w m u (beat r) keys ok a = absurd a
acts-out w m u (prune r height) keys ok a = absurd a
acts-out w m u (offer to source) keys ok a = absurd a
acts-out w m u (gather to sources) keys ok a = absurd a
acts-out w m u (lead r d) keys ok a = absurd a

effect-out : (w : World) (m : MemorySupply) (u : ℕ) (e : Event) → HaveOwnKeys w → Asks u w e → (o : Sending)
    → Among o (effect w (e, m)).out → GoesBack u o.0 o.1
unfolding effect nothing
effect-out w m u e keys a o =
    cond_both (w.is_faulty (party_of e)) (nothing w None) (acts w e m) (λ (f : Effect). Among o f.out → GoesBack u o.0 o.1)
    (λ t k. absurd k) (λ ok. acts-out w m u e keys ok a o)

-- ---- what was sent meanwhile

-- all that was sent between these worlds goes back
abbrev pub AllGoesBack : ℕ → World → World → Type 0
AllGoesBack u w v =
    (more : List Sent) × (v.sent ≡ w.sent ++ more) × ((s : Sent) → Among s more → GoesBack u s.to s.frame)

back-none : (u : ℕ) (w : World) → AllGoesBack u w w
back-none u w = ([], sym (append-nil w.sent), λ s m. absurd m)

back-both : (u : ℕ) (w v x : World) → AllGoesBack u w v → AllGoesBack u v x → AllGoesBack u w x
back-both u w v x h k = (
  h.0 ++ k.0,
  k.1 ∙ (ap (λ (l : List Sent). l ++ k.0) h.1 ∙ append_assoc w.sent h.0 k.0),
  λ s m. elim (Among-either s h.0 k.0 m) [ inl i ↦ h.2 s i | inr i ↦ k.2 s i ],
)

back-one : (u : ℕ) (w : World) (e : Event) (m : MemorySupply) → HaveOwnKeys w → Asks u w e
    → AllGoesBack u w (happens w (e, m))
unfolding happens
back-one u w e m keys a = (_, refl, λ s n. by s (Among-map _ (effect w (e, m)).out s n))
  where
    by : (s : Sent)
        → (o : Sending) × Among o (effect w (e, m)).out
        × (s ≡ record { event = w.now; sender = party_of e; to = o.0; frame = o.1 }) → GoesBack u s.to s.frame
    by s b = subst (λ (z : Sent). GoesBack u z.to z.frame) (sym b.2) (effect-out w m u e keys a b.0 b.1)

own-after : (w : World) (hs : List Happening) → HaveOwnKeys w → HaveOwnKeys (after w hs)
own-after w hs keys = λ p c.
    let made = made-after w hs in
    ap (λ (ring : ℕ → Keyring). (ring p).party) made.ring ∙ keys p (sym (same-correct w (after w hs) made p) ∙ c)

asks-later : (u : ℕ) (w : World) (h : Happening) (e : Event) → Asks u w e → Asks u (happens w h) e
unfolding happens
asks-later u w h (ask r to d) a = a
asks-later u w h (relay k to) a = (a.0, sent-later w.sent _ k a.0 a.1, a.2)
asks-later u w h (submit c payload) a = absurd a
asks-later u w h (inject to bytes read) a = absurd a
asks-later u w h (timeout r) a = absurd a
asks-later u w h (beat r) a = absurd a
asks-later u w h (prune r height) a = absurd a
asks-later u w h (offer to source) a = absurd a
asks-later u w h (gather to sources) a = absurd a
asks-later u w h (lead r d) a = absurd a

back-events : (u : ℕ) (es : List Event) (w : World) → HaveOwnKeys w → AllByRecursion (Asks u w) es
    → AllGoesBack u w (after w (amply es))
unfolding after happens
back-events u [] w keys a = back-none u w
back-events u (e ∷ es) w keys a =
    let v : World = happens w (e, ample) in
    back-both u w v (after v (amply es)) (back-one u w e ample keys a.0)
    (back-events u es v keys (all-implied (Asks u w) (Asks u v) (asks-later u w (e, ample)) es a.1))

-- one question, and its way
back-asked : (d : Bytes) (u r : ℕ) (w : World) → HaveOwnKeys w → is_replica w u ≡ true
    → AllGoesBack u w (after w (ask_one d u r w))
unfolding ask_one is_question
back-asked d u r w keys at =
    let asks = amply (ask u r d ∷ []) in
    let v : World = after w asks in
    let one = back-events u (ask u r d ∷ []) w keys ((refl, at), tt) in
    let es : List Event = delivered_since (length w.sent) is_question v in
    let drops = ap (λ (l : List Sent). drop (length w.sent) l) one.1 ∙ drop-append_seam w.sent one.0 in
    let questions = deliveries-hold (length w.sent) is_question v (Asks u v) (λ k s q e m o n.
    (s, e, own s.to s.frame o (one.2 s (subst (λ (l : List Sent). Among s l) drops m)))) in
    let two = back-events u es v (own-after w asks keys) questions in
    let end : World = after v (amply es) in
    let none = turns-none end in
    let ends = turn-after (λ z. amply (ask u r d ∷ []))
    ((λ z. amply (delivered_since (length w.sent) is_question z)) ∷ []) w
    ∙ (turn-after (λ z. amply (delivered_since (length w.sent) is_question z)) [] v ∙ none.1) in
    subst (AllGoesBack u w) (sym ends) (back-both u w v end one two)
  where
    own : (to : To) (f : Frame) → is_question f ≡ true → GoesBack u to f → IsQuestionOf u f
    own to (frame.fetch n x t) o g = g
    own to (frame.block n core q t) o g = absurd (true≢false (sym o))
    own to (frame.proposal v core q t) o g = absurd (true≢false (sym o))
    own to (frame.vote x b) o g = absurd (true≢false (sym o))
    own to (frame.new_view v n q t) o g = absurd (true≢false (sym o))
    own to (frame.request c) o g = absurd (true≢false (sym o))
    own to (frame.reply n c q x t y) o g = absurd (true≢false (sym o))

-- all of them
pub back-each : (d : Bytes) (u : ℕ) (rs : List ℕ) (w : World) → HaveOwnKeys w → is_replica w u ≡ true
    → AllGoesBack u w (after w (ask_each d u rs w))
unfolding ask_each after
back-each d u [] w keys at = back-none u w
back-each d u (r ∷ rs) w keys at =
    let xs = ask_one d u r w in
    let v : World = after w xs in
    let made = made-after w xs in
    let two = back-each d u rs v (own-after w xs keys)
    (ap (λ (s : Sizes). is_replica_of s u) made.sizes ∙ at) in
    subst (AllGoesBack u w) (sym (after-append w xs (ask_each d u rs v)))
    (back-both u w v (after v (ask_each d u rs v)) (back-asked d u r w keys at) two)
