-- A tag that a process sent alone stands in the record of the world.
use Rattle.std.proofs.Common.{ℕ, ◌≡◌, ◌==◌, true, false, List, [], ◌∷◌, ◌++◌, filter, refl, sym, ap, subst}
use Rattle.std.proofs.Common.{◌∙◌, ◌&&◌, inl, inr}
use Rattle.std.specs.List.{AllByRecursion}
use Rattle.std.proofs.lemmas.Bool.{eqb-true, eq-eqb, cases_Bool, and_from, not_from_false}
use Rattle.ids.specs.Sizes.{client_party}
use Rattle.definitions.specs.Admission.{check_gathered, is_passed}
use Rattle.definitions.specs.Frames.{Frame}
use Rattle.definitions.specs.Keyrings.{client_at}
use Rattle.definitions.specs.Lists.{Among}
use Rattle.definitions.specs.Replicas.{Replica}
use Rattle.definitions.specs.Sendings.{Sending}
use Rattle.definitions.specs.Sessions.{Session}
use Rattle.definitions.specs.Worlds.{World, Sent, Source, Source.of_record, Source.of_bytes, Event, Event.submit}
use Rattle.definitions.specs.Worlds.{Event.relay, Event.inject, Event.timeout, Event.beat, Event.prune, Event.offer}
use Rattle.definitions.specs.Worlds.{Event.gather, Event.lead, Event.ask, Happening, new_world, is_replica, is_correct, self_of}
use Rattle.definitions.specs.Events.{brought, frames_of, listed, happens}
use Rattle.definitions.specs.Runs.{after}
use Rattle.definitions.specs.Premises.{IsTagOf, admits_in, NoForgeryIn, NoForgery}
use Rattle.definitions.proofs.Lists.{Among-map, Among-filter, Among-mapped, Among-kept}
use Rattle.linear_law.proofs.HeldVotes.{all-from}
use Rattle.linear_law.proofs.Inputs.{all-among}
use Rattle.local_runs.specs.Processes.{Deeds}
use Rattle.local_runs.specs.Law.{run_of, sent_by, IsCorrectClient, IsOfProcesses, IsSentAlone}
use Rattle.local_runs.specs.Law.{ForgeryIsSeenAlone}
use Rattle.local_runs.proofs.Moves.{client-number}
use Rattle.local_runs.proofs.Told.{IsBytes, BringsBytes, IsTold, interleaving-told}
use Rattle.local_runs.proofs.Alone.{of-processes, apart, first-ones}

-- ---- a frame that was sent alone is recorded

abbrev sending_of : Sent → Sending
sending_of s = (s.to, s.frame)

-- so it is recorded, maybe with another event's number
abbrev IsRecorded : World → Sent → Type 0
IsRecorded w s = (t : Sent) × Among t w.sent × (t.sender ≡ s.sender) × (sending_of s ≡ sending_of t)

by-sender : (w : World) (p : ℕ) (s : Sent) → s.sender ≡ p → Among (sending_of s) (sent_by p w.sent)
    → IsRecorded w s
by-sender w p s e m =
    let x = Among-map sending_of (filter (λ t. t.sender == p) w.sent) (sending_of s) m in
    let y = Among-filter (λ t. t.sender == p) w.sent x.0 x.1 in
    (x.0, y.0, eqb-true _ _ y.1 ∙ sym e, x.2)

alone-recorded : (start last : World) (runs : ℕ → List Happening) → IsOfProcesses start runs last → (s : Sent)
    → IsSentAlone start runs s → IsRecorded last s
alone-recorded start last runs o s (inl x) =
    by-sender last s.sender s refl
    (subst (λ (d : Deeds Replica). Among (sending_of s) d.sent) (sym (o.replicas s.sender x.0)) x.1)
alone-recorded start last runs o s (inr x) =
    by-sender last (client_party x.0) s x.2
    (subst (λ (d : Deeds Session). Among (sending_of s) d.sent) (sym (o.clients x.0 x.1)) x.3)

-- ---- a recorded frame was sent alone

recorded-alone : (start last : World) (runs : ℕ → List Happening) → IsOfProcesses start runs last → (s : Sent)
    → Among s last.sent → IsSentAlone start runs s
recorded-alone start last runs o s m =
    let p = o.senders s m in
    elim (cases_Bool (is_replica start s.sender)) [
      | inl r ↦
          (let c : is_correct start s.sender ≡ true = and_from _ _ r (not_from_false _ p.1) in
          inl (
            c,
            subst (λ (d : Deeds Replica). Among (sending_of s) d.sent) (o.replicas s.sender c)
                (sent-own last s.sender s refl m),
          ))
      | inr r ↦
          (let n = client-number start s.sender p.0 r in
          let c : IsCorrectClient start (client_at s.sender) =
          (n.1, subst (λ (q : ℕ). start.is_faulty q ≡ false) n.0 p.1) in
          inr (
            client_at s.sender,
            c,
            n.0,
            subst (λ (d : Deeds Session). Among (sending_of s) d.sent) (o.clients (client_at s.sender) c)
                (sent-own last (client_party (client_at s.sender)) s n.0 m),
          ))
    ]
  where
    sent-own : (w : World) (q : ℕ) (t : Sent) → t.sender ≡ q → Among t w.sent
        → Among (sending_of t) (sent_by q w.sent)
    sent-own w q t e k =
        Among-mapped sending_of (filter (λ x. x.sender == q) w.sent) t
        (Among-kept (λ x. x.sender == q) w.sent t k (eq-eqb _ _ e))

-- ---- no event brings a forged tag

-- a world of these parties, with this record
abbrev beside : World → World → List Sent → World
beside start w sent = record start { sizes = w.sizes; is_faulty = w.is_faulty; ring = w.ring; sent = sent }

same-frames : (v w : World) (ss : List Source) → AllByRecursion IsBytes ss → frames_of v ss ≡ frames_of w ss
same-frames v w [] a = refl
same-frames v w (of_record k ∷ ss) a = absurd a.0
same-frames v w (of_bytes bytes read ∷ ss) a =
    ap (λ (fs : List Frame). listed read ++ fs) (same-frames v w ss a.1)

-- what an event in bytes brings is the same in all worlds
same-brought : (v w : World) (e : Event) → BringsBytes e → brought v e ≡ brought w e
unfolding brought
same-brought v w (submit c payload) b = refl
same-brought v w (relay k to) b = absurd b
same-brought v w (inject to bytes read) b = refl
same-brought v w (timeout r) b = refl
same-brought v w (beat r) b = refl
same-brought v w (prune r height) b = refl
same-brought v w (offer to (of_record k)) b = absurd b
same-brought v w (offer to (of_bytes bytes read)) b = refl
same-brought v w (gather to ss) b = same-frames v w ss b
same-brought v w (lead r d) b = refl
same-brought v w (ask r to d) b = refl

-- so is what its party admits
same-admitted : (start w : World) (sent : List Sent) (e : Event) (f : Frame) → BringsBytes e
    → admits_in (beside start w sent) e f ≡ admits_in w e f
unfolding brought
same-admitted start w sent (submit c payload) f b = refl
same-admitted start w sent (relay k to) f b = absurd b
same-admitted start w sent (inject to bytes read) f b = refl
same-admitted start w sent (timeout r) f b = refl
same-admitted start w sent (beat r) f b = refl
same-admitted start w sent (prune r height) f b = refl
same-admitted start w sent (offer to source) f b = refl
same-admitted start w sent (gather to ss) f b =
    ap (λ (fs : List Frame). is_replica w to && is_passed (check_gathered (self_of w to) fs))
    (same-frames (beside start w sent) w ss b)
same-admitted start w sent (lead r d) f b = refl
same-admitted start w sent (ask r to d) f b = refl

-- no tag is forged in a world that has all that is beside
moved : (start w : World) (sent : List Sent) (e : Event) → BringsBytes e
    → ((s : Sent) → Among s sent → IsRecorded w s) → NoForgeryIn (beside start w sent) e → NoForgeryIn w e
moved start w sent e bytes recorded old f b ok ad x n correct =
    let s = old f (subst (λ (fs : List Frame). Among f fs) (sym (same-brought (beside start w sent) w e bytes)) b) ok
    (same-admitted start w sent e f bytes ∙ ad) x n correct in
    let t = recorded s.0 s.1 in (
      t.0,
      t.1,
      t.2 ∙ s.2,
      subst (λ (q : Sending). IsTagOf x (record { event = 0; sender = 0; to = q.0; frame = q.1 }) q.1) t.3 s.3,
    )

-- nor is one beside its record
moved-back : (start w : World) (e : Event) → BringsBytes e → NoForgeryIn w e → NoForgeryIn (beside start w w.sent) e
moved-back start w e bytes old f b ok ad x n correct =
    old f (subst (λ (fs : List Frame). Among f fs) (same-brought (beside start w w.sent) w e bytes) b) ok
    (sym (same-admitted start w w.sent e f bytes) ∙ ad) x n correct

-- ---- the law

-- a later world has the same parties and keys
same-makeup : (hs : List Happening) (w : World)
    → (w.sizes ≡ (after w hs).sizes) × (w.is_faulty ≡ (after w hs).is_faulty) × (w.ring ≡ (after w hs).ring)
unfolding after happens
same-makeup [] w = (refl, refl, refl)
same-makeup (h ∷ hs) w = same-makeup hs (happens w h)

-- one of the events
there : (P : Happening → Type 0) (before later : List Happening) (h : Happening)
    → AllByRecursion P (before ++ h ∷ later) → P h
there P [] later h a = a.0
there P (x ∷ before) later h a = there P before later h a.1

-- a run without forged tags, event by event
each-forges : (hs : List Happening) (w : World)
    → ((before later : List Happening) (h : Happening) → before ++ h ∷ later ≡ hs → NoForgeryIn (after w before) h.0)
    → NoForgery w hs
unfolding after
each-forges [] w each = tt
each-forges (h ∷ hs) w each = (
  each [] hs h refl,
  each-forges hs (happens w h) (λ before later x e. each (h ∷ before) later x (ap (λ (l : List Happening). h ∷ l) e)),
)

forgery-at : (before later : List Happening) (h : Happening) (w : World) → NoForgery w (before ++ h ∷ later)
    → NoForgeryIn (after w before) h.0
unfolding after
forgery-at [] later h w n = n.0
forgery-at (x ∷ before) later h w n = forgery-at before later h (happens w x) n.1

pub forgery-seen : ForgeryIsSeenAlone
forgery-seen sizes is_faulty ring runs order are can inter = (
  λ none before later h e.
      let w : World = after start before in
      let same = same-makeup before start in (
        w.sent,
        all-from (IsSentAlone start (λ p. run_of p before)) w.sent
            (λ s m. recorded-alone start w (λ p. run_of p before) (moment before later h e) s m),
        subst (λ (v : World). NoForgeryIn v h.0)
            (λ k. record start { sizes = sym same.0 k; is_faulty = sym same.1 k; ring = sym same.2 k; sent = w.sent })
            (moved-back start w h.0 (now before later h e).bytes (forgery-at before later h start
            (subst (λ (hs : List Happening). NoForgery start hs) (sym e) none))),
      ),
  λ none.
      each-forges order start (λ before later h e.
      let w : World = after start before in
      let same = same-makeup before start in
      let n = none before later h e in
      moved start w n.0 h.0 (now before later h e).bytes
      (λ s m. alone-recorded start w (λ p. run_of p before) (moment before later h e) s
      (all-among (IsSentAlone start (λ p. run_of p before)) n.0 s n.1 m))
      (subst (λ (v : World). NoForgeryIn v h.0)
      (λ k. record start { sizes = same.0 k; is_faulty = same.1 k; ring = same.2 k; sent = n.0 }) n.2)),
)
  where
    start : World
    start = new_world sizes is_faulty ring

    all : (before later : List Happening) (h : Happening) → before ++ h ∷ later ≡ order
        → AllByRecursion (IsTold start) (before ++ h ∷ later)
    all before later h e =
        subst (λ (hs : List Happening). AllByRecursion (IsTold start) hs) (sym e)
        (interleaving-told sizes is_faulty ring runs order inter can)

    now : (before later : List Happening) (h : Happening) → before ++ h ∷ later ≡ order → IsTold start h
    now before later h e = there (IsTold start) before later h (all before later h e)

    moment : (before later : List Happening) (h : Happening) → before ++ h ∷ later ≡ order
        → IsOfProcesses start (λ p. run_of p before) (after start before)
    moment before later h e =
        of-processes sizes is_faulty ring (λ p. run_of p before) before (apart sizes is_faulty ring are) (λ p. refl)
        (first-ones (IsTold start) before (h ∷ later) (all before later h e))
