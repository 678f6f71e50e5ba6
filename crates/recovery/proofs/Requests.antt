-- A correct client's request comes to a correct replica.
use Rattle.ids.specs.declared.kind.Kind.TheVariants as kind
use Rattle.std.proofs.Common.{ℕ, ◌≡◌, ◌<◌, true, List, [], ◌∷◌, ◌++◌, refl, sym, ap, ◌∙◌, arith}
use Rattle.std.proofs.Common.{Option, Some, None, option_map, slice_get, length}
use Rattle.std.proofs.lemmas.Bool.{cond-true, and_from, lt-ltb, le-leb, or_right}
use Rattle.std.proofs.lemmas.List.{append-nil, append_assoc}
use Rattle.ids.specs.Sizes.{Sizes, client_party}
use Rattle.definitions.specs.Checks.{Identity, command_verifies}
use Rattle.definitions.specs.Frames.{Command, Frame}
use Rattle.definitions.specs.Frames as frame
use Rattle.definitions.specs.Admission.{Checked.passes, check}
use Rattle.definitions.specs.Chronicles.{Step.noted, Note.got_request}
use Rattle.definitions.specs.Replicas.{Standing.running}
use Rattle.definitions.specs.Replicas.{MemorySupply.ample}
use Rattle.definitions.specs.Rulings.{Input.request_in, Ruling.due, on_request, ruling}
use Rattle.definitions.specs.Worlds.{World, Sent, Event.relay, Happening, is_correct, is_party, self_of}
use Rattle.definitions.specs.Runs.{refusal, after}
use Rattle.definitions.specs.Events.{happens, recorded}
use Rattle.linear_law.proofs.WholeRuns.{slice_get-among}
use Rattle.recovery.specs.Correct.{OfCorrect, ShareKeys, chronicle_of}
use Rattle.recovery.specs.NeverWedged.{IsAsked, WaitingClientsAsked, RequestsNameClients}
use Rattle.definitions.specs.Lists.{Among}
use Rattle.std.proofs.Common.{suc, inl, inr}
use Rattle.recovery.proofs.Wells.{reached}
use Rattle.recovery.proofs.Asked.{relay-hands}
use Rattle.recovery.proofs.Copies.{vector-verifies, correct-party}
use Rattle.recovery.proofs.Offers.{slice-later, slice-there}
use Rattle.recovery.proofs.SentRequests.{IsOwn, AreOwn, own-of}
use Rattle.recovery.proofs.Steps.{TookStep, step-stood}
use Rattle.recovery.proofs.Ways.{IsOnWay, way-on}
use Rattle.recovery.proofs.Worlds.{IsMadeAs, same-correct, same-self, named}

-- ---- the record grows

pub sent-after : (w : World) (hs : List Happening) → (more : List Sent) × ((after w hs).sent ≡ w.sent ++ more)
unfolding after happens
sent-after w [] = ([], sym (append-nil w.sent))
sent-after w (h ∷ hs) =
    let rest = sent-after (happens w h) hs in
    (_, rest.1 ∙ append_assoc w.sent _ rest.0)

pub recorded-after : (w : World) (hs : List Happening) (k : ℕ) (f : Frame) → recorded w k ≡ Some f
    → recorded (after w hs) k ≡ Some f
recorded-after w hs k f e =
    let more = sent-after w hs in
    ap (λ (l : List Sent). option_map (λ s. s.frame) (slice_get l k)) more.1 ∙ slice-later w.sent more.0 k f e

-- ---- a request that is right for all

-- frame k is this request of a client, and right for all correct replicas
pub record IsWanted (w : World) (k : ℕ) (c : Command) : Type 0 where
  pub is_recorded : recorded w k ≡ Some (frame.request c)
  pub verifies : OfCorrect w (λ r. command_verifies (self_of w r) c ≡ true)

pub wanted-after : (w : World) (hs : List Happening) (k : ℕ) (c : Command) → IsMadeAs w (after w hs) → IsWanted w k c
    → IsWanted (after w hs) k c
wanted-after w hs k c made h = record {
  is_recorded = recorded-after w hs k (frame.request c) h.is_recorded;
  verifies = λ r d. ap (λ (s : Identity). command_verifies s c) (same-self w (after w hs) made r)
      ∙ h.verifies r (sym (same-correct w (after w hs) made r) ∙ d);
}

-- a client is a party
pub client-party : (w : World) (cl : ℕ) → cl < w.sizes.clients → is_party w (client_party cl) ≡ true
client-party w cl l =
    or_right _ _ (and_from _ _ (le-leb (client_party 0) (client_party cl) (omega arith))
    (lt-ltb (client_party cl) (client_party w.sizes.clients) (omega (arith, l))))

-- what a client asked for is
pub asked-wanted : (w : World) (k cl : ℕ) → ShareKeys w → AreOwn w w.sent → (h : IsAsked w k cl)
    → IsWanted w k h.command × (h.command.client ≡ cl) × (0 < h.command.seq)
asked-wanted w k cl keys own h =
    let c : Command = h.command in
    let among = slice_get-among w.sent k h.sent h.recorded in
    let is : IsOwn w cl c = own-of w h.sent c cl own among h.request h.sender in (
      record {
        is_recorded = ap (λ (o : Option Sent). option_map (λ s. s.frame) o) h.recorded
            ∙ ap (λ (f : Frame). Some f) h.request;
        verifies = λ r d. ap (command_verifies (self_of w r)) is.0
            ∙ vector-verifies w keys kind.Request (client_party cl) r _ (client-party w cl h.client_is) h.correct d;
      },
      ap (λ (x : Command). x.client) is.0,
      is.1,
    )

-- ---- whoever waits asked

-- what stands in a list has a place in it
place-of : (xs : List Sent) (s : Sent) → Among s xs → (k : ℕ) × (slice_get xs k ≡ Some s)
place-of [] s m = absurd m
place-of (x ∷ xs) s (inl e) = (0, ap (λ (y : Sent). Some y) (sym e))
place-of (x ∷ xs) s (inr m) = let r = place-of xs s m in (suc r.0, r.1)

pub waiting-asked : WaitingClientsAsked
waiting-asked sizes is_faulty ring hs last met e client low ok waits =
    let g = reached sizes is_faulty ring hs last met e in
    let r = g.asked client waits in
    let k = place-of last.sent r.0 r.2 in (
      k.0,
      record {
        client_is = low;
        correct = ok;
        waits = waits;
        sent = r.0;
        command = r.1;
        recorded = k.1;
        sender = r.3;
        request = r.4;
        seq = r.5;
      },
    )

-- a request names the client that sent it
pub requests-named : RequestsNameClients
requests-named sizes is_faulty ring hs last met e s m c is =
    let own = (reached sizes is_faulty ring hs last met e).requests s m c is in
    own.1 ∙ ap client_party (sym (ap (λ (x : Command). x.client) own.2.0))

-- ---- it comes

-- the check passes
request-passes : (self : Identity) (c : Command) → command_verifies self c ≡ true
    → check self (frame.request c) ≡ passes (request_in c)
unfolding check
request-passes self c e = cond-true (command_verifies self c) _ _ e

module _ (sizes : Sizes) (start : World) (all : List Happening) where
  -- where there is room for it, or it isn't due, it is noted
  pub request-comes : (w : World) (rest : List Happening) (k r : ℕ) (c : Command)
      → IsOnWay sizes start all w ((relay k r, ample) ∷ rest) → is_correct w r ≡ true
      → (w.replica r).standing ≡ running → IsWanted w k c
      → on_request c (chronicle_of w r) ≡ due (noted (got_request c))
      → (refusal w (relay k r) ≡ None) × TookStep w (happens w (relay k r, ample)) r (noted (got_request c))
  unfolding ruling
  request-comes w rest k r c on cr s wanted room =
      let ok : refusal w (relay k r) ≡ None =
      named w (relay k r) (correct-party w r cr)
      (lt-ltb k (length w.sent) (slice-there w.sent k (frame.request c) wanted.is_recorded)) refl in
      let onn = way-on sizes start all w (relay k r, ample) rest on ok in (
        ok,
        step-stood w (relay k r) r (request_in c) (noted (got_request c))
            (relay-hands w k r (frame.request c) (request_in c) cr s wanted.is_recorded
            (request-passes (self_of w r) c (wanted.verifies r cr))) room onn.well.good.answers,
      )
