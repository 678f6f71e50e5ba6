-- Nobody is wedged.
use Rattle.std.proofs.Common.{ℕ, ◌≡◌, List, [], ◌∷◌, ◌++◌, refl, sym, ap, subst, ◌∙◌, Ok, slice_get}
use Rattle.std.proofs.Common.{◌<◌, Bool}
use Rattle.definitions.specs.Chronicles.{executed}
use Rattle.definitions.specs.Frames.{Command}
use Rattle.recovery.specs.Correct.{chronicle_of}
use Rattle.recovery.specs.Rounds.{Carries}
use Rattle.std.proofs.lemmas.List.{append-nil}
use Rattle.ids.specs.Sizes.{Sizes, AreSizes, client_party}
use Rattle.definitions.specs.Sessions.{Session}
use Rattle.definitions.specs.Worlds.{World, Sent, Happening, new_world}
use Rattle.definitions.specs.Runs.{after}
use Rattle.recovery.specs.Healing.{agree_on, ask_again, heal}
use Rattle.recovery.specs.NeverWedged.{IsAsked, IsAnswered, NeverWedged}
use Rattle.recovery.proofs.Executed.{request-executed}
use Rattle.recovery.proofs.Hearing.{asked-again}
use Rattle.recovery.proofs.Offers.{sent-later}
use Rattle.recovery.proofs.Requests.{sent-after}
use Rattle.recovery.proofs.Ways.{IsOnWay, on-way-from, way-past, turn-on, turn-passes, turn-after, turns-none}
use Rattle.recovery.proofs.Worlds.{made-after, keys-in}

-- a client that waits is as it was, where its session is
asked-later : (w : World) (hs : List Happening) (k client : ℕ) → (after w hs).session ≡ w.session
    → (h : IsAsked w k client) → (x : IsAsked (after w hs) k client) × (x.command ≡ h.command)
asked-later w hs k client same h =
    let made = made-after w hs in
    let more = sent-after w hs in
    let session = ap (λ (s : ℕ → Session). s client) same in (
      record {
        client_is = subst (λ (s : Sizes). client < s.clients) (sym made.sizes) h.client_is;
        correct = ap (λ (f : ℕ → Bool). f (client_party client)) made.faulty ∙ h.correct;
        waits = ap (λ (s : Session). s.waiting) session ∙ h.waits;
        sent = h.sent;
        command = h.command;
        recorded = ap (λ (l : List Sent). slice_get l k) more.1 ∙ sent-later w.sent more.0 k h.sent h.recorded;
        sender = h.sender;
        request = h.request;
        seq = h.seq ∙ sym (ap (λ (s : Session). s.used) session);
      },
      refl,
    )

pub never-wedged : NeverWedged
unfolding heal
never-wedged k client sizes is_faulty ring hs w met e are may asked =
    let start : World = new_world sizes is_faulty ring in
    let all : List Happening = hs ++ heal k w in
    let on = subst (IsOnWay sizes start all w) (sym (append-nil (heal k w)))
    (on-way-from sizes is_faulty ring hs (heal k w) w met e) in
    let on0 = turn-on sizes start all (agree_on k) (ask_again k ∷ []) w [] on in
    let one = request-executed sizes start all w _ k client on0 may asked in
    let mid : World = after w (agree_on k w) in
    let on1 = turn-on sizes start all (ask_again k) [] mid []
    (way-past sizes start all (agree_on k w) _ w on0 one.ran) in
    let made = made-after w (agree_on k w) in
    let still = asked-later w (agree_on k w) k client one.session asked in
    let two = asked-again sizes start all mid _ k client on1 (subst AreSizes (sym made.sizes) are)
    (keys-in w mid made may.keys) one.going_on still.0
    (λ r c. subst (λ (q : Command). Carries (executed (chronicle_of mid r)) q) (sym still.1)
    (one.executed_there r c)) in
    let last : World = after mid (ask_again k mid) in
    let none = turns-none last in
    let ends : after w (heal k w) ≡ last =
    turn-after (agree_on k) (ask_again k ∷ []) w ∙ (turn-after (ask_again k) [] mid ∙ none.1) in (
      last,
      turn-passes (agree_on k) (ask_again k ∷ []) w one.ran (turn-passes (ask_again k) [] mid two.0 none.0)
          ∙ ap (λ (z : World). Ok z) ends,
      two.1,
      subst (λ (q : ℕ). IsAnswered last client q) (ap (λ (s : ℕ → Session). (s client).used) one.session) two.2,
    )
