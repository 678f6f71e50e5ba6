-- The first request of all meets what healing asks of a world.
use Rattle.std.specs.Prelude.{count_by}
use Rattle.std.proofs.Common.{ℕ, ◌≡◌, ◌<◌, ◌≤◌, ◌+◌, ◌==◌, Bool, true, false, cond, List, [], ◌∷◌, ◌++◌}
use Rattle.std.proofs.Common.{length, map, find, reverse, refl, sym, ap, subst, ◌∙◌, arith, inl, Some, None, slice_get}
use Rattle.std.proofs.lemmas.Bool.{cond-true, eq-eqb, lt-ltb}
use Rattle.ids.specs.Sizes.{Sizes, AreSizes, client_party, replicas}
use Rattle.definitions.specs.Bytes.{Bytes}
use Rattle.definitions.specs.Branches.{Branch, branch_eq, just2, highest}
use Rattle.definitions.specs.Chronicles.{Chronicle, taken_blocks, voted_blocks, window, horizon, lock, vheight}
use Rattle.definitions.specs.Chronicles.{standing_blocks, stored_blocks}
use Rattle.definitions.specs.Frames.{Command}
use Rattle.definitions.specs.Keyrings.{Keyring}
use Rattle.definitions.specs.Lists.{greatest}
use Rattle.definitions.specs.Replicas.{MemorySupply.ample, Replica, Standing.running}
use Rattle.definitions.specs.Sendings.{To.to_all}
use Rattle.definitions.specs.Sessions.{Session, submission, request_frame}
use Rattle.definitions.specs.States.{view}
use Rattle.definitions.specs.Worlds.{World, Event.submit, new_world, client_of}
use Rattle.definitions.specs.Runs.{refusal, after}
use Rattle.definitions.specs.Events.{Effect, happens, effect, acts, submitted, party_of}
use Rattle.linear_law.proofs.Submissions.{asked}
use Rattle.recovery.specs.Correct.{ShareKeys, chronicle_of, lock_of, correct_replicas}
use Rattle.recovery.specs.Healing.{highest_voted, justified_by}
use Rattle.recovery.specs.NeverWedged.{healer, ground_of, HasRoom, MayHeal, IsAsked, FirstRequestsMayHeal}
use Rattle.recovery.proofs.Rounds.{highest-voted-below}
use Rattle.recovery.proofs.Worlds.{IsMadeAs, keys-in, named, effect-correct, passes-one, passes-none}

-- ---- an empty chronicle

window-first : window [] ≡ [] ∷ []
unfolding window standing_blocks stored_blocks taken_blocks horizon
window-first = refl

lock-first : lock [] ≡ []
unfolding lock taken_blocks highest
lock-first = refl

voted-first : vheight [] ≡ 0
unfolding vheight voted_blocks greatest
voted-first = refl

view-first : (s : Sizes) → view s [] ≡ 0
unfolding view
view-first s = refl

horizon-first : horizon [] ≡ 0
unfolding horizon
horizon-first = refl

over-first : justified_by (find (λ a. branch_eq (just2 a.branch) (lock [])) (reverse (taken_blocks []))) ≡ []
unfolding taken_blocks
over-first = refl

-- ---- after the first request

module _ (sizes : Sizes) (is_faulty : ℕ → Bool) (ring : ℕ → Keyring) (client : ℕ) (payload : Bytes)
    (are : AreSizes sizes) (keys : ShareKeys (new_world sizes is_faulty ring)) (low : client < sizes.clients)
    (honest : is_faulty (client_party client) ≡ false) where
  abbrev start : World
  start = new_world sizes is_faulty ring

  abbrev first : World
  first = happens start (submit client payload, ample)

  abbrev command : Command
  command = asked (client_of start client) 1 payload

  effect-is : effect start (submit client payload, ample)
      ≡ submitted start client (submission (client_of start client) ample payload (start.session client))
  unfolding acts party_of new_world
  effect-is = effect-correct start (submit client payload, ample) honest

  -- no replica took anything
  no-steps : (r : ℕ) → first.replica r ≡ record { chronicle = []; standing = running }
  unfolding happens submitted new_world
  no-steps r = ap (λ (e : Effect). e.replica r) effect-is

  none-yet : (r : ℕ) → chronicle_of first r ≡ []
  none-yet r = ap (λ (x : Replica). x.chronicle) (no-steps r)

  made : IsMadeAs start first
  unfolding happens
  made = record { sizes = refl; faulty = refl; ring = refl }

  -- the client waits
  session-is : first.session client ≡ record { used = 1; waiting = true; tally = [] }
  unfolding happens submitted submission new_world
  session-is =
      ap (λ (e : Effect). e.session client) effect-is
      ∙ cond-true (client == client) (record { used = 1; waiting = true; tally = [] }) _ (eq-eqb client client refl)

  -- and sent its request
  sent-is : slice_get first.sent 0
      ≡ Some (record {
        event = 1;
        sender = client_party client;
        to = to_all;
        frame = request_frame (client_of start client) 1 payload;
      })
  unfolding happens submitted submission new_world party_of
  sent-is = ap (λ (e : Effect). slice_get (start.sent
      ++ map (λ o. record { event = start.now; sender = client_party client; to = o.0; frame = o.1 }) e.out) 0)
      effect-is

  voted-none : highest_voted first (correct_replicas first) < 1
  voted-none = highest-voted-below first (correct_replicas first) 1 (omega arith) (λ r m.
      let v = ap vheight (none-yet r) ∙ voted-first in omega (arith, v))

  unlocked : (r : ℕ) → lock_of first r ≡ []
  unlocked r = ap lock (none-yet r) ∙ lock-first

  ground-is : ground_of first ≡ []
  ground-is =
      subst (λ (c : Chronicle). justified_by (find (λ a. branch_eq (just2 a.branch) (lock c)) (reverse
      (taken_blocks c)))
      ≡ []) (sym (none-yet (healer first))) over-first

  room : HasRoom first
  room =
      let v = voted-none in
      let g = ap (λ (x : Branch). length x) ground-is in
      let l = ap (λ (x : Branch). length x) (unlocked (healer first)) in
      record {
        trees = λ r c.
            let n = ap (λ (x : Chronicle). length (window x)) (none-yet r)
            ∙ ap (λ (x : List Branch). length x) window-first in
            omega (arith, v, g, l, n);
        heights = λ r c h up.
            let n = ap (λ (x : Chronicle). count_by (λ y. length y == h) (window x)) (none-yet r)
            ∙ ap (λ (x : List Branch). count_by (λ y. length y == h) x) window-first in
            let k = one h in
            omega (arith, n, k);
        low = omega (arith, v, l);
      }
    where
      one : (h : ℕ) → count_by (λ (y : Branch). length y == h) ([] ∷ []) ≤ 1
      one h = by (0 == h)
        where
          by : (t : Bool) → 0 + cond {A = ℕ} t 1 0 ≤ 1
          by true = omega arith
          by false = omega arith

  may-heal : MayHeal first
  unfolding new_world
  may-heal = record {
    keys = keys-in start first made keys;
    goes = λ r c. ap (λ (x : Replica). x.standing) (no-steps r);
    views = λ r c.
        let n = ap (view first.sizes) (none-yet r) ∙ view-first first.sizes in
        let s = ap replicas made.sizes in
        let f = are.1 in
        omega (arith, n, s, f);
    room = room;
    kept = inl (λ r c. ap horizon (none-yet r) ∙ horizon-first);
  }

  waits : IsAsked first 0 client
  unfolding request_frame new_world
  waits = record {
    client_is = subst (λ (s : Sizes). client < s.clients) (sym made.sizes) low;
    correct = ap (λ (f : ℕ → Bool). f (client_party client)) made.faulty ∙ honest;
    waits = ap (λ (s : Session). s.waiting) session-is;
    sent = record {
      event = 1;
      sender = client_party client;
      to = to_all;
      frame = request_frame (client_of start client) 1 payload;
    };
    command = command;
    recorded = sent-is;
    sender = refl;
    request = refl;
    seq = sym (ap (λ (s : Session). s.used) session-is);
  }

pub first-requests : FirstRequestsMayHeal
unfolding new_world happens after
first-requests sizes is_faulty ring client payload are keys low honest canonical =
    let start : World = new_world sizes is_faulty ring in
    let ev = submit client payload in
    let first : World = happens start (ev, ample) in
    let ok : refusal start ev ≡ None = named start ev (lt-ltb client sizes.clients low) refl canonical in (
      first,
      passes-one start (ev, ample) [] ok (passes-none first),
      may-heal sizes is_faulty ring client payload are keys low honest,
      waits sizes is_faulty ring client payload are keys low honest,
    )
