-- Each client that waits is served in its turn.
use Rattle.ids.specs.declared.fault.Fault.{Fault}
use Rattle.ids.specs.Sizes.{Sizes, AreSizes, client_party}
use Rattle.std.specs.Option.{option_map_or}
use Rattle.std.proofs.Common.{ℕ, zero, suc, ◌+◌, ◌<◌, ◌≤◌, ◌≡◌, Bool, true, false, List, [], ◌++◌, append_assoc, Option, Some, None}
use Rattle.std.proofs.Common.{sym, ap, subst, ◌∙◌, refl, arith, inl, inr, Result, Ok, OnOk}
use Rattle.std.proofs.lemmas.Bool.{cases_lt}
use Rattle.definitions.specs.Lists.{Among}
use Rattle.definitions.specs.Premises.{ArePremises}
use Rattle.definitions.specs.Runs.{run, after}
use Rattle.definitions.specs.Worlds.{World, Happening}
use Rattle.recovery.specs.Healing.{heal}
use Rattle.recovery.specs.NeverWedged.{IsAnswered, IsAsked, MayHeal, NeverWedged, RequestsNameClients, WaitingClientsAsked}
use Rattle.world_schedule.specs.declared.event.Event.{Event}
use Rattle.world_schedule.specs.declared.outcome.Outcome.{Outcome}
use Rattle.world_schedule.specs.Outcomes.{TellsOf}
use Rattle.world_schedule.specs.Progress.{HasRun, StandsAt}
use Rattle.world_schedule.specs.Settings.{Setting, Holds, is_faulty_in, ring_in, start_of}
use Rattle.healer.specs.Asked.{request_of}
use Rattle.healer.specs.Courses.{Course, Goes, GoesWhere, Told, ToldWhere, HasClient}
use Rattle.healer.specs.Served.{heal_client, heal_below, heal_all, AreServed}
use Rattle.healer.proofs.Asked.{asked-found}
use Rattle.healer.proofs.Awaited.{awaited-after}
use Rattle.healer.proofs.Courses.{nothing-behind}
use Rattle.healer.proofs.Members.{same-sizes, same-faulty}
use Rattle.healer.proofs.Parts.{run-after, run-before, receipts-on, premises-before}
use Rattle.healer.proofs.Phases.{after-append, joined, goes-none, goes-as}
use Rattle.healer.proofs.Tellings.{same-sizes-told}
use Rattle.healer.proofs.Turns.{where-told, where-too, on-ok-too}

-- ---- what heals a client

client-some : (client k : ℕ) (w : World) → request_of client w ≡ Some k → heal_client client w ≡ heal k w
unfolding heal_client
client-some client k w e = ap (λ (o : Option ℕ). option_map_or (λ j. heal j w) o []) e

client-none : (client : ℕ) (w : World) → request_of client w ≡ None → heal_client client w ≡ []
unfolding heal_client
client-none client w e = ap (λ (o : Option ℕ). option_map_or (λ j. heal j w) o []) e

-- the clients below no number, and below the next one
below-none : (w : World) → heal_below 0 w ≡ []
unfolding heal_below
below-none w = refl

below-next : (n : ℕ) (w : World) → heal_below (suc n) w ≡ heal_below n w ++ heal_client n (after w (heal_below n w))
unfolding heal_below
below-next n w = refl

-- fewer of them come first
below-parts : (m n : ℕ) (w : World) → m ≤ n → (rest : List Happening) × (heal_below n w ≡ heal_below m w ++ rest)
below-parts m zero w l =
    let e : 0 ≡ m = omega (arith, l) in
    ([], ap (λ (k : ℕ). heal_below k w) e ∙ sym (nothing-behind (heal_below m w)))
below-parts m (suc n) w l = elim (cases_lt m (suc n)) [
  | inl k ↦ (
      let r = below-parts m n w (omega (arith, k)) in
      let last : List Happening = heal_client n (after w (heal_below n w)) in (
        r.0 ++ last,
        below-next n w ∙ (ap (λ (x : List Happening). x ++ last) r.1 ∙ append_assoc (heal_below m w) r.0 last),
      ))
  | inr k ↦ (
      let e : suc n ≡ m = omega (arith, k, l) in
      ([], ap (λ (j : ℕ). heal_below j w) e ∙ sym (nothing-behind (heal_below m w))))
]

-- ---- turns

pub turn-some : (client k : ℕ) (a b : Course) (r : Result (Unit {0}) Fault)
    → ToldWhere a (HasClient client) (λ w. Some k ≡ request_of client w) → OnOk r (Goes a (heal k) b)
    → OnOk r (GoesWhere a (HasClient client) (heal_client client) b)
turn-some client k a b r found = on-ok-too _ _ r (λ goes.
    where-told a b (HasClient client) (heal k) (heal_client client)
    (λ hs w t l. sym (client-some client k w (sym (found hs w t l))))
    (where-too a b (HasClient client) (heal k) goes))

pub turn-none : (client : ℕ) (a : Course) → ToldWhere a (HasClient client) (λ w. None ≡ request_of client w)
    → GoesWhere a (HasClient client) (heal_client client) a
turn-none client a found =
    where-told a a (HasClient client) (λ w. []) (heal_client client)
    (λ hs w t l. sym (client-none client w (sym (found hs w t l))))
    (where-too a a (HasClient client) (λ w. []) (goes-none a))

pub turns-first : (a : Course) → Goes a (heal_below 0) a
turns-first a = goes-as a a (λ w. []) (heal_below 0) (λ w. sym (below-none w)) (goes-none a)

pub turns-next : (n : ℕ) (a b c : Course) → Told a (HasClient n) → Goes a (heal_below n) b
    → GoesWhere b (HasClient n) (heal_client n) c → Goes a (heal_below (n + 1)) c
turns-next n a b c low done turn =
    subst (λ (m : ℕ). Goes a (heal_below m) c) (let e : suc n ≡ n + 1 = omega arith in e)
    (goes-as a c (λ w. heal_below n w ++ heal_client n (after w (heal_below n w))) (heal_below (suc n))
    (λ w. sym (below-next n w)) (λ hs w t.
    let v : World = after w (heal_below n w) in
    joined c.stand hs (heal_below n w) (heal_client n v) w
    (turn (hs ++ heal_below n w) v (done hs w t)
    (subst (λ (z : Sizes). n < z.clients) (sym (same-sizes w (heal_below n w))) (low hs w t)))))

-- the clients are those of the schedule's world
pub has-clients : (s : Setting) (schedule : List Event) (n : ℕ) (a : Course) → HasRun s schedule a.stand → n < s.sizes.clients
    → Told a (HasClient n)
has-clients s schedule n a ran low = λ hs w t.
    subst (λ (z : Sizes). n < z.clients)
    (ap (λ (z : Setting). z.sizes) (sym ran.setting) ∙ same-sizes-told a.stand hs w t) low

-- ---- all turns

module _ (never : NeverWedged) (asked : WaitingClientsAsked) (named : RequestsNameClients) (s : Setting)
    (sizes : AreSizes s.sizes) (hs : List Happening) (w last : World) (is : w.sizes ≡ s.sizes)
    (begins : run (start_of s) hs ≡ Ok w) (ends : run (start_of s) (hs ++ heal_all w) ≡ Ok last)
    (met : ArePremises (start_of s) (hs ++ heal_all w)) where
  -- the run as far as the turns of so many clients
  record IsRun (n : ℕ) : Type 0 where
    ran : run (start_of s) (hs ++ heal_below n w) ≡ Ok (after w (heal_below n w))
    premises : ArePremises (start_of s) (hs ++ heal_below n w)

  as-far : (n : ℕ) → n ≤ w.sizes.clients → IsRun n
  as-far n l =
      let start : World = start_of s in
      let p = below-parts n w.sizes.clients w l in
      let done : List Happening = heal_below n w in
      let whole : hs ++ heal_all w ≡ (hs ++ done) ++ p.0 =
      ap (λ (x : List Happening). hs ++ x) p.1 ∙ sym (append_assoc hs done p.0) in
      let there : after start (hs ++ done) ≡ after w done =
      after-append start hs done ∙ ap (λ (z : World). after z done) (run-after hs start w begins) in
      record {
        ran = subst (λ (z : World). run start (hs ++ done) ≡ Ok z) there
            (run-before (hs ++ done) p.0 start last
            (subst (λ (x : List Happening). run start x ≡ Ok last) whole ends));
        premises = premises-before start (hs ++ done) p.0
            (subst (λ (x : List Happening). ArePremises start x) whole met);
      }

  -- a receipt stays
  stays : (n client seq : ℕ) → n ≤ w.sizes.clients → IsAnswered (after w (heal_below n w)) client seq
      → IsAnswered (after w (heal_all w)) client seq
  stays n client seq l r =
      let p = below-parts n w.sizes.clients w l in
      let done : List Happening = heal_below n w in
      let there : after w (heal_all w) ≡ after (after w done) p.0 =
      ap (λ (x : List Happening). after w x) p.1 ∙ after-append w done p.0 in (
        r.0,
        subst (λ (z : World). Among r.0 z.receipts) (sym there) (receipts-on (after w done) p.0 r.0 r.1),
        r.2,
        r.3,
      )

  module _ (client : ℕ) (low : client < w.sizes.clients) (ok : w.is_faulty (client_party client) ≡ false)
      (may : MayHeal (after w (heal_below client w))) where
    abbrev before : List Happening
    before = heal_below client w

    abbrev v : World
    v = after w before

    same : v.sizes ≡ w.sizes
    same = same-sizes w before

    -- its turn comes, and it waits for this request
    answered : (k : ℕ) → request_of client v ≡ Some k → IsAsked v k client
        → IsAnswered (after w (heal_below (suc client) w)) client (v.session client).used
    answered k found a =
        let r = as-far client (omega (arith, low)) in
        let more : heal_below (suc client) w ≡ before ++ heal k v =
        below-next client w ∙ ap (λ (y : List Happening). before ++ y) (client-some client k v found) in
        let ahead : ArePremises (start_of s) ((hs ++ before) ++ heal k v) =
        subst (λ (y : List Happening). ArePremises (start_of s) y)
        (ap (λ (y : List Happening). hs ++ y) more ∙ sym (append_assoc hs before (heal k v)))
        (as-far (suc client) (omega (arith, low))).premises in
        let h = never k client s.sizes (is_faulty_in s) (ring_in s) (hs ++ before) v ahead r.ran
        (subst (λ (z : Sizes). AreSizes z) (sym (same ∙ is)) sizes) may a in
        let there : after w (heal_below (suc client) w) ≡ h.0 =
        ap (λ (y : List Happening). after w y) more ∙ (after-append w before (heal k v) ∙ run-after (heal k v) v h.0 h.1) in
        subst (λ (z : World). IsAnswered z client (v.session client).used) (sym there) h.3

    -- so it is wherever it waits then
    healed : (v.session client).waiting ≡ true
        → IsAnswered (after w (heal_below (suc client) w)) client (v.session client).used
    healed waits =
        let r = as-far client (omega (arith, low)) in
        let x = asked s.sizes (is_faulty_in s) (ring_in s) (hs ++ before) v r.premises r.ran client
        (subst (λ (z : Sizes). client < z.clients) (sym same) low)
        (ap (λ (f : ℕ → Bool). f (client_party client)) (same-faulty w before) ∙ ok) waits in
        let f = asked-found v client x.0
        (named s.sizes (is_faulty_in s) (ring_in s) (hs ++ before) v r.premises r.ran) x.1 in
        answered f.0 f.1 f.2

    pub served : (w.session client).waiting ≡ true
        → IsAnswered (after w (heal_all w)) client (w.session client).used
    served waits =
        let seq : ℕ = (w.session client).used in
        elim (awaited-after w before client seq (inl (waits, refl))) [
          | inl t ↦ stays (suc client) client seq (omega (arith, low))
              (subst (λ (n : ℕ). IsAnswered (after w (heal_below (suc client) w)) client n) t.1 (healed t.0))
          | inr r ↦ stays client client seq (omega (arith, low)) r
        ]

-- all had their turn
pub all-served : NeverWedged → WaitingClientsAsked → RequestsNameClients → (s : Setting) (schedule : List Event) (n : ℕ)
    (first c : Course) (o : Outcome) → c.stand.setting ≡ s → Holds s → HasRun s schedule first.stand
    → n ≡ s.sizes.clients → Goes first (heal_below n) c → Told c (λ w. TellsOf w o) → AreServed s schedule o
all-served never asked named s schedule n first c o own holds ran count turns tells =
    let hs : List Happening = ran.happenings in
    let w : World = ran.world in
    let is : w.sizes ≡ s.sizes =
    sym (same-sizes-told first.stand hs w ran.stands) ∙ ap (λ (z : Setting). z.sizes) ran.setting in
    let begins : run (start_of s) hs ≡ Ok w =
    subst (λ (z : Setting). run (start_of z) hs ≡ Ok w) ran.setting ran.stands.comes.ends in
    let many : n ≡ w.sizes.clients = count ∙ ap (λ (z : Sizes). z.clients) (sym is) in
    let there : StandsAt c.stand (hs ++ heal_all w) (after w (heal_all w)) =
    subst (λ (m : ℕ). Goes first (heal_below m) c) many turns hs w ran.stands in
    record {
      happenings = hs;
      are_these = ran.are_these;
      world = w;
      ends = begins;
      tells = tells (hs ++ heal_all w) (after w (heal_all w)) there;
      served = λ met client low ok waits may.
          served never asked named s holds.sizes_are hs w (after w (heal_all w)) is begins
          (subst (λ (z : Setting). run (start_of z) (hs ++ heal_all w) ≡ Ok (after w (heal_all w))) own there.comes.ends)
          met client (subst (λ (z : Sizes). client < z.clients) (sym is) low) ok may waits;
    }
