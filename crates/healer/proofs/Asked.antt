-- The outstanding request of a client is found.
use Rattle.ids.specs.Sizes.{Sizes, AreSizes, client_party}
use Rattle.std.specs.Prelude.{◌&&◌, ◌^◌}
use Rattle.std.specs.List.{position_from}
use Rattle.std.specs.Option.{option_and_then}
use Rattle.std.proofs.Common.{ℕ, zero, suc, ◌+◌, ◌<◌, ◌≤◌, ◌≡◌, ◌==◌, Bool, true, false, cond, List, [], ◌∷◌, length, drop}
use Rattle.std.proofs.Common.{slice_get, Option, Some, None, sym, ap, subst, ◌∙◌, refl, arith, inr, true≢false, eq-eqb}
use Rattle.std.proofs.lemmas.Bool.{cond-true, cond-false, and_parts, and_from, eqb-true}
use Rattle.std.proofs.lemmas.Iterator.Adapters.{position_from-zero}
use Rattle.definitions.specs.FrameLimits.{IsReadAs}
use Rattle.definitions.specs.Frames.{Command, Frame, spelling}
use Rattle.definitions.specs.Frames as frame
use Rattle.definitions.specs.Lists.{Among}
use Rattle.definitions.specs.Sessions.{Session}
use Rattle.definitions.specs.Worlds.{World, Sent}
use Rattle.definitions.proofs.Spellings.{IsReadAs-unique}
use Rattle.frames_view.specs.Views.{frame_of}
use Rattle.frames_view.specs.declared.frame_views.Frame.{Frame as View}
use Rattle.frames_view.specs.declared.frame_views.Frame.TheVariants as view
use Rattle.frames_view.specs.declared.views.CommandView.{CommandView}
use Rattle.linear_law.specs.Law.{AreReadAsSent}
use Rattle.linear_law.proofs.Final.{same-client}
use Rattle.linear_law.proofs.WholeRuns.{slice_get-among}
use Rattle.recovery.specs.NeverWedged.{IsAsked}
use Rattle.world_schedule.specs.declared.running.State.{State}
use Rattle.world_schedule.specs.Settings.{Setting, Holds}
use Rattle.world_schedule.proofs.Runs.{sent-so-far}
use Rattle.healer.specs.Asked.{is_asked, IsReadAsSent, find_request, session_of, request_of}
use Rattle.healer.specs.Courses.{Course, Told}
use Rattle.healer.proofs.Tellings.{same-sizes-told}

-- ---- one frame

-- what is read is what was sent
read-sent : (sizes : Sizes) (bytes : List ℕ) (s : Sent) (read : Option Frame) → bytes ≡ spelling s.frame
    → IsReadAsSent sizes s → IsReadAs sizes bytes read → read ≡ Some s.frame
read-sent sizes bytes s read same told h = told read (subst (λ (bs : List ℕ). IsReadAs sizes bs read) same h)

pub read-frame : (sizes : Sizes) (bytes : List ℕ) (s : Sent) (f : Frame) → bytes ≡ spelling s.frame → IsReadAsSent sizes s
    → IsReadAs sizes bytes (Some f) → f ≡ s.frame
read-frame sizes bytes s f same told h = let e = read-sent sizes bytes s (Some f) same told h in same-frame e
  where
    same-frame : {x y : Frame} → Some x ≡ Some y → x ≡ y
    same-frame e = cc

pub read-none : (sizes : Sizes) (bytes : List ℕ) (s : Sent) → bytes ≡ spelling s.frame → IsReadAsSent sizes s
    → IsReadAs sizes bytes None → ⊥
read-none sizes bytes s same told h = let e = read-sent sizes bytes s None same told h in no-frame e
  where
    no-frame : {x : Frame} → None ≡ Some x → ⊥
    no-frame e = cc

-- what is no request isn't asked
pub other-not-asked : (client : ℕ) (s : Session) (f : View) → ((c : CommandView) → f ≡ view.Request c → ⊥)
    → false ≡ is_asked client s (frame_of f)
other-not-asked client s (view.Request c) apart = absurd (apart c refl)
other-not-asked client s (view.Proposal x) apart = refl
other-not-asked client s (view.Vote x) apart = refl
other-not-asked client s (view.NewView x) apart = refl
other-not-asked client s (view.Reply x) apart = refl
other-not-asked client s (view.Fetch x) apart = refl
other-not-asked client s (view.Block x) apart = refl

-- ---- the record

-- as many answers as memory holds
few-answers : (state : State) → length state.journal.answers.items < 2 ^ 63
few-answers state = omega arith

-- the bytes of each frame are read as that
pub read-told : (c : Course) → c.stand.setting ≡ c.origin.setting → Holds c.origin.setting → Told c AreReadAsSent
read-told c own holds hs w t = λ s read m h.
    let here : Holds c.stand.setting = subst (λ (z : Setting). Holds z) (sym own) holds in
    let k = sent-so-far c.stand.setting t.state hs w here (few-answers t.state) t.comes s m in
    IsReadAs-unique w.sizes
    (subst (λ (z : Sizes). AreSizes z) (same-sizes-told c.stand hs w t) here.sizes_are)
    (spelling s.frame) read (Some s.frame) h (k.0, inr (k.1, refl))

-- those of one place
pub told-at : (sizes : Sizes) (w : World) (n : ℕ) (s : Sent) → sizes ≡ w.sizes → AreReadAsSent w
    → slice_get w.sent n ≡ Some s → IsReadAsSent sizes s
told-at sizes w n s is told at =
    subst (λ (z : Sizes). IsReadAsSent z s) (sym is) (λ read h. told s read (slice_get-among w.sent n s at) h)

-- ---- the first that passes

drop-at : (xs : List Sent) (n : ℕ) (s : Sent) → slice_get xs n ≡ Some s → drop n xs ≡ s ∷ drop (suc n) xs
drop-at [] n s e = let no : ⊥ = cc in absurd no
drop-at (x ∷ xs) zero s e = ap (λ (y : Sent). y ∷ xs) (same e)
  where
    same : {a b : Sent} → Some a ≡ Some b → a ≡ b
    same k = cc
drop-at (x ∷ xs) (suc n) s e = drop-at xs n s e

drop-past : (xs : List Sent) (n : ℕ) → length xs ≤ n → drop n xs ≡ []
drop-past [] zero l = refl
drop-past [] (suc n) l = refl
drop-past (x ∷ xs) zero l = absurd (omega (arith, l))
drop-past (x ∷ xs) (suc n) l = drop-past xs n (omega (arith, l))

-- the search, where it has come to this place
abbrev pub found_from : ℕ → Session → ℕ → World → Option ℕ
found_from client s n w = position_from (λ x. is_asked client s x.frame) n (drop n w.sent)

module _ (client : ℕ) (s : Session) (w : World) where
  passes : Sent → Bool
  passes x = is_asked client s x.frame

  pub found-begins : find_request client s w ≡ found_from client s 0 w
  found-begins = position_from-zero (λ (x : Sent). is_asked client s x.frame) w.sent

  found-step : (n : ℕ) (x : Sent) → slice_get w.sent n ≡ Some x
      → found_from client s n w ≡ cond (is_asked client s x.frame) (Some n) (found_from client s (n + 1) w)
  found-step n x at =
      ap (position_from (λ y. is_asked client s y.frame) n) (drop-at w.sent n x at)
      ∙ ap (λ (m : ℕ). cond (is_asked client s x.frame) (Some n)
      (position_from (λ y. is_asked client s y.frame) (n + 1) (drop m w.sent))) (let e : suc n ≡ n + 1 = omega arith in e)

  pub found-next : (n : ℕ) (x : Sent) → slice_get w.sent n ≡ Some x → is_asked client s x.frame ≡ false
      → found_from client s n w ≡ found_from client s (n + 1) w
  found-next n x at e = found-step n x at ∙ cond-false (is_asked client s x.frame) (Some n) _ e

  pub found-here : (n : ℕ) (x : Sent) → slice_get w.sent n ≡ Some x → is_asked client s x.frame ≡ true
      → found_from client s n w ≡ Some n
  found-here n x at e = found-step n x at ∙ cond-true (is_asked client s x.frame) (Some n) _ e

  pub found-nowhere : (n : ℕ) → length w.sent ≤ n → found_from client s n w ≡ None
  found-nowhere n l = ap (position_from (λ y. is_asked client s y.frame) n) (drop-past w.sent n l)

-- some first one is found
abbrev FindsOne : (Sent → Bool) → List Sent → ℕ → Type 0
FindsOne p xs m =
    (j : ℕ) × (y : Sent) × (position_from p m xs ≡ Some (m + j)) × (slice_get xs j ≡ Some y) × (p y ≡ true)

-- where any passes
first-found : (p : Sent → Bool) (xs : List Sent) (k m : ℕ) (s : Sent) → slice_get xs k ≡ Some s → p s ≡ true
    → FindsOne p xs m
first-found p [] k m s at passed = let no : ⊥ = cc in absurd no
first-found p (x ∷ xs) k m s at passed = by (p x) refl k at (λ j e. first-found p xs j (m + 1) s e passed)
  where
    same : {a b : Sent} → Some a ≡ Some b → a ≡ b
    same e = cc

    by : (b : Bool) → p x ≡ b → (k : ℕ) → slice_get (x ∷ xs) k ≡ Some s
        → ((j : ℕ) → slice_get xs j ≡ Some s → FindsOne p xs (m + 1)) → FindsOne p (x ∷ xs) m
    by true e k at more =
        (0, x, cond-true (p x) (Some m) _ e ∙ ap Some (let z : m ≡ m + 0 = omega arith in z), refl, e)
    by false e zero at more = absurd (true≢false (sym passed ∙ (ap p (sym (same at)) ∙ e)))
    by false e (suc k) at more =
        let r = more k at in (
          suc r.0,
          r.1,
          cond-false (p x) (Some m) _ e ∙ (r.2 ∙ ap Some (further r.0)),
          r.3,
          r.4,
        )
      where
        further : (j : ℕ) → m + 1 + j ≡ m + suc j
        further j = omega arith

-- ---- a client that waits

-- each request of the record names the client that sent it
abbrev pub AreNamed : World → Type 0
AreNamed w =
    (s : Sent) → Among s w.sent → (c : Command) → s.frame ≡ frame.request c → s.sender ≡ client_party c.client

-- what is found there is what it asked by
asked-is : (w : World) (client k : ℕ) (s : Sent) → client < w.sizes.clients → w.is_faulty (client_party client) ≡ false
    → AreNamed w → slice_get w.sent k ≡ Some s → is_asked client (w.session client) s.frame ≡ true → IsAsked w k client
asked-is w client k s low ok named at passes = by s.frame refl passes
  where
    by : (f : Frame) → s.frame ≡ f → is_asked client (w.session client) f ≡ true → IsAsked w k client
    by (frame.request c) e h =
        let own = and_parts (c.client == client) ((w.session client).waiting && (c.seq == (w.session client).used)) h in
        let due = and_parts (w.session client).waiting (c.seq == (w.session client).used) own.1 in
        record {
          client_is = low;
          correct = ok;
          waits = due.0;
          sent = s;
          command = c;
          recorded = at;
          sender = named s (slice_get-among w.sent k s at) c e ∙ ap client_party (eqb-true c.client client own.0);
          request = e;
          seq = eqb-true c.seq (w.session client).used due.1;
        }
    by (frame.proposal v core q t) e h = absurd (true≢false (sym h))
    by (frame.vote d b) e h = absurd (true≢false (sym h))
    by (frame.new_view v r q t) e h = absurd (true≢false (sym h))
    by (frame.block r core q t) e h = absurd (true≢false (sym h))
    by (frame.fetch r d t) e h = absurd (true≢false (sym h))
    by (frame.reply r c q x t g) e h = absurd (true≢false (sym h))

none-more : (j : ℕ) → 0 + j ≡ j
none-more j = omega arith

-- whoever asked is found
pub asked-found : (w : World) (client k : ℕ) → AreNamed w → IsAsked w k client
    → (j : ℕ) × (request_of client w ≡ Some j) × IsAsked w j client
asked-found w client k named a =
    let s : Session = w.session client in
    let c : Command = a.command in
    let own : c.client ≡ client =
    same-client c.client client
    (sym (named a.sent (slice_get-among w.sent k a.sent a.recorded) c a.request) ∙ a.sender) in
    let passes : is_asked client s (frame.request c) ≡ true =
    and_from (c.client == client) (s.waiting && (c.seq == s.used)) (eq-eqb c.client client own)
    (and_from s.waiting (c.seq == s.used) a.waits (eq-eqb c.seq s.used a.seq)) in
    let r = first-found (λ x. is_asked client s x.frame) w.sent k 0 a.sent a.recorded
    (ap (is_asked client s) a.request ∙ passes) in
    let one : session_of client w ≡ Some s =
    cond-false (w.is_faulty (client_party client)) None (Some s) a.correct in (
      r.0,
      ap (λ (o : Option Session). option_and_then (λ x. find_request client x w) o) one
          ∙ (position_from-zero (λ (x : Sent). is_asked client s x.frame) w.sent
          ∙ (r.2 ∙ ap Some (none-more r.0))),
      asked-is w client r.0 r.1 a.client_is a.correct named r.3 r.4,
    )
