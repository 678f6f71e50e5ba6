-- What a session does, by what it finds first.
use Rattle.std.proofs.Common.{◌≡◌, ◌∙◌, ◌==◌, ◌&&◌, ℕ, suc, Bool, true, false, not, cond, [], ◌∷◌, length}
use Rattle.std.proofs.Common.{refl, ap, sym, subst, arith, eq-eqb}
use Rattle.std.specs.Prelude.{◌-◌, ◌^◌, Option, Some, None, Result, Ok, Err, IfOk, OnOk, OnErr, Vec, is_none}
use Rattle.std.specs.Prelude.{◌<◌, ◌≤◌, nat_lt, nat_le, filter, IsSome, IfNone}
use Rattle.std.specs.declared.alloc.Global.{Global}
use Rattle.std.specs.Str.{bytes_eq}
use Rattle.std.proofs.lemmas.Slice.Eq.{bytes_eq-Decides}
use Rattle.ids.specs.declared.fault.Fault.{Fault}
use Rattle.ids.specs.declared.fault.Fault.TheVariants as fault
use Rattle.ids.specs.declared.kind.Kind.TheVariants as kind
use Rattle.definitions.specs.Bytes.{Bytes}
use Rattle.definitions.specs.Tally.{Told, is_counted, agreeing, agrees}
use Rattle.definitions.specs.Frames.{spelling, reply_content}
use Rattle.definitions.specs.Frames as frame
use Rattle.definitions.specs.Keyrings.{verify}
use Rattle.definitions.specs.Replicas.{MemorySupply, ample, refused_at_once}
use Rattle.definitions.specs.Sessions.{Client, Session, Receipt, Submitted, sent_request, not_sent, Heard}
use Rattle.definitions.specs.Sessions.{gives_receipt, only_counts, not_counted, is_ample, request_frame}
use Rattle.definitions.specs.Sessions.{submission, count_reply, on_reply}
use Rattle.client_accept.specs.Sessions.{Held, memory_of, IsSubmitted, IsSubmittedInto, frame_after, heard_of}
use Rattle.client_accept.specs.Sessions.{next_seq}
use Rattle.client_accept.specs.Sessions.{admission, receipt_at}

-- what holds in any case holds where there is a value
pub on_ok : {T E P : Type 0} (r : Result T E) → P → OnOk r P
on_ok (Ok x) p = p
on_ok (Err n) p = tt

-- ---- one test after the other

module _ {T Y : Type 0} (a : Bool) (f : Fault) (r : Result T Fault) (h : Fault → Y) (y : Y) where
  -- a refusal here, or further on
  pub test-refuses : (n : Fault) → cond a (Err f) r ≡ Err n → (r ≡ Err n → y ≡ h n) → cond a (h f) y ≡ h n
  test-refuses n =
      let P : Bool → Type 0 = λ t. cond t (Err f) r ≡ Err n → (r ≡ Err n → y ≡ h n) → cond t (h f) y ≡ h n in
      let both : (t : Bool) → P t = elim [
        | true ↦ λ e next. let same : f ≡ n = cc in ap h same
        | false ↦ λ e next. next e
      ] in
      both a

  -- it is passed
  pub test-passes : (x : T) (z : Y) → cond a (Err f) r ≡ Ok x → (r ≡ Ok x → y ≡ z) → cond a (h f) y ≡ z
  test-passes x z =
      let P : Bool → Type 0 = λ t. cond t (Err f) r ≡ Ok x → (r ≡ Ok x → y ≡ z) → cond t (h f) y ≡ z in
      let both : (t : Bool) → P t = elim [
        | true ↦ λ e next. absurd cc
        | false ↦ λ e next. next e
      ] in
      both a

-- ---- submissions

-- a payload that is short enough is there
pub is_there : {X : Type 0} (o : Option X) (n : ℕ) → n ≤ 4608 → IfNone o (4608 < n) → IsSome o
is_there (Some x) n few long = refl
is_there None n few long = absurd (omega (arith, few, long))

abbrev unsent : Session → Fault → Session × Submitted
unsent s n = (s, not_sent n)

module _ (me : Client) (payload : Bytes) (s : Session) where
  abbrev pub begun : ℕ → Session
  begun seq = record { used = seq; waiting = true; tally = [] }

  pub submission-refused : (m : MemorySupply) (n : Fault) → next_seq s ≡ Err n
      → submission me m payload s ≡ (s, not_sent n)
  unfolding submission
  submission-refused m n e =
      test-refuses s.waiting fault.Busy _ (unsent s) _ n e
      (λ e'. test-refuses (s.used == (2 ^ 64 - 1)) fault.Spent (Ok (suc s.used)) (unsent s) _ n e'
      (λ e''. absurd cc))

  pub submission-no_memory : (seq : ℕ) → next_seq s ≡ Ok seq
      → submission me refused_at_once payload s ≡ (s, not_sent fault.Memory)
  unfolding submission
  submission-no_memory seq e =
      test-passes s.waiting fault.Busy _ (unsent s) _ seq _ e
      (λ e'. test-passes (s.used == (2 ^ 64 - 1)) fault.Spent (Ok (suc s.used)) (unsent s) _ seq _ e'
      (λ e''. refl))

  pub submission-next : (seq : ℕ) → next_seq s ≡ Ok seq
      → submission me ample payload s ≡ (begun seq, sent_request (request_frame me seq payload))
  unfolding submission
  submission-next seq e =
      test-passes s.waiting fault.Busy _ (unsent s) _ seq _ e
      (λ e'. test-passes (s.used == (2 ^ 64 - 1)) fault.Spent (Ok (suc s.used)) (unsent s) _ seq _ e'
      (λ e''. let same : suc s.used ≡ seq =
      cc in ap (λ (k : ℕ). (begun k, sent_request (request_frame me k payload))) same))

-- ---- replies

abbrev unheard : Session → Fault → Session × Heard
unheard s n = (s, not_counted n)

-- the four tests of a reply, and what comes behind them
abbrev four_tests : {Y : Type 0} → (Fault → Y) → (a b c d : Bool) → Y → Y
four_tests h a b c d y = cond a (h fault.NotMine)
    (cond b (h fault.BadTag) (cond c (h fault.WrongSeq) (cond d (h fault.Doubled) y)))

module _ {Y : Type 0} (h : Fault → Y) (a b c d : Bool) (y : Y) where
  abbrev tested : Result (Unit {0}) Fault
  tested = four_tests (λ n. Err n) a b c d (Ok tt)

  four-refuse : (n : Fault) → tested ≡ Err n → four_tests h a b c d y ≡ h n
  four-refuse n e =
      let r3 : Result (Unit {0}) Fault = cond d (Err fault.Doubled) (Ok tt) in
      let r2 : Result (Unit {0}) Fault = cond c (Err fault.WrongSeq) r3 in
      let r1 : Result (Unit {0}) Fault = cond b (Err fault.BadTag) r2 in
      let y3 : Y = cond d (h fault.Doubled) y in
      let y2 : Y = cond c (h fault.WrongSeq) y3 in
      let y1 : Y = cond b (h fault.BadTag) y2 in
      test-refuses a fault.NotMine r1 h y1 n e
      (λ e1. test-refuses b fault.BadTag r2 h y2 n e1 (λ e2. test-refuses c fault.WrongSeq r3 h y3 n e2
      (λ e3. test-refuses d fault.Doubled (Ok tt) h y n e3 (λ e4. absurd (no_error n e4)))))
    where
      no_error : (n : Fault) → ◌≡◌ {A = Result (Unit {0}) Fault} (Ok tt) (Err n) → ⊥
      no_error n e = cc

  four-pass : tested ≡ Ok tt → four_tests h a b c d y ≡ y
  four-pass e =
      let r3 : Result (Unit {0}) Fault = cond d (Err fault.Doubled) (Ok tt) in
      let r2 : Result (Unit {0}) Fault = cond c (Err fault.WrongSeq) r3 in
      let r1 : Result (Unit {0}) Fault = cond b (Err fault.BadTag) r2 in
      let y3 : Y = cond d (h fault.Doubled) y in
      let y2 : Y = cond c (h fault.WrongSeq) y3 in
      let y1 : Y = cond b (h fault.BadTag) y2 in
      test-passes a fault.NotMine r1 h y1 tt y e (λ e1. test-passes b fault.BadTag r2 h y2 tt y e1
      (λ e2. test-passes c fault.WrongSeq r3 h y3 tt y e2
      (λ e3. test-passes d fault.Doubled (Ok tt) h y tt y e3 (λ e4. refl))))

-- a place and a text agree with themselves
agrees-itself : (replica place : ℕ) (text : Bytes)
    → agrees place text (record { replica = replica; place = place; text = text }) ≡ true
agrees-itself replica place text =
    ap (λ (b : Bool). b && bytes_eq text text) (eq-eqb place place refl) ∙ (bytes_eq-Decides text text).1 refl

module _ (me : Client) (s : Session) (replica client seq place : ℕ) (text t : Bytes) where
  abbrev pub reply : frame.Frame
  reply = frame.reply replica client seq place text t

  abbrev pub told : Told
  told = record { replica = replica; place = place; text = text }

  abbrev not_mine : Bool
  not_mine = not (client == me.number)

  abbrev bad_tag : Bool
  bad_tag = not (verify me.ring kind.Reply replica (reply_content replica client seq place text) t)

  abbrev wrong_seq : Bool
  wrong_seq = not (s.waiting && (seq == s.used))

  abbrev doubled : Bool
  doubled = is_counted s.tally replica

  pub reply-refused : (m : MemorySupply) (n : Fault) → admission me reply s ≡ Err n
      → on_reply me m reply s ≡ (s, not_counted n)
  unfolding on_reply
  reply-refused m n e = four-refuse (unheard s) not_mine bad_tag wrong_seq doubled
      (cond (not (is_ample m)) (s, not_counted fault.Memory) (count_reply me told s)) n e

  pub reply-no_memory : admission me reply s ≡ Ok tt
      → on_reply me refused_at_once reply s ≡ (s, not_counted fault.Memory)
  unfolding on_reply
  reply-no_memory e = four-pass (unheard s) not_mine bad_tag wrong_seq doubled (s, not_counted fault.Memory) e

  pub reply-counted : admission me reply s ≡ Ok tt → on_reply me ample reply s ≡ count_reply me told s
  unfolding on_reply
  reply-counted e = four-pass (unheard s) not_mine bad_tag wrong_seq doubled (count_reply me told s) e

  -- how many agree with it
  one-more : agreeing (told ∷ s.tally) place text ≡ suc (agreeing s.tally place text)
  one-more = ap (λ (b : Bool). length
      (cond b (told ∷ filter (agrees place text) s.tally) (filter (agrees place text) s.tally)))
      (agrees-itself replica place text)

  abbrev pub found : Option Receipt
  found = receipt_at me.sizes.faults place text s

  abbrev pub after : Option Receipt → Session
  after r = record { used = s.used; waiting = is_none r; tally = told ∷ s.tally }

  abbrev accepted : Receipt
  accepted = record { seq = s.used; place = place; text = text }

  abbrev with_receipt : Session × Heard
  with_receipt = (record { used = s.used; waiting = false; tally = told ∷ s.tally }, gives_receipt accepted)

  abbrev without : Session × Heard
  without = (record { used = s.used; waiting = true; tally = told ∷ s.tally }, only_counts)

  abbrev outcome : Option Receipt → Session × Heard
  outcome r = (after r, heard_of (Ok r))

  counts : (b : Bool) → cond b with_receipt without ≡ outcome (cond b (Some accepted) None)
  counts true = refl
  counts false = refl

  one-above : (f n : ℕ) → nat_lt f (suc n) ≡ nat_le f n
  one-above f n = grind arith

  pub reply-told : count_reply me told s ≡ outcome found
  unfolding count_reply
  reply-told =
      ap (λ (k : ℕ). cond (nat_lt me.sizes.faults k) with_receipt without) one-more
      ∙ ap (λ (b : Bool). cond b with_receipt without)
      (one-above me.sizes.faults (agreeing s.tally place text))
      ∙ counts (nat_le me.sizes.faults (agreeing s.tally place text))

-- ---- whole calls

-- the last step of a submission: all is done, or memory was refused and nothing is
pub submitted :
    (me : Client) (payload : Bytes) (h new : Held) (seq : ℕ) (result : Result (Vec ℕ Global) Fault)
    → next_seq h.session ≡ Ok seq
    → IfOk result (λ f. f.items ≡ spelling (request_frame me seq payload))
    → IfOk result
    (λ f. new ≡ record h { session = record { used = seq; waiting = true; tally = [] }; frame = f.items })
    → OnErr result (new ≡ h) → OnErr result (result ≡ Err fault.Memory)
    → (new ≡ record h {
      session = (submission me (memory_of result) payload h.session).0;
      frame = frame_after h.frame result;
    })
    × IsSubmitted (submission me (memory_of result) payload h.session).1 result
submitted me payload h new seq (Ok f) next made state same memory =
    let whole = submission-next me payload h.session seq next in (
      state ∙ ap (λ (x : Session × Submitted). record h { session = x.0; frame = f.items }) (sym whole),
      subst (λ (x : Session × Submitted). IsSubmitted x.1 (Ok f)) (sym whole) made,
    )
submitted me payload h new seq (Err n) next made state same memory =
    let none = submission-no_memory me payload h.session seq next in
    let is_memory : n ≡ fault.Memory = cc in
    subst (λ (k : Fault). (new
    ≡ record h
    { session = (submission me (memory_of {T = Vec ℕ Global} (Err k)) payload h.session).0 })
    × IsSubmitted (submission me (memory_of {T = Vec ℕ Global} (Err k)) payload h.session).1 (Err k))
    (sym is_memory) (
      same ∙ ap (λ (x : Session × Submitted). record h { session = x.0 }) (sym none),
      subst (λ (x : Session × Submitted). IsSubmitted x.1 (Err fault.Memory)) (sym none) refl,
    )

-- a submission that is refused at first
pub not_submitted : (me : Client) (payload : Bytes) (h : Held) (n : Fault) → next_seq h.session ≡ Err n
    → (h ≡ record h { session = (submission me (memory_of {T = Vec ℕ Global} (Err n)) payload h.session).0 })
    × IsSubmitted (submission me (memory_of {T = Vec ℕ Global} (Err n)) payload h.session).1 (Err n)
not_submitted me payload h n next =
    let none = submission-refused me payload h.session (memory_of {T = Vec ℕ Global} (Err n)) n next in (
      ap (λ (x : Session × Submitted). record h { session = x.0 }) (sym none),
      subst (λ (x : Session × Submitted). IsSubmitted x.1 (Err n)) (sym none) refl,
    )

-- the last step of a submission whose frame is not handed out
pub begins : (me : Client) (payload : Bytes) (h new : Held) (seq : ℕ) (result : Result (Unit {0}) Fault)
    → next_seq h.session ≡ Ok seq
    → OnOk result (new ≡ record h {
      session = record { used = seq; waiting = true; tally = [] };
      frame = spelling (request_frame me seq payload);
    })
    → OnErr result (new ≡ h) → OnErr result (result ≡ Err fault.Memory)
    → (new.keys ≡ h.keys) × (new.session ≡ (submission me (memory_of result) payload h.session).0)
    × IsSubmittedInto (submission me (memory_of result) payload h.session).1 h.frame result new.frame
begins me payload h new seq (Ok done) next state same memory =
    let whole = submission-next me payload h.session seq next in (
      ap (λ (x : Held). x.keys) state,
      ap (λ (x : Held). x.session) state ∙ ap (λ (x : Session × Submitted). x.0) (sym whole),
      subst (λ (x : Session × Submitted). IsSubmittedInto x.1 h.frame (Ok done) new.frame) (sym whole)
          (ap (λ (x : Held). x.frame) state),
    )
begins me payload h new seq (Err n) next state same memory =
    let none = submission-no_memory me payload h.session seq next in
    let is_memory : n ≡ fault.Memory = cc in
    subst (λ (k : Fault). (new.keys ≡ h.keys)
    × (new.session ≡ (submission me (memory_of {T = Unit {0}} (Err k)) payload h.session).0)
    × IsSubmittedInto (submission me (memory_of {T = Unit {0}} (Err k)) payload h.session).1 h.frame (Err k) new.frame)
    (sym is_memory) (
      ap (λ (x : Held). x.keys) same,
      ap (λ (x : Held). x.session) same ∙ ap (λ (x : Session × Submitted). x.0) (sym none),
      subst (λ (x : Session × Submitted). IsSubmittedInto x.1 h.frame (Err fault.Memory) new.frame) (sym none)
          (refl, ap (λ (x : Held). x.frame) same),
    )

-- a submission that is refused at first
pub not_begun : (me : Client) (payload : Bytes) (h : Held) (n : Fault) → next_seq h.session ≡ Err n
    → (h.keys ≡ h.keys)
    × (h.session ≡ (submission me (memory_of {T = Unit {0}} (Err n)) payload h.session).0)
    × IsSubmittedInto (submission me (memory_of {T = Unit {0}} (Err n)) payload h.session).1 h.frame (Err n) h.frame
not_begun me payload h n next =
    let none = submission-refused me payload h.session (memory_of {T = Unit {0}} (Err n)) n next in (
      refl,
      ap (λ (x : Session × Submitted). x.0) (sym none),
      subst (λ (x : Session × Submitted). IsSubmittedInto x.1 h.frame (Err n) h.frame) (sym none) (refl, refl),
    )

module _ (me : Client) (h : Held) (replica client seq place : ℕ) (text t : Bytes) where
  -- the last step of a reply
  pub heard : (new : Held) (result : Result (Option Receipt) Fault)
      → admission me (frame.reply replica client seq place text t) h.session ≡ Ok tt
      → IfOk result (λ r. r ≡ receipt_at me.sizes.faults place text h.session)
      → IfOk result (λ r. new ≡ record h { session = after me h.session replica client seq place text t r })
      → OnErr result (new ≡ h) → OnErr result (result ≡ Err fault.Memory)
      → (new ≡ record h {
        session =
            (on_reply me (memory_of result) (frame.reply replica client seq place text t) h.session).0;
      })
      × (heard_of result
      ≡ (on_reply me (memory_of result) (frame.reply replica client seq place text t) h.session).1)
  heard new (Ok r) admitted made state same memory =
      let whole : on_reply me ample (frame.reply replica client seq place text t) h.session
      ≡ outcome me h.session replica client seq place text t r =
      reply-counted me h.session replica client seq place text t admitted
      ∙ reply-told me h.session replica client seq place text t
      ∙ ap (outcome me h.session replica client seq place text t) (sym made) in (
        state ∙ ap (λ (x : Session × Heard). record h { session = x.0 }) (sym whole),
        ap (λ (x : Session × Heard). x.1) (sym whole),
      )
  heard new (Err n) admitted made state same memory =
      let none = reply-no_memory me h.session replica client seq place text t admitted in
      let is_memory : n ≡ fault.Memory = cc in
      subst (λ (k : Fault). (new
      ≡ record h {
        session = (on_reply me (memory_of {T = Option Receipt} (Err k))
            (frame.reply replica client seq place text t) h.session).0;
      })
      × (heard_of (Err k) ≡ (on_reply me (memory_of {T = Option Receipt} (Err k))
      (frame.reply replica client seq place text t) h.session).1)) (sym is_memory) (
        same ∙ ap (λ (x : Session × Heard). record h { session = x.0 }) (sym none),
        ap (λ (x : Session × Heard). x.1) (sym none),
      )

  -- a reply that is refused at first
  pub not_heard : (n : Fault) → admission me (frame.reply replica client seq place text t) h.session ≡ Err n
      → (h ≡ record h {
        session = (on_reply me (memory_of {T = Option Receipt} (Err n))
            (frame.reply replica client seq place text t) h.session).0;
      })
      × (heard_of (Err n) ≡ (on_reply me (memory_of {T = Option Receipt} (Err n))
      (frame.reply replica client seq place text t) h.session).1)
  not_heard n refused =
      let none = reply-refused me h.session replica client seq place text t
      (memory_of {T = Option Receipt} (Err n)) n refused in (
        ap (λ (x : Session × Heard). record h { session = x.0 }) (sym none),
        ap (λ (x : Session × Heard). x.1) (sym none),
      )
