-- A request comes to all that executed it, and each replies.
use Rattle.std.proofs.Common.{ℕ, ◌≡◌, ◌<◌, ◌==◌, ◌&&◌, Bool, true, false, cond, List, [], ◌∷◌, ◌++◌}
use Rattle.std.proofs.Common.{refl, sym, ap, subst, ◌∙◌, arith, inl, inr, Option, Some}
use Rattle.std.specs.Bool.{⊤}
use Rattle.std.proofs.lemmas.Bool.{cases_eq, cond-true, and_parts, eqb-true, eq-eqb, le-ltb, true≢false}
use Rattle.ids.specs.Sizes.{Sizes, client_party, replicas}
use Rattle.definitions.specs.Lists.{Among, AreDistinct, IsBeginning}
use Rattle.definitions.specs.Checks.{Identity}
use Rattle.definitions.specs.Chronicles.{Chronicle, Step.noted, Note.got_request, executed, history}
use Rattle.definitions.specs.Frames.{Command, Core}
use Rattle.definitions.specs.Histories.{Entry, History, Answer, answers, answer_to, last_seq}
use Rattle.definitions.specs.Replicas.{MemorySupply.ample, Replica, Standing.running}
use Rattle.ids.specs.declared.fault.Fault.TheVariants as fault
use Rattle.definitions.specs.Rulings.{Ruling.due, Ruling.refusing, on_request}
use Rattle.definitions.specs.Sendings.{Sending, sendings, reply_to, again}
use Rattle.definitions.specs.Linearity.{IsLinear}
use Rattle.definitions.specs.States.{is_due}
use Rattle.definitions.specs.Worlds.{World, Sent, Event.relay, Happening, is_correct, self_of}
use Rattle.definitions.specs.Runs.{after}
use Rattle.definitions.specs.Events.{happens}
use Rattle.definitions.proofs.Counts.{found}
use Rattle.definitions.proofs.Lists.{any-found}
use Rattle.linear_law.proofs.Final.{linear}
use Rattle.linear_law.proofs.Replies.{answers-grow, held-running}
use Rattle.linear_law.proofs.Sends.{answer_to-among}
use Rattle.recovery.specs.Correct.{OfCorrect, AllGoOn, chronicle_of, amply}
use Rattle.recovery.specs.Healing.{comes_to}
use Rattle.recovery.specs.Rounds.{Carries}
use Rattle.recovery.proofs.Offers.{GoesOn, goes-none, goes-both, row-own, row-other}
use Rattle.recovery.proofs.Requests.{IsWanted, request-comes, wanted-after}
use Rattle.recovery.proofs.Steps.{outs}
use Rattle.recovery.proofs.Submitted.{entry-low}
use Rattle.recovery.proofs.Told.{last-above, last-below, last-answered, one-answer}
use Rattle.recovery.proofs.Ways.{IsOnWay, way-on}
use Rattle.recovery.proofs.Wells.{IsReached, family-of}
use Rattle.recovery.proofs.Worlds.{IsMadeAs, same-correct, same-self, Passes, passes-none, passes-one}

-- ---- what each tells

-- a replica that goes on executed the request, as its client's last, with this answer
pub record Tells (w : World) (c : Command) (a : Answer) (r : ℕ) : Type 0 where
  pub goes : (w.replica r).standing ≡ running
  pub old : is_due (history (chronicle_of w r)) c ≡ false
  pub last : (c.seq == last_seq c.client (history (chronicle_of w r))) ≡ true
  pub answer : answer_to w.sizes.most_keys c.client c.seq (history (chronicle_of w r)) ≡ Some a

tells-later : (w next : World) (c : Command) (a : Answer) (r : ℕ) → IsMadeAs w next
    → next.replica r ≡ w.replica r → Tells w c a r → Tells next c a r
tells-later w next c a r made e h = record {
  goes = ap (λ (x : Replica). x.standing) e ∙ h.goes;
  old = ap (λ (x : Replica). is_due (history x.chronicle) c) e ∙ h.old;
  last = ap (λ (x : Replica). c.seq == last_seq c.client (history x.chronicle)) e ∙ h.last;
  answer = (λ k. answer_to (made.sizes k).most_keys c.client c.seq (history (e k).chronicle)) ∙ h.answer;
}

module _ (Known : Core → Type 0) (w : World) (g : IsReached Known w) (c : Command)
    (ok : w.is_faulty (client_party c.client) ≡ false) (used : c.seq ≡ (w.session c.client).used) (some : 0 < c.seq)
    (goes : AllGoOn w) (there : OfCorrect w (λ r. Carries (executed (chronicle_of w r)) c)) where
  abbrev past : ℕ → History
  past r = history (chronicle_of w r)

  -- the request's number is the client's last
  last-number : (r : ℕ) → is_correct w r ≡ true → last_seq c.client (past r) ≡ c.seq
  unfolding history
  last-number r cr =
      let f = any-found (λ (e : Entry). (e.client == c.client) && (e.seq == c.seq)) (past r) (there r cr) in
      let p = and_parts (f.0.client == c.client) (f.0.seq == c.seq) f.2 in
      let client = eqb-true f.0.client c.client p.0 in
      let seq = eqb-true f.0.seq c.seq p.1 in
      let high = last-above c.client (past r) f.0 f.1 client in
      let low = last-below c.client (past r) c.seq (λ e m i.
      let l = entry-low Known w g r cr e m (ap (λ (n : ℕ). w.is_faulty (client_party n)) i ∙ ok) in
      let s = ap (λ (n : ℕ). (w.session n).used) i in
      omega (arith, l, s, used)) in
      omega (arith, high, low, seq)

  -- so each answers it
  own-answer : (r : ℕ) → is_correct w r ≡ true
      → (a : Answer) × (answer_to w.sizes.most_keys c.client c.seq (past r) ≡ Some a) × (a.client ≡ c.client)
      × (a.seq ≡ c.seq)
  own-answer r cr = last-answered w.sizes.most_keys c.client c.seq (past r) some (last-number r cr)

  -- and all alike
  same-answer : (r s : ℕ) (cr : is_correct w r ≡ true) (cs : is_correct w s ≡ true)
      → (own-answer r cr).0 ≡ (own-answer s cs).0
  same-answer r s cr cs =
      let a = own-answer r cr in
      let b = own-answer s cs in
      one-answer w.sizes.most_keys whole a.0 b.0 (stands r cr) (stands s cs) (a.2 ∙ sym b.2) (a.3 ∙ sym b.3)
    where
      lin : IsLinear w
      lin = linear Known w g.well.good g.well.account

      whole : History
      whole = lin.0

      stands : (r : ℕ) (cr : is_correct w r ≡ true) → Among (own-answer r cr).0 (answers w.sizes.most_keys whole)
      stands r cr =
          let a = own-answer r cr in
          answers-grow w.sizes.most_keys (past r) whole
          (subst (λ (h : History). IsBeginning h whole) (held-running (w.replica r) (goes r cr)) (lin.1.histories r cr))
          a.0 (answer_to-among w.sizes.most_keys c.client c.seq (past r) a.0 a.1)

  -- the answer that all tell
  pub all-tell : (a : Answer) × (a.client ≡ c.client) × (a.seq ≡ c.seq) × OfCorrect w (λ r. Tells w c a r)
  unfolding is_due
  all-tell =
      let some = found (replicas w.sizes) (is_correct w) (let k = (family-of Known w g).enough in omega (arith, k)) in
      let a = own-answer some.0 some.1 in (
        a.0,
        a.2,
        a.3,
        λ r cr. record {
          goes = goes r cr;
          old = not-due r cr;
          last = eq-eqb c.seq (last_seq c.client (past r)) (sym (last-number r cr));
          answer = (own-answer r cr).1 ∙ ap (λ (x : Answer). Some x) (same-answer r some.0 cr some.1);
        },
      )
    where
      not-due : (r : ℕ) → is_correct w r ≡ true → is_due (past r) c ≡ false
      not-due r cr = (let e = last-number r cr in le-ltb (last_seq c.client (past r)) c.seq (omega (arith, e)))

-- ---- they are asked

-- these frames are the replies of these replicas
abbrev pub AreReplies : World → Answer → List ℕ → List Sent → Type 0
AreReplies w a [] [] = ⊤
AreReplies w a [] (s ∷ ss) = ⊥
AreReplies w a (r ∷ rs) [] = ⊥
AreReplies w a (r ∷ rs) (s ∷ ss) =
    (s.sender ≡ r) × (s.to ≡ (reply_to (self_of w r) a).0) × (s.frame ≡ (reply_to (self_of w r) a).1)
    × AreReplies w a rs ss

pub replies-before : (w next : World) (a : Answer) (rs : List ℕ) (ss : List Sent) → IsMadeAs w next
    → AreReplies next a rs ss → AreReplies w a rs ss
replies-before w next a [] [] made h = tt
replies-before w next a [] (s ∷ ss) made h = h
replies-before w next a (r ∷ rs) [] made h = h
replies-before w next a (r ∷ rs) (s ∷ ss) made h = (
  h.0,
  h.1 ∙ ap (λ (i : Identity). (reply_to i a).0) (same-self w next made r),
  h.2 ∙ ap (λ (i : Identity). (reply_to i a).1) (same-self w next made r),
  replies-before w next a rs ss made h.3,
)

pub replies-later : (w next : World) (a : Answer) (rs : List ℕ) (ss : List Sent) → IsMadeAs w next
    → AreReplies w a rs ss → AreReplies next a rs ss
replies-later w next a rs ss made h = replies-before next w a rs ss (record {
  sizes = sym made.sizes;
  faulty = sym made.faulty;
  ring = sym made.ring;
}) h

-- it notes the request, whatever waits
old-request : (c : Command) (ch : Chronicle) → is_due (history ch) c ≡ false
    → on_request c ch ≡ due (noted (got_request c))
unfolding on_request
old-request c ch e = by (is_due (history ch) c) _ e
  where
    by : (t x : Bool) → t ≡ false
        → cond (t && x) (refusing fault.PoolFull) (due (noted (got_request c))) ≡ due (noted (got_request c))
    by true x e = absurd (true≢false e)
    by false x e = refl

-- and replies
request-sends : (w : World) (c : Command) (a : Answer) (r : ℕ) → Tells w c a r
    → sendings (self_of w r) (noted (got_request c)) (chronicle_of w r) ≡ reply_to (self_of w r) a ∷ []
unfolding sendings
request-sends w c a r h =
    cond-true (c.seq == last_seq c.client (history (chronicle_of w r))) _ _ h.last
    ∙ ap (λ (o : Option Answer). again (self_of w r) o) h.answer

pub record HaveReplied (w last : World) (a : Answer) (rs : List ℕ) : Type 0 where
  pub goes : GoesOn w last
  pub standing : (j : ℕ) → (w.replica j).standing ≡ running → (last.replica j).standing ≡ running
  pub replies : AreReplies w a rs goes.more

module _ (sizes : Sizes) (start : World) (all : List Happening) (k : ℕ) (c : Command) (a : Answer) where
  pub all-reply : (rs : List ℕ) (w : World) (rest : List Happening)
      → IsOnWay sizes start all w (amply (comes_to rs (k ∷ [])) ++ rest) → AreDistinct rs → IsWanted w k c
      → ((r : ℕ) → Among r rs → (is_correct w r ≡ true) × Tells w c a r)
      → Passes w (amply (comes_to rs (k ∷ []))) × HaveReplied w (after w (amply (comes_to rs (k ∷ [])))) a rs
  unfolding comes_to after goes-none goes-both
  all-reply [] w rest on d wanted tell =
      (passes-none w, record { goes = goes-none w; standing = λ j s. s; replies = tt })
  all-reply (r ∷ rs) w rest on d wanted tell =
      let later : List Happening = amply (comes_to rs (k ∷ [])) in
      let t = tell r (inl refl) in
      let next : World = happens w (relay k r, ample) in
      let one = request-comes sizes start all w (later ++ rest) k r c on t.0 t.1.goes wanted
      (old-request c (chronicle_of w r) t.1.old) in
      let st = one.1 in
      let made = st.made in
      let here : List Sent = outs w r (reply_to (self_of w r) a ∷ []) in
      let goes : GoesOn w next = record {
        made = made;
        more = here;
        sent = st.sent ∙ ap (λ (o : List Sending). w.sent ++ outs w r o) (request-sends w c a r t.1);
        session = st.session;
      } in
      let onn = way-on sizes start all w (relay k r, ample) (later ++ rest) on one.0 in
      let more = all-reply rs next rest onn d.1 (wanted-after w ((relay k r, ample) ∷ []) k c made wanted)
      (λ j m. (
        same-correct w next made j ∙ (tell j (inr m)).0,
        tells-later w next c a j made
            (row-other w next r (noted (got_request c)) st j (λ e. d.0 (subst (λ (i : ℕ). Among i rs) e m)))
            (tell j (inr m)).1,
      )) in
      let end : World = after next later in (
        passes-one w (relay k r, ample) later one.0 more.0,
        record {
          goes = goes-both w next end goes more.1.goes;
          standing = λ j s. more.1.standing j (elim (cases_eq j r) [
            | inl e ↦ subst (λ (i : ℕ). (next.replica i).standing ≡ running) (sym e)
                (ap (λ (x : Replica). x.standing) (row-own w next r (noted (got_request c)) st))
            | inr n ↦ ap (λ (x : Replica). x.standing) (row-other w next r (noted (got_request c)) st j n) ∙ s
          ]);
          replies = (refl, refl, refl, replies-before w next a rs more.1.goes.more made more.1.replies);
        },
      )
