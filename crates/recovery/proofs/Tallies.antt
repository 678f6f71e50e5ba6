-- A client that waits was told no place and text by more than f replicas.
use Rattle.ids.specs.declared.kind.Kind.TheVariants as kind
use Rattle.std.proofs.Common.{ℕ, ◌≡◌, ◌≤◌, ◌==◌, ◌&&◌, not, Bool, true, false, cond, List, ◌∷◌, filter, length, refl}
use Rattle.std.proofs.Common.{sym, arith, nat_lt, None, true≢false}
use Rattle.std.specs.List.{list_any}
use Rattle.std.specs.Str.{bytes_eq}
use Rattle.std.specs.Cmp.Lexicographic.{bytes_decides}
use Rattle.std.proofs.lemmas.Bool.{cond_both, and_parts, not-false, eqb-true, ltb-false}
use Rattle.definitions.specs.Bytes.{Bytes}
use Rattle.definitions.specs.Frames.{Frame}
use Rattle.definitions.specs.Frames as frame
use Rattle.definitions.specs.Keyrings.{verify}
use Rattle.definitions.specs.Frames.{reply_content}
use Rattle.definitions.specs.Replicas.{MemorySupply}
use Rattle.definitions.specs.Sessions.{Client, Session, Submitted, Heard, on_reply, count_reply, is_ample}
use Rattle.definitions.specs.Tally.{Told, agrees, agreeing}
use Rattle.definitions.specs.Worlds.{World, Event, Happening, client_of}
use Rattle.definitions.specs.Keyrings.{client_at}
use Rattle.definitions.specs.Runs.{refusal}
use Rattle.definitions.specs.Events.{Effect, party_of, effect, happens, nothing, stepped, told, submitted}
use Rattle.linear_law.proofs.Accounts.{put-session}
use Rattle.linear_law.proofs.Effects.{ComesFramed, Effects, Effects.idle, Effects.step_by, Effects.hearing}
use Rattle.linear_law.proofs.Effects.{Effects.submitting, effects}
use Rattle.linear_law.proofs.Submissions.{IsAsked, IsAsked.kept, IsAsked.given, submission-asked}

-- no place and text was told by more than so many, while the client waits
abbrev pub HasFew : ℕ → Session → Type 0
HasFew most s = s.waiting ≡ true → (place : ℕ) (text : Bytes) → agreeing s.tally place text ≤ most

abbrev pub HaveFew : World → Type 0
HaveFew w = (cl : ℕ) → HasFew w.sizes.faults (w.session cl)

-- a reply that brings no receipt
counted-few : (most : ℕ) (t : Told) (ts : List Told) (place : ℕ) (text : Bytes) → agreeing ts place text ≤ most
    → nat_lt most (agreeing (t ∷ ts) t.place t.text) ≡ false → agreeing (t ∷ ts) place text ≤ most
counted-few most t ts place text old new =
    cond_both (agrees place text t) (t ∷ filter (agrees place text) ts) (filter (agrees place text) ts)
    (λ (l : List Told). length l ≤ most)
    (λ e.
    let p = and_parts (t.place == place) (bytes_eq t.text text) e in
    let l = ltb-false most (agreeing (t ∷ ts) t.place t.text) new in
    let same : agreeing (t ∷ ts) t.place t.text ≡ agreeing (t ∷ ts) place text =
    λ k. agreeing (t ∷ ts) (eqb-true t.place place p.0 k) ((bytes_decides t.text text).0 p.1 k) in
    let here = with-first (agrees place text t) t (filter (agrees place text) ts) e in
    omega (arith, l, same, here))
    (λ e. old)
  where
    with-first : (b : Bool) (t : Told) (l : List Told) → b ≡ true → length (cond b (t ∷ l) l) ≡ length (t ∷ l)
    with-first true t l e = refl
    with-first false t l e = absurd (true≢false (sym e))

reply-few : (me : Client) (m : MemorySupply) (f : Frame) (s : Session) → HasFew me.sizes.faults s
    → HasFew me.sizes.faults (on_reply me m f s).0
unfolding on_reply count_reply
reply-few me m (frame.reply r cl q pl tx g) s few =
    cond_both (not (cl == me.number)) _ _ P (λ k. few) (λ mine.
    cond_both (not (verify me.ring kind.Reply r (reply_content r cl q pl tx) g)) _ _ P (λ k. few) (λ good.
    cond_both (not (s.waiting && (q == s.used))) _ _ P (λ k. few) (λ now.
    cond_both (list_any (λ x. x.replica == r) s.tally) _ _ P (λ k. few) (λ new.
    cond_both (not (is_ample m)) _ _ P (λ k. few) (λ k.
    cond_both (nat_lt me.sizes.faults
    (length (filter (agrees pl tx) (record { replica = r; place = pl; text = tx } ∷ s.tally)))) _ _ P
    (λ e w. absurd (true≢false (sym w)))
    (λ e w place text. counted-few me.sizes.faults (record { replica = r; place = pl; text = tx }) s.tally place text
    (few (and_parts s.waiting (q == s.used) (not-false _ now)).0 place text) e))))))
  where
    P : Session × Heard → Type 0
    P x = HasFew me.sizes.faults x.0
reply-few me m (frame.request c) s few = few
reply-few me m (frame.proposal v c q t) s few = few
reply-few me m (frame.vote d x) s few = few
reply-few me m (frame.new_view v r q t) s few = few
reply-few me m (frame.fetch r d t) s few = few
reply-few me m (frame.block r c q t) s few = few

submitted-few : (most : ℕ) (me : Client) (payload : Bytes) (s : Session) (x : Session × Submitted)
    → IsAsked me payload s x → HasFew most s → HasFew most x.0
submitted-few most me payload s x (kept n) few = few
submitted-few most me payload s x given few = λ w place text. omega arith

effect-few : (w : World) (e : Event) (m : MemorySupply) (f : Effect) → HaveFew w → Effects w e m f → (cl : ℕ)
    → HasFew w.sizes.faults (f.session cl)
unfolding nothing stepped told submitted
effect-few w e m f few (idle a n) cl = few cl
effect-few w e m f few (step_by i me ar) cl = few cl
effect-few w e m f few (hearing x b a n k l) cl =
    put-session (client_at (party_of e)) _ w.session (HasFew w.sizes.faults) cl
    (λ i. reply-few (client_of w (client_at (party_of e))) m x (w.session (client_at (party_of e)))
    (few (client_at (party_of e)))) (few cl)
effect-few w e m f few (submitting c payload n k) cl =
    put-session c _ w.session (HasFew w.sizes.faults) cl
    (λ i. submitted-few w.sizes.faults (client_of w c) payload (w.session c) _
    (submission-asked (client_of w c) m payload (w.session c)) (few c)) (few cl)

-- an event leaves it so
pub happens-few : (w : World) (h : Happening) → ComesFramed w h.0 → refusal w h.0 ≡ None → HaveFew w
    → HaveFew (happens w h)
unfolding happens
happens-few w h framed ok few cl = effect-few w h.0 h.1 (effect w h) few (effects w h.0 h.1 framed ok) cl
