-- What a session keeps until there is a receipt.
use Rattle.std.proofs.Common.{Bool, true, false, if◌then◌else◌, ◌≡◌, List, [], ◌∷◌, Option, Some, None}
use Rattle.std.proofs.Common.{refl, ◌∙◌, ap}
use Rattle.ids.specs.declared.fault.Fault.TheVariants as fault
use Rattle.definitions.specs.Frames.{Frame}
use Rattle.definitions.specs.Frames as frame
use Rattle.definitions.specs.Replicas.{MemorySupply}
use Rattle.definitions.specs.Tally.{Told}
use Rattle.definitions.specs.Sessions.{Client, Session, Receipt, Heard, not_counted, gives_receipt}
use Rattle.definitions.specs.Sessions.{only_counts}
use Rattle.definitions.specs.Sessions.{count_reply, on_reply}
use Rattle.signed_frames.specs.Clients.{client_of}
use Rattle.client_accept.specs.Sessions.{Held}
use Rattle.client_service.specs.Links.{Traffic, sent, came, silent, looked, receipt_in, HearsFrame, Hears}
use Rattle.client_service.specs.Links.{Goes}

-- the session is still waiting, where this gave no receipt
abbrev StillWaits : Session × Heard → Type 0
StillWaits p = None ≡ receipt_in p.1 → p.0.waiting ≡ true

counted_waits : (s t : Session) (r : Receipt) (b : Bool) → t.waiting ≡ true
    → StillWaits (if b then (s, gives_receipt r) else (t, only_counts))
counted_waits s t r true e none = absurd cc
counted_waits s t r false e none = e

five_wait : (s : Session) (p : Session × Heard) (a b c d e : Bool) → s.waiting ≡ true → StillWaits p
    → StillWaits (if a then (s, not_counted fault.NotMine) else (if b then (s, not_counted fault.BadTag) else
    (if c then (s, not_counted fault.WrongSeq) else (if d then (s, not_counted fault.Doubled) else
    (if e then (s, not_counted fault.Memory) else p)))))
five_wait s p true b c d e is waits none = is
five_wait s p false true c d e is waits none = is
five_wait s p false false true d e is waits none = is
five_wait s p false false false true e is waits none = is
five_wait s p false false false false true is waits none = is
five_wait s p false false false false false is waits none = waits none

reply_waits : (me : Client) (t : Told) (s : Session) → StillWaits (count_reply me t s)
unfolding count_reply
reply_waits me t s =
    counted_waits (record { used = s.used; waiting = false; tally = t ∷ s.tally })
    (record { used = s.used; waiting = true; tally = t ∷ s.tally })
    (record { seq = s.used; place = t.place; text = t.text }) _ refl

frame_waits : (me : Client) (m : MemorySupply) (f : Frame) (s : Session) → s.waiting ≡ true
    → StillWaits (on_reply me m f s)
unfolding on_reply
frame_waits me m (frame.reply replica client seq place text t) s is =
    five_wait s (count_reply me (record { replica = replica; place = place; text = text }) s) _ _ _ _ _ is
    (reply_waits me (record { replica = replica; place = place; text = text }) s)
frame_waits me m (frame.request c) s is = λ none. is
frame_waits me m (frame.proposal v c j t) s is = λ none. is
frame_waits me m (frame.vote d v) s is = λ none. is
frame_waits me m (frame.new_view v r c t) s is = λ none. is
frame_waits me m (frame.fetch a b c) s is = λ none. is
frame_waits me m (frame.block a b c d) s is = λ none. is

-- what stays
pub record Keeps (old new : Held) : Type 0 where
  pub keys : new.keys ≡ old.keys
  pub frame : new.frame ≡ old.frame
  pub waits : old.session.waiting ≡ true → new.session.waiting ≡ true

keeps_same : (old new : Held) → new ≡ old → Keeps old new
keeps_same old new e = record {
  keys = ap (λ s. s.keys) e;
  frame = ap (λ s. s.frame) e;
  waits = λ is. ap (λ s. s.session.waiting) e ∙ is;
}

keeps_heard : (old new : Held) (f : Option Frame) → HearsFrame old f None new → Keeps old new
keeps_heard old new None (none, same) = keeps_same old new same
keeps_heard old new (Some f) (m, none, is) = record {
  keys = ap (λ s. s.keys) is;
  frame = ap (λ s. s.frame) is;
  waits = λ waits.
      ap (λ s. s.session.waiting) is ∙ frame_waits (client_of old.keys) m f old.session waits none;
}

keeps_one : (old new : Held) (t : Traffic) → Hears old t None new → Keeps old new
keeps_one old new (came bytes) (f, read, hears) = keeps_heard old new f hears
keeps_one old new (sent bytes) (none, same) = keeps_same old new same
keeps_one old new silent (none, same) = keeps_same old new same
keeps_one old new (looked b) (none, same) = keeps_same old new same

pub keeps : {L : Type 0} (carries : L → Traffic → L → Type 0) (ts : List Traffic) (old new : Held × L)
    → Goes carries old ts new → Keeps old.0 new.0
keeps carries [] old new goes = keeps_same old.0 new.0 (ap (λ p. p.0) goes)
keeps carries (t ∷ ts) old new (between, passes, goes) =
    let first = keeps_one old.0 between.0 t passes.1 in
    let then_on = keeps carries ts between new goes in record {
      keys = then_on.keys ∙ first.keys;
      frame = then_on.frame ∙ first.frame;
      waits = λ is. then_on.waits (first.waits is);
    }
