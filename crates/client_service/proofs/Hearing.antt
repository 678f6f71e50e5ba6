-- What a session makes of bytes that came.
use Rattle.std.proofs.Common.{◌≡◌, ◌==◌, ◌&&◌, Bool, true, false, not, if◌then◌else◌, Some, None, refl, sym, ap}
use Rattle.std.proofs.Common.{subst}
use Rattle.ids.specs.declared.fault.Fault.{Fault}
use Rattle.ids.specs.declared.fault.Fault.TheVariants as fault
use Rattle.ids.specs.Sizes.{Sizes}
use Rattle.definitions.specs.Bytes.{Bytes}
use Rattle.definitions.specs.FrameLimits.{IsReadAs}
use Rattle.definitions.specs.Replicas.{ample}
use Rattle.definitions.specs.Tally.{is_counted}
use Rattle.definitions.specs.Sessions.{Client, Session, Heard, not_counted, on_reply, count_reply}
use Rattle.frames_view.specs.declared.frame_views.ReplyView.{ReplyView}
use Rattle.frames_view.specs.declared.frame_views.Frame.TheVariants as view
use Rattle.frames_view.specs.declared.frame_views.Frame as views
use Rattle.frames_view.specs.Views.{frame_of}
use Rattle.signed_frames.specs.Clients.{client_of}
use Rattle.client_accept.specs.Sessions.{Held}
use Rattle.client_service.specs.Links.{came, receipt_in, Hears}

-- a client takes replies alone
other_heard : (me : Client) (f : views.Frame) (x : Session) → ((r : ReplyView) → f ≡ view.Reply r → ⊥)
    → on_reply me ample (frame_of f) x ≡ (x, not_counted fault.NotMine)
unfolding on_reply
other_heard me (view.Request v) x apart = refl
other_heard me (view.Proposal v) x apart = refl
other_heard me (view.Vote v) x apart = refl
other_heard me (view.NewView v) x apart = refl
other_heard me (view.Fetch v) x apart = refl
other_heard me (view.Block v) x apart = refl
other_heard me (view.Reply v) x apart = absurd (apart v refl)

-- a frame of another kind changes nothing
pub other_passed : (old : Held) (bytes : Bytes) (sizes : Sizes) (f : views.Frame)
    → ((r : ReplyView) → f ≡ view.Reply r → ⊥) → sizes ≡ old.keys.sizes
    → IsReadAs sizes bytes (Some (frame_of f)) → Hears old (came bytes) None old
other_passed old bytes sizes f apart same read =
    let e = other_heard (client_of old.keys) f old.session apart in (
      Some (frame_of f),
      subst (λ (z : Sizes). IsReadAs z bytes (Some (frame_of f))) same read,
      (
        ample,
        ap (λ (x : Session × Heard). receipt_in x.1) (sym e),
        ap (λ (x : Session × Heard). record old { session = x.0 }) (sym e),
      ),
    )

-- a reply to a request that is not outstanding changes nothing
late_heard : (me : Client) (r : ReplyView) (x : Session) → (x.waiting && (r.seq == x.used)) ≡ false
    → (n : Fault) × (on_reply me ample (frame_of (view.Reply r)) x ≡ (x, not_counted n))
unfolding on_reply
late_heard me r x late = by _ _ _ late
  where
    by : (a b c : Bool) → c ≡ false → (n : Fault) × ((if a then (x, not_counted fault.NotMine)
        else (if b then (x, not_counted fault.BadTag)
        else (if not c then (x, not_counted fault.WrongSeq)
        else (if is_counted x.tally r.replica then (x, not_counted fault.Doubled)
        else count_reply me (record { replica = r.replica; place = r.place; text = r.text.now }) x))))
        ≡ (x, not_counted n))
    by true b c l = (fault.NotMine, refl)
    by false true c l = (fault.BadTag, refl)
    by false false false l = (fault.WrongSeq, refl)
    by false false true l = absurd cc

-- so it may be passed over
pub late_passed : (old : Held) (bytes : Bytes) (sizes : Sizes) (r : ReplyView)
    → (old.session.waiting && (r.seq == old.session.used)) ≡ false → sizes ≡ old.keys.sizes
    → IsReadAs sizes bytes (Some (frame_of (view.Reply r))) → Hears old (came bytes) None old
late_passed old bytes sizes r late same read =
    let e = late_heard (client_of old.keys) r old.session late in (
      Some (frame_of (view.Reply r)),
      subst (λ (z : Sizes). IsReadAs z bytes (Some (frame_of (view.Reply r)))) same read,
      (
        ample,
        ap (λ (x : Session × Heard). receipt_in x.1) (sym e.1),
        ap (λ (x : Session × Heard). record old { session = x.0 }) (sym e.1),
      ),
    )
