-- What a timeout, an announced view and one that was seen change.
use Rattle.ids.specs.declared.fault.Fault.{Fault}
use Rattle.ids.specs.declared.fault.Fault.TheVariants as fault
use Rattle.ids.specs.declared.kind.Kind.TheVariants as kind
use Rattle.ids.specs.Numbers.{kind_number}
use Rattle.std.specs.Prelude.{ℕ, ◌≡◌, [], ◌∷◌, length, nat_lt, if◌then◌else◌, Option, Some, None, Result}
use Rattle.std.specs.Prelude.{Err, MatchResult}
use Rattle.std.specs.Option.{unwrap_or}
use Rattle.definitions.specs.Frames.{Certificate, certificate_bytes, new_view_text, frame_text}
use Rattle.definitions.specs.Keyrings.{Keys, keyring_of, vector_for}
use Rattle.definitions.specs.Checks.{identity_of, cut}
use Rattle.definitions.specs.Branches.{Branch}
use Rattle.definitions.specs.Chronicles.{Chronicle, Note, Step.noted, Note.got_new_view, Note.timed_out}
use Rattle.definitions.specs.Chronicles.{Note.seen_view}
use Rattle.definitions.specs.Sendings.{to_all}
use Rattle.definitions.specs.Trees.{blocks, find_in}
use Rattle.pacemaker.specs.Pacing.{Pace, IsPaceOf}
use Rattle.replica_rules.specs.declared.block_ref.BlockRef.{BlockRef}
use Rattle.replica.specs.declared.stored.GotNewView.{GotNewView}
use Rattle.replica.specs.declared.stored.SeenView.{SeenView}
use Rattle.replica.specs.declared.stored.StoredStep.TheVariants.{GotNewView as Announced, TimedOut}
use Rattle.replica.specs.declared.stored.StoredStep.TheVariants.{SeenView as Seen}
use Rattle.replica.specs.declared.change.Change.{Change}
use Rattle.signed_frames.specs.Outs.{SentBytes}
use Rattle.replica.specs.Kept.{StateParts}
use Rattle.replica.specs.Changes.{noting, raise_of, leaf_after}

-- the view goes to all, with the highest certificate as it is passed on
abbrev pub new_view_sent : Keys → ℕ → Certificate → SentBytes
new_view_sent keys view q =
    let content = new_view_text view keys.party (certificate_bytes (cut (identity_of keys) q)) in (
      to_all,
      kind.NewView,
      frame_text (kind_number kind.NewView) content
          (vector_for keys.sizes (keyring_of keys) kind.NewView content),
    )

-- the pace of one note more, of whatever chronicle it was
pub record IsPacedBy (old new : Pace) (Notes : Note → Type 0) : Type 0 where
  pub sizes : new.sizes ≡ old.sizes
  pub paced : (c : Chronicle) (n : Note) → Notes n → IsPaceOf c old → IsPaceOf (noted n ∷ c) new

abbrev pub timeout_change : Keys → StateParts → Pace → Change
timeout_change keys s pace =
    record (noting s.variables TimedOut (new_view_sent keys pace.view s.variables.high.certificate ∷ []))
    { pace = Some pace }

-- a timeout goes on by a view, and announces it
pub record IsTimeout (keys : Keys) (s : StateParts) (d : Change) : Type 0 where
  pub pace : Pace
  pub its_pace : IsPacedBy s.pace pace (λ n. n ≡ timed_out)
  pub change : d ≡ timeout_change keys s pace

abbrev pub new_view_change : Keys → StateParts → BlockRef → GotNewView → Pace → Change
new_view_change keys s block n pace =
    let v = s.variables in
    let high = raise_of (record { block = block; certificate = n.certificate }) v.high in
    let sent = new_view_sent keys pace.view (unwrap_or high v.high).certificate ∷ [] in
    record (noting v (Announced n) (if nat_lt s.pace.view pace.view then sent else [])) {
      high = high;
      leaf = leaf_after high v.high v.leaf;
      pace = Some pace;
    }

-- a view that was announced, with a certificate for this block
pub record IsAnnounced (keys : Keys) (s : StateParts) (block : BlockRef) (n : GotNewView) (d : Change) :
    Type 0 where
  pub pace : Pace
  pub its_pace :
      IsPacedBy s.pace pace (λ x. (q : Certificate) × (b : Branch) × (x ≡ got_new_view n.view n.sender q b))
  pub change : d ≡ new_view_change keys s block n pace

-- what an announced view comes to, where this was found of the block of its certificate
abbrev pub IsNewViewAt : Keys → StateParts → GotNewView → Result Change Fault → Option Branch → Type 0
IsNewViewAt keys s n result None = result ≡ Err fault.UnknownParent
IsNewViewAt keys s n result (Some b) =
    MatchResult result (IsAnnounced keys s (record { digest = n.certificate.digest; height = length b }) n)
    (λ f. f ≡ fault.Memory)

abbrev pub IsNewView : Keys → StateParts → GotNewView → Result Change Fault → Type 0
IsNewView keys s n result =
    IsNewViewAt keys s n result (find_in n.certificate.digest (blocks s.variables.stored))

-- ---- a view whose certificate isn't good for the replica

abbrev pub seen_view_change : Keys → StateParts → SeenView → Pace → Change
seen_view_change keys s n pace =
    let v = s.variables in
    let sent = new_view_sent keys pace.view v.high.certificate ∷ [] in
    record (noting v (Seen n) (if nat_lt s.pace.view pace.view then sent else [])) { pace = Some pace }

-- the view counts, and where the replica moves on to a greater one, it announces that
pub record IsSeen (keys : Keys) (s : StateParts) (n : SeenView) (d : Change) : Type 0 where
  pub pace : Pace
  pub its_pace : IsPacedBy s.pace pace (λ x. x ≡ seen_view n.view n.sender)
  pub change : d ≡ seen_view_change keys s n pace
