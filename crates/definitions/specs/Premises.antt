-- What is assumed of a run: injected bytes are read rightly, no tag is forged, and which cores must not
-- collide.
use Rattle.ids.specs.declared.kind.Kind.{Kind}
use Rattle.ids.specs.declared.kind.Kind.TheVariants as kind
use Rattle.std.specs.Prelude.{ℕ, ◌≡◌, ◌==◌, ◌⊎◌, ◌&&◌, not, Bool, true, false, List, [], ◌∷◌, ◌++◌, map}
use Rattle.std.specs.Prelude.{filter, ⊤, ◌≤◌}
use Rattle.std.specs.List.{AllByRecursion}
use Rattle.definitions.specs.Lists.{Among, count_below}
use Rattle.definitions.specs.Frames.{Command, Vote, Core, Certificate, Frame, kind_of, sender_of}
use Rattle.definitions.specs.Frames.{content_of, own_tag, genesis_core, command_content, reply_content}
use Rattle.definitions.specs.FrameLimits.{IsReadAs}
use Rattle.definitions.specs.Tags.{tag_of}
use Rattle.definitions.specs.Bytes.{Bytes}
use Rattle.ids.specs.Sizes.{Sizes, replicas, client_party}
use Rattle.definitions.specs.Digests.{NoCollision}
use Rattle.definitions.specs.Keyrings.{client_at, verify}
use Rattle.definitions.specs.Checks.{Identity, vote_verifies, command_verifies}
use Rattle.definitions.specs.Sendings.{To, To.to_party}
use Rattle.definitions.specs.Frames as frame
use Rattle.definitions.specs.Worlds.{Sent, World, Event, inject, offer, gather, Source, of_record, of_bytes}
use Rattle.definitions.specs.Worlds.{Happening, is_replica, is_correct, self_of}
use Rattle.definitions.specs.Runs.{after}
use Rattle.definitions.specs.Events.{party_of, brought, happens}
use Rattle.definitions.specs.Admission.{check, check_offer, check_gathered, is_passed}

-- A tag in a sender's name, for a receiver.
pub record Claim : Type 0 where
  pub label : Kind
  pub sender : ℕ
  pub receiver : ℕ
  pub content : Bytes
  pub tag : Bytes

-- the frame's own tag for the party that it comes to
abbrev pub own_claim : Identity → Frame → Claim
own_claim self f = record {
  label = kind_of f;
  sender = sender_of self.sizes f;
  receiver = self.ring.party;
  content = content_of f;
  tag = own_tag f self.ring.party;
}

-- a vote's tag for the party
abbrev pub vote_claim : Identity → Bytes → Vote → Claim
vote_claim self d b = record {
  label = kind.Vote;
  sender = b.voter;
  receiver = self.ring.party;
  content = d;
  tag = tag_of b.vector self.ring.party;
}

-- the votes of a certificate whose tags for the party verify
abbrev pub vote_claims : Identity → Certificate → List Claim
vote_claims self q = map (vote_claim self q.digest) (filter (vote_verifies self q.digest) q.votes)

-- a command's tag for the party
abbrev pub command_claim : Identity → Command → Claim
command_claim self c = record {
  label = kind.Request;
  sender = client_party c.client;
  receiver = self.ring.party;
  content = command_content c.client c.seq c.payload;
  tag = tag_of c.vector self.ring.party;
}

-- the commands of a block whose tags for the party verify
abbrev pub command_claims : Identity → Core → List Claim
command_claims self core = map (command_claim self) (filter (command_verifies self) core.commands)

-- the tags that a party relies on where it admits the frame
unfoldable pub accepted_tags : Identity → Frame → List Claim
accepted_tags self (frame.proposal view core q v) =
    own_claim self (frame.proposal view core q v) ∷ vote_claims self q ++ command_claims self core
accepted_tags self (frame.block sender core q t) =
    own_claim self (frame.block sender core q t) ∷ vote_claims self q ++ command_claims self core
accepted_tags self (frame.new_view view sender q v) =
    own_claim self (frame.new_view view sender q v) ∷ vote_claims self q
accepted_tags self (frame.reply replica client seq place text t) =
    record (own_claim self (frame.reply replica client seq place text t)) { receiver = client_party client }
    ∷ []
accepted_tags self f = own_claim self f ∷ []

-- a frame that was sent to this destination has its own tag for this party; a vector has one for each replica
abbrev pub IsFor : ℕ → To → Frame → Type 0
IsFor party to (frame.reply replica client seq place text t) = party ≡ client_party client
IsFor party to (frame.fetch sender d t) = to ≡ to_party party
IsFor party to (frame.block sender core q t) = to ≡ to_party party
IsFor party to f = ⊤

-- The tag is one of the frame's own. Those of a block's commands and of a certificate's votes are not: the
-- sender only passes them on.
abbrev pub IsTagOf : Claim → Sent → Frame → Type 0
IsTagOf x s f =
    (x.label ≡ kind_of f) × (x.content ≡ content_of f) × (x.tag ≡ own_tag f x.receiver)
    × IsFor x.receiver s.to f

-- a party of the record sent this tag as its own
abbrev pub WasSent : List Sent → Claim → Type 0
WasSent sent x = (s : Sent) × Among s sent × (s.sender ≡ x.sender) × IsTagOf x s s.frame

-- whether a correct party admits the frame
abbrev pub admits : World → ℕ → Frame → Bool
admits w p (frame.reply replica client seq place text t) =
    not (is_replica w p)
    && ((client == client_at p) && verify (w.ring p) kind.Reply replica
    (reply_content replica client seq place text) t)
admits w p f = is_replica w p && is_passed (check (self_of w p) f)

-- whether the party that an event names admits a frame that it brings: by the checks of a frame that comes, of
-- one that is offered, or of all that come together
abbrev pub admits_in : World → Event → Frame → Bool
admits_in w (offer to source) f = is_replica w to && is_passed (check_offer (self_of w to) f)
admits_in w (gather to sources) f =
    is_replica w to && is_passed (check_gathered (self_of w to) (brought w (gather to sources)))
admits_in w e f = admits w (party_of e) f

-- the bytes of a source are read as the frame that they spell, and as none where they spell none
abbrev pub IsReadFrom : Sizes → Source → Type 0
IsReadFrom sizes (of_record k) = ⊤
IsReadFrom sizes (of_bytes bytes read) = IsReadAs sizes bytes read

-- so are injected bytes, and those of what is offered or comes together
abbrev pub IsReadIn : Sizes → Event → Type 0
IsReadIn sizes (inject to bytes read) = IsReadAs sizes bytes read
IsReadIn sizes (offer to source) = IsReadFrom sizes source
IsReadIn sizes (gather to sources) = AllByRecursion (IsReadFrom sizes) sources
IsReadIn sizes e = ⊤

-- so are those of a whole schedule
abbrev pub AllRead : Sizes → List Happening → Type 0
AllRead sizes hs = AllByRecursion (λ h. IsReadIn sizes h.0) hs

-- each right tag in a correct party's name was sent by it before
abbrev pub NoForgeryIn : World → Event → Type 0
NoForgeryIn w e =
    (f : Frame) → Among f (brought w e) → w.is_faulty (party_of e) ≡ false → admits_in w e f ≡ true →
    (x : Claim) → Among x (accepted_tags (self_of w (party_of e)) f) → w.is_faulty x.sender ≡ false
    → WasSent w.sent x

-- no event of the run brings a forged tag
abbrev pub NoForgery : World → List Happening → Type 0
NoForgery w [] = ⊤
NoForgery w (h ∷ hs) = NoForgeryIn w h.0 × NoForgery (happens w h) hs

-- the cores of a frame
abbrev pub CoreOf : Core → Frame → Type 0
CoreOf c (frame.proposal view core q v) = c ≡ core
CoreOf c (frame.block sender core q t) = c ≡ core
CoreOf c f = ⊥

-- the cores of a run: genesis's, those of its frames, and those of the frames brought in it
abbrev pub CoreBrought : Core → World → List Happening → Type 0
CoreBrought c w [] = ⊥
CoreBrought c w (h ∷ hs) =
    ((f : Frame) × Among f (brought w h.0) × CoreOf c f) ⊎ CoreBrought c (happens w h) hs

-- the core is one of the run
abbrev pub CoreOfRun : World → List Happening → Core → Type 0
CoreOfRun w hs c =
    (c ≡ genesis_core) ⊎ (((s : Sent) × Among s (after w hs).sent × CoreOf c s.frame) ⊎ CoreBrought c w hs)

-- What is assumed of a schedule that begins in this world: at most f replicas are faulty, each correct one
-- has its own keys, injected bytes are read rightly, no tag is forged and no two cores collide.
pub record ArePremises (start : World) (hs : List Happening) : Type 0 where
  pub few : count_below (replicas start.sizes) start.is_faulty ≤ start.sizes.faults
  pub keys : (p : ℕ) → is_correct start p ≡ true → (start.ring p).party ≡ p
  pub read : AllRead start.sizes hs
  pub no_forgery : NoForgery start hs
  pub no_collision : NoCollision (CoreOfRun start hs)
