-- What is assumed of a run so that its healing forges nothing. A replica relies on the tags for itself alone, but passes
-- on those for others as they came: a block that came to one replica may hold a command whose tag is forged for another
-- one, which healing brings it to.
use Rattle.std.specs.Prelude.{ℕ, ◌≡◌, false, Bool, List, [], ◌∷◌, ◌++◌, map, filter, Ok, ⊤}
use Rattle.ids.specs.Sizes.{Sizes, AreSizes}
use Rattle.definitions.specs.Checks.{Identity, command_verifies}
use Rattle.definitions.specs.Digests.{NoCollision}
use Rattle.definitions.specs.Events.{happens, listed}
use Rattle.definitions.specs.Frames.{Frame}
use Rattle.definitions.specs.Frames as frame
use Rattle.definitions.specs.Keyrings.{Keyring}
use Rattle.definitions.specs.Lists.{Among}
use Rattle.definitions.specs.Premises.{Claim, WasSent, vote_claims, command_claim, command_claims, AllRead, NoForgery}
use Rattle.definitions.specs.Premises.{ArePremises, CoreOfRun}
use Rattle.definitions.specs.Runs.{run}
use Rattle.definitions.specs.Worlds.{World, Event, inject, offer, gather, Source, of_record, of_bytes, Happening}
use Rattle.definitions.specs.Worlds.{new_world, self_of}
use Rattle.recovery.specs.Correct.{OfCorrect}
use Rattle.recovery.specs.Healing.{heal}
use Rattle.recovery.specs.NeverWedged.{HealingAnswers, IsAsked, MayHeal}

-- the frame that a source invents, if any: that of bytes, and none of the record
abbrev pub invented_from : Source → List Frame
invented_from (of_record k) = []
invented_from (of_bytes bytes read) = listed read

-- those of several
abbrev pub invented_from_all : List Source → List Frame
invented_from_all [] = []
invented_from_all (s ∷ ss) = invented_from s ++ invented_from_all ss

-- the frames that an event invents
abbrev pub invented : Event → List Frame
invented (inject to bytes read) = listed read
invented (offer to source) = invented_from source
invented (gather to sources) = invented_from_all sources
invented e = []

-- the right tags for a replica, of votes and commands, that a frame brings
unfoldable pub tags_within : Identity → Frame → List Claim
tags_within self (frame.proposal view core q v) = vote_claims self q ++ command_claims self core
tags_within self (frame.block sender core q t) = vote_claims self q ++ command_claims self core
tags_within self (frame.new_view view sender q v) = vote_claims self q
tags_within self (frame.vote d b) = vote_claims self (record { digest = d; votes = b ∷ [] })
tags_within self (frame.request c) = map (command_claim self) (filter (command_verifies self) (c ∷ []))
tags_within self f = []

-- each of these tags, of votes and of commands, that names a correct party was sent by it before, whichever correct replica it is
-- for
abbrev pub ForgesForNobody : World → Frame → Type 0
ForgesForNobody w f =
    OfCorrect w (λ r. (x : Claim) → Among x (tags_within (self_of w r) f) → w.is_faulty x.sender ≡ false
    → WasSent w.sent x)

-- no event of a run invents a frame with a vote's or a command's tag that is forged for a correct replica
abbrev pub NothingForgedInvented : World → List Happening → Type 0
NothingForgedInvented w [] = ⊤
NothingForgedInvented w (h ∷ hs) =
    ((f : Frame) → Among f (invented h.0) → ForgesForNobody w f) × NothingForgedInvented (happens w h) hs

-- So healing forges nothing, after any run that forged nothing: the premises on reading and on forging hold of both.
abbrev pub HealingForgesNothing : Type 0
HealingForgesNothing =
    (k client : ℕ) (sizes : Sizes) (is_faulty : ℕ → Bool) (ring : ℕ → Keyring) (hs : List Happening) (w : World)
    → ArePremises (new_world sizes is_faulty ring) hs → NothingForgedInvented (new_world sizes is_faulty ring) hs
    → run (new_world sizes is_faulty ring) hs ≡ Ok w → IsAsked w k client
    → AllRead sizes (hs ++ heal k w) × NoForgery (new_world sizes is_faulty ring) (hs ++ heal k w)

-- So nobody is wedged by the premises of the run alone, if no two cores collide in healing.
abbrev pub RunsAreHealed : Type 0
RunsAreHealed =
    (k client : ℕ) (sizes : Sizes) (is_faulty : ℕ → Bool) (ring : ℕ → Keyring) (hs : List Happening) (w : World)
    → ArePremises (new_world sizes is_faulty ring) hs → NothingForgedInvented (new_world sizes is_faulty ring) hs
    → NoCollision (CoreOfRun (new_world sizes is_faulty ring) (hs ++ heal k w))
    → run (new_world sizes is_faulty ring) hs ≡ Ok w → AreSizes w.sizes → MayHeal w → IsAsked w k client
    → HealingAnswers k client w
