-- What a run's events bring passes on no forged tag, where they invent none.
use Rattle.std.proofs.Common.{ℕ, ◌≡◌, ◌⊎◌, false, List, [], ◌∷◌, map, filter, subst, inl, inr, Ok}
use Rattle.std.specs.List.{AllByRecursion}
use Rattle.definitions.specs.Lists.{Among}
use Rattle.definitions.specs.Checks.{vote_verifies, command_verifies}
use Rattle.definitions.specs.Frames.{Command, Certificate, Frame}
use Rattle.definitions.specs.Frames as frame
use Rattle.definitions.specs.Premises.{Claim, WasSent, vote_claim, vote_claims, command_claim, command_claims}
use Rattle.definitions.specs.Worlds.{World, Sent, Event, Event.submit, Event.relay, Event.inject, Event.timeout}
use Rattle.definitions.specs.Worlds.{Event.beat, Event.prune, Event.offer, Event.gather, Event.lead, Event.ask, Source}
use Rattle.definitions.specs.Worlds.{Source.of_record, Source.of_bytes, Happening, self_of}
use Rattle.definitions.specs.Events.{recorded, listed, frame_of, frames_of, brought, happens}
use Rattle.definitions.specs.Runs.{refusal, run}
use Rattle.definitions.proofs.Lists.{Among-either, Among-before, Among-after, Among-mapped, Among-kept}
use Rattle.linear_law.proofs.Deliveries.{VoteHolds, CommandHolds, Brings, IsPassedOn, recorded-sent, recorded-brings}
use Rattle.linear_law.proofs.Deliveries.{happens-passed, names-replica}
use Rattle.linear_law.proofs.Effects.{named}
use Rattle.linear_law.proofs.HeldVotes.{AllVotes, all-from}
use Rattle.linear_law.proofs.Linear.{run-step}
use Rattle.recovery.specs.Correct.{OfCorrect}
use Rattle.recovery.specs.Inventions.{invented_from, invented_from_all, invented, tags_within, ForgesForNobody}
use Rattle.recovery.specs.Inventions.{NothingForgedInvented}

-- ---- what is brought is recorded or invented

abbrev IsRecorded : World → Frame → Type 0
IsRecorded w f = (s : Sent) × Among s w.sent × (s.frame ≡ f)

from-record : (w : World) (k : ℕ) (f : Frame) → Among f (listed (recorded w k)) → IsRecorded w f
from-record w k f m = let r = recorded-sent w k f m in (r.0, r.2, r.3)

from-source : (w : World) (s : Source) (f : Frame) → Among f (listed (frame_of w s))
    → IsRecorded w f ⊎ Among f (invented_from s)
from-source w (of_record k) f m = inl (from-record w k f m)
from-source w (of_bytes bytes read) f m = inr m

from-sources : (w : World) (ss : List Source) (f : Frame) → Among f (frames_of w ss)
    → IsRecorded w f ⊎ Among f (invented_from_all ss)
from-sources w [] f m = absurd m
from-sources w (s ∷ ss) f m =
    elim (Among-either f (listed (frame_of w s)) (frames_of w ss) m) [
      | inl k ↦ (elim (from-source w s f k) [
        | inl r ↦ inl r
        | inr i ↦ inr (Among-before f (invented_from s) (invented_from_all ss) i)
      ])
      | inr k ↦ (elim (from-sources w ss f k) [
        | inl r ↦ inl r
        | inr i ↦ inr (Among-after f (invented_from s) (invented_from_all ss) i)
      ])
    ]

brought-from : (w : World) (e : Event) (f : Frame) → Among f (brought w e) → IsRecorded w f ⊎ Among f (invented e)
unfolding brought
brought-from w (relay k to) f m = inl (from-record w k f m)
brought-from w (inject to bytes read) f m = inr m
brought-from w (offer to source) f m = from-source w source f m
brought-from w (gather to sources) f m = from-sources w sources f m
brought-from w (submit c payload) f m = absurd m
brought-from w (timeout r) f m = absurd m
brought-from w (beat r) f m = absurd m
brought-from w (prune r height) f m = absurd m
brought-from w (lead r d) f m = absurd m
brought-from w (ask r to d) f m = absurd m

-- ---- what forges for nobody holds

module _ (w : World) where
  votes-hold : (q : Certificate)
      → OfCorrect w (λ r. (x : Claim) → Among x (vote_claims (self_of w r) q) → w.is_faulty x.sender ≡ false
      → WasSent w.sent x) → AllVotes (VoteHolds w w.sent) q
  votes-hold q h =
      all-from (VoteHolds w w.sent q.digest) q.votes (λ b m r c v ok.
      h r c (vote_claim (self_of w r) q.digest b)
      (Among-mapped (vote_claim (self_of w r) q.digest) (filter (vote_verifies (self_of w r) q.digest) q.votes) b
      (Among-kept (vote_verifies (self_of w r) q.digest) q.votes b m v)) ok)

  commands-hold : (ks : List Command)
      → OfCorrect w (λ r. (x : Claim)
      → Among x (map (command_claim (self_of w r)) (filter (command_verifies (self_of w r)) ks))
      → w.is_faulty x.sender ≡ false → WasSent w.sent x) → AllByRecursion (CommandHolds w w.sent) ks
  commands-hold ks h =
      all-from (CommandHolds w w.sent) ks (λ k m r c v ok.
      h r c (command_claim (self_of w r) k)
      (Among-mapped (command_claim (self_of w r)) (filter (command_verifies (self_of w r)) ks) k
      (Among-kept (command_verifies (self_of w r)) ks k m v)) ok)

  forged-brings : (f : Frame) → ForgesForNobody w f → Brings w f
  unfolding tags_within
  forged-brings (frame.proposal view core q v) h = (
    commands-hold core.commands (λ r c x m.
        h r c x (Among-after x (vote_claims (self_of w r) q) (command_claims (self_of w r) core) m)),
    votes-hold q (λ r c x m.
        h r c x (Among-before x (vote_claims (self_of w r) q) (command_claims (self_of w r) core) m)),
  )
  forged-brings (frame.block sender core q t) h = (
    commands-hold core.commands (λ r c x m.
        h r c x (Among-after x (vote_claims (self_of w r) q) (command_claims (self_of w r) core) m)),
    votes-hold q (λ r c x m.
        h r c x (Among-before x (vote_claims (self_of w r) q) (command_claims (self_of w r) core) m)),
  )
  forged-brings (frame.new_view view sender q v) h = votes-hold q h
  forged-brings (frame.vote d b) h = (votes-hold (record { digest = d; votes = b ∷ [] }) h).0
  forged-brings (frame.request c) h = (commands-hold (c ∷ []) h).0
  forged-brings (frame.fetch sender d t) h = tt
  forged-brings (frame.reply r c q p t g) h = tt

-- so a whole run keeps and sends what holds
pub run-passed : (hs : List Happening) (w last : World) → IsPassedOn w → NothingForgedInvented w hs
    → run w hs ≡ Ok last → IsPassedOn last
unfolding run
run-passed [] w last a h e = let k : w ≡ last = cc in subst IsPassedOn k a
run-passed (x ∷ hs) w last a h e =
    let r = run-step (refusal w x.0) (run (happens w x) hs) last e in
    let holds : (f : Frame) → Among f (brought w x.0) → Brings w f = λ f b. elim (brought-from w x.0 f b) [
      | inl s ↦ recorded-brings w s.0 f a s.1 s.2
      | inr i ↦ forged-brings w f (h.0 f i)
    ] in
    run-passed hs (happens w x) last (happens-passed w x.0 x.1 a holds (names-replica w x.0 (named w x.0 r.0))) h.1 r.1
