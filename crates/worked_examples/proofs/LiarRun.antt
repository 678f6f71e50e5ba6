-- The run with a liar, computed round by round, and its premises.
use Rattle.std.proofs.Common.{◌≡◌, ◌∙◌, ◌⊎◌, ◌++◌, ℕ, true, List, [], ◌∷◌, map, refl, sym, ap, ap₂, subst}
use Rattle.std.proofs.Common.{inl, inr, arith, Ok}
use Rattle.ids.specs.Sizes.{client_party}
use Rattle.definitions.specs.Lists.{Among, count_below}
use Rattle.definitions.specs.Frames.{Core, Frame, spelling, genesis_core}
use Rattle.definitions.specs.FrameLimits.{Spells}
use Rattle.definitions.specs.Branches.{Branch}
use Rattle.definitions.specs.Digests.{NoCollision}
use Rattle.definitions.specs.Chronicles.{Chronicle}
use Rattle.definitions.specs.States.{qc_high}
use Rattle.definitions.specs.Histories.{answers, answer_in, history_of}
use Rattle.definitions.specs.Sendings.{Sending, vote_frame, reply_to}
use Rattle.definitions.specs.Replicas.{held_history}
use Rattle.definitions.specs.Worlds.{World, Event, Event.submit, Event.relay, Event.beat, Happening, self_of}
use Rattle.definitions.specs.Worlds.{new_world}
use Rattle.definitions.specs.Runs.{run, after}
use Rattle.definitions.specs.Premises.{CoreOfRun, NoForgery, AllRead}
use Rattle.definitions.proofs.Certificates.{IsDigest-digest_of}
use Rattle.definitions.proofs.Vectors.{IsVector-vector_for, length-tag_for}
use Rattle.worked_examples.specs.Runs.{sizes}
use Rattle.worked_examples.specs.Replicas.{payload, first, second, third}
use Rattle.worked_examples.specs.Liar.{start, liar, stored, not_stored, answer, lie, comes_to, round, amply}
use Rattle.worked_examples.specs.Liar.{ending, schedule_with, schedule, IsTakenWhole, PremisesHold}
use Rattle.worked_examples.specs.Liar.{LiarVotes, LiarTells, Accepts, IsOfTheCache}
use Rattle.worked_examples.proofs.Computed.{of_steps, of_runs}
use Rattle.worked_examples.proofs.Forgery.{Facts, facts, Seen, seen, seen-last, taken-whole, forges-nothing}
use Rattle.worked_examples.proofs.Forgery.{cores-are, all_differ, none-collides}
use Rattle.worked_examples.proofs.LiarTags as tags
use Rattle.worked_examples.proofs.LiarWorlds.{round1, round2, round3, round4, vote_by, reply_by, reply_of}
use Rattle.worked_examples.proofs.LiarWorlds.{reply_0, reply_1, requested, after1, after2, after3}
use Rattle.worked_examples.proofs.LiarWorlds.{decided_with, Round, accepted}
use Rattle.worked_examples.proofs.Snapshots.{snapshot, restored, start-restored, part_of, happen}
use Rattle.worked_examples.proofs.Snapshots.{shows, ends, goes_on}

-- ---- each part, computed

abbrev asking : List Event
asking = submit 0 payload ∷ relay 0 0 ∷ []

ask : part_of (seen (restored (snapshot start)) (happen asking)) ≡ shows [] requested
unfolding of_runs
ask = refl

abbrev pub vote_of_liar : Round → Frame
vote_of_liar r = vote_by 3 r r.by_liar

-- the core of a round comes to replicas 0 and 1
abbrev pub core_twice : Round → List Core
core_twice r = r.core ∷ r.core ∷ []

part1 : part_of (seen (restored requested) (happen (round 1 (vote_of_liar round1))))
    ≡ shows (core_twice round1) after1
unfolding of_steps
part1 = refl

part2 : part_of (seen (restored after1) (happen (round 4 (vote_of_liar round2))))
    ≡ shows (core_twice round2) after2
unfolding of_steps
part2 = refl

part3 : part_of (seen (restored after2) (happen (round 7 (vote_of_liar round3))))
    ≡ shows (core_twice round3) after3
unfolding of_steps
part3 = refl

abbrev deciding : List Event
deciding = beat 0 ∷ relay 10 0 ∷ relay 10 1 ∷ []

-- the cache's reply is left as the definitions say it
decide : part_of (seen (restored after3) (happen deciding))
    ≡ shows (core_twice round4) (decided_with (reply_of 0) (reply_of 1))
unfolding of_steps
decide = refl

-- what it is
text_is : answer_in sizes.most_keys (record { client = 0; seq = 1; payload = payload }) [] ≡ answer stored
unfolding of_runs
text_is = refl

replies_0 : reply_to (self_of start 0) (answer stored) ≡ reply_0
unfolding of_runs
replies_0 = refl

replies_1 : reply_to (self_of start 1) (answer stored) ≡ reply_1
unfolding of_runs
replies_1 = refl

decide_so : part_of (seen (restored after3) (happen deciding))
    ≡ shows (core_twice round4) (decided_with reply_0 reply_1)
decide_so =
    decide
    ∙ ap₂ (λ (a b : Sending). shows (core_twice round4) (decided_with a b))
    (ap (reply_to (self_of start 0)) text_is ∙ replies_0)
    (ap (reply_to (self_of start 1)) text_is ∙ replies_1)

abbrev lied : Frame
lied = reply_by 3 not_stored tags.reply_3

abbrev hearing : List Event
hearing = comes_to (client_party 0) lied ∷ relay 12 (client_party 0) ∷ relay 14 (client_party 0) ∷ []

hear : part_of (seen (restored (decided_with reply_0 reply_1)) (happen hearing)) ≡ shows [] accepted
unfolding of_steps
hear = refl

-- ---- the whole of it

-- the schedule, with the liar's frames as they are
abbrev pub played : List Happening
played = schedule_with (vote_of_liar round1) (vote_of_liar round2) (vote_of_liar round3) lied

vote1_is : vote_frame liar first ≡ vote_of_liar round1
unfolding of_runs
vote1_is = refl

vote2_is : vote_frame liar second ≡ vote_of_liar round2
unfolding of_runs
vote2_is = refl

vote3_is : vote_frame liar third ≡ vote_of_liar round3
unfolding of_runs
vote3_is = refl

lie_is : lie ≡ lied
unfolding of_runs
lie_is = refl

pub as_played : schedule ≡ played
as_played =
    ap (λ (f : Frame). schedule_with f (vote_frame liar second) (vote_frame liar third) lie) vote1_is
    ∙ (ap (λ (f : Frame). schedule_with (vote_of_liar round1) f (vote_frame liar third) lie) vote2_is
    ∙ (ap (λ (f : Frame). schedule_with (vote_of_liar round1) (vote_of_liar round2) f lie) vote3_is
    ∙ ap (λ (f : Frame). schedule_with (vote_of_liar round1) (vote_of_liar round2) (vote_of_liar round3) f)
    lie_is))

-- what is seen of it, from the end to the start
abbrev cores4 : List Core
cores4 = core_twice round4

abbrev cores3 : List Core
cores3 = core_twice round3 ++ cores4

abbrev cores2 : List Core
cores2 = core_twice round2 ++ cores3

abbrev pub cores1 : List Core
cores1 = core_twice round1 ++ cores2

abbrev from_round3 : List Happening
from_round3 = amply (round 7 (vote_of_liar round3)) (ending lied)

abbrev from_round2 : List Happening
from_round2 = amply (round 4 (vote_of_liar round2)) from_round3

abbrev from_round1 : List Happening
from_round1 = amply (round 1 (vote_of_liar round1)) from_round2

sees_hearing : seen (restored (decided_with reply_0 reply_1)) (amply hearing []) ≡ ends accepted []
sees_hearing =
    goes_on accepted (decided_with reply_0 reply_1) accepted hearing [] [] [] refl hear refl

sees4 : seen (restored after3) (ending lied) ≡ ends accepted cores4
sees4 =
    goes_on accepted after3 (decided_with reply_0 reply_1) deciding (amply hearing [])
    (core_twice round4) [] refl decide_so sees_hearing

sees3 : seen (restored after2) from_round3 ≡ ends accepted cores3
sees3 =
    goes_on accepted after2 after3 (round 7 (vote_of_liar round3)) (ending lied)
    (core_twice round3) cores4 refl part3 sees4

sees2 : seen (restored after1) from_round2 ≡ ends accepted cores2
sees2 =
    goes_on accepted after1 after2 (round 4 (vote_of_liar round2)) from_round3
    (core_twice round2) cores3 refl part2 sees3

sees1 : seen (restored requested) from_round1 ≡ ends accepted cores1
sees1 =
    goes_on accepted requested after1 (round 1 (vote_of_liar round1)) from_round2
    (core_twice round1) cores2 refl part1 sees2

pub sees : seen start played ≡ ends accepted cores1
sees =
    ap (λ (w : World). seen w played) start-restored
    ∙ goes_on accepted (snapshot start) requested asking from_round1 [] cores1 refl ask sees1

-- what is told of it
found : Facts
found = record {
  taken = true;
  honest = true;
  brought = cores1;
  sent = round1.core ∷ round2.core ∷ round3.core ∷ round4.core ∷ [];
  receipts = accepted.receipts;
}

computed : facts (seen start played) ≡ found
unfolding found
computed = ap facts sees

-- the world at the end
at_end : after start schedule ≡ restored accepted
at_end =
    ap (after start) as_played ∙ (sym (seen-last played start) ∙ ap (λ (s : Seen). s.last) sees)

-- ---- what is said of the run

pub taken_whole : IsTakenWhole
unfolding found
taken_whole = (
  subst (λ (hs : List Happening). run start hs ≡ Ok (after start hs)) (sym as_played)
      (taken-whole start played found computed refl),
  ap (λ (w : World). w.answers) at_end,
)

-- the voters of the highest certificate
abbrev voters : Chronicle → List ℕ
voters c = map (λ b. b.voter) (qc_high sizes c).certificate.votes

voters_are : voters accepted.r0.chronicle ≡ 0 ∷ 1 ∷ 3 ∷ []
unfolding of_steps
voters_are = refl

pub liar_votes : LiarVotes
liar_votes = ap (λ (w : World). voters (w.replica 0).chronicle) at_end ∙ voters_are

pub liar_tells : LiarTells
liar_tells = ap (λ (w : World). (w.session 0).tally) at_end

pub accepts : Accepts
accepts = ap (λ (w : World). w.receipts) at_end

held : held_history accepted.r0 ≡ history_of first
unfolding of_steps held_history
held = refl

held_too : held_history accepted.r1 ≡ history_of first
unfolding of_steps held_history
held_too = refl

its_answer : answers sizes.most_keys (history_of first) ≡ answer stored ∷ []
unfolding of_runs
its_answer = refl

pub of_the_cache : IsOfTheCache
of_the_cache = (
  ap (λ (w : World). held_history (w.replica 0)) at_end ∙ held,
  ap (λ (w : World). held_history (w.replica 1)) at_end ∙ held_too,
  its_answer,
)

-- ---- the premises

-- the liar's frames are frames, so they are read as these
pub vote_read : (b : Branch) → Spells sizes (spelling (vote_frame liar b)) (vote_frame liar b)
unfolding vote_frame
vote_read b = (
  (IsDigest-digest_of b, record { voter = omega arith; vector = IsVector-vector_for sizes _ _ _ }),
  inr (tt, refl),
)

lie_read : Spells sizes (spelling lie) lie
unfolding reply_to
lie_read = (
  (
    omega arith,
    omega arith,
    (omega arith, omega arith),
    (omega arith, omega arith),
    omega arith,
    length-tag_for _ _ _ _,
  ),
  inr (tt, refl),
)

pub all_read : AllRead sizes schedule
all_read = (
  tt,
  (
    tt,
    (
      tt,
      (
        tt,
        (
          tt,
          (
            tt,
            (
              tt,
              (
                vote_read first,
                (
                  tt,
                  (
                    tt,
                    (
                      tt,
                      (
                        tt,
                        (
                          tt,
                          (
                            vote_read second,
                            (
                              tt,
                              (
                                tt,
                                (
                                  tt,
                                  (tt, (tt, (vote_read third, (tt, (tt, (tt, (lie_read, (tt, (tt, tt))))))))),
                                ),
                              ),
                            ),
                          ),
                        ),
                      ),
                    ),
                  ),
                ),
              ),
            ),
          ),
        ),
      ),
    ),
  ),
)

-- each of these twice
abbrev pub doubled : List Core → List Core
doubled [] = []
doubled (c ∷ cs) = c ∷ c ∷ doubled cs

pub once : (c : Core) (cs : List Core) → Among c (doubled cs) → Among c cs
once c [] m = absurd m
once c (x ∷ cs) (inl e) = inl e
once c (x ∷ cs) (inr (inl e)) = inl e
once c (x ∷ cs) (inr (inr m)) = inr (once c cs m)

-- genesis's core and those of the four blocks
abbrev cores : List Core
cores = genesis_core ∷ round1.core ∷ round2.core ∷ round3.core ∷ round4.core ∷ []

apart : all_differ cores ≡ true
unfolding of_steps
apart = refl

one_of : (c : Core) → (c ≡ genesis_core) ⊎ (Among c found.sent ⊎ Among c found.brought) → Among c cores
unfolding found
one_of c (inl e) = inl e
one_of c (inr (inl m)) = inr m
one_of c (inr (inr m)) = inr (once c found.sent m)

no_collision : NoCollision (CoreOfRun start played)
no_collision a b ka kb h =
    none-collides cores a b apart (one_of a (cores-are start played found computed a ka))
    (one_of b (cores-are start played found computed b kb)) h

-- the premises hold
pub premises : PremisesHold
unfolding count_below new_world found
premises = record {
  few = omega arith;
  keys = λ p c. refl;
  read = all_read;
  no_forgery = subst (NoForgery start) (sym as_played) (forges-nothing start played found computed refl);
  no_collision =
      subst (λ (hs : List Happening). NoCollision (CoreOfRun start hs)) (sym as_played) no_collision;
}
