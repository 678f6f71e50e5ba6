-- The run with a liar, three more rounds, a pruning and another request: computed from where it ended, and its premises.
use Rattle.std.proofs.Common.{◌≡◌, ◌∙◌, ◌++◌, ◌⊎◌, true, List, [], ◌∷◌, refl, sym, ap, subst, inl, inr, arith, replicate}
use Rattle.std.proofs.Common.{None, Ok}
use Rattle.ids.specs.Sizes.{Sizes, client_party}
use Rattle.ids.specs.declared.kind.Kind.TheVariants as kind
use Rattle.definitions.specs.Chronicles.{Step.noted, Note.pruned as prunes}
use Rattle.definitions.specs.Digests.{NoCollision}
use Rattle.definitions.specs.Frames.{Command, Core, Frame, command_content, genesis_core}
use Rattle.definitions.specs.Frames as frame
use Rattle.definitions.specs.Keyrings.{vector_for}
use Rattle.definitions.specs.Lists.{Among, count_below}
use Rattle.definitions.specs.Premises.{CoreOfRun, NoForgery, AllRead}
use Rattle.definitions.specs.Replicas.{Standing.running}
use Rattle.definitions.specs.Runs.{run, after}
use Rattle.definitions.specs.Sendings.{To.to_all, To.to_party, vote_frame}
use Rattle.definitions.specs.Worlds.{World, Happening, new_world}
use Rattle.definitions.proofs.Lists.{Among-either}
use Rattle.worked_examples.specs.AfterPruning.{fifth, sixth, next, pruning, later_with, later, schedule, waiting}
use Rattle.worked_examples.specs.AfterPruning.{PremisesHold}
use Rattle.worked_examples.specs.Liar.{start, liar, amply, schedule as run_with_liar}
use Rattle.worked_examples.specs.Replicas.{payload, fourth}
use Rattle.worked_examples.specs.Runs.{sizes, ring}
use Rattle.worked_examples.proofs.Computed.{of_steps, of_runs}
use Rattle.worked_examples.proofs.Forgery.{Facts, facts, Seen, seen, seen-last, taken-whole, forges-nothing, cores-are}
use Rattle.worked_examples.proofs.Forgery.{all_differ, none-collides}
use Rattle.worked_examples.proofs.LiarRun.{played, as_played, sees, cores1, all_read, vote_read, vote_of_liar, core_twice}
use Rattle.worked_examples.proofs.LiarRun.{doubled, once}
use Rattle.worked_examples.proofs.LiarTags as tags
use Rattle.worked_examples.proofs.LiarWorlds.{accepted, after5, after6, after7, took, vote_by, round1, round2, round3}
use Rattle.worked_examples.proofs.LiarWorlds.{round4, round5, round6, round7}
use Rattle.worked_examples.proofs.Snapshots.{Snapshot, restored, part_of, happen, shows, ends, goes_on, then_see}
use Rattle.worked_examples.proofs.Snapshots.{seen-append}

-- the second request
abbrev pub command : Command
command = record {
  client = 0;
  seq = 2;
  payload = payload;
  vector = vector_for sizes (ring (client_party 0)) kind.Request (command_content 0 2 payload);
}

-- what the parties hold in the end
abbrev pub left : Snapshot
left = record {
  r0 = record { chronicle = noted (prunes 4) ∷ after7.r0.chronicle; standing = running };
  r1 = after7.r1;
  r2 = record { chronicle = took round1 ∷ []; standing = running };
  client = record { used = 2; waiting = true; tally = [] };
  sent = after7.sent
      ++ record { event = 45; sender = 2; to = to_party 0; frame = vote_by 2 round1 tags.vote1_2 }
      ∷ record { event = 47; sender = client_party 0; to = to_all; frame = frame.request command } ∷ [];
  receipts = accepted.receipts;
  answers = replicate 47 None;
  now = 48;
}

-- ---- each part, computed

part5 : part_of (seen (restored accepted) (happen (next 11 13 15 (vote_of_liar round4))))
    ≡ shows (core_twice round5) after5
unfolding of_steps
part5 = refl

part6 : part_of (seen (restored after5) (happen (next 16 17 18 (vote_of_liar round5))))
    ≡ shows (core_twice round6) after6
unfolding of_steps
part6 = refl

part7 : part_of (seen (restored after6) (happen (next 19 20 21 (vote_of_liar round6))))
    ≡ shows (core_twice round7) after7
unfolding of_steps
part7 = refl

part8 : part_of (seen (restored after7) (happen pruning)) ≡ shows (round1.core ∷ []) left
unfolding of_runs
part8 = refl

-- ---- all of it

-- with the liar's frames as they are
abbrev played_later : List Happening
played_later = later_with (vote_of_liar round4) (vote_of_liar round5) (vote_of_liar round6)

vote4_is : vote_frame liar fourth ≡ vote_of_liar round4
unfolding of_runs
vote4_is = refl

vote5_is : vote_frame liar fifth ≡ vote_of_liar round5
unfolding of_runs
vote5_is = refl

vote6_is : vote_frame liar sixth ≡ vote_of_liar round6
unfolding of_runs
vote6_is = refl

later_is : later ≡ played_later
later_is =
    ap (λ (f : Frame). later_with f (vote_frame liar fifth) (vote_frame liar sixth)) vote4_is
    ∙ (ap (λ (f : Frame). later_with (vote_of_liar round4) f (vote_frame liar sixth)) vote5_is
    ∙ ap (λ (f : Frame). later_with (vote_of_liar round4) (vote_of_liar round5) f) vote6_is)

abbrev whole : List Happening
whole = played ++ played_later

as_whole : schedule ≡ whole
as_whole = ap (λ (hs : List Happening). hs ++ later) as_played ∙ ap (λ (hs : List Happening). played ++ hs) later_is

abbrev cores8 : List Core
cores8 = round1.core ∷ []

abbrev cores7 : List Core
cores7 = core_twice round7 ++ cores8

abbrev cores6 : List Core
cores6 = core_twice round6 ++ cores7

abbrev cores5 : List Core
cores5 = core_twice round5 ++ cores6

abbrev from_round6 : List Happening
from_round6 = amply (next 19 20 21 (vote_of_liar round6)) (amply pruning [])

abbrev from_round5 : List Happening
from_round5 = amply (next 16 17 18 (vote_of_liar round5)) from_round6

sees8 : seen (restored after7) (amply pruning []) ≡ ends left cores8
sees8 = goes_on left after7 left pruning [] cores8 [] refl part8 refl

sees7 : seen (restored after6) from_round6 ≡ ends left cores7
sees7 =
    goes_on left after6 after7 (next 19 20 21 (vote_of_liar round6)) (amply pruning []) (core_twice round7) cores8 refl
    part7 sees8

sees6 : seen (restored after5) from_round5 ≡ ends left cores6
sees6 =
    goes_on left after5 after6 (next 16 17 18 (vote_of_liar round5)) from_round6 (core_twice round6) cores7 refl part6
    sees7

sees5 : seen (restored accepted) played_later ≡ ends left cores5
sees5 =
    goes_on left accepted after5 (next 11 13 15 (vote_of_liar round4)) from_round5 (core_twice round5) cores6 refl part5
    sees6

-- what is seen of all of it
sees_all : seen start whole ≡ ends left (cores1 ++ cores5)
sees_all =
    seen-append played played_later start
    ∙ (ap (λ (s : Seen). then_see (part_of s) (seen (after start played) played_later)) sees
    ∙ (ap (λ (w : World). then_see (part_of (ends accepted cores1)) (seen w played_later))
    (sym (seen-last played start) ∙ ap (λ (s : Seen). s.last) sees)
    ∙ ap (then_see (part_of (ends accepted cores1))) sees5))

-- the cores of its blocks
abbrev blocks : List Core
blocks =
    round1.core ∷ round2.core ∷ round3.core ∷ round4.core ∷ round5.core ∷ round6.core ∷ round7.core ∷ []

found : Facts
found = record {
  taken = true;
  honest = true;
  brought = cores1 ++ cores5;
  sent = blocks;
  receipts = accepted.receipts;
}

computed : facts (seen start whole) ≡ found
unfolding found
computed = ap facts sees_all

pub taken : run start schedule ≡ Ok waiting
unfolding found
taken = subst (λ (hs : List Happening). run start hs ≡ Ok (after start hs)) (sym as_whole)
    (taken-whole start whole found computed refl)

-- the world at the end
pub at_end : waiting ≡ restored left
at_end = ap (after start) as_whole ∙ (sym (seen-last whole start) ∙ ap (λ (s : Seen). s.last) sees_all)

-- ---- the premises

read-both : (s : Sizes) (xs ys : List Happening) → AllRead s xs → AllRead s ys → AllRead s (xs ++ ys)
read-both s [] ys a b = b
read-both s (x ∷ xs) ys a b = (a.0, read-both s xs ys a.1 b)

abbrev cores : List Core
cores = genesis_core ∷ blocks

apart : all_differ cores ≡ true
unfolding of_steps
apart = refl

-- each came twice, and the first once more
one_of : (c : Core) → (c ≡ genesis_core) ⊎ (Among c found.sent ⊎ Among c found.brought) → Among c cores
unfolding found
one_of c (inl e) = inl e
one_of c (inr (inl m)) = inr m
one_of c (inr (inr m)) =
    elim (Among-either c (doubled blocks) cores8 m) [
      | inl k ↦ inr (once c blocks k)
      | inr (inl e) ↦ inr (inl e)
      | inr (inr n) ↦ absurd n
    ]

no_collision : NoCollision (CoreOfRun start whole)
no_collision a b ka kb h =
    none-collides cores a b apart (one_of a (cores-are start whole found computed a ka))
    (one_of b (cores-are start whole found computed b kb)) h

later_read : AllRead sizes later
later_read = (
  tt,
  (
    tt,
    (
      vote_read fourth,
      (
        tt,
        (
          tt,
          (
            tt,
            (
              tt,
              (
                tt,
                (
                  vote_read fifth,
                  (tt, (tt, (tt, (tt, (tt, (vote_read sixth, (tt, (tt, (tt, (tt, (tt, (tt, tt)))))))))))),
                ),
              ),
            ),
          ),
        ),
      ),
    ),
  ),
)

pub premises : PremisesHold
unfolding count_below new_world found
premises = record {
  few = omega arith;
  keys = λ p c. refl;
  read = read-both sizes run_with_liar later all_read later_read;
  no_forgery = subst (NoForgery start) (sym as_whole) (forges-nothing start whole found computed refl);
  no_collision = subst (λ (hs : List Happening). NoCollision (CoreOfRun start hs)) (sym as_whole) no_collision;
}
