-- The run that ends where a client waits in a wedged world, computed, and its premises.
use Rattle.std.proofs.Common.{◌≡◌, ◌⊎◌, true, List, [], ◌∷◌, refl, inl, inr, arith, length}
use Rattle.definitions.specs.Digests.{NoCollision, core_of}
use Rattle.definitions.specs.FrameLimits.{Spells}
use Rattle.definitions.specs.Frames.{Core, spelling, genesis_core}
use Rattle.definitions.specs.Lists.{Among, count_below}
use Rattle.definitions.specs.Premises.{CoreOfRun, AllRead}
use Rattle.definitions.specs.Worlds.{new_world}
use Rattle.definitions.proofs.Certificates.{IsDigest-digest_of}
use Rattle.worked_examples.specs.Healing.{half, half_vote, block2}
use Rattle.worked_examples.specs.Liar.{start}
use Rattle.worked_examples.specs.Runs.{sizes, block1}
use Rattle.worked_examples.specs.Waiting.{schedule, IsTakenWhole, PremisesHold}
use Rattle.worked_examples.proofs.Computed.{of_steps, of_runs}
use Rattle.worked_examples.proofs.Forgery.{Facts, facts, seen, taken-whole, forges-nothing, cores-are}
use Rattle.worked_examples.proofs.Forgery.{all_differ, none-collides}

abbrev core1 : Core
core1 = core_of block1

abbrev core2 : Core
core2 = core_of block2

-- what is told of the run
found : Facts
found = record {
  taken = true;
  honest = true;
  brought = core1 ∷ core1 ∷ core1 ∷ core2 ∷ core2 ∷ core2 ∷ [];
  sent = core1 ∷ core2 ∷ [];
  receipts = [];
}

computed : facts (seen start schedule) ≡ found
unfolding found of_runs
computed = refl

pub taken : IsTakenWhole
unfolding found
taken = taken-whole start schedule found computed refl

-- ---- its premises

-- half the vote has the length of a whole one
half_long : length half ≡ 128
unfolding of_steps
half_long = refl

half_read : Spells sizes (spelling half_vote) half_vote
half_read =
    ((IsDigest-digest_of block1, record { voter = omega arith; vector = half_long }), inr (tt, refl))

all_read : AllRead sizes schedule
all_read = (tt, (tt, (tt, (tt, (tt, (tt, (half_read, (tt, (tt, (tt, (tt, (tt, tt))))))))))))

-- genesis's core and those of the blocks
abbrev cores : List Core
cores = genesis_core ∷ core1 ∷ core2 ∷ []

apart : all_differ cores ≡ true
unfolding of_steps
apart = refl

one_of : (c : Core) → (c ≡ genesis_core) ⊎ (Among c found.sent ⊎ Among c found.brought) → Among c cores
unfolding found
one_of c (inl e) = inl e
one_of c (inr (inl m)) = inr m
one_of c (inr (inr m)) = inr (thrice m)
  where
    thrice : Among c found.brought → Among c found.sent
    thrice (inl e) = inl e
    thrice (inr (inl e)) = inl e
    thrice (inr (inr (inl e))) = inl e
    thrice (inr (inr (inr (inl e)))) = inr (inl e)
    thrice (inr (inr (inr (inr (inl e))))) = inr (inl e)
    thrice (inr (inr (inr (inr (inr (inl e)))))) = inr (inl e)
    thrice (inr (inr (inr (inr (inr (inr n)))))) = absurd n

no_collision : NoCollision (CoreOfRun start schedule)
no_collision a b ka kb h =
    none-collides cores a b apart (one_of a (cores-are start schedule found computed a ka))
    (one_of b (cores-are start schedule found computed b kb)) h

pub premises : PremisesHold
unfolding count_below new_world found
premises = record {
  few = omega arith;
  keys = λ p c. refl;
  read = all_read;
  no_forgery = forges-nothing start schedule found computed refl;
  no_collision = no_collision;
}
