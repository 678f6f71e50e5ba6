-- The run that a request wedges, computed: its premises, and what healing asks of its end.
use Rattle.std.specs.Prelude.{Ok}
use Rattle.std.proofs.Common.{◌==◌, ◌≡◌, ◌⊎◌, true, List, [], ◌∷◌, refl, sym, subst, inl, inr, arith, length}
use Rattle.ids.specs.Sizes.{AreSizes, client_party, replicas}
use Rattle.definitions.specs.Chronicles.{horizon}
use Rattle.definitions.specs.Digests.{NoCollision, core_of}
use Rattle.definitions.specs.FrameLimits.{Spells}
use Rattle.definitions.specs.Frames.{Core, spelling, genesis_core}
use Rattle.definitions.specs.Frames as frame
use Rattle.definitions.specs.Lists.{Among, count_below}
use Rattle.definitions.specs.Premises.{CoreOfRun}
use Rattle.definitions.specs.Replicas.{Standing.running}
use Rattle.definitions.specs.Runs.{run}
use Rattle.definitions.specs.Sendings.{To.to_all}
use Rattle.definitions.specs.Sessions.{request_frame}
use Rattle.definitions.specs.Worlds.{client_of, new_world}
use Rattle.recovery.specs.Correct.{chronicle_of, correct_below}
use Rattle.recovery.specs.Healing.{highest_locked, highest_voted}
use Rattle.recovery.specs.Inventions.{NothingForgedInvented, RunsAreHealed}
use Rattle.recovery.specs.NeverWedged.{IsAsked}
use Rattle.worked_examples.specs.HalfRequest.{sizes, start, half, unclear, schedule, waiting}
use Rattle.worked_examples.specs.HalfRequest.{OneVotes, PremisesHold, MayHealIt, IsHealed}
use Rattle.worked_examples.specs.Replicas.{payload, command}
use Rattle.worked_examples.proofs.Computed.{of_steps, of_runs}
use Rattle.worked_examples.proofs.Forgery.{Facts, facts, seen, taken-whole, forges-nothing, cores-are}
use Rattle.worked_examples.proofs.Forgery.{all_differ, none-collides}
use Rattle.worked_examples.proofs.Healed.{healed}
use Rattle.worked_examples.proofs.Invented.{IsOfFaulty, of-faulty}
use Rattle.worked_examples.proofs.Ready.{Small, is_small, may-heal, of_four}

-- ---- the run

abbrev core : Core
core = core_of unclear

found : Facts
found = record {
  taken = true;
  honest = true;
  brought = core ∷ core ∷ core ∷ core ∷ [];
  sent = core ∷ [];
  receipts = [];
}

computed : facts (seen start schedule) ≡ found
unfolding found of_runs
computed = refl

taken : run start schedule ≡ Ok waiting
unfolding found
taken = taken-whole start schedule found computed refl

pub one_votes : OneVotes
unfolding of_steps
one_votes = (taken, refl)

-- ---- its premises

half_long : length half.vector ≡ 128
unfolding of_steps
half_long = refl

half_read : Spells sizes (spelling (frame.request half)) (frame.request half)
half_read = (
  record { client = omega arith; seq = (omega arith, omega arith); payload = omega arith; vector = half_long },
  inr (tt, refl),
)

-- genesis's core and that of the block
abbrev cores : List Core
cores = genesis_core ∷ core ∷ []

apart : all_differ cores ≡ true
unfolding of_steps
apart = refl

one_of : (c : Core) → (c ≡ genesis_core) ⊎ (Among c found.sent ⊎ Among c found.brought) → Among c cores
unfolding found
one_of c (inl e) = inl e
one_of c (inr (inl m)) = inr m
one_of c (inr (inr (inl e))) = inr (inl e)
one_of c (inr (inr (inr (inl e)))) = inr (inl e)
one_of c (inr (inr (inr (inr (inl e))))) = inr (inl e)
one_of c (inr (inr (inr (inr (inr (inl e)))))) = inr (inl e)
one_of c (inr (inr (inr (inr (inr (inr n)))))) = absurd n

no_collision : NoCollision (CoreOfRun start schedule)
no_collision a b ka kb h =
    none-collides cores a b apart (one_of a (cores-are start schedule found computed a ka))
    (one_of b (cores-are start schedule found computed b kb)) h

pub premises : PremisesHold
unfolding count_below new_world found
premises = record {
  few = omega arith;
  keys = λ p c. refl;
  read = (half_read, (tt, (tt, (tt, (tt, (tt, (tt, tt)))))));
  no_forgery = forges-nothing start schedule found computed refl;
  no_collision = no_collision;
}

-- ---- what healing asks

four : replicas waiting.sizes ≡ 4
unfolding of_steps
four = refl

-- replicas' numbers, and those of healing
low : is_small waiting ≡ true
unfolding of_steps highest_locked highest_voted correct_below
low = refl

small : Small waiting
unfolding of_steps
small = record {
  four = four;
  rings = refl;
  goes = of_four waiting four (λ r. (waiting.replica r).standing ≡ running) refl refl refl refl;
  few = low;
  kept = inl (of_four waiting four (λ r. horizon (chronicle_of waiting r) ≡ 0) refl refl refl refl);
}

asks : IsAsked waiting 2 0
unfolding of_steps
asks = record {
  client_is = omega arith;
  correct = refl;
  waits = refl;
  sent = record {
    event = 7;
    sender = client_party 0;
    to = to_all;
    frame = request_frame (client_of start 0) 1 payload;
  };
  command = command;
  recorded = refl;
  sender = refl;
  request = refl;
  seq = refl;
}

pub may_heal_it : MayHealIt
may_heal_it = (may-heal waiting small, asks)

-- the sizes are right
are : AreSizes waiting.sizes
unfolding of_steps
are = (omega arith, omega arith, omega arith, omega arith, (omega arith, omega arith))

first_of_it : (waiting.session 0).used ≡ 1
unfolding of_steps
first_of_it = refl

-- the half request is the faulty client's own
honest : NothingForgedInvented start schedule
unfolding new_world
honest = of-faulty schedule start (λ f m. elim m [
  | inl e ↦ subst (IsOfFaulty start.is_faulty) (sym e) refl
  | inr n ↦ absurd n
])

-- so the law of healing says what it comes to
pub is_healed : RunsAreHealed → IsHealed
is_healed =
    healed sizes (λ p. p == client_party 1) schedule 2 1 waiting premises honest taken are (may-heal waiting small) asks
    first_of_it
