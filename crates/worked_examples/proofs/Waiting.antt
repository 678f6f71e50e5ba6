-- The world in which a client waits, computed as far as healing asks.
use Rattle.std.proofs.Common.{◌==◌, ◌≡◌, true, refl, sym, subst, arith, inl, inr}
use Rattle.ids.specs.Sizes.{AreSizes, client_party, replicas}
use Rattle.definitions.specs.Chronicles.{horizon}
use Rattle.definitions.specs.Replicas.{Standing.running}
use Rattle.definitions.specs.Sendings.{To.to_all}
use Rattle.definitions.specs.Sessions.{request_frame}
use Rattle.definitions.specs.Worlds.{client_of, new_world}
use Rattle.recovery.specs.Correct.{chronicle_of, correct_below}
use Rattle.recovery.specs.Healing.{highest_locked, highest_voted}
use Rattle.recovery.specs.Inventions.{NothingForgedInvented, RunsAreHealed}
use Rattle.recovery.specs.NeverWedged.{IsAsked}
use Rattle.worked_examples.specs.Liar.{start}
use Rattle.worked_examples.specs.Replicas.{payload, command}
use Rattle.worked_examples.specs.Runs.{sizes}
use Rattle.worked_examples.specs.Waiting.{schedule, waiting, WedgedMayHeal, IsHealed}
use Rattle.worked_examples.proofs.Computed.{of_steps}
use Rattle.worked_examples.proofs.WaitingRun.{taken, premises}
use Rattle.worked_examples.proofs.Healed.{healed}
use Rattle.worked_examples.proofs.Invented.{IsOfFaulty, of-faulty}
use Rattle.worked_examples.proofs.Ready.{Small, is_small, may-heal, of_four}

four : replicas waiting.sizes ≡ 4
unfolding of_steps
four = refl

-- replicas' numbers, and those of healing
low : is_small waiting ≡ true
unfolding of_steps highest_locked highest_voted correct_below
low = refl

small : Small waiting
unfolding of_steps
small = record {
  four = four;
  rings = refl;
  goes = of_four waiting four (λ r. (waiting.replica r).standing ≡ running) refl refl refl refl;
  few = low;
  kept = inl (of_four waiting four (λ r. horizon (chronicle_of waiting r) ≡ 0) refl refl refl refl);
}

asks : IsAsked waiting 6 0
unfolding of_steps
asks = record {
  client_is = omega arith;
  correct = refl;
  waits = refl;
  sent = record {
    event = 12;
    sender = client_party 0;
    to = to_all;
    frame = request_frame (client_of start 0) 1 payload;
  };
  command = command;
  recorded = refl;
  sender = refl;
  request = refl;
  seq = refl;
}

pub wedged_may_heal : WedgedMayHeal
wedged_may_heal = (may-heal waiting small, asks)

-- the sizes are right
are : AreSizes waiting.sizes
unfolding of_steps
are = (omega arith, omega arith, omega arith, omega arith, (omega arith, omega arith))

first_of_it : (waiting.session 0).used ≡ 1
unfolding of_steps
first_of_it = refl

-- the half vote is the faulty replica's own
honest : NothingForgedInvented start schedule
unfolding new_world
honest = of-faulty schedule start (λ f m. elim m [
  | inl e ↦ subst (IsOfFaulty start.is_faulty) (sym e) refl
  | inr n ↦ absurd n
])

-- so the law of healing says what it comes to
pub is_healed : RunsAreHealed → IsHealed
is_healed =
    healed sizes (λ p. p == 3) schedule 6 1 waiting premises honest taken are (may-heal waiting small) asks first_of_it
