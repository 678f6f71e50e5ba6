-- The world after a pruning, computed as far as healing asks.
use Rattle.std.proofs.Common.{◌≡◌, ◌∙◌, ◌++◌, ◌==◌, true, List, [], ◌∷◌, length, map, refl, sym, ap, subst, arith}
use Rattle.std.proofs.Common.{inr}
use Rattle.std.specs.Prelude.{nat_lt}
use Rattle.std.proofs.lemmas.Bool.{ltb-true}
use Rattle.ids.specs.Sizes.{AreSizes, client_party, replicas}
use Rattle.definitions.specs.Branches.{Branch}
use Rattle.definitions.specs.Careful.{AreCareful, is_careful, justifies_from}
use Rattle.definitions.specs.Chronicles.{window}
use Rattle.definitions.specs.Frames.{Frame}
use Rattle.definitions.specs.Frames as frame
use Rattle.definitions.specs.Lists.{IsBeginning}
use Rattle.definitions.specs.Replicas.{Standing.running}
use Rattle.definitions.specs.Sendings.{To.to_all, vote_frame, reply_to}
use Rattle.definitions.specs.Worlds.{World, new_world}
use Rattle.linear_law.proofs.Inputs.{all-among}
use Rattle.recovery.specs.Correct.{chronicle_of, correct_below, correct_with}
use Rattle.recovery.specs.Healing.{highest_locked, highest_voted}
use Rattle.recovery.specs.Inventions.{NothingForgedInvented, RunsAreHealed}
use Rattle.recovery.specs.NeverWedged.{IsAsked, MayHeal, PrunedWell, ground_of}
use Rattle.worked_examples.specs.AfterPruning.{schedule, waiting, OnePruned, PrunedMayHeal, IsHealed}
use Rattle.worked_examples.specs.Liar.{start}
use Rattle.worked_examples.specs.Runs.{sizes}
use Rattle.worked_examples.proofs.Computed.{of_steps}
use Rattle.worked_examples.proofs.Healed.{healed}
use Rattle.worked_examples.proofs.Invented.{IsOfFaulty, all_invented, of-faulty}
use Rattle.worked_examples.proofs.LiarWorlds.{round6}
use Rattle.worked_examples.proofs.PrunedRun.{command, left, taken, at_end, premises}
use Rattle.worked_examples.proofs.Ready.{Small, is_small, may-heal, of_four}
use Rattle.worked_examples.proofs.Snapshots.{restored}

abbrev world : World
world = restored left

pub one_pruned : OnePruned
unfolding of_steps
one_pruned = (
  taken,
  ap (λ (w : World). map length (window (w.replica 0).chronicle)) at_end ∙ by_0,
  ap (λ (w : World). map length (window (w.replica 2).chronicle)) at_end ∙ by_2,
)
  where
    by_0 : map length (window (world.replica 0).chronicle) ≡ 7 ∷ 6 ∷ 5 ∷ 4 ∷ 3 ∷ 2 ∷ 0 ∷ []
    by_0 = refl

    by_2 : map length (window (world.replica 2).chronicle) ≡ 1 ∷ 0 ∷ []
    by_2 = refl

four : replicas world.sizes ≡ 4
unfolding new_world
four = refl

-- ---- what was pruned

-- P holds of all beginnings of a list
abbrev OfBeginnings : {A : Type 0} → (List A → Type 0) → List A → Type 0
OfBeginnings P [] = P []
OfBeginnings P (x ∷ xs) = P (x ∷ xs) × OfBeginnings P xs

of_beginnings : {A : Type 0} (P : List A → Type 0) (g x : List A) → OfBeginnings P g → IsBeginning x g → P x
of_beginnings {A = A} P g x h (added, e) = by g h added e
  where
    whole : (l : List A) → OfBeginnings P l → P l
    whole [] h = h
    whole (y ∷ l) h = h.0

    by : (l : List A) → OfBeginnings P l → (added : List A) → added ++ x ≡ l → P x
    by l h [] e = subst P (sym e) (whole l h)
    by [] h (y ∷ more) e = absurd (apart e)
      where
        apart : y ∷ (more ++ x) ≡ [] → ⊥
        apart k = cc
    by (z ∷ l) h (y ∷ more) e = let t : more ++ x ≡ l = cc in by l h.1 more t

-- the leader's lock is justified by the sixth block
ground_is : ground_of world ≡ round6.branch
unfolding of_steps highest_locked correct_below
ground_is = refl

-- more than one correct replica has it, and all below it
kept_by : OfBeginnings (λ x. nat_lt 1 (correct_with world window x) ≡ true) round6.branch
unfolding of_steps
kept_by = (refl, (refl, (refl, (refl, (refl, (refl, refl))))))

well : PrunedWell world
unfolding of_steps is_careful justifies_from
well = record {
  careful = of_four world four (λ r. AreCareful (chronicle_of world r))
      ((λ e. refl), ((λ e. refl), ((λ e. refl), ((λ e. refl), ((λ e. refl), ((λ e. refl), ((λ e. refl), tt)))))))
      ((λ e. refl), ((λ e. refl), ((λ e. refl), ((λ e. refl), ((λ e. refl), ((λ e. refl), ((λ e. refl), tt))))))) ((λ e. refl), tt) tt;
  held = λ r c x e l. inr (ltb-true 1 (correct_with world window x)
      (of_beginnings (λ y. nat_lt 1 (correct_with world window y) ≡ true) round6.branch x kept_by
      (subst (λ (g : Branch). IsBeginning x g) ground_is e)));
}

-- ---- what healing asks

low : is_small world ≡ true
unfolding of_steps highest_locked highest_voted correct_below
low = refl

small : Small world
unfolding new_world
small = record {
  four = four;
  rings = refl;
  goes = of_four world four (λ r. (world.replica r).standing ≡ running) refl refl refl refl;
  few = low;
  kept = inr well;
}

asks : IsAsked world 25 0
unfolding new_world
asks = record {
  client_is = omega arith;
  correct = refl;
  waits = refl;
  sent = record { event = 47; sender = client_party 0; to = to_all; frame = frame.request command };
  command = command;
  recorded = refl;
  sender = refl;
  request = refl;
  seq = refl;
}

may : MayHeal waiting
may = subst MayHeal (sym at_end) (may-heal world small)

asked : IsAsked waiting 25 0
asked = subst (λ (w : World). IsAsked w 25 0) (sym at_end) asks

pub may_heal_it : PrunedMayHeal
may_heal_it = (subst PrunedWell (sym at_end) well, may, asked)

-- ---- what healing comes to

-- the liar invents votes of its own, and a reply
honest : NothingForgedInvented start schedule
unfolding new_world vote_frame reply_to
honest = of-faulty schedule start
    (λ f m. all-among (IsOfFaulty start.is_faulty) (all_invented schedule) f (refl, (refl, (refl, (tt, (refl, (refl, (refl, tt))))))) m)

are : AreSizes waiting.sizes
unfolding new_world
are = subst (λ (w : World). AreSizes w.sizes) (sym at_end) here
  where
    here : AreSizes world.sizes
    here = (omega arith, omega arith, omega arith, omega arith, (omega arith, omega arith))

second_of_it : (waiting.session 0).used ≡ 2
second_of_it = ap (λ (w : World). (w.session 0).used) at_end

pub is_healed : RunsAreHealed → IsHealed
is_healed = healed sizes (λ p. p == 3) schedule 25 2 waiting premises honest taken are may asked second_of_it
