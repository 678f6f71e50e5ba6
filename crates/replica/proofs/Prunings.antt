-- What a pruning changes is what its step changes.
use Rattle.std.proofs.Common.{ℕ, ◌≡◌, ◌∷◌, length, refl, sym, ap, subst, Ok}
use Rattle.std.specs.Prelude.{option_map}
use Rattle.ids.specs.declared.limits.TheConstants.{MOST_BLOCKS}
use Rattle.definitions.specs.Keyrings.{Keys}
use Rattle.definitions.specs.Checks.{identity_of}
use Rattle.definitions.specs.Chronicles.{Step.noted, Note.pruned, Chronicle}
use Rattle.definitions.specs.States.{Justified, raised}
use Rattle.definitions.specs.Rulings.{Input.prune_in, ruling, conflicts}
use Rattle.definitions.specs.Sendings.{sendings}
use Rattle.definitions.proofs.Sound.{ruling-sound}
use Rattle.definitions.proofs.Horizons.{window-pruned}
use Rattle.pacemaker.proofs.Reached.{paced-still}
use Rattle.replica_rules.specs.Ruled.{ref_of}
use Rattle.replica_rules.proofs.Takes.{ruled-noted}
use Rattle.replica.specs.declared.change.Change.{Change}
use Rattle.replica.specs.Kept.{StateParts, high_of, own_of, variables_of, IsStateOf}
use Rattle.replica.specs.Changes.{IsStep}
use Rattle.replica.specs.Prunings.{prune_change}
use Rattle.replica.specs.StepsTo.{StepsTo, answer, after}
use Rattle.replica.proofs.Steps.{collects, decided, kept_at, where-kept}
use Rattle.replica.proofs.Stays.{qc-same, leaf-same, proposed-same}

module _ (keys : Keys) (c : Chronicle) (height : ℕ) where
  prune-step : (s : StateParts) → IsStateOf keys c (kept_at keys c s)
      → IsStep keys c (noted (pruned height)) (kept_at keys c s).pace
      (prune_change (variables_of keys c) height)
  unfolding sendings raised Rattle.definitions.specs.Chronicles.horizon
  prune-step s is =
      let st = noted (pruned height) in
      let high = qc-same keys.sizes st c refl refl in
      record {
        variables = λ i. record {
          chronicle = st ∷ c;
          most = MOST_BLOCKS;
          horizon = Rattle.definitions.specs.Chronicles.horizon (st ∷ c);
          stored = sym (window-pruned height c) i;
          rules = sym (ruled-noted (pruned height) c) i;
          high = high_of (sym high i);
          leaf = ref_of (sym (leaf-same (identity_of keys) st c refl (ap (λ (q : Justified). length q.block) high)) i);
          own = option_map own_of (sym (proposed-same (identity_of keys) st c refl) i);
        };
        sizes = is.sizes;
        pace = paced-still st c (kept_at keys c s).pace tt is.pace;
        out = refl;
      }

-- what leave to prune comes to
pub prune-decided : (keys : Keys) (c : Chronicle) (height : ℕ) (s : StateParts) → IsStateOf keys c s
    → StepsTo keys (prune_in height) c (answer (Ok (prune_change s.variables height)))
    (after (Ok (prune_change s.variables height)) s)
unfolding ruling conflicts raised
prune-decided keys c height s o = where-kept keys c s
    (λ x. StepsTo keys (prune_in height) c (answer (Ok (prune_change x.variables height)))
    (after (Ok (prune_change x.variables height)) x)) o
    (λ k. decided keys c (noted (pruned height)) (kept_at keys c s)
    (Ok (prune_change (variables_of keys c) height)) (λ d. d ≡ prune_change (variables_of keys c) height)
    (ruling-sound (identity_of keys) (prune_in height) c tt o.sound) refl refl k tt
    (λ d e. (
      subst (IsStep keys c (noted (pruned height)) (kept_at keys c s).pace) (sym e)
          (prune-step keys c height s k),
      ap (λ (x : Change). collects x.growth) e,
    )) refl)
