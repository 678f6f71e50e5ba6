-- What a beat changes is what its step changes.
use Rattle.ids.specs.declared.fault.Fault.{Fault}
use Rattle.ids.specs.declared.fault.Fault.TheVariants as fault
use Rattle.std.proofs.Common.{suc, ◌≡◌, ◌<◌, ◌^◌, ◌&&◌, Bool, true, false, [], ◌∷◌, length}
use Rattle.std.proofs.Common.{cond, refl, sym, ap, ◌∙◌, subst, arith, Option, Some, None, Result, Err}
use Rattle.std.proofs.Common.{IfOk, OnErr}
use Rattle.std.proofs.lemmas.Bool.{and_parts}
use Rattle.std.specs.Prelude.{option_map}
use Rattle.std.specs.Option.{option_or}
use Rattle.std.specs.List.{flat_map}
use Rattle.sha2.specs.Sha256.{sha256}
use Rattle.definitions.specs.Frames.{command_bytes, core_text}
use Rattle.definitions.specs.Branches.{Branch}
use Rattle.definitions.specs.Keyrings.{Keys}
use Rattle.definitions.specs.Checks.{Identity, identity_of}
use Rattle.definitions.specs.Digests.{digest_of}
use Rattle.definitions.specs.Chronicles.{Step.noted, Note.beat, Chronicle, IsSound}
use Rattle.definitions.specs.States.{Justified, view, qc_high, pending, leads, is_known, known_as, picks}
use Rattle.definitions.specs.States.{child}
use Rattle.definitions.specs.States.{leaf, proposed, or_else, made_with, raised}
use Rattle.definitions.specs.Rulings.{Input.beat_in, ruling, conflicts}
use Rattle.definitions.specs.Sendings.{sendings, proposes}
use Rattle.pacemaker.proofs.Reached.{paced-still}
use Rattle.replica_rules.specs.Ruled.{ref_of}
use Rattle.replica.specs.declared.change.Change.{Change}
use Rattle.replica.specs.Steps.{shown}
use Rattle.replica.specs.Kept.{Own, StateParts, own_of, variables_of, IsStateOf}
use Rattle.replica.specs.Changes.{IsStep}
use Rattle.replica.specs.Beats.{child_height, child_of, proposal_sent, made_by, leaf_with, last_sent}
use Rattle.replica.specs.Beats.{beat_change}
use Rattle.replica.specs.StepsTo.{StepsTo, answer, after}
use Rattle.replica.proofs.Steps.{collects, or-memory, decided, kept_at, where-kept}
use Rattle.definitions.proofs.Sound.{ruling-sound}
use Rattle.linear_law.proofs.Leaves.{leaf-low}
use Rattle.replica.proofs.Picks.{picks-known}

module _ (keys : Keys) (c : Chronicle) (kept : StateParts) (few : length c < 2 ^ 63)
    (is : IsStateOf keys c (kept_at keys c kept)) where
  abbrev self : Identity
  self = identity_of keys

  abbrev on : Branch
  on = leaf self c

  abbrev high : Justified
  high = qc_high keys.sizes c

  abbrev s : StateParts
  s = kept_at keys c kept

  -- its height is within 64 bits
  height-is : child_height (ref_of on) ≡ suc (length on)
  height-is = (let l = leaf-low self c is.sound in grind (arith, l, few))

  abbrev last : Option Justified
  last = proposed self c

  -- the block that is made
  abbrev new : Branch
  new = record { commands = picks c (known_as on c); justify = length high.block } ∷ on

  -- what is made becomes the last proposal and the leaf
  abbrev Becomes : Option Own → Option Branch → Type 0
  Becomes own x =
      (option_or own (option_map own_of last) ≡ option_map own_of (made_with x high.certificate last))
      × (leaf_with own (ref_of on) ≡ ref_of (or_else x on))

  made-is : Becomes (made_by keys s) (child self c on)
  unfolding child leads is_known Rattle.definitions.specs.States.find_block digest_of
      Rattle.definitions.specs.Chronicles.window Rattle.definitions.specs.Digests.digest
      Rattle.definitions.specs.Digests.core_of Rattle.definitions.specs.Digests.core_over
  made-is = by (leads self c && is_known (digest_of on) c) refl
    where
      by : (t : Bool) → (leads self c && is_known (digest_of on) c) ≡ t
          → Becomes (cond t (Some (child_of s)) None) (cond t (Some new) None)
      by true k =
          let took = picks-known keys c is.sound (and_parts (leads self c) (is_known (digest_of on) c) k).1 in
          let own : child_of s ≡ own_of (record { block = new; certificate = high.certificate }) =
          λ i. record {
            core = core_text (digest_of on) (height-is i) (length high.block) (length (took i))
                (flat_map command_bytes (took i));
            certificate = high.certificate;
          } in
          (λ i. Some (own i), λ i. record { digest = sha256 (own i).core; height = height-is i })
      by false k = (refl, refl)

  -- what is sent of the last proposal
  sent-is : (t : Bool) (p : Option Justified)
      → cond t (elim (option_map own_of p)
      [ Some o ↦ proposal_sent keys (view keys.sizes c) o ∷ [] | None ↦ [] ]) []
      ≡ shown (cond t (proposes self (view keys.sizes c) p) [])
  unfolding Rattle.definitions.specs.Sendings.proposal_frame
  sent-is true None = refl
  sent-is true (Some p) = refl
  sent-is false p = refl

  step-is : IsStep keys c (noted beat) s.pace (beat_change keys s)
  unfolding leaf proposed leads sendings qc_high raised Rattle.definitions.specs.Chronicles.standing_blocks
      Rattle.definitions.specs.Chronicles.horizon Rattle.definitions.specs.Chronicles.stored_blocks
      Rattle.definitions.specs.Chronicles.taken_blocks Rattle.definitions.specs.Chronicles.vheight
      Rattle.definitions.specs.Chronicles.voted_blocks Rattle.definitions.specs.Chronicles.lock
      Rattle.definitions.specs.Chronicles.executed Rattle.definitions.specs.Chronicles.decided
  step-is = record {
    variables = λ i. record (variables_of keys c)
        { chronicle = noted beat ∷ c; leaf = made-is.1 i; own = made-is.0 i };
    sizes = is.sizes;
    pace = paced-still (noted beat) c s.pace tt is.pace;
    out = ap (last_sent keys s) made-is.0
        ∙ sent-is (leads self c) (made_with (child self c on) high.certificate last);
  }

-- what a beat comes to, where fewer steps stand than fit any memory
pub beat-decided : (keys : Keys) (c : Chronicle) (s : StateParts) (result : Result Change Fault)
    → length c < 2 ^ 63 → IfOk result (λ d. d ≡ beat_change keys s)
    → OnErr result (result ≡ Err fault.Memory) → IsStateOf keys c s
    → StepsTo keys beat_in c (answer result) (after result s)
unfolding ruling conflicts raised
beat-decided keys c s result few made memory o = where-kept keys c s
    (λ x. IfOk result (λ d. d ≡ beat_change keys x) → StepsTo keys beat_in c (answer result) (after result x))
    o
    (λ k made. decided keys c (noted beat) (kept_at keys c s) result _
    (ruling-sound (identity_of keys) beat_in c tt o.sound) refl refl k tt
    (λ d e. (
      subst (IsStep keys c (noted beat) (kept_at keys c s).pace) (sym e) (step-is keys c s few k),
      ap (λ (x : Change). collects x.growth) e,
    )) (or-memory result _ made memory)) made
