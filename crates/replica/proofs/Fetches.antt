-- What a question for a block changes is what its step changes.
use Rattle.ids.specs.declared.fault.Fault.{Fault}
use Rattle.ids.specs.declared.fault.Fault.TheVariants as fault
use Rattle.std.proofs.Common.{ℕ, ◌≡◌, Bool, true, false, true≢false, List, [], ◌∷◌, map, find, cond, refl}
use Rattle.std.proofs.Common.{◌+◌, length, inl, inr, sym, ap, ◌∙◌, subst, Option, Some, None, Result, Err}
use Rattle.std.proofs.Common.{IfOk, OnErr}
use Rattle.std.specs.Prelude.{option_map, bytes_eq}
use Rattle.std.proofs.lemmas.Bool.{false_from_ne_true, le-leb}
use Rattle.std.proofs.lemmas.Slice.Eq.{bytes_eq-Decides}
use Rattle.definitions.specs.Bytes.{Bytes}
use Rattle.definitions.specs.Branches.{Branch, branch_eq}
use Rattle.definitions.specs.Digests.{digest_of}
use Rattle.definitions.specs.Keyrings.{Keys}
use Rattle.definitions.specs.Checks.{identity_of}
use Rattle.definitions.specs.Trees.{Stored, blocks, is_in_reach, standing, find_in}
use Rattle.definitions.specs.Lists.{Among}
use Rattle.ids.specs.Sizes.{Sizes}
use Rattle.definitions.specs.Chronicles.{Admitted, Step.noted, Note.got_fetch, Chronicle, taken_blocks}
use Rattle.definitions.specs.Chronicles.{stored_block, stored_blocks, horizon, standing_blocks, window}
use Rattle.definitions.specs.Chronicles.{IsLawful}
use Rattle.definitions.specs.States.{find_block, raised}
use Rattle.definitions.specs.Rulings.{Input.fetch_in, ruling, conflicts}
use Rattle.definitions.specs.Sendings.{as_taken, supplies, sendings}
use Rattle.definitions.proofs.Branches.{branch_eq-decides}
use Rattle.definitions.proofs.Sound.{ruling-sound}
use Rattle.definitions.proofs.Trees.{found-in}
use Rattle.definitions.proofs.Windows.{standing-cases}
use Rattle.definitions.proofs.Horizons.{taken-above}
use Rattle.block_tree.specs.Finding.{stored_in}
use Rattle.replica.specs.declared.change.Change.{Change}
use Rattle.replica.specs.declared.stored.GotFetch.{GotFetch}
use Rattle.replica.specs.Steps.{shown}
use Rattle.replica.specs.Kept.{Variables, StateParts, variables_of, IsStateOf}
use Rattle.replica.specs.Changes.{changed_variables, IsStep}
use Rattle.replica.specs.Fetches.{supplied, fetch_change}
use Rattle.replica.specs.StepsTo.{StepsTo, answer, after}
use Rattle.pacemaker.proofs.Reached.{paced-still}
use Rattle.replica.proofs.Steps.{collects, or-memory, decided}
use Rattle.replica.proofs.Stays.{variables-calm}

-- ---- the block that is asked for

-- a taken block of a branch that was found, if any
abbrev named : Option Branch → List Admitted → Option Admitted
named None xs = None
named (Some b) xs = find (λ a. branch_eq a.branch b) xs

find-first : (p : Admitted → Bool) (a : Admitted) (xs : List Admitted) → p a ≡ true → find p (a ∷ xs) ≡ Some a
find-first p a xs e = rw e refl

find-next : (p : Admitted → Bool) (a : Admitted) (xs : List Admitted) → p a ≡ false
    → find p (a ∷ xs) ≡ find p xs
find-next p a xs e = rw e refl

-- one of another digest isn't of this branch
not-same : (d : Bytes) (a b : Branch) → bytes_eq (digest_of a) d ≡ false → digest_of b ≡ d
    → branch_eq a b ≡ false
not-same d a b t e = false_from_ne_true (branch_eq a b)
    (λ h. true≢false
    (sym ((bytes_eq-Decides (digest_of a) d).1 (ap digest_of ((branch_eq-decides a b).0 h) ∙ e)) ∙ t))

-- it is the one of this digest, among those that stand
module _ (d : Bytes) (horizon : ℕ) where
  -- what is left of these
  abbrev left_of : List Admitted → List Stored
  left_of xs = standing horizon (map stored_block xs)

  -- one that stands no more isn't the block that was found
  differs : (a : Admitted) (xs : List Admitted) → (a.branch ≡ [] → ⊥)
      → is_in_reach horizon a.branch ≡ false → (b : Branch) → Among b (blocks (left_of xs))
      → branch_eq a.branch b ≡ false
  differs a xs some gone b m =
      false_from_ne_true (branch_eq a.branch b)
      (λ q. let same : a.branch ≡ b = (branch_eq-decides a.branch b).0 q in
      elim (standing-cases horizon (map stored_block xs) b m) [
        | inl genesis ↦ some (same ∙ genesis)
        | inr r ↦ true≢false
            (sym (le-leb horizon (length b + 2) r.1) ∙ ap (is_in_reach horizon) (sym same) ∙ gone)
      ])

  named-standing : (xs : List Admitted) → ((a : Admitted) → Among a xs → a.branch ≡ [] → ⊥)
      → option_map stored_block (named (find_in d (blocks (left_of xs))) xs) ≡ stored_in d (left_of xs)
  named-standing [] some = by (bytes_eq (digest_of []) d)
    where
      by : (t : Bool) → option_map stored_block (named (cond t (Some []) None) []) ≡ None
      by true = refl
      by false = refl
  named-standing (a ∷ xs) some =
      by (is_in_reach horizon a.branch) refl (named-standing xs (λ x m. some x (inr m)))
    where
      Rest : Type 0
      Rest = option_map stored_block (named (find_in d (blocks (left_of xs))) xs) ≡ stored_in d (left_of xs)

      next : (o : Option Branch) → bytes_eq (digest_of a.branch) d ≡ false
          → find_in d (blocks (left_of xs)) ≡ o
          → option_map stored_block (named o (a ∷ xs)) ≡ option_map stored_block (named o xs)
      next None t e = refl
      next (Some b) t e =
          ap (option_map stored_block) (find-next (λ (x : Admitted). branch_eq x.branch b) a xs
          (not-same d a.branch b t (found-in d (blocks (left_of xs)) b e).1))

      skip : (o : Option Branch) → is_in_reach horizon a.branch ≡ false → find_in d (blocks (left_of xs)) ≡ o
          → option_map stored_block (named o (a ∷ xs)) ≡ option_map stored_block (named o xs)
      skip None gone e = refl
      skip (Some b) gone e =
          ap (option_map stored_block) (find-next (λ (x : Admitted). branch_eq x.branch b) a xs
          (differs a xs (some a (inl refl)) gone b (found-in d (blocks (left_of xs)) b e).0))

      stands : (t : Bool) → bytes_eq (digest_of a.branch) d ≡ t → Rest
          → option_map stored_block
          (named (cond t (Some a.branch) (find_in d (blocks (left_of xs)))) (a ∷ xs))
          ≡ cond t (Some (stored_block a)) (stored_in d (left_of xs))
      stands true t rest =
          ap (option_map stored_block) (find-first (λ (x : Admitted). branch_eq x.branch a.branch) a
          xs ((branch_eq-decides a.branch a.branch).1 refl))
      stands false t rest = next (find_in d (blocks (left_of xs))) t refl ∙ rest

      by : (t : Bool) → is_in_reach horizon a.branch ≡ t → Rest
          → option_map stored_block
          (named (find_in d (blocks (cond t (stored_block a ∷ left_of xs) (left_of xs)))) (a ∷ xs))
          ≡ stored_in d (cond t (stored_block a ∷ left_of xs) (left_of xs))
      by true here rest = stands (bytes_eq (digest_of a.branch) d) refl rest
      by false gone rest = skip (find_in d (blocks (left_of xs))) gone refl ∙ rest

as-named : (o : Option Branch) (c : Chronicle) → as_taken o c ≡ named o (taken_blocks c)
as-named None c = refl
as-named (Some b) c = refl

taken-stored : (s : Sizes) (d : Bytes) (c : Chronicle) → IsLawful s c
    → option_map stored_block (as_taken (find_block d c) c) ≡ stored_in d (standing_blocks c)
unfolding find_block window standing_blocks stored_blocks
taken-stored s d c law =
    ap (option_map stored_block)
    (as-named (find_in d (blocks (standing (horizon c) (map stored_block (taken_blocks c))))) c)
    ∙ named-standing d (horizon c) (taken_blocks c) (taken-above s c law)

shown-supplied : (keys : Keys) (to : ℕ) (o : Option Admitted)
    → shown (supplies (identity_of keys) to o) ≡ supplied keys to (option_map stored_block o)
unfolding Rattle.definitions.specs.Sendings.block_frame
shown-supplied keys to None = refl
shown-supplied keys to (Some a) = refl

-- ---- the step

fetch-step : (keys : Keys) (c : Chronicle) (s : StateParts) (f : GotFetch) → IsStateOf keys c s
    → IsStep keys c (noted (got_fetch f.sender (find_block f.block c))) s.pace
    (fetch_change keys s.variables f)
unfolding sendings find_block window raised
fetch-step keys c s f o =
    let st = got_fetch f.sender (find_block f.block c) in
    record {
      variables =
          (λ i. changed_variables (fetch_change keys (o.same i) f) (variables_of keys c))
          ∙ sym (variables-calm keys st c refl refl refl refl);
      sizes = o.sizes;
      pace = paced-still (noted st) c s.pace tt o.pace;
      out =
          ap (λ (v : Variables). supplied keys f.sender (stored_in f.block v.stored)) o.same
          ∙ ap (supplied keys f.sender) (sym (taken-stored keys.sizes f.block c o.sound.lawful))
          ∙ sym (shown-supplied keys f.sender (as_taken (find_block f.block c) c));
    }

pub fetch-decided :
    (keys : Keys) (c : Chronicle) (s : StateParts) (f : GotFetch) (result : Result Change Fault)
    → IfOk result (λ d. d ≡ fetch_change keys s.variables f) → OnErr result (result ≡ Err fault.Memory)
    → IsStateOf keys c s
    → StepsTo keys (fetch_in f.sender f.block) c (answer result) (after result s)
unfolding ruling conflicts raised
fetch-decided keys c s f result made memory o =
    let st = noted (got_fetch f.sender (find_block f.block c)) in
    decided keys c st s result _ (ruling-sound (identity_of keys) (fetch_in f.sender f.block) c tt o.sound)
    refl refl o tt
    (λ d e. (
      subst (IsStep keys c st s.pace) (sym e) (fetch-step keys c s f o),
      ap (λ (x : Change). collects x.growth) e,
    )) (or-memory result _ made memory)
