-- The chain below a block that stands in a tree, and what it decides.
use Rattle.std.proofs.Common.{ℕ, ◌≡◌, ◌==◌, ◌&&◌, suc, not, Bool, true, false, List, length, cond}
use Rattle.std.proofs.Common.{if◌then◌else◌, refl, sym, ap, subst, ◌∙◌, Option, Some, None, option_map}
use Rattle.std.proofs.Common.{nat_lt}
use Rattle.std.proofs.lemmas.Bool.{eqb-true}
use Rattle.std.specs.Option.{option_and_then}
use Rattle.definitions.specs.Bytes.{Bytes}
use Rattle.definitions.specs.Lists.{Among}
use Rattle.definitions.specs.Branches.{Branch, just1, just2, just3, extends}
use Rattle.definitions.specs.Digests.{digest_of}
use Rattle.definitions.specs.Trees.{Stored, blocks, find_in, IsTree}
use Rattle.definitions.specs.Chronicles.{Chronicle, decides, decides_against, executed}
use Rattle.definitions.proofs.Branches.{just2-is, just3-is, justify_height-just1}
use Rattle.definitions.proofs.Trees.{found-in, found-itself}
use Rattle.definitions.proofs.Windows.{IsChainSeen}
use Rattle.block_tree.proofs.Steps.{and_none}
use Rattle.replica_rules.specs.declared.block_ref.BlockRef.{BlockRef}
use Rattle.replica_rules.specs.declared.chain.Chain.{Chain}
use Rattle.replica_rules.specs.Ruled.{ref_of}
use Rattle.replica_rules.specs.Chains.{justified_by, justified_in, third_in, chain_over, chain_in}
use Rattle.replica_rules.specs.Chains.{is_decisive, higher_of, conflict_in, decides_against_in}
use Rattle.replica_rules.specs.Chains.{executed_after, decided_with, decided_in}
use Rattle.replica_rules.proofs.Held.{Holds, executed-found, extends-found}

-- the same where the second block is the next one below the first, or isn't
abbrev chain_by : Branch → Bool → Chain
chain_by b t = record {
  first = ref_of (just1 b);
  second = ref_of (just2 b);
  third = if t then ref_of (just3 b) else ref_of (just2 b);
}

-- the chain below a block
abbrev pub chain_of : Branch → Chain
chain_of b = chain_by b (length (just1 b) == suc (length (just2 b)))

-- the last executed block after b was taken, where it doesn't decide against it
abbrev pub executed_with : Branch → Branch → Branch
executed_with e b = if decides b then (if nat_lt (length e) (length (just3 b)) then just3 b else e) else e

-- the third block is asked for only where the second is the next one below the first
third_found : (all : List Stored) (b : Branch)
    → (length (just1 b) ≡ suc (length (just2 b))
    → justified_in (digest_of (just2 b)) all ≡ Some (ref_of (just3 b)))
    → (t : Bool) → (length (just1 b) == suc (length (just2 b))) ≡ t
    → cond t (justified_in (digest_of (just2 b)) all) (Some (ref_of (just2 b))) ≡ Some (chain_by b t).third
third_found all b asked true e = asked (eqb-true (length (just1 b)) (suc (length (just2 b))) e)
third_found all b asked false e = refl

module _ (horizon : ℕ) (all : List Stored) (tr : IsTree horizon (blocks all)) where
  pub justified-found : (d : Bytes) (b : Branch) → find_in d (blocks all) ≡ Some b
      → justified_in d all ≡ Some (ref_of (just1 b))
  justified-found d b f =
      let height = justify_height-just1 b (tr.branches b (found-in d (blocks all) b f).0) in
      ap (option_map justified_by) f
      ∙ (λ i. Some (record { digest = digest_of (just1 b); height = sym height i }))

  -- of a block that stands there by its own digest
  justified_itself : (b : Branch) → Among b (blocks all)
      → justified_in (digest_of b) all ≡ Some (ref_of (just1 b))
  justified_itself b m = justified-found (digest_of b) b (found-itself horizon (blocks all) tr b m)

  pub chain-found : (b : Branch) → IsChainSeen (blocks all) b
      → chain_in (ref_of (just1 b)) all ≡ Some (chain_of b)
  chain-found b seen =
      let two : justified_in (digest_of (just1 b)) all ≡ Some (ref_of (just2 b)) =
      justified_itself (just1 b) seen.first ∙ ap (λ (x : Branch). Some (ref_of x)) (just2-is b) in
      let asked : third_in (length (just1 b)) (ref_of (just2 b)) all ≡ Some (chain_of b).third =
      third_found all b
      (λ e. justified_itself (just2 b) (seen.second e) ∙ ap (λ (x : Branch). Some (ref_of x)) (just3-is b))
      (length (just1 b) == suc (length (just2 b))) refl in
      ap (option_and_then (chain_over (ref_of (just1 b)) all)) two
      ∙ ap (option_map (λ (third : BlockRef).
      record { first = ref_of (just1 b); second = ref_of (just2 b); third = third }))
      asked

-- what hangs on a chain that decides is as it is where the third block was asked for
decided_by : {A : Type 0} (f : Bool → BlockRef → A) (b : Branch)
    → ((x y : BlockRef) → f false x ≡ f false y) → (t : Bool)
    → (length (just1 b) == suc (length (just2 b))) ≡ t
    → f (is_decisive (chain_by b t)) (chain_by b t).third ≡ f (decides b) (ref_of (just3 b))
unfolding decides
decided_by f b same true e = refl
decided_by f b same false e =
    let here : is_decisive (chain_by b false) ≡ false = and_none _ _ e in
    let none : ((length (just2 b) == suc (length (just3 b))) && (length (just1 b) == suc (length (just2 b))))
    ≡ false = and_none _ _ e in
    ap (λ (d : Bool). f d (ref_of (just2 b))) here
    ∙ (same (ref_of (just2 b)) (ref_of (just3 b)) ∙ ap (λ (d : Bool). f d (ref_of (just3 b))) (sym none))

pub decided-is : {A : Type 0} (f : Bool → BlockRef → A) (b : Branch)
    → ((x y : BlockRef) → f false x ≡ f false y)
    → f (is_decisive (chain_of b)) (chain_of b).third ≡ f (decides b) (ref_of (just3 b))
decided-is f b same = decided_by f b same (length (just1 b) == suc (length (just2 b))) refl

-- what the block of a digest decides
pub decided-found : (horizon : ℕ) (all : List Stored) (d : Bytes) (b : Branch) → IsTree horizon (blocks all)
    → find_in d (blocks all) ≡ Some b → IsChainSeen (blocks all) b
    → decided_in d all ≡ (if decides b then Some (digest_of (just3 b)) else None)
decided-found horizon all d b tr f seen =
    ap (option_and_then (λ (first : BlockRef). option_and_then decided_with (chain_in first all)))
    (justified-found horizon all tr d b f)
    ∙ ap (option_and_then decided_with) (chain-found horizon all tr b seen)
    ∙ decided-is (λ t x. cond t (Some x.digest) None) b (λ x y. refl)

-- what decides nothing conflicts with nothing
only_deciding : (t x y : Bool) → (t ≡ true → x ≡ y) → (t && x) ≡ (t && y)
only_deciding true x y f = f refl
only_deciding false x y f = refl

-- it decides against the last executed block where its branch does
pub against-found : (horizon : ℕ) (all : List Stored) (c : Chronicle) (b : Branch) → Holds horizon all c
    → IsChainSeen (blocks all) b
    → decides_against_in (ref_of (executed c)) (chain_of b) all ≡ decides_against (executed c) b
against-found horizon all c b h seen =
    decided-is (λ t x. t && conflict_in x.digest (digest_of (executed c)) (blocks all)) b (λ x y. refl)
    ∙ only_deciding (decides b) _ _ (λ d. conflicts (seen.third d))
  where
    last : find_in (digest_of (executed c)) (blocks all) ≡ Some (executed c)
    last = executed-found horizon all c h

    conflicts : Among (just3 b) (blocks all)
        → conflict_in (digest_of (just3 b)) (digest_of (executed c)) (blocks all)
        ≡ (not (extends (just3 b) (executed c)) && not (extends (executed c) (just3 b)))
    conflicts m =
        let third = found-itself horizon (blocks all) h.is_tree (just3 b) m in
        let up = extends-found (digest_of (just3 b)) (digest_of (executed c)) (blocks all) (just3 b)
        (executed c) third last in
        let down = extends-found (digest_of (executed c)) (digest_of (just3 b)) (blocks all) (executed c)
        (just3 b) last third in
        λ i. not (up i) && not (down i)

pub higher-ref : (x y : Branch) (t : Bool) → cond t (ref_of y) (ref_of x) ≡ ref_of (cond t y x)
higher-ref x y true = refl
higher-ref x y false = refl

executed_by : (e b : Branch) (t : Bool)
    → cond t (higher_of (ref_of e) (ref_of (just3 b))) (ref_of e)
    ≡ ref_of (cond t (cond (nat_lt (length e) (length (just3 b))) (just3 b) e) e)
executed_by e b true = higher-ref e (just3 b) (nat_lt (length e) (length (just3 b)))
executed_by e b false = refl

pub executed-after : (e b : Branch) → executed_after (ref_of e) (chain_of b) ≡ ref_of (executed_with e b)
executed-after e b =
    decided-is (λ t x. cond t (higher_of (ref_of e) x) (ref_of e)) b (λ x y. refl)
    ∙ executed_by e b (decides b)
