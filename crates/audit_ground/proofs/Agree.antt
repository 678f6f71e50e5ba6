-- Three replicas that live along one branch, and count one another's votes: none is unbacked.
use Rattle.std.proofs.Common.{ℕ, zero, suc, ◌≡◌, ◌<◌, true, List, [], ◌∷◌, length, refl, sym, ap, subst}
use Rattle.std.proofs.Common.{arith, inl, inr}
use Rattle.sha2.specs.Sha256.{sha256, digest_bytes, hash_after, compress, rounds, schedule, first_words}
use Rattle.definitions.specs.Lists.{beginning, greatest, Among}
use Rattle.definitions.specs.Frames.{genesis_core}
use Rattle.definitions.specs.Branches.{just1, just2, justify_height, highest, extends, branch_eq, block_eq}
use Rattle.definitions.specs.Branches.{command_eq}
use Rattle.definitions.specs.Digests.{digest, digest_of, core_of, core_over}
use Rattle.definitions.specs.Chronicles.{Chronicle, voted_blocks, taken_blocks, tree, vheight, lock}
use Rattle.definitions.specs.Chronicles.{stored_blocks}
use Rattle.definitions.specs.Trees.{is_clear, clear_above}
use Rattle.definitions.specs.Grounds.{are_distinct, are_replicas}
use Rattle.definitions.specs.Histories.{History}
use Rattle.definitions.specs.Replicas.{Standing.running, held_history}
use Rattle.definitions.specs.Audit.{Turns, steps_in, Member, Judged, is_judged, chronicle_of, gives_vote}
use Rattle.definitions.specs.Audit.{takes, sent_by, sent_block, has_taken}
use Rattle.definitions.specs.Audit.{counted_by, counted_for, step_after, has_vote, is_backed, may_move}
use Rattle.definitions.specs.Audit.{AreFronts}
use Rattle.audit_ground.specs.Law.{AreOfFour, NoneUnbacked, SomeAgreement}
use Rattle.audit_ground.proofs.Fronts.{fronts-short, whole-none_unbacked}
use Rattle.audit_ground.proofs.Examples.{sizes, Taking, life, judged_of, none-else, may_take, votes_well}
use Rattle.audit_ground.proofs.Examples.{lives_well, digests_apart, AreAmong, apart-from, along, cores}
use Rattle.audit_ground.proofs.Examples.{along-history, all_live_well, four-from, AreAllTurns, fronts-from}

-- who voted for each block above the first
abbrev voters : List ℕ
voters = 1 ∷ 2 ∷ 3 ∷ []

-- the life of each
abbrev shared : List Taking
shared = along 0 voters

-- the replicas, and how each lived
abbrev replicas : List (ℕ × List Taking)
replicas = (1, shared) ∷ (2, shared) ∷ (3, shared) ∷ []

-- they are judged
abbrev judged : Judged
judged = judged_of replicas

-- each lived lawfully
well : all_live_well replicas ≡ true
unfolding lives_well may_take votes_well vheight voted_blocks greatest lock highest just1 just2 justify_height
    beginning tree taken_blocks extends branch_eq block_eq command_eq clear_above stored_blocks is_clear are_replicas
    are_distinct
well = refl

-- three of four
of_four : AreOfFour sizes judged
unfolding are_replicas are_distinct
of_four = four-from replicas refl well

-- ---- its fronts

-- the steps in an order in which each counted vote comes first
abbrev turns : Turns
turns = 3 ∷ 2 ∷ 1 ∷ 3 ∷ 2 ∷ 1 ∷ 3 ∷ 2 ∷ 1 ∷ 3 ∷ 2 ∷ 1 ∷ []

-- these are all turns
all-turns : AreAllTurns judged turns
unfolding may_move is_backed has_vote step_after chronicle_of is_judged steps_in counted_by counted_for
    takes sent_by sent_block has_taken gives_vote beginning digest digest_of core_of core_over just1 justify_height sha256 digest_bytes
    hash_after compress rounds schedule first_words
all-turns = (
  (refl, (refl, (refl, (refl, (refl, (refl, (refl, (refl, (refl, (refl, (refl, (refl, tt)))))))))))),
  (refl, (refl, (refl, (refl, tt)))),
)

-- no steps stand for any other number
others-none : (u : ℕ) → chronicle_of judged (suc (suc (suc (suc u)))) ≡ []
others-none u = none-else judged 4 of_four.are_judged.below (suc (suc (suc (suc u)))) (omega arith)

-- so they lead to the fronts
fronts : AreFronts judged (steps_in turns)
fronts = fronts-from judged of_four turns all-turns

-- there are no turns of a replica that has no steps
whole-else : (u : ℕ) → chronicle_of judged u ≡ [] → steps_in turns u ≡ length (chronicle_of judged u)
whole-else u n =
    let low = fronts-short judged (steps_in turns) fronts u in
    let e = ap (λ (c : Chronicle). length c) n in
    omega (arith, low, e)

-- the turns make all steps
whole : (u : ℕ) → steps_in turns u ≡ length (chronicle_of judged u)
unfolding steps_in chronicle_of
whole zero = refl
whole (suc zero) = refl
whole (suc (suc zero)) = refl
whole (suc (suc (suc zero))) = refl
whole (suc (suc (suc (suc u)))) = whole-else (suc (suc (suc (suc u)))) (others-none u)

-- no vote is unbacked
backed : NoneUnbacked judged
backed = whole-none_unbacked judged (steps_in turns) fronts whole

-- ---- no collisions

-- no two of the cores have one digest
cores-apart : digests_apart (genesis_core ∷ cores 0) ≡ true
unfolding digests_apart digest digest_of core_of core_over sha256 digest_bytes hash_after compress rounds
    schedule first_words
cores-apart = refl

-- its cores are the listed ones
shared-among : AreAmong (genesis_core ∷ cores 0) shared
shared-among = (
  inr (inl refl),
  (inr (inr (inl refl)), (inr (inr (inr (inl refl))), (inr (inr (inr (inr (inl refl)))), tt))),
)

-- a member that lived so executed the command
executed-by : (number : ℕ) (m : Member)
    → m ≡ record { number = number; replica = record { chronicle = life shared; standing = running } }
    → 0 < length (held_history m.replica)
executed-by number m e = subst (λ (x : Member). 0 < length (held_history x.replica)) (sym e)
    (subst (λ (h : History). 0 < length h) (sym (along-history 0 voters)) (omega arith))

-- each executed the command
executed-one : (m : Member) → Among m judged → 0 < length (held_history m.replica)
executed-one m n =
    elim n [
      | inl e ↦ executed-by 1 m e
      | inr n ↦ elim n
          [ inl e ↦ executed-by 2 m e | inr n ↦ elim n [ inl e ↦ executed-by 3 m e | inr n ↦ absurd n ] ]
    ]

-- the law of this name
pub some-agreement : SomeAgreement
some-agreement = record {
  sizes = sizes;
  judged = judged;
  of_four = of_four;
  apart = apart-from (cores 0) cores-apart replicas (shared-among, (shared-among, (shared-among, tt)));
  backed = backed;
  executed = executed-one;
}
