-- Two lives of a replica: 1 executed the first client's command, and 3 and the shown life of 2 the second's.
use Rattle.std.proofs.Common.{ℕ, ◌≡◌, true, List, [], ◌∷◌, ◌++◌, refl, sym, ap, ◌∙◌, arith, inl, inr}
use Rattle.sha2.specs.Sha256.{sha256, digest_bytes, hash_after, compress, rounds, schedule, first_words}
use Rattle.definitions.specs.Lists.{beginning, greatest}
use Rattle.definitions.specs.Frames.{Core, genesis_core}
use Rattle.definitions.specs.Branches.{just1, just2, justify_height, highest, extends, branch_eq, block_eq}
use Rattle.definitions.specs.Branches.{command_eq}
use Rattle.definitions.specs.Digests.{digest, digest_of, core_of, core_over}
use Rattle.definitions.specs.Chronicles.{Step.took_block, voted_blocks, taken_blocks, tree, vheight, lock}
use Rattle.definitions.specs.Chronicles.{stored_blocks}
use Rattle.definitions.specs.Trees.{is_clear, clear_above}
use Rattle.definitions.specs.Grounds.{are_distinct, are_replicas}
use Rattle.definitions.specs.Histories.{Entry, History}
use Rattle.definitions.specs.Replicas.{Replica, Standing.running}
use Rattle.definitions.specs.Audit.{Turns, steps_in, Judged, is_judged, chronicle_of, gives_vote, counted_by}
use Rattle.definitions.specs.Audit.{takes, sent_by, sent_block, has_taken}
use Rattle.definitions.specs.Audit.{counted_for, step_after, has_vote, is_backed, may_move, AreFronts}
use Rattle.definitions.specs.Audit.{IsUnbacked, HistoriesAgree}
use Rattle.audit_ground.specs.Law.{AreOfFour, SomeFork}
use Rattle.audit_ground.proofs.Examples.{sizes, admitted, Taking, life, judged_of, may_take, votes_well}
use Rattle.audit_ground.proofs.Examples.{lives_well, digests_apart, AreAmong, apart-from, branch, along}
use Rattle.audit_ground.proofs.Examples.{cores, entry, along-history, all_live_well, four-from, AreAllTurns}
use Rattle.audit_ground.proofs.Examples.{fronts-from}

-- who voted for the first client's branch
abbrev first_voters : List ℕ
first_voters = 0 ∷ 1 ∷ 2 ∷ []

-- and for the second client's
abbrev second_voters : List ℕ
second_voters = 0 ∷ 2 ∷ 3 ∷ []

-- along the first client's branch
abbrev first : List Taking
first = along 0 first_voters

-- along the second client's
abbrev second : List Taking
second = along 1 second_voters

-- the replicas, and how each lived
abbrev replicas : List (ℕ × List Taking)
replicas = (1, first) ∷ (3, second) ∷ (2, second) ∷ []

-- they are judged
abbrev judged : Judged
judged = judged_of replicas

-- each lived lawfully
well : all_live_well replicas ≡ true
unfolding lives_well may_take votes_well vheight voted_blocks greatest lock highest just1 just2 justify_height
    beginning tree taken_blocks extends branch_eq block_eq command_eq clear_above stored_blocks is_clear are_replicas
    are_distinct
well = refl

-- three of four
of_four : AreOfFour sizes judged
unfolding are_replicas are_distinct
of_four = four-from replicas refl well

-- ---- its fronts

-- the steps in an order in which each counted vote comes first
abbrev turns : Turns
turns = 3 ∷ 2 ∷ 3 ∷ 2 ∷ 3 ∷ 2 ∷ 3 ∷ 2 ∷ 1 ∷ []

-- these are all turns
all-turns : AreAllTurns judged turns
unfolding may_move is_backed has_vote step_after chronicle_of is_judged steps_in counted_by counted_for
    takes sent_by sent_block has_taken gives_vote beginning digest digest_of core_of core_over just1 justify_height sha256 digest_bytes
    hash_after compress rounds schedule first_words
all-turns = (
  (refl, (refl, (refl, (refl, (refl, (refl, (refl, (refl, (refl, tt))))))))),
  (refl, (refl, (refl, (refl, tt)))),
)

-- the front of 1 has its first step, and the others' are whole
fronts : AreFronts judged (steps_in turns)
fronts = fronts-from judged of_four turns all-turns

-- receiver 1, voter 2, the first block of the first client's branch
reason : IsUnbacked judged 1 2 (digest_of (branch 0 1))
unfolding step_after chronicle_of is_judged has_vote steps_in counted_by counted_for gives_vote beginning
    digest digest_of core_of core_over just1 justify_height sha256 digest_bytes hash_after compress rounds
    schedule first_words
reason = record {
  fronts = steps_in turns;
  are_fronts = fronts;
  step = took_block (admitted (branch 0 2) first_voters true);
  behind = refl;
  counted = inr (inr (inl refl));
  digest = refl;
  judged = refl;
  missing = refl;
}

-- ---- the histories

-- a replica that lived so
abbrev replica : List Taking → Replica
replica ts = record { chronicle = life ts; standing = running }

-- of two histories of one entry each, one begins the other only where these are of one client
same-client : (x y : Entry) (added : History) → added ++ (x ∷ []) ≡ y ∷ [] → x.client ≡ y.client
same-client x y [] e = cc
same-client x y (z ∷ []) e = absurd (longer e)
  where
    longer : z ∷ (x ∷ []) ≡ y ∷ [] → ⊥
    longer h = cc
same-client x y (z ∷ (w ∷ added)) e = absurd (longer e)
  where
    longer : z ∷ (w ∷ (added ++ (x ∷ []))) ≡ y ∷ [] → ⊥
    longer h = cc

-- the histories of 1 and 3 fork
differ : HistoriesAgree judged → ⊥
differ h =
    elim (h (record { number = 1; replica = replica first })
    (record { number = 3; replica = replica second }) (inl refl) (inr (inl refl))) [
      | inl b ↦
          (let e =
          same-client (entry 0) (entry 1) b.0 (ap (λ (x : History). b.0 ++ x)
          (sym (along-history 0 first_voters)) ∙ (b.1 ∙ along-history 1 second_voters)) in
          absurd (omega (arith, e)))
      | inr b ↦
          (let e =
          same-client (entry 1) (entry 0) b.0 (ap (λ (x : History). b.0 ++ x)
          (sym (along-history 1 second_voters)) ∙ (b.1 ∙ along-history 0 first_voters)) in
          absurd (omega (arith, e)))
    ]

-- ---- no collisions

-- the cores of both lives
abbrev all_cores : List Core
all_cores = cores 0 ++ cores 1

-- no two of them have one digest
cores-apart : digests_apart (genesis_core ∷ all_cores) ≡ true
unfolding digests_apart digest digest_of core_of core_over sha256 digest_bytes hash_after compress rounds
    schedule first_words
cores-apart = refl

-- the cores of the first life are listed
first-among : AreAmong (genesis_core ∷ all_cores) first
first-among = (
  inr (inl refl),
  (inr (inr (inl refl)), (inr (inr (inr (inl refl))), (inr (inr (inr (inr (inl refl)))), tt))),
)

-- and those of the second
second-among : AreAmong (genesis_core ∷ all_cores) second
second-among = (
  inr (inr (inr (inr (inr (inl refl))))),
  (
    inr (inr (inr (inr (inr (inr (inl refl)))))),
    (
      inr (inr (inr (inr (inr (inr (inr (inl refl))))))),
      (inr (inr (inr (inr (inr (inr (inr (inr (inl refl)))))))), tt),
    ),
  ),
)

-- the law of this name
pub some-fork : SomeFork
some-fork = record {
  sizes = sizes;
  judged = judged;
  of_four = of_four;
  apart = apart-from all_cores cores-apart replicas (first-among, (second-among, (second-among, tt)));
  differ = differ;
  receiver = 1;
  voter = 2;
  digest = digest_of (branch 0 1);
  reason = reason;
}
