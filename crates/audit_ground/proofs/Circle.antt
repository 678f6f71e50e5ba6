-- Votes that stand only behind one another, in a circle: three replicas, with fronts of 1, 2 and 3 steps.
use Rattle.std.proofs.Common.{ℕ, ◌≡◌, true, false, List, [], ◌∷◌, length, refl, sym, ap, ◌∙◌, inl, inr}
use Rattle.std.proofs.Common.{true≢false}
use Rattle.sha2.specs.Sha256.{sha256, digest_bytes, hash_after, compress, rounds, schedule, first_words}
use Rattle.std.specs.List.{list_any}
use Rattle.definitions.specs.Lists.{beginning, greatest}
use Rattle.definitions.specs.Frames.{Command}
use Rattle.definitions.specs.Branches.{Branch, just1, just2, justify_height, highest, extends, branch_eq}
use Rattle.definitions.specs.Branches.{block_eq, command_eq}
use Rattle.definitions.specs.Digests.{digest, digest_of, core_of, core_over}
use Rattle.definitions.specs.Chronicles.{Step.took_block, voted_blocks, taken_blocks, tree, vheight, lock}
use Rattle.definitions.specs.Chronicles.{stored_blocks}
use Rattle.definitions.specs.Trees.{is_clear, clear_above}
use Rattle.definitions.specs.Grounds.{are_distinct, are_replicas}
use Rattle.definitions.specs.Audit.{Turns, steps_in, Judged, is_judged, chronicle_of, gives_vote, counted_by}
use Rattle.definitions.specs.Audit.{takes, sent_by, sent_block, has_taken}
use Rattle.definitions.specs.Audit.{counted_for, step_after, has_vote, is_backed, may_move, AreFronts}
use Rattle.definitions.specs.Audit.{IsUnbacked}
use Rattle.audit_ground.specs.Law.{AreOfFour, SomeCircle}
use Rattle.audit_ground.proofs.Fronts.{fronts-one}
use Rattle.audit_ground.proofs.Examples.{sizes, command, admitted, Taking, judged_of, may_take, votes_well}
use Rattle.audit_ground.proofs.Examples.{lives_well, all_live_well, four-from, AreAllTurns, fronts-from}

-- a block on a branch
abbrev over : Branch → ℕ → List Command → Branch
over parent justify commands = record { commands = commands; justify = justify } ∷ parent

-- 1 counts the votes of these
abbrev first_voters : List ℕ
first_voters = 0 ∷ 2 ∷ 3 ∷ []

-- and 2 of these
abbrev second_voters : List ℕ
second_voters = 0 ∷ 1 ∷ 3 ∷ []

-- one of two blocks on genesis
abbrev a1 : Branch
a1 = over [] 0 []

-- on a1, and justifies it
abbrev a2 : Branch
a2 = over a1 1 []

-- the other one on genesis
abbrev c1 : Branch
c1 = over [] 0 (command 0 ∷ [])

-- on c1, and justifies genesis
abbrev c2 : Branch
c2 = over c1 0 []

-- on c2, and justifies it
abbrev c3 : Branch
c3 = over c2 2 []

-- 1 counts 2's vote for a1, and votes for c2 later
abbrev first : List Taking
first = (c2, [], true) ∷ (c1, [], false) ∷ (a2, first_voters, false) ∷ (a1, [], false) ∷ []

-- 2 counts 1's vote for c2, and votes for a1 later
abbrev second : List Taking
second = (a1, [], true) ∷ (c3, second_voters, false) ∷ (c2, [], false) ∷ (c1, [], false) ∷ []

-- 3 votes for both
abbrev third : List Taking
third = (c2, [], true) ∷ (c1, [], false) ∷ (a1, [], true) ∷ []

-- the replicas, and how each lived
abbrev replicas : List (ℕ × List Taking)
replicas = (1, first) ∷ (2, second) ∷ (3, third) ∷ []

-- they are judged
abbrev judged : Judged
judged = judged_of replicas

-- each lived lawfully
well : all_live_well replicas ≡ true
unfolding lives_well may_take votes_well vheight voted_blocks greatest lock highest just1 just2 justify_height
    beginning tree taken_blocks extends branch_eq block_eq command_eq clear_above stored_blocks is_clear are_replicas
    are_distinct
well = refl

-- three of four
of_four : AreOfFour sizes judged
unfolding are_replicas are_distinct
of_four = four-from replicas refl well

-- the steps in an order in which each counted vote comes first
abbrev turns : Turns
turns = 3 ∷ 3 ∷ 3 ∷ 2 ∷ 2 ∷ 1 ∷ []

-- these are all turns
all-turns : AreAllTurns judged turns
unfolding may_move is_backed has_vote step_after chronicle_of is_judged steps_in counted_by counted_for
    takes sent_by sent_block has_taken gives_vote beginning digest digest_of core_of core_over just1 justify_height sha256 digest_bytes
    hash_after compress rounds schedule first_words
all-turns = (
  (refl, (refl, (refl, (refl, (refl, (refl, tt)))))),
  (refl, (refl, (refl, (refl, tt)))),
)

-- so they lead to the fronts
fronts : AreFronts judged (steps_in turns)
fronts = fronts-from judged of_four turns all-turns

-- the fronts have 1, 2 and 3 steps
front-lengths : (steps_in turns 1 ≡ 1) × (steps_in turns 2 ≡ 2) × (steps_in turns 3 ≡ 3)
unfolding steps_in
front-lengths = (refl, refl, refl)

-- both votes were given
first-given : has_vote judged (λ i. length (chronicle_of judged i)) (digest_of a1) 2 ≡ true
unfolding has_vote chronicle_of gives_vote beginning digest digest_of core_of core_over just1 justify_height
    sha256 digest_bytes hash_after compress rounds schedule first_words
first-given = refl

-- 1's vote for c2
second-given : has_vote judged (λ i. length (chronicle_of judged i)) (digest_of c2) 1 ≡ true
unfolding has_vote chronicle_of gives_vote beginning digest digest_of core_of core_over just1 justify_height
    sha256 digest_bytes hash_after compress rounds schedule first_words
second-given = refl

-- receiver 1, voter 2
first-reason : IsUnbacked judged 1 2 (digest_of a1)
unfolding step_after chronicle_of is_judged has_vote steps_in counted_by counted_for gives_vote beginning
    digest digest_of core_of core_over just1 justify_height sha256 digest_bytes hash_after compress rounds
    schedule first_words
first-reason = record {
  fronts = steps_in turns;
  are_fronts = fronts;
  step = took_block (admitted a2 first_voters false);
  behind = refl;
  counted = inr (inl refl);
  digest = refl;
  judged = refl;
  missing = refl;
}

-- receiver 2, voter 1
second-reason : IsUnbacked judged 2 1 (digest_of c2)
unfolding step_after chronicle_of is_judged has_vote steps_in counted_by counted_for gives_vote beginning
    digest digest_of core_of core_over just1 justify_height sha256 digest_bytes hash_after compress rounds
    schedule first_words
second-reason = record {
  fronts = steps_in turns;
  are_fronts = fronts;
  step = took_block (admitted c3 second_voters false);
  behind = refl;
  counted = inr (inl refl);
  digest = refl;
  judged = refl;
  missing = refl;
}

-- receiver 1, voter 3: the vote stands
third-stands : list_any (gives_vote (digest_of a1)) (beginning (steps_in turns 3) (chronicle_of judged 3))
    ≡ true
unfolding chronicle_of steps_in gives_vote beginning digest digest_of core_of core_over just1 justify_height
    sha256 digest_bytes hash_after compress rounds schedule first_words
third-stands = refl

-- so it is not unbacked
no-reason : IsUnbacked judged 1 3 (digest_of a1) → ⊥
unfolding has_vote
no-reason r =
    let e : r.fronts 3 ≡ steps_in turns 3 =
    fronts-one judged r.fronts (steps_in turns) r.are_fronts fronts 3 in
    true≢false (sym third-stands
    ∙ (sym
    (ap (λ (k : ℕ). list_any (gives_vote (digest_of a1)) (beginning k (chronicle_of judged 3))) e)
    ∙ r.missing))

-- the law of this name
pub some-circle : SomeCircle
some-circle = record {
  sizes = sizes;
  judged = judged;
  of_four = of_four;
  fronts = steps_in turns;
  are_fronts = fronts;
  lengths = front-lengths;
  first = digest_of a1;
  second = digest_of c2;
  first_given = first-given;
  second_given = second-given;
  first_reason = first-reason;
  second_reason = second-reason;
  no_reason = no-reason;
}
