-- Three of four replicas take and vote for four blocks, each on the one before, and decide the first.
use Rattle.std.proofs.Common.{ℕ, zero, suc, ◌≡◌, ◌<◌, ◌≤◌, Bool, true, List, [], ◌∷◌, length, refl}
use Rattle.std.proofs.Common.{sym, ap, subst, arith, inl, inr, nat_lt, ltb-true}
use Rattle.definitions.specs.Digests.{core_of}
use Rattle.std.specs.List.{AllByRecursion}
use Rattle.definitions.specs.Lists.{beginning, Among, AreDistinct, greatest, count_below}
use Rattle.definitions.specs.Branches.{Branch, justify_height, just1, just2, just3, Extends, highest}
use Rattle.ids.specs.Sizes.{Sizes}
use Rattle.definitions.specs.Chronicles.{Admitted, Step, Step.took_block, Chronicle, voted_blocks}
use Rattle.definitions.specs.Chronicles.{taken_blocks, tree, HasGrounds, HasGrounds.by_genesis}
use Rattle.definitions.specs.Chronicles.{HasGrounds.by_votes}
use Rattle.definitions.specs.Chronicles.{vheight, lock, decides, decided_by, decided, IsLawful, stored_blocks}
use Rattle.definitions.specs.Agreement.{Order, steps_of, IsOrdered}
use Rattle.definitions.proofs.Lists.{beginning-append}
use Rattle.definitions.proofs.Branches.{extends-cases, length-extends}
use Rattle.definitions.proofs.Orders.{order-grows}
use Rattle.agreement.specs.Law.{SomeDecision}

abbrev sizes : Sizes
sizes = record { faults = 1; clients = 0; most_keys = 65536 }

abbrev is_member : ℕ → Bool
is_member i = nat_lt i 3

abbrev three : List ℕ
three = 0 ∷ 1 ∷ 2 ∷ []

-- a block that justifies the one below it
abbrev on : Branch → Branch
on parent = record { commands = []; justify = length parent } ∷ parent

abbrev took : Branch → List ℕ → Admitted
took b voters = record {
  branch = b;
  core = core_of b;
  certificate = record { digest = []; votes = [] };
  counted = voters;
  senders = [];
  clear = true;
  new = true;
  voted = true;
}

abbrev does : Branch → List ℕ → Step
does b voters = took_block (took b voters)

just1-on : (parent : Branch) → just1 (on parent) ≡ parent
unfolding just1 justify_height
just1-on parent = beginning-append (record { commands = []; justify = length parent } ∷ []) parent

-- of what such a block extends, only itself is higher than what it justifies
only-itself : (parent x : Branch) → Extends (on parent) x → length (just1 (on parent)) < length x
    → on parent ≡ x
only-itself parent x e h =
    elim (extends-cases _ parent x e) [
      | inl i ↦ sym i
      | inr k ↦ absurd (
          omega (arith, h, length-extends parent x k, ap (λ (z : Branch). length z) (just1-on parent)))
    ]

-- what is lower does not stand among
lower-apart : (b : Branch) (xs : List Branch) → AllByRecursion (λ x. length x < length b) xs → Among b xs → ⊥
lower-apart b [] h m = m
lower-apart b (x ∷ xs) h (inl e) = absurd (omega (arith, h.0, ap (λ (z : Branch). length z) e))
lower-apart b (x ∷ xs) h (inr m) = lower-apart b xs h.1 m

-- what it takes for a vote on such a block to be lawful
record MayDo (parent : Branch) (voters : List ℕ) (c : Chronicle) : Type 0 where
  higher : vheight c < suc (length parent)
  safe : Extends (on parent) (lock c)
  lower : AllByRecursion (λ x. length x < suc (length parent)) (tree c)
  stands : Among parent (tree c)
  certified : HasGrounds sizes parent voters [] c

does-lawful : (parent : Branch) (voters : List ℕ) (c : Chronicle) → MayDo parent voters c → IsLawful sizes c
    → IsLawful sizes (does (on parent) voters ∷ c)
unfolding tree stored_blocks taken_blocks
does-lawful parent voters c h l = (
  (
    λ v. record {
      higher = h.higher;
      safe = inl h.safe;
      clear = λ x e k. (took (on parent) voters, inl refl, only-itself parent x e k, refl);
      taken = inl refl;
    },
    λ n. record {
      new = lower-apart (on parent) (tree c) h.lower;
      parent = (record { commands = []; justify = length parent }, parent, refl, omega arith, h.stands);
      certified = subst (λ (b : Branch). HasGrounds sizes b voters [] c) (sym (just1-on parent)) h.certified;
    },
  ),
  l,
)

abbrev block1 : Branch
block1 = on []

abbrev block2 : Branch
block2 = on block1

abbrev block3 : Branch
block3 = on block2

abbrev history1 : Chronicle
history1 = does block1 [] ∷ []

abbrev history2 : Chronicle
history2 = does block2 three ∷ history1

abbrev history3 : Chronicle
history3 = does block3 three ∷ history2

abbrev history4 : Chronicle
history4 = does (on block3) three ∷ history3

three-quorum : AreDistinct three × AllByRecursion (λ v. v < 4) three × (3 ≤ length three)
three-quorum = (
  (
    λ m. elim m [
      | inl e ↦ absurd (omega (arith, e))
      | inr k ↦ elim k [ inl e ↦ absurd (omega (arith, e)) | inr n ↦ n ]
    ],
    (λ m. elim m [ inl e ↦ absurd (omega (arith, e)) | inr n ↦ n ], (λ n. n, tt)),
  ),
  (omega arith, (omega arith, (omega arith, tt))),
  omega arith,
)

lawful1 : IsLawful sizes history1
unfolding vheight voted_blocks greatest lock taken_blocks highest tree stored_blocks
lawful1 = does-lawful [] [] [] (record {
  higher = omega arith;
  safe = (block1, refl);
  lower = (omega arith, tt);
  stands = inl refl;
  certified = by_genesis refl;
}) tt

lawful2 : IsLawful sizes history2
unfolding vheight voted_blocks greatest lock taken_blocks highest tree stored_blocks just2 just1
    justify_height beginning
lawful2 = does-lawful block1 three history1 (record {
  higher = omega arith;
  safe = (block2, refl);
  lower = (omega arith, (omega arith, tt));
  stands = inl refl;
  certified = by_votes three-quorum;
}) lawful1

lawful3 : IsLawful sizes history3
unfolding vheight voted_blocks greatest lock taken_blocks highest tree stored_blocks just2 just1
    justify_height beginning
lawful3 = does-lawful block2 three history2 (record {
  higher = omega arith;
  safe = (block3, refl);
  lower = (omega arith, (omega arith, (omega arith, tt)));
  stands = inl refl;
  certified = by_votes three-quorum;
}) lawful2

-- the lock is block1 by now
lawful4 : IsLawful sizes history4
unfolding vheight voted_blocks greatest lock taken_blocks highest tree stored_blocks just2 just1
    justify_height beginning
lawful4 = does-lawful block3 three history3 (record {
  higher = omega arith;
  safe = (
    record { commands = []; justify = 3 } ∷ record { commands = []; justify = 2 }
        ∷ record { commands = []; justify = 1 } ∷ [],
    refl,
  );
  lower = (omega arith, (omega arith, (omega arith, (omega arith, tt))));
  stands = inl refl;
  certified = by_votes three-quorum;
}) lawful3

-- the members make one step each
abbrev round : Step → Order → Order
round st o = (2, st) ∷ (1, st) ∷ (0, st) ∷ o

-- where each voter that a step counts voted before, the members may make it in a round
round-ordered : (a : Admitted) (o : Order)
    → ((v : ℕ) → Among v a.counted → Among (just1 a.branch) (voted_blocks (steps_of v o))) → a.senders ≡ []
    → IsOrdered is_member o
    → IsOrdered is_member (round (took_block a) o)
round-ordered a o votes sent h = (
  λ n v m. (
    λ k. order-grows 1 (took_block a) ((0, took_block a) ∷ o) v (just1 a.branch)
        (order-grows 0 (took_block a) o v (just1 a.branch) (votes v k)),
    λ k. none-sent v k,
  ),
  (
    λ n v m. (λ k. order-grows 0 (took_block a) o v (just1 a.branch) (votes v k), λ k. none-sent v k),
    (λ n v m. (λ k. votes v k, λ k. none-sent v k), h),
  ),
)
  where
    none-sent : {P : Type 0} (v : ℕ) → Among v a.senders → P
    none-sent v k = absurd (subst (Among v) sent k)

each-three : (P : ℕ → Type 0) → P 0 → P 1 → P 2 → (v : ℕ) → Among v three → P v
each-three P x y z v (inl e) = subst P (sym e) x
each-three P x y z v (inr (inl e)) = subst P (sym e) y
each-three P x y z v (inr (inr (inl e))) = subst P (sym e) z
each-three P x y z v (inr (inr (inr n))) = absurd n

abbrev order1 : Order
order1 = round (does block1 []) []

abbrev order2 : Order
order2 = round (does block2 three) order1

abbrev order3 : Order
order3 = round (does block3 three) order2

abbrev order4 : Order
order4 = round (does (on block3) three) order3

abbrev voted-on : Branch → Order → ℕ → Type 0
voted-on b o v = Among (just1 (on b)) (voted_blocks (steps_of v o))

order4-ordered : IsOrdered is_member order4
unfolding steps_of voted_blocks just1 justify_height beginning
order4-ordered =
    round-ordered (took (on block3) three) order3
    (each-three (voted-on block3 order3) (inl refl) (inl refl) (inl refl)) refl
    (round-ordered (took block3 three) order2
    (each-three (voted-on block2 order2) (inl refl) (inl refl) (inl refl)) refl
    (round-ordered (took block2 three) order1
    (each-three (voted-on block1 order1) (inl refl) (inl refl) (inl refl)) refl
    (round-ordered (took block1 []) [] (λ v k. absurd k) refl tt)))

whole : (i : ℕ) → is_member i ≡ true → steps_of i order4 ≡ history4
unfolding steps_of
whole zero m = refl
whole (suc zero) m = refl
whole (suc (suc zero)) m = refl
whole (suc (suc (suc i))) m = absurd (omega (arith, ltb-true (suc (suc (suc i))) 3 m))

-- members 0 to 2 of four replicas decide block1
pub some-decision : SomeDecision
unfolding count_below decided decided_by decides taken_blocks just3 just2 just1 justify_height beginning
some-decision = record {
  fam = record { sizes = sizes; is_member = is_member; chronicle = λ i. history4 };
  lawful = record {
    enough = omega arith;
    lawful = λ i m. lawful4;
    orderly = record { order = order4; whole = whole; ordered = order4-ordered };
  };
  four = refl;
  outsider = 3;
  is_replica = omega arith;
  no_member = refl;
  branch = block1;
  decided = (0, refl, inl refl);
  above = omega arith;
}
