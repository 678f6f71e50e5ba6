-- Where all fronts are whole and no cores collide, the judged are a lawful family: their turns are an order
-- of their steps.
use Rattle.std.proofs.Common.{ℕ, suc, ◌≡◌, ◌≤◌, true, false, List, [], ◌∷◌, length, refl, sym}
use Rattle.std.proofs.Common.{ap, subst, ◌∙◌, arith, inl, inr, Option, Some, None, true≢false}
use Rattle.std.proofs.lemmas.List.{length-map}
use Rattle.std.specs.Str.{bytes_eq}
use Rattle.std.proofs.lemmas.Bool.{cond-true, cond-false, cases_Bool, eqb-true, eq-eqb, and_parts}
use lib.Dec.{eqb}
use lib.Pointwise.{bytes_decides}
use Rattle.ids.specs.Sizes.{Sizes, replicas, quorum}
use Rattle.definitions.specs.Bytes.{Bytes}
use Rattle.definitions.specs.Lists.{beginning, Among, count_below}
use Rattle.definitions.specs.Frames.{Core, genesis_core}
use Rattle.definitions.specs.Branches.{Branch, just1}
use Rattle.definitions.specs.Digests.{digest, StandsFor, NoCollision}
use Rattle.definitions.specs.Chronicles.{Admitted, Step, Step.took_block, Step.noted, Chronicle, voted_blocks}
use Rattle.definitions.specs.Chronicles.{taken_blocks, HasTaken}
use Rattle.definitions.specs.Agreement.{Order, steps_of, IsBacked, IsOrdered, IsOrderly}
use Rattle.definitions.specs.Audit.{Cut, Turns, steps_in, Judged, is_judged, chronicle_of, gives_vote}
use Rattle.definitions.specs.Audit.{counted_by, counted_for, takes, sent_by, sent_block, step_after}
use Rattle.definitions.specs.Audit.{has_vote, has_taken, is_backed, may_move}
use Rattle.definitions.specs.Audit.{AreAllowed, AreFronts}
use Rattle.definitions.proofs.Lists.{beginning-whole}
use Rattle.definitions.proofs.Counts.{count-listed}
use Rattle.definitions.proofs.Chronicles.{voted-grows, taken-grows}
use Rattle.audit_ground.specs.Law.{KnownTo, IsNamed, AreJudged, NoneUnbacked, judged_family, numbers}
use Rattle.audit_ground.specs.Law.{BackedChroniclesAreOrderly}
use Rattle.definitions.proofs.Lists.{any-found}
use Rattle.audit_ground.proofs.Lists.{Among-beginning, beginning-none, beginning-next, extend}
use Rattle.audit_ground.proofs.Lists.{step_after-among}
use Rattle.audit_ground.proofs.Members.{number-judged, each_judged-passes}
use Rattle.audit_ground.proofs.Fronts.{is_backed_if, may_move-is, fronts-exist, whole-or-unbacked}
use Rattle.audit_ground.proofs.Known.{stands_for-one, known-genesis, judged-lawful, judged-named}

-- ---- the order of turns

-- an order with one more step of u, if there is one
abbrev order_with : ℕ → Option Step → Order → Order
order_with u None earlier = earlier
order_with u (Some x) earlier = (u, x) ∷ earlier

-- the steps that turns make
abbrev pub order_of : (ℕ → Chronicle) → Turns → Order
order_of chronicle [] = []
order_of chronicle (u ∷ earlier) =
    order_with u (step_after (steps_in earlier u) (chronicle u)) (order_of chronicle earlier)

-- a step of u is one of its own
order_with-own : (u i : ℕ) (o : Option Step) (earlier : Order) → u ≡ i
    → steps_of i (order_with u o earlier) ≡ extend o (steps_of i earlier)
unfolding steps_of
order_with-own u i None earlier e = refl
order_with-own u i (Some x) earlier e = cond-true _ _ _ (eq-eqb u i e)

-- and of no other
order_with-other : (u i : ℕ) (o : Option Step) (earlier : Order) → eqb u i ≡ false
    → steps_of i (order_with u o earlier) ≡ steps_of i earlier
unfolding steps_of
order_with-other u i None earlier e = refl
order_with-other u i (Some x) earlier e = cond-false _ _ _ e

-- turns make the beginning of each chronicle that they count
pub order_of-steps : (chronicle : ℕ → Chronicle) (turns : Turns) (i : ℕ)
    → steps_of i (order_of chronicle turns) ≡ beginning (steps_in turns i) (chronicle i)
unfolding steps_of steps_in
order_of-steps chronicle [] i = sym (beginning-none (chronicle i))
order_of-steps chronicle (u ∷ earlier) i =
    let next : Option Step = step_after (steps_in earlier u) (chronicle u) in
    elim (cases_Bool (eqb u i)) [
      | inl t ↦
          let e : u ≡ i = eqb-true u i t in
          order_with-own u i next (order_of chronicle earlier) e
          ∙ (ap (extend next) (order_of-steps chronicle earlier i)
          ∙ (subst (λ (j : ℕ). extend (step_after (steps_in earlier j) (chronicle j))
          (beginning (steps_in earlier i) (chronicle i))
          ≡ beginning (suc (steps_in earlier i)) (chronicle i)) (sym e)
          (beginning-next (steps_in earlier i) (chronicle i))
          ∙ ap (λ (j : ℕ). beginning j (chronicle i))
          (sym (cond-true (eqb u i) (suc (steps_in earlier i)) (steps_in earlier i) t))))
      | inr f ↦
          order_with-other u i next (order_of chronicle earlier) f
          ∙ (order_of-steps chronicle earlier i
          ∙ ap (λ (j : ℕ). beginning j (chronicle i))
          (sym (cond-false (eqb u i) (suc (steps_in earlier i)) (steps_in earlier i) f)))
    ]

-- ---- votes

-- what gives a vote took the block, and voted for it
given-vote : (d : Bytes) (s : Step) → gives_vote d s ≡ true
    → (a : Admitted) × (s ≡ took_block a) × (a.voted ≡ true) × (digest a.core ≡ d)
unfolding gives_vote
given-vote d (took_block a) h =
    let p =
    and_parts a.voted (bytes_eq (digest a.core) d) h in
    (a, refl, p.0, (bytes_decides (digest a.core) d).0 p.1)
given-vote d (noted n) h = absurd (true≢false (sym h))

-- a block that was taken with a vote was voted for
voted-taken : (a : Admitted) → a.voted ≡ true → (c : Chronicle) → Among (took_block a) c
    → Among a.branch (voted_blocks c)
unfolding voted_blocks
voted-taken a v [] m = absurd m
voted-taken a v (s ∷ c) (inl e) =
    subst (λ (x : Step). Among a.branch (voted_blocks (x ∷ c))) e
    (subst (λ (l : List Branch). Among a.branch l)
    (sym (cond-true a.voted (a.branch ∷ voted_blocks c) (voted_blocks c) v)) (inl refl))
voted-taken a v (s ∷ c) (inr m) = voted-grows s c a.branch (voted-taken a v c m)

-- what takes a block of this digest takes it as a new one
given-take : (d : Bytes) (s : Step) → takes d s ≡ true
    → (a : Admitted) × (s ≡ took_block a) × (a.new ≡ true) × (digest a.core ≡ d)
unfolding takes
given-take d (took_block a) h =
    let p = and_parts a.new (bytes_eq (digest a.core) d) h in
    (a, refl, p.0, (bytes_decides (digest a.core) d).0 p.1)
given-take d (noted n) h = absurd (true≢false (sym h))

-- a block that a step takes as a new one is among those taken
took-taken : (a : Admitted) → a.new ≡ true → (c : Chronicle) → Among (took_block a) c → Among a (taken_blocks c)
unfolding taken_blocks
took-taken a n [] m = absurd m
took-taken a n (s ∷ c) (inl e) =
    subst (λ (x : Step). Among a (taken_blocks (x ∷ c))) e
    (subst (λ (l : List Admitted). Among a l)
    (sym (cond-true a.new (a ∷ taken_blocks c) (taken_blocks c) n)) (inl refl))
took-taken a n (s ∷ c) (inr m) = taken-grows s c a (took-taken a n c m)

-- a judged replica's vote that a backed step counts stands in the cut
backed-has_vote : (ks : Judged) (k : Cut) (a : Admitted) → is_backed ks k (took_block a) ≡ true
    → a.new ≡ true → (v : ℕ) → Among v a.counted → is_judged ks v ≡ true
    → has_vote ks k a.certificate.digest v ≡ true
unfolding is_backed counted_by counted_for
backed-has_vote ks k a h new v m t =
    each_judged-passes ks (has_vote ks k a.certificate.digest) (counted_by (took_block a)) (and_parts _ _ h).0 v
    (subst (λ (l : List ℕ). Among v l) (sym (cond-true a.new a.counted [] new)) m) t

-- and a judged sender of its block took it there
backed-has_taken : (ks : Judged) (k : Cut) (a : Admitted) → is_backed ks k (took_block a) ≡ true
    → a.new ≡ true → (v : ℕ) → Among v a.senders → is_judged ks v ≡ true
    → has_taken ks k (digest a.core) v ≡ true
unfolding is_backed sent_by sent_block
backed-has_taken ks k a h new v m t =
    each_judged-passes ks (has_taken ks k (digest a.core)) (sent_by (took_block a)) (and_parts _ _ h).1 v
    (subst (λ (l : List ℕ). Among v l) (sym (cond-true a.new a.senders [] new)) m) t

-- from here on: no known cores collide, and the digests of the judged stand for their branches
module _ (Known : Core → Type 0) (apart : NoCollision Known) (genesis : Known genesis_core) (ks : Judged)
    (named : (i : ℕ) (a : Admitted) → Among (took_block a) (chronicle_of ks i) → IsNamed Known a) where
  -- a vote for a digest is one for the branch that it stands for
  vote-stands : (k : Cut) (v : ℕ) (d : Bytes) (x : Branch) → StandsFor Known d x → has_vote ks k d v ≡ true
      → Among x (voted_blocks (beginning (k v) (chronicle_of ks v)))
  unfolding has_vote
  vote-stands k v d x stands h =
      let some = any-found (gives_vote d) (beginning (k v) (chronicle_of ks v)) h in
      let given = given-vote d some.0 some.2 in
      let m : Among (took_block given.0) (beginning (k v) (chronicle_of ks v)) =
      subst (λ (s : Step). Among s (beginning (k v) (chronicle_of ks v))) given.1 some.1 in
      let n = named v given.0 (Among-beginning (k v) (chronicle_of ks v) (took_block given.0) m) in
      let same : given.0.branch ≡ x =
      stands_for-one Known apart genesis d given.0.branch x
      (subst (λ (e : Bytes). StandsFor Known e given.0.branch) given.3 n.block) stands in
      subst (λ (y : Branch). Among y (voted_blocks (beginning (k v) (chronicle_of ks v)))) same
      (voted-taken given.0 given.2 (beginning (k v) (chronicle_of ks v)) m)

  -- so is the taking of a digest
  take-stands : (k : Cut) (v : ℕ) (d : Bytes) (x : Branch) → StandsFor Known d x → has_taken ks k d v ≡ true
      → HasTaken x (beginning (k v) (chronicle_of ks v))
  unfolding has_taken
  take-stands k v d x stands h =
      let some = any-found (takes d) (beginning (k v) (chronicle_of ks v)) h in
      let given = given-take d some.0 some.2 in
      let m : Among (took_block given.0) (beginning (k v) (chronicle_of ks v)) =
      subst (λ (s : Step). Among s (beginning (k v) (chronicle_of ks v))) given.1 some.1 in
      let n = named v given.0 (Among-beginning (k v) (chronicle_of ks v) (took_block given.0) m) in (
        given.0,
        took-taken given.0 given.2 (beginning (k v) (chronicle_of ks v)) m,
        stands_for-one Known apart genesis d given.0.branch x
            (subst (λ (e : Bytes). StandsFor Known e given.0.branch) given.3 n.block) stands,
      )

  -- a step that is backed by digests is backed by branches
  backed-step : (k : Cut) (u : ℕ) (earlier : Order)
      → ((i : ℕ) → steps_of i earlier ≡ beginning (k i) (chronicle_of ks i)) → (s : Step)
      → Among s (chronicle_of ks u) → is_backed ks k s ≡ true → IsBacked (is_judged ks) s earlier
  backed-step k u earlier same (took_block a) m h = λ new v t. (
    λ among. subst (λ (c : Chronicle). Among (just1 a.branch) (voted_blocks c)) (sym (same v))
        (vote-stands k v a.certificate.digest (just1 a.branch) (named u a m).justified
        (backed-has_vote ks k a h new v among t)),
    λ among. subst (HasTaken a.branch) (sym (same v))
        (take-stands k v (digest a.core) a.branch (named u a m).block
        (backed-has_taken ks k a h new v among t)),
  )
  backed-step k u earlier same (noted n) m h = tt

  -- an order with one more step that is backed
  ordered-step : (k : Cut) (u : ℕ) (earlier : Order)
      → ((i : ℕ) → steps_of i earlier ≡ beginning (k i) (chronicle_of ks i))
      → IsOrdered (is_judged ks) earlier
      → (o : Option Step) → step_after (k u) (chronicle_of ks u) ≡ o → is_backed_if ks k o ≡ true
      → IsOrdered (is_judged ks) (order_with u o earlier)
  unfolding is_backed_if
  ordered-step k u earlier same rest None e h = rest
  ordered-step k u earlier same rest (Some s) e h =
      (backed-step k u earlier same s (step_after-among (k u) (chronicle_of ks u) s e) h, rest)

  -- the order of allowed turns is one in which each step is backed
  pub order_of-ordered : (turns : Turns) → AreAllowed (may_move ks) turns
      → IsOrdered (is_judged ks) (order_of (chronicle_of ks) turns)
  order_of-ordered [] a = tt
  order_of-ordered (u ∷ earlier) a =
      ordered-step (steps_in earlier) u (order_of (chronicle_of ks) earlier)
      (order_of-steps (chronicle_of ks) earlier) (order_of-ordered earlier a.1)
      (step_after (steps_in earlier u) (chronicle_of ks u)) refl
      (sym (may_move-is ks (steps_in earlier) u) ∙ a.0)

-- ---- the family

-- a quorum of replicas are judged
judged-enough : (sizes : Sizes) (ks : Judged) → AreJudged sizes ks
    → quorum sizes ≤ count_below (replicas sizes) (is_judged ks)
judged-enough sizes ks j =
    let n = count-listed (replicas sizes) (is_judged ks) (numbers ks) j.distinct j.below (number-judged ks) in
    let e : length (numbers ks) ≡ length ks = length-map ks (λ m. m.number) in
    let l : quorum sizes ≤ length ks = j.enough in
    omega (arith, n, e, l)

-- where the fronts are whole, the steps of the judged stand in the order of the turns to them
whole-orderly : (sizes : Sizes) (ks : Judged) → AreJudged sizes ks → NoCollision (KnownTo ks) → (k : Cut)
    → AreFronts ks k → ((u : ℕ) → k u ≡ length (chronicle_of ks u)) → IsOrderly (judged_family sizes ks)
whole-orderly sizes ks j apart k f whole = record {
  order = order_of (chronicle_of ks) f.turns;
  whole =
      λ i t. order_of-steps (chronicle_of ks) f.turns i
      ∙ (ap (λ (n : ℕ). beginning n (chronicle_of ks i)) (f.reached i ∙ whole i)
      ∙ beginning-whole (chronicle_of ks i));
  ordered = order_of-ordered (KnownTo ks) apart (known-genesis ks) ks (judged-named sizes ks j apart)
      f.turns f.allowed;
}

-- where no vote is unbacked, the fronts are whole
fronts-whole : (ks : Judged) → NoneUnbacked ks → (k : Cut) → AreFronts ks k → (u : ℕ)
    → k u ≡ length (chronicle_of ks u)
fronts-whole ks none k f =
    elim (whole-or-unbacked ks k f) [
      | inl whole ↦ whole
      | inr (inl r) ↦ absurd (none.votes r.0 r.1 r.2 r.3)
      | inr (inr r) ↦ absurd (none.takes r.0 r.1 r.2 r.3)
    ]

-- the law of this name
pub backed-chronicles_are_orderly : BackedChroniclesAreOrderly
backed-chronicles_are_orderly sizes ks j apart none =
    let f = fronts-exist ks in
    record {
      enough = judged-enough sizes ks j;
      lawful = judged-lawful sizes ks j apart;
      orderly = whole-orderly sizes ks j apart f.0 f.1 (fronts-whole ks none f.0 f.1);
    }
