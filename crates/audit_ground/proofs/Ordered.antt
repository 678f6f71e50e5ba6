-- Where the judged chronicles stand in one order, its steps are allowed turns: the fronts are whole, and no
-- vote is unbacked.
use Rattle.std.proofs.Common.{ℕ, suc, ◌≡◌, ◌⊎◌, Bool, true, false, [], ◌∷◌, length, cond, refl}
use Rattle.std.proofs.Common.{sym, ap, subst, ◌∙◌, arith, inl, inr, Some, ◌==◌}
use Rattle.std.specs.Str.{bytes_eq}
use Rattle.std.proofs.lemmas.Bool.{cond_both, cond-true, cond-false, cases_Bool, eqb-true, eq-eqb, and_from}
use lib.Dec.{eqb}
use lib.Pointwise.{bytes_decides}
use Rattle.definitions.specs.Bytes.{Bytes}
use Rattle.definitions.specs.Lists.{beginning, IsBeginning, Among}
use Rattle.definitions.specs.Frames.{Core}
use Rattle.definitions.specs.Branches.{Branch, just1}
use Rattle.definitions.specs.Digests.{digest, digest_of, StandsFor}
use Rattle.definitions.specs.Chronicles.{Admitted, Step, Step.took_block, Step.noted, Chronicle, voted_blocks}
use Rattle.definitions.specs.Chronicles.{HasTaken}
use Rattle.definitions.specs.Agreement.{Order, steps_of, IsBacked, IsOrdered}
use Rattle.definitions.specs.Audit.{Cut, Turns, steps_in, Judged, is_judged, chronicle_of, gives_vote}
use Rattle.definitions.specs.Audit.{counted_by, counted_for, takes, sent_by, sent_block, step_after}
use Rattle.definitions.specs.Audit.{has_vote, has_taken, is_backed, may_move}
use Rattle.definitions.specs.Audit.{AreAllowed, AreFronts}
use Rattle.definitions.proofs.Lists.{IsBeginning-beginning}
use Rattle.definitions.proofs.Digests.{stands_for-digest}
use Rattle.audit_ground.specs.Law.{KnownTo, IsNamed, OrderlyChroniclesAreBacked}
use Rattle.definitions.proofs.Lists.{any-from}
use Rattle.audit_ground.proofs.Lists.{Among-beginning, step_after-beginning}
use Rattle.audit_ground.proofs.Lists.{step_after-among}
use Rattle.definitions.proofs.Lists.{IsBeginning-trans}
use Rattle.audit_ground.proofs.Members.{unjudged-none, each_judged-from}
use Rattle.audit_ground.proofs.Stored.{taken-took}
use Rattle.audit_ground.proofs.Fronts.{is_backed_if, may_move-is, fronts-exist, fronts-short}
use Rattle.audit_ground.proofs.Fronts.{whole-none_unbacked}
use Rattle.audit_ground.proofs.Known.{judged-named}

-- ---- votes

-- a block that was taken with a vote for x
record IsTakenVote (x : Branch) (s : Step) : Type 0 where
  block : Admitted
  is_step : s ≡ took_block block
  voted : block.voted ≡ true
  branch : block.branch ≡ x

-- the newest step has the vote, or it is an earlier one
voted-now : (x : Branch) (s : Step) (c : Chronicle) → Among x (voted_blocks (s ∷ c))
    → IsTakenVote x s ⊎ Among x (voted_blocks c)
unfolding voted_blocks
voted-now x (took_block a) c m = by a.voted refl m
  where
    by : (t : Bool) → a.voted ≡ t → Among x (cond t (a.branch ∷ voted_blocks c) (voted_blocks c))
        → IsTakenVote x (took_block a) ⊎ Among x (voted_blocks c)
    by true v (inl e) = inl (record { block = a; is_step = refl; voted = v; branch = sym e })
    by true v (inr k) = inr k
    by false v k = inr k
voted-now x (noted n) c m = inr m

-- what was voted for was taken with a vote
voted-took : (x : Branch) (c : Chronicle) → Among x (voted_blocks c)
    → (a : Admitted) × Among (took_block a) c × (a.voted ≡ true) × (a.branch ≡ x)
unfolding voted_blocks
voted-took x [] m = absurd m
voted-took x (s ∷ c) m =
    elim (voted-now x s c m) [
      | inl v ↦ (v.block, inl (sym v.is_step), v.voted, v.branch)
      | inr k ↦ let r = voted-took x c k in (r.0, inr r.1, r.2, r.3)
    ]

-- a block that was taken with a vote gives one for its digest
took-gives_vote : (d : Bytes) (a : Admitted) → a.voted ≡ true → digest a.core ≡ d
    → gives_vote d (took_block a) ≡ true
unfolding gives_vote
took-gives_vote d a v e =
    and_from a.voted (bytes_eq (digest a.core) d) v ((bytes_decides (digest a.core) d).1 e)

-- a block that was taken as a new one takes its digest
took-takes : (d : Bytes) (a : Admitted) → a.new ≡ true → digest a.core ≡ d → takes d (took_block a) ≡ true
unfolding takes
took-takes d a n e = and_from a.new (bytes_eq (digest a.core) d) n ((bytes_decides (digest a.core) d).1 e)

-- ---- turns

-- u as one more turn, if it is judged
abbrev turn_with : Bool → ℕ → Turns → Turns
turn_with t u earlier = cond t (u ∷ earlier) earlier

-- the judged replicas' steps of an order, as turns
abbrev turns_of : (ℕ → Bool) → Order → Turns
turns_of is_member [] = []
turns_of is_member (p ∷ earlier) = turn_with (is_member p.0) p.0 (turns_of is_member earlier)

-- a turn of another replica counts for none
turn_with-other : (t : Bool) (u i : ℕ) (earlier : Turns) → eqb u i ≡ false
    → steps_in (turn_with t u earlier) i ≡ steps_in earlier i
unfolding steps_in
turn_with-other true u i earlier f = cond-false _ _ _ f
turn_with-other false u i earlier f = refl

-- each judged replica has as many turns as steps
turns_of-steps : (is_member : ℕ → Bool) (o : Order) (i : ℕ) → is_member i ≡ true
    → steps_in (turns_of is_member o) i ≡ length (steps_of i o)
unfolding steps_in steps_of
turns_of-steps is_member [] i j = refl
turns_of-steps is_member (p ∷ earlier) i j =
    elim (cases_Bool (eqb p.0 i)) [
      | inl t ↦
          let own : is_member p.0 ≡ true = ap is_member (eqb-true p.0 i t) ∙ j in
          ap (λ (l : Turns). steps_in l i)
          (cond-true (is_member p.0) (p.0 ∷ turns_of is_member earlier) (turns_of is_member earlier) own)
          ∙ (cond-true (eqb p.0 i) (suc (steps_in (turns_of is_member earlier) i))
          (steps_in (turns_of is_member earlier) i) t
          ∙ (ap suc (turns_of-steps is_member earlier i j)
          ∙ sym (ap length (cond-true (eqb p.0 i) (p.1 ∷ steps_of i earlier) (steps_of i earlier) t))))
      | inr f ↦
          turn_with-other (is_member p.0) p.0 i (turns_of is_member earlier) f
          ∙ (turns_of-steps is_member earlier i j
          ∙ sym (ap length (cond-false (eqb p.0 i) (p.1 ∷ steps_of i earlier) (steps_of i earlier) f)))
    ]

-- ---- an order of the judged

-- from here on: the digests of the judged stand for their branches
module _ (Known : Core → Type 0) (ks : Judged)
    (named : (i : ℕ) (a : Admitted) → Among (took_block a) (chronicle_of ks i) → IsNamed Known a) where
  -- a vote for a branch is one for each digest that stands for it
  voted-has_vote : (k : Cut) (v : ℕ) (d : Bytes) (x : Branch) → StandsFor Known d x
      → Among x (voted_blocks (beginning (k v) (chronicle_of ks v))) → has_vote ks k d v ≡ true
  unfolding has_vote
  voted-has_vote k v d x stands m =
      let r = voted-took x (beginning (k v) (chronicle_of ks v)) m in
      let n = named v r.0 (Among-beginning (k v) (chronicle_of ks v) (took_block r.0) r.1) in
      let same : digest r.0.core ≡ d =
      (stands_for-digest Known (digest r.0.core) r.0.branch n.block).0
      ∙ (ap digest_of r.3 ∙ sym (stands_for-digest Known d x stands).0) in
      any-from (gives_vote d) (beginning (k v) (chronicle_of ks v)) (took_block r.0) r.1
      (took-gives_vote d r.0 r.2 same)

  -- a branch that was taken was so by each digest that stands for it
  taken-has_taken : (k : Cut) (v : ℕ) (d : Bytes) (x : Branch) → StandsFor Known d x
      → HasTaken x (beginning (k v) (chronicle_of ks v)) → has_taken ks k d v ≡ true
  unfolding has_taken
  taken-has_taken k v d x stands m =
      let r = taken-took m.0 (beginning (k v) (chronicle_of ks v)) m.1 in
      let n = named v m.0 (Among-beginning (k v) (chronicle_of ks v) (took_block m.0) r.0) in
      let same : digest m.0.core ≡ d =
      (stands_for-digest Known (digest m.0.core) m.0.branch n.block).0
      ∙ (ap digest_of m.2 ∙ sym (stands_for-digest Known d x stands).0) in
      any-from (takes d) (beginning (k v) (chronicle_of ks v)) (took_block m.0) r.0
      (took-takes d m.0 r.1 same)

  -- the steps of each judged replica begin its chronicle
  abbrev AreBeginnings : Order → Type 0
  AreBeginnings o = (i : ℕ) → is_judged ks i ≡ true → IsBeginning (steps_of i o) (chronicle_of ks i)

  -- so do those before the newest step
  beginnings-earlier : (p : ℕ × Step) (earlier : Order) → AreBeginnings (p ∷ earlier) → AreBeginnings earlier
  unfolding steps_of
  beginnings-earlier p earlier b i j =
      cond_both (p.0 == i) (p.1 ∷ steps_of i earlier) (steps_of i earlier)
      (λ (c : Chronicle). IsBeginning c (chronicle_of ks i)
      → IsBeginning (steps_of i earlier) (chronicle_of ks i))
      (λ e h. IsBeginning-trans (steps_of i earlier) (p.1 ∷ steps_of i earlier) (chronicle_of ks i)
      (p.1 ∷ [], refl) h)
      (λ e h. h)
      (b i j)

  -- they are the beginnings that the turns count
  beginnings-are : (o : Order) → AreBeginnings o → (i : ℕ) → is_judged ks i ≡ true
      → steps_of i o ≡ beginning (steps_in (turns_of (is_judged ks) o) i) (chronicle_of ks i)
  beginnings-are o b i j =
      sym (IsBeginning-beginning (steps_of i o) (chronicle_of ks i) (b i j))
      ∙ ap (λ (n : ℕ). beginning n (chronicle_of ks i)) (sym (turns_of-steps (is_judged ks) o i j))

  -- a vote that a step counts stands in the cut, where the step is backed
  counted-has_vote : (k : Cut) (earlier : Order)
      → ((i : ℕ) → is_judged ks i ≡ true → steps_of i earlier ≡ beginning (k i) (chronicle_of ks i))
      → (a : Admitted) → IsNamed Known a → IsBacked (is_judged ks) (took_block a) earlier
      → (v : ℕ) → Among v (counted_by (took_block a)) → is_judged ks v ≡ true
      → has_vote ks k a.certificate.digest v ≡ true
  unfolding counted_by
  counted-has_vote k earlier same a n h v m j = by a.new refl m
    where
      by : (t : Bool) → a.new ≡ t → Among v (cond t a.counted [])
          → has_vote ks k a.certificate.digest v ≡ true
      by true new m = voted-has_vote k v a.certificate.digest (just1 a.branch) n.justified
          (subst (λ (c : Chronicle). Among (just1 a.branch) (voted_blocks c)) (same v j) ((h new v j).0 m))
      by false new m = absurd m

  -- so does the taking of a sender that it names
  sent-has_taken : (k : Cut) (earlier : Order)
      → ((i : ℕ) → is_judged ks i ≡ true → steps_of i earlier ≡ beginning (k i) (chronicle_of ks i))
      → (a : Admitted) → IsNamed Known a → IsBacked (is_judged ks) (took_block a) earlier
      → (v : ℕ) → Among v (sent_by (took_block a)) → is_judged ks v ≡ true
      → has_taken ks k (digest a.core) v ≡ true
  unfolding sent_by
  sent-has_taken k earlier same a n h v m j = by a.new refl m
    where
      by : (t : Bool) → a.new ≡ t → Among v (cond t a.senders []) → has_taken ks k (digest a.core) v ≡ true
      by true new m = taken-has_taken k v (digest a.core) a.branch n.block
          (subst (HasTaken a.branch) (same v j) ((h new v j).1 m))
      by false new m = absurd m

  -- a step that is backed by branches is backed by digests
  backed-by_digests : (k : Cut) (u : ℕ) (earlier : Order)
      → ((i : ℕ) → is_judged ks i ≡ true → steps_of i earlier ≡ beginning (k i) (chronicle_of ks i))
      → (s : Step) → Among s (chronicle_of ks u) → IsBacked (is_judged ks) s earlier
      → is_backed ks k s ≡ true
  unfolding is_backed counted_for sent_block counted_by sent_by
  backed-by_digests k u earlier same (took_block a) m h =
      and_from _ _
      (each_judged-from ks (has_vote ks k a.certificate.digest) (counted_by (took_block a))
      (λ v n j. counted-has_vote k earlier same a (named u a m) h v n j))
      (each_judged-from ks (has_taken ks k (digest a.core)) (sent_by (took_block a))
      (λ v n j. sent-has_taken k earlier same a (named u a m) h v n j))
  backed-by_digests k u earlier same (noted n) m h = refl

  -- a judged replica's next step in the order is its step after the cut
  next-step : (p : ℕ × Step) (earlier : Order) → AreBeginnings (p ∷ earlier) → is_judged ks p.0 ≡ true
      → step_after (steps_in (turns_of (is_judged ks) earlier) p.0) (chronicle_of ks p.0) ≡ Some p.1
  unfolding steps_of
  next-step p earlier b j =
      let whole : IsBeginning (p.1 ∷ steps_of p.0 earlier) (chronicle_of ks p.0) =
      subst (λ (c : Chronicle). IsBeginning c (chronicle_of ks p.0))
      (cond-true (p.0 == p.0) (p.1 ∷ steps_of p.0 earlier) (steps_of p.0 earlier) (eq-eqb p.0 p.0 refl))
      (b p.0 j) in
      ap (λ (n : ℕ). step_after n (chronicle_of ks p.0)) (turns_of-steps (is_judged ks) earlier p.0 j)
      ∙ step_after-beginning p.1 (steps_of p.0 earlier) (chronicle_of ks p.0) whole

  -- so it may move
  next-allowed : (p : ℕ × Step) (earlier : Order) → AreBeginnings (p ∷ earlier)
      → IsBacked (is_judged ks) p.1 earlier → is_judged ks p.0 ≡ true
      → may_move ks (steps_in (turns_of (is_judged ks) earlier)) p.0 ≡ true
  unfolding is_backed_if
  next-allowed p earlier b h j =
      let k : Cut = steps_in (turns_of (is_judged ks) earlier) in
      let next = next-step p earlier b j in
      may_move-is ks k p.0
      ∙ (ap (is_backed_if ks k) next
      ∙ backed-by_digests k p.0 earlier (beginnings-are earlier (beginnings-earlier p earlier b)) p.1
      (step_after-among (k p.0) (chronicle_of ks p.0) p.1 next) h)

  -- the turns of an order are allowed
  turns_of-allowed : (o : Order) → AreBeginnings o → IsOrdered (is_judged ks) o
      → AreAllowed (may_move ks) (turns_of (is_judged ks) o)
  turns_of-allowed [] b h = tt
  turns_of-allowed (p ∷ earlier) b h =
      one (is_judged ks p.0) (turns_of-allowed earlier (beginnings-earlier p earlier b) h.1)
      (next-allowed p earlier b h.0)
    where
      one : (t : Bool) → AreAllowed (may_move ks) (turns_of (is_judged ks) earlier)
          → (t ≡ true → may_move ks (steps_in (turns_of (is_judged ks) earlier)) p.0 ≡ true)
          → AreAllowed (may_move ks) (turn_with t p.0 (turns_of (is_judged ks) earlier))
      one true rest move = (move refl, rest)
      one false rest move = rest

  -- where the order has all steps, the fronts are whole
  order-whole : (o : Order) → ((i : ℕ) → is_judged ks i ≡ true → steps_of i o ≡ chronicle_of ks i)
      → IsOrdered (is_judged ks) o → (k : Cut) → AreFronts ks k → (u : ℕ) → k u ≡ length (chronicle_of ks u)
  order-whole o whole ordered k f u =
      let low = fronts-short ks k f u in
      elim (cases_Bool (is_judged ks u)) [
        | inl j ↦
            let begins : AreBeginnings o = λ i m. ([], whole i m) in
            let high = f.greatest (turns_of (is_judged ks) o) (turns_of-allowed o begins ordered) u in
            let e : steps_in (turns_of (is_judged ks) o) u ≡ length (chronicle_of ks u) =
            turns_of-steps (is_judged ks) o u j ∙ ap (λ (c : Chronicle). length c) (whole u j) in
            omega (arith, low, high, e)
        | inr n ↦ let e = ap (λ (c : Chronicle). length c) (unjudged-none ks u n) in omega (arith, low, e)
      ]

-- ---- a family with more members

-- a step that is backed in a family is backed in a smaller one
backed-fewer : (fewer more : ℕ → Bool) → ((i : ℕ) → fewer i ≡ true → more i ≡ true) → (s : Step) (o : Order)
    → IsBacked more s o → IsBacked fewer s o
backed-fewer fewer more up (took_block a) o h = λ new v f. h new v (up v f)
backed-fewer fewer more up (noted n) o h = tt

-- so are all steps of an order
ordered-fewer : (fewer more : ℕ → Bool) → ((i : ℕ) → fewer i ≡ true → more i ≡ true) → (o : Order)
    → IsOrdered more o → IsOrdered fewer o
ordered-fewer fewer more up [] h = tt
ordered-fewer fewer more up (p ∷ earlier) h =
    (backed-fewer fewer more up p.1 earlier h.0, ordered-fewer fewer more up earlier h.1)

-- the law of this name
pub orderly-chronicles_are_backed : OrderlyChroniclesAreBacked
orderly-chronicles_are_backed sizes ks fam j apart members o =
    let f = fronts-exist ks in
    let ordered = ordered-fewer (is_judged ks) fam.is_member (λ i t. (members i t).0) o.order o.ordered in
    let whole : (i : ℕ) → is_judged ks i ≡ true → steps_of i o.order ≡ chronicle_of ks i =
    λ i t. o.whole i (members i t).0 ∙ (members i t).1 in
    whole-none_unbacked ks f.0 f.1
    (order-whole (KnownTo ks) ks (judged-named sizes ks j apart) o.order whole ordered f.0 f.1)
