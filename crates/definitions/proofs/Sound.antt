-- Each step that stands keeps a replica's chronicle lawful.
use Rattle.ids.specs.declared.limits.TheConstants.{MOST_BLOCKS, HEIGHT_LIMIT}
use Rattle.definitions.proofs.Branches.{just1-extends, branch_eq-decides, extends-true, extends-cases}
use Rattle.definitions.proofs.Branches.{length-extends, justify_height-just1, length-just1}
use Rattle.ids.specs.declared.fault.Fault.{Fault}
use Rattle.ids.specs.declared.fault.Fault.TheVariants as fault
use Rattle.std.proofs.Common.{ℕ, suc, ◌≡◌, ◌<◌, ◌≤◌, ◌⊎◌, ◌&&◌, not, Bool, true, false, List, [], ◌∷◌}
use Rattle.std.proofs.Common.{length, cond, refl, sym, ap, subst, ◌∙◌, arith, inl, inr, map, Option, Some}
use Rattle.std.proofs.Common.{None, true≢false, ◌==◌, nat_lt, ◌+◌, min, filter, if◌then◌else◌}
use Rattle.std.specs.Bool.{⊤}
use Rattle.std.specs.List.{list_any, list_all, AllByRecursion}
use Rattle.std.proofs.lemmas.Bool.{and_parts, and_from, or_cases, or_left, or_right, cond_both, ltb-true}
use Rattle.std.proofs.lemmas.Bool.{ltb-false, leb-true, cases_Bool, cond-true, cond-false, not-true, eq-eqb}
use Rattle.definitions.proofs.Lists.{any-found, any-from, Among-map, Among-filter}
use lib.Dec.{ltb}
use Rattle.definitions.specs.Lists.{Among, AreDistinct}
use Rattle.definitions.specs.Frames.{Command, Core, Vote, Certificate}
use Rattle.definitions.specs.Branches.{Block, Branch, branch_eq, justify_height, just1, Extends, IsBranch}
use Rattle.definitions.specs.Bytes.{Bytes}
use Rattle.ids.specs.Sizes.{Sizes, replicas, quorum}
use Rattle.definitions.specs.Digests.{digest, digest_of}
use Rattle.definitions.specs.Trees.{Stored, blocks, is_in_reach, block_of, is_clear, clear_above, Placing}
use Rattle.definitions.specs.Trees.{Placing.stands}
use Rattle.definitions.specs.Trees.{Placing.grows, Placing.lacks_parent, Placing.unfit, placing, IsTree}
use Rattle.definitions.proofs.Trees.{same_bytes, found-in, unfit-calm, IsPlaced, IsGrowth, placed}
use Rattle.definitions.proofs.Trees.{tree-below}
use Rattle.definitions.proofs.Trees.{growth-tree, growth-new}
use Rattle.definitions.proofs.Horizons.{window-tree, tree-window, window-grown, pruned-tree, pruned-fewer}
use Rattle.definitions.specs.Chronicles.{Admitted, Step, Step.took_block, Step.noted, Note.got_vote}
use Rattle.definitions.specs.Chronicles.{Note.got_new_view, Note.got_request, Note.timed_out, Note.beat}
use Rattle.definitions.specs.Chronicles.{Note.pruned, Chronicle, taken_blocks, stored_blocks, stored_block}
use Rattle.definitions.specs.Chronicles.{tree, lock, history, horizon, standing_blocks, window, is_safe}
use Rattle.definitions.specs.Chronicles.{HasGrounds, HasGrounds.by_genesis, HasGrounds.by_votes}
use Rattle.definitions.specs.Chronicles.{IsLawfulVote, IsLawfulStep, AreKnown, IsSound}
use Rattle.definitions.specs.Chronicles.{Note.seen_view, Note.led_from, AreReplicas}
use Rattle.definitions.specs.Chronicles.{HasGrounds.by_take, HasGrounds.by_senders}
use Rattle.definitions.specs.Grounds.{are_distinct, are_replicas, is_justified, own_counted}
use Rattle.definitions.specs.Grounds.{is_own_certified, without_votes, grounded, may_lead_from}
use Rattle.definitions.specs.Checks.{Identity, Findings, is_genesis}
use Rattle.definitions.specs.States.{qc_high, find_block, is_due, pending, is_same_request}
use Rattle.definitions.specs.Rulings.{Input, Input.proposal_in, Input.block_in, Input.vote_in}
use Rattle.definitions.specs.Rulings.{Input.new_view_in, Input.request_in, Input.fetch_in, Input.timeout_in}
use Rattle.definitions.specs.Rulings.{Input.beat_in, Input.prune_in, Input.offered_in, Input.relayed_in}
use Rattle.definitions.specs.Rulings.{Input.lead_in, Input.ask_in, Input.view_in, take_grounded, on_offer}
use Rattle.definitions.specs.Rulings.{on_relay, lead, Ruling, Ruling.due, Ruling.missing}
use Rattle.definitions.specs.Rulings.{Ruling.refusing}
use Rattle.definitions.specs.Rulings.{admitted, votes_for, take_block, on_placing, on_block, on_request}
use Rattle.definitions.specs.Rulings.{conflicts, with_block, ruling}
use Rattle.definitions.specs.Sendings.{sendings}
use Rattle.definitions.specs.Replicas.{on_ruling, on_step, step, MemorySupply, MemorySupply.ample}
use Rattle.definitions.specs.Replicas.{MemorySupply.refused_at_once, MemorySupply.refused_after, Replica}
use Rattle.definitions.specs.Replicas.{Standing}
use Rattle.definitions.specs.Replicas.{Standing.running, Standing.stopped, Standing.cut_short, Reaction}
use Rattle.definitions.specs.Replicas.{Reaction.fails, Reaction.sends_out, Reaction.asks_for, stopped_at}
use Rattle.definitions.specs.Replicas.{executes, stops}

-- ---- the chronicle without steps

pub only-genesis : (x : Branch) → Among x ([] ∷ []) → x ≡ []
only-genesis x (inl e) = e
only-genesis x (inr n) = absurd n

nothing-above : (b : Block) (parent : Branch) → b ∷ parent ≡ [] → ⊥
nothing-above b parent e = cc

pub first-sound : (s : Sizes) → IsSound s []
unfolding tree window standing_blocks stored_blocks taken_blocks
first-sound s = record {
  is_tree = record {
    branches = λ x m. subst IsBranch (sym (only-genesis x m)) tt;
    one = λ x y m n e. only-genesis x m ∙ sym (only-genesis y n);
    parents = λ b parent m l. absurd (nothing-above b parent (only-genesis (b ∷ parent) m));
    genesis = inl refl;
  };
  lawful = tt;
  known = tt;
  bounded = omega arith;
  heights = λ x m. let e = ap (λ (b : Branch). length b) (only-genesis x m) in omega (arith, e);
}

-- ---- each step

-- what is known of a core, a certificate and what was found of them, where they were read and checked at
-- these sizes
pub record IsChecked (sizes : Sizes) (core : Core) (q : Certificate) (f : Findings) : Type 0 where
  pub below : core.justify_height < core.height
  pub distinct : AreDistinct f.counted
  pub voters : AllByRecursion (λ v. v < replicas sizes) f.counted
  pub good : (is_genesis q.digest ≡ true) ⊎ (quorum sizes ≤ length f.counted)

abbrev pub IsCheckedInput : Sizes → Input → Type 0
IsCheckedInput sizes (proposal_in w core q f) = IsChecked sizes core q f
IsCheckedInput sizes (block_in sender core q f) = IsChecked sizes core q f
IsCheckedInput sizes (offered_in w sender core q f) = core.justify_height < core.height
IsCheckedInput sizes (relayed_in senders core q f) = core.justify_height < core.height
IsCheckedInput sizes i = ⊤

-- a clear block was taken as one
pub clear-taken : (x : Branch) (ys : List Admitted) → is_clear x (map stored_block ys) ≡ true
    → (a : Admitted) × Among a ys × (a.branch ≡ x) × (a.clear ≡ true)
unfolding is_clear
clear-taken x [] h = absurd (true≢false (sym h))
clear-taken x (y ∷ ys) h =
    elim (or_cases _ _ h) [
      | inl k ↦ (let p = and_parts _ _ k in (y, inl refl, (branch_eq-decides y.branch x).0 p.1, p.0))
      | inr k ↦ (let r = clear-taken x ys k in (r.0, inr r.1, r.2, r.3))
    ]

-- so was each block of a branch that is clear above a height
pub clear_above-each : (height : ℕ) (b : Branch) (c : Chronicle)
    → clear_above height b (stored_blocks c) ≡ true
    → (x : Branch) → Extends b x → height < length x
    → (a : Admitted) × Among a (taken_blocks c) × (a.branch ≡ x) × (a.clear ≡ true)
unfolding clear_above stored_blocks
clear_above-each height [] c h x e l = absurd (let k = length-extends [] x e in omega (arith, k))
clear_above-each height (b ∷ parent) c h x e l =
    elim (cases_Bool (ltb height (suc (length parent)))) [
      | inl t ↦ (let p = and_parts _ _ (sym (cond-true _ _ _ t) ∙ h) in
          elim (extends-cases b parent x e) [
            | inl i ↦ (let r = clear-taken (b ∷ parent) (taken_blocks c) p.0 in (r.0, r.1, r.2 ∙ sym i, r.3))
            | inr k ↦ clear_above-each height parent c p.1 x k l
          ])
      | inr f ↦ absurd (let k = length-extends (b ∷ parent) x e in let m = ltb-false height
          (suc (length parent)) f in omega (arith, k, m))
    ]

clear-step : (x : Branch) (s : Stored) (kept all : List Stored)
    → (is_clear x kept ≡ true → is_clear x all ≡ true) → (t : Bool)
    → is_clear x (cond t (s ∷ kept) kept) ≡ true → is_clear x (s ∷ all) ≡ true
unfolding is_clear
clear-step x s kept all rest true h =
    let here : Bool = s.clear && branch_eq s.branch x in
    elim (or_cases here (is_clear x kept) h)
    [ inl k ↦ or_left here (is_clear x all) k | inr k ↦ or_right here (is_clear x all) (rest k) ]
clear-step x s kept all rest false h = or_right (s.clear && branch_eq s.branch x) (is_clear x all) (rest h)

-- what is clear among those that were kept is clear among all
clear-kept : (p : Stored → Bool) (x : Branch) (all : List Stored) → is_clear x (filter p all) ≡ true
    → is_clear x all ≡ true
unfolding is_clear
clear-kept p x [] h = h
clear-kept p x (s ∷ all) h = clear-step x s (filter p all) all (clear-kept p x all) (p s) h

-- so is a branch
clear_above-kept : (p : Stored → Bool) (height : ℕ) (b : Branch) (all : List Stored)
    → clear_above height b (filter p all) ≡ true → clear_above height b all ≡ true
unfolding clear_above
clear_above-kept p height [] all h = refl
clear_above-kept p height (b ∷ parent) all h =
    elim (cases_Bool (ltb height (suc (length parent)))) [
      | inl t ↦ (let q = and_parts _ _ (sym (cond-true _ _ _ t) ∙ h) in
          cond-true _ _ _ t
          ∙ and_from _ _ (clear-kept p (b ∷ parent) all q.0) (clear_above-kept p height parent all q.1))
      | inr f ↦ cond-false _ _ _ f
    ]

clear_above-standing : (height : ℕ) (b : Branch) (c : Chronicle)
    → clear_above height b (standing_blocks c) ≡ true → clear_above height b (stored_blocks c) ≡ true
unfolding standing_blocks
clear_above-standing height b c h =
    clear_above-kept (λ (s : Stored). is_in_reach (horizon c) s.branch) height b (stored_blocks c) h

-- whether the vote was given changes nothing of what was taken
abbrev with_vote : Admitted → Bool → Admitted
with_vote a v = record a { voted = v }

taken-voted : (a : Admitted) (v : Bool) (c : Chronicle) (x : Branch)
    → ((y : Admitted) × Among y (taken_blocks (took_block a ∷ c)) × (y.branch ≡ x) × (y.clear ≡ true))
    → (y : Admitted) × Among y (taken_blocks (took_block (with_vote a v) ∷ c)) × (y.branch ≡ x)
    × (y.clear ≡ true)
unfolding taken_blocks
taken-voted a v c x h = go a.new refl h.1
  where
    go : (n : Bool) → a.new ≡ n → Among h.0 (cond n (a ∷ taken_blocks c) (taken_blocks c))
        → (y : Admitted) × Among y (cond n (with_vote a v ∷ taken_blocks c) (taken_blocks c)) × (y.branch ≡ x)
        × (y.clear ≡ true)
    go true e (inl i) = (
      with_vote a v,
      inl refl,
      (sym (ap (λ (y : Admitted). y.branch) i) ∙ h.2),
      (sym (ap (λ (y : Admitted). y.clear) i) ∙ h.3),
    )
    go true e (inr m) = (h.0, inr m, h.2, h.3)
    go false e m = (h.0, m, h.2, h.3)

-- a vote that the rules give is lawful
pub vote-lawful : (s : Sizes) (w : Option ℕ) (a : Admitted) (c : Chronicle) → IsBranch a.branch
    → Among a.branch (tree (took_block (with_vote a (votes_for s w a c)) ∷ c)) → votes_for s w a c ≡ true
    → IsLawfulVote a.branch (took_block (with_vote a (votes_for s w a c)) ∷ c) c
unfolding votes_for is_safe
vote-lawful s None a c br t h = absurd (true≢false (sym h))
vote-lawful s (Some w) a c br t h =
    let p = and_parts _ _ (and_parts _ _ h).1 in
    let q = and_parts _ _ p.0 in
    record {
      higher = ltb-true _ _ q.0;
      safe = elim (or_cases _ _ q.1) [
        | inl k ↦ inl (extends-true a.branch (lock c) k)
        | inr k ↦ inr (let m : length (lock c) < justify_height a.branch =
            ltb-true _ _ k in let n = justify_height-just1 a.branch br in omega (arith, m, n))
      ];
      clear = λ x e l. taken-voted a _ c x (clear_above-each (justify_height a.branch) a.branch
          (took_block a ∷ c) (clear_above-standing (justify_height a.branch) a.branch (took_block a ∷ c) p.1)
          x e (let n = justify_height-just1 a.branch br in omega (arith, l, n)));
      taken = t;
    }

-- what a step that stands keeps
abbrev pub OnStands : (Step → Type 0) → Ruling → Type 0
OnStands P (due st) = P st
OnStands P (missing sender d) = ⊤
OnStands P (refusing n) = n ≡ fault.Conflict → ⊥

-- what a good certificate of the justified block gives
certified : (sizes : Sizes) (core : Core) (q : Certificate) (f : Findings) (j : Branch) (c : Chronicle)
    (h : ℕ) (t : List Branch) → IsTree h t → Among j t → IsChecked sizes core q f → q.digest ≡ digest_of j
    → HasGrounds sizes j f.counted [] c
unfolding digest_of
certified sizes core q f j c h t tr m ch e =
    elim ch.good [
      | inl k ↦ by_genesis (tr.one j [] m tr.genesis (sym e ∙ same_bytes _ _ k))
      | inr k ↦ by_votes (ch.distinct, ch.voters, k)
    ]

-- a block as it is admitted, with this certificate, these counted voters and these senders
abbrev with_evidence : Admitted → Certificate → List ℕ → List ℕ → Admitted
with_evidence a q counted senders = record a { certificate = q; counted = counted; senders = senders }

-- a new block whose place was tested
record IsNewBlock (core : Core) (parent : Branch) (c : Chronicle) : Type 0 where
  is_tree : IsTree (horizon c) ((block_of core ∷ parent) ∷ window c)
  fresh : Among (block_of core ∷ parent) (tree c) → ⊥
  stands : Among parent (tree c)
  room : length (window c) < MOST_BLOCKS
  low : length (block_of core ∷ parent) < HEIGHT_LIMIT
  above : horizon c ≤ core.justify_height

-- a new block that passes the tests, and justifies what has grounds
new-step : (self : Identity) (w : Option ℕ) (parent : Branch) (core : Core) (q r : Certificate) (f : Findings)
    (counted senders : List ℕ) (c : Chronicle) → IsSound self.sizes c → IsNewBlock core parent c
    → HasGrounds self.sizes (just1 (block_of core ∷ parent)) counted senders c →
    OnStands (λ st. IsSound self.sizes (st ∷ c))
    (take_block self w
    (with_evidence (admitted (block_of core ∷ parent) core q f true) r counted senders) c)
unfolding admitted tree window stored_blocks taken_blocks horizon
new-step self w parent core q r f counted senders c so is grounds = record {
  is_tree = subst (IsTree (horizon c)) (sym grown) is.is_tree;
  lawful = (
    (
      λ v. vote-lawful self.sizes w a c branch (inl refl) v,
      λ n. record {
        new = is.fresh;
        parent = (block_of core, parent, refl, branch.0, is.stands);
        certified = grounds;
      },
    ),
    so.lawful,
  );
  known = so.known;
  bounded = subst (λ (t : List Branch). length t ≤ MOST_BLOCKS) (sym grown)
      (let room = is.room in omega (arith, room));
  heights = heights;
}
  where
    a : Admitted
    a = with_evidence (admitted (block_of core ∷ parent) core q f true) r counted senders

    branch : IsBranch (block_of core ∷ parent)
    branch = is.is_tree.branches (block_of core ∷ parent) (inl refl)

    grown : window (took_block (record a { voted = votes_for self.sizes w a c }) ∷ c)
        ≡ (block_of core ∷ parent) ∷ window c
    grown = ap (λ (xs : List Stored). blocks xs)
        (window-grown _ c refl (let k = branch.0 in let above = is.above in omega (arith, k, above)))

    heights : (x : Branch) → Among x ((block_of core ∷ parent) ∷ tree c) → length x < HEIGHT_LIMIT
    heights x (inl i) = subst (λ (y : Branch). length y < HEIGHT_LIMIT) (sym i) is.low
    heights x (inr k) = so.heights x k

abbrev pub Keeps : Identity → Chronicle → Ruling → Type 0
Keeps self c v = OnStands (λ st. IsSound self.sizes (st ∷ c)) v

pub found-standing : (d : Bytes) (c : Chronicle) (b : Branch) → find_block d c ≡ Some b
    → Among b (window c) × (digest_of b ≡ d)
unfolding find_block
found-standing d c b e = found-in d (window c) b e

pub found : (d : Bytes) (c : Chronicle) (b : Branch) → find_block d c ≡ Some b
    → Among b (tree c) × (digest_of b ≡ d)
found d c b e = let r = found-standing d c b e in (window-tree c b r.0, r.1)

-- a block that stands in the tree, with or without a vote
stands-sound : (self : Identity) (w : Option ℕ) (core : Core) (q r : Certificate) (f : Findings)
    (counted : List ℕ) (c : Chronicle) → IsSound self.sizes c → (b : Branch) → Among b (window c)
    → Keeps self c (take_block self w (with_evidence (admitted b core q f false) r counted []) c)
unfolding admitted tree window standing_blocks stored_blocks taken_blocks horizon
stands-sound self w core q r f counted c so b m = record {
  is_tree = so.is_tree;
  lawful = (
    (
      λ v. vote-lawful self.sizes w (with_evidence (admitted b core q f false) r counted []) c
          (so.is_tree.branches b m) (window-tree c b m) v,
      λ n. absurd (true≢false (sym n)),
    ),
    so.lawful,
  );
  known = so.known;
  bounded = so.bounded;
  heights = so.heights;
}

-- what the tests of a new block's place say
new-placed : (sizes : Sizes) (core : Core) (q : Certificate) (c : Chronicle) → IsSound sizes c
    → core.justify_height < core.height → (b parent : Branch)
    → IsGrowth (horizon c) MOST_BLOCKS core q (window c) b parent → IsNewBlock core parent c
new-placed sizes core q c so below b parent g = record {
  is_tree = subst (λ (x : Branch). IsTree (horizon c) (x ∷ window c)) g.is
      (growth-tree (horizon c) MOST_BLOCKS core q (window c) b parent so.is_tree below g);
  fresh = λ k. growth-new (horizon c) MOST_BLOCKS core q (window c) b parent g
      (subst (λ (x : Branch). Among x (window c)) (sym g.is) (tree-window c (block_of core ∷ parent) k
      (let above = g.above in let height = g.height in omega (arith, above, below, height))));
  stands = window-tree c parent (found-in core.parent (window c) parent g.parent_found).0;
  room = g.room;
  low = g.low;
  above = g.above;
}

-- what it justifies stands in the tree with it
justified-stands : (core : Core) (parent : Branch) (c : Chronicle) → IsNewBlock core parent c
    → Among (just1 (block_of core ∷ parent)) ((block_of core ∷ parent) ∷ window c)
justified-stands core parent c is =
    tree-below (horizon c) _ is.is_tree (block_of core ∷ parent) _ (inl refl) (just1-extends _)
    (let k = length-just1 (block_of core) parent (is.is_tree.branches _ (inl refl)) in
    let above = is.above in omega (arith, k, above))

placed-sound : (self : Identity) (w : Option ℕ) (sender : ℕ) (core : Core) (q : Certificate) (f : Findings)
    (c : Chronicle) → IsChecked self.sizes core q f → IsSound self.sizes c → (p : Placing)
    → IsPlaced (horizon c) MOST_BLOCKS core q (window c) p
    → Keeps self c (on_placing self w sender core q f c p)
unfolding on_placing admitted
placed-sound self w sender core q f c ch so (stands b) h =
    stands-sound self w core q q f f.counted c so b (found-in (digest core) (window c) b h.0).0
placed-sound self w sender core q f c ch so (grows b) (parent, g) =
    let is = new-placed self.sizes core q c so ch.below b parent g in
    subst (λ (x : Branch). OnStands (λ st. IsSound self.sizes (st ∷ c))
    (take_block self w (admitted x core q f true) c)) (sym g.is)
    (new-step self w parent core q q f f.counted [] c so is
    (certified self.sizes core q f (just1 (block_of core ∷ parent)) c (horizon c) _ is.is_tree
    (justified-stands core parent c is) ch g.justified))
placed-sound self w sender core q f c ch so lacks_parent h = tt
placed-sound self w sender core q f c ch so (unfit n) h = unfit-calm n h

block-sound : (self : Identity) (w : Option ℕ) (sender : ℕ) (core : Core) (q : Certificate) (f : Findings)
    (c : Chronicle) → IsChecked self.sizes core q f → IsSound self.sizes c
    → Keeps self c (on_block self w sender core q f c)
block-sound self w sender core q f c ch so =
    placed-sound self w sender core q f c ch so (placing (horizon c) MOST_BLOCKS core q (window c))
    (placed (horizon c) MOST_BLOCKS core q (window c))

-- ---- on grounds

-- numbers that pass the test are distinct replicas
distinct-from : (vs : List ℕ) → are_distinct vs ≡ true → AreDistinct vs
unfolding are_distinct
distinct-from [] h = tt
distinct-from (x ∷ xs) h =
    let p = and_parts _ _ h in (
      λ m. true≢false (sym (any-from (λ (y : ℕ). y == x) xs x m (eq-eqb x x refl)) ∙ not-true _ p.0),
      distinct-from xs p.1,
    )

below-from : (n : ℕ) (vs : List ℕ) → list_all (λ v. nat_lt v n) vs ≡ true → AllByRecursion (λ v. v < n) vs
below-from n [] h = tt
below-from n (x ∷ xs) h = let p = and_parts _ _ h in (ltb-true x n p.0, below-from n xs p.1)

pub replicas-from : (s : Sizes) (least : ℕ) (vs : List ℕ) → are_replicas s least vs ≡ true
    → AreReplicas s least vs
unfolding are_replicas
replicas-from s least vs h =
    let p = and_parts _ _ h in
    let r = and_parts _ _ p.1 in
    (distinct-from vs p.0, below-from (replicas s) vs r.0, leb-true least (length vs) r.1)

-- a block of the tree that justifies b was taken
justified-taken : (b : Branch) (c : Chronicle) → is_justified b c ≡ true
    → (a : Admitted) × Among a (taken_blocks c) × (just1 a.branch ≡ b)
unfolding is_justified standing_blocks stored_blocks
justified-taken b c h =
    let s = any-found (λ (x : Stored). branch_eq (just1 x.branch) b) (standing_blocks c) h in
    let m = Among-map stored_block (taken_blocks c) s.0
    (Among-filter (λ (x : Stored). is_in_reach (horizon c) x.branch) (stored_blocks c) s.0 s.1).0 in
    (m.0, m.1, ap (λ (x : Stored). just1 x.branch) (sym m.2) ∙ (branch_eq-decides (just1 s.0.branch) b).0 s.2)

-- a block that is taken on grounds
grounded-sound : (self : Identity) (w : Option ℕ) (parent : Branch) (core : Core) (q : Certificate)
    (f : Findings) (c : Chronicle) → IsSound self.sizes c → IsNewBlock core parent c → Keeps self c
    (take_grounded self w (grounded self (admitted (block_of core ∷ parent) core q f true) c) c)
unfolding grounded is_own_certified admitted
grounded-sound self w parent core q f c so is =
    let b : Branch = block_of core ∷ parent in
    let P : Option Admitted → Type 0 = λ o. Keeps self c (take_grounded self w o c) in
    cond_both (is_justified (just1 b) c) _ _ P
    (λ t.
    let x = justified-taken (just1 b) c t in
    new-step self w parent core q (without_votes q) f [] [] c so is (by_take x.0 x.1 x.2))
    (λ n. cond_both (branch_eq (qc_high self.sizes c).block (just1 b)
    && are_replicas self.sizes (quorum self.sizes) (own_counted self c)) _ _ P
    (λ t. new-step self w parent core q (qc_high self.sizes c).certificate f (own_counted self c) [] c so is
    (by_votes (replicas-from self.sizes (quorum self.sizes) (own_counted self c) (and_parts _ _ t).1)))
    (λ e k. cc))

offer-sound : (self : Identity) (w : Option ℕ) (sender : ℕ) (core : Core) (q : Certificate) (f : Findings)
    (c : Chronicle) → core.justify_height < core.height → IsSound self.sizes c → (p : Placing)
    → IsPlaced (horizon c) MOST_BLOCKS core q (window c) p
    → Keeps self c (on_offer self w sender core q f c p)
unfolding on_offer admitted
offer-sound self w sender core q f c below so (stands b) h =
    stands-sound self w core q (without_votes q) f [] c so b (found-in (digest core) (window c) b h.0).0
offer-sound self w sender core q f c below so (grows b) (parent, g) =
    subst (λ (x : Branch). Keeps self c
    (take_grounded self w (grounded self (admitted x core q f true) c) c)) (sym g.is)
    (grounded-sound self w parent core q f c so (new-placed self.sizes core q c so below b parent g))
offer-sound self w sender core q f c below so lacks_parent h = tt
offer-sound self w sender core q f c below so (unfit n) h = unfit-calm n h

-- a block that several replicas sent
relay-sound : (self : Identity) (senders : List ℕ) (core : Core) (q : Certificate) (f : Findings)
    (c : Chronicle) → core.justify_height < core.height → IsSound self.sizes c → (p : Placing)
    → IsPlaced (horizon c) MOST_BLOCKS core q (window c) p
    → Keeps self c (on_relay self senders core q f c p)
unfolding on_relay admitted
relay-sound self senders core q f c below so (stands b) h =
    stands-sound self None core q (without_votes q) f [] c so b (found-in (digest core) (window c) b h.0).0
relay-sound self senders core q f c below so (grows b) (parent, g) =
    cond_both (are_replicas self.sizes (suc self.sizes.faults) senders) _ _ (Keeps self c)
    (λ t. subst (λ (x : Branch). Keeps self c (take_block self None
    (with_evidence (admitted x core q f true) (without_votes q) [] senders) c)) (sym g.is)
    (new-step self None parent core q (without_votes q) f [] senders c so
    (new-placed self.sizes core q c so below b parent g)
    (by_senders (replicas-from self.sizes (suc self.sizes.faults) senders t))))
    (λ e k. cc)
relay-sound self senders core q f c below so lacks_parent h = λ k. cc
relay-sound self senders core q f c below so (unfit n) h = unfit-calm n h

-- a step that takes no block
other-sound : (need : Sizes) (c : Chronicle) (st : Step) → tree (st ∷ c) ≡ tree c
    → horizon (st ∷ c) ≡ horizon c → window (st ∷ c) ≡ window c → IsLawfulStep need st c
    → AreKnown (st ∷ c) → IsSound need c → IsSound need (st ∷ c)
other-sound need c st e h w l k so = record {
  is_tree = subst (λ (t : List Branch). IsTree (horizon (st ∷ c)) t) (sym w)
      (subst (λ (n : ℕ). IsTree n (window c)) (sym h) so.is_tree);
  lawful = (l, so.lawful);
  known = k;
  bounded = subst (λ (t : List Branch). length t ≤ MOST_BLOCKS) (sym w) so.bounded;
  heights = subst (λ (t : List Branch). (x : Branch) → Among x t → length x < HEIGHT_LIMIT) (sym e)
      so.heights;
}

-- a pruning
pruned-sound : (need : Sizes) (c : Chronicle) (height : ℕ) → IsSound need c
    → IsSound need (noted (pruned height) ∷ c)
unfolding tree stored_blocks taken_blocks
pruned-sound need c height so = record {
  is_tree = pruned-tree height c so.is_tree;
  lawful = (tt, so.lawful);
  known = so.known;
  bounded = (let fewer = pruned-fewer height c in let room = so.bounded in omega (arith, fewer, room));
  heights = so.heights;
}

vote-sound : (self : Identity) (b : Vote) (d : Bytes) (c : Chronicle) → IsSound self.sizes c
    → (o : Option Branch) → find_block d c ≡ o
    → Keeps self c (with_block o b.voter d (λ x. due (noted (got_vote b.voter b.vector x))))
unfolding tree window standing_blocks stored_blocks taken_blocks horizon
vote-sound self b d c so None e = tt
vote-sound self b d c so (Some x) e = other-sound _ c _ refl refl refl tt ((found d c x e).0, so.known) so

new_view-sound : (self : Identity) (w sender : ℕ) (q : Certificate) (c : Chronicle) → IsSound self.sizes c
    → (o : Option Branch) → find_block q.digest c ≡ o
    → Keeps self c (with_block o sender q.digest (λ x. due (noted (got_new_view w sender q x))))
unfolding tree window standing_blocks stored_blocks taken_blocks horizon
new_view-sound self w sender q c so None e = tt
new_view-sound self w sender q c so (Some x) e =
    other-sound _ c _ refl refl refl tt ((found q.digest c x e).0, so.known) so

-- a lead
lead-sound : (self : Identity) (d : Bytes) (c : Chronicle) → IsSound self.sizes c → (o : Option Branch)
    → find_block d c ≡ o → Keeps self c (lead self o c)
unfolding tree window standing_blocks stored_blocks taken_blocks horizon may_lead_from
lead-sound self d c so None e = λ k. cc
lead-sound self d c so (Some b) e =
    cond_both (may_lead_from self b c) _ _ (Keeps self c)
    (λ t. other-sound _ c (noted (led_from b)) refl refl refl
    (leb-true (length (lock c)) (length b) (and_parts _ _ t).0) ((found d c b e).0, so.known) so)
    (λ f k. cc)

request-sound : (self : Identity) (r : Command) (c : Chronicle) → IsSound self.sizes c
    → Keeps self c (on_request r c)
unfolding tree window standing_blocks stored_blocks taken_blocks horizon on_request
request-sound self r c so =
    cond_both (is_due (history c) r
    && (not (list_any (is_same_request r) (pending c)) && not (nat_lt (length (pending c)) 4096))) _ _ P
    (λ e k. cc) (λ e. other-sound _ c (noted (got_request r)) refl refl refl tt so.known so)
  where
    P : Ruling → Type 0
    P = Keeps self c

pub ruling-sound : (self : Identity) (i : Input) (c : Chronicle) → IsCheckedInput self.sizes i
    → IsSound self.sizes c → Keeps self c (ruling self i c)
unfolding ruling tree window standing_blocks stored_blocks taken_blocks horizon
ruling-sound self (proposal_in w core q f) c ch so = block-sound self _ _ core q f c ch so
ruling-sound self (block_in sender core q f) c ch so = block-sound self _ _ core q f c ch so
ruling-sound self (vote_in d b) c ch so = vote-sound self b d c so _ refl
ruling-sound self (new_view_in w sender q) c ch so = new_view-sound self w sender q c so _ refl
ruling-sound self (request_in r) c ch so = request-sound self r c so
ruling-sound self (fetch_in sender d) c ch so = other-sound _ c _ refl refl refl tt so.known so
ruling-sound self timeout_in c ch so = other-sound _ c (noted timed_out) refl refl refl tt so.known so
ruling-sound self beat_in c ch so = other-sound _ c (noted beat) refl refl refl tt so.known so
ruling-sound self (prune_in height) c ch so = pruned-sound self.sizes c height so
ruling-sound self (offered_in w sender core q f) c ch so =
    offer-sound self w sender core q f c ch so (placing (horizon c) MOST_BLOCKS core q (window c))
    (placed (horizon c) MOST_BLOCKS core q (window c))
ruling-sound self (relayed_in senders core q f) c ch so =
    relay-sound self senders core q f c ch so (placing (horizon c) MOST_BLOCKS core q (window c))
    (placed (horizon c) MOST_BLOCKS core q (window c))
ruling-sound self (lead_in d) c ch so = lead-sound self d c so _ refl
ruling-sound self (ask_in replica d) c ch so = tt
ruling-sound self (view_in w sender) c ch so =
    other-sound _ c (noted (seen_view w sender)) refl refl refl tt so.known so

-- ---- the whole step

-- what a step comes to
pub data Outcome (self : Identity) (c : Chronicle) (v : Ruling) (r : Replica) : Replica × Reaction
    → Type 0 where
  unchanged : (n : Fault) → (n ≡ fault.Conflict → ⊥) → Outcome self c v r (r, fails n)
  refused : (stopping : Bool) (n : Fault) → r.standing ≡ running → (n ≡ fault.Conflict → ⊥)
      → Outcome self c v r
      (record { chronicle = c; standing = if stopping then stopped else running }, fails n)
  lacks : (sender : ℕ) (d : Bytes) → r.standing ≡ running
      → Outcome self c v r (record { chronicle = c; standing = running }, asks_for sender d)
  conflict : (st : Step) → r.standing ≡ running → v ≡ due st → conflicts st c ≡ true
      → Outcome self c v r (stopped_at c, fails fault.Conflict)
  stood : (st : Step) → r.standing ≡ running → v ≡ due st → conflicts st c ≡ false
      → Outcome self c v r
      (record { chronicle = st ∷ c; standing = running }, sends_out (sendings self st c))
  cut : (st : Step) (k : ℕ) → r.standing ≡ running → v ≡ due st → conflicts st c ≡ false
      → Outcome self c v r (
        record {
          chronicle = st ∷ c;
          standing = cut_short (min (length (history c) + k) (length (history (st ∷ c))));
        },
        fails fault.Memory,
      )

on_step-outcome : (self : Identity) (m : MemorySupply) (st : Step) (c : Chronicle) (r : Replica)
    → r.standing ≡ running → Outcome self c (due st) r (on_step self m st c)
unfolding on_step
on_step-outcome self ample st c r u =
    cond_both (conflicts st c) _ _ (Outcome self c (due st) r) (λ e. conflict st u refl e)
    (λ e. stood st u refl e)
on_step-outcome self refused_at_once st c r u = refused true fault.Memory u (λ k. cc)
on_step-outcome self (refused_after k) st c r u =
    cond_both (conflicts st c) _ _ (Outcome self c (due st) r) (λ e. conflict st u refl e)
    (λ e. cond_both (executes st c) _ _ (Outcome self c (due st) r) (λ x. cut st k u refl e)
    (λ x. refused true fault.Memory u (λ k. cc)))

pub step-outcome : (self : Identity) (m : MemorySupply) (i : Input) (r : Replica)
    → IsCheckedInput self.sizes i
    → IsSound self.sizes r.chronicle
    → Outcome self r.chronicle (ruling self i r.chronicle) r (step self m i r)
unfolding step on_ruling
step-outcome self m i r ch so = by r.standing refl
  where
    when : r.standing ≡ running → (v : Ruling) → Keeps self r.chronicle v
        → Outcome self r.chronicle v r (on_ruling self m v r.chronicle)
    when u (due st) k = on_step-outcome self m st r.chronicle r u
    when u (missing sender d) k = lacks sender d u
    when u (refusing n) k = refused (stops n r.chronicle) n u k

    by : (st : Standing) → r.standing ≡ st
        → Outcome self r.chronicle (ruling self i r.chronicle) r
        (elim st as (λ x. Replica × Reaction) [
          | running ↦
              on_ruling self m (ruling self i r.chronicle) r.chronicle
          | stopped ↦ (r, fails fault.Stopped)
          | cut_short held ↦ (r, fails fault.Stopped)
        ])
    by running e = when e (ruling self i r.chronicle) (ruling-sound self i r.chronicle ch so)
    by stopped e = unchanged fault.Stopped (λ k. cc)
    by (cut_short held) e = unchanged fault.Stopped (λ k. cc)
