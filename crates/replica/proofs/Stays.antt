-- What steps leave as it was.
use Rattle.ids.specs.declared.limits.TheConstants.{MOST_BLOCKS}
use Rattle.std.proofs.Common.{◌≡◌, ◌<◌, ◌≤◌, ◌==◌, ◌&&◌, ◌||◌, Bool, true, false, true≢false, [], ◌∷◌, length}
use Rattle.std.proofs.Common.{cond, refl, sym, ap, ◌∙◌, subst, inl, inr, arith, nat_lt, Option, Some, None}
use Rattle.std.specs.Prelude.{option_map, IfSome}
use Rattle.std.specs.Str.{bytes_eq}
use Rattle.std.proofs.lemmas.Slice.Eq.{bytes_eq-Decides}
use Rattle.std.proofs.lemmas.Bool.{ltb-true, ltb-false, cond_both, eqb-true, eq-eqb}
use Rattle.ids.specs.Sizes.{Sizes}
use Rattle.definitions.specs.Lists.{Among}
use Rattle.definitions.specs.Branches.{Branch, branch_eq}
use Rattle.definitions.specs.Digests.{digest_of}
use Rattle.definitions.specs.Keyrings.{Keys}
use Rattle.definitions.specs.Checks.{Identity, identity_of}
use Rattle.definitions.specs.Chronicles.{Note, Step, Step.took_block, Step.noted}
use Rattle.definitions.specs.Chronicles.{Note.beat, Note.led_from, Chronicle, tree, window, IsSound}
use Rattle.definitions.proofs.Branches.{branch_eq-decides}
use Rattle.definitions.proofs.Chronicles.{tree-grows}
use Rattle.definitions.proofs.Horizons.{is_pruning, horizon-noted, standing-noted, qc_high-cases, high-window}
use Rattle.definitions.proofs.Horizons.{higher-rises}
use Rattle.definitions.specs.States.{Justified, raised, fills, comes_whole, higher, qc_high, leaf, proposed}
use Rattle.replica_rules.specs.Ruled.{ref_of}
use Rattle.replica_rules.proofs.Takes.{ruled-noted}
use Rattle.replica_rules.specs.declared.block_ref.BlockRef.{BlockRef}
use Rattle.replica.specs.declared.state.High.{High}
use Rattle.definitions.specs.Sendings.{Sending}
use Rattle.replica.specs.Steps.{bytes_of, shown}
use Rattle.replica.specs.Changes.{fills_for, raise_of, leaf_after}
use Rattle.std.specs.Option.{unwrap_or}
use Rattle.replica.specs.Kept.{high_of, own_of, variables_of}
use Rattle.linear_law.proofs.Leaves.{LeafStep, LeafStep.raises, LeafStep.keeps, LeafStep.makes, LeafStep.moves}
use Rattle.linear_law.proofs.Leaves.{leaf-step, brought-known, known-before, high-known}

-- ---- the highest certificate

-- whether a step sets the leaf by itself
abbrev pub sets_leaf : Step → Bool
sets_leaf (noted beat) = true
sets_leaf (noted (led_from b)) = true
sets_leaf st = false

-- else the highest certificate is the higher one
qc-next : (s : Sizes) (st : Step) (c : Chronicle) → sets_leaf st ≡ false
    → qc_high s (st ∷ c) ≡ higher (comes_whole st) (raised s st c) (qc_high s c)
qc-next s st c n = elim (qc_high-cases s st c) [
  | inl led ↦ absurd (true≢false (sym (ap sets_leaf led.1) ∙ n))
  | inr e ↦ e
]

-- what it was, where none was brought
pub qc-same : (s : Sizes) (st : Step) (c : Chronicle) → sets_leaf st ≡ false → raised s st c ≡ None
    → qc_high s (st ∷ c) ≡ qc_high s c
qc-same s st c n e = qc-next s st c n ∙ ap (λ (o : Option Justified). higher (comes_whole st) o (qc_high s c)) e

-- ---- the leaf

pub leaf-same : (self : Identity) (st : Step) (c : Chronicle) → sets_leaf st ≡ false
    → length (qc_high self.sizes (st ∷ c)).block ≡ length (qc_high self.sizes c).block
    → leaf self (st ∷ c) ≡ leaf self c
leaf-same self st c n e = by (leaf self (st ∷ c)) (leaf-step self st c)
  where
    by : (b : Branch) → LeafStep self st c b → b ≡ leaf self c
    by b (raises l) = absurd (omega (arith, l, e))
    by b (keeps l) = refl
    by b (moves x led k) = absurd (true≢false (sym (ap sets_leaf led) ∙ n))
    by b (makes x beats l k) = absurd (true≢false (sym (ap sets_leaf beats) ∙ n))

pub leaf-raised : (self : Identity) (st : Step) (c : Chronicle) (q : Justified)
    → qc_high self.sizes (st ∷ c) ≡ q → length (qc_high self.sizes c).block < length q.block
    → sets_leaf st ≡ false → leaf self (st ∷ c) ≡ q.block
leaf-raised self st c q e h n =
    by (leaf self (st ∷ c)) (leaf-step self st c) ∙ ap (λ (j : Justified). j.block) e
  where
    same : length (qc_high self.sizes (st ∷ c)).block ≡ length q.block
    same = ap (λ (j : Justified). length j.block) e

    by : (b : Branch) → LeafStep self st c b → b ≡ (qc_high self.sizes (st ∷ c)).block
    by b (raises l) = refl
    by b (keeps l) = absurd (omega (arith, l, h, same))
    by b (moves x led k) = absurd (true≢false (sym (ap sets_leaf led) ∙ n))
    by b (makes x beats l k) = absurd (omega (arith, l, h, same))

-- ---- blocks by their digests

-- two tests for one fact
pub same-tests : {A : Type 0} (s t : Bool) → (s ≡ true → A) × (A → s ≡ true) → (t ≡ true → A) × (A → t ≡ true) → s ≡ t
same-tests true t f g = sym (g.1 (f.0 refl))
same-tests false true f g = absurd (true≢false (sym (f.1 (g.0 refl))))
same-tests false false f g = refl

-- blocks of the window are told apart by their digests
pub window-block : (s : Sizes) (c : Chronicle) → IsSound s c → (x y : Branch) → Among x (window c)
    → Among y (window c) → bytes_eq (digest_of x) (digest_of y) ≡ branch_eq x y
window-block s c so x y m k =
    same-tests {A = x ≡ y} (bytes_eq (digest_of x) (digest_of y)) (branch_eq x y) (
      λ t. so.is_tree.one x y m k ((bytes_eq-Decides (digest_of x) (digest_of y)).0 t),
      λ is. (bytes_eq-Decides (digest_of x) (digest_of y)).1 (ap digest_of is),
    )
    (branch_eq-decides x y)

-- so are known ones as high as the highest certified one
pub same-block : (s : Sizes) (c : Chronicle) → IsSound s c → (x y : Branch) → Among x (tree c) → Among y (tree c)
    → length (qc_high s c).block ≤ length x → length x ≡ length y
    → bytes_eq (digest_of x) (digest_of y) ≡ branch_eq x y
same-block s c so x y m k low e =
    window-block s c so x y (high-window s c so.lawful x m low)
    (high-window s c so.lawful y k (omega (arith, low, e)))

-- ---- a certificate that is brought

-- highest certificate and leaf after a raise
pub record AreHigh (keys : Keys) (st : Step) (c : Chronicle) (r : Option High) : Type 0 where
  pub high : unwrap_or r (high_of (qc_high keys.sizes c)) ≡ high_of (qc_high keys.sizes (st ∷ c))
  pub its_leaf : leaf_after r (high_of (qc_high keys.sizes c)) (ref_of (leaf (identity_of keys) c))
      ≡ ref_of (leaf (identity_of keys) (st ∷ c))

pub unraised : (keys : Keys) (st : Step) (c : Chronicle) → sets_leaf st ≡ false
    → qc_high keys.sizes (st ∷ c) ≡ qc_high keys.sizes c → AreHigh keys st c None
unraised keys st c n e = record {
  high = ap high_of (sym e);
  its_leaf = ap ref_of (sym (leaf-same (identity_of keys) st c n (ap (λ (q : Justified). length q.block) e)));
}

module _ (keys : Keys) (st : Step) (c : Chronicle) (q : Justified) (block : BlockRef) (so : IsSound keys.sizes (st ∷ c))
    (n : sets_leaf st ≡ false) (whole : comes_whole st ≡ true) (brought : raised keys.sizes st c ≡ Some q)
    (its : block ≡ ref_of q.block) where
  -- the highest one before
  abbrev p : Justified
  p = qc_high keys.sizes c

  -- the new one, as it is kept
  abbrev new : High
  new = record { block = block; certificate = q.certificate }

  height : block.height ≡ length q.block
  height = ap (λ (x : BlockRef). x.height) its

  next : qc_high keys.sizes (st ∷ c) ≡ cond (nat_lt (length p.block) (length q.block) || fills q p) q p
  next =
      qc-next keys.sizes st c n
      ∙ (λ i. higher (whole i) (brought i) p)

  -- the one of a known block
  known : Among q.block (tree (st ∷ c))
  known = subst (λ (o : Option Justified). IfSome o (λ j. Among j.block (tree (st ∷ c)))) brought
      (brought-known keys.sizes st c so.lawful so.known)

  old : Among p.block (tree (st ∷ c))
  old = tree-grows st c p.block (high-known keys.sizes c so.lawful.1 (known-before st c so.known))

  low : length q.block ≡ length p.block → length (qc_high keys.sizes (st ∷ c)).block ≤ length q.block
  low e = subst (λ (j : Justified). length j.block ≤ length q.block) (sym next)
      (cond_both (nat_lt (length p.block) (length q.block) || fills q p) q p
      (λ (j : Justified). length j.block ≤ length q.block) (λ t. omega arith) (λ t. omega (arith, e)))

  same-blocks : branch_eq q.block p.block
      ≡ ((length q.block == length p.block) && bytes_eq (digest_of q.block) (digest_of p.block))
  same-blocks = by (length q.block == length p.block) refl
    where
      by : (t : Bool) → (length q.block == length p.block) ≡ t
          → branch_eq q.block p.block ≡ (t && bytes_eq (digest_of q.block) (digest_of p.block))
      by true t =
          let e = eqb-true (length q.block) (length p.block) t in
          sym (same-block keys.sizes (st ∷ c) so q.block p.block known old (low e) e)
      by false t = differ (branch_eq q.block p.block) refl
        where
          differ : (u : Bool) → branch_eq q.block p.block ≡ u → u ≡ false
          differ true u = absurd (true≢false (sym (eq-eqb (length q.block) (length p.block)
              (ap (λ (x : Branch). length x) ((branch_eq-decides q.block p.block).0 u))) ∙ t))
          differ false u = refl

  fills-is : fills q p ≡ fills_for new (high_of p)
  fills-is =
      ap (λ (t : Bool). (nat_lt 0 (length p.block) && t)
      && (length p.certificate.votes == 0 && nat_lt 0 (length q.certificate.votes))) same-blocks
      ∙ ap (λ (x : BlockRef). fills_for (record { block = x; certificate = q.certificate }) (high_of p)) (sym its)

  test : (lt f : Bool) → nat_lt (length p.block) block.height ≡ lt → fills_for new (high_of p) ≡ f
      → qc_high keys.sizes (st ∷ c) ≡ cond (lt || f) q p
  test lt f e k = next
      ∙ (λ i. cond ((ap (nat_lt (length p.block)) (sym height) ∙ e) i || (fills-is ∙ k) i) q p)

  raised-by : (lt f : Bool) → nat_lt (length p.block) block.height ≡ lt → fills_for new (high_of p) ≡ f
      → AreHigh keys st c (cond (lt || f) (Some new) None)
  raised-by true f e k =
      let h = test true f e k in
      let lt : length p.block < length q.block =
      (let l = ltb-true (length p.block) block.height e in omega (arith, l, height)) in
      record {
        high = (λ i. record { block = its i; certificate = q.certificate }) ∙ ap high_of (sym h);
        its_leaf = ap (λ (t : Bool). cond t block (ref_of (leaf (identity_of keys) c))) e
            ∙ its ∙ ap ref_of (sym (leaf-raised (identity_of keys) st c q h lt n));
      }
  raised-by false true e k =
      let h = test false true e k in
      let above = higher-rises-of h in
      record {
        high = (λ i. record { block = its i; certificate = q.certificate }) ∙ ap high_of (sym h);
        its_leaf = ap (λ (t : Bool). cond t block (ref_of (leaf (identity_of keys) c))) e
            ∙ ap ref_of (sym (leaf-same (identity_of keys) st c n
            (let l = ltb-false (length p.block) block.height e in
            let same = ap (λ (j : Justified). length j.block) h in omega (arith, l, height, same, above))));
      }
    where
      higher-rises-of : qc_high keys.sizes (st ∷ c) ≡ q → length p.block ≤ length q.block
      higher-rises-of h =
          let r = higher-rises (comes_whole st) (raised keys.sizes st c) p in
          let same = ap (λ (j : Justified). length j.block) (sym (qc-next keys.sizes st c n) ∙ h) in
          omega (arith, r, same)
  raised-by false false e k = unraised keys st c n (test false false e k)

-- it is raised where its block is higher, or fills the place of one without votes
pub raise-is : (keys : Keys) (st : Step) (c : Chronicle) (q : Justified) (block : BlockRef)
    → IsSound keys.sizes (st ∷ c) → sets_leaf st ≡ false → comes_whole st ≡ true → raised keys.sizes st c ≡ Some q
    → block ≡ ref_of q.block
    → AreHigh keys st c
    (raise_of (record { block = block; certificate = q.certificate }) (high_of (qc_high keys.sizes c)))
raise-is keys st c q block so n whole e its =
    raised-by keys st c q block so n whole e its
    (nat_lt (length (qc_high keys.sizes c).block) block.height)
    (fills_for (record { block = block; certificate = q.certificate }) (high_of (qc_high keys.sizes c))) refl refl

-- ---- the rest

-- one frame or none
pub shown-if : (t : Bool) (x : Sending) → shown (cond t (x ∷ []) []) ≡ cond t (bytes_of x ∷ []) []
shown-if true x = refl
shown-if false x = refl

abbrev pub is_beat : Step → Bool
is_beat (noted beat) = true
is_beat st = false

pub proposed-same : (self : Identity) (st : Step) (c : Chronicle) → is_beat st ≡ false
    → proposed self (st ∷ c) ≡ proposed self c
unfolding proposed
proposed-same self (noted beat) c e = absurd (true≢false e)
proposed-same self (took_block a) c e = refl
proposed-same self (noted n) c e = refl

-- the variables after a note that is neither a beat nor a pruning, by highest certificate and leaf
pub variables-noted : (keys : Keys) (n : Note) (c : Chronicle) (h : Justified) (b : Branch)
    → is_beat (noted n) ≡ false → is_pruning n ≡ false → qc_high keys.sizes (noted n ∷ c) ≡ h
    → leaf (identity_of keys) (noted n ∷ c) ≡ b
    → variables_of keys (noted n ∷ c)
    ≡ record (variables_of keys c) { chronicle = noted n ∷ c; high = high_of h; leaf = ref_of b }
variables-noted keys n c h b e p eh el = λ i. record {
  chronicle = noted n ∷ c;
  most = MOST_BLOCKS;
  horizon = horizon-noted n c p i;
  stored = standing-noted n c p i;
  rules = ruled-noted n c i;
  high = high_of (eh i);
  leaf = ref_of (el i);
  own = option_map own_of (proposed-same (identity_of keys) (noted n) c e i);
}

-- where it brings no certificate
pub variables-calm : (keys : Keys) (n : Note) (c : Chronicle) → sets_leaf (noted n) ≡ false
    → is_beat (noted n) ≡ false → is_pruning n ≡ false → raised keys.sizes (noted n) c ≡ None
    → variables_of keys (noted n ∷ c) ≡ record (variables_of keys c) { chronicle = noted n ∷ c }
variables-calm keys n c l e p r =
    let q = qc-same keys.sizes (noted n) c l r in
    variables-noted keys n c (qc_high keys.sizes c) (leaf (identity_of keys) c) e p q
    (leaf-same (identity_of keys) (noted n) c l (ap (λ (j : Justified). length j.block) q))
