-- Views, waiting requests and the block that the next proposal stands on, of a chronicle whose steps came
-- in frames.
use Rattle.ids.specs.declared.limits.TheConstants.{MOST_COMMANDS}
use Rattle.std.proofs.Common.{ℕ, suc, if◌then◌else◌, ◌≡◌, ◌<◌, ◌≤◌, ◌+◌, ◌^◌, ◌&&◌, not, true, List, []}
use Rattle.std.proofs.Common.{◌∷◌, ◌++◌, length, refl, sym, ap, subst, arith, inl, inr, Option, Some, None}
use Rattle.std.proofs.Common.{◌||◌, true≢false, ◌-◌, ◌==◌, nat_lt, nat_le, map, filter, take, is_some}
use Rattle.std.specs.List.{list_any, AllByRecursion}
use Rattle.std.proofs.lemmas.Bool.{and_parts, cond_both, ltb-true, ltb-false}
use Rattle.std.proofs.lemmas.List.{length-take}
use Rattle.ids.specs.Sizes.{Sizes, replicas, quorum}
use Rattle.definitions.specs.Lists.{Among, greatest, count_below}
use Rattle.definitions.specs.Bytes.{Bytes}
use Rattle.definitions.specs.Frames.{Command}
use Rattle.definitions.specs.FrameLimits.{IsCommand, IsCore}
use Rattle.definitions.specs.Branches.{Branch}
use Rattle.definitions.specs.Digests.{digest_of, core_of, core_over}
use Rattle.definitions.specs.Histories.{history_of}
use Rattle.definitions.specs.Chronicles.{Admitted, Step, Step.took_block, Step.noted, Note.got_new_view}
use Rattle.definitions.specs.Chronicles.{Note.got_vote, Note.got_request, Note.timed_out, Note.beat}
use Rattle.definitions.specs.Chronicles.{Chronicle}
use Rattle.definitions.specs.Chronicles.{taken_blocks, tree, history, horizon, IsLawful, AreKnown, IsSound}
use Rattle.definitions.specs.Checks.{Identity}
use Rattle.definitions.specs.States.{known_as, announcements, announced, reached_view, view, raised, qc_high}
use Rattle.definitions.specs.States.{Justified, fills, comes_whole, higher, votes}
use Rattle.definitions.specs.Chronicles.{Note.seen_view, Note.led_from}
use Rattle.definitions.proofs.Horizons.{higher-rises, qc_high-cases, led-high}
use Rattle.definitions.specs.States.{is_same_request, is_due, with_request, pending, leads, find_block}
use Rattle.definitions.specs.States.{is_known, picks, child, leaf, or_else}
use Rattle.std.proofs.lemmas.Option.{same_Some}
use Rattle.definitions.proofs.Sound.{found}
use Rattle.definitions.proofs.Chronicles.{tree-genesis, tree-grows, taken-tree, tree-just1}
use Rattle.std.specs.Prelude.{IfSome}
use Rattle.std.proofs.lemmas.Bool.{cond-true}
use Rattle.definitions.proofs.Certificates.{IsDigest-digest_of, all-filter}
use Rattle.definitions.proofs.Cuts.{all-take}
use Rattle.linear_law.proofs.StoredFrames.{AreStored}

-- ---- views

-- each view that was announced fits into eight bytes
announced-fit : (self : Identity) (c : Chronicle) → AreStored self c
    → AllByRecursion (λ v. v < 2 ^ 64) (map (λ p. p.1) (announcements c))
unfolding announcements
announced-fit self [] h = tt
announced-fit self (noted (got_new_view w r q b) ∷ c) h = (h.0.view_is, announced-fit self c h.1)
announced-fit self (noted (seen_view w r) ∷ c) h = (h.0, announced-fit self c h.1)
announced-fit self (took_block a ∷ c) h = announced-fit self c h.1
announced-fit self (noted n ∷ c) h = announced-fit self c h.1

-- the greatest of numbers below a bound is below it
greatest-below : (n : ℕ) (xs : List ℕ) → 0 < n → AllByRecursion (λ v. v < n) xs → greatest xs < n
unfolding greatest
greatest-below n [] l h = l
greatest-below n (x ∷ xs) l h = let k = greatest-below n xs l h.1 in let j = h.0 in omega (arith, k, j)

-- so does the view that was reached
reached-fits : (self : Identity) (c : Chronicle) → AreStored self c → reached_view self.sizes c < 2 ^ 64
unfolding reached_view
reached-fits self c h =
    greatest-below (2 ^ 64) (filter
    (λ v. nat_lt self.sizes.faults (count_below (replicas self.sizes) (λ i. nat_le v (announced i c))))
    (map (λ p. p.1) (announcements c))) (omega arith)
    (all-filter (λ v. v < 2 ^ 64)
    (λ v. nat_lt self.sizes.faults (count_below (replicas self.sizes) (λ i. nat_le v (announced i c))))
    (map (λ p. p.1) (announcements c)) (announced-fit self c h))

-- the view fits into eight bytes
pub view-fits : (self : Identity) (c : Chronicle) → AreStored self c → view self.sizes c < 2 ^ 64
unfolding view
view-fits self [] h = omega arith
view-fits self (noted timed_out ∷ c) h = omega arith
view-fits self (noted (got_new_view w r q b) ∷ c) h =
    let k =
    view-fits self c h.1 in let l =
    reached-fits self (noted (got_new_view w r q b) ∷ c) h in omega (arith, k, l)
view-fits self (noted (seen_view w r) ∷ c) h =
    let k = view-fits self c h.1 in
    let l = reached-fits self (noted (seen_view w r) ∷ c) h in
    omega (arith, k, l)
view-fits self (took_block a ∷ c) h = view-fits self c h.1
view-fits self (noted n ∷ c) h = view-fits self c h.1

-- ---- requests that wait

-- a list with one more element
pub all-after : {A : Type 0} (P : A → Type 0) (xs : List A) (x : A) → AllByRecursion P xs → P x
    → AllByRecursion P (xs ++ x ∷ [])
all-after P [] x h k = (k, tt)
all-after P (y ∷ xs) x h k = (h.0, all-after P xs x h.1 k)

-- a new request is added last
all-with_request : (self : Identity) (st : Step) (c : Chronicle) (ps : List Command)
    → AreStored self (st ∷ c) → AllByRecursion (IsCommand self.sizes) ps
    → AllByRecursion (IsCommand self.sizes) (with_request st ps)
all-with_request self (noted (got_request r)) c ps h all =
    cond_both (list_any (is_same_request r) ps) ps (ps ++ r ∷ []) (AllByRecursion (IsCommand self.sizes))
    (λ e. all) (λ e. all-after (IsCommand self.sizes) ps r all h.0)
all-with_request self (took_block a) c ps h all = all
all-with_request self (noted n) c ps h all = all

-- each request that waits came in a frame
pub pending-fit : (self : Identity) (c : Chronicle) → AreStored self c
    → AllByRecursion (IsCommand self.sizes) (pending c)
unfolding pending
pending-fit self [] h = tt
pending-fit self (noted (led_from b) ∷ c) h = tt
pending-fit self (st ∷ c) h =
    all-filter (IsCommand self.sizes) (is_due (history (st ∷ c))) (with_request st (pending c))
    (all-with_request self st c (pending c) h (pending-fit self c h.1))

-- so do those of a new block, 16 at most
pub picks-fit : (self : Identity) (c : Chronicle) (on : Branch) → AreStored self c
    → AllByRecursion (IsCommand self.sizes) (picks c on) × (length (picks c on) ≤ MOST_COMMANDS)
unfolding picks
picks-fit self c on h =
    let kept : List Command =
    filter (λ r. not (list_any (λ e. (e.client == r.client) && (e.seq == r.seq))
    (history_of (take (length on - horizon c) on))))
    (pending c) in (
      all-take (IsCommand self.sizes) MOST_COMMANDS kept
          (all-filter (IsCommand self.sizes)
          (λ r. not (list_any (λ e. (e.client == r.client) && (e.seq == r.seq))
          (history_of (take (length on - horizon c) on))))
          (pending c) (pending-fit self c h)),
      (let l = length-take MOST_COMMANDS kept in omega (arith, l)),
    )

-- ---- the block that the next proposal stands on

-- a block that a beat makes
pub record IsChild (self : Identity) (c : Chronicle) (on b : Branch) : Type 0 where
  pub is : b
      ≡ record { commands = picks c (known_as on c); justify = length (qc_high self.sizes c).block } ∷ on
  pub leads_view : leads self c ≡ true
  pub known : is_known (digest_of on) c ≡ true

-- nothing is no content
pub none-some : {A : Type 0} (x : A) → None ≡ Some x → ⊥
none-some x e = cc

-- a child that is made is one
pub child-is : (self : Identity) (c : Chronicle) (on b : Branch) → child self c on ≡ Some b
    → IsChild self c on b
unfolding child
child-is self c on b =
    cond_both (leads self c && is_known (digest_of on) c) _ _
    (λ (o : Option Branch). o ≡ Some b → IsChild self c on b)
    (λ t e.
    record { is = sym (same_Some _ b e); leads_view = (and_parts _ _ t).0; known = (and_parts _ _ t).1 })
    (λ t e. absurd (none-some b e))

-- how a step leaves it
pub data LeafStep (self : Identity) (st : Step) (c : Chronicle) : Branch → Type 0 where
  raises : length (qc_high self.sizes c).block < length (qc_high self.sizes (st ∷ c)).block
      → LeafStep self st c (qc_high self.sizes (st ∷ c)).block
  keeps : length (qc_high self.sizes (st ∷ c)).block ≡ length (qc_high self.sizes c).block
      → LeafStep self st c (leaf self c)
  moves : (b : Branch) → st ≡ (noted (led_from b)) → (qc_high self.sizes (st ∷ c)).block ≡ b
      → LeafStep self st c b
  makes : (b : Branch) → st ≡ (noted beat)
      → length (qc_high self.sizes (st ∷ c)).block ≡ length (qc_high self.sizes c).block
      → child self c (leaf self c) ≡ Some b → LeafStep self st c b

-- a step that is no beat and no lead
leaf-either : (self : Identity) (st : Step) (c : Chronicle)
    → length (qc_high self.sizes c).block ≤ length (qc_high self.sizes (st ∷ c)).block
    → LeafStep self st c (if nat_lt (length (qc_high self.sizes c).block)
    (length (qc_high self.sizes (st ∷ c)).block) then (qc_high self.sizes (st ∷ c)).block else leaf self
    c)
leaf-either self st c rises =
    cond_both (nat_lt (length (qc_high self.sizes c).block) (length (qc_high self.sizes (st ∷ c)).block)) _
    _ (LeafStep self st c)
    (λ e. raises (ltb-true _ _ e))
    (λ e. keeps (let l = ltb-false _ _ e in omega (arith, l, rises)))

-- a beat raises no certificate
beat-same : (self : Identity) (c : Chronicle)
    → length (qc_high self.sizes (noted beat ∷ c)).block ≡ length (qc_high self.sizes c).block
unfolding qc_high raised
beat-same self c = refl

-- each step leaves it in one of these ways
pub leaf-step : (self : Identity) (st : Step) (c : Chronicle) → LeafStep self st c (leaf self (st ∷ c))
unfolding leaf qc_high
leaf-step self (noted (led_from b)) c = moves b refl (led-high self.sizes b c)
leaf-step self (noted beat) c = by (child self c (leaf self c)) refl
  where
    by : (o : Option Branch) → child self c (leaf self c) ≡ o
        → LeafStep self (noted beat) c (or_else o (leaf self c))
    by None e = keeps (beat-same self c)
    by (Some b) e = makes b refl (beat-same self c) e
leaf-step self (took_block a) c =
    leaf-either self (took_block a) c
    (higher-rises true (raised self.sizes (took_block a) c) (qc_high self.sizes c))
leaf-step self (noted n) c =
    leaf-either self (noted n) c
    (higher-rises (comes_whole (noted n)) (raised self.sizes (noted n) c) (qc_high self.sizes c))

-- what a step brings is for a known block
pub brought-known : (s : Sizes) (st : Step) (c : Chronicle) → IsLawful s (st ∷ c) → AreKnown (st ∷ c)
    → IfSome (raised s st c) (λ q. Among q.block (tree (st ∷ c)))
unfolding raised taken_blocks
brought-known s (took_block a) c l k =
    cond_both a.new _ _ (λ (o : Option Justified). IfSome o (λ q. Among q.block (tree (took_block a ∷ c))))
    (λ e. tree-just1 s (took_block a ∷ c) l a.branch
    (taken-tree (took_block a ∷ c) a (subst (λ (xs : List Admitted). Among a xs)
    (sym (cond-true a.new (a ∷ taken_blocks c) (taken_blocks c) e)) (inl refl)))) (λ e. tt)
brought-known s (noted (got_vote voter v b)) c l k =
    cond_both (nat_lt (length (votes s b c)) (quorum s)
    && (length (votes s b (noted (got_vote voter v b) ∷ c)) == quorum s)) _ _
    (λ (o : Option Justified). IfSome o
    (λ q. Among q.block (tree (noted (got_vote voter v b) ∷ c))))
    (λ e. tree-grows (noted (got_vote voter v b)) c b k.0) (λ e. tt)
brought-known s (noted (got_new_view w r q b)) c l k = tree-grows (noted (got_new_view w r q b)) c b k.0
brought-known s (noted n) c l k = tt

pub known-before : (st : Step) (c : Chronicle) → AreKnown (st ∷ c) → AreKnown c
known-before (took_block a) c k = k
known-before (noted (got_vote voter v b)) c k = k.1
known-before (noted (got_new_view w r q b)) c k = k.1
known-before (noted (led_from b)) c k = k.1
known-before (noted n) c k = k

-- so is the highest one
pub high-known : (s : Sizes) (c : Chronicle) → IsLawful s c → AreKnown c → Among (qc_high s c).block (tree c)
unfolding qc_high
high-known s [] l k = tree-genesis []
high-known s (st ∷ c) l k =
    elim (qc_high-cases s st c) [
      | inl led ↦ subst (λ (x : Step). Among (qc_high s (x ∷ c)).block (tree (x ∷ c))) (sym led.1)
          (subst (λ (b : Branch). Among b (tree (noted (led_from led.0) ∷ c))) (sym (led-high s led.0 c))
          (tree-grows (noted (led_from led.0)) c led.0
          (subst (λ (x : Step). AreKnown (x ∷ c)) led.1 k).0))
      | inr e ↦ subst P (sym e) (by (raised s st c) (brought-known s st c l k)
          (tree-grows st c (qc_high s c).block (high-known s c l.1 (known-before st c k))))
    ]
  where
    P : Justified → Type 0
    P q = Among q.block (tree (st ∷ c))

    by : (o : Option Justified) → IfSome o P → P (qc_high s c) → P (higher (comes_whole st) o (qc_high s c))
    by None m old = old
    by (Some q) m old =
        cond_both (nat_lt (length (qc_high s c).block) (length q.block)
        || (comes_whole st && fills q (qc_high s c))) q
        (qc_high s c) P (λ t. m) (λ t. old)

-- each step leaves it as high as the highest certified block
above-step : (self : Identity) (st : Step) (c : Chronicle) (b : Branch)
    → length (qc_high self.sizes c).block ≤ length (leaf self c) → LeafStep self st c b
    → length (qc_high self.sizes (st ∷ c)).block ≤ length b
above-step self st c b h (raises l) = omega arith
above-step self st c b h (keeps l) = omega (arith, h, l)
above-step self st c b h (moves x e k) = let i = ap (λ (y : Branch). length y) k in omega (arith, i)
above-step self st c b h (makes x e l k) =
    let i = ap (λ (y : Branch). length y) (child-is self c (leaf self c) x k).is in
    omega (arith, h, l, i)

-- so it is at the start
genesis-above : (self : Identity) → length (qc_high self.sizes []).block ≤ length (leaf self [])
unfolding qc_high leaf
genesis-above self = omega arith

-- it is as high as the block of the highest certificate
pub leaf-above : (self : Identity) (c : Chronicle)
    → length (qc_high self.sizes c).block ≤ length (leaf self c)
leaf-above self [] = genesis-above self
leaf-above self (st ∷ c) = above-step self st c (leaf self (st ∷ c)) (leaf-above self c) (leaf-step self st c)

-- each step puts it higher by one at most, or on the highest certified block
raised-low : (self : Identity) (c : Chronicle)
    → length (leaf self c) ≤ length c + length (qc_high self.sizes c).block
unfolding leaf
raised-low self [] = omega arith
raised-low self (st ∷ c) = by (raised-low self c) (leaf self (st ∷ c)) (leaf-step self st c)
  where
    by : length (leaf self c) ≤ length c + length (qc_high self.sizes c).block → (b : Branch)
        → LeafStep self st c b → length b ≤ length (st ∷ c) + length (qc_high self.sizes (st ∷ c)).block
    by low b (raises l) = omega arith
    by low b (keeps l) = omega (arith, low, l)
    by low b (moves x e k) = let i = ap (λ (y : Branch). length y) k in omega (arith, i)
    by low b (makes x beats l e) =
        let i = ap (λ (y : Branch). length y) (child-is self c (leaf self c) x e).is in
        omega (arith, low, l, i)

-- so its height is bounded by the number of steps
pub leaf-low : (self : Identity) (c : Chronicle) → IsSound self.sizes c
    → length (leaf self c) ≤ length c + 2 ^ 58
leaf-low self c so =
    let low = raised-low self c in
    let high = so.heights (qc_high self.sizes c).block (high-known self.sizes c so.lawful so.known) in
    omega (arith, low, high)

-- ---- the core of a new block

-- the leaf's digest is that of a block of the tree
pub known-block : (d : Bytes) (c : Chronicle) → is_known d c ≡ true
    → (x : Branch) × Among x (tree c) × (digest_of x ≡ d)
unfolding is_known
known-block d c h = by (find_block d c) refl h
  where
    by : (o : Option Branch) → find_block d c ≡ o → is_some o ≡ true
        → (x : Branch) × Among x (tree c) × (digest_of x ≡ d)
    by None e t = absurd (true≢false (sym t))
    by (Some x) e t = (let r = found d c x e in (x, r.0, r.1))

-- the core of a block that a beat makes on a leaf of this height is one of a frame
pub child-core : (self : Identity) (c : Chronicle) (b : Branch) → AreStored self c
    → suc (length (leaf self c)) < 2 ^ 64 → IsChild self c (leaf self c) b → IsCore self.sizes (core_of b)
unfolding core_of core_over
child-core self c b h low ch =
    subst (λ (x : Branch). IsCore self.sizes (core_of x)) (sym ch.is) (record {
      parent = IsDigest-digest_of (leaf self c);
      height = (omega arith, omega (arith, low));
      justify_height = (let l = leaf-above self c in omega (arith, l));
      count = (picks-fit self c (known_as (leaf self c) c) h).1;
      commands = (picks-fit self c (known_as (leaf self c) c) h).0;
    })
