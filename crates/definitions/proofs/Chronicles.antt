-- What a chronicle says of its tree, votes, lock and decisions, and what its law adds.
use Rattle.definitions.proofs.Branches.{just1-extends, extends-cases, highest-above, highest-among}
use Rattle.std.proofs.Common.{◌≡◌, ◌<◌, ◌≤◌, ◌⊎◌, Bool, true, false, List, [], ◌∷◌, ◌++◌, length, cond}
use Rattle.std.proofs.Common.{refl, sym, ap, subst, ◌∙◌, arith, inl, inr, map}
use Rattle.definitions.proofs.Lists.{Among-after, Among-either, Among-map, greatest-above, Among-before}
use Rattle.definitions.proofs.Lists.{Among-mapped}
use Rattle.definitions.specs.Lists.{Among}
use Rattle.definitions.specs.Branches.{Block, Branch, just1, Extends, IsBranch, just2, just3}
use Rattle.ids.specs.Sizes.{Sizes}
use Rattle.definitions.specs.Trees.{Stored, blocks}
use Rattle.definitions.specs.Chronicles.{Admitted, Step, Step.took_block, Step.noted, Chronicle, taken_blocks}
use Rattle.definitions.specs.Chronicles.{stored_blocks, stored_block, tree, lock, IsLawfulVote, IsLawfulStep}
use Rattle.definitions.specs.Chronicles.{IsLawful, voted_blocks, IsLawfulTake, vheight, decides, decided_by}
use Rattle.definitions.specs.Chronicles.{decided, executed}

pub tree-genesis : (c : Chronicle) → Among [] (tree c)
unfolding tree
tree-genesis c = Among-after [] _ ([] ∷ []) (inl refl)

-- ---- a step more

pub tree-step : (a : Admitted) (c : Chronicle) (x : Branch) (t : Bool)
    → Among x (blocks (map stored_block (taken_blocks c)))
    → Among x (blocks (map stored_block (cond t (a ∷ taken_blocks c) (taken_blocks c))))
tree-step a c x true m = inr m
tree-step a c x false m = m

pub tree-grows : (st : Step) (c : Chronicle) (x : Branch) → Among x (tree c) → Among x (tree (st ∷ c))
unfolding tree stored_blocks taken_blocks
tree-grows (took_block a) c x m = tree-step a c x a.new m
tree-grows (noted n) c x m = m

pub voted-step : (a : Admitted) (c : Chronicle) (x : Branch) (t : Bool) → Among x (voted_blocks c)
    → Among x (cond t (a.branch ∷ voted_blocks c) (voted_blocks c))
voted-step a c x true m = inr m
voted-step a c x false m = m

pub voted-grows : (st : Step) (c : Chronicle) (x : Branch) → Among x (voted_blocks c)
    → Among x (voted_blocks (st ∷ c))
unfolding voted_blocks
voted-grows (took_block a) c x m = voted-step a c x a.voted m
voted-grows (noted n) c x m = m

-- what was voted for was taken
pub voted-tree-step : (a : Admitted) (c : Chronicle) (x : Branch) (t : Bool)
    → (t ≡ true → Among a.branch (tree (took_block a ∷ c)))
    → (Among x (voted_blocks c) → Among x (tree (took_block a ∷ c)))
    → Among x (cond t (a.branch ∷ voted_blocks c) (voted_blocks c)) → Among x (tree (took_block a ∷ c))
voted-tree-step a c x true here rest (inl e) =
    subst (λ (y : Branch). Among y (tree (took_block a ∷ c))) (sym e) (here refl)
voted-tree-step a c x true here rest (inr m) = rest m
voted-tree-step a c x false here rest m = rest m

pub voted-tree : (need : Sizes) (c : Chronicle) → IsLawful need c → (x : Branch) → Among x (voted_blocks c)
    → Among x (tree c)
unfolding voted_blocks
voted-tree need [] l x m = absurd m
voted-tree need (took_block a ∷ c) l x m =
    voted-tree-step a c x a.voted (λ v. (l.0.0 v).taken)
    (λ k. tree-grows (took_block a) c x (voted-tree need c l.1 x k)) m
voted-tree need (noted n ∷ c) l x m = tree-grows (noted n) c x (voted-tree need c l.1 x m)

-- ---- what a chronicle's law says of all of it

pub taken-step : (a : Admitted) (c : Chronicle) (x : Admitted) (t : Bool) → Among x (taken_blocks c)
    → Among x (cond t (a ∷ taken_blocks c) (taken_blocks c))
taken-step a c x true m = inr m
taken-step a c x false m = m

pub taken-grows : (st : Step) (c : Chronicle) (x : Admitted) → Among x (taken_blocks c)
    → Among x (taken_blocks (st ∷ c))
unfolding taken_blocks
taken-grows (took_block a) c x m = taken-step a c x a.new m
taken-grows (noted n) c x m = m

-- ---- counted votes, in an order

pub taken-now : (st : Step) (c : Chronicle) (a : Admitted) → Among a (taken_blocks (st ∷ c))
    → ((st ≡ took_block a) × (a.new ≡ true)) ⊎ Among a (taken_blocks c)
unfolding taken_blocks
taken-now (took_block b) c a m = by b.new refl m
  where
    by : (t : Bool) → b.new ≡ t → Among a (cond t (b ∷ taken_blocks c) (taken_blocks c))
        → ((took_block b ≡ took_block a) × (a.new ≡ true)) ⊎ Among a (taken_blocks c)
    by true n (inl e) = inl (ap (λ (x : Admitted). took_block x) (sym e), ap (λ (x : Admitted). x.new) e ∙ n)
    by true n (inr k) = inr k
    by false n k = inr k
taken-now (noted n) c a m = inr m

pub tree-cases : (c : Chronicle) (b : Branch) → Among b (tree c)
    → (b ≡ []) ⊎ ((a : Admitted) × Among a (taken_blocks c) × (a.branch ≡ b))
unfolding tree stored_blocks
tree-cases c b m =
    elim (Among-either b (map (λ s. s.branch) (map stored_block (taken_blocks c))) ([] ∷ []) m) [
      | inl k ↦ (
          let r = Among-map (λ (s : Stored). s.branch) (map stored_block (taken_blocks c)) b k in
          let q = Among-map stored_block (taken_blocks c) r.0 r.1 in
          inr (q.0, q.1, sym (r.2 ∙ ap (λ (s : Stored). s.branch) q.2)))
      | inr k ↦ (elim k [ inl e ↦ inl e | inr n ↦ absurd n ])
    ]

-- what was taken is a branch, and was new
pub take-step : (s : Sizes) (a : Admitted) (c : Chronicle) (x : Admitted) (t : Bool) → a.new ≡ t
    → (a.new ≡ true → IsLawfulTake s a c)
    → (Among x (taken_blocks c) → IsBranch x.branch × (x.new ≡ true))
    → ((b : Branch) → Among b (tree c) → IsBranch b) → Among x (cond t (a ∷ taken_blocks c) (taken_blocks c))
    → IsBranch x.branch × (x.new ≡ true)
take-step s a c x true e law rest br (inl i) =
    let l = law e in
    subst (λ (y : Admitted). IsBranch y.branch × (y.new ≡ true)) (sym i)
    (subst IsBranch (sym l.parent.2) (l.parent.3, br l.parent.1 l.parent.4), e)
take-step s a c x true e law rest br (inr m) = rest m
take-step s a c x false e law rest br m = rest m

pub tree-branch : (s : Sizes) (c : Chronicle)
    → ((x : Admitted) → Among x (taken_blocks c) → IsBranch x.branch × (x.new ≡ true))
    → (b : Branch) → Among b (tree c) → IsBranch b
tree-branch s c f b m =
    elim (tree-cases c b m) [ inl e ↦ subst IsBranch (sym e) tt | inr r ↦ subst IsBranch r.2 (f r.0 r.1).0 ]

pub lawful-taken : (s : Sizes) (c : Chronicle) → IsLawful s c → (x : Admitted) → Among x (taken_blocks c)
    → IsBranch x.branch × (x.new ≡ true)
unfolding taken_blocks
lawful-taken s [] l x m = absurd m
lawful-taken s (took_block a ∷ c) l x m =
    take-step s a c x a.new refl l.0.1 (lawful-taken s c l.1 x)
    (λ b k. tree-branch s c (λ y n. lawful-taken s c l.1 y n) b k) m
lawful-taken s (noted n ∷ c) l x m = lawful-taken s c l.1 x m

-- ---- votes

-- the newest step votes for b, by the law
pub record IsVote (b : Branch) (now earlier : Chronicle) : Type 0 where
  pub voted_is : voted_blocks now ≡ b ∷ voted_blocks earlier
  pub law : IsLawfulVote b now earlier

pub voted-height : (c : Chronicle) (b : Branch) → Among b (voted_blocks c) → length b ≤ vheight c
unfolding vheight
voted-height c b m =
    greatest-above (map length (voted_blocks c)) (length b) (Among-mapped length (voted_blocks c) b m)

-- the newest vote is higher than each earlier one
pub vote-higher : (b x : Branch) (now earlier : Chronicle) → IsVote b now earlier
    → Among x (voted_blocks earlier)
    → length x < length b
vote-higher b x now earlier v m = omega (arith, v.law.higher, voted-height earlier x m)

-- a step has one vote
pub same-vote : (a b : Branch) (now earlier : Chronicle) → IsVote a now earlier → IsVote b now earlier → a ≡ b
same-vote a b now earlier v w = let e = v.voted_is in let f = w.voted_is in cc

-- the lock is as high as just2 of each block taken
pub lock-above : (c : Chronicle) (a : Admitted) → Among a (taken_blocks c)
    → length (just2 a.branch) ≤ length (lock c)
unfolding lock
lock-above c a m = highest-above _ _ (Among-mapped (λ (x : Admitted). just2 x.branch) (taken_blocks c) a m)

-- the lock is genesis, or just2 of a block taken
pub lock-cases : (c : Chronicle)
    → (lock c ≡ []) ⊎ ((a : Admitted) × Among a (taken_blocks c) × (lock c ≡ just2 a.branch))
unfolding lock
lock-cases c =
    elim (highest-among (map (λ (x : Admitted). just2 x.branch) (taken_blocks c))) [
      | inl e ↦ inl e
      | inr m ↦ inr (Among-map (λ (x : Admitted). just2 x.branch) (taken_blocks c) _ m)
    ]

-- ---- the tree

-- what a taken block stands on is in the tree
pub taken-parent : (s : Sizes) (c : Chronicle) → IsLawful s c → (a : Admitted) → Among a (taken_blocks c)
    → (b : Block) × (parent : Branch) × (a.branch ≡ b ∷ parent) × Among parent (tree c)
unfolding taken_blocks
taken-parent s [] l a m = absurd m
taken-parent s (st ∷ c) l a m =
    elim (taken-now st c a m) [
      | inl now ↦
          (let p =
          ((subst (λ (x : Step). IsLawfulStep s x c) now.0 l.0).1 now.1).parent in
          (p.0, p.1, p.2, tree-grows st c p.1 p.4))
      | inr k ↦ (let p = taken-parent s c l.1 a k in (p.0, p.1, p.2, tree-grows st c p.1 p.3))
    ]

-- a block of the tree above genesis was taken
pub tree-taken : (c : Chronicle) (b : Branch) → Among b (tree c) → 0 < length b
    → (a : Admitted) × Among a (taken_blocks c) × (a.branch ≡ b)
tree-taken c b m h =
    elim (tree-cases c b m) [ inl e ↦ absurd (omega (arith, ap (λ (z : Branch). length z) e)) | inr r ↦ r ]

-- the tree has the parent of each of its blocks
pub tree-parent : (s : Sizes) (c : Chronicle) → IsLawful s c → (b : Block) (parent : Branch)
    → Among (b ∷ parent) (tree c) → Among parent (tree c)
tree-parent s c l b parent m =
    let a = tree-taken c (b ∷ parent) m (omega arith) in
    let p = taken-parent s c l a.0 a.1 in
    let e : p.1 ≡ parent = cc (a.2, p.2) in
    subst (λ (x : Branch). Among x (tree c)) e p.3

-- all below a block of the tree stands in it
pub tree-extends : (s : Sizes) (c : Chronicle) → IsLawful s c → (b x : Branch) → Among b (tree c)
    → Extends b x → Among x (tree c)
tree-extends s c l [] x m ([], e) = subst (λ (y : Branch). Among y (tree c)) (sym e) m
tree-extends s c l [] x m (d ∷ added, e) = absurd (nil (sym e))
  where
    nil : [] ≡ d ∷ (added ++ x) → ⊥
    nil k = cc
tree-extends s c l (b ∷ parent) x m h =
    elim (extends-cases b parent x h) [
      | inl e ↦ subst (λ (y : Branch). Among y (tree c)) (sym e) m
      | inr k ↦ tree-extends s c l parent x (tree-parent s c l b parent m) k
    ]

pub tree-just1 : (s : Sizes) (c : Chronicle) → IsLawful s c → (b : Branch) → Among b (tree c)
    → Among (just1 b) (tree c)
tree-just1 s c l b m = tree-extends s c l b (just1 b) m (just1-extends b)

-- a taken block is in the tree
pub taken-tree : (c : Chronicle) (a : Admitted) → Among a (taken_blocks c) → Among a.branch (tree c)
unfolding tree stored_blocks
taken-tree c a m =
    Among-before a.branch (map (λ (s : Stored). s.branch) (map stored_block (taken_blocks c))) ([] ∷ [])
    (Among-mapped (λ (s : Stored). s.branch) (map stored_block (taken_blocks c)) (stored_block a)
    (Among-mapped stored_block (taken_blocks c) a m))

-- ---- decisions

pub decided-step : (a : Admitted) (before : List Admitted) (b : Branch) (t : Bool) → decides a.branch ≡ t
    → Among b (cond t (just3 a.branch ∷ decided_by before) (decided_by before))
    → ((b ≡ just3 a.branch) × (decides a.branch ≡ true)) ⊎ Among b (decided_by before)
decided-step a before b true d (inl e) = inl (e, d)
decided-step a before b true d (inr m) = inr m
decided-step a before b false d m = inr m

pub decided_by-cases : (xs : List Admitted) (b : Branch) → Among b (decided_by xs)
    → (a : Admitted) × Among a xs × (b ≡ just3 a.branch) × (decides a.branch ≡ true)
unfolding decided_by
decided_by-cases [] b m = absurd m
decided_by-cases (a ∷ before) b m =
    elim (decided-step a before b (decides a.branch) refl m) [
      | inl e ↦ (a, inl refl, e.0, e.1)
      | inr k ↦ (let r = decided_by-cases before b k in (r.0, inr r.1, r.2, r.3))
    ]

-- what is decided is genesis, or the third below a taken block that decides it
pub decided-cases : (c : Chronicle) (b : Branch) → Among b (decided c)
    → (b ≡ [])
    ⊎ ((a : Admitted) × Among a (taken_blocks c) × (b ≡ just3 a.branch) × (decides a.branch ≡ true))
unfolding decided
decided-cases c b m =
    elim (Among-either b (decided_by (taken_blocks c)) ([] ∷ []) m) [
      | inl k ↦ inr (decided_by-cases (taken_blocks c) b k)
      | inr k ↦ (elim k [ inl e ↦ inl e | inr n ↦ absurd n ])
    ]

pub vote-cases : (a : Admitted) (c : Chronicle) (b : Branch) (t : Bool) → a.voted ≡ t
    → voted_blocks (took_block a ∷ c) ≡ cond t (a.branch ∷ voted_blocks c) (voted_blocks c)
    → (a.voted ≡ true → IsLawfulVote a.branch (took_block a ∷ c) c)
    → Among b (cond t (a.branch ∷ voted_blocks c) (voted_blocks c))
    → IsVote b (took_block a ∷ c) c ⊎ Among b (voted_blocks c)
vote-cases a c b true e same law (inl i) =
    inl (subst (λ (x : Branch). IsVote x (took_block a ∷ c) c) (sym i)
    (record { voted_is = same; law = law e }))
vote-cases a c b true e same law (inr m) = inr m
vote-cases a c b false e same law m = inr m

-- a vote is the newest step's, or an earlier one
pub voted-cases : (s : Sizes) (st : Step) (c : Chronicle) (b : Branch) → IsLawful s (st ∷ c)
    → Among b (voted_blocks (st ∷ c)) → IsVote b (st ∷ c) c ⊎ Among b (voted_blocks c)
unfolding voted_blocks
voted-cases s (took_block a) c b l m = vote-cases a c b a.voted refl refl l.0.0 m
voted-cases s (noted n) c b l m = inr m

-- one height is voted for once
pub one-vote : (s : Sizes) (c : Chronicle) → IsLawful s c → (a b : Branch) → Among a (voted_blocks c)
    → Among b (voted_blocks c) → length a ≡ length b → a ≡ b
unfolding voted_blocks
one-vote s [] l a b m n e = absurd m
one-vote s (st ∷ c) l a b m n e =
    elim (voted-cases s st c a l m) [
      | inl v ↦ (elim (voted-cases s st c b l n) [
        | inl w ↦ same-vote a b (st ∷ c) c v w
        | inr k ↦ absurd (omega (arith, vote-higher a b (st ∷ c) c v k))
      ])
      | inr h ↦ (elim (voted-cases s st c b l n) [
        | inl w ↦
            absurd (omega (arith, vote-higher b a (st ∷ c) c w h))
        | inr k ↦ one-vote s c l.1 a b h k e
      ])
    ]

pub decided-genesis : (c : Chronicle) → Among [] (decided c)
unfolding decided
decided-genesis c = Among-after [] _ ([] ∷ []) (inl refl)

pub executed-decided : (c : Chronicle) → Among (executed c) (decided c)
unfolding executed
executed-decided c = elim (highest-among (decided c))
    [ inl e ↦ subst (λ (x : Branch). Among x (decided c)) (sym e) (decided-genesis c) | inr m ↦ m ]
