-- What the rules say of a vote, by plain values, is what the whole chronicle says.
use Rattle.ids.specs.declared.limits.TheConstants.{MOST_BLOCKS}
use Rattle.std.proofs.Common.{ℕ, suc, ◌≡◌, ◌<◌, ◌==◌, ◌&&◌, Bool, true, false, List, ◌∷◌, length, refl, sym}
use Rattle.std.proofs.Common.{arith, ap, subst, ◌∙◌, nat_lt, Option, Some, None}
use Rattle.std.specs.Prelude.{◌||◌}
use Rattle.ids.specs.Sizes.{Sizes}
use Rattle.definitions.specs.Bytes.{Bytes}
use Rattle.definitions.specs.Branches.{Branch, justify_height, extends}
use Rattle.definitions.specs.Digests.{digest_of}
use Rattle.definitions.specs.Frames.{Core, Certificate}
use Rattle.definitions.specs.Lists.{Among}
use Rattle.definitions.specs.Trees.{Stored, blocks, find_in, block_of, clear_above, Placing.grows, placing}
use Rattle.definitions.specs.Chronicles.{Admitted, Step.took_block, Chronicle, taken_blocks, stored_blocks}
use Rattle.definitions.specs.Chronicles.{stored_block, horizon, standing_blocks, window}
use Rattle.definitions.specs.Chronicles.{vheight, lock, is_safe, IsSound}
use Rattle.definitions.specs.States.{view}
use Rattle.definitions.specs.Rulings.{votes_for}
use Rattle.definitions.proofs.Trees.{IsGrowth, growth-new}
use Rattle.definitions.proofs.Horizons.{window-grown}
use Rattle.replica_rules.specs.Ruled.{ruled_by}
use Rattle.replica_rules.specs.Votes.{is_safe_in, may_vote_at, may_vote_in, may_vote_over, candidate_of}
use Rattle.replica_rules.proofs.Held.{Holds, sound-holds, lock-found, extends-found, clear-found}
use Rattle.replica_rules.proofs.Candidates.{extends-over, clear-over, grown}

module _ (horizon : ℕ) (all : List Stored) (c : Chronicle) (h : Holds horizon all c) where
  -- on the branch of a block of the tree
  safe_found : (d : Bytes) (x : Branch) (height justified : ℕ) → find_in d (blocks all) ≡ Some x
      → is_safe_in (ruled_by c) d height justified all
      ≡ (nat_lt (vheight c) height && (extends x (lock c) || nat_lt (length (lock c)) justified))
  safe_found d x height justified f =
      ap (λ (e : Bool). nat_lt (vheight c) height && (e || nat_lt (length (lock c)) justified))
      (extends-found d (digest_of (lock c)) (blocks all) x (lock c) f (lock-found horizon all c h))

  vote_found : (d : Bytes) (x : Branch) (height justified : ℕ) → find_in d (blocks all) ≡ Some x
      → may_vote_at (ruled_by c) d height justified all
      ≡ ((nat_lt (vheight c) height && (extends x (lock c) || nat_lt (length (lock c)) justified)) &&
      clear_above justified x all)
  vote_found d x height justified f =
      λ i. safe_found d x height justified f i && clear-found d justified all x f i

  -- a block of the tree
  pub may-vote-found : (d : Bytes) (b : Branch) → find_in d (blocks all) ≡ Some b
      → may_vote_in (ruled_by c) d all ≡ (is_safe b c && clear_above (justify_height b) b all)
  unfolding is_safe
  may-vote-found d b f =
      ap (λ (o : Option Branch). elim o
      [ Some b ↦ may_vote_at (ruled_by c) d (length b) (justify_height b) all | None ↦ false ]) f
      ∙ vote_found d b (length b) (justify_height b) f

  swapped : (x y z : Bool) → x && (y && z) ≡ y && (x && z)
  swapped true y z = refl
  swapped false true z = refl
  swapped false false z = refl

  -- a new block over its parent
  pub may-vote-grown : (most : ℕ) (core : Core) (q s : Certificate) (clear : Bool) (b parent : Branch)
      → core.justify_height < core.height → IsGrowth horizon most core q (blocks all) b parent
      → may_vote_over (ruled_by c) (candidate_of core clear) all
      ≡ (is_safe b c && clear_above (justify_height b) b
      (record { branch = b; certificate = s; clear = clear } ∷ all))
  unfolding is_safe justify_height
  may-vote-grown most core q s clear b parent below g =
      let new : Among (block_of core ∷ parent) (blocks all) → ⊥ =
      subst (λ (x : Branch). Among x (blocks all) → ⊥) g.is (growth-new horizon most core q
      (blocks all) b parent g)
      in
      let other : lock c ≡ block_of core ∷ parent → ⊥ =
      λ e. new (subst (λ (x : Branch). Among x (blocks all)) e h.lock) in
      let low : core.justify_height < suc (length parent) =
      subst (λ (n : ℕ). core.justify_height < n) g.height below in
      let safe : Bool =
      nat_lt (vheight c) core.height
      && (extends parent (lock c) || nat_lt (length (lock c)) core.justify_height) in
      let marks = clear-over (block_of core) parent s clear all low new in
      let path = extends-over (block_of core) parent (lock c) other in
      let whole : may_vote_over (ruled_by c) (candidate_of core clear) all
      ≡ (safe && (clear && clear_above core.justify_height parent all)) =
      ap (λ (x : Bool). clear && x)
      (vote_found core.parent parent core.height core.justify_height g.parent_found)
      ∙ swapped clear safe (clear_above core.justify_height parent all) in
      subst (λ (x : Branch). may_vote_over (ruled_by c) (candidate_of core clear) all
      ≡ (is_safe x c && clear_above (justify_height x) x
      (record { branch = x; certificate = s; clear = clear } ∷ all))) (sym g.is)
      (whole
      ∙ (λ i.
      (nat_lt (vheight c) (g.height i) && (sym path i || nat_lt (length (lock c)) core.justify_height))
      && sym marks i))

-- ---- of a chronicle's own window

-- a block that stands there
pub may-vote-known : (sizes : Sizes) (c : Chronicle) (d : Bytes) (b : Branch) → IsSound sizes c
    → find_in d (window c) ≡ Some b
    → may_vote_in (ruled_by c) d (standing_blocks c)
    ≡ (is_safe b c && clear_above (justify_height b) b (standing_blocks c))
unfolding window
may-vote-known sizes c d b s f =
    may-vote-found (horizon c) (standing_blocks c) c (sound-holds sizes c s) d b f

-- a block that may stand there, with any certificate
pub may-vote-new : (sizes : Sizes) (c : Chronicle) (core : Core) (q : Certificate) (a : Admitted)
    → IsSound sizes c → core.justify_height < core.height
    → placing (horizon c) MOST_BLOCKS core q (window c) ≡ grows a.branch
    → may_vote_over (ruled_by c) (candidate_of core a.clear) (standing_blocks c)
    ≡ (is_safe a.branch c && clear_above (justify_height a.branch) a.branch
    (stored_block a ∷ standing_blocks c))
unfolding window
may-vote-new sizes c core q a s below e =
    let g = grown (horizon c) MOST_BLOCKS core q (blocks (standing_blocks c)) a.branch e in
    may-vote-grown (horizon c) (standing_blocks c) c (sound-holds sizes c s) MOST_BLOCKS core q a.certificate
    a.clear a.branch g.0 below g.1

-- ---- the vote on a proposal

pub standing-known : (a : Admitted) (c : Chronicle) → a.new ≡ false
    → standing_blocks (took_block a ∷ c) ≡ standing_blocks c
unfolding standing_blocks stored_blocks taken_blocks horizon
standing-known a c n = rw n refl

pub standing-new : (c : Chronicle) (core : Core) (q : Certificate) (a : Admitted)
    → core.justify_height < core.height → a.new ≡ true
    → placing (horizon c) MOST_BLOCKS core q (window c) ≡ grows a.branch
    → standing_blocks (took_block a ∷ c) ≡ stored_block a ∷ standing_blocks c
standing-new c core q a below n e =
    let g = grown (horizon c) MOST_BLOCKS core q (window c) a.branch e in
    let high = ap (λ (b : Branch). length b) g.1.is in
    window-grown a c n (let above = g.1.above in let height = g.1.height in
    omega (arith, above, below, height, high))

pub votes-known : (sizes : Sizes) (w : ℕ) (c : Chronicle) (d : Bytes) (a : Admitted) → IsSound sizes c
    → a.new ≡ false → find_in d (window c) ≡ Some a.branch
    → votes_for sizes (Some w) a c ≡ ((w == view sizes c) && may_vote_in (ruled_by c) d (standing_blocks c))
unfolding votes_for
votes-known sizes w c d a s n f =
    ap (λ (all : List Stored). (w == view sizes c)
    && (is_safe a.branch c && clear_above (justify_height a.branch) a.branch all)) (standing-known a c n)
    ∙ ap (λ (x : Bool). (w == view sizes c) && x) (sym (may-vote-known sizes c d a.branch s f))

pub votes-new : (sizes : Sizes) (w : ℕ) (c : Chronicle) (core : Core) (q : Certificate) (a : Admitted)
    → IsSound sizes c → core.justify_height < core.height → a.new ≡ true
    → placing (horizon c) MOST_BLOCKS core q (window c) ≡ grows a.branch
    → votes_for sizes (Some w) a c
    ≡ ((w == view sizes c) && may_vote_over (ruled_by c) (candidate_of core a.clear) (standing_blocks c))
unfolding votes_for
votes-new sizes w c core q a s below n e =
    ap (λ (all : List Stored). (w == view sizes c)
    && (is_safe a.branch c && clear_above (justify_height a.branch) a.branch all)) (standing-new c core q a
    below n e)
    ∙ ap (λ (x : Bool). (w == view sizes c) && x) (sym (may-vote-new sizes c core q a s below e))
