-- What taking a block in changes is what its step changes.
use Rattle.ids.specs.declared.limits.TheConstants.{MOST_BLOCKS}
use Rattle.ids.specs.declared.fault.Fault.{Fault}
use Rattle.ids.specs.declared.fault.Fault.TheVariants as fault
use Rattle.std.proofs.Common.{ℕ, ◌≡◌, ◌<◌, ◌&&◌, Bool, true, false, [], ◌∷◌, length}
use Rattle.std.proofs.Common.{cond, refl, sym, ap, ◌∙◌, subst, List, inl, inr, Option, Some, None, Result, Ok}
use Rattle.std.proofs.Common.{Err}
use Rattle.std.specs.Prelude.{option_map, MatchResult}
use Rattle.ids.specs.Sizes.{leader}
use Rattle.definitions.specs.Frames.{Core}
use Rattle.definitions.specs.Branches.{Branch, just1}
use Rattle.definitions.specs.Digests.{digest, digest_of, core_of}
use Rattle.definitions.specs.Keyrings.{Keys}
use Rattle.definitions.specs.Checks.{identity_of}
use Rattle.definitions.specs.Trees.{Stored, blocks, find_in, block_of, Placing, Placing.grows}
use Rattle.definitions.specs.Trees.{Placing.lacks_parent, Placing.unfit, placing}
use Rattle.definitions.specs.Chronicles.{Admitted, Step, Step.took_block, Chronicle, standing_blocks}
use Rattle.definitions.specs.Chronicles.{stored_block}
use Rattle.definitions.specs.Chronicles.{horizon, window, IsSound}
use Rattle.definitions.specs.States.{view, raised}
use Rattle.definitions.specs.Rulings.{Ruling.due, admitted, votes_for, on_placing, on_block}
use Rattle.definitions.specs.Rulings.{conflicts}
use Rattle.definitions.specs.Sendings.{to_party, vote_frame}
use Rattle.definitions.specs.Replicas.{Replica, Reaction, ample, running, stopped_at, stops, sends_out, fails}
use Rattle.definitions.specs.Replicas.{on_step, on_ruling}
use Rattle.definitions.specs.Sendings.{sendings}
use Rattle.definitions.proofs.Sound.{Keeps}
use Rattle.definitions.proofs.Trees.{IsGrowth, IsUnfit, IsPlaced, placed, found-in, core-known, digest-core}
use Rattle.block_tree.specs.declared.node.Node.{Node}
use Rattle.block_tree.specs.Nodes.{block_in as node_block, stored_as}
use Rattle.block_tree.specs.Insertions.{IsNodeFor, IsPlanned}
use Rattle.block_tree.specs.declared.insert.Plan.TheVariants.{Grows}
use Rattle.replica_rules.specs.Ruled.{Ruled, ref_of, ruled_by, with_vote}
use Rattle.replica_rules.specs.Votes.{candidate_of, may_vote_in, may_vote_over}
use Rattle.replica_rules.specs.Chains.{ruled_after}
use Rattle.replica_rules.specs.declared.block_ref.BlockRef.{BlockRef}
use Rattle.replica_rules.proofs.Votes.{votes-known, votes-new, standing-known, standing-new}
use Rattle.replica_rules.proofs.Takes.{taking_of, taking-new, taking-stands, taking-refused, justified-new}
use Rattle.replica_rules.proofs.Takes.{ruled-new}
use Rattle.replica_rules.proofs.Takes.{ruled-known}
use Rattle.replica.specs.declared.change.Change.{Change}
use Rattle.replica.specs.declared.state.High.{High}
use Rattle.replica.specs.Replay.{or_genesis, step_of}
use Rattle.signed_frames.specs.Outs.{SentBytes}
use Rattle.replica.specs.Steps.{Shows}
use Rattle.replica.specs.Kept.{Variables, StateParts, own_of, variables_of, IsStateOf}
use Rattle.replica.specs.Changes.{grown, horizon_after, noting, raise_of, leaf_after, IsStep}
use Rattle.replica.specs.Kept.{tree_of}
use Rattle.replica.specs.declared.change.Growth.{Growth}
use Rattle.replica.specs.declared.change.Growth.TheVariants.{Nothing, Block}
use Rattle.replica.specs.declared.stored.StoredStep.{StoredStep}
use Rattle.replica.specs.Offers.{Offered, is_for, justified_of, high_in, votes_sent}
use Rattle.replica.specs.Offers.{again_change, IsTaken, IsGrown, IsDecidedAt, IsDecided}
use Rattle.replica.specs.StepsTo.{Follows, halts, answer, after}
use Rattle.pacemaker.proofs.Reached.{paced-still}
use Rattle.replica.proofs.Steps.{collects, no-memory, asks, refuses, refused, decided, kept_at, where-kept}
use Rattle.replica.proofs.Stays.{shown-if, qc-same, AreHigh, raise-is, unraised, proposed-same}

-- a step that decides against what was executed
refused-for-conflict : (keys : Keys) (c : Chronicle) (st : Step) (s : StateParts) → conflicts st c ≡ true
    → IsStateOf keys c s → Follows keys (due st) c (Err fault.Conflict) s
unfolding on_ruling on_step
refused-for-conflict keys c st s k o =
    let both : Bool → Replica × Reaction =
    λ b. cond b (stopped_at c, fails fault.Conflict)
    (record { chronicle = st ∷ c; standing = running }, sends_out (sendings (identity_of keys) st c)) in
    record {
      memory = ample;
      state = o;
      left = ap (λ (b : Bool). (both b).0) k;
      answer = subst (λ (b : Bool). Shows (both b).1 (Err fault.Conflict)) (sym k) refl;
    }

module _ (keys : Keys) (c : Chronicle) (kept : StateParts) (o : Offered)
    (is : IsStateOf keys c (kept_at keys c kept)) where
  abbrev s : StateParts
  s = kept_at keys c kept

  abbrev v : Variables
  v = variables_of keys c

  -- whom a new block names
  abbrev senders_if : Bool → List ℕ
  senders_if new = cond new o.senders []

  -- the block as the ruling takes it
  abbrev coming : Bool → Branch → Admitted
  coming new b = record (admitted b o.core o.certificate o.found new) { senders = senders_if new }

  abbrev taken : Bool → Branch → Admitted
  taken new b = record (coming new b) { voted = votes_for keys.sizes o.view (coming new b) c }

  -- a change that takes a block
  took-step : (a : Admitted) (step : StoredStep) (g : Growth) (r : Ruled) (h : Option High)
      (out : List SentBytes) → horizon_after g v.horizon ≡ v.horizon
      → step_of step (grown g v.stored) ≡ took_block a
      → grown g v.stored ≡ standing_blocks (took_block a ∷ c) → r ≡ ruled_by (took_block a ∷ c)
      → AreHigh keys (took_block a) c h
      → out ≡ votes_sent keys (view keys.sizes c) (digest_of a.branch) a.voted
      → IsStep keys c (took_block a) s.pace
      (record (noting v step out) { growth = g; rules = r; high = h; leaf = leaf_after h v.high v.leaf })
  unfolding vote_frame horizon
  took-step a step g r h out low steps stored rules high sent = record {
    variables = λ i. record {
      chronicle = steps i ∷ c;
      most = MOST_BLOCKS;
      horizon = low i;
      stored = stored i;
      rules = rules i;
      high = high.high i;
      leaf = high.its_leaf i;
      own = option_map own_of (sym (proposed-same (identity_of keys) (took_block a) c refl) i);
    };
    sizes = is.sizes;
    pace = paced-still (took_block a) c s.pace tt is.pace;
    out =
        sent
        ∙ sym (shown-if a.voted
        (to_party (leader keys.sizes (view keys.sizes c)), vote_frame (identity_of keys) a.branch));
  }

  -- ---- a block that stands in the tree

  voted-again : (b : Branch) → find_in (digest o.core) (window c) ≡ Some b → (w : Option ℕ)
      → (is_for (view keys.sizes c) w && may_vote_in v.rules (digest o.core) v.stored)
      ≡ votes_for keys.sizes w (coming false b) c
  unfolding votes_for admitted
  voted-again b found None = refl
  voted-again b found (Some w) =
      sym (votes-known keys.sizes w c (digest o.core) (coming false b) is.sound refl found)

  again-step : (b : Branch) → find_in (digest o.core) (window c) ≡ Some b
      → IsStep keys c (took_block (taken false b)) s.pace (again_change keys s o)
  unfolding admitted raised window
  again-step b found =
      let a = taken false b in
      let voted = voted-again b found o.view in
      took-step a _ Nothing _ None _ refl
      (λ i. took_block (record a { branch = or_genesis (found i); voted = voted i }))
      (sym (standing-known a c refl))
      ((λ i. elim (found i) [ Some y ↦ with_vote (voted i) (length y) v.rules | None ↦ v.rules ])
      ∙ ruled-known c a refl)
      (unraised keys (took_block a) c refl (qc-same keys.sizes (took_block a) c refl refl))
      (λ i. votes_sent keys (view keys.sizes c)
      (sym (found-in (digest o.core) (window c) b found).1 i) (voted i))

  -- ---- a new block

  module _ (b : Branch) (below : o.core.justify_height < o.core.height)
      (grows-to : placing (horizon c) MOST_BLOCKS o.core o.certificate (window c) ≡ grows b) where
    abbrev new : Admitted
    new = taken true b

    growth : (parent : Branch) × IsGrowth (horizon c) MOST_BLOCKS o.core o.certificate (window c) b parent
    growth = subst (IsPlaced (horizon c) MOST_BLOCKS o.core o.certificate (window c)) grows-to
        (placed (horizon c) MOST_BLOCKS o.core o.certificate (window c))

    voted-new : (w : Option ℕ)
        → (is_for (view keys.sizes c) w && may_vote_over v.rules (candidate_of o.core o.found.clear)
        v.stored) ≡ votes_for keys.sizes w (coming true b) c
    unfolding votes_for admitted
    voted-new None = refl
    voted-new (Some w) =
        sym (votes-new keys.sizes w c o.core o.certificate (coming true b) is.sound below refl grows-to)

    justified-is : justified_of o ≡ ref_of (just1 b)
    justified-is = sym (justified-new keys.sizes c o.core o.certificate b is.sound below grows-to)

    -- what the rules say
    ruled-is : ruled_after v.rules (justified_of o) v.stored ≡ taking_of new c
    unfolding admitted
    ruled-is = ap (λ (r : BlockRef). ruled_after v.rules r v.stored) justified-is
        ∙ taking-new keys.sizes c o.core o.certificate new is.sound below refl grows-to

    -- the block as its node has it
    parent-is : o.core.parent ≡ digest_of growth.0
    parent-is = sym (found-in o.core.parent (window c) growth.0 growth.1.parent_found).1

    node-is : (n : Node) → IsNodeFor (tree_of v) o.core o.certificate o.found.clear n
        → stored_as n (blocks v.stored) ≡ stored_block new
    unfolding admitted window
    node-is n h = λ i. record {
      branch = (ap (λ (k : Core). node_block k (blocks v.stored)) h.core
          ∙ ap (λ (x : Option Branch). block_of o.core ∷ elim x [ Some y ↦ y | None ↦ [] ])
          growth.1.parent_found
          ∙ sym growth.1.is) i;
      certificate = h.certificate i;
      clear = h.clear i;
    }

    new-step : (d : Change) → IsSound keys.sizes (took_block new ∷ c) → IsTaken keys s o d
        → IsStep keys c (took_block new) s.pace d × (conflicts (took_block new) c ≡ false)
    unfolding admitted raised
    new-step d so t =
        let node = node-is t.node t.its_node in
        let voted = voted-new o.view in
        let height : o.core.height ≡ length b =
        growth.1.height ∙ ap (λ (x : Branch). length x) (sym growth.1.is) in
        let digests : digest_of b ≡ digest o.core =
        ap digest_of growth.1.is ∙ digest-core o.core growth.0 parent-is growth.1.height in
        let core : core_of b ≡ o.core =
        ap core_of growth.1.is ∙ core-known o.core growth.0 parent-is growth.1.height in
        let r = taking-stands c new t.rules (sym t.ruled ∙ ruled-is) in (
          subst (IsStep keys c (took_block new) s.pace) (sym t.change)
              (took-step new _ (Block t.node) _ (raise_of (high_in o) v.high) _ refl
              (λ i. took_block (record new {
                branch = (node i).branch;
                core = (ap (λ (x : Stored). core_of x.branch) node ∙ core) i;
                certificate = (node i).certificate;
                clear = (node i).clear;
                voted = voted i;
              }))
              (ap (λ (x : Stored). x ∷ v.stored) node
              ∙ sym (standing-new c o.core o.certificate new below refl grows-to))
              ((λ i. with_vote (voted i) (height i) t.rules) ∙ ruled-new c new t.rules r.1)
              (raise-is keys (took_block new) c (record { block = just1 b; certificate = o.certificate })
              (justified_of o) so refl refl refl justified-is)
              (λ i. votes_sent keys (view keys.sizes c) (sym digests i) (voted i))),
          r.0,
        )

  -- ---- each place

  pub unfit-stops : (n : Fault) → IsUnfit n → stops n c ≡ halts (horizon c) n
  unfit-stops n (inl e) = rw e refl
  unfit-stops n (inr (inl e)) = rw e refl
  unfit-stops n (inr (inr (inl e))) = rw e refl
  unfit-stops n (inr (inr (inr (inl e)))) = rw e refl
  unfit-stops n (inr (inr (inr (inr e)))) = rw e refl

  -- it stands in the tree
  pub again-follows : (result : Result Change Fault) (b : Branch) → find_in (digest o.core) (window c) ≡ Some b
      → IsSound keys.sizes (took_block (taken false b) ∷ c)
      → MatchResult result (λ d. d ≡ again_change keys s o) (λ n. n ≡ fault.Memory)
      → Follows keys (due (took_block (taken false b))) c (answer result) (after result s)
  unfolding admitted conflicts raised
  again-follows result b found so t =
      let st = took_block (taken false b) in
      decided keys c st s result _ so refl refl is tt
      (λ d q. (
        subst (IsStep keys c st s.pace) (sym q) (again-step b found),
        ap (λ (x : Change). collects x.growth) q,
      )) t

  -- it grows the tree
  pub grown-follows : (result : Result Change Fault) (b : Branch) → o.core.justify_height < o.core.height
      → placing (horizon c) MOST_BLOCKS o.core o.certificate (window c) ≡ grows b
      → Keeps (identity_of keys) c (due (took_block (taken true b))) → IsGrown keys s o result
      → Follows keys (due (took_block (taken true b))) c (answer result) (after result s)
  unfolding admitted raised
  grown-follows (Ok d) b below e so t =
      decided keys c (took_block (taken true b)) s (Ok d) (IsTaken keys s o) so (new-step b below e d so t).1
      refl is tt
      (λ d q. ((new-step b below e d so q).0, ap (λ (x : Change). collects x.growth) q.change)) t
  grown-follows (Err n) b below e so (inl m) = no-memory keys c (took_block (taken true b)) n s m is
  grown-follows (Err n) b below e so (inr x) =
      let r = taking-refused c (taken true b) n (sym x ∙ ruled-is b below e) in
      refused keys _ c fault.Conflict s _ (ap Err r.1)
      (refused-for-conflict keys c (took_block (taken true b)) s r.0 is)

  place-by : (sender : ℕ) (result : Result Change Fault) → o.senders ≡ [] → o.core.justify_height < o.core.height
      → (p : Placing) → placing (horizon c) MOST_BLOCKS o.core o.certificate (window c) ≡ p
      → IsPlaced (horizon c) MOST_BLOCKS o.core o.certificate (window c) p → let v =
      on_placing (identity_of keys) o.view sender o.core o.certificate o.found c p in
      Keeps (identity_of keys) c v
      → IsDecidedAt keys s o result p → Follows keys v c (answer result) (after result s)
  unfolding on_placing admitted
  place-by sender result alone below (Placing.stands b) e h so t = again-follows result b h.0 so t
  place-by sender result alone below (grows b) e h so t =
      let same : taken true b ≡ record (admitted b o.core o.certificate o.found true)
      { voted = votes_for keys.sizes o.view (admitted b o.core o.certificate o.found true) c } =
      λ i. let a = record (admitted b o.core o.certificate o.found true) { senders = alone i } in
      record a { voted = votes_for keys.sizes o.view a c } in
      subst (λ (a : Admitted). Follows keys (due (took_block a)) c (answer result) (after result s)) same
      (grown-follows result b below e
      (subst (λ (a : Admitted). Keeps (identity_of keys) c (due (took_block a))) (sym same) so) t)
  place-by sender result alone below lacks_parent e h so t =
      refused keys _ c _ s result t (asks keys c sender o.core.parent s is)
  place-by sender result alone below (unfit n) e h so t =
      refused keys _ c n s result t (refuses keys c n s (unfit-stops n h) is)

-- what a block comes to
pub block-decided :
    (keys : Keys) (c : Chronicle) (s : StateParts) (o : Offered) (sender : ℕ) (result : Result Change Fault)
    → o.senders ≡ [] → IsDecided keys s o result → IsStateOf keys c s → o.core.justify_height < o.core.height
    → let v =
    on_block (identity_of keys) o.view sender o.core o.certificate o.found c in Keeps (identity_of keys) c v
    → Follows keys v c (answer result) (after result s)
unfolding window
block-decided keys c s o sender result alone h is below so = where-kept keys c s
    (λ x. IsDecided keys x o result
    → Follows keys (on_block (identity_of keys) o.view sender o.core o.certificate o.found c) c
    (answer result) (after result x)) is
    (λ k. place-by keys c s o k sender result alone below
    (placing (horizon c) MOST_BLOCKS o.core o.certificate (window c)) refl
    (placed (horizon c) MOST_BLOCKS o.core o.certificate (window c)) so) h

-- ---- from what was planned

module _ (keys : Keys) (s : StateParts) (o : Offered) (n : Node) (p : Placing)
    (planned : IsPlanned (tree_of s.variables) o.core o.certificate o.found.clear (Ok (Grows n)) p) where
  -- what is decided of it as a new one
  pub grown-decided : (result : Result Change Fault) → IsGrown keys s o result → IsDecidedAt keys s o result p
  grown-decided result h = by p planned
    where
      by : (p : Placing)
          → IsPlanned (tree_of s.variables) o.core o.certificate o.found.clear (Ok (Grows n)) p
          → IsDecidedAt keys s o result p
      by (Placing.stands b) h = absurd (cc)
      by (grows b) k = h
      by lacks_parent h = absurd (cc)
      by (unfit m) h = absurd (cc)
