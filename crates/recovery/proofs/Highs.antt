-- Highest certificates of correct replicas are of certified blocks.
use Rattle.std.proofs.Common.{ℕ, ◌≡◌, ◌<◌, ◌≤◌, ◌⊎◌, ◌&&◌, ◌||◌, ◌==◌, Bool, true, false, cond, List, [], ◌∷◌}
use Rattle.std.proofs.Common.{length, refl, sym, ap, subst, ◌∙◌, arith, inl, inr, filter, nat_lt}
use Rattle.std.proofs.Common.{Option, Some, None}
use Rattle.std.specs.List.{list_any}
use Rattle.std.proofs.lemmas.Bool.{cond_both, cond-true, cases_lt, and_parts, or_cases}
use Rattle.std.proofs.lemmas.Bool.{eqb-true}
use Rattle.std.specs.Cmp.Lexicographic.{bytes_decides}
use Rattle.ids.specs.Sizes.{Sizes, replicas, quorum}
use Rattle.definitions.specs.Bytes.{Bytes}
use Rattle.definitions.specs.Lists.{Among}
use Rattle.definitions.specs.Branches.{Branch, just1, branch_eq}
use Rattle.definitions.specs.Chronicles.{Admitted, Chronicle, Step, Step.took_block, Step.noted, voted_blocks}
use Rattle.definitions.specs.Chronicles.{Note.got_vote, Note.got_new_view, Note.led_from, taken_blocks, tree, vheight}
use Rattle.definitions.specs.Chronicles.{AreKnown, standing_blocks, stored_blocks, stored_block, horizon}
use Rattle.definitions.specs.Chronicles.{Note.got_request, Note.got_fetch, Note.timed_out, Note.beat, Note.pruned}
use Rattle.definitions.specs.Chronicles.{Note.seen_view}
use Rattle.definitions.specs.Trees.{Stored, is_in_reach}
use Rattle.definitions.specs.Checks.{Identity, counted_voters, is_good, vote_verifies}
use Rattle.definitions.specs.Digests.{digest, digest_of, AllKnown}
use Rattle.definitions.specs.Frames.{Core, Vote, Certificate, genesis_core}
use Rattle.definitions.specs.Frames as frame
use Rattle.definitions.specs.FrameLimits.{IsCore, IsCertificate}
use Rattle.definitions.specs.Grounds.{may_lead_from, is_justified, is_own_certified}
use Rattle.definitions.specs.Agreement.{IsLawfulFamily, MayBeCertified, supports}
use Rattle.definitions.specs.States.{Justified, votes, raised, fills, comes_whole, higher, qc_high, by_voter}
use Rattle.definitions.specs.Worlds.{World, is_correct, self_of}
use Rattle.definitions.proofs.Lists.{Among-map, Among-filter, any-found}
use Rattle.definitions.proofs.Branches.{branch_eq-decides}
use Rattle.definitions.proofs.Chronicles.{voted-height, taken-grows, tree-grows, voted-tree}
use Rattle.definitions.proofs.Counts.{count-listed}
use Rattle.definitions.proofs.Certificates.{IsDigest-digest, length-by_voter}
use Rattle.definitions.proofs.Checks.{block-checked}
use Rattle.definitions.proofs.Horizons.{qc_high-cases, led-high}
use Rattle.agreement.proofs.Certified.{among-any, voted-both}
use Rattle.linear_law.specs.Law.{correct_family}
use Rattle.linear_law.proofs.HeldVotes.{AllVotes, AreHolding, high-held}
use Rattle.linear_law.proofs.Inputs.{all-among}
use Rattle.linear_law.proofs.MadeCertificates.{raised-is}
use Rattle.linear_law.proofs.Runs.{IsGiven, Stands}
use Rattle.linear_law.proofs.StoredFrames.{AreStored, IsStoredView}
use Rattle.recovery.specs.Correct.{chronicle_of, correct_replicas}
use Rattle.recovery.specs.Healing.{highest_voted}
use Rattle.recovery.specs.Locks.{high_of, HighestAreCertified}
use Rattle.recovery.proofs.Correct.{correct-listed}
use Rattle.recovery.proofs.Families.{justified-certified, to-order}
use Rattle.recovery.proofs.Leads.{led-well}
use Rattle.recovery.proofs.Ruled.{AreRuled, WasDue}
use Rattle.recovery.proofs.Wells.{IsReached, reached, sound-of, known-of, stored-of, one-branch}
use Rattle.recovery.proofs.Wells.{family-of}
use Rattle.recovery.proofs.Locks.{nil}

none-some : (p : Justified) → None ≡ Some p → ⊥
none-some p e = cc

some-one : (q p : Justified) → Some q ≡ Some p → q ≡ p
some-one q p e = cc

-- what was known of all steps was known of the older ones
known-rest : (st : Step) (d : Chronicle) → AreKnown (st ∷ d) → AreKnown d
known-rest (took_block a) d h = h
known-rest (noted (got_vote voter v b)) d h = h.1
known-rest (noted (got_new_view v sender q b)) d h = h.1
known-rest (noted (led_from b)) d h = h.1
known-rest (noted (got_request k)) d h = h
known-rest (noted (got_fetch to b)) d h = h
known-rest (noted timed_out) d h = h
known-rest (noted beat) d h = h
known-rest (noted (pruned height)) d h = h
known-rest (noted (seen_view v s)) d h = h

-- a block of the tree that justifies b was taken
justified-by : (b : Branch) (c : Chronicle) → is_justified b c ≡ true
    → (a : Admitted) × Among a (taken_blocks c) × (just1 a.branch ≡ b)
unfolding is_justified standing_blocks stored_blocks
justified-by b c h =
    let s = any-found (λ (x : Stored). branch_eq (just1 x.branch) b) (standing_blocks c) h in
    let m = Among-map stored_block (taken_blocks c) s.0
    (Among-filter (λ (x : Stored). is_in_reach (horizon c) x.branch) (stored_blocks c) s.0 s.1).0 in
    (m.0, m.1, ap (λ (x : Stored). just1 x.branch) (sym m.2) ∙ (branch_eq-decides (just1 s.0.branch) b).0 s.2)

-- ---- what a good certificate shows

-- the block is genesis, or a quorum may have voted for it
abbrev pub IsCertifiedIn : World → Branch → Type 0
IsCertifiedIn w b = (b ≡ []) ⊎ MayBeCertified (correct_family w) b

-- who voted for a block supports it
pub voter-supports : (w : World) (b : Branch) (v : ℕ)
    → (is_correct w v ≡ true → Among b (voted_blocks (chronicle_of w v)))
    → supports (correct_family w) b v ≡ true
unfolding supports
voter-supports w b v h =
    cond_both (is_correct w v) (list_any (branch_eq b) (voted_blocks (chronicle_of w v))) true
    (λ (t : Bool). t ≡ true) (λ e. among-any b (voted_blocks (chronicle_of w v)) (h e)) (λ e. refl)

-- a core, for laws that speak of one
pub some-core : Core
some-core = record { parent = digest genesis_core; height = 1; justify_height = 0; commands = [] }

pub some-core-is : (s : Sizes) → IsCore s some-core
unfolding some-core
some-core-is s = record {
  parent = IsDigest-digest genesis_core;
  height = (omega arith, omega arith);
  justify_height = omega arith;
  count = omega arith;
  commands = tt;
}

-- from here on: a reached world, and a correct replica
module _ (Known : Core → Type 0) (w : World) (g : IsReached Known w) (r : ℕ) (c : is_correct w r ≡ true) where
  -- a counted voter that is correct voted for the block
  counted-voted : (q : Certificate) (b : Branch) → q.digest ≡ digest_of b → AllKnown Known b
      → AllVotes (IsGiven (is_correct w) (λ i. chronicle_of w i) (self_of w r)) q → (v : ℕ)
      → Among v (counted_voters (self_of w r) q) → is_correct w v ≡ true
      → Among b (voted_blocks (chronicle_of w v))
  unfolding counted_voters
  counted-voted q b e known all v m mv =
      let self : Identity = self_of w r in
      let x = Among-map (λ (y : Vote). y.voter) (filter (vote_verifies self q.digest) q.votes) v m in
      let k = Among-filter (vote_verifies self q.digest) q.votes x.0 x.1 in
      let given : Stands (chronicle_of w x.0.voter) (frame.vote q.digest x.0) =
      all-among (IsGiven (is_correct w) (λ i. chronicle_of w i) self q.digest) q.votes x.0 all k.0 k.1
      (sym (ap (is_correct w) x.2) ∙ mv) in
      let y = given.votes q.digest x.0 refl in
      let there : Among y.0 (voted_blocks (chronicle_of w v)) =
      subst (λ (p : ℕ). Among y.0 (voted_blocks (chronicle_of w p))) (sym x.2) y.1 in
      let own = voted-tree w.sizes (chronicle_of w v) (sound-of Known w g v mv).lawful y.0 there in
      let same : y.0 ≡ b = one-branch Known w g y.0 b (known-of Known w g v mv y.0 own) known (y.2 ∙ e) in
      subst (λ (z : Branch). Among z (voted_blocks (chronicle_of w v))) same there

  -- so a certificate that is good for the replica certifies the block
  pub good-certifies : (q : Certificate) (b : Branch) → IsCertificate w.sizes q → is_good (self_of w r) q ≡ true
      → q.digest ≡ digest_of b → Among b (tree (chronicle_of w r))
      → AllVotes (IsGiven (is_correct w) (λ i. chronicle_of w i) (self_of w r)) q → IsCertifiedIn w b
  unfolding digest_of
  good-certifies q b qc good e there all =
      let known = known-of Known w g r c b there in
      let ch = block-checked (self_of w r) some-core q (some-core-is w.sizes) qc good in
      elim ch.good [
        | inl k ↦ inl (one-branch Known w g b [] known tt (sym e ∙ (bytes_decides q.digest (digest genesis_core)).0 k))
        | inr k ↦ inr (let n = count-listed (replicas w.sizes) (supports (correct_family w) b) _ ch.distinct ch.voters
            (λ v m. voter-supports w b v (counted-voted q b e known all v m)) in omega (arith, k, n))
      ]

  -- the votes of a certificate were given
  abbrev GivenVotes : Certificate → Type 0
  GivenVotes q = AllVotes (IsGiven (is_correct w) (λ i. chronicle_of w i) (self_of w r)) q

  -- what taken blocks justify is certified
  abbrev TakenCertified : Chronicle → Type 0
  TakenCertified d = (a : Admitted) → Among a (taken_blocks d) → IsCertifiedIn w (just1 a.branch)

  -- the blocks of an earlier chronicle stand in the tree
  abbrev IsGrownFrom : Chronicle → Type 0
  IsGrownFrom d = (b : Branch) → Among b (tree d) → Among b (tree (chronicle_of w r))

  -- what a step raises is certified, where its votes were given
  take-certified : (a : Admitted) (d : Chronicle) (p : Justified) → raised w.sizes (took_block a) d ≡ Some p
      → TakenCertified (took_block a ∷ d) → IsCertifiedIn w p.block
  unfolding raised taken_blocks
  take-certified a d p e taken = by a.new refl e
    where
      by : (t : Bool) → a.new ≡ t
          → cond t (Some (record { block = just1 a.branch; certificate = a.certificate })) None ≡ Some p
          → IsCertifiedIn w p.block
      by true n i =
          let k : record { block = just1 a.branch; certificate = a.certificate } ≡ p = cc in
          subst (λ (j : Justified). IsCertifiedIn w j.block) k
          (taken a (subst (λ (l : List Admitted). Among a l) (sym (cond-true a.new (a ∷ taken_blocks d)
          (taken_blocks d) n))
          (inl refl)))
      by false n i = absurd (none-some p i)

  vote-certified : (voter : ℕ) (v : Bytes) (b : Branch) (d : Chronicle) (p : Justified)
      → raised w.sizes (noted (got_vote voter v b)) d ≡ Some p
      → AreStored (self_of w r) (noted (got_vote voter v b) ∷ d) → Among b (tree d) → IsGrownFrom d
      → GivenVotes p.certificate → IsCertifiedIn w p.block
  unfolding raised
  vote-certified voter v b d p e stored there grown all =
      let bs : List Vote = votes w.sizes b (noted (got_vote voter v b) ∷ d) in
      let is = raised-is (self_of w r) (noted (got_vote voter v b)) d p stored e in
      cond_both (nat_lt (length (votes w.sizes b d)) (quorum w.sizes) && (length bs == quorum w.sizes))
      (Some (record { block = b; certificate = record { digest = digest_of b; votes = by_voter bs } })) None
      (λ (o : Option Justified). o ≡ Some p → IsCertifiedIn w p.block)
      (λ t i.
      let k : record { block = b; certificate = record { digest = digest_of b; votes = by_voter bs } } ≡ p = cc in
      let block : b ≡ p.block = ap (λ (j : Justified). j.block) k in
      let many = eqb-true (length bs) (quorum w.sizes)
      (and_parts (nat_lt (length (votes w.sizes b d)) (quorum w.sizes)) (length bs == quorum w.sizes) t).1 in
      let long = length-by_voter bs in
      elim (cases_lt 0 (length p.block)) [
        | inl h ↦ (elim (is.kept h) [
          | inl good ↦ good-certifies p.certificate p.block is.certificate_is good is.justified
              (subst (λ (z : Branch). Among z (tree (chronicle_of w r))) block (grown b there)) all
          | inr none ↦ absurd (let m = ap (λ (l : List Vote). length l) none in
              let n = ap (λ (j : Justified). length j.certificate.votes) k in omega (arith, m, n, many, long))
        ])
        | inr z ↦ inl (nil p.block (omega (arith, z)))
      ])
      (λ n i. absurd (none-some p i)) e

  view-certified : (v sender : ℕ) (q : Certificate) (b : Branch) (d : Chronicle) (p : Justified)
      → raised w.sizes (noted (got_new_view v sender q b)) d ≡ Some p
      → IsStoredView (self_of w r) v q b → Among b (tree d) → IsGrownFrom d → GivenVotes p.certificate
      → IsCertifiedIn w p.block
  unfolding raised
  view-certified v sender q b d p e stored there grown all =
      let k : record { block = b; certificate = q } ≡ p = some-one _ p e in
      subst (λ (j : Justified). GivenVotes j.certificate → IsCertifiedIn w j.block) k
      (λ h. good-certifies q b stored.certificate_is stored.good stored.justified (grown b there) h) all

  raised-certified : (st : Step) (d : Chronicle) (p : Justified) → raised w.sizes st d ≡ Some p
      → AreStored (self_of w r) (st ∷ d) → AreKnown (st ∷ d) → TakenCertified (st ∷ d) → IsGrownFrom d
      → GivenVotes p.certificate → IsCertifiedIn w p.block
  unfolding raised
  raised-certified (took_block a) d p e stored known taken grown all = take-certified a d p e taken
  raised-certified (noted (got_vote voter v b)) d p e stored known taken grown all =
      vote-certified voter v b d p e stored known.0 grown all
  raised-certified (noted (got_new_view v sender q b)) d p e stored known taken grown all =
      view-certified v sender q b d p e stored.0 known.0 grown all
  raised-certified (noted (got_request k)) d p e stored known taken grown all = absurd (none-some p e)
  raised-certified (noted (got_fetch to b)) d p e stored known taken grown all = absurd (none-some p e)
  raised-certified (noted timed_out) d p e stored known taken grown all = absurd (none-some p e)
  raised-certified (noted beat) d p e stored known taken grown all = absurd (none-some p e)
  raised-certified (noted (pruned height)) d p e stored known taken grown all = absurd (none-some p e)
  raised-certified (noted (seen_view v s)) d p e stored known taken grown all = absurd (none-some p e)
  raised-certified (noted (led_from b)) d p e stored known taken grown all = absurd (none-some p e)

  -- what a lead was from is certified
  lead-certified : (b : Branch) (d : Chronicle) → may_lead_from (self_of w r) b d ≡ true → TakenCertified d
      → IsCertifiedIn w (qc_high w.sizes d).block → IsCertifiedIn w b
  unfolding may_lead_from is_own_certified
  lead-certified b d may taken high =
      elim (or_cases _ _ (and_parts _ _ may).1) [
        | inl j ↦ (let a = justified-by b d j in subst (IsCertifiedIn w) a.2 (taken a.0 a.1))
        | inr o ↦ subst (IsCertifiedIn w) ((branch_eq-decides (qc_high w.sizes d).block b).0 (and_parts _ _ o).0) high
      ]

  -- the higher of two
  pick-certified : (st : Step) (d : Chronicle) (o : Option Justified) → raised w.sizes st d ≡ o
      → qc_high w.sizes (st ∷ d) ≡ higher (comes_whole st) o (qc_high w.sizes d)
      → AreStored (self_of w r) (st ∷ d) → AreKnown (st ∷ d) → TakenCertified (st ∷ d) → IsGrownFrom d
      → GivenVotes (qc_high w.sizes (st ∷ d)).certificate → IsCertifiedIn w (qc_high w.sizes d).block
      → IsCertifiedIn w (higher (comes_whole st) o (qc_high w.sizes d)).block
  pick-certified st d None e is stored known taken grown all high = high
  pick-certified st d (Some p) e is stored known taken grown all high =
      let q : Justified = qc_high w.sizes d in
      cond_both (nat_lt (length q.block) (length p.block) || (comes_whole st && fills p q)) p q
      (λ (j : Justified). qc_high w.sizes (st ∷ d) ≡ j → IsCertifiedIn w j.block)
      (λ t i. raised-certified st d p e stored known taken grown
      (subst (λ (j : Justified). GivenVotes j.certificate) i all))
      (λ t i. high) is

  high-in : (d : Chronicle) → AreStored (self_of w r) d → AreKnown d → AreRuled (self_of w r) d
      → AreHolding (IsGiven (is_correct w) (λ i. chronicle_of w i) (self_of w r)) d → TakenCertified d → IsGrownFrom d
      → IsCertifiedIn w (qc_high w.sizes d).block
  unfolding qc_high
  high-in [] stored known ruled held taken grown = inl refl
  high-in (st ∷ d) stored known ruled held taken grown =
      let fewer : TakenCertified d = λ a m. taken a (taken-grows st d a m) in
      let older : IsGrownFrom d = λ b m. grown b (tree-grows st d b m) in
      let high = high-in d stored.1 (known-rest st d known) ruled.1 held.1 fewer older in
      elim (qc_high-cases w.sizes st d) [
        | inl l ↦
            let b : Branch = l.0 in
            let due : WasDue (self_of w r) (noted (led_from b)) d =
            subst (λ (x : Step). WasDue (self_of w r) x d) l.1 ruled.0 in
            subst (λ (x : Step). IsCertifiedIn w (qc_high w.sizes (x ∷ d)).block) (sym l.1)
            (subst (IsCertifiedIn w) (sym (led-high w.sizes b d))
            (lead-certified b d (led-well (self_of w r) d b due) fewer high))
        | inr e ↦ subst (λ (j : Justified). IsCertifiedIn w j.block) (sym e)
            (pick-certified st d (raised w.sizes st d) refl e stored known taken older
            (high-held (IsGiven (is_correct w) (λ i. chronicle_of w i) (self_of w r)) w.sizes (st ∷ d) held) high)
      ]

  -- the highest certificate of the replica
  pub high-certified : IsCertifiedIn w (high_of w r)
  high-certified =
      let so = sound-of Known w g r c in
      high-in (chronicle_of w r) (stored-of Known w g r c) so.known (g.ruled r c)
      (g.well.good.run.given r c)
      (λ a m. by-length (just1 a.branch)
      (λ h. justified-certified (correct_family w) (family-of Known w g) r c a m h))
      (λ b m. m)
    where
      by-length : (b : Branch) → (0 < length b → MayBeCertified (correct_family w) b) → IsCertifiedIn w b
      by-length [] h = inl refl
      by-length (x ∷ b) h = inr (h (omega arith))

-- ---- heights

-- a correct replica's voted height is no higher than the highest
pub highest-voted-above : (w : World) (rs : List ℕ) (r : ℕ) → Among r rs
    → vheight (chronicle_of w r) ≤ highest_voted w rs
unfolding highest_voted
highest-voted-above w [] r m = absurd m
highest-voted-above w (s ∷ rs) r (inl e) =
    let k = ap (λ (z : ℕ). vheight (chronicle_of w z)) e in omega (arith, k)
highest-voted-above w (s ∷ rs) r (inr m) = let h = highest-voted-above w rs r m in omega (arith, h)

-- what is certified is no higher than what some correct replica voted for
pub certified-low : (w : World) → IsLawfulFamily (correct_family w) → (b : Branch) → IsCertifiedIn w b
    → length b ≤ highest_voted w (correct_replicas w)
certified-low w l b (inl e) = let k = ap (λ (z : Branch). length z) e in omega (arith, k)
certified-low w l b (inr h) =
    let v = voted-both w.sizes (is_correct w) l.enough l.orderly.order l.orderly.order b b
    (to-order (correct_family w) l b h) (to-order (correct_family w) l b h) in
    let voted : Among b (voted_blocks (chronicle_of w v.0)) =
    subst (λ (c : Chronicle). Among b (voted_blocks c)) (l.orderly.whole v.0 v.1) v.2 in
    let low = voted-height (chronicle_of w v.0) b voted in
    let top = highest-voted-above w (correct_replicas w) v.0 (correct-listed w v.0 v.1) in
    omega (arith, low, top)

pub highest-certified : HighestAreCertified
highest-certified sizes is_faulty ring hs last met e = λ r c.
    let g = reached sizes is_faulty ring hs last met e in
    let h = high-certified _ last g r c in
    (h, certified-low last (family-of _ last g) (high_of last r) h)
