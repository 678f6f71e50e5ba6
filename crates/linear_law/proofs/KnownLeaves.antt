-- The block that a replica's next proposal stands on has known cores, and its last proposal can be a frame.
use Rattle.std.proofs.Common.{ℕ, ◌≡◌, ◌<◌, ◌^◌, true, [], ◌∷◌, length, refl, sym, ap, subst, arith, inl}
use Rattle.std.proofs.Common.{Option}
use Rattle.std.proofs.Common.{Some, None}
use Rattle.std.proofs.lemmas.Bool.{cond-true}
use Rattle.definitions.specs.Lists.{Among}
use Rattle.definitions.specs.Frames.{Core, genesis_core}
use Rattle.definitions.specs.FrameLimits.{IsCore}
use Rattle.definitions.specs.Branches.{Branch}
use Rattle.definitions.specs.Digests.{digest_of, core_of, AllKnown, NoCollision}
use Rattle.definitions.specs.Chronicles.{Step, Step.took_block, Step.noted, Note.beat, Chronicle, tree}
use Rattle.definitions.specs.Chronicles.{IsSound}
use Rattle.definitions.specs.Checks.{Identity}
use Rattle.definitions.specs.States.{view, qc_high, Justified, leads, child, leaf, made_with, proposed}
use Rattle.definitions.specs.Sendings.{To.to_all, Sending, sendings, proposes, proposal_frame}
use Rattle.definitions.specs.Premises.{CoreOf}
use Rattle.definitions.proofs.Digests.{digest_of-one}
use Rattle.linear_law.proofs.Linear.{ground}
use Rattle.linear_law.proofs.StoredFrames.{AreStored}
use Rattle.linear_law.proofs.MadeCertificates.{qc_high-is}
use Rattle.linear_law.proofs.Leaves.{IsChild, child-is, LeafStep, LeafStep.raises, LeafStep.keeps}
use Rattle.linear_law.proofs.Leaves.{LeafStep.makes, LeafStep.moves, leaf-step, known-block, child-core, high-known}
use Rattle.linear_law.proofs.SentFrames.{IsFitProposal}

-- what is kept of a running replica's leaf and of its last proposal
pub record IsLeafKnown (Known : Core → Type 0) (self : Identity) (c : Chronicle) : Type 0 where
  pub known : AllKnown Known (leaf self c)
  pub proposal : (j : Justified) → proposed self c ≡ Some j → IsFitProposal self j

-- what is known of a replica's tree and steps
pub record IsGrown (Known : Core → Type 0) (self : Identity) (c : Chronicle) : Type 0 where
  pub sound : IsSound self.sizes c
  pub known : (x : Branch) → Among x (tree c) → AllKnown Known x
  pub stored : AreStored self c

-- ---- what a beat proposes

-- a child that is made is the next proposal
proposed-made : (self : Identity) (c : Chronicle) (b : Branch) → child self c (leaf self c) ≡ Some b
    → proposed self (noted beat ∷ c)
    ≡ Some (record { block = b; certificate = (qc_high self.sizes c).certificate })
unfolding proposed
proposed-made self c b e =
    ap (λ (o : Option Branch). made_with o (qc_high self.sizes c).certificate (proposed self c)) e

-- a beat of a leader sends its proposal
proposal-sent : (self : Identity) (c : Chronicle) (j : Justified) → leads self c ≡ true
    → proposed self (noted beat ∷ c) ≡ Some j
    → Among (to_all, proposal_frame self (view self.sizes c) j) (sendings self (noted beat) c)
unfolding sendings
proposal-sent self c j l e =
    subst (Among (to_all, proposal_frame self (view self.sizes c) j))
    (sym (cond-true (leads self c) (proposes self (view self.sizes c) (proposed self (noted beat ∷ c))) []
    l))
    (subst (λ (o : Option Justified). Among (to_all, proposal_frame self (view self.sizes c) j)
    (proposes self (view self.sizes c) o)) (sym e) (inl refl))

-- the core of a proposal is its block's
proposal-core : (self : Identity) (w : ℕ) (j : Justified) → CoreOf (core_of j.block) (proposal_frame self w j)
unfolding proposal_frame
proposal-core self w j = refl

module _ (Known : Core → Type 0) (apart : NoCollision Known) (genesis : Known genesis_core) where
  -- a leaf of which a child is made stands in the tree, so its height is bounded
  leaf-low : (self : Identity) (c : Chronicle) (b : Branch) → IsGrown Known self c
      → IsLeafKnown Known self c → IsChild self c (leaf self c) b → length (leaf self c) < 2 ^ 58
  leaf-low self c b g k ch =
      let x = known-block (digest_of (leaf self c)) c ch.known in
      let e = digest_of-one Known apart genesis ground x.0 (leaf self c) (g.known x.0 x.1) k.known x.2 in
      let l = g.sound.heights x.0 x.1 in
      let n = ap (λ (y : Branch). length y) e in
      omega (arith, l, n)

  -- the core of a child is one of a frame
  made-core : (self : Identity) (c : Chronicle) (b : Branch) → IsGrown Known self c
      → IsLeafKnown Known self c → child self c (leaf self c) ≡ Some b → IsCore self.sizes (core_of b)
  made-core self c b g k e =
      let ch =
      child-is self c (leaf self c) b e in
      child-core self c b g.stored (let l = leaf-low self c b g k ch in omega (arith, l)) ch

  -- the proposal after a step
  pub proposal-now : (self : Identity) (st : Step) (c : Chronicle) → IsGrown Known self c
      → IsLeafKnown Known self c → (j : Justified) → proposed self (st ∷ c) ≡ Some j
      → IsFitProposal self j
  unfolding proposed
  proposal-now self (noted beat) c g k j e = by (child self c (leaf self c)) refl e
    where
      by : (o : Option Branch) → child self c (leaf self c) ≡ o
          → made_with o (qc_high self.sizes c).certificate (proposed self c) ≡ Some j
          → IsFitProposal self j
      by None i f = k.proposal j f
      by (Some b) i f =
          let is : record { block = b; certificate = (qc_high self.sizes c).certificate } ≡ j = cc in
          let high = qc_high-is self c g.stored in
          subst (IsFitProposal self) is (record {
            core_is = made-core self c b g k i;
            certificate_is = high.certificate_is;
            kept = high.kept;
          })
  proposal-now self (took_block a) c g k j e = k.proposal j e
  proposal-now self (noted n) c g k j e = k.proposal j e

  -- the leaf after a step whose frames have known cores
  leaf-now : (self : Identity) (st : Step) (c : Chronicle) (b : Branch) → IsGrown Known self c
      → IsGrown Known self (st ∷ c) → IsLeafKnown Known self c
      → ((o : Sending) → Among o (sendings self st c) → (x : Core) → CoreOf x o.1 → IsCore self.sizes x
      → Known x) → LeafStep self st c b → AllKnown Known b
  leaf-now self st c b g now k sent (raises l) =
      now.known _ (high-known self.sizes (st ∷ c) now.sound.lawful now.sound.known)
  leaf-now self st c b g now k sent (keeps l) = k.known
  leaf-now self st c b g now k sent (moves x e i) =
      subst (AllKnown Known) i (now.known _ (high-known self.sizes (st ∷ c) now.sound.lawful now.sound.known))
  leaf-now self st c b g now k sent (makes x beats l e) =
      let ch = child-is self c (leaf self c) x e in
      let j : Justified = record { block = x; certificate = (qc_high self.sizes c).certificate } in
      let m = proposal-sent self c j ch.leads_view (proposed-made self c x e) in
      let here : Known (core_of x) =
      sent (to_all, proposal_frame self (view self.sizes c) j)
      (subst
      (λ (s : Step). Among (to_all, proposal_frame self (view self.sizes c) j) (sendings self s c))
      (sym beats) m) (core_of x) (proposal-core self (view self.sizes c) j) (made-core self c x g k e) in
      subst (AllKnown Known) (sym ch.is) (subst (λ (y : Branch). Known (core_of y)) ch.is here, k.known)

  -- both
  pub known-now : (self : Identity) (st : Step) (c : Chronicle) → IsGrown Known self c
      → IsGrown Known self (st ∷ c) → IsLeafKnown Known self c
      → ((o : Sending) → Among o (sendings self st c) → (x : Core) → CoreOf x o.1 → IsCore self.sizes x
      → Known x) → IsLeafKnown Known self (st ∷ c)
  known-now self st c g now k sent =
      record {
        known = leaf-now self st c (leaf self (st ∷ c)) g now k sent (leaf-step self st c);
        proposal = proposal-now self st c g k;
      }
