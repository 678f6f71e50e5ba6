-- What is taken of a block that was offered, or sent by several.
use Rattle.ids.specs.declared.fault.Fault.{Fault}
use Rattle.std.proofs.Common.{ℕ, suc, ◌≡◌, ◌⊎◌, ◌&&◌, true, false, List, refl, inl, inr, Option}
use Rattle.std.proofs.lemmas.Bool.{cond_both, and_parts}
use Rattle.ids.specs.Sizes.{quorum}
use Rattle.definitions.specs.Bytes.{Bytes}
use Rattle.definitions.specs.Frames.{Core, Certificate}
use Rattle.definitions.specs.Branches.{just1, branch_eq}
use Rattle.definitions.specs.Trees.{Placing, Placing.stands, Placing.grows, Placing.lacks_parent}
use Rattle.definitions.specs.Trees.{Placing.unfit}
use Rattle.definitions.specs.Checks.{Identity, Findings}
use Rattle.definitions.specs.Chronicles.{Admitted, Step.took_block, Chronicle}
use Rattle.definitions.specs.States.{qc_high}
use Rattle.definitions.specs.Grounds.{are_replicas, is_justified, own_counted, is_own_certified, without_votes}
use Rattle.definitions.specs.Grounds.{grounded}
use Rattle.definitions.specs.Rulings.{Ruling, Ruling.due, Ruling.missing, Ruling.refusing, admitted}
use Rattle.definitions.specs.Rulings.{take_grounded, on_offer, on_relay}
use Rattle.definitions.proofs.Branches.{branch_eq-decides}

-- it is the block that came, at this place in the tree, without votes or with the highest certificate, where that is
-- for what it justifies
pub record IsKeptAs (self : Identity) (core : Core) (q : Certificate) (c : Chronicle) (p : Placing) (a : Admitted) :
    Type 0 where
  pub core_is : a.core ≡ core
  pub certificate_is : (a.certificate ≡ without_votes q)
      ⊎ ((a.certificate ≡ (qc_high self.sizes c).certificate) × ((qc_high self.sizes c).block ≡ just1 a.branch))
  pub place_is : ((p ≡ stands a.branch) × (a.new ≡ false)) ⊎ ((p ≡ grows a.branch) × (a.new ≡ true))

module _ (self : Identity) (core : Core) (q : Certificate) (f : Findings) (c : Chronicle) (P : Ruling → Type 0)
    (refuses : (n : Fault) → P (refusing n)) where
  -- what holds of such blocks and of refusals holds of the ruling on an offer
  pub offer-by : (asks : (sender : ℕ) (d : Bytes) → P (missing sender d)) (w : Option ℕ) (sender : ℕ) (p : Placing)
      → ((a : Admitted) → IsKeptAs self core q c p a → P (due (took_block a)))
      → P (on_offer self w sender core q f c p)
  unfolding on_offer admitted grounded is_own_certified
  offer-by asks w sender (stands b) takes = takes _
      (record { core_is = refl; certificate_is = inl refl; place_is = inl (refl, refl) })
  offer-by asks w sender (grows b) takes =
      cond_both (is_justified (just1 b) c) _ _ (λ o. P (take_grounded self w o c))
      (λ t. takes _ (record { core_is = refl; certificate_is = inl refl; place_is = inr (refl, refl) }))
      (λ t. cond_both (branch_eq (qc_high self.sizes c).block (just1 b)
      && are_replicas self.sizes (quorum self.sizes) (own_counted self c)) _ _ (λ o. P (take_grounded self w o c))
      (λ e. takes _ (record {
        core_is = refl;
        certificate_is =
            inr (refl, (branch_eq-decides (qc_high self.sizes c).block (just1 b)).0 (and_parts _ _ e).0);
        place_is = inr (refl, refl);
      }))
      (λ e. refuses _))
  offer-by asks w sender lacks_parent takes = asks sender core.parent
  offer-by asks w sender (unfit n) takes = refuses n

  -- and of the ruling on copies
  pub relay-by : (senders : List ℕ) (p : Placing)
      → ((a : Admitted) → IsKeptAs self core q c p a → P (due (took_block a)))
      → P (on_relay self senders core q f c p)
  unfolding on_relay admitted
  relay-by senders (stands b) takes = takes _
      (record { core_is = refl; certificate_is = inl refl; place_is = inl (refl, refl) })
  relay-by senders (grows b) takes =
      cond_both (are_replicas self.sizes (suc self.sizes.faults) senders) _ _ P
      (λ e. takes _ (record { core_is = refl; certificate_is = inl refl; place_is = inr (refl, refl) }))
      (λ e. refuses _)
  relay-by senders lacks_parent takes = refuses _
  relay-by senders (unfit n) takes = refuses n
