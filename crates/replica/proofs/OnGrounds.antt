-- What an offer, copies and a lead change is what their steps change.
use Rattle.ids.specs.declared.limits.TheConstants.{MOST_BLOCKS}
use Rattle.ids.specs.declared.fault.Fault.{Fault}
use Rattle.ids.specs.declared.fault.Fault.TheVariants as fault
use Rattle.std.proofs.Common.{ℕ, suc, ◌≡◌, ◌<◌, ◌&&◌, Bool, true, false, List, [], cond}
use Rattle.std.proofs.Common.{refl, sym, ap, ◌∙◌, subst, arith, Option, Some, None, Result}
use Rattle.std.proofs.lemmas.Bool.{and_parts}
use Rattle.std.specs.List.{list_any}
use Rattle.std.specs.Str.{bytes_eq}
use Rattle.std.proofs.lemmas.Slice.Eq.{bytes_eq-Decides}
use Rattle.ids.specs.Sizes.{quorum}
use Rattle.definitions.specs.Bytes.{Bytes}
use Rattle.definitions.specs.Lists.{Among}
use Rattle.definitions.specs.Frames.{Core, Certificate}
use Rattle.definitions.specs.Branches.{Branch, just1, branch_eq}
use Rattle.definitions.specs.Digests.{digest_of}
use Rattle.definitions.specs.Keyrings.{Keys}
use Rattle.definitions.specs.Checks.{Findings, identity_of}
use Rattle.definitions.specs.Trees.{Stored, find_in, Placing, Placing.grows, Placing.lacks_parent}
use Rattle.definitions.specs.Trees.{Placing.unfit, placing_known, placing_new, placing}
use Rattle.definitions.specs.Chronicles.{Admitted, Step.took_block, Chronicle}
use Rattle.definitions.specs.Chronicles.{horizon, window, standing_blocks, IsSound}
use Rattle.definitions.specs.States.{qc_high}
use Rattle.definitions.specs.Grounds.{are_replicas, is_justified, own_counted, is_own_certified, without_votes}
use Rattle.definitions.specs.Grounds.{grounded}
use Rattle.definitions.specs.Rulings.{Ruling, Ruling.due, Ruling.refusing, admitted, votes_for, take_block}
use Rattle.definitions.specs.Rulings.{take_grounded, on_offer, on_relay}
use Rattle.definitions.proofs.Branches.{branch_eq-decides}
use Rattle.definitions.proofs.Horizons.{high-window}
use Rattle.definitions.proofs.Sound.{Keeps}
use Rattle.definitions.proofs.Trees.{IsGrowth, IsPlaced, placed, found-in, not-found}
use Rattle.linear_law.proofs.Leaves.{high-known}
use Rattle.block_tree.specs.Finding.{is_justified_in}
use Rattle.replica_rules.proofs.Candidates.{just1-among}
use Rattle.replica.specs.declared.change.Change.{Change}
use Rattle.replica.specs.Kept.{Variables, StateParts, variables_of, IsStateOf, AreSized}
use Rattle.replica.specs.Offers.{Offered, IsGrown, IsDecidedAt, IsDecided}
use Rattle.replica.specs.Grounds.{bare, own_as, is_own, IsGroundedIf, IsOfferAt, IsOffer, IsRelayedIf, IsRelayAt}
use Rattle.replica.specs.Grounds.{IsRelay}
use Rattle.replica.specs.StepsTo.{Follows, answer, after}
use Rattle.replica.proofs.Offers.{again-follows, grown-follows, unfit-stops}
use Rattle.replica.proofs.Sized.{qc_high-sized}
use Rattle.replica.proofs.Stays.{window-block}
use Rattle.replica.proofs.Steps.{asks, refuses, refused, kept_at, where-kept}

-- a place hangs on the digest of a certificate alone
placing-digest : (h m : ℕ) (core : Core) (q r : Certificate) (t : List Branch) → q.digest ≡ r.digest
    → placing h m core q t ≡ placing h m core r t
unfolding placing placing_known placing_new
placing-digest h m core q r t e =
    λ i. placing h m core (record { digest = e i; votes = [] }) t

-- ---- blocks of the window by their digests

module _ (keys : Keys) (c : Chronicle) (so : IsSound keys.sizes c) where
  -- they are found
  window-found : (d : Bytes) (x : Branch) → Among x (window c) → digest_of x ≡ d → find_in d (window c) ≡ Some x
  window-found d x m e = by (find_in d (window c)) refl
    where
      by : (o : Option Branch) → find_in d (window c) ≡ o → o ≡ Some x
      by None f = absurd (not-found d (window c) x f m e)
      by (Some y) f =
          let r = found-in d (window c) y f in
          ap (λ (z : Branch). Some z) (so.is_tree.one y x r.0 m (r.1 ∙ sym e))

  -- whether a block of the tree justifies it
  pub justified-is : (d : Bytes) (x : Branch) → Among x (window c) → digest_of x ≡ d
      → is_justified x c ≡ is_justified_in d (standing_blocks c)
  unfolding is_justified window
  justified-is d x m e =
      sym (ap (λ (o : Option Branch). elim o [
        | Some b ↦ list_any (λ (s : Stored). branch_eq (just1 s.branch) b) (standing_blocks c)
        | None ↦ false
      ]) (window-found d x m e))

  -- whether it is that of the own highest certificate
  pub own-is : (d : Bytes) (x : Branch) → Among x (window c) → digest_of x ≡ d
      → is_own_certified (identity_of keys) x c ≡ is_own keys (variables_of keys c) d
  unfolding is_own_certified own_counted
  own-is d x m e =
      ap (λ (t : Bool). t && are_replicas keys.sizes (quorum keys.sizes) (own_counted (identity_of keys) c))
      (sym (window-block keys.sizes c so (qc_high keys.sizes c).block x high m)
      ∙ ap (bytes_eq (digest_of (qc_high keys.sizes c).block)) e)
    where
      high : Among (qc_high keys.sizes c).block (window c)
      high = high-window keys.sizes c so.lawful (qc_high keys.sizes c).block
          (high-known keys.sizes c so.lawful so.known) (omega arith)

-- ---- an offer

module _ (keys : Keys) (c : Chronicle) (kept : StateParts) (o : Offered) (counted : List ℕ) (sender : ℕ)
    (is : IsStateOf keys c (kept_at keys c kept)) (sized : AreSized keys.sizes c) (alone : o.senders ≡ [])
    (below : o.core.justify_height < o.core.height) (result : Result Change Fault) where
  abbrev s : StateParts
  s = kept_at keys c kept

  abbrev v : Variables
  v = variables_of keys c

  abbrev found : Findings
  found = record { counted = counted; clear = o.found.clear }

  abbrev Comes : Ruling → Type 0
  Comes r = Follows keys r c (answer result) (after result s)

  -- the block as it came
  abbrev came : Branch → Admitted
  came b = admitted b o.core o.certificate found true

  module _ (b : Branch)
      (grows-to : placing (horizon c) MOST_BLOCKS o.core (without_votes o.certificate) (window c) ≡ grows b) where
    growth : (parent : Branch) × IsGrowth (horizon c) MOST_BLOCKS o.core (without_votes o.certificate) (window c) b parent
    growth = subst (IsPlaced (horizon c) MOST_BLOCKS o.core (without_votes o.certificate) (window c)) grows-to
        (placed (horizon c) MOST_BLOCKS o.core (without_votes o.certificate) (window c))

    justified-in : Among (just1 b) (window c)
    justified-in = just1-among (horizon c) MOST_BLOCKS o.core (without_votes o.certificate) (window c) b growth.0
        is.sound.is_tree below growth.1

    named : digest_of (just1 b) ≡ o.certificate.digest
    named = ap (λ (x : Branch). digest_of (just1 x)) growth.1.is ∙ sym growth.1.justified

    -- the block with this certificate and these counted votes
    abbrev with_votes : Certificate → List ℕ → Admitted
    with_votes q vs = record (came b) { certificate = q; counted = vs }

    as-comes : (q : Certificate) (vs : List ℕ)
        → placing (horizon c) MOST_BLOCKS o.core q (window c) ≡ grows b
        → Keeps (identity_of keys) c (take_block (identity_of keys) o.view (with_votes q vs) c)
        → IsGrown keys s (record o {
          certificate = q;
          found = record { counted = vs; clear = o.found.clear };
        }) result
        → Comes (take_block (identity_of keys) o.view (with_votes q vs) c)
    unfolding admitted
    as-comes q vs at so t = subst (λ (from : List ℕ). Comes (due (took_block (as_sent from)))) alone
        (grown-follows keys c kept (record o {
          certificate = q;
          found = record { counted = vs; clear = o.found.clear };
        }) is result b below at
        (subst (λ (from : List ℕ). Keeps (identity_of keys) c (due (took_block (as_sent from)))) (sym alone) so)
        t)
      where
        as_sent : List ℕ → Admitted
        as_sent from =
            let a = record (with_votes q vs) { senders = from } in
            record a { voted = votes_for keys.sizes o.view a c }

    -- with the own highest certificate
    own-comes : bytes_eq (digest_of (qc_high keys.sizes c).block) o.certificate.digest ≡ true
        → Keeps (identity_of keys) c (take_block (identity_of keys) o.view
        (with_votes (qc_high keys.sizes c).certificate (own_counted (identity_of keys) c)) c)
        → IsDecided keys s (own_as keys v o) result
        → Comes (take_block (identity_of keys) o.view
        (with_votes (qc_high keys.sizes c).certificate (own_counted (identity_of keys) c)) c)
    unfolding own_counted window
    own-comes e so t =
        let same : (qc_high keys.sizes c).certificate.digest ≡ o.certificate.digest =
        (qc_high-sized keys.sizes c sized).1
        ∙ (bytes_eq-Decides (digest_of (qc_high keys.sizes c).block) o.certificate.digest).0 e in
        let at : placing (horizon c) MOST_BLOCKS o.core (qc_high keys.sizes c).certificate (window c) ≡ grows b =
        placing-digest (horizon c) MOST_BLOCKS o.core (qc_high keys.sizes c).certificate
        (without_votes o.certificate) (window c) same ∙ grows-to in
        as-comes (qc_high keys.sizes c).certificate (own_counted (identity_of keys) c) at so
        (subst (IsDecidedAt keys s (own_as keys v o) result) at t)

    -- by its grounds
    grounded-comes : Keeps (identity_of keys) c
        (take_grounded (identity_of keys) o.view (grounded (identity_of keys) (came b) c) c)
        → IsGroundedIf keys s o result (is_justified_in o.certificate.digest v.stored)
        (is_own keys v o.certificate.digest)
        → Comes (take_grounded (identity_of keys) o.view (grounded (identity_of keys) (came b) c) c)
    unfolding grounded admitted
    grounded-comes so t = by (is_justified_in o.certificate.digest v.stored) (is_own keys v o.certificate.digest)
        (justified-is keys c is.sound o.certificate.digest (just1 b) justified-in named)
        (own-is keys c is.sound o.certificate.digest (just1 b) justified-in named) refl so t
      where
        bare_one : Admitted
        bare_one = with_votes (without_votes o.certificate) []

        own_one : Admitted
        own_one = with_votes (qc_high keys.sizes c).certificate (own_counted (identity_of keys) c)

        ruled : Bool → Bool → Ruling
        ruled j k = take_grounded (identity_of keys) o.view (cond j (Some bare_one) (cond k (Some own_one) None)) c

        case : (j k : Bool) → is_own keys v o.certificate.digest ≡ k → Keeps (identity_of keys) c (ruled j k)
            → IsGroundedIf keys s o result j k → Comes (ruled j k)
        case true k e so t = as-comes (without_votes o.certificate) [] grows-to so t
        case false true e so t = own-comes (and_parts _ _ e).0 so t
        case false false e so t =
            refused keys _ c fault.BadTag s result t (refuses keys c fault.BadTag s refl is)

        by : (j k : Bool) → is_justified (just1 b) c ≡ j → is_own_certified (identity_of keys) (just1 b) c ≡ k
            → is_own keys v o.certificate.digest ≡ k
            → Keeps (identity_of keys) c
            (ruled (is_justified (just1 b) c) (is_own_certified (identity_of keys) (just1 b) c))
            → IsGroundedIf keys s o result j k
            → Comes (ruled (is_justified (just1 b) c) (is_own_certified (identity_of keys) (just1 b) c))
        by j k ej ek e so t =
            subst (λ (r : Ruling). Comes r) (λ i. ruled (sym ej i) (sym ek i))
            (case j k e (subst (Keeps (identity_of keys) c) (λ i. ruled (ej i) (ek i)) so) t)

  offer-at : (p : Placing)
      → placing (horizon c) MOST_BLOCKS o.core (without_votes o.certificate) (window c) ≡ p
      → IsPlaced (horizon c) MOST_BLOCKS o.core (without_votes o.certificate) (window c) p
      → Keeps (identity_of keys) c (on_offer (identity_of keys) o.view sender o.core o.certificate found c p)
      → IsOfferAt keys s o result p
      → Comes (on_offer (identity_of keys) o.view sender o.core o.certificate found c p)
  unfolding on_offer admitted
  offer-at (Placing.stands b) e h so t = again-follows keys c kept (bare o) is result b h.0 so t
  offer-at (grows b) e h so t = grounded-comes b e so t
  offer-at lacks_parent e h so t = refused keys _ c _ s result t (asks keys c sender o.core.parent s is)
  offer-at (unfit n) e h so t =
      refused keys _ c n s result t (refuses keys c n s (unfit-stops keys c kept (bare o) is n h) is)

-- what an offer comes to
pub offer-decided :
    (keys : Keys) (c : Chronicle) (s : StateParts) (o : Offered) (counted : List ℕ) (sender : ℕ)
    (result : Result Change Fault)
    → o.senders ≡ [] → IsOffer keys s o result → IsStateOf keys c s → AreSized keys.sizes c
    → o.core.justify_height < o.core.height → let v =
    on_offer (identity_of keys) o.view sender o.core o.certificate
    (record { counted = counted; clear = o.found.clear }) c
    (placing (horizon c) MOST_BLOCKS o.core o.certificate (window c)) in
    Keeps (identity_of keys) c v → Follows keys v c (answer result) (after result s)
unfolding window
offer-decided keys c s o counted sender result alone h is sized below so = where-kept keys c s
    (λ x. IsOffer keys x o result
    → Follows keys (ruled (placing (horizon c) MOST_BLOCKS o.core o.certificate (window c))) c (answer result)
    (after result x)) is
    (λ k h. subst (λ (p : Placing). Follows keys (ruled p) c (answer result) (after result (kept_at keys c s))) same
    (offer-at keys c s o counted sender k sized alone below result
    (placing (horizon c) MOST_BLOCKS o.core (without_votes o.certificate) (window c)) refl
    (placed (horizon c) MOST_BLOCKS o.core (without_votes o.certificate) (window c))
    (subst (λ (p : Placing). Keeps (identity_of keys) c (ruled p)) (sym same) so) h)) h
  where
    ruled : Placing → Ruling
    ruled p = on_offer (identity_of keys) o.view sender o.core o.certificate
        (record { counted = counted; clear = o.found.clear }) c p

    same : placing (horizon c) MOST_BLOCKS o.core (without_votes o.certificate) (window c)
        ≡ placing (horizon c) MOST_BLOCKS o.core o.certificate (window c)
    same = placing-digest (horizon c) MOST_BLOCKS o.core (without_votes o.certificate) o.certificate (window c) refl

-- ---- copies

module _ (keys : Keys) (c : Chronicle) (kept : StateParts) (core : Core) (q : Certificate) (clear : Bool)
    (counted senders : List ℕ) (is : IsStateOf keys c (kept_at keys c kept))
    (below : core.justify_height < core.height) (result : Result Change Fault) where
  abbrev copied : Offered
  copied = record {
    core = core;
    certificate = q;
    found = record { counted = []; clear = clear };
    senders = senders;
    view = None;
  }

  abbrev ruled : Placing → Ruling
  ruled p = on_relay (identity_of keys) senders core q (record { counted = counted; clear = clear }) c p

  abbrev Answered : Ruling → Type 0
  Answered r = Follows keys r c (answer result) (after result (kept_at keys c kept))

  relay-at : (p : Placing) → placing (horizon c) MOST_BLOCKS core (without_votes q) (window c) ≡ p
      → IsPlaced (horizon c) MOST_BLOCKS core (without_votes q) (window c) p
      → Keeps (identity_of keys) c (ruled p)
      → IsRelayAt keys (kept_at keys c kept) copied result p
      → Answered (ruled p)
  unfolding on_relay admitted
  relay-at (Placing.stands b) e h so t = again-follows keys c kept (bare copied) is result b h.0 so t
  relay-at (grows b) e h so t = by (are_replicas keys.sizes (suc keys.sizes.faults) senders) so t
    where
      new : Ruling
      new = take_block (identity_of keys) None
          (record (admitted b core q (record { counted = counted; clear = clear }) true) {
            certificate = without_votes q;
            counted = [];
            senders = senders;
          }) c

      by : (t : Bool) → Keeps (identity_of keys) c (cond t new (refusing fault.BadTag))
          → IsRelayedIf keys (kept_at keys c kept) copied result t
          → Answered (cond t new (refusing fault.BadTag))
      by true so t = grown-follows keys c kept (bare copied) is result b below e so t
      by false so t = refused keys _ c fault.BadTag _ result t
          (refuses keys c fault.BadTag (kept_at keys c kept) refl is)
  relay-at lacks_parent e h so t = refused keys _ c _ _ result t
      (refuses keys c fault.UnknownParent (kept_at keys c kept) refl is)
  relay-at (unfit n) e h so t = refused keys _ c n _ result t
      (refuses keys c n (kept_at keys c kept) (unfit-stops keys c kept (bare copied) is n h) is)

-- what copies come to
pub relay-decided :
    (keys : Keys) (c : Chronicle) (s : StateParts) (core : Core) (q : Certificate) (clear : Bool)
    (counted senders : List ℕ) (result : Result Change Fault)
    → IsRelay keys s (record {
      core = core;
      certificate = q;
      found = record { counted = []; clear = clear };
      senders = senders;
      view = None;
    }) result → IsStateOf keys c s → core.justify_height < core.height → let v =
    on_relay (identity_of keys) senders core q (record { counted = counted; clear = clear }) c
    (placing (horizon c) MOST_BLOCKS core q (window c)) in
    Keeps (identity_of keys) c v → Follows keys v c (answer result) (after result s)
unfolding window
relay-decided keys c s core q clear counted senders result h is below so = where-kept keys c s
    (λ x. IsRelay keys x (record {
      core = core;
      certificate = q;
      found = record { counted = []; clear = clear };
      senders = senders;
      view = None;
    }) result
    → Follows keys (told (placing (horizon c) MOST_BLOCKS core q (window c))) c (answer result) (after result x)) is
    (λ k h. subst (λ (p : Placing). Follows keys (told p) c (answer result) (after result (kept_at keys c s))) same
    (relay-at keys c s core q clear counted senders k below result
    (placing (horizon c) MOST_BLOCKS core (without_votes q) (window c)) refl
    (placed (horizon c) MOST_BLOCKS core (without_votes q) (window c))
    (subst (λ (p : Placing). Keeps (identity_of keys) c (told p)) (sym same) so) h)) h
  where
    told : Placing → Ruling
    told p = on_relay (identity_of keys) senders core q (record { counted = counted; clear = clear }) c p

    same : placing (horizon c) MOST_BLOCKS core (without_votes q) (window c)
        ≡ placing (horizon c) MOST_BLOCKS core q (window c)
    same = placing-digest (horizon c) MOST_BLOCKS core (without_votes q) q (window c) refl
