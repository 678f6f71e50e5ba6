-- The certificates that a replica keeps are certificates at its sizes, and the votes that it took are votes
-- at these.
use Rattle.ids.specs.declared.limits.TheConstants.{MOST_PENDING, MOST_BLOCKS}
use Rattle.std.proofs.Common.{ℕ, ◌≡◌, ◌==◌, ◌&&◌, ◌||◌, not, Bool, List, [], ◌∷◌, length, refl, sym, ap}
use Rattle.std.proofs.Common.{subst, ◌∙◌, ◌⊎◌, map, nat_lt, inl, inr, Option, Some, None}
use Rattle.std.specs.List.{list_any, AllByRecursion}
use Rattle.std.specs.Option.{unwrap_or, option_or}
use Rattle.std.specs.Prelude.{IfSome, bytes_eq, option_map}
use Rattle.std.proofs.lemmas.Bool.{and_parts, eqb-true, cond_both}
use Rattle.ids.specs.Sizes.{Sizes, quorum}
use Rattle.definitions.specs.Bytes.{Bytes}
use Rattle.definitions.specs.Frames.{Command, Core, Certificate, Vote, genesis_core}
use Rattle.definitions.specs.FrameLimits.{IsVote, IsCertificate}
use Rattle.definitions.specs.Branches.{Branch, branch_eq, just1}
use Rattle.definitions.specs.Digests.{digest_of}
use Rattle.definitions.specs.Keyrings.{Keys}
use Rattle.definitions.specs.Trees.{Stored, is_in_reach, Placing, Placing.stands, Placing.grows}
use Rattle.definitions.specs.Trees.{Placing.lacks_parent, Placing.unfit, placing}
use Rattle.definitions.specs.Checks.{Identity, Findings, identity_of}
use Rattle.definitions.specs.Chronicles.{Admitted, Step, Step.took_block, Step.noted, Note.got_vote}
use Rattle.definitions.specs.Chronicles.{Note.got_new_view, Note.beat, Note.led_from, Chronicle, history, horizon}
use Rattle.definitions.specs.Chronicles.{window}
use Rattle.definitions.specs.Chronicles.{taken_blocks, stored_block, stored_blocks, standing_blocks}
use Rattle.definitions.specs.States.{Justified, votes, raised, fills, comes_whole, higher, qc_high, find_block}
use Rattle.definitions.specs.States.{is_due}
use Rattle.definitions.specs.States.{is_same_request, pending, child, leaf, made_with, proposed}
use Rattle.definitions.specs.Rulings.{Input, Input.proposal_in, Input.block_in, Input.vote_in}
use Rattle.definitions.specs.Rulings.{Input.new_view_in, Input.request_in, Input.fetch_in, Input.timeout_in}
use Rattle.definitions.specs.Rulings.{Input.beat_in, Input.prune_in, Ruling.due, admitted, on_placing}
use Rattle.definitions.specs.Rulings.{Input.offered_in, Input.relayed_in, Input.lead_in, Input.ask_in}
use Rattle.definitions.specs.Rulings.{Input.view_in, on_request, with_block, lead, ruling}
use Rattle.definitions.specs.Grounds.{may_lead_from}
use Rattle.definitions.proofs.Sound.{found}
use Rattle.definitions.proofs.Trees.{IsPlaced, placed}
use Rattle.definitions.proofs.Certificates.{IsDigest-digest, IsDigest-digest_of, IsCertificate-by_voter}
use Rattle.definitions.proofs.Certificates.{all-filter}
use Rattle.linear_law.proofs.Inputs.{AllStanding}
use Rattle.linear_law.proofs.MadeCertificates.{votes-each}
use Rattle.std.specs.Borrow.{Bor}
use Rattle.block_tree.specs.declared.node.Node.{Node}
use Rattle.block_tree.specs.Finding.{stored_in, NodeParts, kept, kept_of}
use Rattle.replica.specs.declared.state.High.{High}
use Rattle.replica.specs.Kept.{Own, own_of, variables_of, IsSized, AreSized, IsFitOwn, AreCertified}
use Rattle.replica.specs.Kept.{StateParts}
use Rattle.replica.specs.Changes.{fills_for, raise_of}
use Rattle.replica.specs.Beats.{child_of, made_by}
use Rattle.replica.specs.Inputs.{IsFitInput}
use Rattle.replica.proofs.Grounded.{IsKeptAs, offer-by, relay-by}

-- ---- parts of what comes

-- the certificate of a block that has a place is for what it justifies
for-justified : (core : Core) (q : Certificate) (c : Chronicle) (p : Placing)
    → IsPlaced (horizon c) MOST_BLOCKS core q (window c) p → (b : Branch)
    → ((p ≡ stands b) ⊎ (p ≡ grows b)) → q.digest ≡ digest_of (just1 b)
for-justified core q c p h b (inl e) =
    (subst (IsPlaced (horizon c) MOST_BLOCKS core q (window c)) e h).1
for-justified core q c p h b (inr e) =
    let g = (subst (IsPlaced (horizon c) MOST_BLOCKS core q (window c)) e h).1 in
    g.justified ∙ ap (λ (x : Branch). digest_of (just1 x)) (sym g.is)

placed-sized : (self : Identity) (w : Option ℕ) (sender : ℕ) (core : Core) (q : Certificate) (f : Findings)
    (c : Chronicle) (p : Placing) → IsPlaced (horizon c) MOST_BLOCKS core q (window c) p → IsCertificate self.sizes q
    → AllStanding (IsSized self.sizes) (on_placing self w sender core q f c p)
unfolding on_placing admitted
placed-sized self w sender core q f c (stands b) at h = (h, for-justified core q c (stands b) at b (inl refl))
placed-sized self w sender core q f c (grows b) at h = (h, for-justified core q c (grows b) at b (inr refl))
placed-sized self w sender core q f c lacks_parent at h = tt
placed-sized self w sender core q f c (unfit n) at h = tt

vote-sized : (sizes : Sizes) (o : Option Branch) (d : Bytes) (b : Vote) → IsVote sizes b
    → AllStanding (IsSized sizes) (with_block o b.voter d (λ x. due (noted (got_vote b.voter b.vector x))))
vote-sized sizes None d b h = tt
vote-sized sizes (Some x) d b h = h

new_view-sized : (sizes : Sizes) (c : Chronicle) (o : Option Branch) (w sender : ℕ) (q : Certificate)
    → find_block q.digest c ≡ o → IsCertificate sizes q
    → AllStanding (IsSized sizes)
    (with_block o sender q.digest (λ x. due (noted (got_new_view w sender q x))))
new_view-sized sizes c None w sender q e h = tt
new_view-sized sizes c (Some x) w sender q e h = (h, sym (found q.digest c x e).1)

request-sized : (sizes : Sizes) (r : Command) (c : Chronicle)
    → AllStanding (IsSized sizes) (on_request r c)
unfolding on_request
request-sized sizes r c =
    cond_both (is_due (history c) r
    && (not (list_any (is_same_request r) (pending c)) && not
    (nat_lt (length (pending c)) MOST_PENDING))) _ _
    (AllStanding (IsSized sizes)) (λ e. tt) (λ e. tt)

lead-sized : (sizes : Sizes) (self : Identity) (c : Chronicle) (o : Option Branch)
    → AllStanding (IsSized sizes) (lead self o c)
lead-sized sizes self c None = tt
lead-sized sizes self c (Some b) =
    cond_both (may_lead_from self b c) _ _ (AllStanding (IsSized sizes)) (λ e. tt) (λ e. tt)

-- ---- the votes for a block, and the highest certificate

votes-sized : (sizes : Sizes) (block : Branch) (c : Chronicle) → AreSized sizes c
    → AllByRecursion (IsVote sizes) (votes sizes block c)
unfolding votes
votes-sized sizes block [] h = tt
votes-sized sizes block (noted (got_vote voter v b) ∷ c) h =
    cond_both (branch_eq b block
    && (not (list_any (λ x. x.voter == voter) (votes sizes block c)) && nat_lt
    (length (votes sizes block c)) (quorum sizes))) _ _
    (AllByRecursion (IsVote sizes))
    (λ e. (h.0, votes-sized sizes block c h.1)) (λ e. votes-sized sizes block c h.1)
votes-sized sizes block (noted (led_from b) ∷ c) h = tt
votes-sized sizes block (took_block a ∷ c) h = votes-sized sizes block c h.1
votes-sized sizes block (noted n ∷ c) h = votes-sized sizes block c h.1

abbrev IsFit : Sizes → Option Justified → Type 0
IsFit sizes o = IfSome o (λ j. IsCertificate sizes j.certificate)

-- a certificate of its block
abbrev IsNamed : Sizes → Justified → Type 0
IsNamed sizes j = IsCertificate sizes j.certificate × (j.certificate.digest ≡ digest_of j.block)

raised-sized : (sizes : Sizes) (st : Step) (c : Chronicle) → AreSized sizes (st ∷ c)
    → IfSome (raised sizes st c) (IsNamed sizes)
unfolding raised
raised-sized sizes (took_block a) c h =
    cond_both a.new _ _ (λ (o : Option Justified). IfSome o (IsNamed sizes)) (λ e. h.0) (λ e. tt)
raised-sized sizes (noted (got_vote voter v b)) c h =
    let st = noted (got_vote voter v b) in
    cond_both (nat_lt (length (votes sizes b c)) (quorum sizes)
    && (length (votes sizes b (st ∷ c)) == quorum sizes)) _ _
    (λ (o : Option Justified). IfSome o (IsNamed sizes))
    (λ e. (
      IsCertificate-by_voter sizes (digest_of b) (votes sizes b (st ∷ c)) (IsDigest-digest_of b)
          (votes-sized sizes b (st ∷ c) h) (votes-each sizes b (st ∷ c)) (eqb-true _ _ (and_parts _ _ e).1),
      refl,
    ))
    (λ e. tt)
raised-sized sizes (noted (got_new_view w sender q b)) c h = h.0
raised-sized sizes (noted n) c h = tt

higher-sized : (sizes : Sizes) (whole : Bool) (o : Option Justified) (q : Justified) → IfSome o (IsNamed sizes)
    → IsNamed sizes q → IsNamed sizes (higher whole o q)
higher-sized sizes whole None q r h = h
higher-sized sizes whole (Some p) q r h =
    cond_both (nat_lt (length q.block) (length p.block) || (whole && fills p q)) p q
    (IsNamed sizes) (λ e. r) (λ e. h)

pub qc_high-sized : (sizes : Sizes) (c : Chronicle) → AreSized sizes c → IsNamed sizes (qc_high sizes c)
unfolding qc_high digest_of
qc_high-sized sizes [] h = (
  record { digest = IsDigest-digest genesis_core; count = inl refl; votes = tt; rising = tt },
  refl,
)
qc_high-sized sizes (noted (led_from b) ∷ c) h =
    cond_both (branch_eq (qc_high sizes c).block b) (qc_high sizes c) _
    (IsNamed sizes) (λ e. qc_high-sized sizes c h.1)
    (λ e. (record { digest = IsDigest-digest_of b; count = inl refl; votes = tt; rising = tt }, refl))
qc_high-sized sizes (st ∷ c) h =
    higher-sized sizes (comes_whole st) (raised sizes st c) (qc_high sizes c) (raised-sized sizes st c h)
    (qc_high-sized sizes c h.1)

-- ---- what an input comes to

-- a block that was kept for its grounds
pub kept-sized : (self : Identity) (core : Core) (q : Certificate) (c : Chronicle) (p : Placing) (a : Admitted)
    → IsPlaced (horizon c) MOST_BLOCKS core q (window c) p → IsCertificate self.sizes q → AreSized self.sizes c
    → IsKeptAs self core q c p a → IsSized self.sizes (took_block a)
kept-sized self core q c p a at h old k = elim k.certificate_is [
  | inl bare ↦ (
    subst (IsCertificate self.sizes) (sym bare)
        (record { digest = h.digest; count = inl refl; votes = tt; rising = tt }),
    ap (λ (x : Certificate). x.digest) bare ∙ for-justified core q c p at a.branch place,
  )
  | inr own ↦
      let high = qc_high-sized self.sizes c old in (
        subst (IsCertificate self.sizes) (sym own.0) high.0,
        ap (λ (x : Certificate). x.digest) own.0 ∙ high.1 ∙ ap digest_of own.1,
      )
]
  where
    place : (p ≡ stands a.branch) ⊎ (p ≡ grows a.branch)
    place = elim k.place_is [ inl s ↦ inl s.0 | inr g ↦ inr g.0 ]

ruling-sized : (self : Identity) (i : Input) (c : Chronicle) → IsFitInput self.sizes i → AreSized self.sizes c
    → AllStanding (IsSized self.sizes) (ruling self i c)
unfolding ruling
ruling-sized self (proposal_in w core q f) c h old =
    placed-sized self _ _ core q f c _ (placed (horizon c) MOST_BLOCKS core q (window c)) h.1
ruling-sized self (block_in sender core q f) c h old =
    placed-sized self _ _ core q f c _ (placed (horizon c) MOST_BLOCKS core q (window c)) h.1
ruling-sized self (vote_in d b) c h old = vote-sized self.sizes (find_block d c) d b h
ruling-sized self (new_view_in w sender q) c h old =
    new_view-sized self.sizes c (find_block q.digest c) w sender q refl h
ruling-sized self (request_in r) c h old = request-sized self.sizes r c
ruling-sized self (fetch_in sender d) c h old = tt
ruling-sized self timeout_in c h old = tt
ruling-sized self beat_in c h old = tt
ruling-sized self (prune_in height) c h old = tt
ruling-sized self (offered_in w sender core q f) c h old =
    offer-by self core q f c (AllStanding (IsSized self.sizes)) (λ n. tt) (λ r d. tt) w sender
    (placing (horizon c) MOST_BLOCKS core q (window c))
    (λ a k. kept-sized self core q c _ a (placed (horizon c) MOST_BLOCKS core q (window c)) h.1 old k)
ruling-sized self (relayed_in senders core q f) c h old =
    relay-by self core q f c (AllStanding (IsSized self.sizes)) (λ n. tt) senders
    (placing (horizon c) MOST_BLOCKS core q (window c))
    (λ a k. kept-sized self core q c _ a (placed (horizon c) MOST_BLOCKS core q (window c)) h.1 old k)
ruling-sized self (lead_in d) c h old = lead-sized self.sizes self c (find_block d c)
ruling-sized self (ask_in replica d) c h old = tt
ruling-sized self (view_in w sender) c h old = tt

-- one step more
pub sized-on : (self : Identity) (i : Input) (st : Step) (c : Chronicle) → ruling self i c ≡ due st
    → IsFitInput self.sizes i → AreSized self.sizes c → AreSized self.sizes (st ∷ c)
sized-on self i st c e h old = (
  subst (AllStanding (IsSized self.sizes)) e (ruling-sized self i c h old),
  old,
)

-- ---- the own last proposal

made_with-sized : (sizes : Sizes) (o : Option Branch) (q : Certificate) (before : Option Justified)
    → IsCertificate sizes q → IsFit sizes before → IsFit sizes (made_with o q before)
made_with-sized sizes None q before h old = old
made_with-sized sizes (Some b) q before h old = h

proposed-sized : (self : Identity) (c : Chronicle) → AreSized self.sizes c
    → IsFit self.sizes (proposed self c)
unfolding proposed
proposed-sized self [] h = tt
proposed-sized self (noted beat ∷ c) h =
    made_with-sized self.sizes (child self c (leaf self c)) (qc_high self.sizes c).certificate
    (proposed self c) (qc_high-sized self.sizes c h.1).0 (proposed-sized self c h.1)
proposed-sized self (took_block a ∷ c) h = proposed-sized self c h.1
proposed-sized self (noted n ∷ c) h = proposed-sized self c h.1

own-sized : (sizes : Sizes) (o : Option Justified) → IsFit sizes o → IsFitOwn sizes (option_map own_of o)
own-sized sizes None h = tt
own-sized sizes (Some j) h = h

-- ---- the tree

abbrev IsFitStored : Sizes → Stored → Type 0
IsFitStored sizes s = IsCertificate sizes s.certificate

taken-sized : (sizes : Sizes) (c : Chronicle) → AreSized sizes c
    → AllByRecursion (IsFitStored sizes) (map stored_block (taken_blocks c))
unfolding taken_blocks
taken-sized sizes [] h = tt
taken-sized sizes (took_block a ∷ c) h =
    cond_both a.new (a ∷ taken_blocks c) (taken_blocks c)
    (λ (xs : List Admitted). AllByRecursion (IsFitStored sizes) (map stored_block xs))
    (λ e. (h.0.0, taken-sized sizes c h.1)) (λ e. taken-sized sizes c h.1)
taken-sized sizes (noted n ∷ c) h = taken-sized sizes c h.1

standing-sized : (sizes : Sizes) (c : Chronicle) → AreSized sizes c
    → AllByRecursion (IsFitStored sizes) (standing_blocks c)
unfolding standing_blocks stored_blocks
standing-sized sizes c h =
    all-filter (IsFitStored sizes) (λ (s : Stored). is_in_reach (horizon c) s.branch)
    (map stored_block (taken_blocks c)) (taken-sized sizes c h)

-- the stored block of a digest
pub found-sized : (sizes : Sizes) (d : Bytes) (stored : List Stored)
    → AllByRecursion (λ s. IsCertificate sizes s.certificate) stored
    → IfSome (stored_in d stored) (λ s. IsCertificate sizes s.certificate)
found-sized sizes d [] h = tt
found-sized sizes d (x ∷ xs) h =
    cond_both (bytes_eq (digest_of x.branch) d) (Some x) (stored_in d xs)
    (λ (o : Option Stored). IfSome o (IsFitStored sizes)) (λ e. h.0) (λ e. found-sized sizes d xs h.1)

-- the block of a digest, as it is lent
pub lent-sized : (sizes : Sizes) (d : Bytes) (stored : List Stored) (o : Option (Bor Node))
    → option_map (λ n. kept n.now) o ≡ option_map kept_of (stored_in d stored)
    → AllByRecursion (λ s. IsCertificate sizes s.certificate) stored
    → IfSome o (λ n. IsCertificate sizes n.now.certificate)
lent-sized sizes d stored None e h = tt
lent-sized sizes d stored (Some n) e h = by (stored_in d stored) (found-sized sizes d stored h) e
  where
    same : (s : Stored) → Some (kept n.now) ≡ Some (kept_of s) → kept n.now ≡ kept_of s
    same s k = cc

    by : (x : Option Stored) → IfSome x (IsFitStored sizes) → Some (kept n.now) ≡ option_map kept_of x
        → IsCertificate sizes n.now.certificate
    by None f k = absurd (let none : Some (kept n.now) ≡ None = k in cc)
    by (Some s) f k = subst (IsCertificate sizes) (ap (λ (p : NodeParts). p.certificate) (sym (same s k))) f

-- ---- all that is kept

pub certified-of : (keys : Keys) (c : Chronicle) → AreSized keys.sizes c
    → AreCertified keys.sizes (variables_of keys c)
certified-of keys c h =
    record {
      high = (qc_high-sized keys.sizes c h).0;
      own = own-sized keys.sizes (proposed (identity_of keys) c) (proposed-sized (identity_of keys) c h);
      stored = standing-sized keys.sizes c h;
    }

-- the higher one of two
pub raise-sized : (sizes : Sizes) (new high : High) → IsCertificate sizes new.certificate
    → IsCertificate sizes high.certificate
    → IsCertificate sizes (unwrap_or (raise_of new high) high).certificate
raise-sized sizes new high n h =
    cond_both (nat_lt high.block.height new.block.height || fills_for new high) (Some new) None
    (λ (o : Option High). IsCertificate sizes (unwrap_or o high).certificate) (λ e. n) (λ e. h)

-- what a beat proposes
pub made-sized : (keys : Keys) (s : StateParts) → AreCertified keys.sizes s.variables
    → IsFitOwn keys.sizes (option_or (made_by keys s) s.variables.own)
made-sized keys s h =
    cond_both _ (Some (child_of s)) None
    (λ (o : Option Own). IsFitOwn keys.sizes (option_or o s.variables.own)) (λ e. h.high) (λ e. h.own)
