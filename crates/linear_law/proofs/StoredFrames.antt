-- What a replica stores comes from frames that were read and admitted.
use Rattle.ids.specs.declared.limits.TheConstants.{MOST_BLOCKS}
use Rattle.std.proofs.Common.{ℕ, ◌≡◌, ◌<◌, ◌^◌, ◌&&◌, not, true, [], ◌∷◌, length, refl, sym, subst, inl}
use Rattle.std.proofs.Common.{inr, Option, Some, None, true≢false, nat_lt, ◌∙◌, ap, List, suc, false}
use Rattle.std.specs.Bool.{⊤}
use Rattle.std.specs.List.{list_any}
use Rattle.std.proofs.lemmas.Bool.{and_parts, cond_both}
use Rattle.definitions.specs.Lists.{Among}
use Rattle.definitions.specs.Bytes.{Bytes}
use Rattle.definitions.specs.Frames.{Core, Vote, Certificate, Command, Frame}
use Rattle.definitions.specs.Frames as frame
use Rattle.definitions.specs.FrameLimits.{IsDigest, IsCommand, IsCore, IsVote, IsCertificate, IsFrame}
use Rattle.definitions.specs.Branches.{Branch, just1}
use Rattle.definitions.specs.Digests.{digest_of, core_of}
use Rattle.definitions.specs.Chronicles.{Admitted, Step, Step.took_block, Step.noted, Note.got_vote}
use Rattle.definitions.specs.Chronicles.{Note.got_new_view, Note.got_request, Chronicle, history, horizon}
use Rattle.definitions.specs.Chronicles.{window}
use Rattle.definitions.specs.Chronicles.{IsSound}
use Rattle.definitions.specs.Checks.{Identity, Findings, is_good, is_genesis, vote_verifies}
use Rattle.definitions.specs.States.{Justified, qc_high, find_block, is_due, pending, is_same_request}
use Rattle.definitions.specs.Grounds.{are_replicas, is_justified, own_counted, is_own_certified}
use Rattle.definitions.specs.Grounds.{without_votes, IsKept, grounded, may_lead_from}
use Rattle.definitions.specs.Rulings.{Input.offered_in, Input.relayed_in, Input.lead_in, Input.ask_in}
use Rattle.definitions.specs.Rulings.{Input.view_in, take_block, take_grounded, on_offer, on_relay, lead}
use Rattle.definitions.specs.Chronicles.{Note.seen_view}
use Rattle.definitions.specs.Branches.{branch_eq}
use Rattle.definitions.proofs.Branches.{branch_eq-decides}
use Rattle.ids.specs.Sizes.{quorum}
use Rattle.definitions.specs.Rulings.{Input, Input.proposal_in, Input.block_in, Input.vote_in}
use Rattle.definitions.specs.Rulings.{Input.new_view_in, Input.request_in, Input.fetch_in, Input.timeout_in}
use Rattle.definitions.specs.Rulings.{Input.beat_in, Input.prune_in, Ruling, Ruling.due, Ruling.missing}
use Rattle.definitions.specs.Rulings.{Ruling.refusing}
use Rattle.definitions.specs.Rulings.{admitted, on_placing, on_block, on_request, with_block, ruling}
use Rattle.definitions.specs.Admission.{check, Checked.passes}
use Rattle.definitions.specs.Worlds.{World, Event, self_of}
use Rattle.definitions.specs.Events.{party_of, brought}
use Rattle.definitions.proofs.Sound.{found, found-standing}
use Rattle.definitions.specs.Trees.{Placing, Placing.stands, Placing.grows, Placing.lacks_parent}
use Rattle.definitions.specs.Trees.{Placing.unfit, placing, IsTree}
use Rattle.definitions.proofs.Trees.{same_bytes, found-in, core-known, IsPlaced, placed}
use Rattle.definitions.proofs.Checks.{when-good}
use Rattle.linear_law.proofs.Offers.{not_mine, IsOffered, IsOffered.by_proposal, IsOffered.by_block}
use Rattle.linear_law.proofs.Offers.{IsOffered.by_view, IsGathered, IsGathered.copies}
use Rattle.linear_law.proofs.Effects.{Arises, Arises.of_checked, Arises.of_offer, Arises.of_gathered}
use Rattle.linear_law.proofs.Effects.{Arises.of_timeout, Arises.of_beat, Arises.of_prune, Arises.of_lead}
use Rattle.linear_law.proofs.Effects.{Arises.of_ask}

-- ---- what is known of each step that is stored

-- the highest certificate is kept, and of its block
pub record IsHigh (self : Identity) (j : Justified) : Type 0 where
  pub certificate_is : IsCertificate self.sizes j.certificate
  pub kept : IsKept self j.certificate
  pub justified : j.certificate.digest ≡ digest_of j.block

-- the core and the certificate of a block
pub record IsStoredBlock (self : Identity) (a : Admitted) : Type 0 where
  pub core_is : IsCore self.sizes a.core
  pub certificate_is : IsCertificate self.sizes a.certificate
  pub kept : IsKept self a.certificate
  pub justified : a.certificate.digest ≡ digest_of (just1 a.branch)
  pub stored : a.new ≡ true → core_of a.branch ≡ a.core

-- a vote for a block
pub record IsStoredVote (self : Identity) (v : Vote) (b : Branch) : Type 0 where
  pub vote_is : IsVote self.sizes v
  pub verifies : vote_verifies self (digest_of b) v ≡ true
  pub genesis : is_genesis (digest_of b) ≡ true → b ≡ []

-- a view that was announced, with a certificate of a block
pub record IsStoredView (self : Identity) (view : ℕ) (q : Certificate) (b : Branch) : Type 0 where
  pub view_is : view < 2 ^ 64
  pub certificate_is : IsCertificate self.sizes q
  pub good : is_good self q ≡ true
  pub justified : q.digest ≡ digest_of b

-- a step that is stored
abbrev pub IsStored : Identity → Step → Type 0
IsStored self (took_block a) = IsStoredBlock self a
IsStored self (noted (got_vote voter v b)) = IsStoredVote self (record { voter = voter; vector = v }) b
IsStored self (noted (got_new_view view sender q b)) = IsStoredView self view q b
IsStored self (noted (got_request r)) = IsCommand self.sizes r
IsStored self (noted (seen_view view sender)) = view < 2 ^ 64
IsStored self st = ⊤

-- each step of a chronicle
abbrev pub AreStored : Identity → Chronicle → Type 0
AreStored self [] = ⊤
AreStored self (st ∷ c) = IsStored self st × AreStored self c

-- what an input says, where it was a frame
abbrev pub IsReadInput : Identity → Input → Type 0
IsReadInput self (proposal_in w core q f) =
    IsCore self.sizes core × IsCertificate self.sizes q × (is_good self q ≡ true)
IsReadInput self (block_in sender core q f) =
    IsCore self.sizes core × IsCertificate self.sizes q × (is_good self q ≡ true)
IsReadInput self (vote_in d b) = IsDigest d × IsVote self.sizes b × (vote_verifies self d b ≡ true)
IsReadInput self (new_view_in w sender q) =
    (w < 2 ^ 64) × IsCertificate self.sizes q × (is_good self q ≡ true)
IsReadInput self (request_in r) = IsCommand self.sizes r
IsReadInput self (offered_in w sender core q f) = IsCore self.sizes core × IsCertificate self.sizes q
IsReadInput self (relayed_in senders core q f) = IsCore self.sizes core × IsCertificate self.sizes q
IsReadInput self (ask_in replica d) = IsDigest d
IsReadInput self (view_in w sender) = w < 2 ^ 64
IsReadInput self i = ⊤

-- the step that a ruling stores, and the digest that it asks for
abbrev pub IsStoredRuling : Identity → Chronicle → Ruling → Type 0
IsStoredRuling self c (due st) = IsStored self st
IsStoredRuling self c (missing sender d) = IsDigest d
IsStoredRuling self c (refusing n) = ⊤

-- ---- inputs

-- a frame that was checked is an input of this kind
pub check-read : (self : Identity) (f : Frame) (i : Input) → IsFrame self.sizes f → check self f ≡ passes i
    → IsReadInput self i
unfolding check
check-read self (frame.proposal view core q v) i fr e =
    let g = when-good _ _ _ e in subst (IsReadInput self) g.1 (fr.1, fr.2, (and_parts _ _ g.0).1)
check-read self (frame.block sender core q t) i fr e =
    let g = when-good _ _ _ e in subst (IsReadInput self) g.1 (fr.1, fr.2, (and_parts _ _ g.0).1)
check-read self (frame.request c) i fr e = subst (IsReadInput self) (when-good _ _ _ e).1 fr
check-read self (frame.vote d b) i fr e =
    let g = when-good _ _ _ e in subst (IsReadInput self) g.1 (fr.0, fr.1, g.0)
check-read self (frame.new_view w s q v) i fr e =
    let g = when-good _ _ _ e in subst (IsReadInput self) g.1 (fr.0, fr.2, (and_parts _ _ g.0).1)
check-read self (frame.fetch s d t) i fr e = subst (IsReadInput self) (when-good _ _ _ e).1 tt
check-read self (frame.reply r c s p t g) i fr e = absurd (not_mine i e)

-- so is one that was offered
offer-read : (self : Identity) (f : Frame) (i : Input) → IsFrame self.sizes f → IsOffered self f i
    → IsReadInput self i
offer-read self f i fr (by_proposal view core q v) = (fr.1, fr.2)
offer-read self f i fr (by_block sender core q t) = (fr.1, fr.2)
offer-read self f i fr (by_view view sender q v) = fr.0

-- and copies of a block
gathered-read : (self : Identity) (fs : List Frame) (i : Input)
    → ((f : Frame) → Among f fs → IsFrame self.sizes f) → IsGathered self fs i → IsReadInput self i
gathered-read self fs i fr (copies sender core q t more same) =
    let h = fr _ (inl refl) in (h.1, h.2)

-- so is each input of an event
pub arises-read : (w : World) (e : Event) (i : Input) → Arises w e i → IsReadInput (self_of w (party_of e)) i
arises-read w e i (of_checked f j b g) = check-read (self_of w (party_of e)) f j b.is_frame g
arises-read w e i (of_offer f j b g u) = offer-read (self_of w (party_of e)) f j b.is_frame g
arises-read w e i (of_gathered j b g u) =
    gathered-read (self_of w (party_of e)) (brought w e) j (λ f m. (b f m).is_frame) g
arises-read w e i of_timeout = tt
arises-read w e i of_beat = tt
arises-read w e i (of_prune height) = tt
arises-read w e i (of_lead d u) = tt
arises-read w e i (of_ask r d h) = h

-- ---- rulings

-- a block of the window with genesis's digest is genesis
genesis-only : (c : Chronicle) (b : Branch) → IsTree (horizon c) (window c) → Among b (window c)
    → is_genesis (digest_of b) ≡ true → b ≡ []
unfolding digest_of
genesis-only c b tr m h = tr.one b [] m tr.genesis (same_bytes _ _ h)

-- a block with its certificate
placed-stored : (self : Identity) (w : Option ℕ) (sender : ℕ) (core : Core) (q : Certificate) (f : Findings)
    (c : Chronicle) → IsCore self.sizes core → IsCertificate self.sizes q → is_good self q ≡ true
    → (p : Placing) → IsPlaced (horizon c) MOST_BLOCKS core q (window c) p
    → IsStoredRuling self c (on_placing self w sender core q f c p)
unfolding on_placing admitted
placed-stored self w sender core q f c hk hq g (stands b) h =
    record {
      core_is = hk;
      certificate_is = hq;
      kept = inl g;
      justified = h.1;
      stored = λ n. absurd (true≢false (sym n));
    }
placed-stored self w sender core q f c hk hq g (grows b) (parent, t) =
    let ep = sym (found-in core.parent (window c) parent t.parent_found).1 in
    record {
      core_is = hk;
      certificate_is = hq;
      kept = inl g;
      justified = t.justified ∙ ap (λ (x : Branch). digest_of (just1 x)) (sym t.is);
      stored = λ n. ap core_of t.is ∙ core-known core parent ep t.height;
    }
placed-stored self w sender core q f c hk hq g lacks_parent h = hk.parent
placed-stored self w sender core q f c hk hq g (unfit n) h = tt

block-stored : (self : Identity) (w : Option ℕ) (sender : ℕ) (core : Core) (q : Certificate) (f : Findings)
    (c : Chronicle) → IsCore self.sizes core → IsCertificate self.sizes q → is_good self q ≡ true
    → IsStoredRuling self c (on_block self w sender core q f c)
block-stored self w sender core q f c hk hq g =
    placed-stored self w sender core q f c hk hq g (placing (horizon c) MOST_BLOCKS core q (window c))
    (placed (horizon c) MOST_BLOCKS core q (window c))

-- a vote
vote-stored : (self : Identity) (b : Vote) (d : Bytes) (c : Chronicle) → IsSound self.sizes c → IsDigest d
    → IsVote self.sizes b → vote_verifies self d b ≡ true → (o : Option Branch) → find_block d c ≡ o
    → IsStoredRuling self c (with_block o b.voter d (λ x. due (noted (got_vote b.voter b.vector x))))
vote-stored self b d c so hd hb v None e = hd
vote-stored self b d c so hd hb v (Some x) e =
    let r = found-standing d c x e in
    record {
      vote_is = hb;
      verifies = subst (λ (y : Bytes). vote_verifies self y b ≡ true) (sym r.1) v;
      genesis = genesis-only c x so.is_tree r.0;
    }

-- a view that is announced
view-stored : (self : Identity) (w sender : ℕ) (q : Certificate) (c : Chronicle) → w < 2 ^ 64
    → IsCertificate self.sizes q → is_good self q ≡ true → (o : Option Branch) → find_block q.digest c ≡ o
    → IsStoredRuling self c (with_block o sender q.digest (λ x. due (noted (got_new_view w sender q x))))
view-stored self w sender q c l hq g None e = hq.digest
view-stored self w sender q c l hq g (Some x) e =
    let r =
    found q.digest c x e in
    record { view_is = l; certificate_is = hq; good = g; justified = sym r.1 }

-- a request
request-stored : (self : Identity) (r : Command) (c : Chronicle) → IsCommand self.sizes r
    → IsStoredRuling self c (on_request r c)
unfolding on_request
request-stored self r c h =
    cond_both (is_due (history c) r
    && (not (list_any (is_same_request r) (pending c)) && not (nat_lt (length (pending c)) 4096))) _ _
    (IsStoredRuling self c) (λ e. tt) (λ e. h)

-- a certificate without votes
without-is : (self : Identity) (q : Certificate) → IsCertificate self.sizes q
    → IsCertificate self.sizes (without_votes q)
without-is self q c = record { digest = c.digest; count = inl refl; votes = tt; rising = tt }

-- a block that is taken on grounds
grounded-stored : (self : Identity) (w : Option ℕ) (core : Core) (q : Certificate) (f : Findings)
    (c : Chronicle) → IsCore self.sizes core → IsCertificate self.sizes q
    → IsHigh self (qc_high self.sizes c) → (b : Branch) → q.digest ≡ digest_of (just1 b) → core_of b ≡ core
    → IsStoredRuling self c (take_grounded self w (grounded self (admitted b core q f true) c) c)
unfolding grounded is_own_certified admitted
grounded-stored self w core q f c hk hq high b j k =
    let P : Option Admitted → Type 0 = λ o. IsStoredRuling self c (take_grounded self w o c) in
    cond_both (is_justified (just1 b) c) _ _ P
    (λ t. record {
      core_is = hk;
      certificate_is = without-is self q hq;
      kept = inr refl;
      justified = j;
      stored = λ n. k;
    })
    (λ t. cond_both (branch_eq (qc_high self.sizes c).block (just1 b)
    && are_replicas self.sizes (quorum self.sizes) (own_counted self c)) _ _ P
    (λ e. record {
      core_is = hk;
      certificate_is = high.certificate_is;
      kept = high.kept;
      justified = high.justified
          ∙ ap digest_of ((branch_eq-decides (qc_high self.sizes c).block (just1 b)).0 (and_parts _ _ e).0);
      stored = λ n. k;
    })
    (λ e. tt))

-- a block that stands, whose certificate isn't good for the replica
stands-stored : (self : Identity) (w : Option ℕ) (core : Core) (q : Certificate) (f : Findings)
    (c : Chronicle) → IsCore self.sizes core → IsCertificate self.sizes q → (b : Branch)
    → q.digest ≡ digest_of (just1 b)
    → IsStoredRuling self c (take_block self w
    (record (admitted b core q f false) { certificate = without_votes q; counted = [] }) c)
unfolding admitted
stands-stored self w core q f c hk hq b j = record {
  core_is = hk;
  certificate_is = without-is self q hq;
  kept = inr refl;
  justified = j;
  stored = λ n. absurd (true≢false (sym n));
}

offer-stored : (self : Identity) (w : Option ℕ) (sender : ℕ) (core : Core) (q : Certificate) (f : Findings)
    (c : Chronicle) → IsCore self.sizes core → IsCertificate self.sizes q
    → IsHigh self (qc_high self.sizes c) → (p : Placing)
    → IsPlaced (horizon c) MOST_BLOCKS core q (window c) p
    → IsStoredRuling self c (on_offer self w sender core q f c p)
unfolding on_offer
offer-stored self w sender core q f c hk hq high (stands b) h = stands-stored self w core q f c hk hq b h.1
offer-stored self w sender core q f c hk hq high (grows b) (parent, t) =
    let ep = sym (found-in core.parent (window c) parent t.parent_found).1 in
    grounded-stored self w core q f c hk hq high b
    (t.justified ∙ ap (λ (x : Branch). digest_of (just1 x)) (sym t.is))
    (ap core_of t.is ∙ core-known core parent ep t.height)
offer-stored self w sender core q f c hk hq high lacks_parent h = hk.parent
offer-stored self w sender core q f c hk hq high (unfit n) h = tt

relay-stored : (self : Identity) (senders : List ℕ) (core : Core) (q : Certificate) (f : Findings)
    (c : Chronicle) → IsCore self.sizes core → IsCertificate self.sizes q → (p : Placing)
    → IsPlaced (horizon c) MOST_BLOCKS core q (window c) p
    → IsStoredRuling self c (on_relay self senders core q f c p)
unfolding on_relay admitted
relay-stored self senders core q f c hk hq (stands b) h = stands-stored self None core q f c hk hq b h.1
relay-stored self senders core q f c hk hq (grows b) (parent, t) =
    let ep = sym (found-in core.parent (window c) parent t.parent_found).1 in
    cond_both (are_replicas self.sizes (suc self.sizes.faults) senders) _ _ (IsStoredRuling self c)
    (λ e. record {
      core_is = hk;
      certificate_is = without-is self q hq;
      kept = inr refl;
      justified = t.justified ∙ ap (λ (x : Branch). digest_of (just1 x)) (sym t.is);
      stored = λ n. ap core_of t.is ∙ core-known core parent ep t.height;
    })
    (λ e. tt)
relay-stored self senders core q f c hk hq lacks_parent h = tt
relay-stored self senders core q f c hk hq (unfit n) h = tt

-- a lead stores no frame's part
lead-stored : (self : Identity) (o : Option Branch) (c : Chronicle) → IsStoredRuling self c (lead self o c)
lead-stored self None c = tt
lead-stored self (Some b) c =
    cond_both (may_lead_from self b c) _ _ (IsStoredRuling self c) (λ e. tt) (λ e. tt)

-- what an input comes to
pub ruling-stored : (self : Identity) (i : Input) (c : Chronicle) → IsReadInput self i
    → IsHigh self (qc_high self.sizes c) → IsSound self.sizes c → IsStoredRuling self c (ruling self i c)
unfolding ruling
ruling-stored self (proposal_in w core q f) c h high so = block-stored self _ _ core q f c h.0 h.1 h.2
ruling-stored self (block_in sender core q f) c h high so = block-stored self _ _ core q f c h.0 h.1 h.2
ruling-stored self (vote_in d b) c h high so = vote-stored self b d c so h.0 h.1 h.2 _ refl
ruling-stored self (new_view_in w sender q) c h high so = view-stored self w sender q c h.0 h.1 h.2 _ refl
ruling-stored self (request_in r) c h high so = request-stored self r c h
ruling-stored self (fetch_in sender d) c h high so = tt
ruling-stored self timeout_in c h high so = tt
ruling-stored self beat_in c h high so = tt
ruling-stored self (prune_in height) c h high so = tt
ruling-stored self (offered_in w sender core q f) c h high so =
    offer-stored self w sender core q f c h.0 h.1 high (placing (horizon c) MOST_BLOCKS core q (window c))
    (placed (horizon c) MOST_BLOCKS core q (window c))
ruling-stored self (relayed_in senders core q f) c h high so =
    relay-stored self senders core q f c h.0 h.1 (placing (horizon c) MOST_BLOCKS core q (window c))
    (placed (horizon c) MOST_BLOCKS core q (window c))
ruling-stored self (lead_in d) c h high so = lead-stored self (find_block d c) c
ruling-stored self (ask_in replica d) c h high so = h
ruling-stored self (view_in w sender) c h high so = h
