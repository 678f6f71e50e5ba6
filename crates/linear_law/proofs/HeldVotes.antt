-- What is so of each vote that came to a replica is so of those of its highest certificate, and of each
-- certificate that it stores.
use Rattle.ids.specs.declared.limits.TheConstants.{MOST_BLOCKS}
use Rattle.std.proofs.Common.{Bool, ℕ, ◌≡◌, ◌&&◌, ◌||◌, ◌==◌, not, true, List, [], ◌∷◌, length, map, filter, nat_lt, suc}
use Rattle.std.proofs.Common.{refl, sym, ap, subst, inl, inr, Option, Some, None}
use Rattle.std.specs.Bool.{⊤}
use Rattle.std.specs.List.{list_any, AllByRecursion}
use Rattle.std.proofs.lemmas.Bool.{and_parts, cond_both}
use Rattle.ids.specs.Sizes.{Sizes, quorum}
use Rattle.definitions.specs.Lists.{Among}
use Rattle.definitions.specs.Bytes.{Bytes}
use Rattle.definitions.specs.Frames.{Command, Core, Vote, Certificate, Frame}
use Rattle.definitions.specs.Branches.{Branch, branch_eq, just1}
use Rattle.definitions.specs.Digests.{digest_of}
use Rattle.definitions.specs.Trees.{Placing, Placing.stands, Placing.grows, Placing.lacks_parent}
use Rattle.definitions.specs.Trees.{Placing.unfit, placing}
use Rattle.definitions.specs.Chronicles.{Admitted, Step, Step.took_block, Step.noted, Note.got_vote}
use Rattle.definitions.specs.Chronicles.{Note.got_new_view, Note.got_request, Note.got_fetch}
use Rattle.definitions.specs.Chronicles.{Note.timed_out, Note.beat, Note.pruned, Note.seen_view}
use Rattle.definitions.specs.Chronicles.{Note.led_from, Chronicle, history, horizon, window}
use Rattle.definitions.specs.Checks.{Identity, Findings, vote_verifies}
use Rattle.definitions.specs.Grounds.{are_replicas, is_justified, own_counted, is_own_certified}
use Rattle.definitions.specs.Grounds.{grounded, may_lead_from}
use Rattle.definitions.specs.States.{votes, Justified, raised, fills, comes_whole, higher, qc_high}
use Rattle.definitions.specs.States.{find_block, is_due}
use Rattle.definitions.specs.States.{pending, is_same_request}
use Rattle.definitions.specs.Rulings.{Input, Input.proposal_in, Input.block_in, Input.vote_in}
use Rattle.definitions.specs.Rulings.{Input.new_view_in, Input.request_in, Input.fetch_in, Input.timeout_in}
use Rattle.definitions.specs.Rulings.{Input.beat_in, Input.prune_in, Input.offered_in, Input.relayed_in}
use Rattle.definitions.specs.Rulings.{Input.lead_in, Input.ask_in, Input.view_in, Ruling.due}
use Rattle.definitions.specs.Rulings.{admitted, take_grounded}
use Rattle.definitions.specs.Rulings.{on_placing, on_offer, on_relay, on_request, lead, with_block}
use Rattle.definitions.specs.Rulings.{ruling}
use Rattle.definitions.specs.Admission.{Checked.passes, check}
use Rattle.definitions.specs.Premises.{vote_claim, accepted_tags}
use Rattle.definitions.specs.Frames as frame
use Rattle.definitions.proofs.Lists.{Among-kept, Among-mapped, Among-before}
use Rattle.definitions.proofs.Certificates.{all-implied, all-by_voter}
use Rattle.definitions.proofs.Checks.{when-good}
use Rattle.definitions.proofs.Branches.{branch_eq-decides}
use Rattle.definitions.proofs.Sound.{found}
use Rattle.linear_law.proofs.Inputs.{AllStanding}
use Rattle.linear_law.proofs.Offers.{not_mine, IsOffered, IsOffered.by_proposal, IsOffered.by_block}
use Rattle.linear_law.proofs.Offers.{IsOffered.by_view, IsGathered, IsGathered.copies}

-- it is so of each vote of a certificate
abbrev pub AllVotes : (Bytes → Vote → Type 0) → Certificate → Type 0
AllVotes P q = AllByRecursion (P q.digest) q.votes

-- of each vote that a step brings
abbrev pub IsHolding : (Bytes → Vote → Type 0) → Step → Type 0
IsHolding P (took_block a) = AllVotes P a.certificate
IsHolding P (noted (got_vote voter v b)) = P (digest_of b) (record { voter = voter; vector = v })
IsHolding P (noted (got_new_view w s q b)) = AllVotes P q
IsHolding P st = ⊤

-- of each vote that was brought to a replica
abbrev pub AreHolding : (Bytes → Vote → Type 0) → Chronicle → Type 0
AreHolding P c = AllByRecursion (IsHolding P) c

-- of each vote that an input brings; of an offer, or of copies, none is kept
abbrev pub IsBringing : (Bytes → Vote → Type 0) → Input → Type 0
IsBringing P (proposal_in w core q f) = AllVotes P q
IsBringing P (block_in s core q f) = AllVotes P q
IsBringing P (vote_in d b) = P d b
IsBringing P (new_view_in w s q) = AllVotes P q
IsBringing P i = ⊤

-- ---- what is so, and what follows from it

module _ (P Q : Bytes → Vote → Type 0) (then : (d : Bytes) (b : Vote) → P d b → Q d b) where
  pub all_votes-implied : (q : Certificate) → AllVotes P q → AllVotes Q q
  all_votes-implied q h = all-implied (P q.digest) (Q q.digest) (then q.digest) q.votes h

  pub holding-implied : (st : Step) → IsHolding P st → IsHolding Q st
  holding-implied (took_block a) h = all_votes-implied a.certificate h
  holding-implied (noted (got_vote voter v b)) h =
      then (digest_of b) (record { voter = voter; vector = v }) h
  holding-implied (noted (got_new_view w s q b)) h = all_votes-implied q h
  holding-implied (noted (got_request k)) h = tt
  holding-implied (noted (got_fetch to b)) h = tt
  holding-implied (noted timed_out) h = tt
  holding-implied (noted beat) h = tt
  holding-implied (noted (pruned height)) h = tt
  holding-implied (noted (seen_view w s)) h = tt
  holding-implied (noted (led_from b)) h = tt

  pub bringing-implied : (i : Input) → IsBringing P i → IsBringing Q i
  bringing-implied (proposal_in w core q f) h = all_votes-implied q h
  bringing-implied (block_in s core q f) h = all_votes-implied q h
  bringing-implied (vote_in d b) h = then d b h
  bringing-implied (new_view_in w s q) h = all_votes-implied q h
  bringing-implied (request_in r) h = tt
  bringing-implied (fetch_in s d) h = tt
  bringing-implied timeout_in h = tt
  bringing-implied beat_in h = tt
  bringing-implied (prune_in height) h = tt
  bringing-implied (offered_in w s core q f) h = tt
  bringing-implied (relayed_in ss core q f) h = tt
  bringing-implied (lead_in d) h = tt
  bringing-implied (ask_in r d) h = tt
  bringing-implied (view_in w s) h = tt

module _ (P : Bytes → Vote → Type 0) where
  -- ---- the highest certificate

  votes-held : (s : Sizes) (block : Branch) (c : Chronicle) → AreHolding P c
      → AllByRecursion (P (digest_of block)) (votes s block c)
  unfolding votes
  votes-held s block [] h = tt
  votes-held s block (noted (got_vote voter v b) ∷ c) h =
      cond_both (branch_eq b block
      && (not (list_any (λ x. x.voter == voter) (votes s block c)) && nat_lt (length (votes s block c))
      (quorum s))) _ _ (AllByRecursion (P (digest_of block)))
      (λ e. (
        subst (λ (y : Bytes). P y (record { voter = voter; vector = v }))
            (ap digest_of ((branch_eq-decides b block).0 (and_parts _ _ e).0)) h.0,
        votes-held s block c h.1,
      ))
      (λ e. votes-held s block c h.1)
  votes-held s block (noted (led_from b) ∷ c) h = tt
  votes-held s block (took_block a ∷ c) h = votes-held s block c h.1
  votes-held s block (noted n ∷ c) h = votes-held s block c h.1

  abbrev IsRaisedHolding : Option Justified → Type 0
  IsRaisedHolding None = ⊤
  IsRaisedHolding (Some j) = AllVotes P j.certificate

  raised-held : (s : Sizes) (st : Step) (c : Chronicle) → AreHolding P (st ∷ c)
      → IsRaisedHolding (raised s st c)
  unfolding raised
  raised-held s (took_block a) c h = cond_both a.new _ _ IsRaisedHolding (λ e. h.0) (λ e. tt)
  raised-held s (noted (got_vote voter v b)) c h =
      cond_both (nat_lt (length (votes s b c)) (quorum s)
      && (length (votes s b (noted (got_vote voter v b) ∷ c)) == quorum s)) _ _ IsRaisedHolding
      (λ e. all-by_voter (P (digest_of b)) (votes s b (noted (got_vote voter v b) ∷ c))
      (votes-held s b (noted (got_vote voter v b) ∷ c) h))
      (λ e. tt)
  raised-held s (noted (got_new_view w r q b)) c h = h.0
  raised-held s (noted (got_request k)) c h = tt
  raised-held s (noted (got_fetch to b)) c h = tt
  raised-held s (noted timed_out) c h = tt
  raised-held s (noted beat) c h = tt
  raised-held s (noted (pruned height)) c h = tt
  raised-held s (noted (seen_view w r)) c h = tt
  raised-held s (noted (led_from b)) c h = tt

  higher-held : (whole : Bool) (o : Option Justified) (q : Justified) → IsRaisedHolding o
      → AllVotes P q.certificate → AllVotes P (higher whole o q).certificate
  higher-held whole None q r h = h
  higher-held whole (Some p) q r h =
      cond_both (nat_lt (length q.block) (length p.block) || (whole && fills p q)) p q
      (λ (j : Justified). AllVotes P j.certificate) (λ e. r) (λ e. h)

  -- the votes of the highest certificate are among those that came
  pub high-held : (s : Sizes) (c : Chronicle) → AreHolding P c → AllVotes P (qc_high s c).certificate
  unfolding qc_high
  high-held s [] h = tt
  high-held s (noted (led_from b) ∷ c) h =
      cond_both (branch_eq (qc_high s c).block b) (qc_high s c) _
      (λ (j : Justified). AllVotes P j.certificate) (λ e. high-held s c h.1) (λ e. tt)
  high-held s (st ∷ c) h =
      higher-held (comes_whole st) (raised s st c) (qc_high s c) (raised-held s st c h) (high-held s c h.1)

  -- ---- rulings

  placed-held : (self : Identity) (w : Option ℕ) (sender : ℕ) (core : Core) (q : Certificate) (f : Findings)
      (c : Chronicle) → AllVotes P q → (p : Placing)
      → AllStanding (IsHolding P) (on_placing self w sender core q f c p)
  unfolding on_placing admitted
  placed-held self w sender core q f c h (stands b) = h
  placed-held self w sender core q f c h (grows b) = h
  placed-held self w sender core q f c h lacks_parent = tt
  placed-held self w sender core q f c h (unfit n) = tt

  vote-held : (d : Bytes) (b : Vote) (c : Chronicle) → P d b → (o : Option Branch) → find_block d c ≡ o
      → AllStanding (IsHolding P) (with_block o b.voter d (λ x. due (noted (got_vote b.voter b.vector x))))
  vote-held d b c h None e = tt
  vote-held d b c h (Some x) e = subst (λ (y : Bytes). P y b) (sym (found d c x e).1) h

  view-held : (w r : ℕ) (q : Certificate) (o : Option Branch) → AllVotes P q
      → AllStanding (IsHolding P) (with_block o r q.digest (λ x. due (noted (got_new_view w r q x))))
  view-held w r q None h = tt
  view-held w r q (Some x) h = h

  request-held : (r : Command) (c : Chronicle) → AllStanding (IsHolding P) (on_request r c)
  unfolding on_request
  request-held r c = cond_both (is_due (history c) r
      && (not (list_any (is_same_request r) (pending c)) && not (nat_lt (length (pending c)) 4096))) _ _
      (AllStanding (IsHolding P)) (λ e. tt) (λ e. tt)

  grounded-held : (self : Identity) (w : Option ℕ) (core : Core) (q : Certificate) (f : Findings)
      (c : Chronicle) → AreHolding P c → (b : Branch)
      → AllStanding (IsHolding P) (take_grounded self w (grounded self (admitted b core q f true) c) c)
  unfolding grounded is_own_certified admitted
  grounded-held self w core q f c h b =
      let R : Option Admitted → Type 0 = λ o. AllStanding (IsHolding P) (take_grounded self w o c) in
      cond_both (is_justified (just1 b) c) _ _ R (λ t. tt)
      (λ t. cond_both (branch_eq (qc_high self.sizes c).block (just1 b)
      && are_replicas self.sizes (quorum self.sizes) (own_counted self c)) _ _ R
      (λ e. high-held self.sizes c h) (λ e. tt))

  offer-held : (self : Identity) (w : Option ℕ) (sender : ℕ) (core : Core) (q : Certificate) (f : Findings)
      (c : Chronicle) → AreHolding P c → (p : Placing)
      → AllStanding (IsHolding P) (on_offer self w sender core q f c p)
  unfolding on_offer admitted
  offer-held self w sender core q f c h (stands b) = tt
  offer-held self w sender core q f c h (grows b) = grounded-held self w core q f c h b
  offer-held self w sender core q f c h lacks_parent = tt
  offer-held self w sender core q f c h (unfit n) = tt

  relay-held : (self : Identity) (senders : List ℕ) (core : Core) (q : Certificate) (f : Findings)
      (c : Chronicle) (p : Placing) → AllStanding (IsHolding P) (on_relay self senders core q f c p)
  unfolding on_relay admitted
  relay-held self senders core q f c (stands b) = tt
  relay-held self senders core q f c (grows b) =
      cond_both (are_replicas self.sizes (suc self.sizes.faults) senders) _ _ (AllStanding (IsHolding P))
      (λ e. tt) (λ e. tt)
  relay-held self senders core q f c lacks_parent = tt
  relay-held self senders core q f c (unfit n) = tt

  lead-held : (self : Identity) (o : Option Branch) (c : Chronicle)
      → AllStanding (IsHolding P) (lead self o c)
  lead-held self None c = tt
  lead-held self (Some b) c =
      cond_both (may_lead_from self b c) _ _ (AllStanding (IsHolding P)) (λ e. tt) (λ e. tt)

  -- so of each vote that a replica stores
  pub ruling-held : (self : Identity) (i : Input) (c : Chronicle) → AreHolding P c → IsBringing P i
      → AllStanding (IsHolding P) (ruling self i c)
  unfolding ruling
  ruling-held self (proposal_in w core q f) c h n =
      placed-held self _ _ core q f c n (placing (horizon c) MOST_BLOCKS core q (window c))
  ruling-held self (block_in sender core q f) c h n =
      placed-held self _ _ core q f c n (placing (horizon c) MOST_BLOCKS core q (window c))
  ruling-held self (vote_in d b) c h n = vote-held d b c n _ refl
  ruling-held self (new_view_in w r q) c h n = view-held w r q _ n
  ruling-held self (request_in r) c h n = request-held r c
  ruling-held self (fetch_in r d) c h n = tt
  ruling-held self timeout_in c h n = tt
  ruling-held self beat_in c h n = tt
  ruling-held self (prune_in height) c h n = tt
  ruling-held self (offered_in w sender core q f) c h n =
      offer-held self w sender core q f c h (placing (horizon c) MOST_BLOCKS core q (window c))
  ruling-held self (relayed_in senders core q f) c h n =
      relay-held self senders core q f c (placing (horizon c) MOST_BLOCKS core q (window c))
  ruling-held self (lead_in d) c h n = lead-held self (find_block d c) c
  ruling-held self (ask_in r d) c h n = tt
  ruling-held self (view_in w r) c h n = tt

-- ---- what a check found

-- a vote whose tag verifies is one of the tags that the party relies on
abbrev pub IsClaimed : Identity → Frame → Bytes → Vote → Type 0
IsClaimed self f d b = vote_verifies self d b ≡ true → Among (vote_claim self d b) (accepted_tags self f)

-- what holds of each among them holds of all
pub all-from : {A : Type 0} (P : A → Type 0) (xs : List A) → ((x : A) → Among x xs → P x) → AllByRecursion P xs
all-from P [] h = tt
all-from P (x ∷ xs) h = (h x (inl refl), all-from P xs (λ y m. h y (inr m)))

-- those of a certificate
pub votes-claimed : (self : Identity) (f : Frame) (q : Certificate)
    → ((b : Vote) → Among (vote_claim self q.digest b)
    (map (vote_claim self q.digest) (filter (vote_verifies self q.digest) q.votes))
    → Among (vote_claim self q.digest b) (accepted_tags self f))
    → AllVotes (IsClaimed self f) q
votes-claimed self f q h = all-from (IsClaimed self f q.digest) q.votes (λ b m v. h b
    (Among-mapped (vote_claim self q.digest) (filter (vote_verifies self q.digest) q.votes) b
    (Among-kept (vote_verifies self q.digest) q.votes b m v)))

-- those of a frame that came
pub check-claimed : (self : Identity) (f : Frame) (i : Input) → check self f ≡ passes i
    → IsBringing (IsClaimed self f) i
unfolding check accepted_tags
check-claimed self (frame.proposal view core q v) i e =
    subst (IsBringing (IsClaimed self (frame.proposal view core q v))) (when-good _ _ _ e).1
    (votes-claimed self (frame.proposal view core q v) q (λ b m. inr (Among-before _ _ _ m)))
check-claimed self (frame.block sender core q t) i e =
    subst (IsBringing (IsClaimed self (frame.block sender core q t))) (when-good _ _ _ e).1
    (votes-claimed self (frame.block sender core q t) q (λ b m. inr (Among-before _ _ _ m)))
check-claimed self (frame.new_view w s q v) i e =
    subst (IsBringing (IsClaimed self (frame.new_view w s q v))) (when-good _ _ _ e).1
    (votes-claimed self (frame.new_view w s q v) q (λ b m. inr m))
check-claimed self (frame.vote d b) i e =
    subst (IsBringing (IsClaimed self (frame.vote d b))) (when-good _ _ _ e).1 (λ v. inl refl)
check-claimed self (frame.request c) i e =
    subst (IsBringing (IsClaimed self (frame.request c))) (when-good _ _ _ e).1 tt
check-claimed self (frame.fetch s d t) i e =
    subst (IsBringing (IsClaimed self (frame.fetch s d t))) (when-good _ _ _ e).1 tt
check-claimed self (frame.reply r c s p t g) i e = absurd (not_mine i e)

-- an offer and copies bring none that are kept
pub offer-bringing : (P : Bytes → Vote → Type 0) (self : Identity) (f : Frame) (i : Input)
    → IsOffered self f i → IsBringing P i
offer-bringing P self f i (by_proposal view core q v) = tt
offer-bringing P self f i (by_block sender core q t) = tt
offer-bringing P self f i (by_view view sender q v) = tt

pub gathered-bringing : (P : Bytes → Vote → Type 0) (self : Identity) (fs : List Frame) (i : Input)
    → IsGathered self fs i → IsBringing P i
gathered-bringing P self fs i (copies sender core q t more same) = tt
