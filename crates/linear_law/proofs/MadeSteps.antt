-- What a step stores and sends: what holds of all votes and commands that come holds of its own.
use Rattle.ids.specs.declared.limits.TheConstants.{MOST_BLOCKS}
use Rattle.ids.specs.declared.fault.Fault.TheVariants as fault
use Rattle.std.proofs.Common.{ℕ, ◌≡◌, ◌&&◌, not, ◌==◌, true, List, [], ◌∷◌}
use Rattle.std.proofs.Common.{suc, length, nat_lt, refl, sym, ap, subst, ◌∙◌, inl, inr, true≢false}
use Rattle.std.proofs.Common.{Option, Some, None}
use Rattle.std.specs.Bool.{⊤}
use Rattle.std.specs.List.{list_any, AllByRecursion}
use Rattle.std.proofs.lemmas.Bool.{cond_both}
use Rattle.definitions.specs.Lists.{Among}
use Rattle.definitions.specs.Bytes.{Bytes}
use Rattle.definitions.specs.Branches.{Branch, branch_eq, just1}
use Rattle.definitions.specs.Frames.{Command, Core, Vote, Certificate, Frame, sender_of, content_of}
use Rattle.definitions.specs.Frames.{kind_of, own_tag}
use Rattle.ids.specs.Sizes.{quorum}
use Rattle.definitions.specs.Digests.{core_of}
use Rattle.definitions.specs.Chronicles.{Admitted, Step, Step.noted, Note.got_vote}
use Rattle.definitions.specs.Chronicles.{Note.got_new_view}
use Rattle.definitions.specs.Chronicles.{Chronicle}
use Rattle.definitions.specs.Chronicles.{history, horizon, window}
use Rattle.definitions.specs.Checks.{Identity, Findings}
use Rattle.definitions.specs.States.{view}
use Rattle.definitions.specs.States.{qc_high, pending, is_due}
use Rattle.definitions.specs.States.{is_same_request, find_block}
use Rattle.definitions.specs.Trees.{Placing, Placing.stands, Placing.grows, Placing.lacks_parent}
use Rattle.definitions.specs.Trees.{Placing.unfit, placing}
use Rattle.definitions.specs.Rulings.{Input, Input.proposal_in, Input.block_in, Input.vote_in}
use Rattle.definitions.specs.Rulings.{Input.new_view_in, Input.request_in, Input.fetch_in, Input.timeout_in}
use Rattle.definitions.specs.Rulings.{Input.prune_in, Input.offered_in, Input.relayed_in, Input.lead_in}
use Rattle.definitions.specs.Rulings.{Input.ask_in, Input.view_in, take_grounded, on_offer, on_relay, lead}
use Rattle.definitions.specs.Grounds.{are_replicas, is_justified, own_counted, is_own_certified}
use Rattle.definitions.specs.Grounds.{grounded, may_lead_from}
use Rattle.definitions.specs.Rulings.{Input.beat_in, Ruling, Ruling.due, Ruling.missing, Ruling.refusing}
use Rattle.definitions.specs.Rulings.{admitted, on_placing, on_request, with_block, ruling, conflicts}
use Rattle.definitions.specs.Sendings.{To.to_party, Sending}
use Rattle.definitions.specs.Sendings.{fetch_frame}
use Rattle.definitions.specs.Replicas.{MemorySupply, MemorySupply.ample, MemorySupply.refused_at_once}
use Rattle.definitions.specs.Replicas.{MemorySupply.refused_after}
use Rattle.definitions.specs.Replicas.{Replica, Reaction, Reaction.fails, Standing, Standing.running}
use Rattle.definitions.specs.Replicas.{Standing.stopped, Standing.cut_short, executes, on_step, on_ruling}
use Rattle.definitions.specs.Replicas.{step}
use Rattle.definitions.specs.Sessions.{is_ample}
use Rattle.definitions.specs.Admission.{Checked.passes, check}
use Rattle.definitions.specs.Events.{out_of}
use Rattle.definitions.proofs.Checks.{when-good}
use Rattle.definitions.proofs.Sound.{found}
use Rattle.definitions.proofs.Trees.{found-in, core-known, IsPlaced, placed}
use Rattle.linear_law.proofs.Offers.{not_mine, IsOffered, IsOffered.by_proposal, IsOffered.by_block}
use Rattle.linear_law.proofs.Offers.{IsOffered.by_view, IsGathered, IsGathered.copies}
use Rattle.linear_law.proofs.Sends.{sends}
use Rattle.definitions.specs.Frames as frame
use Rattle.linear_law.proofs.HeldVotes.{AllVotes}
use Rattle.linear_law.proofs.Made.{Brought, IsOwnOut, IsMadeInput, IsMade, AreMade, high-made, sends-made}

module _ (IsVote : Bytes → Vote → Type 0) (IsCommand : Command → Type 0) where
  -- ---- rulings

  AllMade : Ruling → Type 0
  AllMade (due st) = IsMade IsVote IsCommand st
  AllMade (missing r d) = ⊤
  AllMade (refusing n) = ⊤

  placed-made : (self : Identity) (w : Option ℕ) (sender : ℕ) (core : Core) (q : Certificate) (f : Findings)
      (c : Chronicle) → AllByRecursion IsCommand core.commands → AllVotes IsVote q → (p : Placing)
      → IsPlaced (horizon c) MOST_BLOCKS core q (window c) p → AllMade (on_placing self w sender core q f c p)
  unfolding on_placing admitted AllMade
  placed-made self w sender core q f c hk hq (stands b) h = (λ n. absurd (true≢false (sym n)), hq)
  placed-made self w sender core q f c hk hq (grows b) (parent, t) =
      let ep = sym (found-in core.parent (window c) parent t.parent_found).1 in (
        λ n. subst (λ (x : Core). AllByRecursion IsCommand x.commands)
            (sym (ap core_of t.is ∙ core-known core parent ep t.height)) hk,
        hq,
      )
  placed-made self w sender core q f c hk hq lacks_parent h = tt
  placed-made self w sender core q f c hk hq (unfit n) h = tt

  vote-made : (d : Bytes) (b : Vote) (c : Chronicle) → IsVote d b → (o : Option Branch)
      → find_block d c ≡ o
      → AllMade (with_block o b.voter d (λ x. due (noted (got_vote b.voter b.vector x))))
  unfolding AllMade
  vote-made d b c h None e = tt
  vote-made d b c h (Some x) e = subst (λ (y : Bytes). IsVote y b) (sym (found d c x e).1) h

  view-made : (w r : ℕ) (q : Certificate) (o : Option Branch) → AllVotes IsVote q
      → AllMade (with_block o r q.digest (λ x. due (noted (got_new_view w r q x))))
  unfolding AllMade
  view-made w r q None h = tt
  view-made w r q (Some x) h = h

  request-made : (r : Command) (c : Chronicle) → IsCommand r → AllMade (on_request r c)
  unfolding on_request AllMade
  request-made r c h = cond_both (is_due (history c) r
      && (not (list_any (is_same_request r) (pending c)) && not (nat_lt (length (pending c)) 4096))) _ _
      AllMade (λ e. tt) (λ e. h)

  grounded-made : (self : Identity) (w : Option ℕ) (core : Core) (q : Certificate) (f : Findings)
      (c : Chronicle) → AreMade IsVote IsCommand c → (b : Branch) → AllByRecursion IsCommand (core_of b).commands
      → AllMade (take_grounded self w (grounded self (admitted b core q f true) c) c)
  unfolding grounded is_own_certified admitted AllMade
  grounded-made self w core q f c made b hk =
      let P : Option Admitted → Type 0 = λ o. AllMade (take_grounded self w o c) in
      cond_both (is_justified (just1 b) c) _ _ P (λ t. (λ n. hk, tt))
      (λ t. cond_both (branch_eq (qc_high self.sizes c).block (just1 b)
      && are_replicas self.sizes (quorum self.sizes) (own_counted self c)) _ _ P
      (λ e. (λ n. hk, high-made IsVote IsCommand self.sizes c made)) (λ e. tt))

  offer-made : (self : Identity) (w : Option ℕ) (sender : ℕ) (core : Core) (q : Certificate) (f : Findings)
      (c : Chronicle) → AreMade IsVote IsCommand c → AllByRecursion IsCommand core.commands → (p : Placing)
      → IsPlaced (horizon c) MOST_BLOCKS core q (window c) p → AllMade (on_offer self w sender core q f c p)
  unfolding on_offer admitted AllMade
  offer-made self w sender core q f c made hk (stands b) h = (λ n. absurd (true≢false (sym n)), tt)
  offer-made self w sender core q f c made hk (grows b) (parent, t) =
      let ep = sym (found-in core.parent (window c) parent t.parent_found).1 in
      grounded-made self w core q f c made b (subst (λ (x : Core). AllByRecursion IsCommand x.commands)
      (sym (ap core_of t.is ∙ core-known core parent ep t.height)) hk)
  offer-made self w sender core q f c made hk lacks_parent h = tt
  offer-made self w sender core q f c made hk (unfit n) h = tt

  relay-made : (self : Identity) (senders : List ℕ) (core : Core) (q : Certificate) (f : Findings)
      (c : Chronicle) → AllByRecursion IsCommand core.commands → (p : Placing)
      → IsPlaced (horizon c) MOST_BLOCKS core q (window c) p → AllMade (on_relay self senders core q f c p)
  unfolding on_relay admitted AllMade
  relay-made self senders core q f c hk (stands b) h = (λ n. absurd (true≢false (sym n)), tt)
  relay-made self senders core q f c hk (grows b) (parent, t) =
      let ep = sym (found-in core.parent (window c) parent t.parent_found).1 in
      cond_both (are_replicas self.sizes (suc self.sizes.faults) senders) _ _ AllMade
      (λ e. (
        λ n. subst (λ (x : Core). AllByRecursion IsCommand x.commands)
            (sym (ap core_of t.is ∙ core-known core parent ep t.height)) hk,
        tt,
      ))
      (λ e. tt)
  relay-made self senders core q f c hk lacks_parent h = tt
  relay-made self senders core q f c hk (unfit n) h = tt

  lead-made : (self : Identity) (o : Option Branch) (c : Chronicle) → AllMade (lead self o c)
  unfolding AllMade
  lead-made self None c = tt
  lead-made self (Some b) c = cond_both (may_lead_from self b c) _ _ AllMade (λ e. tt) (λ e. tt)

  ruling-made : (self : Identity) (i : Input) (c : Chronicle) → AreMade IsVote IsCommand c → IsMadeInput IsVote IsCommand i
      → AllMade (ruling self i c)
  unfolding ruling AllMade
  ruling-made self (proposal_in w core q f) c made h =
      placed-made self _ _ core q f c h.0 h.1 (placing (horizon c) MOST_BLOCKS core q (window c))
      (placed (horizon c) MOST_BLOCKS core q (window c))
  ruling-made self (block_in sender core q f) c made h =
      placed-made self _ _ core q f c h.0 h.1 (placing (horizon c) MOST_BLOCKS core q (window c))
      (placed (horizon c) MOST_BLOCKS core q (window c))
  ruling-made self (vote_in d b) c made h = vote-made d b c h _ refl
  ruling-made self (new_view_in w r q) c made h = view-made w r q _ h
  ruling-made self (request_in r) c made h = request-made r c h
  ruling-made self (fetch_in r d) c made h = tt
  ruling-made self timeout_in c made h = tt
  ruling-made self beat_in c made h = tt
  ruling-made self (prune_in height) c made h = tt
  ruling-made self (offered_in w sender core q f) c made h =
      offer-made self w sender core q f c made h (placing (horizon c) MOST_BLOCKS core q (window c))
      (placed (horizon c) MOST_BLOCKS core q (window c))
  ruling-made self (relayed_in senders core q f) c made h =
      relay-made self senders core q f c h (placing (horizon c) MOST_BLOCKS core q (window c))
      (placed (horizon c) MOST_BLOCKS core q (window c))
  ruling-made self (lead_in d) c made h = lead-made self (find_block d c) c
  ruling-made self (ask_in r d) c made h = tt
  ruling-made self (view_in w r) c made h = tt

  -- ---- a step

  -- what a step leaves, and what it sends
  pub record IsMadeAfter (self : Identity) (m : MemorySupply) (r : Replica × Reaction) : Type 0 where
    pub chronicle : AreMade IsVote IsCommand r.0.chronicle
    pub out : (o : Sending) → Among o (out_of self m r.1) → IsOwnOut IsVote IsCommand self o

  on_step-made : (self : Identity) (m : MemorySupply) (st : Step) (c : Chronicle) → AreMade IsVote IsCommand c
      → IsMade IsVote IsCommand st → IsMadeAfter self m (on_step self m st c)
  unfolding on_step
  on_step-made self ample st c h k =
      cond_both (conflicts st c) _ _ (IsMadeAfter self ample)
      (λ e. record { chronicle = h; out = λ o n. absurd n })
      (λ e.
      record { chronicle = (k, h); out = λ o n. sends-made IsVote IsCommand self st c o (k, h) (sends self st c o n) })
  on_step-made self refused_at_once st c h k = record { chronicle = h; out = λ o n. absurd n }
  on_step-made self (refused_after j) st c h k =
      cond_both (conflicts st c) _ _ (IsMadeAfter self (refused_after j))
      (λ e. record { chronicle = h; out = λ o n. absurd n })
      (λ e. cond_both (executes st c) _ _ (IsMadeAfter self (refused_after j))
      (λ x. record { chronicle = (k, h); out = λ o n. absurd n })
      (λ x. record { chronicle = h; out = λ o n. absurd n }))

  fetch-made : (self : Identity) (to : ℕ) (d : Bytes) (o : Sending)
      → Among o ((to_party to, fetch_frame self to d) ∷ [])
      → IsOwnOut IsVote IsCommand self o
  unfolding fetch_frame
  fetch-made self to d o (inl i) = subst (IsOwnOut IsVote IsCommand self) (sym i) (refl, tt, (to, refl))
  fetch-made self to d o (inr n) = absurd n

  on_ruling-made : (self : Identity) (m : MemorySupply) (v : Ruling) (c : Chronicle) → AreMade IsVote IsCommand c
      → AllMade v
      → IsMadeAfter self m (on_ruling self m v c)
  unfolding on_ruling AllMade
  on_ruling-made self m (due st) c h k = on_step-made self m st c h k
  on_ruling-made self m (missing to d) c h k = record {
    chronicle = h;
    out = λ o. cond_both (is_ample m && not (to == self.ring.party))
        ((to_party to, fetch_frame self to d) ∷ []) []
        (λ (l : List Sending). Among o l → IsOwnOut IsVote IsCommand self o)
        (λ e n. fetch-made self to d o n) (λ e n. absurd n);
  }
  on_ruling-made self m (refusing n) c h k = record { chronicle = h; out = λ o j. absurd j }

  pub step-made : (self : Identity) (m : MemorySupply) (i : Input) (r : Replica) → AreMade IsVote IsCommand r.chronicle
      → IsMadeInput IsVote IsCommand i → IsMadeAfter self m (step self m i r)
  unfolding step
  step-made self m i r h k = by r.standing
    where
      by : (s : Standing)
          → IsMadeAfter self m (elim s as (λ x. Replica × Reaction) [
            | running ↦ on_ruling self m (ruling self i r.chronicle) r.chronicle
            | stopped ↦ (r, fails fault.Stopped)
            | cut_short held ↦ (r, fails fault.Stopped)
          ])
      by running =
          on_ruling-made self m (ruling self i r.chronicle) r.chronicle h (ruling-made self i r.chronicle h k)
      by stopped = record { chronicle = h; out = λ o n. absurd n }
      by (cut_short held) = record { chronicle = h; out = λ o n. absurd n }

  -- ---- a frame comes

  pub check-made : (self : Identity) (f : Frame) (i : Input) → Brought IsVote IsCommand f → check self f ≡ passes i
      → IsMadeInput IsVote IsCommand i
  unfolding check
  check-made self (frame.proposal view core q v) i h e =
      subst (IsMadeInput IsVote IsCommand) (when-good _ _ _ e).1 h
  check-made self (frame.block sender core q t) i h e = subst (IsMadeInput IsVote IsCommand) (when-good _ _ _ e).1 h
  check-made self (frame.request c) i h e = subst (IsMadeInput IsVote IsCommand) (when-good _ _ _ e).1 h
  check-made self (frame.vote d b) i h e = subst (IsMadeInput IsVote IsCommand) (when-good _ _ _ e).1 h
  check-made self (frame.new_view w r q v) i h e = subst (IsMadeInput IsVote IsCommand) (when-good _ _ _ e).1 h
  check-made self (frame.fetch r d t) i h e = subst (IsMadeInput IsVote IsCommand) (when-good _ _ _ e).1 tt
  check-made self (frame.reply r c q p t g) i h e = absurd (not_mine i e)

  -- one that is offered
  pub offered-made : (self : Identity) (f : Frame) (i : Input) → Brought IsVote IsCommand f → IsOffered self f i
      → IsMadeInput IsVote IsCommand i
  offered-made self f i h (by_proposal view core q v) = h.0
  offered-made self f i h (by_block sender core q t) = h.0
  offered-made self f i h (by_view view sender q v) = tt

  -- copies of a block
  pub gathered-made : (self : Identity) (fs : List Frame) (i : Input)
      → ((f : Frame) → Among f fs → Brought IsVote IsCommand f) → IsGathered self fs i
      → IsMadeInput IsVote IsCommand i
  gathered-made self fs i h (copies sender core q t more same) = (h _ (inl refl)).0
