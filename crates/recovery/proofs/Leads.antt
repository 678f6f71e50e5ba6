-- A step that leads was due to what may be led from.
use Rattle.ids.specs.declared.limits.TheConstants.{MOST_BLOCKS}
use Rattle.std.proofs.Common.{ℕ, ◌≡◌, ◌&&◌, not, true, List, subst, length, nat_lt}
use Rattle.std.proofs.Common.{Option, Some, None, suc}
use Rattle.std.specs.Bool.{⊤}
use Rattle.std.specs.List.{list_any}
use Rattle.std.proofs.lemmas.Bool.{cond_both}
use Rattle.definitions.specs.Bytes.{Bytes}
use Rattle.definitions.specs.Branches.{Branch}
use Rattle.definitions.specs.Chronicles.{Admitted, Chronicle, Step, Step.noted, Note.led_from}
use Rattle.definitions.specs.Chronicles.{Note.got_vote, Note.got_new_view}
use Rattle.definitions.specs.Chronicles.{history, horizon, window}
use Rattle.definitions.specs.Checks.{Identity, Findings}
use Rattle.definitions.specs.Frames.{Core, Certificate, Command, Vote}
use Rattle.definitions.specs.Grounds.{may_lead_from, are_replicas, grounded}
use Rattle.definitions.specs.Rulings.{Input, Ruling, Ruling.due, Input.proposal_in, Input.block_in, Input.vote_in}
use Rattle.definitions.specs.Rulings.{Input.new_view_in, Input.request_in, Input.fetch_in, Input.timeout_in}
use Rattle.definitions.specs.Rulings.{Input.beat_in, Input.prune_in, Input.offered_in, Input.relayed_in}
use Rattle.definitions.specs.Rulings.{Input.lead_in, Input.ask_in, Input.view_in, admitted, on_placing, on_offer}
use Rattle.definitions.specs.Rulings.{on_relay, on_request, take_grounded, lead, with_block, ruling}
use Rattle.definitions.specs.States.{find_block, is_due, is_same_request, pending}
use Rattle.definitions.specs.Trees.{Placing, Placing.stands, Placing.grows, Placing.lacks_parent}
use Rattle.definitions.specs.Trees.{Placing.unfit, placing}
use Rattle.linear_law.proofs.Inputs.{AllStanding}
use Rattle.recovery.proofs.Ruled.{WasDue}

-- a step that leads has grounds
abbrev pub LeadsWell : Identity → Chronicle → Step → Type 0
LeadsWell self c (noted (led_from b)) = may_lead_from self b c ≡ true
LeadsWell self c st = ⊤

-- from here on: a replica and its chronicle
module _ (self : Identity) (c : Chronicle) where
  abbrev P : Ruling → Type 0
  P = AllStanding (LeadsWell self c)

  placed-leads : (w : Option ℕ) (sender : ℕ) (core : Core) (q : Certificate) (f : Findings) (p : Placing)
      → P (on_placing self w sender core q f c p)
  unfolding on_placing admitted
  placed-leads w sender core q f (stands b) = tt
  placed-leads w sender core q f (grows b) = tt
  placed-leads w sender core q f lacks_parent = tt
  placed-leads w sender core q f (unfit n) = tt

  taken-leads : (w : Option ℕ) (o : Option Admitted) → P (take_grounded self w o c)
  taken-leads w None = tt
  taken-leads w (Some a) = tt

  offer-leads : (w : Option ℕ) (sender : ℕ) (core : Core) (q : Certificate) (f : Findings) (p : Placing)
      → P (on_offer self w sender core q f c p)
  unfolding on_offer admitted
  offer-leads w sender core q f (stands b) = tt
  offer-leads w sender core q f (grows b) = taken-leads w (grounded self (admitted b core q f true) c)
  offer-leads w sender core q f lacks_parent = tt
  offer-leads w sender core q f (unfit n) = tt

  relay-leads : (senders : List ℕ) (core : Core) (q : Certificate) (f : Findings) (p : Placing)
      → P (on_relay self senders core q f c p)
  unfolding on_relay admitted
  relay-leads senders core q f (stands b) = tt
  relay-leads senders core q f (grows b) =
      cond_both (are_replicas self.sizes (suc self.sizes.faults) senders) _ _ P (λ e. tt) (λ e. tt)
  relay-leads senders core q f lacks_parent = tt
  relay-leads senders core q f (unfit n) = tt

  vote-leads : (d : Bytes) (b : Vote) (o : Option Branch)
      → P (with_block o b.voter d (λ x. due (noted (got_vote b.voter b.vector x))))
  vote-leads d b None = tt
  vote-leads d b (Some x) = tt

  view-leads : (w r : ℕ) (q : Certificate) (o : Option Branch)
      → P (with_block o r q.digest (λ x. due (noted (got_new_view w r q x))))
  view-leads w r q None = tt
  view-leads w r q (Some x) = tt

  request-leads : (r : Command) → P (on_request r c)
  unfolding on_request
  request-leads r = cond_both (is_due (history c) r
      && (not (list_any (is_same_request r) (pending c)) && not (nat_lt (length (pending c)) 4096))) _ _ P
      (λ e. tt) (λ e. tt)

  lead-leads : (o : Option Branch) → P (lead self o c)
  lead-leads None = tt
  lead-leads (Some b) = cond_both (may_lead_from self b c) _ _ P (λ e. e) (λ e. tt)

  ruling-leads : (i : Input) → P (ruling self i c)
  unfolding ruling
  ruling-leads (proposal_in w core q f) =
      placed-leads _ _ core q f (placing (horizon c) MOST_BLOCKS core q (window c))
  ruling-leads (block_in sender core q f) =
      placed-leads _ _ core q f (placing (horizon c) MOST_BLOCKS core q (window c))
  ruling-leads (vote_in d b) = vote-leads d b (find_block d c)
  ruling-leads (new_view_in w r q) = view-leads w r q (find_block q.digest c)
  ruling-leads (request_in r) = request-leads r
  ruling-leads (fetch_in r d) = tt
  ruling-leads timeout_in = tt
  ruling-leads beat_in = tt
  ruling-leads (prune_in height) = tt
  ruling-leads (offered_in w sender core q f) =
      offer-leads w sender core q f (placing (horizon c) MOST_BLOCKS core q (window c))
  ruling-leads (relayed_in senders core q f) =
      relay-leads senders core q f (placing (horizon c) MOST_BLOCKS core q (window c))
  ruling-leads (lead_in d) = lead-leads (find_block d c)
  ruling-leads (ask_in r d) = tt
  ruling-leads (view_in w r) = tt

  -- a lead that was due has grounds
  pub led-well : (b : Branch) → WasDue self (noted (led_from b)) c → may_lead_from self b c ≡ true
  led-well b d = subst P d.2 (ruling-leads d.0)
