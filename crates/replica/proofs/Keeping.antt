-- Each block that a replica takes in is stored under its own digest, with a certificate of the block that
-- it justifies.
use Rattle.ids.specs.declared.limits.TheConstants.{MOST_BLOCKS, MOST_PENDING}
use Rattle.std.proofs.Common.{true, ℕ, ◌≡◌, ◌&&◌, not, true≢false, ◌∷◌, length, refl, sym, ap, ◌∙◌, subst, inl}
use Rattle.std.proofs.Common.{inr, nat_lt, Option, Some, None}
use Rattle.std.specs.Bool.{⊤}
use Rattle.std.specs.List.{list_any}
use Rattle.std.proofs.lemmas.Bool.{cond_both}
use Rattle.definitions.specs.Bytes.{Bytes}
use Rattle.definitions.specs.Lists.{Among}
use Rattle.definitions.specs.Frames.{Command, Core, Certificate}
use Rattle.definitions.specs.Branches.{Branch, just1}
use Rattle.definitions.specs.Digests.{digest, digest_of, core_of}
use Rattle.definitions.specs.Trees.{Placing, Placing.stands, Placing.grows, Placing.lacks_parent}
use Rattle.definitions.specs.Trees.{Placing.unfit, placing}
use Rattle.definitions.specs.Checks.{Identity, Findings}
use Rattle.definitions.specs.Chronicles.{horizon}
use Rattle.definitions.specs.Chronicles.{window}
use Rattle.definitions.specs.Chronicles.{Admitted, Step, Step.took_block, Step.noted, Note, Chronicle}
use Rattle.definitions.specs.Chronicles.{history, tree, stored_blocks, taken_blocks}
use Rattle.definitions.specs.States.{is_due, is_same_request, pending, find_block}
use Rattle.definitions.specs.Rulings.{Input, Input.proposal_in, Input.block_in, Input.vote_in}
use Rattle.definitions.specs.Rulings.{Input.new_view_in, Input.request_in, Input.fetch_in, Input.timeout_in}
use Rattle.definitions.specs.Rulings.{Input.beat_in, Input.prune_in, Ruling.due, admitted, on_placing}
use Rattle.definitions.specs.Rulings.{on_block, on_request}
use Rattle.definitions.specs.Rulings.{Input.offered_in, Input.relayed_in, Input.lead_in, Input.ask_in}
use Rattle.definitions.specs.Rulings.{Input.view_in, with_block, lead, ruling}
use Rattle.definitions.specs.Grounds.{may_lead_from}
use Rattle.definitions.proofs.Trees.{found-in, core-known, digest-core, IsPlaced, placed}
use Rattle.definitions.proofs.Chronicles.{tree-grows}
use Rattle.definitions.proofs.Horizons.{window-tree}
use Rattle.linear_law.proofs.Inputs.{AllStanding}
use Rattle.audit_ground.specs.Law.{IsStored}
use Rattle.replica.specs.Kept.{IsSized, AreSized, AreStored}
use Rattle.replica.specs.Inputs.{IsFitInput}
use Rattle.replica.proofs.Grounded.{IsKeptAs, offer-by, relay-by}
use Rattle.replica.proofs.Sized.{kept-sized}

-- what a step stores
abbrev Stores : Chronicle → Step → Type 0
Stores c (took_block a) = IsStored (took_block a ∷ c) a
Stores c (noted n) = ⊤

placed-stored : (self : Identity) (w : Option ℕ) (sender : ℕ) (core : Core) (q : Certificate) (f : Findings)
    (c : Chronicle) (p : Placing)
    → IsPlaced (horizon c) MOST_BLOCKS core q (window c) p
    → AllStanding (Stores c) (on_placing self w sender core q f c p)
unfolding on_placing admitted tree stored_blocks taken_blocks
placed-stored self w sender core q f c (stands b) h =
    let found = found-in (digest core) (window c) b h.0 in
    record {
      stands = window-tree c b found.0;
      named = sym found.1;
      justified = h.1;
      own = λ n. absurd (true≢false (sym n));
    }
placed-stored self w sender core q f c (grows b) (parent, g) =
    let above = sym (found-in core.parent (window c) parent g.parent_found).1 in
    record {
      stands = inl refl;
      named = sym (ap digest_of g.is ∙ digest-core core parent above g.height);
      justified = g.justified ∙ ap (λ (x : Branch). digest_of (just1 x)) (sym g.is);
      own = λ n. sym (ap core_of g.is ∙ core-known core parent above g.height);
    }
placed-stored self w sender core q f c lacks_parent h = tt
placed-stored self w sender core q f c (unfit n) h = tt

-- a new block stands in the tree
new-stands : (c : Chronicle) (a : Admitted) → a.new ≡ true → Among a.branch (tree (took_block a ∷ c))
unfolding tree stored_blocks taken_blocks
new-stands c a n = rw n (inl refl)

-- a block that was kept for its grounds
kept-stored : (self : Identity) (core : Core) (q : Certificate) (c : Chronicle) (p : Placing) (a : Admitted)
    → IsPlaced (horizon c) MOST_BLOCKS core q (window c) p
    → IsKeptAs self core q c p a → IsSized self.sizes (took_block a) → Stores c (took_block a)
unfolding tree stored_blocks taken_blocks
kept-stored self core q c p a at k sized = elim k.place_is [
  | inl s ↦
      let found = found-in (digest core) (window c) a.branch
      (subst (IsPlaced (horizon c) MOST_BLOCKS core q (window c)) s.0 at).0 in
      record {
        stands = tree-grows (took_block a) c a.branch (window-tree c a.branch found.0);
        named = ap digest k.core_is ∙ sym found.1;
        justified = sized.1;
        own = λ n. absurd (true≢false (sym n ∙ s.1));
      }
  | inr g ↦
      let growth = subst (IsPlaced (horizon c) MOST_BLOCKS core q (window c)) g.0 at in
      let above = sym (found-in core.parent (window c) growth.0 growth.1.parent_found).1 in
      record {
        stands = new-stands c a g.1;
        named = ap digest k.core_is
            ∙ sym (ap digest_of growth.1.is ∙ digest-core core growth.0 above growth.1.height);
        justified = sized.1;
        own = λ n. k.core_is ∙ sym (ap core_of growth.1.is ∙ core-known core growth.0 above growth.1.height);
      }
]

block-stored : (self : Identity) (w : Option ℕ) (sender : ℕ) (core : Core) (q : Certificate) (f : Findings)
    (c : Chronicle)
    → AllStanding (Stores c) (on_block self w sender core q f c)
block-stored self w sender core q f c =
    placed-stored self w sender core q f c (placing (horizon c) MOST_BLOCKS core q (window c))
    (placed (horizon c) MOST_BLOCKS core q (window c))

noted-stored : (c : Chronicle) (o : Option Branch) (sender : ℕ) (d : Bytes) (note : Branch → Note)
    → AllStanding (Stores c) (with_block o sender d (λ x. due (noted (note x))))
noted-stored c None sender d note = tt
noted-stored c (Some x) sender d note = tt

request-stored : (r : Command) (c : Chronicle) → AllStanding (Stores c) (on_request r c)
unfolding on_request
request-stored r c =
    cond_both (is_due (history c) r
    && (not (list_any (is_same_request r) (pending c)) && not
    (nat_lt (length (pending c)) MOST_PENDING))) _ _
    (AllStanding (Stores c)) (λ e. tt) (λ e. tt)

lead-stored : (self : Identity) (o : Option Branch) (c : Chronicle) → AllStanding (Stores c) (lead self o c)
lead-stored self None c = tt
lead-stored self (Some b) c =
    cond_both (may_lead_from self b c) _ _ (AllStanding (Stores c)) (λ e. tt) (λ e. tt)

-- what an input comes to stores so
ruling-stored : (self : Identity) (i : Input) (c : Chronicle) → IsFitInput self.sizes i → AreSized self.sizes c
    → AllStanding (Stores c) (ruling self i c)
unfolding ruling
ruling-stored self (proposal_in w core q f) c h old = block-stored self _ _ core q f c
ruling-stored self (block_in sender core q f) c h old = block-stored self _ _ core q f c
ruling-stored self (vote_in d b) c h old = noted-stored c _ _ d _
ruling-stored self (new_view_in w sender q) c h old = noted-stored c _ sender q.digest _
ruling-stored self (request_in r) c h old = request-stored r c
ruling-stored self (fetch_in sender d) c h old = tt
ruling-stored self timeout_in c h old = tt
ruling-stored self beat_in c h old = tt
ruling-stored self (prune_in height) c h old = tt
ruling-stored self (offered_in w sender core q f) c h old =
    let at = placed (horizon c) MOST_BLOCKS core q (window c) in
    offer-by self core q f c (AllStanding (Stores c)) (λ n. tt) (λ r d. tt) w sender
    (placing (horizon c) MOST_BLOCKS core q (window c))
    (λ a k. kept-stored self core q c _ a at k (kept-sized self core q c _ a at h.1 old k))
ruling-stored self (relayed_in senders core q f) c h old =
    let at = placed (horizon c) MOST_BLOCKS core q (window c) in
    relay-by self core q f c (AllStanding (Stores c)) (λ n. tt) senders
    (placing (horizon c) MOST_BLOCKS core q (window c))
    (λ a k. kept-stored self core q c _ a at k (kept-sized self core q c _ a at h.1 old k))
ruling-stored self (lead_in d) c h old = lead-stored self (find_block d c) c
ruling-stored self (ask_in replica d) c h old = tt
ruling-stored self (view_in w sender) c h old = tt

-- what was stored so stays so
still-stored : (st : Step) (c : Chronicle) (a : Admitted) → IsStored c a → IsStored (st ∷ c) a
still-stored st c a s = record {
  stands = tree-grows st c a.branch s.stands;
  named = s.named;
  justified = s.justified;
  own = s.own;
}

step-stored : (st : Step) (c : Chronicle) → Stores c st → AreStored c → AreStored (st ∷ c)
step-stored st c new old a (inl e) = subst (λ (x : Step). IsStored (x ∷ c) a) e (subst (Stores c) (sym e) new)
step-stored st c new old a (inr m) = still-stored st c a (old a m)

pub stores-on : (self : Identity) (i : Input) (st : Step) (c : Chronicle) → ruling self i c ≡ due st
    → IsFitInput self.sizes i → AreSized self.sizes c → AreStored c → AreStored (st ∷ c)
stores-on self i st c e h sized old =
    step-stored st c (subst (AllStanding (Stores c)) e (ruling-stored self i c h sized)) old
