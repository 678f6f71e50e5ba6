-- What a step that stands has from the frame that came.
use Rattle.ids.specs.declared.limits.TheConstants.{MOST_BLOCKS}
use Rattle.ids.specs.declared.kind.Kind.TheVariants as kind
use Rattle.std.proofs.Common.{ℕ, ◌≡◌, ◌&&◌, not, true, List, [], ◌∷◌, ◌++◌, length, refl, sym, subst, subst₂, inl}
use Rattle.std.proofs.Common.{suc, Bool, false, inr, Option, Some, None, true≢false, nat_lt, ◌∙◌, ap}
use Rattle.std.specs.Bool.{⊤}
use Rattle.std.specs.List.{list_any, AllByRecursion}
use Rattle.std.proofs.lemmas.Bool.{and_parts, cond_both}
use lib.Dec.{ltb}
use Rattle.definitions.proofs.Lists.{Among-after, Among-before, Among-mapped, Among-kept, Among-map, all-passes}
use Rattle.definitions.proofs.Checks.{when-good, block-checked}
use Rattle.linear_law.proofs.Offers.{not_mine, IsOffered, IsOffered.by_proposal, IsOffered.by_block}
use Rattle.linear_law.proofs.Offers.{IsOffered.by_view, IsGathered, IsGathered.copies}
use Rattle.definitions.proofs.Sound.{IsCheckedInput}
use Rattle.definitions.specs.Trees.{Placing, Placing.stands, Placing.grows, Placing.lacks_parent}
use Rattle.definitions.specs.Trees.{Placing.unfit, placing}
use Rattle.definitions.proofs.Trees.{same_bytes, found-in, core-known, IsPlaced, placed}
use Rattle.definitions.specs.Lists.{Among}
use Rattle.definitions.specs.Frames.{Command, Core, Vote, Certificate, Frame, command_content, sender_of}
use Rattle.definitions.specs.FrameLimits.{IsFrame, IsCore, IsCertificate}
use Rattle.definitions.specs.Tags.{tag_of}
use Rattle.definitions.specs.Branches.{Branch, just1}
use Rattle.definitions.specs.Bytes.{Bytes}
use Rattle.ids.specs.Sizes.{Sizes, client_party}
use Rattle.definitions.specs.Digests.{digest, digest_of, core_of}
use Rattle.definitions.specs.Chronicles.{Admitted, Step, Step.took_block, Step.noted, Note.got_vote}
use Rattle.definitions.specs.Chronicles.{Note.got_new_view, Chronicle, history, horizon, window}
use Rattle.definitions.specs.Checks.{Identity, Findings, findings, counted_voters}
use Rattle.definitions.specs.Checks.{command_verifies, is_clear_core}
use Rattle.definitions.specs.States.{is_due, pending, is_same_request}
use Rattle.definitions.specs.Rulings.{Input, Input.proposal_in, Input.block_in, Input.vote_in}
use Rattle.definitions.specs.Rulings.{Input.new_view_in, Input.request_in, Input.fetch_in, Input.timeout_in}
use Rattle.definitions.specs.Rulings.{Input.beat_in, Input.prune_in, Ruling, Ruling.due, Ruling.missing}
use Rattle.definitions.specs.Rulings.{Ruling.refusing}
use Rattle.definitions.specs.Rulings.{admitted, on_placing, on_block, on_request, with_block, ruling}
use Rattle.definitions.specs.Rulings.{Input.offered_in, Input.relayed_in, Input.lead_in, Input.ask_in}
use Rattle.definitions.specs.Rulings.{Input.view_in, take_block, take_grounded, on_offer, on_relay, lead}
use Rattle.definitions.specs.Grounds.{are_replicas, is_justified, own_counted, is_own_certified}
use Rattle.definitions.specs.Grounds.{without_votes, grounded, may_lead_from}
use Rattle.definitions.specs.States.{qc_high, find_block}
use Rattle.definitions.specs.Branches.{branch_eq}
use Rattle.definitions.proofs.Branches.{branch_eq-decides}
use Rattle.ids.specs.Sizes.{quorum}
use Rattle.definitions.specs.Admission.{check, is_copy, when, Checked.passes}
use Rattle.definitions.specs.Premises.{Claim, accepted_tags, vote_claims, command_claims, CoreOf}
use Rattle.definitions.specs.Frames as frame

-- the input carries this block
abbrev pub Carries : Input → Core → Certificate → Findings → Type 0
Carries (proposal_in w c p g) core q f = (c ≡ core) × (p ≡ q) × (g ≡ f)
Carries (block_in sender c p g) core q f = (c ≡ core) × (p ≡ q) × (g ≡ f)
Carries (offered_in w sender c p g) core q f = (c ≡ core) × (p ≡ q) × (g ≡ f)
Carries (relayed_in senders c p g) core q f = (c ≡ core) × (p ≡ q) × (g ≡ f)
Carries i core q f = ⊥

-- these sent the block that the input carries
abbrev pub SentBy : Input → List ℕ → Type 0
SentBy (relayed_in senders c p g) vs = senders ≡ vs
SentBy i vs = ⊥

-- whose votes were counted for a block that was taken, and who sent it: those that its check found; nobody;
-- the voters of the own highest certificate; or the replicas that sent copies of it
pub data Evidence (self : Identity) (c : Chronicle) (i : Input) (core : Core) (f : Findings) (a : Admitted) :
    Type 0 where
  of_check : a.counted ≡ f.counted → a.senders ≡ [] → Evidence self c i core f a
  of_take : a.counted ≡ [] → a.senders ≡ [] → Evidence self c i core f a
  of_own : a.counted ≡ own_counted self c → a.senders ≡ [] → (qc_high self.sizes c).block ≡ just1 a.branch
      → Evidence self c i core f a
  of_senders : (vs : List ℕ) → SentBy i vs → a.counted ≡ [] → a.senders ≡ vs → core_of a.branch ≡ core
      → Evidence self c i core f a

pub record TookFrom (self : Identity) (c : Chronicle) (i : Input) (core : Core) (q : Certificate) (f : Findings)
    (a : Admitted) : Type 0 where
  pub stored : a.core ≡ core
  pub evidence : Evidence self c i core f a
  pub core_is : a.new ≡ true → core_of a.branch ≡ core
  pub justified : q.digest ≡ digest_of (just1 a.branch)
  pub clear_is : a.clear ≡ f.clear

abbrev pub FromInput : Identity → Chronicle → Input → Step → Type 0
FromInput self c i (took_block a) =
    (core : Core) × (q : Certificate) × (f : Findings) × Carries i core q f × TookFrom self c i core q f a
FromInput self c i st = ⊤

abbrev pub AllStanding : (Step → Type 0) → Ruling → Type 0
AllStanding P (due st) = P st
AllStanding P (missing sender d) = ⊤
AllStanding P (refusing n) = ⊤

placed-from : (self : Identity) (i : Input) (w : Option ℕ) (sender : ℕ) (core : Core) (q : Certificate)
    (f : Findings) (c : Chronicle) → Carries i core q f → (p : Placing)
    → IsPlaced (horizon c) MOST_BLOCKS core q (window c) p
    → AllStanding (FromInput self c i) (on_placing self w sender core q f c p)
unfolding on_placing admitted
placed-from self i w sender core q f c ca (stands b) h = (
  core,
  q,
  f,
  ca,
  record {
    stored = refl;
    evidence = of_check refl refl;
    core_is = λ n. absurd (true≢false (sym n));
    justified = h.1;
    clear_is = refl;
  },
)
placed-from self i w sender core q f c ca (grows b) (parent, g) =
    let ep = sym (found-in core.parent (window c) parent g.parent_found).1 in (
      core,
      q,
      f,
      ca,
      record {
        stored = refl;
        evidence = of_check refl refl;
        core_is = λ n. ap core_of g.is ∙ core-known core parent ep g.height;
        justified = g.justified ∙ ap (λ (x : Branch). digest_of (just1 x)) (sym g.is);
        clear_is = refl;
      },
    )
placed-from self i w sender core q f c ca lacks_parent h = tt
placed-from self i w sender core q f c ca (unfit n) h = tt

block-from : (self : Identity) (i : Input) (w : Option ℕ) (sender : ℕ) (core : Core) (q : Certificate)
    (f : Findings) (c : Chronicle) → Carries i core q f
    → AllStanding (FromInput self c i) (on_block self w sender core q f c)
block-from self i w sender core q f c ca =
    placed-from self i w sender core q f c ca (placing (horizon c) MOST_BLOCKS core q (window c))
    (placed (horizon c) MOST_BLOCKS core q (window c))

-- a block as it is taken with this certificate, these counted voters and these senders
abbrev with_evidence : Admitted → Certificate → List ℕ → List ℕ → Admitted
with_evidence a r counted senders = record a { certificate = r; counted = counted; senders = senders }

took-from : (self : Identity) (i : Input) (w : Option ℕ) (core : Core) (q r : Certificate) (f : Findings)
    (counted senders : List ℕ) (c : Chronicle) → Carries i core q f → (b : Branch) (n : Bool)
    → (n ≡ true → core_of b ≡ core) → q.digest ≡ digest_of (just1 b)
    → ((v : Bool)
    → Evidence self c i core f
    (record (with_evidence (admitted b core q f n) r counted senders) { voted = v }))
    → AllStanding (FromInput self c i)
    (take_block self w (with_evidence (admitted b core q f n) r counted senders) c)
unfolding admitted
took-from self i w core q r f counted senders c ca b n k j e = (
  core,
  q,
  f,
  ca,
  record { stored = refl; evidence = e _; core_is = k; justified = j; clear_is = refl },
)

grounded-from : (self : Identity) (i : Input) (w : Option ℕ) (core : Core) (q : Certificate) (f : Findings)
    (c : Chronicle) → Carries i core q f → (b : Branch) → core_of b ≡ core
    → q.digest ≡ digest_of (just1 b)
    → AllStanding (FromInput self c i) (take_grounded self w (grounded self (admitted b core q f true) c) c)
unfolding grounded is_own_certified admitted
grounded-from self i w core q f c ca b k j =
    let P : Option Admitted → Type 0 = λ o. AllStanding (FromInput self c i) (take_grounded self w o c) in
    cond_both (is_justified (just1 b) c) _ _ P
    (λ t. took-from self i w core q (without_votes q) f [] [] c ca b true (λ n. k) j
    (λ v. of_take refl refl))
    (λ t. cond_both (branch_eq (qc_high self.sizes c).block (just1 b)
    && are_replicas self.sizes (quorum self.sizes) (own_counted self c)) _ _ P
    (λ e. took-from self i w core q (qc_high self.sizes c).certificate f (own_counted self c) [] c ca b true
    (λ n. k) j (λ v. of_own refl refl ((branch_eq-decides _ _).0 (and_parts _ _ e).0)))
    (λ e. tt))

-- a block that stands in the tree
stands-from : (self : Identity) (i : Input) (w : Option ℕ) (core : Core) (q : Certificate) (f : Findings)
    (c : Chronicle) → Carries i core q f → (b : Branch) → q.digest ≡ digest_of (just1 b)
    → AllStanding (FromInput self c i)
    (take_block self w (with_evidence (admitted b core q f false) (without_votes q) [] []) c)
unfolding admitted
stands-from self i w core q f c ca b j =
    took-from self i w core q (without_votes q) f [] [] c ca b false (λ n. absurd (true≢false (sym n))) j
    (λ v. of_take refl refl)

offer-from : (self : Identity) (i : Input) (w : Option ℕ) (sender : ℕ) (core : Core) (q : Certificate)
    (f : Findings) (c : Chronicle) → Carries i core q f → (p : Placing)
    → IsPlaced (horizon c) MOST_BLOCKS core q (window c) p
    → AllStanding (FromInput self c i) (on_offer self w sender core q f c p)
unfolding on_offer admitted
offer-from self i w sender core q f c ca (stands b) h = stands-from self i w core q f c ca b h.1
offer-from self i w sender core q f c ca (grows b) (parent, g) =
    let ep = sym (found-in core.parent (window c) parent g.parent_found).1 in
    grounded-from self i w core q f c ca b (ap core_of g.is ∙ core-known core parent ep g.height)
    (g.justified ∙ ap (λ (x : Branch). digest_of (just1 x)) (sym g.is))
offer-from self i w sender core q f c ca lacks_parent h = tt
offer-from self i w sender core q f c ca (unfit n) h = tt

relay-from : (self : Identity) (senders : List ℕ) (core : Core) (q : Certificate) (f : Findings) (c : Chronicle)
    (p : Placing) → IsPlaced (horizon c) MOST_BLOCKS core q (window c) p
    → AllStanding (FromInput self c (relayed_in senders core q f)) (on_relay self senders core q f c p)
unfolding on_relay admitted
relay-from self senders core q f c (stands b) h =
    stands-from self (relayed_in senders core q f) None core q f c (refl, refl, refl) b h.1
relay-from self senders core q f c (grows b) (parent, g) =
    let ep = sym (found-in core.parent (window c) parent g.parent_found).1 in
    let core_is = ap core_of g.is ∙ core-known core parent ep g.height in
    cond_both (are_replicas self.sizes (suc self.sizes.faults) senders) _ _
    (AllStanding (FromInput self c (relayed_in senders core q f)))
    (λ e. took-from self (relayed_in senders core q f) None core q (without_votes q) f [] senders c
    (refl, refl, refl) b true (λ n. core_is)
    (g.justified ∙ ap (λ (x : Branch). digest_of (just1 x)) (sym g.is))
    (λ v. of_senders senders refl refl refl core_is))
    (λ e. tt)
relay-from self senders core q f c lacks_parent h = tt
relay-from self senders core q f c (unfit n) h = tt

lead-from : (self : Identity) (i : Input) (o : Option Branch) (c : Chronicle)
    → AllStanding (FromInput self c i) (lead self o c)
lead-from self i None c = tt
lead-from self i (Some b) c =
    cond_both (may_lead_from self b c) _ _ (AllStanding (FromInput self c i)) (λ e. tt) (λ e. tt)

vote-from : (self : Identity) (c : Chronicle) (i : Input) (o : Option Branch) (b : Vote) (d : Bytes)
    → AllStanding (FromInput self c i) (with_block o b.voter d (λ x. due (noted (got_vote b.voter b.vector x))))
vote-from self c i None b d = tt
vote-from self c i (Some x) b d = tt

new_view-from :
    (self : Identity) (c : Chronicle) (i : Input) (o : Option Branch) (w sender : ℕ) (q : Certificate) (d : Bytes)
    → AllStanding (FromInput self c i) (with_block o sender d (λ x. due (noted (got_new_view w sender q x))))
new_view-from self c i None w sender q d = tt
new_view-from self c i (Some x) w sender q d = tt

request-from : (self : Identity) (i : Input) (r : Command) (c : Chronicle)
    → AllStanding (FromInput self c i) (on_request r c)
unfolding on_request
request-from self i r c = cond_both (is_due (history c) r
    && (not (list_any (is_same_request r) (pending c)) && not (nat_lt (length (pending c)) 4096))) _ _ P
    (λ e. tt) (λ e. tt)
  where
    P : Ruling → Type 0
    P = AllStanding (FromInput self c i)

pub ruling-from : (self : Identity) (i : Input) (c : Chronicle) → AllStanding (FromInput self c i) (ruling self i c)
unfolding ruling
ruling-from self (proposal_in w core q f) c =
    block-from self (proposal_in w core q f) _ _ core q f c (refl, refl, refl)
ruling-from self (block_in sender core q f) c =
    block-from self (block_in sender core q f) _ _ core q f c (refl, refl, refl)
ruling-from self (vote_in d b) c = vote-from self c (vote_in d b) _ b d
ruling-from self (new_view_in w sender q) c = new_view-from self c (new_view_in w sender q) _ w sender q _
ruling-from self (request_in r) c = request-from self (request_in r) r c
ruling-from self (fetch_in sender d) c = tt
ruling-from self timeout_in c = tt
ruling-from self beat_in c = tt
ruling-from self (prune_in height) c = tt
ruling-from self (offered_in w sender core q f) c =
    offer-from self (offered_in w sender core q f) w sender core q f c (refl, refl, refl)
    (placing (horizon c) MOST_BLOCKS core q (window c)) (placed (horizon c) MOST_BLOCKS core q (window c))
ruling-from self (relayed_in senders core q f) c =
    relay-from self senders core q f c (placing (horizon c) MOST_BLOCKS core q (window c)) (placed (horizon c) MOST_BLOCKS core q (window c))
ruling-from self (lead_in d) c = lead-from self (lead_in d) (find_block d c) c
ruling-from self (ask_in replica d) c = tt
ruling-from self (view_in w sender) c = tt

-- what holds of each holds of one
pub all-among : {A : Type 0} (P : A → Type 0) (xs : List A) (x : A) → AllByRecursion P xs → Among x xs → P x
all-among P [] x h m = absurd m
all-among P (y ∷ xs) x h (inl e) = subst P (sym e) h.0
all-among P (y ∷ xs) x h (inr m) = all-among P xs x h.1 m

-- ---- what a check found

-- each command of a clear core is a tag that was found right
IsCommandTag : Command → Claim → Type 0
IsCommandTag k x =
    (x.label ≡ kind.Request) × (x.sender ≡ client_party k.client)
    × (x.content ≡ command_content k.client k.seq k.payload)

clear-claimed : (self : Identity) (core : Core) (k : Command) → is_clear_core self core ≡ true
    → Among k core.commands → (x : Claim) × Among x (command_claims self core) × IsCommandTag k x
unfolding is_clear_core IsCommandTag
clear-claimed self core k h m = (
  record {
    label = kind.Request;
    sender = client_party k.client;
    receiver = self.ring.party;
    content = command_content k.client k.seq k.payload;
    tag = tag_of k.vector self.ring.party;
  },
  Among-mapped _ _ k (Among-kept (command_verifies self) core.commands k m
      (all-passes (command_verifies self) core.commands k h m)),
  (refl, refl, refl),
)

-- what is known of an input with a block, of the frame that it came in
pub record IsCarried (self : Identity) (f : Frame) (core : Core) (q : Certificate) (g : Findings) :
    Type 0 where
  pub core_is : IsCore self.sizes core
  pub certificate_is : IsCertificate self.sizes q
  pub from : CoreOf core f
  pub counted : g.counted ≡ counted_voters self q
  pub votes : (x : Claim) → Among x (vote_claims self q) → Among x (accepted_tags self f)
  pub commands : (k : Command) → g.clear ≡ true → Among k core.commands
      → (x : Claim) × Among x (accepted_tags self f) × (x.label ≡ kind.Request)
      × (x.sender ≡ client_party k.client) × (x.content ≡ command_content k.client k.seq k.payload)

-- a frame whose tags are its own, then those of the certificate's votes, then those of the block's commands
part-carried : (self : Identity) (f : Frame) (core : Core) (q : Certificate) → IsCore self.sizes core
    → IsCertificate self.sizes q → CoreOf core f → (own : Claim)
    → accepted_tags self f ≡ own ∷ vote_claims self q ++ command_claims self core
    → IsCarried self f core q (findings self core q)
unfolding IsCommandTag
part-carried self f core q fit certified from own tags = record {
  core_is = fit;
  certificate_is = certified;
  from = from;
  counted = refl;
  votes = λ x m. listed x (Among-before x _ _ m);
  commands =
      λ k h m. let r =
      clear-claimed self core k h m in
      (r.0, listed r.0 (Among-after r.0 (vote_claims self q) _ r.1), r.2.0, r.2.1, r.2.2);
}
  where
    listed : (x : Claim) → Among x (vote_claims self q ++ command_claims self core)
        → Among x (accepted_tags self f)
    listed x m = subst (Among x) (sym tags) (inr m)

proposal-carried : (self : Identity) (view : ℕ) (core : Core) (q : Certificate) (v : Bytes)
    → IsFrame self.sizes (frame.proposal view core q v)
    → IsCarried self (frame.proposal view core q v) core q (findings self core q)
unfolding accepted_tags
proposal-carried self view core q v fr = part-carried self _ core q fr.1 fr.2 refl _ refl

block-carried : (self : Identity) (sender : ℕ) (core : Core) (q : Certificate) (t : Bytes)
    → IsFrame self.sizes (frame.block sender core q t)
    → IsCarried self (frame.block sender core q t) core q (findings self core q)
unfolding accepted_tags
block-carried self sender core q t fr = part-carried self _ core q fr.1 fr.2 refl _ refl

abbrev pub CarriedBy : Identity → Frame → Input → Type 0
CarriedBy self f i =
    (core : Core) (q : Certificate) (g : Findings) → Carries i core q g → IsCarried self f core q g

-- what is known of one block is known of an equal one
carried-as : (self : Identity) (f : Frame) (core : Core) (q : Certificate) (g : Findings)
    → IsCarried self f core q g → (core' : Core) (q' : Certificate) (g' : Findings)
    → (core ≡ core') × (q ≡ q') × (g ≡ g') → IsCarried self f core' q' g'
carried-as self f core q g h core' q' g' (ec, eq, eg) =
    subst (IsCarried self f core' q') eg
    (subst₂ (λ (x : Core) (y : Certificate). IsCarried self f x y g) ec eq h)

pub check-carried : (self : Identity) (f : Frame) (i : Input) → IsFrame self.sizes f
    → check self f ≡ passes i → CarriedBy self f i
unfolding check
check-carried self (frame.proposal view core q v) i fr e =
    let g = when-good _ _ _ e in
    subst (CarriedBy self (frame.proposal view core q v)) g.1
    (carried-as self _ core q (findings self core q) (proposal-carried self view core q v fr))
check-carried self (frame.block sender core q t) i fr e =
    let g = when-good _ _ _ e in
    subst (CarriedBy self (frame.block sender core q t)) g.1
    (carried-as self _ core q (findings self core q) (block-carried self sender core q t fr))
check-carried self (frame.request c) i fr e =
    subst (CarriedBy self (frame.request c)) (when-good _ _ _ e).1 (λ c p g ca. absurd ca)
check-carried self (frame.vote d b) i fr e =
    subst (CarriedBy self (frame.vote d b)) (when-good _ _ _ e).1 (λ c p g ca. absurd ca)
check-carried self (frame.new_view w s q v) i fr e =
    subst (CarriedBy self (frame.new_view w s q v)) (when-good _ _ _ e).1 (λ c p g ca. absurd ca)
check-carried self (frame.fetch s d t) i fr e =
    subst (CarriedBy self (frame.fetch s d t)) (when-good _ _ _ e).1 (λ c p g ca. absurd ca)
check-carried self (frame.reply r c s p t g) i fr e = absurd (not_mine i e)

-- an offer carries the block of its frame
pub offer-carried : (self : Identity) (f : Frame) (i : Input) → IsFrame self.sizes f → IsOffered self f i
    → CarriedBy self f i
offer-carried self f i fr (by_proposal view core q v) =
    carried-as self _ core q (findings self core q) (proposal-carried self view core q v fr)
offer-carried self f i fr (by_block sender core q t) =
    carried-as self _ core q (findings self core q) (block-carried self sender core q t fr)
offer-carried self f i fr (by_view view sender q v) = λ c p g ca. absurd ca

-- copies carry the block of the first of them
pub gathered-carried : (self : Identity) (fs : List Frame) (i : Input)
    → ((f : Frame) → Among f fs → IsFrame self.sizes f) → IsGathered self fs i
    → (f : Frame) × Among f fs × CarriedBy self f i
gathered-carried self fs i fr (copies sender core q t more same) = (
  frame.block sender core q t,
  inl refl,
  carried-as self _ core q (findings self core q) (block-carried self sender core q t (fr _ (inl refl))),
)

-- ---- what each way to an input says of it

-- what is known of an input where no block is carried
other-checked : (sizes : Sizes) (ok : Bool) (i j : Input) → IsCheckedInput sizes i → when ok i ≡ passes j
    → IsCheckedInput sizes j
other-checked sizes ok i j h e = subst (IsCheckedInput sizes) (when-good ok i j e).1 h

-- of a frame that came
pub check-checked : (self : Identity) (f : Frame) (i : Input) → IsFrame self.sizes f
    → check self f ≡ passes i → IsCheckedInput self.sizes i
unfolding check
check-checked self (frame.proposal view core q v) i fr e =
    let g = when-good _ _ _ e in
    subst (IsCheckedInput self.sizes) g.1 (block-checked self core q fr.1 fr.2 (and_parts _ _ g.0).1)
check-checked self (frame.block sender core q t) i fr e =
    let g = when-good _ _ _ e in
    subst (IsCheckedInput self.sizes) g.1 (block-checked self core q fr.1 fr.2 (and_parts _ _ g.0).1)
check-checked self (frame.request c) i fr e = other-checked self.sizes _ _ i tt e
check-checked self (frame.vote d b) i fr e = other-checked self.sizes _ _ i tt e
check-checked self (frame.new_view w s q v) i fr e = other-checked self.sizes _ _ i tt e
check-checked self (frame.fetch s d t) i fr e = other-checked self.sizes _ _ i tt e
check-checked self (frame.reply r c s p t g) i fr e = absurd (not_mine i e)

-- of a frame that was offered
pub offer-checked : (self : Identity) (f : Frame) (i : Input) → IsFrame self.sizes f → IsOffered self f i
    → IsCheckedInput self.sizes i
offer-checked self f i fr (by_proposal view core q v) = fr.1.justify_height
offer-checked self f i fr (by_block sender core q t) = fr.1.justify_height
offer-checked self f i fr (by_view view sender q v) = tt

-- of copies
pub gathered-checked : (self : Identity) (fs : List Frame) (i : Input)
    → ((f : Frame) → Among f fs → IsFrame self.sizes f) → IsGathered self fs i → IsCheckedInput self.sizes i
gathered-checked self fs i fr (copies sender core q t more same) = (fr _ (inl refl)).1.justify_height

-- ---- who sent a block

-- one frame alone is no copies
pub check-alone : (self : Identity) (f : Frame) (i : Input) (vs : List ℕ) → check self f ≡ passes i
    → SentBy i vs → ⊥
unfolding check
check-alone self (frame.proposal view core q v) i vs e u =
    subst (λ (j : Input). SentBy j vs) (sym (when-good _ _ _ e).1) u
check-alone self (frame.block sender core q t) i vs e u =
    subst (λ (j : Input). SentBy j vs) (sym (when-good _ _ _ e).1) u
check-alone self (frame.request c) i vs e u = subst (λ (j : Input). SentBy j vs) (sym (when-good _ _ _ e).1) u
check-alone self (frame.vote d b) i vs e u = subst (λ (j : Input). SentBy j vs) (sym (when-good _ _ _ e).1) u
check-alone self (frame.new_view w s q v) i vs e u =
    subst (λ (j : Input). SentBy j vs) (sym (when-good _ _ _ e).1) u
check-alone self (frame.fetch s d t) i vs e u =
    subst (λ (j : Input). SentBy j vs) (sym (when-good _ _ _ e).1) u
check-alone self (frame.reply r c s p t g) i vs e u = absurd (not_mine i e)

-- nor is an offer
pub offer-alone : (self : Identity) (f : Frame) (i : Input) (vs : List ℕ) → IsOffered self f i → SentBy i vs
    → ⊥
offer-alone self f i vs (by_proposal view core q v) u = u
offer-alone self f i vs (by_block sender core q t) u = u
offer-alone self f i vs (by_view view sender q v) u = u

-- a frame that a replica sent as its copy of a block
pub record IsCopyBy (core : Core) (v : ℕ) (f : Frame) : Type 0 where
  pub core_of_copy : Core
  pub certificate : Certificate
  pub tag : Bytes
  pub is : f ≡ frame.block v core_of_copy certificate tag
  pub same : digest core_of_copy ≡ digest core

copy-by : (self : Identity) (core : Core) (q : Certificate) (f : Frame) → is_copy self core q f ≡ true
    → IsCopyBy core (sender_of self.sizes f) f
unfolding is_copy
copy-by self core q (frame.block s k p t) h = record {
  core_of_copy = k;
  certificate = p;
  tag = t;
  is = refl;
  same = same_bytes _ _ (and_parts _ _ (and_parts _ _ h).1).0;
}
copy-by self core q (frame.proposal w c p v) h = absurd (true≢false (sym h))
copy-by self core q (frame.new_view w s p v) h = absurd (true≢false (sym h))
copy-by self core q (frame.request c) h = absurd (true≢false (sym h))
copy-by self core q (frame.vote d b) h = absurd (true≢false (sym h))
copy-by self core q (frame.fetch s d t) h = absurd (true≢false (sym h))
copy-by self core q (frame.reply r c s p t g) h = absurd (true≢false (sym h))

-- each that sent copies sent one of the same digest
abbrev HaveCopies : Identity → List Frame → Input → Type 0
HaveCopies self fs i =
    (core : Core) (q : Certificate) (g : Findings) (vs : List ℕ) → Carries i core q g → SentBy i vs → (v : ℕ)
    → Among v vs → (f : Frame) × Among f fs × IsCopyBy core v f

pub gathered-sent : (self : Identity) (fs : List Frame) (i : Input) → IsGathered self fs i
    → HaveCopies self fs i
gathered-sent self fs i (copies sender core q t more same) core' q' g' vs ca by v m =
    let all : List Frame = frame.block sender core q t ∷ more in
    let r = Among-map (sender_of self.sizes) all v (subst (Among v) (sym by) m) in
    let copy : IsCopyBy core (sender_of self.sizes r.0) r.0 =
    copy-by self core q r.0 (all-passes (is_copy self core q) all r.0 same r.1) in
    (r.0, r.1, subst₂ (λ (c : Core) (u : ℕ). IsCopyBy c u r.0) ca.0 (sym r.2) copy)
