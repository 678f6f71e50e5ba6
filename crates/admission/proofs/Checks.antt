-- What a check gives is what the definitions' checks come to.
use Rattle.std.proofs.Common.{◌≡◌, Bool, true, false, refl, sym, ap, ◌∙◌, subst, Result, Ok, Err}
use Rattle.std.proofs.lemmas.Bool.{eq-eqb, and_from}
use Rattle.std.specs.Prelude.{IsTrue, IfOk}
use Rattle.std.specs.Borrow.{Bor}
use Rattle.ids.specs.declared.fault.Fault.{Fault}
use Rattle.ids.specs.declared.fault.Fault.TheVariants as fault
use Rattle.definitions.specs.Bytes.{Bytes}
use Rattle.definitions.specs.Keyrings.{Keys}
use Rattle.definitions.specs.Rulings as rulings
use Rattle.definitions.specs.Checks.{Identity, identity_of}
use Rattle.definitions.specs.Admission.{Checked, passes, rejected, check, check_offer, when, is_passed}
use Rattle.definitions.specs.Admission.{own_tag_verifies}
use Rattle.certificates.specs.Outcomes.{CheckedView, IsGivenIf}
use Rattle.certificates.proofs.Passing.{is_passed_when}
use Rattle.definitions.specs.Frames as frames
use Rattle.definitions.specs.Frames.{head_len}
use Rattle.frames_view.specs.declared.frame_views.ReplyView.{ReplyView}
use Rattle.frames_view.specs.declared.frame_views.Frame.{Frame}
use Rattle.frames_view.specs.declared.frame_views.Frame.TheVariants as frame
use Rattle.frames_view.specs.Places.{IsFrameAt}
use Rattle.frames_view.specs.Views.{frame_of, command_of, proposal_of, block_of, vote_frame_of, new_view_of}
use Rattle.frames_view.specs.Views.{fetch_of}
use Rattle.admission.specs.declared.input.Input.{Input}
use Rattle.admission.specs.declared.input.Input.TheVariants.{Proposal, Block, Vote as AVote, NewView, Request}
use Rattle.admission.specs.declared.input.Input.TheVariants.{Fetch, OfferedProposal, OfferedBlock, SeenView}
use Rattle.admission.specs.Inputs.{input_of, same_replica, is_addressed}
use Rattle.admission.specs.Admitted.{Brings, Answers}

-- what was found, as an input
abbrev pub taken : {X : Type 0} → (CheckedView X → Input) → Result (CheckedView X) Fault → Result Input Fault
taken wrap (Ok x) = Ok (wrap x)
taken wrap (Err n) = Err n

-- the keys are for their own replica
pub own : (keys : Keys) → IsTrue (same_replica keys keys)
own keys =
    and_from _ _ (eq-eqb keys.party keys.party refl)
    (and_from _ _
    (and_from _ _ (eq-eqb keys.sizes.faults keys.sizes.faults refl)
    (eq-eqb keys.sizes.clients keys.sizes.clients refl))
    (eq-eqb keys.sizes.most_keys keys.sizes.most_keys refl))

-- a view that is given exactly where it passes
given : {X : Type 0} (wrap : CheckedView X → Input) (keys : Keys) (bytes : Bor Bytes) (ok : Bool)
    (i : rulings.Input) (v : X) (r : Result (CheckedView X) Fault)
    → IsGivenIf (is_passed (when ok i)) keys v r → input_of (wrap (record { keys = keys; view = v })) ≡ i
    → Brings keys bytes (wrap (record { keys = keys; view = v }))
    → Answers keys bytes (when ok i) (taken wrap r)
given wrap keys bytes true i v (Ok x) g e b =
    (ap (λ c. input_of (wrap c)) g.given ∙ e, subst (λ c. Brings keys bytes (wrap c)) (sym g.given) b)
given wrap keys bytes true i v (Err n) g e b = absurd (no (g.exactly.1 refl))
  where
    no : false ≡ true → ⊥
    no k = cc
given wrap keys bytes false i v (Ok x) g e b = absurd (no (g.exactly.0 refl))
  where
    no : IsTrue false → ⊥
    no k = cc
given {X} wrap keys bytes false i v (Err n) g e b = same g.refused
  where
    same : ◌≡◌ {A = Result (CheckedView X) Fault} (Err n) (Err fault.BadTag) → n ≡ fault.BadTag
    same k = cc

-- the same of a frame, whose check by a rule that is
of_frame : {X : Type 0} (rule : Identity → frames.Frame → Checked) (variant : X → Frame)
    (wrap : CheckedView X → Input) (keys : Keys) (bytes : Bor Bytes) (f : Frame) (ok p : Bool)
    (i : rulings.Input) (v : X) (r : Result (CheckedView X) Fault) (out : Result Input Fault)
    → f ≡ variant v → rule (identity_of keys) (frame_of (variant v)) ≡ when ok i → p ≡ is_passed (when ok i)
    → IsGivenIf p keys v r → input_of (wrap (record { keys = keys; view = v })) ≡ i
    → (IsFrameAt bytes (head_len bytes.now) (variant v)
    → Brings keys bytes (wrap (record { keys = keys; view = v })))
    → IsFrameAt bytes (head_len bytes.now) f → out ≡ taken wrap r
    → Answers keys bytes (rule (identity_of keys) (frame_of f)) out
of_frame rule variant wrap keys bytes f ok p i v r out is passed exact g e brings lent same =
    subst (λ x. Answers keys bytes x out) (sym (ap (λ x. rule (identity_of keys) (frame_of x)) is ∙ passed))
    (subst (λ x. Answers keys bytes (when ok i) x) (sym same)
    (given wrap keys bytes ok i v r (subst (λ x. IsGivenIf x keys v r) exact g) e
    (brings (subst (IsFrameAt bytes (head_len bytes.now)) is lent))))

-- what was found of a frame of this variant, where it passes, is what the rule says of it
abbrev AreAnswered : {X : Type 0} → (Identity → frames.Frame → Checked) → (X → Frame)
    → (CheckedView X → Input) → (Keys → X → Bool) → Type 0
AreAnswered {X} rule variant wrap test =
    (keys : Keys) (bytes : Bor Bytes) (f : Frame) (v : X) (r : Result (CheckedView X) Fault)
    (out : Result Input Fault) → f ≡ variant v → IsGivenIf (test keys v) keys v r
    → IsFrameAt bytes (head_len bytes.now) f → out ≡ taken wrap r
    → Answers keys bytes (rule (identity_of keys) (frame_of f)) out

pub proposal : AreAnswered check frame.Proposal Proposal
    (λ keys v. is_passed (check (identity_of keys) (proposal_of v)))
unfolding check
proposal keys bytes f v r out is g lent same =
    of_frame check frame.Proposal Proposal keys bytes f _ _ _ v r out is refl refl g refl
    (λ l. record { addressed = own keys; lent = l }) lent same

pub block : AreAnswered check frame.Block Block
    (λ keys v. is_passed (check (identity_of keys) (block_of v)))
unfolding check
block keys bytes f v r out is g lent same =
    of_frame check frame.Block Block keys bytes f _ _ _ v r out is refl refl g refl
    (λ l. record { addressed = own keys; lent = l }) lent same

pub vote : AreAnswered check frame.Vote AVote
    (λ keys v. is_passed (check (identity_of keys) (vote_frame_of v)))
unfolding check
vote keys bytes f v r out is g lent same =
    of_frame check frame.Vote AVote keys bytes f _ _ _ v r out is refl refl g refl
    (λ l. record { addressed = own keys; lent = l }) lent same

pub new_view : AreAnswered check frame.NewView NewView
    (λ keys v. is_passed (check (identity_of keys) (new_view_of v)))
unfolding check
new_view keys bytes f v r out is g lent same =
    of_frame check frame.NewView NewView keys bytes f _ _ _ v r out is refl refl g refl
    (λ l. record { addressed = own keys; lent = l }) lent same

pub fetch : AreAnswered check frame.Fetch Fetch
    (λ keys v. is_passed (check (identity_of keys) (fetch_of v)))
unfolding check
fetch keys bytes f v r out is g lent same =
    of_frame check frame.Fetch Fetch keys bytes f _ _ _ v r out is refl refl g refl
    (λ l. record { addressed = own keys; lent = l }) lent same

pub request : AreAnswered check frame.Request Request
    (λ keys v. is_passed (check (identity_of keys) (frames.request (command_of v))))
unfolding check
request keys bytes f v r out is g lent same =
    of_frame check frame.Request Request keys bytes f _ _ _ v r out is refl refl g refl
    (λ l. record { addressed = own keys; lent = l }) lent same

pub reply : (keys : Keys) (bytes : Bor Bytes) (f : Frame) (v : ReplyView) → f ≡ frame.Reply v
    → Answers keys bytes (check (identity_of keys) (frame_of f)) (Err fault.NotMine)
unfolding check
reply keys bytes f v is =
    subst (λ x. Answers keys bytes (check (identity_of keys) (frame_of x)) (Err fault.NotMine)) (sym is) refl

-- the same of frames that are offered

pub offered_proposal : AreAnswered check_offer frame.Proposal OfferedProposal
    (λ keys v. own_tag_verifies (identity_of keys) (proposal_of v))
unfolding check_offer
offered_proposal keys bytes f v r out is g lent same =
    of_frame check_offer frame.Proposal OfferedProposal keys bytes f _ _ _ v r out is refl (sym (is_passed_when _ _)) g refl
    (λ l. record { addressed = own keys; lent = l }) lent same

pub offered_block : AreAnswered check_offer frame.Block OfferedBlock
    (λ keys v. own_tag_verifies (identity_of keys) (block_of v))
unfolding check_offer
offered_block keys bytes f v r out is g lent same =
    of_frame check_offer frame.Block OfferedBlock keys bytes f _ _ _ v r out is refl (sym (is_passed_when _ _)) g refl
    (λ l. record { addressed = own keys; lent = l }) lent same

pub seen_view : AreAnswered check_offer frame.NewView SeenView
    (λ keys v. own_tag_verifies (identity_of keys) (new_view_of v))
unfolding check_offer
seen_view keys bytes f v r out is g lent same =
    of_frame check_offer frame.NewView SeenView keys bytes f _ _ _ v r out is refl (sym (is_passed_when _ _)) g refl
    (λ l. record { addressed = own keys; lent = l }) lent same

-- what isn't offered
pub unoffered : (keys : Keys) (bytes : Bor Bytes) (f g : Frame) → f ≡ g
    → check_offer (identity_of keys) (frame_of g) ≡ rejected fault.NotMine
    → Answers keys bytes (check_offer (identity_of keys) (frame_of f)) (Err fault.NotMine)
unoffered keys bytes f g is refused =
    subst (λ x. Answers keys bytes x (Err fault.NotMine))
    (sym (ap (λ x. check_offer (identity_of keys) (frame_of x)) is ∙ refused)) refl

-- what the checks give is for the holder of the keys
pub addressed : (keys : Keys) (bytes : Bor Bytes) (x : Checked) (out : Result Input Fault)
    → Answers keys bytes x out → IfOk out (λ input. IsTrue (is_addressed keys input))
addressed keys bytes (passes i) (Ok input) a = a.1.addressed
addressed keys bytes (rejected m) (Ok input) a = absurd a
addressed keys bytes x (Err n) a = tt
