-- What is known of what was checked.
use Rattle.std.proofs.Common.{ℕ, ◌≡◌, ◌∙◌, Bool, true, false, true≢false, refl, sym, subst}
use Rattle.std.proofs.lemmas.Bool.{and_parts, eqb-true}
use Rattle.ids.specs.Sizes.{Sizes}
use Rattle.definitions.specs.Frames as frame
use Rattle.definitions.specs.FrameLimits.{IsFrame, IsVote}
use Rattle.definitions.specs.Keyrings.{Keys}
use Rattle.definitions.specs.Checks.{Identity, identity_of, findings}
use Rattle.definitions.specs.Frames.{Core, Certificate}
use Rattle.definitions.specs.Bytes.{Bytes}
use Rattle.definitions.specs.Admission.{when, check, is_passed}
use Rattle.definitions.specs.Rulings.{Input}
use Rattle.definitions.proofs.Checks.{proposal-checked, block-checked}
use Rattle.definitions.proofs.Sound.{IsChecked}
use Rattle.certificates.specs.Outcomes.{CheckedView}
use Rattle.frames_view.specs.declared.frame_views.ProposalView.{ProposalView}
use Rattle.frames_view.specs.declared.frame_views.BlockView.{BlockView}
use Rattle.frames_view.specs.declared.frame_views.VoteFrameView.{VoteFrameView}
use Rattle.frames_view.specs.Fields.{frame_vote}
use Rattle.frames_view.specs.Views.{proposal_of, block_of, vote_frame_of}
use Rattle.admission.specs.Inputs.{same_sizes, same_replica}
use Rattle.replica.specs.Inputs.{proposal_offered, block_offered}

-- the same sizes
same-sizes : (a b : Sizes) → same_sizes a b ≡ true → a ≡ b
same-sizes a b h =
    let p = and_parts _ _ h in
    let q = and_parts _ _ p.0 in
    let f = eqb-true a.faults b.faults q.0 in
    let c = eqb-true a.clients b.clients q.1 in
    let k = eqb-true a.most_keys b.most_keys p.1 in
    λ i. record { faults = f i; clients = c i; most_keys = k i }

pub addressed-sizes : (a b : Keys) → same_replica a b ≡ true → a.sizes ≡ b.sizes
addressed-sizes a b h = same-sizes a.sizes b.sizes (and_parts _ _ h).1

passed-when : (ok : Bool) (i : Input) → is_passed (when ok i) ≡ true → ok ≡ true
passed-when true i h = refl
passed-when false i h = absurd (true≢false (sym h))

checked-frame : (self : Identity) (view : ℕ) (core : Core) (q : Certificate) (v : Bytes)
    → IsFrame self.sizes (frame.proposal view core q v)
    → is_passed (check self (frame.proposal view core q v)) ≡ true
    → IsChecked self.sizes core q (findings self core q)
unfolding check
checked-frame self view core q v fr h = proposal-checked self view core q v fr (passed-when _ _ h)

checked-block-frame : (self : Identity) (sender : ℕ) (core : Core) (q : Certificate) (t : Bytes)
    → IsFrame self.sizes (frame.block sender core q t)
    → is_passed (check self (frame.block sender core q t)) ≡ true
    → IsChecked self.sizes core q (findings self core q)
unfolding check
checked-block-frame self sender core q t fr h =
    block-checked self core q fr.1 fr.2 (and_parts _ _ (passed-when _ _ h)).1

-- a proposal that passed, for these keys
pub checked-proposal : (p : CheckedView ProposalView) (keys : Keys) → same_replica p.keys keys ≡ true
    → IsFrame p.keys.sizes (proposal_of p.view)
    → is_passed (check (identity_of p.keys) (proposal_of p.view)) ≡ true
    → IsChecked keys.sizes (proposal_offered p).core (proposal_offered p).certificate
    (proposal_offered p).found
checked-proposal p keys a fr h =
    subst (λ (s : Sizes). IsChecked s (proposal_offered p).core (proposal_offered p).certificate
    (proposal_offered p).found) (addressed-sizes p.keys keys a)
    (checked-frame (identity_of p.keys) _ _ _ _ fr h)

-- a block that passed
pub checked-block : (b : CheckedView BlockView) (keys : Keys) → same_replica b.keys keys ≡ true
    → IsFrame b.keys.sizes (block_of b.view)
    → is_passed (check (identity_of b.keys) (block_of b.view)) ≡ true
    → IsChecked keys.sizes (block_offered b).core (block_offered b).certificate (block_offered b).found
checked-block b keys a fr h =
    subst (λ (s : Sizes). IsChecked s (block_offered b).core (block_offered b).certificate
    (block_offered b).found) (addressed-sizes b.keys keys a)
    (checked-block-frame (identity_of b.keys) _ _ _ _ fr h)

-- a vote that passed
pub checked-vote : (v : CheckedView VoteFrameView) (keys : Keys) (x : VoteFrameView) (z : Sizes)
    → same_replica v.keys keys ≡ true → IsFrame v.keys.sizes (vote_frame_of v.view) → x ≡ v.view
    → z ≡ keys.sizes → IsVote z (frame_vote (vote_frame_of x))
checked-vote v keys x z a fr ex ez =
    subst (λ (y : VoteFrameView). IsVote z (frame_vote (vote_frame_of y))) (sym ex)
    (subst (λ (s : Sizes). IsVote s (frame_vote (vote_frame_of v.view)))
    (addressed-sizes v.keys keys a ∙ sym ez) fr.1)
