-- Each frame that a step sends is a frame at these sizes, and a certificate in it is cut.
use Rattle.ids.specs.declared.limits.TheConstants.{MOST_TEXT}
use Rattle.std.proofs.Common.{ℕ, ◌≡◌, ◌<◌, ◌≤◌, ◌^◌, [], ◌∷◌, length, sym, subst, inl, inr, Some}
use Rattle.ids.specs.declared.kind.Kind.TheVariants as kind
use Rattle.ids.specs.Sizes.{Sizes, replicas, client_party}
use Rattle.definitions.specs.Lists.{Among}
use Rattle.definitions.specs.Bytes.{Bytes}
use Rattle.definitions.specs.Frames.{reply_content, fetch_content, block_content, proposal_content}
use Rattle.definitions.specs.Frames.{new_view_content, Certificate}
use Rattle.definitions.specs.FrameLimits.{IsDigest, IsWritten, IsCore, IsCertificate}
use Rattle.definitions.specs.Branches.{Branch}
use Rattle.definitions.specs.Digests.{digest_of, core_of}
use Rattle.definitions.specs.Histories.{Answer, answers}
use Rattle.definitions.specs.Chronicles.{Admitted, Step, Chronicle, taken_blocks, history}
use Rattle.definitions.specs.Checks.{Identity, cut}
use Rattle.definitions.specs.States.{Justified, view, qc_high, me, proposed}
use Rattle.definitions.specs.Sendings.{Sending, vote_frame, proposal_frame, new_view_frame, reply_to}
use Rattle.definitions.specs.Sendings.{block_frame, fetch_frame}
use Rattle.definitions.proofs.Vectors.{IsVector-vector_for, length-tag_for}
use Rattle.definitions.proofs.Certificates.{IsDigest-digest_of}
use Rattle.definitions.proofs.Cuts.{IsCut-kept, IsCertificate-kept}
use Rattle.definitions.specs.Grounds.{IsKept}
use Rattle.definitions.proofs.Chronicles.{taken-now}
use Rattle.linear_law.proofs.Sends.{Sends, Sends.its_vote, Sends.new_reply, Sends.old_reply, Sends.its_view}
use Rattle.linear_law.proofs.Sends.{Sends.its_block, Sends.its_proposal}
use Rattle.linear_law.proofs.StoredFrames.{IsStored, AreStored}
use Rattle.linear_law.proofs.MadeCertificates.{qc_high-is}
use Rattle.linear_law.proofs.Leaves.{view-fits}

-- an answer whose reply is a frame
pub record IsFitAnswer (s : Sizes) (a : Answer) : Type 0 where
  pub client : a.client < s.clients
  pub seq : (1 ≤ a.seq) × (a.seq < 2 ^ 64)
  pub place : (1 ≤ a.place) × (a.place < 2 ^ 64)
  pub text : length a.text ≤ MOST_TEXT

-- a block and a certificate, kept by the replica, of which a proposal can be made
pub record IsFitProposal (self : Identity) (j : Justified) : Type 0 where
  pub core_is : IsCore self.sizes (core_of j.block)
  pub certificate_is : IsCertificate self.sizes j.certificate
  pub kept : IsKept self j.certificate

-- what is known of a replica that stores a step
pub record IsReady (self : Identity) (st : Step) (c : Chronicle) : Type 0 where
  pub stored : AreStored self (st ∷ c)
  pub number : me self < replicas self.sizes
  pub before : (a : Answer) → Among a (answers self.sizes.most_keys (history c)) → IsFitAnswer self.sizes a
  pub now : (a : Answer) → Among a (answers self.sizes.most_keys (history (st ∷ c)))
      → IsFitAnswer self.sizes a
  pub proposal : (j : Justified) → proposed self (st ∷ c) ≡ Some j → IsFitProposal self j

-- ---- each kind

module _ (self : Identity) (number : me self < replicas self.sizes) where
  -- a vote
  vote-fits : (b : Branch) → IsWritten self.sizes (vote_frame self b)
  unfolding vote_frame
  vote-fits b = (
    (
      IsDigest-digest_of b,
      record { voter = number; vector = IsVector-vector_for self.sizes self.ring kind.Vote (digest_of b) },
    ),
    tt,
  )

  -- a question for a block
  pub fetch-fits : (to : ℕ) (d : Bytes) → IsDigest d → IsWritten self.sizes (fetch_frame self to d)
  unfolding fetch_frame
  fetch-fits to d h = ((number, h, length-tag_for self.ring kind.Fetch (fetch_content (me self) d) to), tt)

  -- an announcement of the view
  new_view-fits : (c : Chronicle) → AreStored self c → IsWritten self.sizes (new_view_frame self c)
  unfolding new_view_frame
  new_view-fits c h =
      let q : Certificate = (qc_high self.sizes c).certificate in
      let high = qc_high-is self c h in (
        (
          view-fits self c h,
          number,
          IsCertificate-kept self q high.certificate_is high.kept,
          IsVector-vector_for self.sizes self.ring kind.NewView
              (new_view_content (view self.sizes c) (me self) (cut self q)),
        ),
        IsCut-kept self q high.kept,
      )

  -- a block that was asked for
  block-fits : (to : ℕ) (a : Admitted) → IsCore self.sizes (core_of a.branch)
      → IsCertificate self.sizes a.certificate → IsKept self a.certificate
      → IsWritten self.sizes (block_frame self to a)
  unfolding block_frame
  block-fits to a hk hq g = (
    (
      number,
      hk,
      IsCertificate-kept self a.certificate hq g,
      length-tag_for self.ring kind.Block
          (block_content (me self) (core_of a.branch) (cut self a.certificate)) to,
    ),
    IsCut-kept self a.certificate g,
  )

  -- a proposal
  proposal-fits : (w : ℕ) (j : Justified) → w < 2 ^ 64 → IsFitProposal self j
      → IsWritten self.sizes (proposal_frame self w j)
  unfolding proposal_frame
  proposal-fits w j l h = (
    (
      l,
      h.core_is,
      IsCertificate-kept self j.certificate h.certificate_is h.kept,
      IsVector-vector_for self.sizes self.ring kind.Proposal
          (proposal_content w (core_of j.block) (cut self j.certificate)),
    ),
    IsCut-kept self j.certificate h.kept,
  )

  -- a reply
  reply-fits : (a : Answer) → IsFitAnswer self.sizes a → IsWritten self.sizes (reply_to self a).1
  unfolding reply_to
  reply-fits a h = (
    (
      number,
      h.client,
      h.seq,
      h.place,
      h.text,
      length-tag_for self.ring kind.Reply (reply_content (me self) a.client a.seq a.place a.text)
          (client_party a.client),
    ),
    tt,
  )

-- ---- what is looked up

-- a block that was taken has the core and the certificate of a frame, and the certificate is kept
taken-fit : (self : Identity) (c : Chronicle) (a : Admitted) → AreStored self c → Among a (taken_blocks c)
    → IsCore self.sizes (core_of a.branch) × IsCertificate self.sizes a.certificate
    × IsKept self a.certificate
unfolding taken_blocks
taken-fit self [] a h m = absurd m
taken-fit self (st ∷ c) a h m =
    elim (taken-now st c a m) [
      | inl now ↦
          (let s =
          subst (IsStored self) now.0 h.0 in
          (subst (IsCore self.sizes) (sym (s.stored now.1)) s.core_is, s.certificate_is, s.kept))
      | inr k ↦ taken-fit self c a h.1 k
    ]

-- ---- what a step sends

-- each frame that a step sends
pub sends-fit : (self : Identity) (st : Step) (c : Chronicle) (o : Sending) → IsReady self st c
    → Sends self st c o → IsWritten self.sizes o.1
sends-fit self st c o r (its_vote a e v to) = vote-fits self r.number a.branch
sends-fit self st c o r (new_reply a m) = reply-fits self r.number a (r.now a m)
sends-fit self st c o r (old_reply a m) = reply-fits self r.number a (r.before a m)
sends-fit self st c o r its_view = new_view-fits self r.number (st ∷ c) r.stored
sends-fit self st c o r (its_block to a m) =
    let k = taken-fit self c a r.stored.1 m in block-fits self r.number to a k.0 k.1 k.2
sends-fit self st c o r (its_proposal j l e) =
    proposal-fits self r.number (view self.sizes c) j (view-fits self c r.stored.1) (r.proposal j e)
