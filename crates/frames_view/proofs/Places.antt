-- What lies in a rest lies in the source, that much further.
use Rattle.std.proofs.Common.{◌≡◌, ℕ, ◌+◌, ◌-◌, length, take, arith, sym, ap, subst, true, Option, Some}
use Rattle.std.proofs.Common.{None, IfSome}
use Rattle.std.proofs.lemmas.Bool.{cond-true}
use Rattle.definitions.specs.Frames.{is_marked, head_len}
use Rattle.std.specs.Borrow.{Bor}
use Rattle.std.proofs.lemmas.List.{length-take}
use Rattle.definitions.specs.Bytes.{Bytes}
use Rattle.definitions.specs.Slices.{LiesAt, LentAt, LeftAt}
use Rattle.definitions.proofs.Slices.{LiesAt-behind, LentAt-behind}
use Rattle.frames_view.specs.declared.core_fields.CoreFields.{CoreFields}
use Rattle.frames_view.specs.declared.views.VoteView.{VoteView}
use Rattle.frames_view.specs.declared.views.CertificateView.{CertificateView}
use Rattle.frames_view.specs.declared.views.CommandView.{CommandView}
use Rattle.frames_view.specs.declared.views.CoreView.{CoreView}
use Rattle.frames_view.specs.declared.frame_views.Frame.{Frame}
use Rattle.frames_view.specs.declared.frame_views.Frame.TheVariants.{Request, Proposal, Vote, NewView}
use Rattle.frames_view.specs.declared.frame_views.Frame.TheVariants.{Reply, Fetch, Block}
use Rattle.frames_view.specs.Places.{IsCommandAt, IsVoteAt, AreFieldsAt, IsCoreAt, IsCertificateAt, IsFrameAt}

module _ (s m : Bor Bytes) (i j k : ℕ) (sum : i + j ≡ k) (outer : LentAt s i m) where
  -- a part that lies so many bytes behind the place
  lent : (n : ℕ) (p : Bor Bytes) → LentAt m (j + n) p → LentAt s (k + n) p
  lent n p inner = LentAt-behind s m p i (j + n) (k + n) (omega (arith, sum)) outer inner

  pub IsCommandAt-behind : (c : CommandView) → IsCommandAt m j c → IsCommandAt s k c
  IsCommandAt-behind c h = (
    LentAt-behind s m c.content i j k sum outer h.0,
    lent 12 c.payload h.1,
    lent (length c.content.now) c.vector h.2,
  )

  pub IsVoteAt-behind : (v : VoteView) → IsVoteAt m j v → IsVoteAt s k v
  IsVoteAt-behind v h = lent 2 v.vector h

  pub AreFieldsAt-behind : (f : CoreFields) → AreFieldsAt m j f → AreFieldsAt s k f
  AreFieldsAt-behind f h =
      (LiesAt-behind s.now m.now f.parent.now i j k sum outer.0 h.0, lent 49 f.commands h.1)

  pub IsCoreAt-behind : (c : CoreView) → IsCoreAt m j c → IsCoreAt s k c
  IsCoreAt-behind c h = (LentAt-behind s m c.raw i j k sum outer h.0, AreFieldsAt-behind c.fields h.1)

  pub IsCertificateAt-behind : (q : CertificateView) → IsCertificateAt m j q → IsCertificateAt s k q
  IsCertificateAt-behind q h =
      (LiesAt-behind s.now m.now q.digest.now i j k sum outer.0 h.0, lent 33 q.votes h.1)

-- a frame that lies in a rest
module _ (s m : Bor Bytes) (i : ℕ) (outer : LentAt s i m) where
  part : (j k : ℕ) (p : Bor Bytes) → i + j ≡ k → LentAt m j p → LentAt s k p
  part j k p sum inner = LentAt-behind s m p i j k sum outer inner

  bytes : (j k : ℕ) (p : Bytes) → i + j ≡ k → LiesAt m.now j p → LiesAt s.now k p
  bytes j k p sum inner = LiesAt-behind s.now m.now p i j k sum outer.0 inner

  pub IsFrameAt-behind : (n : ℕ) (f : Frame) → IsFrameAt m n f → IsFrameAt s (i + n) f
  IsFrameAt-behind n (Request c) h = IsCommandAt-behind s m i n (i + n) (omega arith) outer c h
  IsFrameAt-behind n (Proposal f) h = (
    part n (i + n) f.content (omega arith) h.0,
    IsCoreAt-behind s m i (n + 8) (i + n + 8) (omega arith) outer f.core h.1,
    IsCertificateAt-behind s m i (n + 8 + length f.core.raw.now) (i + n + 8 + length f.core.raw.now)
        (omega arith) outer f.certificate h.2,
    part (n + length f.content.now) (i + n + length f.content.now) f.vector (omega arith) h.3,
  )
  IsFrameAt-behind n (Vote f) h = (
    bytes n (i + n) f.digest.now (omega arith) h.0,
    IsVoteAt-behind s m i (n + 32) (i + n + 32) (omega arith) outer f.vote h.1,
  )
  IsFrameAt-behind n (NewView f) h = (
    part n (i + n) f.content (omega arith) h.0,
    IsCertificateAt-behind s m i (n + 10) (i + n + 10) (omega arith) outer f.certificate h.1,
    part (n + length f.content.now) (i + n + length f.content.now) f.vector (omega arith) h.2,
  )
  IsFrameAt-behind n (Reply f) h = (
    part n (i + n) f.content (omega arith) h.0,
    part (n + 24) (i + n + 24) f.text (omega arith) h.1,
    bytes (n + length f.content.now) (i + n + length f.content.now) f.tag.now (omega arith) h.2,
  )
  IsFrameAt-behind n (Fetch f) h = (
    part n (i + n) f.content (omega arith) h.0,
    bytes (n + 2) (i + n + 2) f.digest.now (omega arith) h.1,
    bytes (n + length f.content.now) (i + n + length f.content.now) f.tag.now (omega arith) h.2,
  )
  IsFrameAt-behind n (Block f) h = (
    part n (i + n) f.content (omega arith) h.0,
    IsCoreAt-behind s m i (n + 2) (i + n + 2) (omega arith) outer f.core h.1,
    IsCertificateAt-behind s m i (n + 2 + length f.core.raw.now) (i + n + 2 + length f.core.raw.now)
        (omega arith) outer f.certificate h.2,
    bytes (n + length f.content.now) (i + n + length f.content.now) f.tag.now (omega arith) h.3,
  )

-- a frame that lies behind the mark of version 2
pub marked_behind : (s m : Bor Bytes) → LeftAt s 1 m → is_marked s.now ≡ true → (o : Option Frame)
    → IfSome o (λ f. IsFrameAt m 1 f) → IfSome o (λ f. IsFrameAt s (head_len s.now) f)
marked_behind s m left e None h = h
marked_behind s m left e (Some f) h =
    subst (λ (n : ℕ). IsFrameAt s n f) (sym (cond-true _ _ _ e)) (IsFrameAt-behind s m 1 left.0 1 f h)

-- ---- what stands before a rest, and what stands behind it

module _ (s r : Bor Bytes) (k : ℕ) (left : LeftAt s k r) (front : Bytes)
    (cut : front ≡ take (length s.now - length r.now) s.now) where
  -- it is as long as the place of the rest
  pub front_len : length front ≡ k
  front_len = omega (arith, left.1, ap length cut, length-take (length s.now - length r.now) s.now)

  -- the rest stands behind it
  pub left_behind : LeftAt s (length front) r
  left_behind = subst (λ (n : ℕ). LeftAt s n r) (sym front_len) left

  -- and so does what the rest begins with
  pub lent_behind : (p : Bor Bytes) → LentAt r 0 p → LentAt s (0 + length front) p
  lent_behind p h = LentAt-behind s r p k 0 (0 + length front) (omega (arith, front_len)) left.0 h

  pub lies_behind : (p : Bytes) → LiesAt r.now 0 p → LiesAt s.now (0 + length front) p
  lies_behind p h = LiesAt-behind s.now r.now p k 0 (0 + length front) (omega (arith, front_len)) left.0.0 h
