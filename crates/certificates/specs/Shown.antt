-- What a view shows, and what a check of it comes to.
use Rattle.std.specs.Prelude.{◌≡◌, ℕ, ◌&&◌, Bool, true, Option, Some, None, List, [], IfSome, IsTrue}
use Rattle.ids.specs.Sizes.{Sizes}
use Rattle.definitions.specs.Frames.{Core, Certificate, Frame, genesis_core}
use Rattle.definitions.specs.FrameLimits.{IsFrame, IsCore, IsCertificate}
use Rattle.definitions.specs.Keyrings.{Keys, keyring_of, is_peer, verify}
use Rattle.definitions.specs.Checks.{Identity, identity_of, counted_voters, is_good, is_clear_core}
use Rattle.definitions.specs.Admission.{check, is_passed, own_tag_verifies}
use Rattle.frames_view.specs.Fields.{frame_certificate, frame_core}
use Rattle.frames_view.specs.PartViews.{core_of, certificate_of}
use Rattle.frames_view.specs.declared.views.CertificateView.{CertificateView}
use Rattle.frames_view.specs.declared.views.CoreView.{CoreView}
use Rattle.certificates.specs.declared.claims.Claims.{Claims}
use Rattle.certificates.specs.declared.claims.OwnTag.{OwnTag}

-- what a view shows
pub data Shown : Type 0 where
  frame : Frame → Shown
  certificate : Certificate → Shown

-- it is one at these sizes
abbrev pub Fits : Sizes → Shown → Type 0
Fits sizes (frame f) = IsFrame sizes f
Fits sizes (certificate q) = IsCertificate sizes q

-- it passes the check of the replica that has this identity
abbrev pub passes : Identity → Shown → Bool
passes self (frame f) = is_passed (check self f)
passes self (certificate q) = is_good self q

-- its own tag for the replica that has this identity verifies, where it has one
abbrev pub tag_verifies : Identity → Shown → Bool
tag_verifies self (frame f) = own_tag_verifies self f
tag_verifies self (certificate q) = true

-- the certificate in it
abbrev pub certificate_in : Shown → Certificate
certificate_in (frame f) = frame_certificate f
certificate_in (certificate q) = q

-- the core in it
abbrev pub core_in : Shown → Core
core_in (frame f) = frame_core f
core_in (certificate q) = genesis_core

-- ---- what of it is checked: a part that it doesn't have is right

abbrev pub is_tagged : Keys → Option OwnTag → Bool
is_tagged keys None = true
is_tagged keys (Some t) = verify (keyring_of keys) t.kind t.sender t.content.now t.tag.now

abbrev pub is_certified : Keys → Option CertificateView → Bool
is_certified keys None = true
is_certified keys (Some q) = is_good (identity_of keys) (certificate_of q)

abbrev pub voters_in : Keys → Option CertificateView → List ℕ
voters_in keys None = []
voters_in keys (Some q) = counted_voters (identity_of keys) (certificate_of q)

abbrev pub is_clear_in : Keys → Option CoreView → Bool
is_clear_in keys None = true
is_clear_in keys (Some k) = is_clear_core (identity_of keys) (core_of k)

-- these are its claims to the holder of the keys: they are whole, and it passes where they are right
pub record AreClaims (keys : Keys) (shown : Shown) (c : Claims) : Type 0 where
  pub own : IfSome c.own (λ t. IsTrue (is_peer keys t.sender))
  pub certificate : IfSome c.certificate (λ q. IsCertificate keys.sizes (certificate_of q))
  pub core : IfSome c.core (λ k. IsCore keys.sizes (core_of k))
  pub tagged : tag_verifies (identity_of keys) shown ≡ is_tagged keys c.own
  pub passed : passes (identity_of keys) shown ≡ (is_tagged keys c.own && is_certified keys c.certificate)
  pub voters : counted_voters (identity_of keys) (certificate_in shown) ≡ voters_in keys c.certificate
  pub clear : is_clear_core (identity_of keys) (core_in shown) ≡ is_clear_in keys c.core
