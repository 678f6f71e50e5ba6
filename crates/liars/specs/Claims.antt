-- Claims of blocks that nobody has.
use Rattle.std.specs.Prelude.{◌≡◌, ℕ, ◌+◌, ◌-◌, ◌^◌, min, List, [], ◌∷◌, replicate, Option, None, Some}
use Rattle.std.specs.Prelude.{Bool, is_some, unwrap_or, if◌then◌else◌}
use Rattle.ids.specs.Sizes.{Sizes}
use Rattle.definitions.specs.Bytes.{Bytes}
use Rattle.ids.specs.declared.kind.Kind.TheVariants as kind
use Rattle.definitions.specs.Keyrings.{Keys, keyring_of, vector_for}
use Rattle.definitions.specs.Frames.{Core, Certificate, Frame, new_view, new_view_content, spelling}
use Rattle.definitions.specs.Sendings.{to_all}
use Rattle.definitions.specs.FrameLimits.{IsReadAs}
use Rattle.signed_frames.specs.Outs.{SentBytes}
use Rattle.liars.specs.Lies.{own_certificate}

-- the view that was announced last, and how many claims went out
abbrev pub Claims : Type 0
Claims = ℕ × ℕ

-- a block that nobody has, another one for each number
abbrev pub claimed_core : (number : ℕ) → Core
claimed_core number = record { parent = replicate 32 0; height = number; justify_height = number; commands = [] }

-- a certificate without votes for it
abbrev pub claimed : (number : ℕ) → Certificate
claimed number = own_certificate (claimed_core number)

-- the announcement of a view that names it, to all
abbrev pub claim : Keys → (view number : ℕ) → SentBytes
claim ring view number =
    let content = new_view_content view ring.party (claimed number) in (
      to_all,
      kind.NewView,
      spelling (new_view view ring.party (claimed number) (vector_for ring.sizes (keyring_of ring) kind.NewView content)),
    )

-- the view that a frame announces, if it announces one
abbrev pub announced : Option Frame → Option ℕ
announced (Some (new_view view sender q vector)) = Some view
announced read = None

abbrev pub IsAnnounced : Sizes → Bytes → Option ℕ → Type 0
IsAnnounced sizes bytes view = (read : Option Frame) × IsReadAs sizes bytes read × (view ≡ announced read)

-- a frame that is no announcement, and a claim
abbrev pub with_claim : SentBytes → (is_announcement : Bool) → SentBytes → List SentBytes
with_claim sent is_announcement claim = if is_announcement then claim ∷ [] else sent ∷ claim ∷ []

-- what a liar of false claims remembers after a frame, and what goes out: the frame, but for an announcement, and behind
-- it a claim of the view that was announced last
pub record IsClaimsStep (ring : Keys) (claims : Claims) (sent : SentBytes) (after : Claims) (out : List SentBytes)
    : Type 0 where
  pub view : Option ℕ
  pub is_view : IsAnnounced ring.sizes sent.2 view
  pub remembered : after ≡ (unwrap_or view claims.0, min (claims.1 + 1) (2 ^ 64 - 1))
  pub told : out ≡ with_claim sent (is_some view) (claim ring (unwrap_or view claims.0) claims.1)
