-- What a replica's window shows, as it is handed on, and its file.
use Rattle.std.specs.Prelude.{◌≡◌, ◌≢◌, ℕ, ◌-◌, ◌^◌, ◌<◌, ◌≤◌, max, List, [], ◌∷◌, ◌++◌, length, decimal, codes}
use Rattle.std.specs.Prelude.{Option, Some, None, ◌==◌, nat_lt, slice_get, unwrap_or, if◌then◌else◌}
use Rattle.std.specs.List.{AllByRecursion, flat_map}
use Rattle.hex.specs.Hex.{encode_lower, IsBytes}
use Rattle.ids.specs.Sizes.{AreSizes, replicas}
use Rattle.definitions.specs.Bytes.{Bytes}
use Rattle.definitions.specs.Frames.{genesis_core}
use Rattle.definitions.specs.Digests.{digest}
use Rattle.deployment.specs.Deployments.{line, sizes_text}
use Rattle.window_files.specs.declared.head.Head.{Head}

-- what the file says first, and the digests of the blocks from `lowest` on
pub record Window : Type 0 where
  pub head : Head
  pub digests : List Bytes

abbrev pub IsDigest : Bytes → Type 0
IsDigest d = (length d ≡ 32) × IsBytes d

-- one of the replicas of its sizes; its window shows its last executed block, and never keeps genesis as one of them
abbrev pub IsHead : Head → Type 0
IsHead h =
    AreSizes h.config × (h.number < replicas h.config) × (h.height < 2 ^ 64) × (1 ≤ h.lowest)
    × (h.lowest ≤ max 1 h.height)

-- how many digests there are: one for each height
abbrev pub count_of : Head → ℕ
count_of h = h.height - (h.lowest - 1)

abbrev pub IsWindow : Window → Type 0
IsWindow w = IsHead w.head × (length w.digests ≡ count_of w.head) × AllByRecursion IsDigest w.digests

-- the digest of the block of a height, where the window still shows that; genesis it always shows
abbrev pub shown : ℕ → Window → Option Bytes
shown height w =
    if height == 0 then Some (digest genesis_core)
    else (if nat_lt height w.head.lowest then None else slice_get w.digests (height - w.head.lowest))

-- the digest of the last executed block
abbrev pub last_digest : Window → Bytes
last_digest w = unwrap_or (shown w.head.height w) (digest genesis_core)

-- the first lines, and what stands behind them
abbrev pub head_text : Head → Bytes → Bytes
head_text h rest =
    sizes_text h.config
    (line (codes "window " ++ decimal h.number)
    (line (codes "executed " ++ decimal h.height) (line (codes "from " ++ decimal h.lowest) rest)))

-- a digest's line
abbrev pub digest_line : Bytes → Bytes
digest_line d = encode_lower d ++ 10 ∷ []

-- the file of a window
abbrev pub text_of : Window → Bytes
text_of w = head_text w.head (flat_map digest_line w.digests)

-- the text is the file of no window
abbrev pub IsNoFile : Bytes → Type 0
IsNoFile text = (w : Window) → IsWindow w → text ≢ text_of w

-- no text is the file of two windows
abbrev pub IsOfOneWindow : Type 0
IsOfOneWindow = (v w : Window) → IsWindow v → IsWindow w → text_of v ≡ text_of w → v ≡ w
