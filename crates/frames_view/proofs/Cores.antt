-- The bytes of a core: a head of 49, and its commands.
use Rattle.std.proofs.Common.{◌≡◌, ℕ, ◌≤◌, List, [], ◌∷◌, ◌++◌, length, drop, sym, ap, ◌∙◌, append_assoc}
use Rattle.std.proofs.Common.{arith, length-append}
use Rattle.std.specs.List.{flat_map}
use Rattle.std.specs.Int.{w64, to_be_bytes}
use Rattle.std.proofs.lemmas.List.{drop_at}
use Rattle.definitions.specs.Frames.{Core, command_bytes, core_bytes}
use Rattle.frames_view.proofs.Exact.{wide64}

module _ (k : Core) (digest : length k.parent ≡ 32) where
  abbrev head : List ℕ
  head = k.parent ++ to_be_bytes w64 k.height ++ to_be_bytes w64 k.justify_height ++ (length k.commands ∷ [])

  head_len : length head ≡ 49
  head_len =
      let h = to_be_bytes w64 k.height in
      let j = to_be_bytes w64 k.justify_height in
      omega (
        arith,
        digest,
        wide64.len k.height,
        wide64.len k.justify_height,
        length-append (k.parent ++ h ++ j) (length k.commands ∷ []),
        length-append (k.parent ++ h) j,
        length-append k.parent h,
      )

  parts : core_bytes k ≡ head ++ flat_map command_bytes k.commands
  parts = sym (append_assoc (k.parent ++ to_be_bytes w64 k.height ++ to_be_bytes w64 k.justify_height)
      (length k.commands ∷ []) (flat_map command_bytes k.commands))

  -- behind the head stand the commands
  pub behind_head : drop 49 (core_bytes k) ≡ flat_map command_bytes k.commands
  behind_head = ap (drop 49) parts ∙ drop_at head (flat_map command_bytes k.commands) 49 head_len

  -- the head is there
  pub has_head : 49 ≤ length (core_bytes k)
  has_head = omega (arith, head_len, ap length parts, length-append head (flat_map command_bytes k.commands))
