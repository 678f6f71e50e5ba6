-- What window files show of one another's last executed blocks, by digests.
use Rattle.std.specs.Prelude.{◌≡◌, ℕ, ◌<◌, ◌≤◌, List, ◌∷◌, ◌++◌, length, map, Some, None}
use Rattle.std.specs.List.{All}
use Rattle.std.specs.Borrow.{Bor}
use Rattle.ids.specs.Sizes.{Sizes, quorum}
use Rattle.definitions.specs.Bytes.{Bytes}
use Rattle.definitions.specs.Lists.{Among, AreDistinct}
use Rattle.definitions.specs.WindowAudit as audit
use Rattle.window_files.specs.Files.{Window, shown, last_digest}
use Rattle.window_files.specs.declared.judging.Lack.{Lack}
use Rattle.window_files.specs.declared.judging.Lack.TheVariants.{Other, Missing}

-- the numbers of the replicas
abbrev pub numbers : List (Bor Window) → List ℕ
numbers ws = map (λ w. w.now.head.number) ws

-- at least a quorum of windows of the same sizes, each replica's once
pub record AreEnough (ws : List (Bor Window)) : Type 0 where
  pub sizes : Sizes
  pub same : All (λ w. w.now.head.config ≡ sizes) ws
  pub enough : quorum sizes ≤ length ws
  pub distinct : AreDistinct (numbers ws)

-- the files' windows
abbrev pub files : List (Bor Window) → List Window
files ws = map (λ w. w.now) ws

-- m's file shows k's last executed block
abbrev pub Meets : (k m : Window) → Type 0
Meets k m = shown k.head.height m ≡ Some (last_digest k)

-- it shows another block at that height
abbrev pub Differs : (k m : Window) → Type 0
Differs k m = (d : Bytes) × (shown k.head.height m ≡ Some d) × (d ≡ last_digest k → ⊥)

-- it shows none there
abbrev pub Misses : (k m : Window) → Type 0
Misses k m = shown k.head.height m ≡ None

-- it lacks the one or the other
abbrev pub Lacks : Lack → (k m : Window) → Type 0
Lacks Other k m = Differs k m
Lacks Missing k m = Misses k m

-- m is the first of those that executed highest
pub record Leads (ws : List Window) (m : Window) : Type 0 where
  pub before : List Window
  pub behind : List Window
  pub are : before ++ m ∷ behind ≡ ws
  pub above : (k : Window) → Among k before → k.head.height < m.head.height
  pub highest : (k : Window) → Among k behind → k.head.height ≤ m.head.height

-- a file of the number a stands so to the one that leads, whose number is b
pub record Stands (R : Window → Window → Type 0) (ws : List Window) (a b : ℕ) : Type 0 where
  pub lower : Window
  pub higher : Window
  pub judged : Among lower ws
  pub leads : Leads ws higher
  pub lower_number : lower.head.number ≡ a
  pub higher_number : higher.head.number ≡ b
  pub related : R lower higher

-- Each is held against the one that leads. Where its file shows each one's last executed block, they agree; where it
-- shows another block for one of them, they fork; where it does so for none, and shows no block for one of them, that
-- one is unmet.
abbrev pub FilesShow : List Window → audit.WindowVerdict → Type 0
FilesShow ws audit.agree = (m : Window) × Leads ws m × ((k : Window) → Among k ws → Meets k m)
FilesShow ws (audit.fork a b) = Stands Differs ws a b
FilesShow ws (audit.unmet a b) =
    (s : Stands Misses ws a b) × ((k : Window) → Among k ws → Differs k s.higher → ⊥)
