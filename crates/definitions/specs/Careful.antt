-- Careful votes: this project's own rule of the running server, beside HotStuff's. It takes votes away and gives none.
-- With it nobody has to know a block below a decided one to judge what comes later, so what was decided can be pruned.
use Rattle.std.specs.Prelude.{ℕ, suc, ◌≡◌, ◌&&◌, Bool, true, [], ◌∷◌, length, if◌then◌else◌, nat_lt, nat_le, ⊤}
use Rattle.definitions.specs.Branches.{Branch, justify_height}
use Rattle.definitions.specs.Chronicles.{Step.took_block, Chronicle, lock}

-- each block above this height of a branch justifies one that is no lower than that
unfoldable pub justifies_from : (least height : ℕ) → Branch → Bool
justifies_from least height [] = true
justifies_from least height (b ∷ parent) =
    if nat_lt height (suc (length parent)) then nat_le least b.justify && justifies_from least height parent
    else true

-- a block, and each one between it and the block that it justifies, justifies one no lower than the lock
unfoldable pub is_careful : Branch → Chronicle → Bool
is_careful b c = justifies_from (length (lock c)) (justify_height b) b

-- each vote of a chronicle was for such a block
abbrev pub AreCareful : Chronicle → Type 0
AreCareful [] = ⊤
AreCareful (took_block a ∷ earlier) = (a.voted ≡ true → is_careful a.branch earlier ≡ true) × AreCareful earlier
AreCareful (s ∷ earlier) = AreCareful earlier
