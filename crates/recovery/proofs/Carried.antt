-- What a leader's block carries: all that waited with it, where one block can take that.
use Rattle.ids.specs.declared.limits.TheConstants.{MOST_COMMANDS}
use Rattle.std.proofs.Common.{ℕ, zero, suc, ◌≡◌, ◌≤◌, ◌-◌, ◌==◌, ◌&&◌, not, Bool, List, [], ◌∷◌, ◌++◌}
use Rattle.std.proofs.Common.{map, filter, take, reverse, length, refl, sym, ap, subst, ◌∙◌, arith, inl, inr}
use Rattle.std.specs.List.{list_any}
use Rattle.std.proofs.lemmas.Bool.{cases_Bool, and_from, eq-eqb}
use Rattle.std.proofs.lemmas.List.{take_all}
use Rattle.std.proofs.lemmas.List.Filters.{length-filter_both}
use Rattle.definitions.specs.Lists.{Among}
use Rattle.definitions.specs.Branches.{Block, Branch, Extends}
use Rattle.definitions.specs.Chronicles.{Chronicle, horizon}
use Rattle.definitions.specs.Frames.{Command}
use Rattle.definitions.specs.Histories.{Entry, entry_of, history_of}
use Rattle.definitions.specs.States.{picks, pending}
use Rattle.definitions.proofs.Histories.{history_of-grows}
use Rattle.definitions.proofs.Lists.{Among-after, Among-before, Among-either, Among-kept, Among-mapped, any-found}
use Rattle.definitions.proofs.Lists.{any-from}
use Rattle.recovery.specs.Rounds.{Carries}
use Rattle.recovery.proofs.Grounds.{reversed-among}

-- what the newest blocks carry, the branch does
among-taken : (k : ℕ) (x : Branch) (e : Entry) → Among e (history_of (take k x)) → Among e (history_of x)
unfolding history_of
among-taken zero x e m = absurd m
among-taken (suc k) [] e m = absurd m
among-taken (suc k) (b ∷ x) e m =
    elim (Among-either e (reverse (map entry_of b.commands)) (history_of (take k x)) m) [
      | inl i ↦ Among-before e (reverse (map entry_of b.commands)) (history_of x) i
      | inr i ↦ Among-after e (reverse (map entry_of b.commands)) (history_of x) (among-taken k x e i)
    ]

-- a higher branch carries it too
pub carries-over : (y x : Branch) (c : Command) → Extends y x → Carries x c → Carries y c
carries-over y x c e h =
    let f = any-found (λ (i : Entry). (i.client == c.client) && (i.seq == c.seq)) (history_of x) h in
    let g = history_of-grows y x e in
    any-from (λ (i : Entry). (i.client == c.client) && (i.seq == c.seq)) (history_of y) f.0
    (subst (λ (l : List Entry). Among f.0 l) g.1 (Among-after f.0 g.0 (history_of x) f.1)) f.2

-- what is picked for a block, and what stands below it, are all that waits, where that isn't too much
pub picked-carries : (c : Chronicle) (z : Branch) (b : Block) → b.commands ≡ picks c z → (k : Command)
    → Among k (pending c) → length (pending c) ≤ MOST_COMMANDS → Carries (b ∷ z) k
unfolding picks history_of
picked-carries c z b is k m few =
    let on : Branch = take (length z - horizon c) z in
    let test : Command → Bool =
    λ r. not (list_any (λ e. (e.client == r.client) && (e.seq == r.seq)) (history_of on)) in
    let same : Entry → Bool = λ e. (e.client == k.client) && (e.seq == k.seq) in
    let front : List Entry = reverse (map entry_of b.commands) in
    elim (cases_Bool (list_any same (history_of on))) [
      | inl t ↦ (
          let f = any-found same (history_of on) t in
          any-from same (front ++ history_of z) f.0
          (Among-after f.0 front (history_of z) (among-taken (length z - horizon c) z f.0 f.1)) f.2)
      | inr f ↦ (
          let l = length-filter_both test (λ r. not (test r)) (λ r. refl) (pending c) in
          let there : Among k b.commands =
          subst (λ (xs : List Command). Among k xs)
          (sym (is ∙ take_all MOST_COMMANDS (filter test (pending c)) (omega (arith, l, few))))
          (Among-kept test (pending c) k m (ap not f)) in
          any-from same (front ++ history_of z) (entry_of k)
          (Among-before (entry_of k) front (history_of z)
          (reversed-among (map entry_of b.commands) (entry_of k) (Among-mapped entry_of b.commands k there)))
          (and_from _ _ (eq-eqb k.client k.client refl) (eq-eqb k.seq k.seq refl)))
    ]
