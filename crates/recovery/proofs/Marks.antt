-- A block stands as a clear one exactly where its commands verify.
use Rattle.std.proofs.Common.{◌≡◌, ◌&&◌, true, [], ◌∷◌, sym, ap, subst, ◌∙◌, inl, inr}
use Rattle.std.specs.List.{list_all}
use Rattle.std.proofs.lemmas.Bool.{and_from}
use Rattle.definitions.specs.Lists.{Among}
use Rattle.definitions.specs.Branches.{Block, Branch, branch_eq}
use Rattle.definitions.specs.Chronicles.{Admitted, Chronicle, Step, Step.took_block, taken_blocks, window}
use Rattle.definitions.specs.Chronicles.{standing_blocks, stored_blocks, stored_block, horizon}
use Rattle.definitions.specs.Checks.{Identity, Findings, findings, is_clear_core, command_verifies}
use Rattle.definitions.specs.Digests.{core_of, core_over}
use Rattle.definitions.specs.Frames.{Core, Certificate}
use Rattle.definitions.specs.Rulings.{Input, Input.proposal_in, Input.block_in, Input.vote_in}
use Rattle.definitions.specs.Rulings.{Input.new_view_in, Input.request_in, Input.fetch_in, Input.timeout_in}
use Rattle.definitions.specs.Rulings.{Input.beat_in, Input.prune_in, Input.offered_in, Input.relayed_in}
use Rattle.definitions.specs.Rulings.{Input.lead_in, Input.ask_in, Input.view_in}
use Rattle.definitions.specs.Trees.{Stored, is_clear, is_in_reach}
use Rattle.definitions.proofs.Lists.{Among-map, Among-filter, any-from}
use Rattle.definitions.proofs.Branches.{branch_eq-decides}
use Rattle.definitions.proofs.Chronicles.{taken-now}
use Rattle.definitions.proofs.Windows.{block-stored}
use Rattle.linear_law.proofs.Inputs.{Carries, FromInput, AllStanding, ruling-from}
use Rattle.recovery.proofs.Ruled.{IsFound, WasDue, AreRuled}

-- what an input carries is what was found
carried-found : (self : Identity) (i : Input) (core : Core) (q : Certificate) (f : Findings) → Carries i core q f
    → IsFound self i → f ≡ findings self core q
carried-found self (proposal_in w k p g) core q f (a, b, c) e = sym c ∙ (e ∙ λ i. findings self (a i) (b i))
carried-found self (block_in s k p g) core q f (a, b, c) e = sym c ∙ (e ∙ λ i. findings self (a i) (b i))
carried-found self (offered_in w s k p g) core q f (a, b, c) e = sym c ∙ (e ∙ λ i. findings self (a i) (b i))
carried-found self (relayed_in ss k p g) core q f (a, b, c) e = sym c ∙ (e ∙ λ i. findings self (a i) (b i))
carried-found self (vote_in d b) core q f h e = absurd h
carried-found self (new_view_in w s p) core q f h e = absurd h
carried-found self (request_in r) core q f h e = absurd h
carried-found self (fetch_in s d) core q f h e = absurd h
carried-found self timeout_in core q f h e = absurd h
carried-found self beat_in core q f h e = absurd h
carried-found self (prune_in n) core q f h e = absurd h
carried-found self (lead_in d) core q f h e = absurd h
carried-found self (ask_in r d) core q f h e = absurd h
carried-found self (view_in w s) core q f h e = absurd h

-- the mark of a new block that was due
due-mark : (self : Identity) (a : Admitted) (c : Chronicle) → WasDue self (took_block a) c → a.new ≡ true
    → a.clear ≡ is_clear_core self (core_of a.branch)
due-mark self a c d n =
    let r : FromInput self c d.0 (took_block a) = subst (AllStanding (FromInput self c d.0)) d.2
    (ruling-from self d.0 c) in
    let t = r.4 in
    t.clear_is
    ∙ (ap (λ (f : Findings). f.clear) (carried-found self d.0 r.0 r.1 r.2 r.3 d.1)
    ∙ ap (is_clear_core self) (sym (t.core_is n)))

-- so are those of all
pub mark-is : (self : Identity) (c : Chronicle) → AreRuled self c → (a : Admitted) → Among a (taken_blocks c)
    → a.clear ≡ is_clear_core self (core_of a.branch)
unfolding taken_blocks
mark-is self [] h a m = absurd m
mark-is self (st ∷ c) h a m = elim (taken-now st c a m) [
  | inl now ↦ due-mark self a c (subst (λ (x : Step). WasDue self x c) now.0 h.0) now.1
  | inr k ↦ mark-is self c h.1 a k
]

-- a block whose commands verify stands as a clear one
pub stands-clear : (self : Identity) (c : Chronicle) → AreRuled self c → (b : Block) (parent : Branch)
    → list_all (command_verifies self) b.commands ≡ true → Among (b ∷ parent) (window c)
    → is_clear (b ∷ parent) (standing_blocks c) ≡ true
unfolding is_clear window standing_blocks stored_blocks is_clear_core core_of core_over
stands-clear self c ruled b parent good m = elim (block-stored (standing_blocks c) (b ∷ parent) m) [
  | inl e ↦ absurd (nil e)
  | inr s ↦
      let f = Among-filter (λ (x : Stored). is_in_reach (horizon c) x.branch) (stored_blocks c) s.0 s.1 in
      let a = Among-map stored_block (taken_blocks c) s.0 f.0 in
      let branch : a.0.branch ≡ b ∷ parent = sym (s.2 ∙ ap (λ (x : Stored). x.branch) a.2) in
      let mark : s.0.clear ≡ true =
      ap (λ (x : Stored). x.clear) a.2
      ∙ (mark-is self c ruled a.0 a.1 ∙ (ap (λ (x : Branch). is_clear_core self (core_of x)) branch ∙ good)) in
      any-from (λ (x : Stored). x.clear && branch_eq x.branch (b ∷ parent)) (standing_blocks c) s.0 s.1
      (and_from _ _ mark ((branch_eq-decides s.0.branch (b ∷ parent)).1 (sym s.2)))
]
  where
    nil : b ∷ parent ≡ [] → ⊥
    nil e = cc
