-- Each entry of a member's history in a correct client's name was submitted.
use Rattle.definitions.proofs.Held.{executed-cases}
use Rattle.definitions.proofs.Branches.{Extends-trans, just3-below}
use Rattle.definitions.proofs.Lists.{Among-reverse, Among-either, Among-map}
use Rattle.std.proofs.Common.{ℕ, ◌≡◌, true, false, List, [], ◌∷◌, length, refl, sym, ap, subst, ◌∙◌, arith}
use Rattle.std.proofs.Common.{inl, inr, map, reverse}
use Rattle.linear_law.proofs.Effects.{is_member}
use Rattle.linear_law.proofs.Runs.{chronicles}
use Rattle.linear_law.proofs.Clear.{clear-below}
use Rattle.definitions.specs.Agreement.{IsLawfulFamily}
use Rattle.linear_law.proofs.Requested.{AllRequested, WasRequested}
use Rattle.definitions.specs.Lists.{Among}
use Rattle.definitions.specs.Frames.{Command}
use Rattle.definitions.specs.Branches.{Block, Branch, just1, just3, Extends}
use Rattle.ids.specs.Sizes.{client_party}
use Rattle.definitions.specs.Digests.{core_of, core_over}
use Rattle.definitions.specs.Histories.{Entry, entry_of, history_of}
use Rattle.definitions.specs.Chronicles.{executed, history}
use Rattle.definitions.specs.Worlds.{World}

-- an entry of a branch's history stands in a block of the branch
record IsEntryOf (x : Branch) (e : Entry) : Type 0 where
  block : Block
  parent : Branch
  command : Command
  below : Extends x (block ∷ parent)
  among : Among command block.commands
  same : e ≡ entry_of command

entry-block : (x : Branch) (e : Entry) → Among e (history_of x) → IsEntryOf x e
unfolding history_of
entry-block [] e m = absurd m
entry-block (b ∷ parent) e m =
    elim (Among-either e (reverse (map entry_of b.commands)) (history_of parent) m) [
      | inl k ↦ (let r = Among-map entry_of b.commands e (Among-reverse (map entry_of b.commands) e k) in
          record { block = b; parent = parent; command = r.0; below = ([], refl); among = r.1; same = r.2 })
      | inr k ↦ (let r = entry-block parent e k in
          record {
            block = r.block;
            parent = r.parent;
            command = r.command;
            below = (b ∷ r.below.0, ap (λ (l : Branch). b ∷ l) r.below.1);
            among = r.among;
            same = r.same;
          })
    ]

-- the last executed block is genesis, or the third below a taken one
commands-of : (b : Block) (parent : Branch) → (core_of (b ∷ parent)).commands ≡ b.commands
unfolding core_of core_over
commands-of b parent = refl

nothing-of : (e : Entry) → Among e (history_of []) → ⊥
unfolding history_of
nothing-of e k = k

-- the command behind an entry of a member's history
pub entry-requested : (w : World)
    → IsLawfulFamily (record { sizes = w.sizes; is_member = is_member w; chronicle = chronicles w })
    → ((p : ℕ) → is_member w p ≡ true → AllRequested w w.sent (chronicles w p)) → (p : ℕ)
    → is_member w p ≡ true → (e : Entry) → Among e (history (chronicles w p))
    → w.is_faulty (client_party e.client) ≡ false → (k : Command) × (entry_of k ≡ e) × WasRequested w.sent k
unfolding history
entry-requested w co all p mp e m ok =
    elim (executed-cases (chronicles w p)) [
      | inl z ↦ absurd (none (subst (λ (x : Branch). Among e (history_of x)) z m))
      | inr t ↦ (
          let i = entry-block (executed (chronicles w p)) e m in
          let y : Branch = i.block ∷ i.parent in
          let below : Extends (just1 t.0.branch) y =
          Extends-trans (just1 t.0.branch) (just3 t.0.branch) y (just3-below t.0.branch)
          (subst (λ (x : Branch). Extends x y) t.2 i.below) in
          let c =
          clear-below (length (just1 t.0.branch)) _ co p t.0 mp t.1 (omega arith) y below (omega arith) in
          let a = c.2.0 in
          let commands : (core_of a.branch).commands ≡ i.block.commands =
          ap (λ (x : Branch). (core_of x).commands) c.2.2 ∙ commands-of i.block i.parent in (
            i.command,
            sym i.same,
            all c.0 c.1 a c.2.1 c.2.3 i.command
                (subst (λ (l : List Command). Among i.command l) (sym commands) i.among)
                (ap (λ (x : Entry). w.is_faulty (client_party x.client)) (sym i.same) ∙ ok),
          ))
    ]
  where
    none : Among e (history_of []) → ⊥
    none k = nothing-of e k
