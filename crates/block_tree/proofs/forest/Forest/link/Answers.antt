use Rattle.std.proofs.Common.{◌≡◌, ℕ, ◌<◌, ◌≤◌, ◌+◌, ◌-◌, ◌^◌, Option, length, sym, ap, ◌∙◌, subst, arith}
use Rattle.std.proofs.Common.{refl}
use Rattle.std.specs.Prelude.{MatchOption}
use Rattle.std.proofs.lemmas.Nat.{one_shl}
use Rattle.definitions.specs.Branches.{Branch}
use Rattle.definitions.specs.Frames.{Core}
use Rattle.definitions.specs.Trees.{blocks}
use Rattle.block_tree.specs.Numbers.{numbered, IsDown}
use Rattle.block_tree.proofs.Found.{core-height}
use Rattle.block_tree.proofs.Numbered.{numbered-genesis}
use Rattle.block_tree.proofs.Descending.{pow-some}
use Rattle.block_tree.proofs.Kept.{entry-of, here-known}
use Rattle.block_tree.proofs.forest.Forest.link.Goals as goal

pub returns-then-at-eq0 : goal.returns-then-at-eq0
returns-then-at-eq0 c =
    let none : length (numbered (blocks c.args.self.now.all) c.args.at) ≡ 0 =
    ap (λ (k : ℕ). length (numbered (blocks c.args.self.now.all) k)) c.if-at-eq0.true
    ∙ ap (λ (b : Branch). length b) (numbered-genesis c.args.self.now.all) in
    omega (arith, none, pow-some c.args.level)

pub entry_at-entry-requires-clause-kept : goal.entry_at-entry-requires-clause-kept
entry_at-entry-requires-clause-kept c = (here-known c.args.self.now c.args.at c.requires c.if-at-eq0.false).0

pub entry_at-entry-requires-clause-known : goal.entry_at-entry-requires-clause-known
entry_at-entry-requires-clause-known c = (here-known c.args.self.now c.args.at c.requires c.if-at-eq0.false).1

pub returns-in_err-ancestor : goal.returns-in_err-ancestor
returns-in_err-ancestor c =
    let f = c.args.self.now in
    let b = numbered (blocks f.all) c.args.at in
    let is = entry-of f c.entry_at-entry.result.now c.args.at c.entry_at-entry.ensures c.requires
    c.if-at-eq0.false in
    rw c.from_residual.ensures
    (subst (λ (o : Option ℕ). MatchOption o (length b < 2 ^ c.args.level + (f.horizon - 2))
    (λ m. 2 ^ c.args.level + (f.horizon - 2) ≤ length b → IsDown (blocks f.all) (2 ^ c.args.level) b m))
    (sym c.in_err-ancestor.ensures.link) (is.links c.args.level))

pub returns-then-above-level : goal.returns-then-above-level
returns-then-above-level c =
    let f = c.args.self.now in
    let b = numbered (blocks f.all) c.args.at in
    let is = entry-of f c.entry_at-entry.result.now c.args.at c.entry_at-entry.ensures c.requires
    c.if-at-eq0.false in
    let height = ap (λ (k : Core). k.height) is.core ∙ core-height b in
    let low = c.in_ok-ancestor.ensures.low refl in
    let power = one_shl c.args.level 64 (omega (arith, low)) in
    omega (
      arith,
      c.if-above-level.true,
      power,
      height,
      c.height.ensures,
      c.saturating_sub.view_is,
      c.floor.ensures,
      pow-some c.args.level,
      c.saturating_sub-above.ensures,
    )

pub returns : goal.returns
returns c =
    let f = c.args.self.now in
    let b = numbered (blocks f.all) c.args.at in
    let is = entry-of f c.entry_at-entry.result.now c.args.at c.entry_at-entry.ensures c.requires
    c.if-at-eq0.false in
    let height = ap (λ (k : Core). k.height) is.core ∙ core-height b in
    let low = c.in_ok-ancestor.ensures.low refl in
    let power = one_shl c.args.level 64 (omega (arith, low)) in
    let high : 2 ^ c.args.level + (f.horizon - 2) ≤ length b =
    omega (
      arith,
      c.if-above-level.false,
      power,
      height,
      c.height.ensures,
      c.saturating_sub.view_is,
      c.floor.ensures,
      pow-some c.args.level,
      c.saturating_sub-above.ensures,
    ) in (
      high,
      subst (λ (o : Option ℕ). MatchOption o (length b < 2 ^ c.args.level + (f.horizon - 2))
          (λ m. 2 ^ c.args.level + (f.horizon - 2) ≤ length b → IsDown (blocks f.all) (2 ^ c.args.level) b m))
          (sym c.in_ok-ancestor.ensures.link) (is.links c.args.level) high,
    )
