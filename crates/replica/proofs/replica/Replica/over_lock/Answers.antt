use Rattle.std.proofs.Common.{ℕ, ◌≡◌, ◌∙◌, Option, Some, [], ap, subst, length}
use Rattle.std.specs.Prelude.{unwrap_or}
use Rattle.definitions.specs.Branches.{Branch}
use Rattle.definitions.specs.Bytes.{Bytes}
use Rattle.definitions.specs.Chronicles.{Chronicle, horizon, lock, standing_blocks}
use Rattle.definitions.specs.Digests.{digest_of}
use Rattle.definitions.specs.States.{find_block}
use Rattle.replica.specs.Kept.{Variables}
use Rattle.replica.specs.Locked.{HasBlock, named, over_in, over_lock}
use Rattle.replica.specs.Steps.{Held}
use Rattle.replica.proofs.Locked.{over-is}
use Rattle.replica.proofs.replica.Replica.over_lock.Goals as goal

pub returns : goal.returns
unfolding digest_of
returns c =
    let r = c.self.inside in
    let o = c.self.invariant.0.state in
    let v : Variables = r.state.variables in
    let over : Option (Bytes × ℕ) = c.over_lock-over.result in
    let answer : (y : Branch) → HasBlock (standing_blocks v.chronicle) y (digest_of (lock v.chronicle))
    → over ≡ over_in y (standing_blocks v.chronicle) =
    subst (λ (x : Variables). (y : Branch) → HasBlock x.stored y x.rules.lock.digest → over ≡ over_in y x.stored)
    o.same c.over_lock-over.ensures in
    let is : c.unwrap_or.result ≡ unwrap_or over (named []) =
    c.unwrap_or.ensures ∙ ap (λ (d : Bytes). unwrap_or over (d, 0)) c.genesis_digest.ensures in
    let same : v.chronicle ≡ c.args.self.now.replica.chronicle = ap (λ (h : Held). h.replica.chronicle) c.self.view_is in
    record {
      found = subst
          (λ (x : Chronicle). horizon x ≡ 0 → find_block c.unwrap_or.result.0 x ≡ Some (over_lock x)) same
          (λ z. ap (λ (p : Bytes × ℕ). find_block p.0 v.chronicle) is
          ∙ (over-is r.keyring.sizes v.chronicle over o.sound z answer).0);
      high = subst (λ (x : Chronicle). horizon x ≡ 0 → c.unwrap_or.result.1 ≡ length (over_lock x)) same
          (λ z. ap (λ (p : Bytes × ℕ). p.1) is ∙ (over-is r.keyring.sizes v.chronicle over o.sound z answer).1);
    }
