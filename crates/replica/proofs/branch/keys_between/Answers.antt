use Rattle.std.proofs.Common.{◌≡◌, ◌+◌, ◌++◌, ◌∙◌, ℕ, suc, List, [], map, arith, sym, ap, option_map}
use Rattle.std.proofs.lemmas.List.{append-nil}
use Rattle.definitions.specs.Frames.{Command, Core}
use Rattle.replica.specs.Picks.{key_of}
use Rattle.replica.specs.Execution.{commands_at}
use Rattle.replica.proofs.Executing.{commands-some, commands-none}
use Rattle.replica.proofs.Walking.{keys-begin, keys-go_on, keys-all}
use Rattle.replica.proofs.branch.keys_between.Goals as goal
use Rattle.replica.proofs.branch.keys_between.Goals.{in-Some+in_ok-put_keys, in_default}

pub loop-height-init : goal.loop-height-init
loop-height-init c = keys-begin c.args.tip.now c.args.tree.now c.args.from c.args.to
    c.new-keys.result.items c.new-keys.ensures.items

pub loop-height-preserved : goal.loop-height-preserved
loop-height-preserved c =
    let all = c.args.tree.now in
    let tip = c.args.tip.now in
    let h : ℕ = c.loop-height.height in
    let up : suc h ≡ h + 1 = omega arith in
    elim c.match-block_at.branch [
      | in-Some+in_ok-put_keys w ↦
          let core : Core = w.in-Some.block.now.core in
          let cs =
          ap (λ (n : ℕ). commands_at tip n all) up
          ∙ commands-some tip (h + 1) all core
          (ap (option_map (λ n. n.now.core)) (sym w.in-Some.is) ∙ c.block_at.ensures) in
          keys-go_on tip all c.args.from c.args.to h c.loop-height.keys.items c.match-block_at.keys.items
          core.commands c.loop-height.invariant c.loop-height-test.true cs
          (ap (λ k. k.items) w.keys-is ∙ w.in_ok-put_keys.ensures
          ∙ ap (λ (l : List Command). c.loop-height.keys.items ++ map key_of l)
          (w.commands.ensures.value ∙ ap (λ (k : Core). k.commands) w.core.ensures))
      | in_default w ↦
          let cs =
          ap (λ (n : ℕ). commands_at tip n all) up
          ∙ commands-none tip (h + 1) all
          (sym c.block_at.ensures ∙ ap (option_map (λ n. n.now.core)) w.in_default.is) in
          keys-go_on tip all c.args.from c.args.to h c.loop-height.keys.items c.match-block_at.keys.items []
          c.loop-height.invariant c.loop-height-test.true cs
          (ap (λ k. k.items) w.keys-is ∙ sym (append-nil c.loop-height.keys.items))
    ]

pub returns : goal.returns
returns c =
    keys-all c.args.tip.now c.args.tree.now c.args.from c.args.to c.loop-height.height
    c.loop-height.keys.items c.loop-height.invariant c.loop-height-test.false
    c.loop-height.auto.height-end
