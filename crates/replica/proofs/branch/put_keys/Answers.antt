use Rattle.std.proofs.Common.{◌∙◌, ◌++◌, ◌∷◌, [], map, refl, sym}
use Rattle.std.proofs.lemmas.List.{append-nil}
use Rattle.definitions.specs.Frames.{Command}
use Rattle.frames_view.specs.Views.{command_of}
use Rattle.replica.specs.Picks.{key_of}
use Rattle.replica.proofs.Walking.{over-next, over-all, puts-next}
use Rattle.replica.proofs.branch.put_keys.Goals as goal

pub loop-command-init : goal.loop-command-init
loop-command-init c =
    rw c.into_iter-command-iterator.ensures.into_iter_gives ([], refl, sym (append-nil c.args.keys.now.items))

pub loop-command-preserved : goal.loop-command-preserved
loop-command-preserved c =
    let k : Command = command_of c.in-Some.command in
    over-next _ _ _ (λ done. c.args.keys.now.items ++ map key_of done) _ _ k c.loop-command.invariant
    c.in-Some.ensures.steps
    (λ done e. puts-next c.args.keys.now.items c.loop-command.keys.items c.push.new.self.items done k e
    (c.in_ok-push.ensures.items
    ∙ (λ i. c.loop-command.keys.items ++ (c.client.ensures i, c.seq.ensures i) ∷ [])))

pub returns : goal.returns
returns c =
    over-all _ _ (λ done. c.args.keys.now.items ++ map key_of done) _ c.loop-command.invariant
    c.in-None.ensures.steps.0
