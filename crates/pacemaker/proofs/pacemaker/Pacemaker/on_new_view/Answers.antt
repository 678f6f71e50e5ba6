use Rattle.std.proofs.Common.{◌≡◌, ◌≤◌, ℕ, [], max, refl, ap, ◌∙◌, arith}
use Rattle.ids.specs.Sizes.{replicas}
use Rattle.ids.specs.declared.limits.TheConstants.{MOST_REPLICAS}
use Rattle.pacemaker.specs.Pacing.{Pace}
use Rattle.pacemaker.proofs.Reached.{paced-next, paced-seen, with_announced}
use Rattle.pacemaker.proofs.pacemaker.Pacemaker.on_new_view.Goals as goal

pub returns-then-moves-clause-paced : goal.returns-then-moves-clause-paced
returns-then-moves-clause-paced c c' q b o =
    let most : replicas c.args.self.now.sizes ≤ MOST_REPLICAS =
    omega (arith, c.n-n.ensures.count, c.n-n.ensures.most, ap (λ (p : Pace). replicas p.sizes) c.self.view_is)
    in
    let greater : c.reached-reached.result ≡ max c.note.new.self.view c.reached-reached.result =
    omega (arith, c.if-moves.true, ap (λ (p : Pace). p.view) c.self-2.view_is) in
    paced-next c.args.self.now c.note.new.self c.go_to.new.self c' c.args.view c.args.sender _
    c.reached-reached.result q b o c.requires most
    (c.note.ensures ∙ ap (λ (w : ℕ). with_announced c.args.self.now w c.args.sender) c.view.view_is)
    c.reached-reached.ensures c.go_to.ensures greater

pub returns-else-moves-clause-paced : goal.returns-else-moves-clause-paced
returns-else-moves-clause-paced c c' q b o =
    let most : replicas c.args.self.now.sizes ≤ MOST_REPLICAS =
    omega (arith, c.n-n.ensures.count, c.n-n.ensures.most, ap (λ (p : Pace). replicas p.sizes) c.self.view_is)
    in
    let greater : c.note.new.self.view ≡ max c.note.new.self.view c.reached-reached.result =
    omega (arith, c.if-moves.false, ap (λ (p : Pace). p.view) c.self-2.view_is) in
    paced-next c.args.self.now c.note.new.self c.note.new.self c' c.args.view c.args.sender
    c.note.new.self.view c.reached-reached.result q b o c.requires most
    (c.note.ensures ∙ ap (λ (w : ℕ). with_announced c.args.self.now w c.args.sender) c.view.view_is)
    c.reached-reached.ensures refl greater

pub returns-then-moves-clause-seen : goal.returns-then-moves-clause-seen
returns-then-moves-clause-seen c c' o =
    paced-seen c' _ c.args.view c.args.sender (record { digest = []; votes = [] }) []
    (returns-then-moves-clause-paced c c' (record { digest = []; votes = [] }) [] o)

pub returns-else-moves-clause-seen : goal.returns-else-moves-clause-seen
returns-else-moves-clause-seen c c' o =
    paced-seen c' _ c.args.view c.args.sender (record { digest = []; votes = [] }) []
    (returns-else-moves-clause-paced c c' (record { digest = []; votes = [] }) [] o)
