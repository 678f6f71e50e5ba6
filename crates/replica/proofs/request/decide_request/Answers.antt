use Rattle.std.proofs.Common.{◌≡◌, ◌∙◌, true, false, arith, sym, ap, subst}
use Rattle.std.proofs.lemmas.Bool.{lt-ltb, le-ltb}
use Rattle.definitions.specs.Histories.{last_seq}
use Rattle.definitions.specs.States.{is_due}
use Rattle.frames_view.specs.Views.{command_of}
use Rattle.replica.specs.Requests.{old_change, IsRequestedIf}
use Rattle.replica.proofs.Steps.{or-memory}
use Rattle.replica.proofs.request.decide_request.Goals as goal

pub returns-then-last_seq-seq : goal.returns-then-last_seq-seq
unfolding is_due
returns-then-last_seq-seq c =
    let r = command_of c.args.request.now in
    let h = c.args.executor.now.history in
    let due : is_due h r ≡ true =
    lt-ltb (last_seq r.client h) r.seq (omega (
      arith,
      c.if-last_seq-seq.true,
      c.last_seq-2.view_is,
      c.seq-2.view_is,
      c.last_seq.ensures ∙ ap (λ k. last_seq k h) c.client.ensures,
      c.seq.ensures,
    )) in
    subst (IsRequestedIf c.args.keyring.now c.args.state.now h r c.wait.result) (sym due) c.wait.ensures

pub returns-else-last_seq-seq : goal.returns-else-last_seq-seq
unfolding is_due
returns-else-last_seq-seq c =
    let r = command_of c.args.request.now in
    let h = c.args.executor.now.history in
    let late : is_due h r ≡ false =
    le-ltb (last_seq r.client h) r.seq (omega (
      arith,
      c.if-last_seq-seq.false,
      c.last_seq-2.view_is,
      c.seq-2.view_is,
      c.last_seq.ensures ∙ ap (λ k. last_seq k h) c.client.ensures,
      c.seq.ensures,
    )) in
    subst (IsRequestedIf c.args.keyring.now c.args.state.now h r c.repeat.result) (sym late)
    (or-memory c.repeat.result (λ d. d ≡ old_change c.args.keyring.now c.args.state.now h r) c.repeat.ensures.made
    c.repeat.ensures.memory)
