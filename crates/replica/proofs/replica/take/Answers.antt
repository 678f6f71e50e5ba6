use Rattle.std.proofs.Common.{Ok, Err, refl}
use Rattle.std.proofs.lemmas.Result.{err_from_is_err_and}
use Rattle.ids.specs.declared.fault.Fault.TheVariants as fault
use Rattle.definitions.specs.Checks.{identity_of}
use Rattle.definitions.specs.Rulings.{ruling}
use Rattle.admission.specs.Inputs.{input_of}
use Rattle.replica.proofs.Steps.{committed}
use Rattle.replica.proofs.Advancing.{state-going}
use Rattle.replica.proofs.replica.take.Goals as goal

pub returns-clause-steps : goal.returns-clause-steps
returns-clause-steps g c c' o =
    let keys = c.args.keyring.now in
    committed keys (ruling (identity_of keys) (input_of c.args.input) c') c' c.in_ok-change.change
    c.args.state.now c.commit.new.self (Ok c.in_ok-out.out) (c.in_ok-change.ensures.decided c' o)
    (state-going keys c' c.args.state.now c.args.executor.now.history o)
    c.in_ok-out.ensures.made c.in_ok-out.ensures.out tt tt

pub returns-in_err-out-clause-steps : goal.returns-in_err-out-clause-steps
returns-in_err-out-clause-steps g c c' o =
    let keys = c.args.keyring.now in
    let p = err_from_is_err_and c.from_residual-in_err-out.result c.from_residual-in_err-out.ensures.1 in
    rw (p.1, p.2)
    (committed keys (ruling (identity_of keys) (input_of c.args.input) c') c' c.in_ok-change.change
    c.args.state.now c.commit.new.self (Err fault.Memory) (c.in_ok-change.ensures.decided c' o)
    (state-going keys c' c.args.state.now c.args.executor.now.history o)
    tt tt c.in_err-out.ensures.unchanged refl)
