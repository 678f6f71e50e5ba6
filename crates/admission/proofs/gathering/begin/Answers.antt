use Rattle.admission.proofs.Together.{begun_well, begun_badly, begins_otherwise}
use Rattle.admission.proofs.gathering.begin.Goals as goal

pub returns-in-Ok : goal.returns-in-Ok
returns-in-Ok c =
    begun_well c.args.keyring.now _ c.in-Block.view c.in-Ok.first _ c.in-Block.is c.in-Ok.ensures c.new.ensures

pub returns-in-Err : goal.returns-in-Err
returns-in-Err c = begun_badly c.args.keyring.now _ c.in-Block.view _ c.in-Block.is c.in-Err.ensures

pub returns-in_default : goal.returns-in_default
returns-in_default c = begins_otherwise _ _ c.in_default.not-Block
