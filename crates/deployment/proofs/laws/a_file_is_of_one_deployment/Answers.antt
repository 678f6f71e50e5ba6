use Rattle.deployment.proofs.Only.{one_deployment}
use Rattle.deployment.proofs.laws.a_file_is_of_one_deployment.Goals as goal

pub returns : goal.returns
returns c = one_deployment
