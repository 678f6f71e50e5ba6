use Rattle.audit.specs.Verdicts.{window_verdict_of}
use Rattle.window_files.specs.Judging.{files}
use Rattle.window_files.proofs.Leading.{tell_of_replicas}
use Rattle.window_files.proofs.judging.judge.Goals as goal

pub returns-in-Some-clause-replicas : goal.returns-in-Some-clause-replicas
returns-in-Some-clause-replicas c = λ ks are.
    tell_of_replicas (files c.args.windows.now) ks (window_verdict_of c.compare.result) are c.compare.ensures
