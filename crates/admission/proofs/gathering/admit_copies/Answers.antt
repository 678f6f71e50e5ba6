use Rattle.std.proofs.Common.{Some, None, sym, subst}
use Rattle.frames_view.specs.Views.{frame_of}
use Rattle.admission.specs.Gathering.{HasGathered}
use Rattle.admission.proofs.Together.{keyed, one_more, no_more, gathered}
use Rattle.admission.proofs.gathering.admit_copies.Goals as goal
use Rattle.admission.proofs.gathering.admit_copies.Goals.{in-Ok, in_default}

pub add-gathering-requires-clause-keyed : goal.add-gathering-requires-clause-keyed
add-gathering-requires-clause-keyed c = keyed _ _ _ c.loop-bytes.invariant

pub loop-bytes-preserved : goal.loop-bytes-preserved
loop-bytes-preserved c =
    let keys = c.args.keyring.now in
    elim c.match-read.branch [
      | in-Ok w ↦ subst (HasGathered keys _) (sym w.gathering-is)
          (one_more keys _ c.args.frames.now _ _ (Some (frame_of w.in-Ok.frame)) c.loop-bytes.gathering _
          c.config-config.ensures c.loop-bytes-test.true c.loop-bytes.invariant
          w.in-Ok.ensures.value w.add-gathering.ensures)
      | in_default w ↦ subst (HasGathered keys _) (sym w.gathering-is)
          (one_more keys _ c.args.frames.now _ _ None c.loop-bytes.gathering _
          c.config-config.ensures c.loop-bytes-test.true c.loop-bytes.invariant
          w.in_default.ensures.value (no_more keys c.loop-bytes.gathering))
    ]

pub returns-in-Nothing-clause-admitted : goal.returns-in-Nothing-clause-admitted
returns-in-Nothing-clause-admitted c =
    gathered _ _ _ _ c.loop-bytes-test.false (subst (HasGathered _ _) c.in-Nothing.is c.loop-bytes.invariant)

pub returns-in-Together-clause-admitted : goal.returns-in-Together-clause-admitted
returns-in-Together-clause-admitted c =
    gathered _ _ _ _ c.loop-bytes-test.false (subst (HasGathered _ _) c.in-Together.is c.loop-bytes.invariant)

pub returns-in-Refused-clause-admitted : goal.returns-in-Refused-clause-admitted
returns-in-Refused-clause-admitted c =
    gathered _ _ _ _ c.loop-bytes-test.false (subst (HasGathered _ _) c.in-Refused.is c.loop-bytes.invariant)
