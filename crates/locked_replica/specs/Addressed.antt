-- Whom a step is for, and what it does.
use Rattle.std.specs.Prelude.{◌≡◌, ◌&&◌, Bool, List, Result, IsErrOf, slice_set}
use Rattle.std.specs.Bool.{OnTrue, OnFalse}
use Rattle.ids.specs.declared.fault.Fault.{Fault}
use Rattle.ids.specs.declared.fault.Fault.TheVariants as fault
use Rattle.definitions.specs.Checks.{identity_of}
use Rattle.marks.specs.Eyes.{putting}
use Rattle.turns.specs.Shares.{ShareState, with_more_steps}
use Rattle.locked_replica.specs.Kept.{KeptState, is_own, gained, mark_of}
use Rattle.admission.specs.declared.input.Input.{Input}
use Rattle.admission.specs.Inputs.{input_of, is_addressed}
use Rattle.signed_frames.specs.Outs.{SentBytes}
use Rattle.replica.specs.Steps.{Stepped}

-- the input is for this replica, and the share its own
abbrev pub may_step : KeptState → ShareState → Input → Bool
may_step kept share input = is_addressed kept.keys input && is_own kept share

-- a step of the replica, which the share counts and the mark tells
pub record Makes (old : KeptState) (share : ShareState) (input : Input)
    (answer : Result (List SentBytes) Fault)
    (new : KeptState) (share' : ShareState) : Type 0 where
  pub stepped : Stepped (identity_of old.keys) (input_of input) old.replica answer new.replica
  pub count : share' ≡ with_more_steps share (gained old.replica new.replica)
  pub shares : new.shares ≡ slice_set old.shares share.number share'.count
  pub eye : new.eye ≡ putting old.eye old.keys.party (mark_of new.replica)

-- What a step with a share comes to: `NotMine` where the input is for another replica, else `NotAll` where
-- the share isn't the replica's own, and then nothing changes; else one step.
pub record KeptStep (old : KeptState) (share : ShareState) (input : Input)
    (answer : Result (List SentBytes) Fault) (new : KeptState) (share' : ShareState) : Type 0 where
  pub not_mine : OnFalse (is_addressed old.keys input) (IsErrOf answer fault.NotMine)
  pub not_all :
      OnTrue (is_addressed old.keys input) (OnFalse (is_own old share) (IsErrOf answer fault.NotAll))
  pub unchanged : OnFalse (may_step old share input) (new ≡ old)
  pub same_share : OnFalse (may_step old share input) (share' ≡ share)
  pub makes : OnTrue (may_step old share input) (Makes old share input answer new share')
  pub keys : new.keys ≡ old.keys
