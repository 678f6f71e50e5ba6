-- The clauses of a kept replica's step, as one fact.
use Rattle.std.proofs.Common.{◌≡◌, Bool, true, false, List, Result}
use Rattle.std.specs.Prelude.{IsErrOf, slice_set}
use Rattle.std.specs.Bool.{OnTrue, OnFalse}
use Rattle.ids.specs.declared.fault.Fault.{Fault}
use Rattle.ids.specs.declared.fault.Fault.TheVariants as fault
use Rattle.definitions.specs.Checks.{identity_of}
use Rattle.marks.specs.Eyes.{putting}
use Rattle.turns.specs.Shares.{ShareState, with_more_steps}
use Rattle.locked_replica.specs.Kept.{KeptState, is_own, gained, mark_of}
use Rattle.locked_replica.specs.Addressed.{may_step, KeptStep}
use Rattle.admission.specs.declared.input.Input.{Input}
use Rattle.admission.specs.Inputs.{input_of, is_addressed}
use Rattle.signed_frames.specs.Outs.{SentBytes}
use Rattle.replica.specs.Steps.{Stepped}

-- four facts of one case
four : {A B C D E : Type 0} (b : Bool) → (A → B → C → D → E) → OnTrue b A → OnTrue b B → OnTrue b C
    → OnTrue b D → OnTrue b E
four true f x y z w = f x y z w
four false f x y z w = tt

pub kept_step :
    (old : KeptState) (share : ShareState) (input : Input) (answer : Result (List SentBytes) Fault)
    (new : KeptState) (share' : ShareState)
    → OnFalse (is_addressed old.keys input) (IsErrOf answer fault.NotMine)
    → OnTrue (is_addressed old.keys input) (OnFalse (is_own old share) (IsErrOf answer fault.NotAll))
    → OnFalse (may_step old share input) (new ≡ old)
    → OnFalse (may_step old share input) (share' ≡ share)
    → OnTrue (may_step old share input)
    (Stepped (identity_of old.keys) (input_of input) old.replica answer new.replica)
    → OnTrue (may_step old share input) (share' ≡ with_more_steps share (gained old.replica new.replica))
    → OnTrue (may_step old share input) (new.shares ≡ slice_set old.shares share.number share'.count)
    → OnTrue (may_step old share input) (new.eye ≡ putting old.eye old.keys.party (mark_of new.replica))
    → new.keys ≡ old.keys
    → KeptStep old share input answer new share'
kept_step old share input answer new share' mine all same same_share stepped count shares eye keys = record {
  not_mine = mine;
  not_all = all;
  unchanged = same;
  same_share = same_share;
  makes = four (may_step old share input)
      (λ s c h e. record { stepped = s; count = c; shares = h; eye = e }) stepped count shares eye;
  keys = keys;
}
