-- A frame that is forged for a replica other than the one that it comes to. The headline's premise lets it pass, as nobody
-- relies on it there; that of healing doesn't.
use Rattle.ids.specs.declared.fault.Fault.TheVariants as fault
use Rattle.ids.specs.declared.kind.Kind.TheVariants as kind
use Rattle.std.specs.Prelude.{◌≡◌, ◌*◌, ◌++◌, replicate}
use Rattle.definitions.specs.Admission.{rejected, check}
use Rattle.definitions.specs.Digests.{digest_of}
use Rattle.definitions.specs.Frames.{Frame, Vote}
use Rattle.definitions.specs.Frames as frame
use Rattle.definitions.specs.Keyrings.{tag_for}
use Rattle.definitions.specs.Tags.{tag_len}
use Rattle.definitions.specs.Worlds.{self_of}
use Rattle.recovery.specs.Inventions.{ForgesForNobody}
use Rattle.worked_examples.specs.Liar.{start}
use Rattle.worked_examples.specs.Runs.{ring, block1}

-- a vote in the name of replica 1, which is correct, before that voted; its tag for replica 2 alone is right
abbrev pub made_up : Vote
made_up = record {
  voter = 1;
  vector =
      replicate (2 * tag_len) 0 ++ tag_for (ring 1) kind.Vote 2 (digest_of block1) ++ replicate tag_len 0;
}

abbrev pub forged : Frame
forged = frame.vote (digest_of block1) made_up

-- replica 0 refuses it
abbrev pub IsRefused : Type 0
IsRefused = check (self_of start 0) forged ≡ rejected fault.BadTag

-- no run may invent it
abbrev pub IsForgedForOne : Type 0
IsForgedForOne = ForgesForNobody start forged → ⊥
