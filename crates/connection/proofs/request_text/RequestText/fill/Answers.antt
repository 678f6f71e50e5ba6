use Rattle.std.proofs.Common.{arith}
use Rattle.definitions.proofs.RequestTexts.{length-canonical}
use Rattle.mc_lines.specs.Meaning.{asked_of}
use Rattle.connection.proofs.Devices.{appends_with_room}
use Rattle.connection.proofs.request_text.RequestText.fill.Goals as goal

pub unwrap-requires : goal.unwrap-requires
unwrap-requires c =
    appends_with_room _ _ _ c.write_request.result c.write_request.ensures
    (omega (
      arith,
      c.self.invariant,
      c.clear.ensures.len,
      c.clear.ensures.capacity,
      length-canonical (asked_of c.args.request.now) c.requires,
    ))
