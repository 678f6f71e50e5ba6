use Rattle.std.proofs.Common.{length, drop, arith, sym, ap, ◌∙◌}
use Rattle.std.specs.List.{flat_map}
use Rattle.definitions.specs.Frames.{Core, command_bytes}
use Rattle.frames_view.specs.Readings.{elements}
use Rattle.frames_view.specs.Parts.{command_in}
use Rattle.frames_view.proofs.Cores.{behind_head, has_head}
use Rattle.frames_view.proofs.core_buf.CoreBuf.view.Goals as goal

pub from-requires : goal.from-requires
from-requires c =
    let k = c.self.inside in
    let kept : Core = record {
      parent = k.parent;
      height = k.height;
      justify_height = k.justify_height;
      commands = elements (command_in k.replicas k.clients) k.count (drop 49 k.raw.items);
    } in
    omega (
      arith,
      has_head kept c.self.invariant.0,
      ap length (c.as_slice-raw.ensures.value ∙ c.self.invariant.3),
    )

pub invariant_of-fields : goal.invariant_of-fields
invariant_of-fields c =
    let k = c.self.inside in
    let kept : Core = record {
      parent = k.parent;
      height = k.height;
      justify_height = k.justify_height;
      commands = elements (command_in k.replicas k.clients) k.count (drop 49 k.raw.items);
    } in
    let raw = c.from.ensures.value ∙ ap (drop 49) c.as_slice-raw.ensures.value in
    let list = ap (elements (command_in k.replicas k.clients) k.count) raw in
    record {
      whole = c.self.invariant.0;
      below = c.self.invariant.2;
      counted = ap length list ∙ c.self.invariant.1;
      trimmed =
          raw
          ∙ (ap (drop 49) c.self.invariant.3
          ∙ (behind_head kept c.self.invariant.0 ∙ ap (flat_map command_bytes) (sym list)));
    }
