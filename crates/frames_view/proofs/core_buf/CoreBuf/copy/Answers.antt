use Rattle.std.proofs.Common.{◌≡◌, List, ℕ, length, drop, sym, ap, ◌∙◌}
use Rattle.frames_view.specs.Readings.{elements}
use Rattle.frames_view.specs.Parts.{command_in}
use Rattle.frames_view.specs.Cores.{core_of_fields}
use Rattle.definitions.specs.Frames.{Command, Core, core_bytes}
use Rattle.frames_view.proofs.Cores.{behind_head}
use Rattle.frames_view.proofs.core_buf.CoreBuf.copy.Goals as goal

pub invariant_of-result : goal.invariant_of-result
invariant_of-result c =
    let fields = c.args.core.now.fields in
    let raw = c.in_ok-to_vec.ensures.items_if_clones_equal (λ x y h. h) ∙ c.args.core.now.spelled in
    let same : drop 49 c.in_ok-to_vec.field-0.items ≡ fields.commands.now =
    ap (drop 49) raw ∙ behind_head (core_of_fields fields) fields.whole ∙ sym fields.trimmed in
    let list = ap (elements (command_in fields.replicas fields.clients) fields.count) same in (
      fields.whole,
      ap length list ∙ fields.counted,
      fields.below,
      raw
          ∙ ap (λ (cs : List Command). core_bytes (record {
            parent = fields.parent.now;
            height = fields.height;
            justify_height = fields.justify_height;
            commands = cs;
          })) (sym list),
    )

pub returns : goal.returns
returns c =
    let fields = c.args.core.now.fields in
    let raw = c.in_ok-to_vec.ensures.items_if_clones_equal (λ x y h. h) ∙ c.args.core.now.spelled in
    let same : drop 49 c.in_ok-to_vec.field-0.items ≡ fields.commands.now =
    ap (drop 49) raw ∙ behind_head (core_of_fields fields) fields.whole ∙ sym fields.trimmed in
    ap (λ (bytes : List ℕ). let k : Core =
    record {
      parent = fields.parent.now;
      height = fields.height;
      justify_height = fields.justify_height;
      commands = elements (command_in fields.replicas fields.clients) fields.count bytes;
    } in
    k) same
