use Rattle.std.proofs.Common.{List, sym, ap, subst, ◌++◌, ◌∙◌}
use Rattle.std.specs.Prelude.{codes}
use Rattle.definitions.specs.Bytes.{Bytes}
use Rattle.definitions.specs.Replies.{ended, reply_text}
use Rattle.mc_lines.specs.declared.reply.Reply.{Reply}
use Rattle.mc_lines.specs.declared.reply.Value.{Value}
use Rattle.mc_lines.specs.Meaning.{reply_of}
use Rattle.definitions.specs.Writing.{IsAppended}
use Rattle.mc_lines.specs.Writing.{values_text}
use Rattle.mc_lines.proofs.WriteLaws.{reply_of_values}
use Rattle.mc_lines.proofs.write.write_reply.Goals as goal

pub returns-in-Values : goal.returns-in-Values
returns-in-Values c =
    subst (λ (t : Bytes). IsAppended c.args.out.now c.write_values.new.out t c.write_values.result)
    (ap (λ (vs : List Value). values_text c.in-Values.with_cas_unique vs ++ ended (codes "END"))
    c.deref.ensures.value
    ∙ reply_of_values c.in-Values.values.items c.in-Values.with_cas_unique
    ∙ ap (λ (r : Reply). reply_text (reply_of r)) (sym c.in-Values.is)) c.write_values.ensures
