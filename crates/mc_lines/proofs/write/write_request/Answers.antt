use Rattle.std.proofs.Common.{sym, ap, subst, ◌∙◌}
use Rattle.std.specs.Prelude.{codes}
use Rattle.definitions.specs.Bytes.{Bytes}
use Rattle.definitions.specs.Requests.{canonical}
use Rattle.mc_lines.specs.declared.request.Request.{Request}
use Rattle.mc_lines.specs.Meaning.{asked_of}
use Rattle.definitions.specs.Writing.{IsAppended}
use Rattle.mc_lines.proofs.WriteLaws.{retrieval_text}
use Rattle.mc_lines.proofs.write.write_request.Goals as goal

pub returns-in-Get : goal.returns-in-Get
returns-in-Get c =
    subst (λ (t : Bytes). IsAppended c.args.out.now c.write_line.new.out t c.write_line.result)
    (retrieval_text (codes "get") c.in-Get.keys.text.now
    ∙ ap (λ (r : Request). canonical (asked_of r)) (sym c.in-Get.is)) c.write_line.ensures

pub returns-in-Gets : goal.returns-in-Gets
returns-in-Gets c =
    subst
    (λ (t : Bytes). IsAppended c.args.out.now c.write_line-in-Gets.new.out t c.write_line-in-Gets.result)
    (retrieval_text (codes "gets") c.in-Gets.keys.text.now
    ∙ ap (λ (r : Request). canonical (asked_of r)) (sym c.in-Gets.is)) c.write_line-in-Gets.ensures
