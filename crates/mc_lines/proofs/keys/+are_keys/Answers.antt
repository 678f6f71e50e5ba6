use Rattle.std.proofs.Common.{arith, sym, ◌∙◌}
use Rattle.mc_lines.proofs.Parts.{keys_pass-parts, keys_pass-other}
use Rattle.mc_lines.proofs.keys.+are_keys.Goals as goal

pub returns-in-Some : goal.returns-in-Some
returns-in-Some t c =
    c.are_keys.ensures
    ∙ keys_pass-parts c.args.most c.args.text.now c.cut.result.0.now c.in-Some.rest.now (omega arith) (cc)
    (cc)

pub returns-then-not-is_key : goal.returns-then-not-is_key
returns-then-not-is_key t c =
    keys_pass-other c.args.most c.args.text.now c.cut.result.0.now _ (omega arith) c.cut.ensures.fields
    (sym c.is_key.ensures ∙ c.if-not-is_key.true)
