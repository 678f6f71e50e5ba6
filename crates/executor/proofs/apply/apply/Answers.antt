use Rattle.std.proofs.Common.{◌≡◌, Some, None, IfOk, OnOk, sym, ap, ◌∙◌, subst, option_map}
use Rattle.definitions.specs.Canonical.{request_of}
use Rattle.definitions.specs.Cache.{Outcome}
use Rattle.definitions.specs.Replies.{reply_text}
use Rattle.mc_lines.specs.Meaning.{asked_of}
use Rattle.mc_lines.specs.declared.request.Request.{Request}
use Rattle.executor.proofs.Texts.{payload-asks, payload-asks_nothing, on_ok}
use Rattle.executor.proofs.apply.apply.Goals as goal

pub returns-in-Some-clause-left : goal.returns-in-Some-clause-left
returns-in-Some-clause-left c =
    let asks = sym c.read_canonical.ensures.value
    ∙ ap (option_map (λ (r : Request). asked_of r)) c.in-Some.is in
    subst (λ (o : Outcome). OnOk c.perform.result (c.perform.new.cache ≡ o.0))
    (sym (payload-asks c.args.cache.now _ _ asks)) c.perform.ensures.left

pub returns-in-Some-clause-told : goal.returns-in-Some-clause-told
returns-in-Some-clause-told c =
    let asks = sym c.read_canonical.ensures.value
    ∙ ap (option_map (λ (r : Request). asked_of r)) c.in-Some.is in
    subst (λ (o : Outcome). IfOk c.perform.result (λ t. t.told.items ≡ reply_text o.1))
    (sym (payload-asks c.args.cache.now _ _ asks)) c.perform.ensures.told

pub returns-in-Some-clause-kept : goal.returns-in-Some-clause-kept
returns-in-Some-clause-kept c =
    let asks = sym c.read_canonical.ensures.value
    ∙ ap (option_map (λ (r : Request). asked_of r)) c.in-Some.is in
    subst (λ (o : Outcome). IfOk c.perform.result (λ t. t.kept.items ≡ reply_text o.1))
    (sym (payload-asks c.args.cache.now _ _ asks)) c.perform.ensures.kept

pub returns-in-None-clause-left : goal.returns-in-None-clause-left
returns-in-None-clause-left c =
    let nothing = sym c.read_canonical.ensures.value
    ∙ ap (option_map (λ (r : Request). asked_of r)) c.in-None.is in
    on_ok _ (sym (ap (λ (o : Outcome). o.0) (payload-asks_nothing c.args.cache.now _ nothing)))

pub returns-in-None-clause-told : goal.returns-in-None-clause-told
returns-in-None-clause-told c =
    let nothing = sym c.read_canonical.ensures.value
    ∙ ap (option_map (λ (r : Request). asked_of r)) c.in-None.is in
    subst (λ (o : Outcome). IfOk c.texts_of.result (λ t. t.told.items ≡ reply_text o.1))
    (sym (payload-asks_nothing c.args.cache.now _ nothing)) c.texts_of.ensures.told

pub returns-in-None-clause-kept : goal.returns-in-None-clause-kept
returns-in-None-clause-kept c =
    let nothing = sym c.read_canonical.ensures.value
    ∙ ap (option_map (λ (r : Request). asked_of r)) c.in-None.is in
    subst (λ (o : Outcome). IfOk c.texts_of.result (λ t. t.kept.items ≡ reply_text o.1))
    (sym (payload-asks_nothing c.args.cache.now _ nothing)) c.texts_of.ensures.kept
