use Rattle.std.proofs.Common.{ap, ◌≡◌, ◌∙◌, []}
use Rattle.definitions.specs.Frames.{Certificate, Core, certificate_bytes, core_bytes}
use Rattle.frames_view.specs.Views.{certificate_of, core_of}
use Rattle.liars.specs.Lies.{other_core}
use Rattle.liars.proofs.answers.with_other_core.Goals as goal

pub returns-clause-made : goal.returns-clause-made
returns-clause-made c =
    let made : c.in_ok-other.other.items ≡ core_bytes (other_core (core_of c.core-core.result)) =
    c.in_ok-other.ensures.made
    ∙ (λ i. core_bytes (record {
      parent = c.digest.ensures i;
      height = c.height.ensures i;
      justify_height = c.justify_height.ensures i;
      commands = [];
    })) in
    c.answer.ensures.made (other_core (core_of c.args.view.now.core)) (certificate_of c.args.view.now.certificate)
    (c.deref.ensures.value ∙ made ∙ ap (λ (k : Core). core_bytes (other_core k)) c.core-core.ensures.value)
    (c.deref-2.ensures.value ∙ c.in_ok-certificate.ensures.made
    ∙ ap (λ (q : Certificate). certificate_bytes q) c.certificate.ensures.value)
