use Rattle.std.proofs.Common.{rules, ◌≡◌, ◌++◌, ap, ◌∙◌, subst, map}
use Rattle.std.specs.List.{range_with_len}
use Rattle.ids.specs.Numbers.{kind_number}
use Rattle.ids.specs.declared.kind.Kind.TheVariants as kind
use Rattle.definitions.specs.Bytes.{Bytes}
use Rattle.definitions.specs.Frames.{Certificate, core_bytes, certificate_bytes, proposal_text, frame_text}
use Rattle.definitions.specs.Keyrings.{keyring_of, vector_for}
use Rattle.definitions.specs.Sendings.{to_all}
use Rattle.frames_view.specs.Views.{core_of, certificate_of}
use Rattle.signed_frames.specs.Outs.{sent_of}
use Rattle.signed_frames.specs.declared.out.To.TheVariants as to
use Rattle.signed_frames.specs.declared.out.Sending.{Sending}
use Rattle.liars.specs.declared.climb.TheConstants.{CLIMB}
use Rattle.liars.specs.Lies.{climbing, climb_to_all}
use Rattle.liars.proofs.Sent.{one_more}
use Rattle.liars.proofs.climb.climb.Goals as goal

pub loop-init : goal.loop-init
unfolding climbing
loop-init c = (search rules, search rules, search rules)

pub loop-preserved : goal.loop-preserved
unfolding climbing
loop-preserved c =
    let ring = c.args.keyring.now in
    let core = core_of c.args.view.now.core in
    let q = certificate_of c.args.view.now.certificate in
    let own : c.deref.result.now ≡ core_bytes (climbing core c.loop.counter) =
    c.deref.ensures.value ∙ c.loop.invariant.2 in
    let certificate : c.deref-in-loop.result.now ≡ certificate_bytes q =
    c.deref-in-loop.ensures.value ∙ (c.in_ok-write.ensures.appended
    ∙ (ap (λ (b : Bytes). b ++ certificate_bytes (certificate_of c.certificate.result))
    c.new-certificate.ensures.items
    ∙ ap (λ (x : Certificate). certificate_bytes x) c.certificate.ensures.value)) in
    let text : Bytes → Bytes = λ content. frame_text (kind_number kind.Proposal) content
    (vector_for ring.sizes (keyring_of ring) kind.Proposal content) in
    let made : c.in_ok-frame.frame.items
    ≡ text (proposal_text c.args.view.now.view (core_bytes (climbing core c.loop.counter)) (certificate_bytes q)) =
    c.in_ok-frame.ensures.made ∙ (λ i. text (proposal_text (c.view.ensures i) (own i) (certificate i))) in
    let sending : Sending = record { to = to.All; kind = kind.Proposal; frame = c.in_ok-frame.frame } in (
      one_more (climb_to_all ring c.args.view.now.view core q) c.loop.out.items c.push.new.self.items c.loop.counter
          sending c.loop.invariant.0 c.in_ok-push.ensures.items (λ i. (to_all, kind.Proposal, made i)),
      search rules,
      search rules,
    )

pub returns-clause-made : goal.returns-clause-made
returns-clause-made c =
    let all : c.loop.counter ≡ CLIMB = search rules in
    subst (λ n. map sent_of c.loop.out.items ≡ map (climb_to_all c.args.keyring.now c.args.view.now.view
    (core_of c.args.view.now.core) (certificate_of c.args.view.now.certificate)) (range_with_len 0 n)) all
    c.loop.invariant.0
