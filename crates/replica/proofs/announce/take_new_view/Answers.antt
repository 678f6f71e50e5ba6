use Rattle.std.proofs.Common.{◌≡◌, [], ◌∷◌, cond, nat_lt, sym, ap, ◌∙◌, subst, Some}
use Rattle.std.specs.Option.{unwrap_or}
use Rattle.definitions.specs.Frames.{Certificate}
use Rattle.definitions.specs.FrameLimits.{IsCertificate}
use Rattle.definitions.specs.Chronicles.{Note, Step.noted, Note.got_new_view}
use Rattle.pacemaker.specs.Pacing.{Pace, IsPaceOf}
use Rattle.frames_view.specs.Views.{new_view_of}
use Rattle.frames_view.specs.Fields.{frame_certificate}
use Rattle.replica.specs.Changes.{noting, raise_of, leaf_after}
use Rattle.replica.specs.Kept.{StateParts}
use Rattle.replica.specs.Announcements.{new_view_sent}
use Rattle.replica.specs.declared.change.Change.{Change}
use Rattle.replica.specs.declared.state.High.{High}
use Rattle.replica.specs.declared.stored.StoredStep.TheVariants.{GotNewView}
use Rattle.replica.proofs.Announcements.{moved-is}
use Rattle.replica.proofs.Sized.{raise-sized}
use Rattle.replica.proofs.announce.take_new_view.Goals as goal

pub announcement_if-requires : goal.announcement_if-requires
announcement_if-requires c =
    let sizes = c.args.keyring.now.sizes in
    let v = c.args.state.now.variables in
    let q : Certificate = frame_certificate (new_view_of c.args.announced.now) in
    let high : c.state.inside.high ≡ v.high = ap (λ (k : StateParts). k.variables.high) c.state.view_is in
    let raised : c.in_ok-high.high ≡ raise_of (record { block = c.args.block; certificate = q }) v.high =
    c.in_ok-high.ensures
    ∙ (λ i. raise_of (record { block = c.args.block; certificate = c.certificate.ensures.value i })
    (high i)) in
    record {
      certificate = subst (λ (h : High). IsCertificate sizes h.certificate)
          (sym (c.high_after-highest.ensures ∙ (λ i. unwrap_or (raised i) (high i))))
          (raise-sized sizes (record { block = c.args.block; certificate = q }) v.high c.requires.certificate
          c.requires.certified.high);
    }

pub returns-clause-made : goal.returns-clause-made
returns-clause-made c =
    let keys = c.args.keyring.now in
    let v = c.args.state.now.variables in
    let frame = new_view_of c.args.announced.now in
    let new = c.on_new_view-moved.new.self in
    let pace : c.state.inside.pace ≡ c.args.state.now.pace =
    ap (λ (k : StateParts). k.pace) c.state.view_is in
    let high : c.state.inside.high ≡ v.high = ap (λ (k : StateParts). k.variables.high) c.state.view_is in
    let raised : c.in_ok-high.high
    ≡ raise_of (record { block = c.args.block; certificate = frame_certificate frame }) v.high =
    c.in_ok-high.ensures
    ∙ (λ i. raise_of (record { block = c.args.block; certificate = c.certificate.ensures.value i })
    (high i)) in
    let certificate : c.in_ok-certificate.certificate ≡ frame_certificate frame =
    c.in_ok-certificate.ensures ∙ c.certificate-2.ensures.value in
    let moved : c.on_new_view-moved.result ≡ nat_lt c.args.state.now.pace.view new.view =
    moved-is _ _ _ c.on_new_view-moved.ensures.moved ∙ ap (λ (p : Pace). nat_lt p.view new.view) pace in
    let highest = c.high_after-highest.ensures ∙ (λ i. unwrap_or (raised i) (high i)) in
    let out =
    c.in_ok-out.ensures.made
    ∙ (λ i. cond (moved i) (new_view_sent keys (c.view.ensures i) (highest i).certificate ∷ []) []) in
    let leaf = c.leaf_after-leaf.ensures ∙ (λ i. leaf_after (raised i) (high i) (c.state.view_is i).variables.leaf) in
    record {
      pace = new;
      its_pace = record {
        sizes = c.on_new_view-moved.ensures.sizes ∙ ap (λ (p : Pace). p.sizes) pace;
        paced = λ ch n e h.
            let named : got_new_view c.view-view.result c.sender-sender.result e.0 e.1 ≡ n =
            (λ i. got_new_view (c.view-view.ensures i) (c.sender-sender.ensures i) e.0 e.1) ∙ sym e.2 in
            subst (λ (x : Note). IsPaceOf (noted x ∷ ch) new) named
            (c.on_new_view-moved.ensures.paced ch e.0 e.1 (subst (IsPaceOf ch) (sym pace) h));
      };
      change = ap (λ (d : Change). record d
          { high = c.in_ok-high.high; leaf = c.leaf_after-leaf.result; pace = Some new }) c.noting.ensures
          ∙ (λ i. record (noting v (GotNewView (record {
            view = c.view-view.ensures i;
            sender = c.sender-sender.ensures i;
            certificate = certificate i;
          })) (out i))
          { high = raised i; leaf = leaf i; pace = Some new });
    }
