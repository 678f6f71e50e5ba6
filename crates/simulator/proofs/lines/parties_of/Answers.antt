use Rattle.std.proofs.Common.{◌≡◌, ◌++◌, ◌∙◌, ap, sym, refl, nat_eq, true, false, [], ◌∷◌}
use Rattle.std.specs.List.{IsDistinct, list_any}
use Rattle.std.proofs.lemmas.List.Elements.{All-nil}
use Rattle.simulator.specs.Texts.{IsBelow, party_text}
use Rattle.simulator.specs.Lines.{AreParties}
use Rattle.simulator.proofs.Parties.{first_party, same_party, twice, once_more, more_spelled, then_more}
use Rattle.simulator.proofs.Readings.{unread_plain}
use Rattle.simulator.proofs.lines.parties_of.Goals as goal

pub loop-left-init : goal.loop-left-init
unfolding IsDistinct
loop-left-init c = rw c.new-parties.ensures.items
    record { fit = (All-nil (IsBelow 512), tt); spell = refl; only = λ ps are e. (ps, refl, are.0, e) }

pub returns-in_default-party_of : goal.returns-in_default-party_of
returns-in_default-party_of c = λ v are spelled.
    let more = c.loop-left.invariant.only v.items are spelled in
    let first =
    first_party c.in-Some.fields.now _ _ c.cut_word.ensures more.0 more.2 (rw c.in-Some.is at more.3) in
    unread_plain party_text (IsBelow 512) _ c.party_of.result c.in_default-party_of.not-Some
    c.party_of.ensures first.0 first.2.small first.2.spells

pub returns-then-contains : goal.returns-then-contains
returns-then-contains c = λ v are spelled.
    let more = c.loop-left.invariant.only v.items are spelled in
    let first =
    first_party c.in-Some.fields.now _ _ c.cut_word.ensures more.0 more.2 (rw c.in-Some.is at more.3) in
    let party = c.in-Some-party_of.ensures in
    let same =
    same_party first.0 c.in-Some-party_of.party first.2.small party.0 (first.2.spells ∙ sym party.1) in
    let found : list_any (λ q. nat_eq q c.in-Some-party_of.party) c.loop-left.parties.items ≡ true =
    ap (list_any (λ q. nat_eq q c.in-Some-party_of.party)) (sym c.deref.ensures.value)
    ∙ sym c.contains.ensures.value ∙ c.if-contains.true in
    twice c.loop-left.parties.items first.1 c.in-Some-party_of.party found
    (rw (more.1, first.2.are, same) at are.1)

pub loop-left-preserved : goal.loop-left-preserved
loop-left-preserved c =
    let party = c.in-Some-party_of.ensures in
    let absent : list_any (λ q. nat_eq q c.in-Some-party_of.party) c.loop-left.parties.items ≡ false =
    ap (list_any (λ q. nat_eq q c.in-Some-party_of.party)) (sym c.deref.ensures.value)
    ∙ sym c.contains.ensures.value ∙ c.if-contains.false in
    let fit : AreParties (c.loop-left.parties.items ++ c.in-Some-party_of.party ∷ []) =
    once_more c.loop-left.parties.items c.in-Some-party_of.party c.loop-left.invariant.fit party.0 absent in
    rw c.in_ok-push.ensures.items record {
      fit = fit;
      spell = more_spelled c.loop-left.parties.items c.in-Some-party_of.party _ c.in-Some.fields.now _ _
          c.cut_word.ensures party.1 (rw c.in-Some.is at c.loop-left.invariant.spell);
      only = λ ps are spelled.
          let more = c.loop-left.invariant.only ps are spelled in
          let first = first_party c.in-Some.fields.now _ _ c.cut_word.ensures more.0 more.2
          (rw c.in-Some.is at more.3) in
          let same = same_party first.0 c.in-Some-party_of.party first.2.small party.0
          (first.2.spells ∙ sym party.1) in (
            first.1,
            then_more ps c.loop-left.parties.items more.0 first.1 c.in-Some-party_of.party first.0 more.1
                first.2.are same,
            first.2.others_small,
            first.2.behind,
          );
    }
