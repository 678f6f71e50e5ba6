use Rattle.std.proofs.Common.{◌≡◌, ◌++◌, ◌∙◌, ap, drop, codes, decimal}
use Rattle.simulator.specs.Lines.{parties_text}
use Rattle.simulator.proofs.Fields.{parted, unparted}
use Rattle.simulator.proofs.Parties.{word_of_number}
use Rattle.simulator.proofs.lines.sizes_of.Goals as goal

pub returns-in_err-faults : goal.returns-in_err-faults
returns-in_err-faults c =
    let front = c.in_ok-fields.ensures.cases in
    let whole : c.args.words.now ≡ codes "world " ++ c.in_ok-fields.fields.now = rw front.2 front.1.1 in
    rw c.from_residual-in_err-faults.ensures (λ h fits spelled.
    unparted c.in_ok-fields.fields.now c.split_once.result c.split_once.ensures.cases c.in_err-faults.was
    h.faults fits.0 (decimal h.clients ++ parties_text h.faulty.items) (ap (drop 6) (spelled ∙ whole)))

pub returns-in_err-number_of : goal.returns-in_err-number_of
returns-in_err-number_of c =
    let front = c.in_ok-fields.ensures.cases in
    let whole : c.args.words.now ≡ codes "world " ++ c.in_ok-fields.fields.now = rw front.2 front.1.1 in
    rw c.from_residual-in_err-number_of.ensures (λ h fits spelled.
    let parts = parted c.in_ok-fields.fields.now c.split_once.result _ c.split_once.ensures.cases
    c.in_ok-faults.was h.faults fits.0 (decimal h.clients ++ parties_text h.faulty.items)
    (ap (drop 6) (spelled ∙ whole)) in
    c.in_err-number_of.ensures h.faults fits.0 parts.0)

pub returns-in_err-number_of-2 : goal.returns-in_err-number_of-2
returns-in_err-number_of-2 c =
    let front = c.in_ok-fields.ensures.cases in
    let whole : c.args.words.now ≡ codes "world " ++ c.in_ok-fields.fields.now = rw front.2 front.1.1 in
    rw c.from_residual-in_err-number_of-2.ensures (λ h fits spelled.
    let parts = parted c.in_ok-fields.fields.now c.split_once.result _ c.split_once.ensures.cases
    c.in_ok-faults.was h.faults fits.0 (decimal h.clients ++ parties_text h.faulty.items)
    (ap (drop 6) (spelled ∙ whole)) in
    let both = word_of_number _ _ _ c.cut_word.ensures h.clients fits.1 h.faulty.items parts.1 in
    c.in_err-number_of-2.ensures h.clients fits.1 both.0)
