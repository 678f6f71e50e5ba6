use Rattle.std.proofs.Common.{◌≡◌, ◌∙◌, ◌<◌, ap, sym, refl, true, false, arith}
use Rattle.asking.specs.Asking.{Asking, is_for, is_wanted}
use Rattle.asking.proofs.Bounds.{why-full, why-none}
use Rattle.asking.proofs.Changing.{found-any, none-found}
use Rattle.asking.proofs.questions.Questions.place_to_keep.Goals as goal

pub returns-in_default-clause-refused : goal.returns-in_default-clause-refused
returns-in_default-clause-refused c =
    let none : is_wanted c.args.block.now c.args.self.now.questions ≡ false =
    none-found (is_for c.args.block.now) c.args.self.now.questions (sym c.place_of.ensures ∙ c.in_default.is) in
    rw none refl

pub returns-then-not-fits-clause-refused : goal.returns-then-not-fits-clause-refused
returns-then-not-fits-clause-refused c =
    let n : c.self.inside.replicas ≡ c.args.self.now.replicas = ap (λ (a : Asking). a.replicas) c.self.view_is in
    let s : c.sender.inside.0 ≡ c.args.sender = c.sender.view_is in
    let l : c.args.sender < c.args.self.now.replicas = omega (arith, c.if-sender-self.false, n, s) in
    let wanted : is_wanted c.args.block.now c.args.self.now.questions ≡ true = found-any
    (is_for c.args.block.now) c.args.self.now.questions c.in-Some.place (sym c.in-Some.ensures) in
    rw (why-full c.args.self.now c.args.block.now c.args.sender c.args.bytes wanted l
    (sym c.fits.ensures ∙ c.if-not-fits.true)) refl

pub returns-clause-refused : goal.returns-clause-refused
returns-clause-refused c =
    let n : c.self.inside.replicas ≡ c.args.self.now.replicas = ap (λ (a : Asking). a.replicas) c.self.view_is in
    let s : c.sender.inside.0 ≡ c.args.sender = c.sender.view_is in
    let l : c.args.sender < c.args.self.now.replicas = omega (arith, c.if-sender-self.false, n, s) in
    let wanted : is_wanted c.args.block.now c.args.self.now.questions ≡ true = found-any
    (is_for c.args.block.now) c.args.self.now.questions c.in-Some.place (sym c.in-Some.ensures) in
    rw (why-none c.args.self.now c.args.block.now c.args.sender c.args.bytes wanted l
    (sym c.fits.ensures ∙ c.if-not-fits.false)) refl
