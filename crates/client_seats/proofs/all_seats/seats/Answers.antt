use Rattle.std.proofs.Common.{rules, arith, ◌≡◌, ◌+◌, Bool, map, ap, ◌∙◌, refl, inl, inr, Err}
use Rattle.std.proofs.lemmas.Result.{IfOk-weaker, err_from_is_err_and, on_err_weaker}
use Rattle.std.specs.List.{range_with_len}
use Rattle.ids.specs.declared.fault.Fault.TheVariants.{Memory, NoSuchParty}
use Rattle.client_accept.specs.Sessions.{Held}
use Rattle.ids.specs.Sizes.{Sizes, client_party}
use Rattle.definitions.specs.Keyrings.{Keys}
use Rattle.key_file.specs.KeyFile.{keys_of_party}
use Rattle.client_seats.specs.Seating.{seated, session_of, sits}
use Rattle.client_seats.proofs.Numbers.{seen_more}
use Rattle.client_seats.proofs.all_seats.seats.Goals as goal

pub returns-in_err-seated-clause-refused : goal.returns-in_err-seated-clause-refused
returns-in_err-seated-clause-refused g c =
    let p = err_from_is_err_and c.from_residual-in_err-seated.result c.from_residual-in_err-seated.ensures.1 in
    let fault = c.in_err-seated.field-0.0 in
    let h = c.in_err-seated.ensures.refused in
    let is : fault ≡ Memory = cc in
    rw (p.1, p.2) (inl (ap Err is))

pub loop-number-preserved : goal.loop-number-preserved
loop-number-preserved g c =
    let keys = c.args.keys.now in
    let seat = c.in_ok-seated.seated in
    let own : c.in_ok-keyring.keyring ≡ keys_of_party keys (client_party c.loop-number.number) = search rules in
    let one : sits seat ≡ seated keys c.args.liars c.loop-number.number =
    ap (λ (held : Held). (held, seat.link.lies)) (c.in_ok-seated.ensures.session ∙ c.resume-session.ensures)
    ∙ ap (λ (own : Keys). (session_of own 0, seat.link.lies)) own
    ∙ ap (λ (lies : Bool). (session_of (keys_of_party keys (client_party c.loop-number.number)) 0, lies)) c.in_ok-seated.ensures.lies in
    seen_more sits (seated keys c.args.liars) c.reserve.new.self.items c.push_reserved.new.self.items seat
    c.loop-number.number (c.loop-number.number + 1) c.push_reserved.ensures.items
    (ap (map sits) c.reserve.ensures.items ∙ c.loop-number.invariant) one refl

pub returns-clause-seated : goal.returns-clause-seated
returns-clause-seated g c =
    let keys = c.args.keys.now in
    let last : c.loop-number.number ≡ keys.sizes.clients =
    omega (arith, c.clients-number-end.ensures, ap (λ (sizes : Sizes). sizes.clients) c.config-config.ensures) in
    IfOk-weaker c.new.result _ _
    (λ made is. ap (map sits) is ∙ c.loop-number.invariant
    ∙ ap (λ n. map (seated keys c.args.liars) (range_with_len 0 n)) last)
    c.new.ensures.all

pub returns-clause-refused : goal.returns-clause-refused
returns-clause-refused g c = on_err_weaker c.new.result (λ e. inl e) c.new.ensures.memory
