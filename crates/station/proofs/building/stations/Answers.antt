use Rattle.std.proofs.Common.{rules, arith, sym, subst, ap, ◌≡◌, ◌∙◌, ◌+◌, length, map, Vec, vec_len}
use Rattle.std.proofs.lemmas.List.Elements.{All-push}
use Rattle.std.specs.Global.{Global}
use Rattle.std.specs.List.{range_with_len}
use Rattle.definitions.specs.Keyrings.{Keys}
use Rattle.key_file.specs.KeyFile.{keys_of_party}
use Rattle.marks.specs.Eyes.{first_eye}
use Rattle.marks.proofs.Owners.{Owners, owners_from}
use Rattle.station.specs.Keeping.{keep}
use Rattle.station.specs.Stations.{Station, numbers_of}
use Rattle.station.specs.Workers.{AllLieBy, LieFrom, Worker, liar_at, worker_count}
use Rattle.station.proofs.Lies.{lie_more}
use Rattle.station.proofs.Numbers.{numbers_more}
use Rattle.station.proofs.building.stations.Goals as goal

pub loop-number-init : goal.loop-number-init
loop-number-init c =
    let z = c.args.marks.now in
    let it = c.into_iter-number-iterator.result in
    let first : it.count ≡ 0 = search rules in
    let all : it.iter.rest.items ≡ map (first_eye z) (range_with_len 0 z.words) = search rules in (
      search rules,
      search rules,
      subst (λ k. Owners z k it.iter.rest.items) (sym first)
          (subst (Owners z 0) (sym all) (owners_from z z.words 0 (omega arith))),
      search rules,
      search rules,
      search rules,
      ap numbers_of c.new-stations.ensures.items ∙ ap (range_with_len 0) (sym first),
      search rules,
      search rules,
    )

pub loop-number-preserved : goal.loop-number-preserved
loop-number-preserved c =
    let P : Vec Worker Global → Type 0 = λ workers. vec_len workers ≡ worker_count c.args.terms.now.workers in
    let K : Station → Type 0 = λ station. station.keep ≡ keep c.args.terms.now c.args.keys.now.sizes in
    let count = c.loop-number.number-iterator.count in
    let here : c.in-Ok-Some.number ≡ count = search rules in
    let own : c.in_ok-keyring.keyring ≡ keys_of_party c.args.keys.now c.in-Ok-Some.number = c.in_ok-keyring.ensures.made in
    let next : c.next.new.self.count ≡ count + 1 = search rules in
    let stands : numbers_of c.reserve.new.self.items ≡ range_with_len 0 count =
    ap numbers_of c.reserve.ensures.items ∙ c.loop-number.invariant.6 in
    let lie : LieFrom c.args.terms.now.liars 0 c.reserve-in-loop-number.new.self.items =
    subst (LieFrom c.args.terms.now.liars 0) (sym c.reserve-in-loop-number.ensures.items) c.loop-number.invariant.8 in
    let made : length c.reserve-in-loop-number.new.self.items ≡ c.in-Ok-Some.number = omega (
      arith,
      c.reserve-in-loop-number.new.self.ok.0,
      c.reserve-in-loop-number.ensures.len,
      c.loop-number.invariant.5,
      here,
    ) in (
      search rules,
      search rules,
      search rules,
      rw c.push_reserved-in-loop-number.ensures.items
          (All-push P _ _ (rw c.reserve-in-loop-number.ensures.items c.loop-number.invariant.3)
          c.in_ok-station.ensures.count),
      omega (
        arith,
        c.push_reserved.ensures.len,
        c.push_reserved-in-loop-number.ensures.len,
        c.reserve.ensures.len,
        c.reserve-in-loop-number.ensures.len,
        c.loop-number.invariant.4,
      ),
      search rules,
      numbers_more c.reserve.new.self.items c.push_reserved.new.self.items c.in_ok-station.station count
          c.next.new.self.count c.push_reserved.ensures.items stands
          (c.in_ok-station.ensures.number ∙ ap (λ (keys : Keys). keys.party) own ∙ here) next,
      rw c.push_reserved.ensures.items
          (All-push K _ _ (rw c.reserve.ensures.items c.loop-number.invariant.7)
          (c.in_ok-station.ensures.keep ∙ ap (λ (keys : Keys). keep c.args.terms.now keys.sizes) own)),
      lie_more c.args.terms.now.liars c.in-Ok-Some.number c.reserve-in-loop-number.new.self.items
          c.push_reserved-in-loop-number.new.self.items c.in_ok-station.its_own
          c.push_reserved-in-loop-number.ensures.items made lie
          (subst (λ (keys : Keys). AllLieBy (liar_at c.args.terms.now.liars keys.party) c.in_ok-station.its_own.items) own
          c.in_ok-station.ensures.lies),
    )
