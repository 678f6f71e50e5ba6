use Rattle.std.proofs.Common.{◌≡◌, ◌∙◌, ℕ, List, Bool, ap, get_or, slice_set, rules}
use Rattle.std.proofs.lemmas.List.{get_or_default}
use Rattle.suspicion.specs.ReplicaSets.{both, nobody}
use Rattle.suspicion.specs.Passing.{PassingState, noted}
use Rattle.suspicion.proofs.passing.Passing.note.Goals as goal

pub returns : goal.returns
returns c =
    let p = c.self.inside in
    let at = c.from-place.result in
    let read : get_or p.told at c.index-self-place.result ≡ get_or p.told at nobody =
    get_or_default p.told at c.index-self-place.result nobody (search rules) in
    let now : c.or.result ≡ both (get_or p.told at c.index-self-place.result) c.args.voters.now = c.or.ensures in
    let told_is : slice_set p.told at c.or.result
    ≡ slice_set p.told c.args.from (both (get_or p.told c.args.from nobody) c.args.voters.now) =
    ap (slice_set p.told at) (now ∙ ap (λ (some : List Bool). both some c.args.voters.now) read)
    ∙ ap (λ (at : ℕ). slice_set p.told at (both (get_or p.told at nobody) c.args.voters.now)) (c.from-place.ensures ∙ c.from.view_is) in
    ap (λ (told : List (List Bool)). record { most = p.most; voters = p.voters; told = told; tellers = c.add.new.self; unheard = p.unheard })
    told_is
    ∙ ap (λ (tellers : List Bool). record {
      most = p.most;
      voters = p.voters;
      told = slice_set p.told c.args.from (both (get_or p.told c.args.from nobody) c.args.voters.now);
      tellers = tellers;
      unheard = p.unheard;
    }) c.add.ensures.set
    ∙ ap (λ (p : PassingState). noted p c.args.from c.args.voters.now) c.self.view_is
