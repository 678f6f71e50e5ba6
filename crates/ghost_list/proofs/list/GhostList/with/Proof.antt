-- `with` makes the empty struct, and picks one item more. Assumes `Logic`.
use Rattle.std.proofs.Common.{[], ◌∷◌, refl}
use mir.Syntax.{a_type, dcons, dnil, named}
use mir.Val.{Val, vptr}
use mir.MapTy.{inst_fn}
use base.Logic.{SProp}
use contract.Running.{tables}
use types.Kit.{‵, raw, ◌⊛◌, ◌$◌, ◌∵◌, !, qed, move, keep, split, fjoin, suffices, done}
use types.Part.{agg}
use types.Run.{enter, returns, and_then, no_more}
use types.ByLocal.{alloc_all, pass_all, free_all, look_at, get, sets}
use denote.Exit.{yes}
use denote.RattleType.{RattleType, owns}
use denote.Builtin.{RefOf}
use denote.Laws.{Is}
use denote.Param.{param, bounded}
use denote.Ref.{shr_vals, shr_Tells}
use denote.Signature.{plain, types_at}
use denote.Steps.{nothing, owned}
use denote.Struct.Laws.{makes}
use denote.Triple.Entry.{alive}
use denote.Triple.Walked.{says, Stays, stay_dropped, walk_of, ends_at, Goes-dropped}
use Rattle.std.specs.contracts.marker.PhantomData as Mark
use Rattle.ghost_list.proofs.Walks.{none, one, one_made, proved}
use Rattle.ghost_list.specs.contracts.list.GhostList as GhostList
use Rattle.ghost_list.specs.contracts.list.GhostList.with.{ended, clauses}
use Rattle.ghost_list.specs.contracts.list.GhostList.with.Key.{name as #self}
use Rattle.ghost_list.proofs.list.GhostList.with.Statement.{statement}
use Rattle.ghost_list.proofs.list.GhostList.with.Code as code

pub with_spec : {M : Type 1} → statement M
with_spec 𝓤 𝓛 𝓜 𝓡 wired T X LT LX g d _ =
    let H = 𝓛.H in
    let 𝓣 = tables 𝓤 H 𝓜 𝓡 𝓡.env in
    let R : RattleType = param 0 T in
    let En = ended T X g d in
    let inst = bounded (a_type ∷ a_type ∷ []) (T, (X, tt)) (dcons d dnil) in
    let fn = inst_fn inst code.function in
    let c = clauses T X g d 𝓛 𝓜.mem 𝓡.returns in
    let before = RefOf (0 ∷ []) tt (plain (λ _. GhostList.the_row R)) (λ _. tt) in
    let newest = RefOf (1 ∷ []) tt (plain (λ _. param 1 X)) (λ _. tt) in
    let hs : Stays En.signature.params En.kept = (stay_dropped before yes, (stay_dropped newest yes, tt)) in
    proved 𝓛 En hs c 𝓜 𝓡 (Goes-dropped 𝓛 4 before yes (λ κs x f. refl), (Goes-dropped 𝓛 4 newest yes (λ κs x f. refl), tt)) (#self inst) fn (code.unfolded 𝓤 H 𝓜 𝓡 wired (T, (X, tt)) d)
    (λ κs. (shr_vals, (shr_vals, tt))) (λ κs. (shr_Tells (named 0) κs.0 (GhostList.the_row R), (shr_Tells (named 1) κs.1.0 (param 1 X), tt))) (λ κs qs bounds a gh are.
    let p : Val = vptr a.0.ref_ptr.0 a.0.ref_ptr.1 in
    let q : Val = vptr a.1.0.ref_ptr.0 a.1.0.ref_ptr.1 in
    let made : (GhostList.the_row R).Denot = record { of = record {}; items = g.tells a.1.0.now ∷ a.0.now.items } in
    let y : (walk_of 𝓛 En hs c).Ghost = ((κs, qs, bounds, a, (p ∷ [], (q ∷ [], tt))), gh) in
    let Post : Val → SProp 𝓤 = (walk_of 𝓛 En hs c).post y in
    qed 𝓛 ((raw (alive 𝓛 En.signature κs qs) ⊛ ‵ (owns (types_at En.signature.params κs) a y.0.4)) ∷ raw ((c κs a).requires gh) ∷ []) ∵
    split ! $ keep ! (0 ∷ []) $
    enter ! 𝓣.C 𝓣.Λ fn (p ∷ q ∷ []) Post $ alloc_all ! (λ l. pass_all ! refl ((tt, tt), ((tt, tt), tt)) $
    sets ! (agg ! (no_more !)) refl (tt, tt) $
    sets ! (agg ! (and_then ! (get ! refl) (no_more !))) refl (tt, (tt, tt)) $
    nothing ! $ owned ! (Mark.the_row R) (Is (Mark.the_row R)) (makes (Mark.the_type R) tt 𝓛) (record {}) (none ∷ []) (tt, (refl, tt)) $
    one_made ! (Mark.the_row R) (record {}) none $ fjoin ! $
    returns ! (look_at ! 0 refl) $ free_all ! refl $
    suffices ! _ (ends_at 𝓛 En hs c y (one none) made (tt, (tt, tt)) (tt, (tt, tt))) $ says ! refl $
    nothing ! $ nothing ! $ fjoin ! $ nothing ! $ fjoin ! $ move ! (2 ∷ 0 ∷ 1 ∷ []) $ done !))
