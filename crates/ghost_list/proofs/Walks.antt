-- What the walks of `src/list.rt` share: how they begin, and a struct of one field that is made. Assumes `Logic`.
use Rattle.std.proofs.Common.{List, [], ◌∷◌, refl}
use seplogic.Ra.Ura.{Ura}
use mir.Syntax.{Fn, Callee}
use mir.Val.{Val, vstruct, vcons, vnil}
use base.Logic.{ent, sep}
use prog.Model.{Model}
use prog.Wp.{WpFn, Closed}
use types.Logic.{Logic}
use types.Kit.{Goal, Step, step, Item, ‵, ◌$◌, move, fjoin, fpack, feq_i}
use contract.Lifetimes.{Lfts, Shares, AllOutlive}
use contract.Running.{Running, MachineTables, tables, tables_of}
use sound.WpLaws.{WpFn-mono}
use denote.RattleType.{RattleType, Valss, flat}
use denote.Laws.{Spells, Tellss, Ises, Are, valss}
use denote.Signature.{Signature, types_at}
use denote.Steps.{nothing}
use denote.Struct.Struct.{Struct, within}
use denote.Triple.Clauses.{Ended, Clauses, closing}
use denote.Triple.Entry.{Args, on_entry}
use denote.Triple.Spec.{Meets, triple_of}
use denote.Triple.Table.{entered}
use denote.Triple.Walked.{Stays, AllGo, walk_of, walked, walk_Meets}

abbrev plainly : List RattleType → RattleType
plainly Rs = Struct (record { name = []; args = []; types = []; fields = Rs })

abbrev pub none : Val
none = vstruct vnil

abbrev pub one : Val → Val
one u = vstruct (vcons u vnil)

module _ {M : Type 1} {𝓤 : Ura M} {𝓛 : Logic 𝓤} {K : Type 0} {Γ : List (Item 𝓤)} {G : Goal 𝓤 𝓛.H} where
  pub one_made : K → (R : RattleType) (x : R.Denot) (u : Val) → Step K 𝓛 (‵ ((plainly (R ∷ [])).own_val (x, tt) (one u ∷ [])) ∷ Γ) G (‵ (R.own_val x (u ∷ [])) ∷ Γ) G
  one_made t R x u = step (λ s.
      nothing t $ move t (1 ∷ 0 ∷ []) $ fjoin t $ feq_i t (List Val) (one u ∷ []) (one u ∷ []) refl $ fjoin t $
      fpack t (Valss (R ∷ [])) (within (record { name = []; args = []; types = []; fields = R ∷ [] }) (x, tt) (one u ∷ [])) (u ∷ [], tt) $ s)

module _ {M : Type 1} {𝓤 : Ura M} (𝓛 : Logic 𝓤) (T : Ended) (hs : Stays T.signature.params T.kept) (c : Clauses 𝓤 T) where
  open 𝓛 use {H}

  abbrev S : Signature
  S = T.signature

  module _ (𝓜 : Model 𝓤 H) (𝓡 : Running 𝓤 H 𝓜) where
    abbrev 𝓣 : MachineTables 𝓤 H 𝓜
    𝓣 = tables 𝓤 H 𝓜 𝓡 𝓡.env

    -- a walk where each parameter's type tells its machine values
    pub proved : AllGo 𝓛 S.lifetimes S.params T.kept hs → (k : Callee) (e : Fn) → Closed 𝓤 H 𝓣.C 𝓣.Λ k e
        → (sp : (κs : Lfts S.lifetimes) → Spells (types_at S.params κs)) → ((κs : Lfts S.lifetimes) → Tellss (types_at S.params κs) (Ises (types_at S.params κs)) (sp κs))
        → ((κs : Lfts S.lifetimes) (qs : Shares S.lifetimes) (bounds : AllOutlive S.lifetimes S.outlives κs) (a : Args S κs) (g : (c κs a).ghost)
        → Are (types_at S.params κs) (Ises (types_at S.params κs)) a (valss (types_at S.params κs) (sp κs) a)
        → ent 𝓤 (sep 𝓤 (on_entry 𝓛 S κs qs a (valss (types_at S.params κs) (sp κs) a)) ((c κs a).requires g))
        (WpFn 𝓤 H 𝓣.C 𝓣.Λ e (flat (types_at S.params κs) (valss (types_at S.params κs) (sp κs) a)) ((walk_of 𝓛 T hs c).post ((κs, qs, bounds, a, valss (types_at S.params κs) (sp κs) a), g))))
        → Meets 𝓛 S (𝓣.C k) (closing 𝓛 T c)
    unfolding tables_of
    proved go k e closed sp tells walk = entered 𝓤 H (triple_of 𝓛 S (closing 𝓛 T c)) 𝓣.C 𝓣.Λ k e closed
        (walk_Meets 𝓛 T hs go c (WpFn 𝓤 H 𝓣.C 𝓣.Λ e) (WpFn-mono 𝓤 H 𝓛.laws (tables_of 𝓤 H 𝓜 𝓣) e) (walked 𝓛 T hs c (WpFn 𝓤 H 𝓣.C 𝓣.Λ e) sp tells walk))
