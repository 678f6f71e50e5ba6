-- Counts that are moved on, one step of one replica at a time.
use Rattle.ids.specs.declared.limits.TheConstants.{MOST_REPLICAS}
use Rattle.std.proofs.Common.{ℕ, ◌≡◌, ◌+◌, ◌-◌, ◌<◌, ◌≤◌, true, false, List, length, get_or, set, replicate}
use Rattle.std.proofs.Common.{sym, ap, subst, ◌∙◌, arith, inl, inr, None, [], add-one}
use Rattle.std.specs.Prelude.{All}
use Rattle.std.specs.Borrow.{Bor}
use Rattle.std.proofs.lemmas.Bool.{cases_Bool, cases_lt, cases_eq}
use Rattle.std.proofs.lemmas.List.{get_or-replicate, get_or-set_same, get_or-set_other, get_or_past}
use Rattle.std.proofs.lemmas.List.{length-replicate}
use Rattle.std.proofs.lemmas.List.{length-set}
use Rattle.definitions.specs.Chronicles.{Chronicle}
use Rattle.definitions.specs.Audit.{Judged, Cut, is_judged, chronicle_of, step_after, may_move, AreFronts}
use Rattle.audit_ground.specs.Law.{IsReached, IsMoved}
use Rattle.audit_ground.proofs.Lists.{step_after-none}
use Rattle.audit_ground.proofs.Members.{unjudged-none}
use Rattle.audit_ground.proofs.Turns.{Under, sum_below, sum_below-under, sum_below-strict}
use Rattle.audit_ground.proofs.Fronts.{moving-finds_the_fronts, is_backed_if, may_move-is, lengths}
use Rattle.replica.specs.Steps.{Held}
use Rattle.audit.specs.Judged.{judged}
use Rattle.audit.specs.Fronts.{cut_of}
use Rattle.audit.proofs.ByNumber.{by-number}
use Rattle.audit.proofs.Lists.{each-holds}

-- who isn't judged has no steps
pub no-steps : (ks : Judged) (k u : ℕ) → is_judged ks u ≡ false → step_after k (chronicle_of ks u) ≡ None
no-steps ks k u h =
    ap (λ (c : Chronicle). step_after k c) (unjudged-none ks u h) ∙ step_after-none k [] (omega arith)

-- where no replica may move, nobody may
pub none-moves : (rs : List (Bor Held)) (k : Cut)
    → All (λ r. may_move (judged rs) k r.now.keys.party ≡ false) rs → (u : ℕ)
    → may_move (judged rs) k u ≡ false
unfolding is_backed_if
none-moves rs k h u =
    elim (cases_Bool (is_judged (judged rs) u)) [
      | inl t ↦
          let r = by-number rs u t in
          subst (λ (v : ℕ). may_move (judged rs) k v ≡ false) r.2
          (each-holds (λ (x : Bor Held). may_move (judged rs) k x.now.keys.party ≡ false) rs h r.0 r.1)
      | inr f ↦
          may_move-is (judged rs) k u ∙ ap (is_backed_if (judged rs) k) (no-steps (judged rs) (k u) u f)
    ]

-- a row of counts that turns led to
pub record IsCounted (rs : List (Bor Held)) (row : List ℕ) : Type 0 where
  pub reached : IsReached (may_move (judged rs)) (cut_of row)
  pub sized : length row ≡ MOST_REPLICAS

-- the row of no steps
pub start : (rs : List (Bor Held)) → IsCounted rs (replicate MOST_REPLICAS 0)
start rs = record {
  reached = (moving-finds_the_fronts (judged rs)).start (cut_of (replicate MOST_REPLICAS 0)) none;
  sized = length-replicate {A = ℕ} MOST_REPLICAS 0;
}
  where
    none : (i : ℕ) → cut_of (replicate MOST_REPLICAS 0) i ≡ 0
    none i = elim (cases_lt i MOST_REPLICAS) [
      | inl l ↦ get_or-replicate MOST_REPLICAS i 0 0 l
      | inr g ↦ get_or_past (replicate MOST_REPLICAS 0) i 0
          (let e = length-replicate {A = ℕ} MOST_REPLICAS 0 in omega (arith, e, g))
    ]

-- one step more of u
moved : (row : List ℕ) (u : ℕ) → u < length row
    → IsMoved u (cut_of row) (cut_of (set row u (get_or row u 0 + 1)))
moved row u l = record {
  own = get_or-set_same row u (get_or row u 0 + 1) 0 l ∙ add-one (get_or row u 0);
  others = λ i n. get_or-set_other row u i (get_or row u 0 + 1) 0 (λ e. n (sym e));
}

pub next : (rs : List (Bor Held)) (row : List ℕ) (u : ℕ) → IsCounted rs row → u < MOST_REPLICAS
    → may_move (judged rs) (cut_of row) u ≡ true → IsCounted rs (set row u (get_or row u 0 + 1))
next rs row u h l m = record {
  reached = (moving-finds_the_fronts (judged rs)).moved (cut_of row)
      (cut_of (set row u (get_or row u 0 + 1))) u
      h.reached m (moved row u (let s = h.sized in omega (arith, s, l)));
  sized = length-set row u (get_or row u 0 + 1) ∙ h.sized;
}

-- how many steps are left to be made
abbrev pub left : List (Bor Held) → List ℕ → ℕ
left rs row = sum_below MOST_REPLICAS (lengths (judged rs)) - sum_below MOST_REPLICAS (cut_of row)

pub fewer : (rs : List (Bor Held)) (row : List ℕ) (u : ℕ) → IsCounted rs row → u < MOST_REPLICAS
    → may_move (judged rs) (cut_of row) u ≡ true
    → left rs (set row u (get_or row u 0 + 1)) < left rs row
fewer rs row u h l m =
    let more : List ℕ = set row u (get_or row u 0 + 1) in
    let is = moved row u (let s = h.sized in omega (arith, s, l)) in
    let within : Under (cut_of more) (lengths (judged rs)) =
    (moving-finds_the_fronts (judged rs)).within (cut_of more) (next rs row u h l m).reached in
    let up : cut_of row u < cut_of more u = (let e = is.own in omega (arith, e)) in
    let under : Under (cut_of row) (cut_of more) = λ i. elim (cases_eq u i) [
      | inl e ↦ subst (λ (j : ℕ). cut_of row j ≤ cut_of more j) e (omega (arith, up))
      | inr n ↦ (let o = is.others i n in omega (arith, o))
    ] in
    let a = sum_below-strict MOST_REPLICAS (cut_of row) (cut_of more) u under l up in
    let b = sum_below-under MOST_REPLICAS (cut_of more) (lengths (judged rs)) within in
    omega (arith, a, b)

-- from which none may move
pub finish : (rs : List (Bor Held)) (row : List ℕ) → IsCounted rs row
    → ((u : ℕ) → may_move (judged rs) (cut_of row) u ≡ false) → AreFronts (judged rs) (cut_of row)
finish rs row h none = (moving-finds_the_fronts (judged rs)).finish (cut_of row) h.reached none
