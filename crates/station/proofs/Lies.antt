-- The workers of one station more.
use Rattle.std.proofs.Common.{◌≡◌, ℕ, ◌+◌, List, [], ◌∷◌, ◌++◌, Option, Vec, length, subst, sym, arith}
use Rattle.std.specs.Global.{Global}
use Rattle.station.specs.declared.terms.Liars.{Liars}
use Rattle.station.specs.Workers.{Worker, AllLieBy, LieFrom, liar_at}

lie_next : (liars : Option Liars) (first k : ℕ) (all : List (Vec Worker Global)) (one : Vec Worker Global)
    → first + length all ≡ k → LieFrom liars first all → AllLieBy (liar_at liars k) one.items
    → LieFrom liars first (all ++ one ∷ [])
lie_next liars first k [] one at lie lies =
    let here : k ≡ first = omega (arith, at) in
    (subst (λ n. AllLieBy (liar_at liars n) one.items) here lies, tt)
lie_next liars first k (x ∷ all) one at lie lies =
    (lie.0, lie_next liars (first + 1) k all one (omega (arith, at)) lie.1 lies)

pub lie_more : (liars : Option Liars) (k : ℕ) (before after : List (Vec Worker Global))
    (one : Vec Worker Global) → after ≡ before ++ one ∷ [] → length before ≡ k → LieFrom liars 0 before
    → AllLieBy (liar_at liars k) one.items → LieFrom liars 0 after
lie_more liars k before after one made at lie lies =
    subst (LieFrom liars 0) (sym made) (lie_next liars 0 k before one (omega (arith, at)) lie lies)
