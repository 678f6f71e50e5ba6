-- The histories of replicas that are handed in.
use Rattle.std.proofs.Common.{List, reverse, sym, subst}
use Rattle.std.specs.Borrow.{Bor}
use Rattle.std.specs.List.{All, zip}
use Rattle.definitions.specs.Histories.{History}
use Rattle.definitions.specs.Audit.{Member, HistoriesAgree}
use Rattle.definitions.specs.Replicas.{held_history}
use Rattle.definitions.proofs.Lists.{Among-map, Among-mapped}
use Rattle.replica.specs.Steps.{Held}
use Rattle.audit.specs.Judged.{member_of, judged, Agree}
use Rattle.audit.proofs.Lists.{each-holds, All-from_each, AreSame, beginnings-from_pairs}
use Rattle.audit.proofs.Lists.{pairs-from_beginnings}

-- where two histories are the same as far as both go, they agree
pub Agree-from_pairs : (a b : History) → All AreSame (zip a b) → Agree (reverse a) (reverse b)
unfolding Agree
Agree-from_pairs a b h = beginnings-from_pairs a b h

-- and back
pub pairs-from_Agree : (a b : History) → Agree (reverse a) (reverse b) → All AreSame (zip a b)
unfolding Agree
pairs-from_Agree a b h = pairs-from_beginnings a b h

-- the histories of two replicas agree
abbrev pub AgreeWith : Bor Held → Bor Held → Type 0
AgreeWith r s = Agree (held_history r.now.replica) (held_history s.now.replica)

-- those of two members
abbrev AgreeAs : Member → Member → Type 0
AgreeAs a b = Agree (held_history a.replica) (held_history b.replica)

-- where each replica's history agrees with each, those of the judged do
pub HistoriesAgree-from_each : (rs : List (Bor Held)) → All (λ r. All (AgreeWith r) rs) rs
    → HistoriesAgree (judged rs)
unfolding Agree
HistoriesAgree-from_each rs h a b m n =
    let r = Among-map (λ r. member_of r.now) rs a m in
    let s = Among-map (λ r. member_of r.now) rs b n in
    let one = each-holds (AgreeWith r.0) rs (each-holds (λ r. All (AgreeWith r) rs) rs h r.0 r.1) s.0 s.1 in
    let first = subst (λ (x : Member). AgreeAs x (member_of s.0.now)) (sym r.2) one in
    subst (AgreeAs a) (sym s.2) first

-- and back
pub each-from_HistoriesAgree : (rs : List (Bor Held)) → HistoriesAgree (judged rs)
    → All (λ r. All (AgreeWith r) rs) rs
unfolding Agree
each-from_HistoriesAgree rs h =
    All-from_each (λ r. All (AgreeWith r) rs) rs (λ r m. All-from_each (AgreeWith r) rs (λ s n.
    h (member_of r.now) (member_of s.now) (Among-mapped (λ r. member_of r.now) rs r m)
    (Among-mapped (λ r. member_of r.now) rs s n)))
