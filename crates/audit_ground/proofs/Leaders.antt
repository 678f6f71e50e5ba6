-- One replica leads, and its window shows one verdict.
use Rattle.std.proofs.Common.{ℕ, ◌≡◌, ◌<◌, ◌≤◌, [], ◌∷◌, ◌++◌, length, refl, sym, ap, subst, ◌∙◌, arith, inl}
use Rattle.std.proofs.Common.{inr, None, Some}
use Rattle.definitions.specs.Bytes.{Bytes}
use Rattle.definitions.specs.Lists.{Among}
use Rattle.definitions.specs.Digests.{digest_of}
use Rattle.definitions.specs.Audit.{Member, Judged}
use Rattle.definitions.specs.WindowAudit.{WindowVerdict.agree, WindowVerdict.fork}
use Rattle.definitions.specs.WindowAudit.{WindowVerdict.unmet, last_block, Meets, Differs, Misses}
use Rattle.definitions.specs.WindowAudit.{Leads, Stands, WindowsShow}
use Rattle.definitions.proofs.Lists.{Among-after}
use Rattle.audit_ground.specs.Law.{WindowsShowOneVerdict}

-- how high a member executed
abbrev height : Member → ℕ
height m = length (last_block m)

-- it is higher than each of these, or as high as each
abbrev IsAbove : Judged → Member → Type 0
IsAbove ks m = (k : Member) → Among k ks → height k < height m

abbrev IsHighest : Judged → Member → Type 0
IsHighest ks m = (k : Member) → Among k ks → height k ≤ height m

-- none of those behind a highest one is higher than it
not-behind : (m z k : Member) (before rest behind : Judged) → m ≡ z → before ++ k ∷ rest ≡ behind
    → IsHighest behind m → height z < height k → ⊥
not-behind m z k before rest behind same are h up =
    let low = h k (subst (λ (ks : Judged). Among k ks) are (Among-after k before (k ∷ rest) (inl refl))) in
    let e = ap height same in
    omega (arith, up, low, e)

-- a list has one first of its highest
first-one : (before behind before2 behind2 : Judged) (x y : Member)
    → before ++ x ∷ behind ≡ before2 ++ y ∷ behind2 → IsAbove before x → IsHighest behind x
    → IsAbove before2 y → IsHighest behind2 y → x ≡ y
first-one [] behind [] behind2 x y e a h a2 h2 = cc
first-one [] behind (z ∷ before2) behind2 x y e a h a2 h2 =
    absurd (not-behind x z y before2 behind2 behind (cc) (cc) h (a2 z (inl refl)))
first-one (z ∷ before) behind [] behind2 x y e a h a2 h2 =
    absurd (not-behind y z x before behind behind2 (cc) (cc) h2 (a z (inl refl)))
first-one (z ∷ before) behind (w ∷ before2) behind2 x y e a h a2 h2 =
    first-one before behind before2 behind2 x y (cc) (λ k m. a k (inr m)) h (λ k m. a2 k (inr m)) h2

leads-one : (ks : Judged) (x y : Member) → Leads ks x → Leads ks y → x ≡ y
leads-one ks x y l k =
    first-one l.before l.behind k.before k.behind x y (l.are ∙ sym k.are) l.above l.highest k.above k.highest

-- ---- what is shown of one replica is one of three

some_none : (d : Bytes) → Some d ≡ None → ⊥
some_none d e = cc

some_one : (d e : Bytes) → Some d ≡ Some e → d ≡ e
some_one d e i = cc

pub meets-not_differs : (k m : Member) → Meets k m → Differs k m → ⊥
meets-not_differs k m h (d, e, n) = n (some_one d (digest_of (last_block k)) (sym e ∙ h))

pub misses-not_differs : (k m : Member) → Misses k m → Differs k m → ⊥
misses-not_differs k m h (d, e, n) = some_none d (sym e ∙ h)

meets-not_misses : (k m : Member) → Meets k m → Misses k m → ⊥
meets-not_misses k m h e = some_none (digest_of (last_block k)) (sym h ∙ e)

-- ---- one verdict

-- where each is met by the one that leads, none stands otherwise to it
met-none : (R : Member → Member → Type 0) → ((k m : Member) → Meets k m → R k m → ⊥) → (ks : Judged)
    → WindowsShow ks agree → (a b : ℕ) → Stands R ks a b → ⊥
met-none R apart ks (m, l, met) a b s =
    apart s.lower m (met s.lower s.judged)
    (subst (λ (x : Member). R s.lower x) (leads-one ks s.higher m s.leads l) s.related)

-- where one is missed and none differs, there is no fork
missed-none : (ks : Judged) (a b c d : ℕ) → WindowsShow ks (unmet a b) → Stands Differs ks c d → ⊥
missed-none ks a b c d (t, none) s =
    none s.lower s.judged
    (subst (λ (x : Member). Differs s.lower x) (leads-one ks s.higher t.higher s.leads t.leads) s.related)

-- the higher one is the one that leads
one-higher : (R Q : Member → Member → Type 0) (ks : Judged) (a b c d : ℕ) → Stands R ks a b
    → Stands Q ks c d → b ≡ d
one-higher R Q ks a b c d s t =
    sym s.higher_number
    ∙ (ap (λ (m : Member). m.number) (leads-one ks s.higher t.higher s.leads t.leads) ∙ t.higher_number)

-- the law of this name
pub windows-show_one_verdict : WindowsShowOneVerdict
windows-show_one_verdict ks agree agree h k = tt
windows-show_one_verdict ks agree (fork a b) h k = met-none Differs meets-not_differs ks h a b k
windows-show_one_verdict ks agree (unmet a b) h k = met-none Misses meets-not_misses ks h a b k.0
windows-show_one_verdict ks (fork a b) agree h k = met-none Differs meets-not_differs ks k a b h
windows-show_one_verdict ks (fork a b) (fork c d) h k = one-higher Differs Differs ks a b c d h k
windows-show_one_verdict ks (fork a b) (unmet c d) h k = missed-none ks c d a b k h
windows-show_one_verdict ks (unmet a b) agree h k = met-none Misses meets-not_misses ks k a b h.0
windows-show_one_verdict ks (unmet a b) (fork c d) h k = missed-none ks a b c d h k
windows-show_one_verdict ks (unmet a b) (unmet c d) h k = one-higher Misses Misses ks a b c d h.0 k.0
