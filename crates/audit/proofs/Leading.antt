-- The replica that leads, and how the others stand to it, as far as they were looked at.
use Rattle.std.proofs.Common.{ℕ, ◌≡◌, ◌<◌, ◌≤◌, ◌+◌, List, [], ◌∷◌, ◌++◌, length, take, drop, get_or, sym}
use Rattle.std.proofs.Common.{ap, subst, ◌∙◌, arith, inl, inr, Option, None, Some}
use Rattle.std.specs.Prelude.{MatchOption}
use Rattle.std.specs.Option.{option_or}
use Rattle.std.specs.Borrow.{Bor}
use Rattle.std.proofs.lemmas.List.{map-append, take-append-drop, take_more}
use Rattle.definitions.specs.Lists.{Among}
use Rattle.definitions.specs.Audit.{Member, Judged}
use Rattle.definitions.specs.WindowAudit.{last_block, Meets, Differs, Misses, Leads}
use Rattle.definitions.proofs.Lists.{Among-either, Among-after}
use Rattle.audit_ground.proofs.Leaders.{meets-not_differs, misses-not_differs}
use Rattle.replica.specs.Steps.{Held}
use Rattle.audit.specs.Judged.{member_of, judged}
use Rattle.audit.proofs.ByNumber.{member-among}
use Rattle.audit.proofs.Numbers.{drop-at}

-- ---- the judged, one by one

judged-append : (xs ys : List (Bor Held)) → judged (xs ++ ys) ≡ judged xs ++ judged ys
judged-append xs ys = map-append (λ (r : Bor Held). member_of r.now) xs ys

-- one more of them
among-more : (rs : List (Bor Held)) (i : ℕ) (r : Bor Held) → i < length rs → r ≡ get_or rs i r
    → (P : Member → Type 0) → ((k : Member) → Among k (judged (take i rs)) → P k) → P (member_of r.now)
    → (k : Member) → Among k (judged (take (i + 1) rs)) → P k
among-more rs i r l e P old new k m =
    let at : take (i + 1) rs ≡ take i rs ++ r ∷ [] =
    take_more rs i r l ∙ ap (λ (x : Bor Held). take i rs ++ x ∷ []) (sym e) in
    let n : Among k (judged (take i rs) ++ member_of r.now ∷ []) =
    subst (λ (ks : Judged). Among k ks) (ap judged at ∙ judged-append (take i rs) (r ∷ [])) m in
    elim (Among-either k (judged (take i rs)) (member_of r.now ∷ []) n) [
      | inl before ↦ old k before
      | inr here ↦ elim here [ inl is ↦ subst P (sym is) new | inr none ↦ absurd none ]
    ]

-- ---- the one that leads

-- m is the first that is higher than all before it, and none of those that were looked at is higher
pub record IsLeading (ks done : Judged) (m : Member) : Type 0 where
  pub before : Judged
  pub behind : Judged
  pub are : before ++ m ∷ behind ≡ ks
  pub above : (k : Member) → Among k before → length (last_block k) < length (last_block m)
  pub highest : (k : Member) → Among k done → length (last_block k) ≤ length (last_block m)

pub leading-first : (rs : List (Bor Held)) (r : Bor Held) → 0 < length rs → r ≡ get_or rs 0 r
    → IsLeading (judged rs) (judged (take 0 rs)) (member_of r.now)
leading-first rs r l e = record {
  before = [];
  behind = judged (drop 1 rs);
  are = ap judged (sym (drop-at rs 0 r l e));
  above = λ k m. absurd m;
  highest = λ k m. absurd m;
}

-- a higher one takes its place
pub leading-higher : (rs : List (Bor Held)) (i : ℕ) (r : Bor Held) (m : Member) → i < length rs
    → r ≡ get_or rs i r → length (last_block m) < length (last_block (member_of r.now))
    → IsLeading (judged rs) (judged (take i rs)) m
    → IsLeading (judged rs) (judged (take (i + 1) rs)) (member_of r.now)
leading-higher rs i r m l e up h = record {
  before = judged (take i rs);
  behind = judged (drop (i + 1) rs);
  are =
      ap (λ (xs : List (Bor Held)). judged (take i rs) ++ judged xs) (sym (drop-at rs i r l e))
      ∙ sym (judged-append (take i rs) (drop i rs))
      ∙ ap judged (take-append-drop i rs);
  above = below;
  highest = among-more rs i r l e (λ k. length (last_block k) ≤ length (last_block (member_of r.now)))
      (λ k n. let b = below k n in omega (arith, b)) (omega arith);
}
  where
    below : (k : Member) → Among k (judged (take i rs))
        → length (last_block k) < length (last_block (member_of r.now))
    below k n = let b = h.highest k n in omega (arith, b, up)

-- any other doesn't
pub leading-other : (rs : List (Bor Held)) (i : ℕ) (r : Bor Held) (m : Member) → i < length rs
    → r ≡ get_or rs i r → length (last_block (member_of r.now)) ≤ length (last_block m)
    → IsLeading (judged rs) (judged (take i rs)) m → IsLeading (judged rs) (judged (take (i + 1) rs)) m
leading-other rs i r m l e low h = record {
  before = h.before;
  behind = h.behind;
  are = h.are;
  above = h.above;
  highest = among-more rs i r l e (λ k. length (last_block k) ≤ length (last_block m)) h.highest low;
}

-- after all of them
pub leads-from : (ks : Judged) (m : Member) → IsLeading ks ks m → Leads ks m
leads-from ks m h = record {
  before = h.before;
  behind = h.behind;
  are = h.are;
  above = h.above;
  highest = λ k n. h.highest k
      (subst (λ (xs : Judged). Among k xs) h.are (Among-after k h.before (m ∷ h.behind) (inr n)));
}

-- ---- the others

-- a judged replica of the number that m's window misses
abbrev pub IsUnmet : Judged → Member → ℕ → Type 0
IsUnmet ks m a = (k : Member) × Among k ks × (k.number ≡ a) × Misses k m

-- of those that were looked at none differs, and all are met, unless this one is unmet
pub record AreCompared (ks done : Judged) (m : Member) (unmet : Option ℕ) : Type 0 where
  pub same : (k : Member) → Among k done → Differs k m → ⊥
  pub met : MatchOption unmet ((k : Member) → Among k done → Meets k m) (IsUnmet ks m)

pub compared-none : (rs : List (Bor Held)) (m : Member) → AreCompared (judged rs) (judged (take 0 rs)) m None
compared-none rs m = record { same = λ k n. absurd n; met = λ k n. absurd n }

-- one more that is met
pub compared-met : (rs : List (Bor Held)) (i : ℕ) (r : Bor Held) (m : Member) (unmet : Option ℕ)
    → i < length rs → r ≡ get_or rs i r → Meets (member_of r.now) m
    → AreCompared (judged rs) (judged (take i rs)) m unmet
    → AreCompared (judged rs) (judged (take (i + 1) rs)) m unmet
compared-met rs i r m unmet l e h c = record {
  same = among-more rs i r l e (λ k. Differs k m → ⊥) c.same (meets-not_differs (member_of r.now) m h);
  met = by unmet c.met;
}
  where
    by : (o : Option ℕ)
        → MatchOption o ((k : Member) → Among k (judged (take i rs)) → Meets k m) (IsUnmet (judged rs) m)
        → MatchOption o ((k : Member) → Among k (judged (take (i + 1) rs)) → Meets k m) (IsUnmet (judged rs) m)
    by None met = among-more rs i r l e (λ k. Meets k m) met h
    by (Some a) is = is

-- one more that is unmet: it is the one that is named, if none was
pub compared-unmet : (rs : List (Bor Held)) (i : ℕ) (r : Bor Held) (m : Member) (unmet : Option ℕ) (n : ℕ)
    → i < length rs → r ≡ get_or rs i r → Misses (member_of r.now) m → n ≡ r.now.keys.party
    → AreCompared (judged rs) (judged (take i rs)) m unmet
    → AreCompared (judged rs) (judged (take (i + 1) rs)) m (option_or unmet (Some n))
compared-unmet rs i r m unmet n l e h is c = record {
  same = among-more rs i r l e (λ k. Differs k m → ⊥) c.same (misses-not_differs (member_of r.now) m h);
  met = by unmet c.met;
}
  where
    by : (o : Option ℕ)
        → MatchOption o ((k : Member) → Among k (judged (take i rs)) → Meets k m) (IsUnmet (judged rs) m)
        → MatchOption (option_or o (Some n)) ((k : Member) → Among k (judged (take (i + 1) rs)) → Meets k m)
        (IsUnmet (judged rs) m)
    by None met = (member_of r.now, member-among rs i r l e, sym is, h)
    by (Some a) is = is
