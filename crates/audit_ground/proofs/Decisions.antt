-- What can be decided: a relation on all pairs, equal histories, cores and digests.
use Rattle.std.proofs.Common.{◌≡◌, ◌⊎◌, ◌&&◌, ◌==◌, Bool, true, false, List, [], ◌∷◌, length, refl, sym, ap}
use Rattle.std.proofs.Common.{subst, inl, inr, true≢false}
use Rattle.std.specs.Str.{bytes_eq}
use Rattle.std.proofs.lemmas.Bool.{eqb-true, eq-eqb, and_parts, and_from}
use lib.Pointwise.{pointwise, pointwise_decides, bytes_decides}
use Rattle.definitions.specs.Bytes.{Bytes}
use Rattle.definitions.specs.Lists.{beginning, IsBeginning, Among}
use Rattle.definitions.specs.Frames.{Core}
use Rattle.definitions.specs.Branches.{Block, Branch, branch_eq}
use Rattle.definitions.specs.Histories.{History, Entry}
use Rattle.definitions.proofs.Lists.{beginning-begins, IsBeginning-beginning}
use Rattle.definitions.proofs.Branches.{branch_eq-decides}

-- P, or not P
abbrev pub OrNot : Type 0 → Type 0
OrNot P = P ⊎ (P → ⊥)

-- what a test decides
or-not : {P : Type 0} (t : Bool) → (t ≡ true → P) → (P → t ≡ true) → OrNot P
or-not true f g = inl (f refl)
or-not false f g = inr (λ p. true≢false (sym (g p)))

-- one of two facts, or neither
pub either-or_not : {P Q : Type 0} → OrNot P → OrNot Q → OrNot (P ⊎ Q)
either-or_not (inl p) q = inl (inl p)
either-or_not (inr n) (inl q) = inl (inr q)
either-or_not (inr n) (inr m) = inr (λ r. elim r [ inl p ↦ n p | inr q ↦ m q ])

-- ---- pairs

-- x stands so to each of ys, or not to one of them
one-to-all : {A : Type 0} (R : A → A → Type 0) → ((a b : A) → OrNot (R a b)) → (x : A) (ys : List A)
    → ((b : A) → Among b ys → R x b) ⊎ ((b : A) × Among b ys × (R x b → ⊥))
one-to-all R d x [] = inl (λ b m. absurd m)
one-to-all {A} R d x (y ∷ ys) =
    elim (d x y) [
      | inr n ↦ inr (y, inl refl, n)
      | inl r ↦ elim (one-to-all R d x ys) [
        | inl h ↦ inl (λ b m. elim m [ inl e ↦ subst (λ (z : A). R x z) (sym e) r | inr l ↦ h b l ])
        | inr h ↦ inr (h.0, inr h.1, h.2)
      ]
    ]

-- each of xs stands so to each of ys, or two of them do not
pub all-pairs : {A : Type 0} (R : A → A → Type 0) → ((a b : A) → OrNot (R a b)) → (xs ys : List A)
    → ((a b : A) → Among a xs → Among b ys → R a b) ⊎ ((a b : A) × Among a xs × Among b ys × (R a b → ⊥))
all-pairs R d [] ys = inl (λ a b m. absurd m)
all-pairs {A} R d (x ∷ xs) ys =
    elim (one-to-all R d x ys) [
      | inr h ↦ inr (x, h.0, inl refl, h.1, h.2)
      | inl one ↦ elim (all-pairs R d xs ys) [
        | inl h ↦
            inl (λ a b m n. elim m [ inl e ↦ subst (λ (z : A). R z b) (sym e) (one b n) | inr l ↦ h a b l n ])
        | inr h ↦ inr (h.0, h.1, inr h.2, h.3, h.4)
      ]
    ]

-- ---- histories

-- two entries are the same
entry_eq : Entry → Entry → Bool
entry_eq a b = (a.client == b.client) && ((a.seq == b.seq) && bytes_eq a.payload b.payload)

-- entries that pass are equal
entry_same : (a b : Entry) → entry_eq a b ≡ true → a ≡ b
unfolding entry_eq
entry_same a b h =
    let p = and_parts _ _ h in
    let q = and_parts _ _ p.1 in
    λ i. record {
      client = eqb-true a.client b.client p.0 i;
      seq = eqb-true a.seq b.seq q.0 i;
      payload = (bytes_decides a.payload b.payload).0 q.1 i;
    }

-- an entry passes with itself
entry_own : (a : Entry) → entry_eq a a ≡ true
unfolding entry_eq
entry_own a = and_from _ _ (eq-eqb a.client a.client refl)
    (and_from _ _ (eq-eqb a.seq a.seq refl) ((bytes_decides a.payload a.payload).1 refl))

-- two histories are the same
history_eq-decides : (a b : History)
    → (pointwise entry_eq a b ≡ true → a ≡ b) × (a ≡ b → pointwise entry_eq a b ≡ true)
history_eq-decides = pointwise_decides
    (λ x y. (entry_same x y, λ e. subst (λ (z : Entry). entry_eq x z ≡ true) e (entry_own x)))

-- one history is a beginning of another, or not
pub IsBeginning-or_not : (a b : History) → OrNot (IsBeginning a b)
IsBeginning-or_not a b =
    or-not (pointwise entry_eq (beginning (length a) b) a)
    (λ t. subst (λ (h : History). IsBeginning h b) ((history_eq-decides (beginning (length a) b) a).0 t)
    (beginning-begins (length a) b))
    (λ h. (history_eq-decides (beginning (length a) b) a).1 (IsBeginning-beginning a b h))

-- ---- cores

-- what a core adds to its parent, on genesis
block_of : Core → Branch
block_of c = record { commands = c.commands; justify = c.justify_height } ∷ []

-- two cores are the same
core_eq : Core → Core → Bool
core_eq a b = bytes_eq a.parent b.parent && ((a.height == b.height) && branch_eq (block_of a) (block_of b))

-- equal blocks on genesis have equal parts
first-block : (a b : Core) → block_of a ≡ block_of b
    → (a.commands ≡ b.commands) × (a.justify_height ≡ b.justify_height)
unfolding block_of
first-block a b e =
    let h : record { commands = a.commands; justify = a.justify_height }
    ≡ record { commands = b.commands; justify = b.justify_height } = cc in
    (ap (λ (x : Block). x.commands) h, ap (λ (x : Block). x.justify) h)

-- cores that pass are equal
core_same : (a b : Core) → core_eq a b ≡ true → a ≡ b
unfolding core_eq
core_same a b h =
    let p = and_parts _ _ h in
    let q = and_parts _ _ p.1 in
    let r = first-block a b ((branch_eq-decides (block_of a) (block_of b)).0 q.1) in
    λ i. record {
      parent = (bytes_decides a.parent b.parent).0 p.0 i;
      height = eqb-true a.height b.height q.0 i;
      justify_height = r.1 i;
      commands = r.0 i;
    }

-- a core passes with itself
core_own : (a : Core) → core_eq a a ≡ true
unfolding core_eq
core_own a = and_from _ _ ((bytes_decides a.parent a.parent).1 refl)
    (and_from _ _ (eq-eqb a.height a.height refl) ((branch_eq-decides (block_of a) (block_of a)).1 refl))

-- two cores are the same, or not
pub same_core-or_not : (a b : Core) → OrNot (a ≡ b)
same_core-or_not a b =
    or-not (core_eq a b) (core_same a b) (λ e. subst (λ (c : Core). core_eq a c ≡ true) e (core_own a))

-- two digests are the same, or not
pub same_bytes-or_not : (a b : Bytes) → OrNot (a ≡ b)
same_bytes-or_not a b = or-not (bytes_eq a b) ((bytes_decides a b).0) ((bytes_decides a b).1)
