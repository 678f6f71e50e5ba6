-- Parties behind one another, each behind a space.
use Rattle.std.proofs.Common.{◌≡◌, ◌≢◌, ℕ, zero, suc, ◌-◌, ◌<◌, ◌^◌, Bool, true, false, List, [], ◌∷◌, ◌++◌}
use Rattle.std.proofs.Common.{length, get_or, drop, Option, Some, None, arith, sym, refl, ◌∙◌, ap, codes}
use Rattle.std.proofs.Common.{decimal, nat_lt, nat_eq, cond, slice_index, slice_index_or, append_assoc}
use Rattle.std.specs.List.{All, IsDistinct, list_any}
use Rattle.std.proofs.lemmas.Cmp.{nat_eq_equiv}
use Rattle.std.proofs.lemmas.Bool.{or_parts, ltb-false}
use Rattle.std.proofs.Math.ListN.{get_or-append}
use Rattle.std.proofs.Math.Seq.{get_or-append_seam}
use Rattle.std.proofs.lemmas.Fmt.{decimal_injective}
use Rattle.std.proofs.lemmas.List.{append-nil, length-append, get_or_default}
use Rattle.std.proofs.lemmas.List.Concat.{flat_map-append}
use Rattle.std.proofs.lemmas.List.Elements.{All-head, All-tail, All-push}
use Rattle.std.proofs.lemmas.List.Folds.{Any-from_list_any}
use Rattle.std.proofs.lemmas.Map.Keys.{apart_from_distinct, IsDistinct-push}
use Rattle.definitions.specs.Bytes.{Bytes}
use Rattle.simulator.specs.Texts.{IsBelow, party_text, IsWord, IsCut, behind_word}
use Rattle.run_report.specs.Names.{replica_text, client_text}
use Rattle.simulator.specs.Lines.{AreParties, parties_text}
use Rattle.simulator.proofs.Numbers.{no_space}

-- ---- words

pub word_behind : (letter : ℕ) (rest : Bytes) → letter ≢ 32 → IsWord rest → IsWord (letter ∷ rest)
word_behind letter rest other word zero within = other
word_behind letter rest other word (suc i) within = word i (omega (arith, within))

pub decimal_word : (n : ℕ) → n < 2 ^ 64 → IsWord (decimal n)
decimal_word n small = no_space n small

pub client_word : (c : ℕ) → c < 256 → IsWord (client_text c)
client_word c small =
    word_behind 99 (decimal c) (λ e. omega (arith, e)) (decimal_word c (omega (arith, small)))

pub replica_word : (r : ℕ) → r < 256 → IsWord (replica_text r)
replica_word r small =
    word_behind 114 (decimal r) (λ e. omega (arith, e)) (decimal_word r (omega (arith, small)))

pub party_word : (p : ℕ) → p < 512 → IsWord (party_text p)
party_word p small = by (nat_lt p 256) refl
  where
    by : (b : Bool) → nat_lt p 256 ≡ b → IsWord (cond b (replica_text p) (client_text (p - 256)))
    by true low = word_behind 114 (decimal p) (λ e. omega (arith, e)) (decimal_word p (omega (arith, small)))
    by false high = word_behind 99 (decimal (p - 256)) (λ e. omega (arith, e))
        (decimal_word (p - 256) (omega (arith, small)))

-- two parties with one text are one
pub same_party : (p q : ℕ) → p < 512 → q < 512 → party_text p ≡ party_text q → p ≡ q
same_party p q one two same = by (nat_lt p 256) (nat_lt q 256) refl refl same
  where
    by : (b c : Bool) → nat_lt p 256 ≡ b → nat_lt q 256 ≡ c
        → cond b (replica_text p) (client_text (p - 256)) ≡ cond c (replica_text q) (client_text (q - 256))
        → p ≡ q
    by true true low_p low_q e =
        decimal_injective p q (omega (arith, one)) (omega (arith, two)) (ap (drop 1) e)
    by true false low_p high_q e = absurd (omega (arith, ap (λ (t : Bytes). slice_index t 0) e))
    by false true high_p low_q e = absurd (omega (arith, ap (λ (t : Bytes). slice_index t 0) e))
    by false false high_p high_q e =
        let same : p - 256 ≡ q - 256 =
        decimal_injective (p - 256) (q - 256) (omega (arith, one)) (omega (arith, two)) (ap (drop 1) e) in
        let p_high = ltb-false p 256 high_p in
        let q_high = ltb-false q 256 high_q in
        omega (arith, same, p_high, q_high)

-- ---- where a word is cut

-- a text has one first word
pub cut_once : (word w : Bytes) (rest other : Option Bytes) → IsWord word → IsWord w
    → word ++ behind_word rest ≡ w ++ behind_word other
    → (word ≡ w) × (behind_word rest ≡ behind_word other)
cut_once [] [] rest other free free' e = (refl, e)
cut_once [] (c ∷ w) None other free free' e = absurd (omega (arith, ap length e))
cut_once [] (c ∷ w) (Some more) other free free' e =
    absurd (free' 0 (omega arith) (sym (ap (λ (t : Bytes). slice_index t 0) e)))
cut_once (d ∷ word) [] rest None free free' e = absurd (omega (arith, ap length e))
cut_once (d ∷ word) [] rest (Some more) free free' e =
    absurd (free 0 (omega arith) (ap (λ (t : Bytes). slice_index t 0) e))
cut_once (d ∷ word) (c ∷ w) rest other free free' e =
    let heads : d ≡ c = ap (λ (t : Bytes). slice_index t 0) e in
    let tails = cut_once word w rest other (λ i within. free (suc i) (omega (arith, within)))
    (λ i within. free' (suc i) (omega (arith, within))) (ap (drop 1) e) in
    (rw (heads, tails.0) refl, tails.1)

-- what stands behind a party is nothing, or a space and more
pub others_behind : List ℕ → Option Bytes
others_behind [] = None
others_behind (p ∷ ps) = Some (party_text p ++ parties_text ps)

pub is_behind : (ps : List ℕ) → behind_word (others_behind ps) ≡ parties_text ps
unfolding others_behind
is_behind [] = refl
is_behind (p ∷ ps) = refl

pub word_of_number : (text word : Bytes) (rest : Option Bytes) → IsCut text word rest → (n : ℕ) → n < 2 ^ 64
    → (ps : List ℕ)
    → decimal n ++ parties_text ps ≡ text → (decimal n ≡ word) × (parties_text ps ≡ behind_word rest)
word_of_number text word rest cut n small ps e =
    let both = cut_once (decimal n) word (others_behind ps) rest (decimal_word n small) cut.first
    (ap (λ t. decimal n ++ t) (is_behind ps) ∙ e ∙ cut.whole) in
    (both.0, sym (is_behind ps) ∙ both.1)

-- the parties that a text spells, the first of them and the others
pub record First (more : List ℕ) (word : Bytes) (rest : Option Bytes) (p : ℕ) (others : List ℕ) : Type 0 where
  pub are : more ≡ p ∷ others
  pub small : p < 512
  pub others_small : All (IsBelow 512) others
  pub spells : party_text p ≡ word
  pub behind : parties_text others ≡ behind_word rest

pub first_party : (fields word : Bytes) (rest : Option Bytes) → IsCut fields word rest → (more : List ℕ)
    → All (IsBelow 512) more
    → parties_text more ≡ behind_word (Some fields)
    → (p : ℕ) × (others : List ℕ) × First more word rest p others
first_party fields word rest cut [] fits e = absurd (omega (arith, ap length e))
first_party fields word rest cut (p ∷ others) fits e =
    let small = All-head (IsBelow 512) p others fits in
    let both = cut_once (party_text p) word (others_behind others) rest (party_word p small) cut.first
    (ap (λ t. party_text p ++ t) (is_behind others) ∙ ap (drop 1) e ∙ cut.whole) in (
      p,
      others,
      record {
        are = refl;
        small = small;
        others_small = All-tail (IsBelow 512) p others fits;
        spells = both.0;
        behind = sym (is_behind others) ∙ both.1;
      },
    )

-- ---- each once

same_at : (xs : List ℕ) (k x p : ℕ) → k < length xs → slice_index_or xs k x ≡ x → nat_eq x p ≡ true
    → nat_eq (get_or xs k 0) p ≡ true
same_at xs k x p within is passes = let same = get_or_default xs k x 0 within in rw (sym same ∙ is) passes

pub twice : (before more : List ℕ) (p : ℕ) → list_any (λ q. nat_eq q p) before ≡ true
    → IsDistinct nat_eq (before ++ p ∷ more) → ⊥
twice before more p found distinct =
    let at = Any-from_list_any (λ q. nat_eq q p) before found in
    let long = length-append before (p ∷ more) in
    let place : at.0 < length before = at.2 in
    let apart = apart_from_distinct nat_eq (before ++ p ∷ more) at.0 (length before) 0 distinct place
    (omega (arith, long)) in
    let there : get_or (before ++ p ∷ more) at.0 0 ≡ get_or before at.0 0 =
    get_or-append before (p ∷ more) 0 at.0 place in
    let here : get_or (before ++ p ∷ more) (length before) 0 ≡ p = get_or-append_seam before p more 0 in
    let differ : nat_eq (get_or before at.0 0) p ≡ false = rw (there, here) at apart in
    let alike : nat_eq (get_or before at.0 0) p ≡ true = same_at before at.0 at.1 p place at.3 at.4 in
    cc (differ, alike)

turned : (ps : List ℕ) (p : ℕ) → list_any (λ q. nat_eq q p) ps ≡ false → list_any (λ q. nat_eq p q) ps ≡ false
turned [] p absent = refl
turned (q ∷ ps) p absent =
    let parts = or_parts (nat_eq q p) (list_any (λ q. nat_eq q p) ps) absent in
    let other : nat_eq p q ≡ false = nat_eq_equiv.symm p q ∙ parts.0 in
    rw (other, turned ps p parts.1) refl

-- one more, which wasn't there
pub once_more : (ps : List ℕ) (p : ℕ) → AreParties ps → p < 512 → list_any (λ q. nat_eq q p) ps ≡ false
    → AreParties (ps ++ p ∷ [])
once_more ps p are small absent =
    (All-push (IsBelow 512) ps p are.0 small, IsDistinct-push nat_eq_equiv ps p are.1 (turned ps p absent))

pub more_spelled : (ps : List ℕ) (p : ℕ) (text fields word : Bytes) (rest : Option Bytes)
    → IsCut fields word rest → party_text p ≡ word
    → parties_text ps ++ behind_word (Some fields) ≡ text
    → parties_text (ps ++ p ∷ []) ++ behind_word rest ≡ text
more_spelled ps p text fields word rest cut spells before =
    let one : parties_text (p ∷ []) ≡ 32 ∷ party_text p = append-nil (32 ∷ party_text p) in
    let joined : parties_text (ps ++ p ∷ []) ≡ parties_text ps ++ 32 ∷ party_text p =
    flat_map-append (λ q. codes " " ++ party_text q) ps (p ∷ []) ∙ ap (λ t. parties_text ps ++ t) one in
    let inner : party_text p ++ behind_word rest ≡ fields =
    ap (λ w. w ++ behind_word rest) spells ∙ sym cut.whole in
    ap (λ t. t ++ behind_word rest) joined
    ∙ append_assoc (parties_text ps) (32 ∷ party_text p) (behind_word rest)
    ∙ ap (λ t. parties_text ps ++ 32 ∷ t) inner ∙ before

pub then_more : (all ps more others : List ℕ) (p q : ℕ) → all ≡ ps ++ more → more ≡ q ∷ others → q ≡ p
    → all ≡ (ps ++ p ∷ []) ++ others
then_more all ps more others p q whole are same =
    whole ∙ ap (λ t. ps ++ t) (are ∙ ap (λ x. x ∷ others) same) ∙ sym (append_assoc ps (p ∷ []) others)
