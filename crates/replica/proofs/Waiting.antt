-- What waits after a step: what was executed of its blocks waits no more.
use Rattle.ids.specs.declared.limits.TheConstants.{MOST_COMMANDS}
use Rattle.std.proofs.Common.{ℕ, suc, ◌≡◌, ◌<◌, ◌≤◌, Bool, true, false, true≢false, List, [], ◌∷◌, ◌++◌}
use Rattle.std.proofs.Common.{length, filter, reverse, take, not, refl, sym, ap, subst, ◌∙◌, arith, ◌&&◌, ◌==◌, inl, inr}
use Rattle.std.specs.List.{list_any}
use Rattle.std.proofs.lemmas.Bool.{cond-true, cond-false, cases_lt, le-ltb, le-leb, lt-leb}
use Rattle.std.proofs.lemmas.List.Sorted.{list_any-IsPermutation, IsPermutation-reverse}
use Rattle.definitions.specs.Lists.{beginning, IsBeginning}
use Rattle.definitions.specs.Frames.{Command}
use Rattle.definitions.specs.Branches.{Block, Branch}
use Rattle.definitions.specs.Histories.{History, history_of}
use Rattle.definitions.specs.Chronicles.{Step, Step.took_block, Step.noted, Note.led_from, Chronicle, executed}
use Rattle.definitions.specs.Chronicles.{history}
use Rattle.definitions.specs.States.{is_due, pending, with_request}
use Rattle.definitions.specs.Replicas.{cut_short, held_executed, held_pending, whole_blocks}
use Rattle.definitions.proofs.Lists.{beginning-begins, beginning-whole, length-added}
use Rattle.definitions.proofs.Histories.{history_of-grows}
use Rattle.mempool.specs.Pool.{is_up_to, left_after, first_beside, stands_among}
use Rattle.mempool.specs.Laws.{IsNoLead}
use Rattle.mempool.proofs.Following.{filter-alike, due-left, pending-due, pending-next}
use Rattle.replica.specs.Changes.{asked}

-- ---- what is left after executed commands

pub left-append : (a b : History) (rs : List Command)
    → left_after (a ++ b) rs ≡ left_after a (left_after b rs)
unfolding left_after
left-append [] b rs = refl
left-append (e ∷ a) b rs = ap (filter (λ r. not (is_up_to e.client e.seq r))) (left-append a b rs)

-- what stays due after more entries
pub left-due : (c : Chronicle) (new : History)
    → filter (is_due (new ++ history c)) (pending c) ≡ left_after new (pending c)
left-due c new = due-left new (history c) (pending c) ∙ ap (left_after new) (pending-due c)

-- whether a step leads from a block, and so forgets what waited
abbrev pub is_lead : Step → Bool
is_lead (noted (led_from b)) = true
is_lead st = false

pub asked-is : (st : Step) (c : Chronicle) → is_lead st ≡ false
    → asked st c ≡ filter (is_due (history c)) (with_request st (pending c))
asked-is (noted (led_from b)) c l = absurd (true≢false l)
asked-is (took_block a) c l = refl
asked-is (noted n) c l = refl

not-led : (st : Step) → is_lead st ≡ false → IsNoLead st
not-led (noted (led_from b)) l = true≢false l
not-led (took_block a) l = tt
not-led (noted n) l = tt

none-left : (new : History) → left_after new [] ≡ []
unfolding left_after
none-left [] = refl
none-left (e ∷ new) = ap (filter (λ r. not (is_up_to e.client e.seq r))) (none-left new)

waits-else : (st : Step) (c : Chronicle) (new : History) → is_lead st ≡ false → history (st ∷ c) ≡ new ++ history c
    → pending (st ∷ c) ≡ left_after new (asked st c)
waits-else st c new l e =
    pending-next st c (not-led st l)
    ∙ ap (λ (h : History). filter (is_due h) (with_request st (pending c))) e
    ∙ due-left new (history c) (with_request st (pending c)) ∙ ap (left_after new) (sym (asked-is st c l))

-- what waits after a step
pub waits-on : (st : Step) (c : Chronicle) (new : History) → history (st ∷ c) ≡ new ++ history c
    → pending (st ∷ c) ≡ left_after new (asked st c)
unfolding pending
waits-on (noted (led_from b)) c new e = sym (none-left new)
waits-on (took_block a) c new e = waits-else (took_block a) c new refl e
waits-on (noted n) c new e = waits-else (noted n) c new refl e

-- what waits after a step that was cut short
pub held-waits : (st : Step) (c : Chronicle) (held : ℕ) (new : History)
    → history_of (whole_blocks held (executed (st ∷ c))) ≡ new ++ history c
    → held_pending (record { chronicle = st ∷ c; standing = cut_short held }) ≡ left_after new (pending c)
unfolding held_pending held_executed
held-waits st c held new e = ap (λ (h : History). filter (is_due h) (pending c)) e ∙ left-due c new

-- ---- the blocks that are held whole

-- a part of a branch, below its last block
beginning-below : (b : Block) (parent : Branch) (m : ℕ) → m ≤ length parent
    → beginning m (b ∷ parent) ≡ beginning m parent
unfolding beginning
beginning-below b parent m l = cond-false _ _ _ (le-ltb (length parent) m l)

pub shorter : (a b : History) → IsBeginning a b → length a ≤ length b
shorter a b g =
    let l = length-added g.0 a in
    let e = ap (λ (h : History). length h) g.1 in
    omega (arith, l, e)

-- a beginning that is as long is the whole
as-long : (a b : History) → IsBeginning a b → length b ≤ length a → b ≡ a
as-long a b ([], e) l = sym e
as-long a b (x ∷ added, e) l =
    let k = length-added added a in
    let n = ap (λ (h : History). length h) e in
    absurd (omega (arith, k, n, l))

part-begins : (m : ℕ) (x : Branch) → IsBeginning (history_of (beginning m x)) (history_of x)
part-begins m x = history_of-grows x (beginning m x) (beginning-begins m x)

parent-begins : (b : Block) (parent : Branch) → IsBeginning (history_of parent) (history_of (b ∷ parent))
parent-begins b parent = history_of-grows (b ∷ parent) parent (b ∷ [], refl)

whole-all : (held : ℕ) (x : Branch) → length (history_of x) ≤ held → whole_blocks held x ≡ x
unfolding whole_blocks
whole-all held [] l = refl
whole-all held (b ∷ parent) l = cond-true _ _ _ (le-leb (length (history_of (b ∷ parent))) held l)

whole-below : (held : ℕ) (b : Block) (parent : Branch) → held < length (history_of (b ∷ parent))
    → whole_blocks held (b ∷ parent) ≡ whole_blocks held parent
unfolding whole_blocks
whole-below held b parent l = cond-false _ _ _ (lt-leb (length (history_of (b ∷ parent))) held l)

beginning-all : (x : Branch) (m : ℕ) → m ≡ length x → beginning m x ≡ x
beginning-all x m e = ap (λ (n : ℕ). beginning n x) e ∙ beginning-whole x

-- a part whose history is shorter than the whole one stops below the last block
below-top : (held : ℕ) (b : Block) (parent : Branch) (m : ℕ) → m ≤ length (b ∷ parent)
    → held ≡ length (history_of (beginning m (b ∷ parent))) → held < length (history_of (b ∷ parent))
    → m ≤ length parent
below-top held b parent m l e n =
    elim (cases_lt (length parent) m) [
      | inl k ↦ (
          let same = beginning-all (b ∷ parent) m (omega (arith, l, k)) in
          let all = ap (λ (y : Branch). length (history_of y)) same in
          absurd (omega (arith, all, e, n)))
      | inr k ↦ k
    ]

-- the next block isn't held whole
pub whole-cut : (held : ℕ) (x : Branch) (m : ℕ) → m < length x
    → length (history_of (beginning m x)) ≤ held → held < length (history_of (beginning (suc m) x))
    → history_of (whole_blocks held x) ≡ history_of (beginning m x)
whole-cut held [] m l low high = absurd (omega (arith, l))
whole-cut held (b ∷ parent) m l low high =
    let here = beginning-below b parent m (omega (arith, l)) in
    let down = subst (λ (y : Branch). length (history_of y) ≤ held) here low in
    let top = shorter _ _ (part-begins (suc m) (b ∷ parent)) in
    let rest : history_of (whole_blocks held parent) ≡ history_of (beginning m parent) =
    elim (cases_lt m (length parent)) [
      | inl n ↦ (
          let next = beginning-below b parent (suc m) (omega (arith, n)) in
          whole-cut held parent m n down (subst (λ (y : Branch). held < length (history_of y)) next high))
      | inr n ↦ (
          let all = beginning-all parent m (omega (arith, l, n)) in
          let fits = subst (λ (y : Branch). length (history_of y) ≤ held) all down in
          ap history_of (whole-all held parent fits ∙ sym all))
    ] in
    ap history_of (whole-below held b parent (omega (arith, top, high))) ∙ rest ∙ ap history_of (sym here)

-- all that is held are whole blocks; the next ones may be empty
pub whole-exact : (held : ℕ) (x : Branch) (m : ℕ) → m ≤ length x
    → held ≡ length (history_of (beginning m x))
    → history_of (whole_blocks held x) ≡ history_of (beginning m x)
unfolding whole_blocks beginning
whole-exact held [] m l e = refl
whole-exact held (b ∷ parent) m l e =
    elim (cases_lt held (length (history_of (b ∷ parent)))) [
      | inl n ↦ (
          let low : m ≤ length parent = below-top held b parent m l e n in
          let here = beginning-below b parent m low in
          ap history_of (whole-below held b parent n)
          ∙ whole-exact held parent m low (e ∙ ap (λ (y : Branch). length (history_of y)) here)
          ∙ ap history_of (sym here))
      | inr n ↦
          ap history_of (whole-all held (b ∷ parent) n)
          ∙ as-long _ _ (part-begins m (b ∷ parent)) (omega (arith, n, e))
    ]

-- ---- in the other order

pub any-reversed : {A : Type 0} (p : A → Bool) (xs : List A) → list_any p (reverse xs) ≡ list_any p xs
any-reversed p xs = sym (list_any-IsPermutation p xs (reverse xs) (IsPermutation-reverse xs))

pub beside-reversed : (on : List (ℕ × ℕ)) (rs : List Command)
    → first_beside (reverse on) rs ≡ first_beside on rs
beside-reversed on rs =
    ap (take MOST_COMMANDS)
    (filter-alike (λ r. not (stands_among (reverse on) r)) (λ r. not (stands_among on r))
    (λ r. ap not (any-reversed (λ (e : ℕ × ℕ). (e.0 == r.client) && (e.1 == r.seq)) on)) rs)
