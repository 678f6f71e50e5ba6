-- A replica fetches a block that it lacks.
use Rattle.ids.specs.declared.limits.TheConstants.{MOST_OF_HEIGHT}
use Rattle.std.specs.Prelude.{count_by}
use Rattle.definitions.specs.Rulings.{ruling}
use Rattle.std.proofs.Common.{ℕ, zero, suc, ◌≡◌, ◌<◌, ◌≤◌, ◌+◌, ◌⊎◌, ◌==◌, not, Bool, true, false, cond, List}
use Rattle.std.proofs.Common.{[], ◌∷◌}
use Rattle.std.proofs.Common.{◌++◌, map, filter, find, length, drop, refl, sym, ap, subst, ◌∙◌, arith, inl}
use Rattle.std.proofs.Common.{inr, nat_lt}
use Rattle.std.proofs.Common.{true≢false, Option, Some, None, option_map, slice_get, Ok}
use Rattle.std.specs.List.{AllByRecursion, list_any, list_all}
use Rattle.std.proofs.lemmas.Bool.{cond-true, cond-false, cond_both, cases_Bool, cases_eq, and_parts}
use Rattle.std.proofs.lemmas.Bool.{and_from, lt-ltb, eq-eqb, ne_eqb}
use Rattle.std.proofs.lemmas.List.{append-nil, append_assoc, map-append, length-append}
use Rattle.std.proofs.Math.Seq.{drop-append_seam}
use Rattle.ids.specs.Sizes.{Sizes, replicas}
use Rattle.definitions.specs.Bytes.{Bytes}
use Rattle.definitions.specs.Lists.{Among, AreDistinct, count_below}
use Rattle.definitions.specs.Branches.{Block, Branch, branch_eq, just2, highest}
use Rattle.definitions.specs.Chronicles.{Admitted, Chronicle, Step.took_block, taken_blocks, window, horizon, lock}
use Rattle.definitions.specs.Chronicles.{standing_blocks, stored_blocks, stored_block, executed, decided, decided_by}
use Rattle.definitions.specs.Digests.{digest_of, AllKnown}
use Rattle.definitions.specs.Frames.{Core, Frame}
use Rattle.definitions.specs.Checks.{Identity}
use Rattle.definitions.specs.States.{find_block}
use Rattle.definitions.specs.Sendings.{as_taken}
use Rattle.definitions.specs.Trees.{Stored, blocks, standing}
use Rattle.definitions.specs.Replicas.{MemorySupply.ample, Replica, Standing.running}
use Rattle.definitions.specs.Worlds.{World, Sent, Event.gather, Happening, Source, Source.of_record, new_world}
use Rattle.definitions.specs.Worlds.{is_correct, is_replica, self_of}
use Rattle.definitions.specs.Runs.{refusal, run, after, is_there}
use Rattle.definitions.specs.Events.{happens, recorded, listed, frames_of}
use Rattle.definitions.proofs.Lists.{find_some, find_none, Among-either}
use Rattle.definitions.proofs.Branches.{branch_eq-decides}
use Rattle.definitions.proofs.Chronicles.{tree-taken}
use Rattle.definitions.proofs.Counts.{found}
use Rattle.definitions.proofs.Horizons.{window-tree, window-grown}
use Rattle.definitions.proofs.Sound.{found-standing}
use Rattle.definitions.proofs.Trees.{found-itself}
use Rattle.agreement.proofs.Certified.{any-among}
use Rattle.definitions.proofs.Certificates.{IsDigest-digest_of}
use Rattle.recovery.specs.Correct.{OfCorrect, AllGoOn, ShareKeys, chronicle_of, correct_below}
use Rattle.recovery.specs.Correct.{correct_replicas, correct_with}
use Rattle.recovery.specs.Healing.{in_turn, numbers_of, sent_since, is_copy, ask_each, fetch_block}
use Rattle.recovery.specs.Fetching.{OnlyAsked, IsHolder, HasPlace, MayFetch, IsFetched, MissingBlocksAreFetched}
use Rattle.recovery.proofs.Asked.{Asked, asked-each, holders-of, answer-of, copy-at, with-copy, same-copies}
use Rattle.recovery.proofs.Asked.{gather-hands}
use Rattle.recovery.proofs.Copies.{gathered-taken, copies-of}
use Rattle.recovery.proofs.Correct.{among-correct}
use Rattle.recovery.proofs.Proposals.{standing-old}
use Rattle.recovery.proofs.Steps.{going, step-stood, frame-behind}
use Rattle.recovery.proofs.Ways.{IsOnWay, on-way-from, on-way, way-on, way-past, KnownAt}
use Rattle.recovery.proofs.Wells.{IsReached, sound-of, known-of, one-branch}
use Rattle.recovery.proofs.Worlds.{IsMadeAs, keys-in, same-correct, Passes, passes-none}
use Rattle.recovery.proofs.Worlds.{passes-one, passes-append, after-append, named}

-- ---- frames of the record

-- the frames that pass, of those behind others, are found by their numbers
pub frames-behind : (p : Frame → Bool) (v : World) (ys xs : List Sent) (k : ℕ) → v.sent ≡ xs ++ ys → length xs ≡ k
    → frames_of v (map of_record (numbers_of p k ys)) ≡ filter p (map (λ s. s.frame) ys)
unfolding numbers_of
frames-behind p v [] xs k e l = refl
frames-behind p v (s ∷ ys) xs k e l =
    let here : recorded v k ≡ Some s.frame =
    (λ i. option_map (λ z. z.frame) (slice_get (e i) (sym l i))) ∙ frame-behind xs s ys in
    let rest = frames-behind p v ys (xs ++ s ∷ []) (suc k) (e ∙ sym (append_assoc xs (s ∷ []) ys))
    (let m = length-append xs (s ∷ []) in omega (arith, m, l)) in
    by (p s.frame) here rest
  where
    by : (t : Bool) → recorded v k ≡ Some s.frame
        → frames_of v (map of_record (numbers_of p (suc k) ys)) ≡ filter p (map (λ s. s.frame) ys)
        → frames_of v (map of_record (cond t (k ∷ numbers_of p (suc k) ys) (numbers_of p (suc k) ys)))
        ≡ cond t (s.frame ∷ filter p (map (λ s. s.frame) ys)) (filter p (map (λ s. s.frame) ys))
    by true h rest = λ i. listed (h i) ++ rest i
    by false h rest = rest

-- and are there
pub numbers-there : (p : Frame → Bool) (v : World) (ys : List Sent) (k : ℕ) → k + length ys ≤ length v.sent
    → list_all (is_there v) (map of_record (numbers_of p k ys)) ≡ true
unfolding numbers_of
numbers-there p v [] k l = refl
numbers-there p v (s ∷ ys) k l =
    by (p s.frame) (lt-ltb k (length v.sent) (omega (arith, l))) (numbers-there p v ys (suc k) (omega (arith, l)))
  where
    by : (t : Bool) → nat_lt k (length v.sent) ≡ true
        → list_all (is_there v) (map of_record (numbers_of p (suc k) ys)) ≡ true
        → list_all (is_there v) (map of_record (cond t (k ∷ numbers_of p (suc k) ys) (numbers_of p (suc k) ys))) ≡ true
    by true h rest = and_from _ _ h rest
    by false h rest = rest

-- ---- who holds the block

-- what a replica answers is the block
answer-holds : (Known : Core → Type 0) (w : World) → IsReached Known w → (x : Branch) → AllKnown Known x → (u r : ℕ)
    → is_correct w r ≡ true → AllByRecursion (IsHolder w x) (answer-of w u (digest_of x) r)
answer-holds Known w g x known u r c =
    cond_both (r == u) [] (with-copy r (copy-at w (digest_of x) r)) (AllByRecursion (IsHolder w x)) (λ e. tt)
    (λ e. by (find_block (digest_of x) (chronicle_of w r)) refl)
  where
    copied : (y : Branch) (o : Option Admitted) → y ≡ x
        → find (λ a. branch_eq a.branch y) (taken_blocks (chronicle_of w r)) ≡ o
        → AllByRecursion (IsHolder w x) (with-copy r o)
    copied y None i e = tt
    copied y (Some a) i e =
        let f = find_some (λ (z : Admitted). branch_eq z.branch y) (taken_blocks (chronicle_of w r)) a e in
        ((c, f.0, (branch_eq-decides a.branch y).0 f.1 ∙ i), tt)

    by : (o : Option Branch) → find_block (digest_of x) (chronicle_of w r) ≡ o
        → AllByRecursion (IsHolder w x) (with-copy r (as_taken o (chronicle_of w r)))
    by None e = tt
    by (Some y) e =
        let f = found-standing (digest_of x) (chronicle_of w r) y e in
        let own = known-of Known w g r c y (window-tree (chronicle_of w r) y f.0) in
        copied y _ (one-branch Known w g y x own known f.1) refl

pub all-both : {A : Type 0} (P : A → Type 0) (xs ys : List A) → AllByRecursion P xs → AllByRecursion P ys
    → AllByRecursion P (xs ++ ys)
all-both P [] ys h k = k
all-both P (x ∷ xs) ys h k = (h.0, all-both P xs ys h.1 k)

holders-hold : (Known : Core → Type 0) (w : World) → IsReached Known w → (x : Branch) → AllKnown Known x → (u : ℕ)
    (rs : List ℕ) → ((r : ℕ) → Among r rs → is_correct w r ≡ true)
    → AllByRecursion (IsHolder w x) (holders-of w u (digest_of x) rs)
unfolding holders-of
holders-hold Known w g x known u [] c = tt
holders-hold Known w g x known u (r ∷ rs) c =
    all-both (IsHolder w x) (answer-of w u (digest_of x) r) (holders-of w u (digest_of x) rs)
    (answer-holds Known w g x known u r (c r (inl refl)))
    (holders-hold Known w g x known u rs (λ j m. c j (inr m)))

-- answers to one list of questions after another
holders-append : (w : World) (u : ℕ) (d : Bytes) (xs ys : List ℕ)
    → holders-of w u d (xs ++ ys) ≡ holders-of w u d xs ++ holders-of w u d ys
unfolding holders-of
holders-append w u d [] ys = refl
holders-append w u d (x ∷ xs) ys =
    ap (λ (l : List (ℕ × Admitted)). answer-of w u d x ++ l) (holders-append w u d xs ys)
    ∙ sym (append_assoc (answer-of w u d x) (holders-of w u d xs) (holders-of w u d ys))

-- numbers of those who answer
abbrev who : List (ℕ × Admitted) → List ℕ
who hs = map (λ h. h.0) hs

-- a list with one more number at its end
pub distinct-last : (xs : List ℕ) (n : ℕ) → AreDistinct xs → ((x : ℕ) → Among x xs → x < n) → AreDistinct (xs ++ n ∷ [])
distinct-last [] n d b = ((λ m. m), tt)
distinct-last (x ∷ xs) n d b = (
  λ m. elim (Among-either x xs (n ∷ []) m) [
    | inl k ↦ d.0 k
    | inr k ↦ (elim k [ inl e ↦ (let l = b x (inl refl) in absurd (omega (arith, l, e))) | inr z ↦ z ])
  ],
  distinct-last xs n d.1 (λ y m. b y (inr m)),
)

-- the answers of one
one-answers : (w : World) (u : ℕ) (d : Bytes) (r : ℕ)
    → (who (answer-of w u d r) ≡ []) ⊎ (who (answer-of w u d r) ≡ r ∷ [])
one-answers w u d r =
    cond_both (r == u) [] (with-copy r (copy-at w d r)) (λ (l : List (ℕ × Admitted)). (who l ≡ []) ⊎ (who l ≡ r ∷ []))
    (λ e. inl refl) (λ e. by (copy-at w d r))
  where
    by : (o : Option Admitted) → (who (with-copy r o) ≡ []) ⊎ (who (with-copy r o) ≡ r ∷ [])
    by None = inl refl
    by (Some a) = inr refl

-- of the correct replicas below a number: distinct, and below it
pub who-answers : (w : World) (u : ℕ) (d : Bytes) (n : ℕ)
    → AreDistinct (who (holders-of w u d (correct_below w n)))
    × ((r : ℕ) → Among r (who (holders-of w u d (correct_below w n))) → r < n)
unfolding holders-of correct_below
who-answers w u d zero = (tt, λ r m. absurd m)
who-answers w u d (suc n) =
    let rest = who-answers w u d n in
    let is = ap who (holders-append w u d (correct_below w n) (cond (is_correct w n) (n ∷ []) []))
    ∙ map-append (λ (h : ℕ × Admitted). h.0) (holders-of w u d (correct_below w n))
    (holders-of w u d (cond (is_correct w n) (n ∷ []) [])) in
    subst P (sym is) (by (is_correct w n) rest)
  where
    P : List ℕ → Type 0
    P l = AreDistinct l × ((r : ℕ) → Among r l → r < suc n)

    front : List ℕ
    front = who (holders-of w u d (correct_below w n))

    wider : AreDistinct front × ((r : ℕ) → Among r front → r < n) → P (front ++ [])
    wider h = subst P (sym (append-nil front)) (h.0, λ r m. (let k = h.1 r m in omega (arith, k)))

    longer : AreDistinct front × ((r : ℕ) → Among r front → r < n) → P (front ++ n ∷ [])
    longer h = (
      distinct-last front n h.0 h.1,
      λ r m. elim (Among-either r front (n ∷ []) m) [
        | inl k ↦ (let l = h.1 r k in omega (arith, l))
        | inr k ↦ (elim k [ inl e ↦ omega (arith, e) | inr z ↦ absurd z ])
      ],
    )

    by : (t : Bool) → AreDistinct front × ((r : ℕ) → Among r front → r < n)
        → P (front ++ who (holders-of w u d (cond t (n ∷ []) [])))
    by true h = elim (one-answers w u d n) [
      | inl e ↦ subst (λ (l : List ℕ). P (front ++ l)) (sym (ap who (append-nil (answer-of w u d n)) ∙ e)) (wider h)
      | inr e ↦ subst (λ (l : List ℕ). P (front ++ l)) (sym (ap who (append-nil (answer-of w u d n)) ∙ e)) (longer h)
    ]
    by false h = wider h

-- a replica in whose tree the block stands has a copy
copy-there : (Known : Core → Type 0) (w : World) → IsReached Known w → (b : Block) (parent : Branch) (r : ℕ)
    → is_correct w r ≡ true → Among (b ∷ parent) (window (chronicle_of w r))
    → (a : Admitted) × (copy-at w (digest_of (b ∷ parent)) r ≡ Some a)
unfolding find_block
copy-there Known w g b parent r c m =
    let x : Branch = b ∷ parent in
    let there = found-itself _ (window (chronicle_of w r)) (sound-of Known w g r c).is_tree x m in
    let taken = tree-taken (chronicle_of w r) x (window-tree (chronicle_of w r) x m) (omega arith) in
    let is = ap (λ (o : Option Branch). as_taken o (chronicle_of w r)) there in
    let copy = by (find (λ a. branch_eq a.branch x) (taken_blocks (chronicle_of w r))) refl taken in
    (copy.0, is ∙ copy.1)
  where
    by : (o : Option Admitted)
        → find (λ a. branch_eq a.branch (b ∷ parent)) (taken_blocks (chronicle_of w r)) ≡ o
        → ((a : Admitted) × Among a (taken_blocks (chronicle_of w r)) × (a.branch ≡ b ∷ parent))
        → (a : Admitted) × (o ≡ Some a)
    by (Some a) e t = (a, refl)
    by None e t = absurd (find_none (λ (a : Admitted). branch_eq a.branch (b ∷ parent))
        (taken_blocks (chronicle_of w r)) t.0 e t.1 ((branch_eq-decides t.0.branch (b ∷ parent)).1 t.2))

-- so no fewer answer than have it, where who asks doesn't
many-answer : (Known : Core → Type 0) (w : World) → IsReached Known w → (b : Block) (parent : Branch) (u n : ℕ)
    → (Among (b ∷ parent) (window (chronicle_of w u)) → ⊥)
    → count_below n (λ r. cond (is_correct w r) (list_any (branch_eq (b ∷ parent)) (window (chronicle_of w r))) false)
    ≤ length (holders-of w u (digest_of (b ∷ parent)) (correct_below w n))
unfolding holders-of correct_below count_below
many-answer Known w g b parent u zero lacks = omega arith
many-answer Known w g b parent u (suc n) lacks =
    let x : Branch = b ∷ parent in
    let d : Bytes = digest_of x in
    let rest = many-answer Known w g b parent u n lacks in
    let is = ap (λ (l : List (ℕ × Admitted)). length l)
    (holders-append w u d (correct_below w n) (cond (is_correct w n) (n ∷ []) [])) in
    let long = length-append (holders-of w u d (correct_below w n))
    (holders-of w u d (cond (is_correct w n) (n ∷ []) [])) in
    let front : ℕ = length (holders-of w u d (correct_below w n)) in
    let count : ℕ = count_below n
    (λ r. cond (is_correct w r) (list_any (branch_eq x) (window (chronicle_of w r))) false) in
    elim (cases_Bool (cond (is_correct w n) (list_any (branch_eq x) (window (chronicle_of w n))) false)) [
      | inl t ↦ (
          let c = first-true (is_correct w n) _ t in
          let m = any-among x (window (chronicle_of w n)) c.1 in
          let copy = copy-there Known w g b parent n c.0 m in
          let apart : (n ≡ u → ⊥) = λ e. lacks (subst (λ (j : ℕ). Among x (window (chronicle_of w j))) e m) in
          let one : holders-of w u d (cond (is_correct w n) (n ∷ []) []) ≡ (n, copy.0) ∷ [] =
          ap (λ (l : List ℕ). holders-of w u d l) (cond-true (is_correct w n) (n ∷ []) [] c.0)
          ∙ (append-nil (answer-of w u d n)
          ∙ (cond-false (n == u) [] (with-copy n (copy-at w d n)) (ne_eqb n u apart) ∙ ap (with-copy n) copy.1)) in
          let o = ap (λ (l : List (ℕ × Admitted)). length l) one in
          let step = cond-true (cond (is_correct w n) (list_any (branch_eq x) (window (chronicle_of w n))) false)
          (suc count) count t in
          omega (arith, rest, is, long, o, step))
      | inr f ↦ (
          let step = cond-false (cond (is_correct w n) (list_any (branch_eq x) (window (chronicle_of w n))) false)
          (suc count) count f in
          omega (arith, rest, is, long, step))
    ]
  where
    first-true : (t y : Bool) → cond t y false ≡ true → (t ≡ true) × (y ≡ true)
    first-true true y e = (refl, e)
    first-true false y e = absurd (true≢false (sym e))

-- ---- what stands

-- a block that was just taken stands
pub took-stands : (c : Chronicle) (a : Admitted) (x : Branch) → a.branch ≡ x → horizon c ≤ length x + 2
    → (a.new ≡ true) ⊎ ((a.new ≡ false) × Among x (window c)) → Among x (window (took_block a ∷ c))
unfolding window
took-stands c a x e l (inl n) =
    subst (λ (s : List Stored). Among x (blocks s))
    (sym (window-grown a c n (let k = ap (λ (z : Branch). length z) e in omega (arith, l, k)))) (inl (sym e))
took-stands c a x e l (inr old) =
    subst (λ (s : List Stored). Among x (blocks s)) (sym (standing-old a c old.0)) old.1

-- what stands is told by what was taken and forgotten
pub window-told : (c d : Chronicle) → taken_blocks d ≡ taken_blocks c → horizon d ≡ horizon c → window d ≡ window c
unfolding window standing_blocks stored_blocks
window-told c d t h = λ k. blocks (standing (h k) (map stored_block (t k)))

-- so are the lock, and what was executed, by what was taken
pub lock-told : (c d : Chronicle) → taken_blocks d ≡ taken_blocks c → lock d ≡ lock c
unfolding lock
lock-told c d t = ap (λ (l : List Admitted). highest (map (λ (a : Admitted). just2 a.branch) l)) t

pub executed-told : (c d : Chronicle) → taken_blocks d ≡ taken_blocks c → executed d ≡ executed c
unfolding executed decided
executed-told c d t = ap (λ (l : List Admitted). highest (decided_by l ++ [] ∷ [])) t

-- a place stays one
pub place-told : (self : Identity) (c d : Chronicle) (b : Block) (parent : Branch) → OnlyAsked self c d
    → HasPlace c b parent → HasPlace d b parent
place-told self c d b parent o p =
    let w = window-told c d o.0.taken o.0.forgotten in
    let h = o.0.forgotten in
    record {
      stands = subst (λ (l : List Branch). Among parent l) (sym w) p.stands;
      below = p.below;
      reach = (let r = p.reach in omega (arith, r, h));
      room = (let n = ap (λ (l : List Branch). length l) w in let r = p.room in omega (arith, n, r));
      uncrowded = subst (λ (l : List Branch). count_by (λ x. length x == suc (length parent)) l < MOST_OF_HEIGHT)
          (sym w) p.uncrowded;
      low = p.low;
    }

-- who held the block still does
holders-told : (w v : World) (x : Branch) → IsMadeAs w v
    → OfCorrect w (λ j. OnlyAsked (self_of w j) (chronicle_of w j) (chronicle_of v j)) → (hs : List (ℕ × Admitted))
    → AllByRecursion (IsHolder w x) hs → AllByRecursion (IsHolder v x) hs
holders-told w v x m only [] h = tt
holders-told w v x m only (y ∷ ys) h = (
  (
    same-correct w v m y.0 ∙ h.0.0,
    subst (λ (l : List Admitted). Among y.1 l) (sym (only y.0 h.0.0).0.taken) h.0.1,
    h.0.2,
  ),
  holders-told w v x m only ys h.1,
)

-- ---- the fetch

-- what some correct replica has is known
pub with-known : (Known : Core → Type 0) (w : World) → IsReached Known w → (x : Branch)
    → w.sizes.faults < correct_with w window x → AllKnown Known x
with-known Known w g x many =
    let some = found (replicas w.sizes)
    (λ r. cond (is_correct w r) (list_any (branch_eq x) (window (chronicle_of w r))) false) (omega (arith, many)) in
    let c = both (is_correct w some.0) _ some.1 in
    known-of Known w g some.0 c.0 x
    (window-tree (chronicle_of w some.0) x (any-among x (window (chronicle_of w some.0)) c.1))
  where
    both : (t y : Bool) → cond t y false ≡ true → (t ≡ true) × (y ≡ true)
    both true y e = (refl, e)
    both false y e = absurd (true≢false (sym e))

-- the events of a fetch
fetch-is : (d : Bytes) (u : ℕ) (w : World)
    → fetch_block d u w
    ≡ ask_each d u (correct_replicas w) w
    ++ (
      gather u (map of_record (sent_since (length w.sent) is_copy (after w (ask_each d u (correct_replicas w) w)))),
      ample,
    ) ∷ []
unfolding fetch_block in_turn
fetch-is d u w = refl

module _ (sizes : Sizes) (start : World) (all : List Happening) (w : World) (u : ℕ) (b : Block) (parent : Branch)
  where
    abbrev x : Branch
    x = b ∷ parent

    abbrev d : Bytes
    d = digest_of x

    abbrev asks : List Happening
    asks = ask_each d u (correct_replicas w) w

    -- the world after the questions, and what was answered
    abbrev pub asked_world : World
    asked_world = after w asks

    abbrev v : World
    v = asked_world

    abbrev pub answers_of : List Source
    answers_of = map of_record (sent_since (length w.sent) is_copy v)

    abbrev pub answerers : List (ℕ × Admitted)
    answerers = holders-of w u d (correct_replicas w)

    -- what is known before it gathers them
    pub record HasAsked (rest : List Happening) : Type 0 where
      pub asked : Asked w v u d (correct_replicas w)
      pub passing : Passes w asks
      pub frames : frames_of v answers_of ≡ copies-of v u answerers
      pub held : AllByRecursion (IsHolder v x) answerers
      pub ok : refusal v (gather u answers_of) ≡ None
      pub on : IsOnWay sizes start all v ((gather u answers_of, ample) ∷ rest)

    pub has-asked : (rest : List Happening) → IsOnWay sizes start all w (fetch_block d u w ++ rest) → ShareKeys w
        → AllGoOn w → is_correct w u ≡ true → AllKnown (KnownAt sizes start all) x → HasAsked rest
    has-asked rest on keys goes correct known =
        let Known : Core → Type 0 = KnownAt sizes start all in
        let cs : List ℕ = correct_replicas w in
        let end : List Happening = (gather u answers_of, ample) ∷ [] in
        let on0 = subst (IsOnWay sizes start all w) (append_assoc asks end rest)
        (subst (λ (l : List Happening). IsOnWay sizes start all w (l ++ rest)) (fetch-is d u w) on) in
        let each = asked-each sizes start all u d (IsDigest-digest_of x) cs (end ++ rest) w keys goes correct
        (among-correct w (replicas w.sizes)) on0 in
        let a = each.1 in
        let g0 = on-way sizes start all w (asks ++ (end ++ rest)) on0 in
        let onv = way-past sizes start all asks (end ++ rest) w on0 each.0 in
        let cu = same-correct w v a.made u ∙ correct in
        let drops : drop (length w.sent) v.sent ≡ a.more =
        ap (λ (l : List Sent). drop (length w.sent) l) a.sent ∙ drop-append_seam w.sent a.more in
        let there : list_all (is_there v) answers_of ≡ true =
        ap (λ (l : List Sent). list_all (is_there v) (map of_record (numbers_of is_copy (length w.sent) l))) drops
        ∙ numbers-there is_copy v a.more (length w.sent)
        (let n = ap (λ (l : List Sent). length l) a.sent in let m = length-append w.sent a.more in
        omega (arith, n, m)) in
        record {
          asked = a;
          passing = each.0;
          frames = ap (λ (l : List Sent). frames_of v (map of_record (numbers_of is_copy (length w.sent) l))) drops
              ∙ (frames-behind is_copy v a.more w.sent (length w.sent) a.sent refl
              ∙ (a.copies ∙ sym (same-copies w v u a.made answerers)));
          held = holders-told w v x a.made a.only answerers
              (holders-hold Known w g0 x known u cs (among-correct w (replicas w.sizes)));
          ok = named v (gather u answers_of) (and_parts (is_replica v u) (not (v.is_faulty u)) cu).0 there refl;
          on = onv;
        }

    -- the events of it
    pub fetch-ran : (rest : List Happening) → HasAsked rest
        → (run w (fetch_block d u w) ≡ Ok (happens v (gather u answers_of, ample)))
        × (after w (fetch_block d u w) ≡ happens v (gather u answers_of, ample))
    unfolding after
    fetch-ran rest h =
        let end : List Happening = (gather u answers_of, ample) ∷ [] in
        let last : World = happens v (gather u answers_of, ample) in (
          subst (λ (l : List Happening). run w l ≡ Ok last) (sym (fetch-is d u w))
              (passes-append w asks end h.passing (passes-one v (gather u answers_of, ample) [] h.ok (passes-none last))
              ∙ ap (λ (z : World). Ok z) (after-append w asks end)),
          ap (after w) (fetch-is d u w) ∙ after-append w asks end,
        )

    pub fetched : (rest : List Happening) → IsOnWay sizes start all w (fetch_block d u w ++ rest)
        → MayFetch w u b parent → IsFetched w (after w (fetch_block d u w)) u x
    unfolding ruling
    fetched rest on may =
        let Known : Core → Type 0 = KnownAt sizes start all in
        let g0 = on-way sizes start all w _ on in
        let p = has-asked rest on may.keys may.goes may.correct (with-known Known w g0 x may.many) in
        let a = p.asked in
        let g = on-way sizes start all v _ p.on in
        let cu = same-correct w v a.made u ∙ may.correct in
        let more : v.sizes.faults < length answerers =
        (let k = may.many in let m = many-answer Known w g0 b parent u (replicas w.sizes) may.lacks in
        let s = ap (λ (z : Sizes). z.faults) a.made.sizes in omega (arith, k, m, s)) in
        let r = gathered-taken Known v g (keys-in w v a.made may.keys) u cu b parent answerers
        (place-told (self_of w u) (chronicle_of w u) (chronicle_of v u) b parent (a.only u may.correct) may.place)
        (who-answers w u d (replicas w.sizes)).0 p.held more in
        let ev = gather u answers_of in
        let last : World = happens v (ev, ample) in
        let onl = way-on sizes start all v (ev, ample) rest p.on p.ok in
        let t = r.takes in
        let st = step-stood v ev u r.input (took_block t.0)
        (gather-hands v u answers_of (copies-of v u answerers) r.input cu (a.going_on u cu) p.frames r.passing) t.1
        onl.well.good.answers in
        let own : last.replica u ≡ going (took_block t.0 ∷ chronicle_of v u) =
        ap (λ (row : ℕ → Replica). row u) st.row
        ∙ cond-true (u == u) (going (took_block t.0 ∷ chronicle_of v u)) (v.replica u) (eq-eqb u u refl) in
        let ownc = ap (λ (y : Replica). y.chronicle) own in
        let same : (j : ℕ) → (j ≡ u → ⊥) → last.replica j ≡ v.replica j =
        λ j n. ap (λ (row : ℕ → Replica). row j) st.row
        ∙ cond-false (j == u) (going (took_block t.0 ∷ chronicle_of v u)) (v.replica j) (ne_eqb j u n) in
        let reach = may.place.reach in
        let below = may.place.below in
        let h = (a.only u may.correct).0.forgotten in
        let ends = fetch-ran rest p in
        subst (λ (z : World). IsFetched w z u x) (sym ends.1) (record {
          ran = ends.0;
          going_on = λ j c. elim (cases_eq j u) [
            | inl e ↦ subst (λ (i : ℕ). (last.replica i).standing ≡ running) (sym e)
                (ap (λ (y : Replica). y.standing) own)
            | inr n ↦ ap (λ (y : Replica). y.standing) (same j n)
                ∙ a.going_on j (sym (same-correct v last st.made j) ∙ c)
          ];
          stands = subst (λ (c : Chronicle). Among x (window c)) (sym ownc)
              (took-stands (chronicle_of v u) t.0 x t.2 (omega (arith, reach, below, h)) t.4);
          own = record {
            asked = chronicle_of v u;
            only = a.only u may.correct;
            taken = t.0;
            is = ownc;
            block_is = t.2;
            no_vote = t.3;
            new_or_there = t.4;
          };
          others = λ j c n. subst (λ (y : Replica). OnlyAsked (self_of w j) (chronicle_of w j) y.chronicle)
              (sym (same j n)) (a.only j c);
          session = st.session ∙ a.session;
        })

pub blocks-fetched : MissingBlocksAreFetched
blocks-fetched u b parent sizes is_faulty ring hs w met e may =
    let start : World = new_world sizes is_faulty ring in
    let d : Bytes = digest_of (b ∷ parent) in
    let all : List Happening = hs ++ fetch_block d u w in
    let on = on-way-from sizes is_faulty ring hs (fetch_block d u w) w met e in
    fetched sizes start all w u b parent []
    (subst (IsOnWay sizes start all w) (sym (append-nil (fetch_block d u w))) on) may
