-- What is kept of all blocks: one more vote, and fewer.
use Rattle.std.proofs.Common.{ℕ, ◌≡◌, ◌<◌, Result, Ok, Err, arith, Bool, true, false, cond}
use Rattle.std.proofs.Common.{Option, Some, None, List, [], ◌∷◌, refl, sym, ap, subst, ◌∙◌, nat_lt}
use Rattle.std.proofs.Common.{bytes_eq, true≢false}
use Rattle.std.specs.List.{AllByRecursion, flat_map}
use Rattle.std.specs.Map.{lookup, set_value}
use Rattle.std.specs.BTreeMap.{insert_entry, is_at}
use Rattle.std.specs.Ordering.{nat_cmp, is_eq, match_ordering}
use Rattle.std.specs.declared.cmp.Ordering.{Ordering}
use Rattle.std.specs.declared.cmp.Ordering.TheVariants.{Less, Equal, Greater}
use Rattle.std.specs.Option.{unwrap_or}
use Rattle.std.specs.Cmp.Lexicographic.{slice_cmp}
use Rattle.std.proofs.lemmas.Bool.{cond_both, cond-true, cond-false, ltb-true}
use Rattle.std.proofs.lemmas.Slice.Eq.{bytes_eq-Decides}
use Rattle.std.proofs.lemmas.Map.Text.{is_eq-slice_cmp}
use Rattle.definitions.specs.Bytes.{Bytes}
use Rattle.definitions.specs.Frames.{Vote, vote_bytes}
use Rattle.definitions.specs.States.{insert_vote}
use Rattle.definitions.proofs.Certificates.{all-insert_vote, length-insert_vote}
use Rattle.definitions.proofs.Trees.{same_bytes}
use Rattle.vote_collector.specs.Collecting.{Entry, VotesByDigest, votes_in, entry_for, votes_for, judged}
use Rattle.vote_collector.specs.Collecting.{with_vote}
use Rattle.vote_collector.specs.Collecting.{with_vote_to, kept_above, AreVotesOf}
use Rattle.ids.specs.Sizes.{Sizes, quorum}
use Rattle.definitions.specs.FrameLimits.{IsVote}
use Rattle.frames_view.specs.Spelled.{AreVotes}
use Rattle.std.proofs.lemmas.Map.Steps.{set_value_same}
use Rattle.std.specs.Prelude.{OnOk, OnErr}
use Rattle.vote_collector.specs.declared.added.Added.TheVariants.{Complete}
use Rattle.vote_collector.proofs.Ballots.{Says, judged-says}

-- ---- what is kept, seen as a function of the digest

-- beside what is kept of its block, which is of this height
abbrev pub entry_with : ℕ → Vote → Option Entry → Entry
entry_with height b None = record { height = height; votes = b ∷ [] }
entry_with height b (Some e) = record { height = e.height; votes = insert_vote b e.votes }

pub votes-with : (height : ℕ) (b : Vote) (o : Option Entry)
    → votes_in (Some (entry_with height b o)) ≡ insert_vote b (votes_in o)
unfolding insert_vote
votes-with height b None = refl
votes-with height b (Some e) = refl

-- what is kept for each digest
abbrev pub Seen : Type 0
Seen = Bytes → Option Entry

abbrev pub votes_at : Bytes → Seen → List Vote
votes_at d kept = votes_in (kept d)

-- one more vote for the block of this digest and height
abbrev pub seen_with : Bytes → ℕ → Vote → Seen → Seen
seen_with digest height b kept d =
    cond (bytes_eq digest d) (Some (entry_with height b (kept digest))) (kept d)

-- what is left where the votes for blocks of at most this height are forgotten
abbrev pub entry_above : ℕ → Option Entry → Option Entry
entry_above height None = None
entry_above height (Some e) = cond (nat_lt height e.height) (Some e) None

abbrev pub seen_above : ℕ → Seen → Seen
seen_above height kept d = entry_above height (kept d)

abbrev pub seen : VotesByDigest → Seen
seen kept d = entry_for d kept

-- a test of bytes goes either way
turned : (a b : Bytes) → bytes_eq a b ≡ bytes_eq b a
turned a b = go (bytes_eq a b) (bytes_eq b a) refl refl
  where
    go : (t u : Bool) → bytes_eq a b ≡ t → bytes_eq b a ≡ u → t ≡ u
    go true true e f = refl
    go false false e f = refl
    go true false e f = absurd (true≢false (sym ((bytes_eq-Decides b a).1 (sym (same_bytes a b e))) ∙ f))
    go false true e f = absurd (true≢false (sym ((bytes_eq-Decides a b).1 (sym (same_bytes b a f))) ∙ e))

-- a choice by two tests that don't both pass
choices : (a b : Bool) (p q r : Option Entry) → (a ≡ true → b ≡ true → ⊥)
    → cond a p (cond b q r) ≡ cond b q (cond a p r)
choices true true p q r apart = absurd (apart refl refl)
choices true false p q r apart = refl
choices false b p q r apart = refl

-- a choice by one test twice
chosen : (a b : Bool) (p q r : Option Entry) → a ≡ b → cond a p r ≡ cond b p (cond a q r)
chosen true true p q r e = refl
chosen false false p q r e = refl
chosen true false p q r e = absurd (true≢false e)
chosen false true p q r e = absurd (true≢false (sym e))

-- a vote that is put in
module _ (d : Bytes) (e : Entry) (x : Bytes) where
  apart : (y : Bytes) → bytes_eq d y ≡ false → bytes_eq x y ≡ true → bytes_eq d x ≡ true → ⊥
  apart y other a b =
      true≢false (sym ((bytes_eq-Decides d y).1 (same_bytes d x b ∙ same_bytes x y a)) ∙ other)

  put-set : (kept : VotesByDigest) (old : Entry) → entry_for d kept ≡ Some old
      → entry_for x (set_value (λ y. bytes_eq d y) kept e) ≡ cond (bytes_eq d x) (Some e) (entry_for x kept)
  put-set [] old is = absurd (let no : None ≡ Some old → ⊥ = λ k. cc in no is)
  put-set (y ∷ ys) old is =
      let P : Bool → Type 0 = λ t. bytes_eq d y.0 ≡ t → cond t (Some y.1) (entry_for d ys) ≡ Some old
      → entry_for x (cond t ((y.0, e) ∷ ys) (y ∷ set_value (λ y. bytes_eq d y) ys e))
      ≡ cond (bytes_eq d x) (Some e) (cond (bytes_eq x y.0) (Some y.1) (entry_for x ys)) in
      let both : (t : Bool) → P t = elim [
        | true ↦ λ same found. chosen (bytes_eq x y.0) (bytes_eq d x) (Some e) (Some y.1) (entry_for x ys)
            (turned x y.0 ∙ ap (λ (z : Bytes). bytes_eq z x) (sym (same_bytes d y.0 same)))
        | false ↦ λ other found.
            ap (λ (o : Option Entry). cond (bytes_eq x y.0) (Some y.1) o) (put-set ys old found)
            ∙ choices (bytes_eq x y.0) (bytes_eq d x) (Some y.1) (Some e) (entry_for x ys)
            (λ a b. apart y.0 other a b)
      ] in
      both (bytes_eq d y.0) refl is

  put-new : (kept : VotesByDigest) → entry_for d kept ≡ None
      → entry_for x (insert_entry (slice_cmp nat_cmp) kept d e)
      ≡ cond (bytes_eq d x) (Some e) (entry_for x kept)
  put-new [] none = ap (λ (t : Bool). cond t (Some e) None) (turned x d)
  put-new (y ∷ ys) none =
      let P : Bool → Type 0 = λ t. bytes_eq d y.0 ≡ t → cond t (Some y.1) (entry_for d ys) ≡ None
      → entry_for x (insert_entry (slice_cmp nat_cmp) (y ∷ ys) d e)
      ≡ cond (bytes_eq d x) (Some e) (entry_for x (y ∷ ys)) in
      let both : (t : Bool) → P t = elim [
        | true ↦ λ same found. absurd (let no : Some y.1 ≡ None → ⊥ = λ k. cc in no found)
        | false ↦ λ other found.
            let Q : Ordering → Type 0 =
            λ o. is_eq o ≡ false
            → entry_for x (match_ordering o ((d, e) ∷ y ∷ ys) ((y.0, e) ∷ ys)
            (y ∷ insert_entry (slice_cmp nat_cmp) ys d e))
            ≡ cond (bytes_eq d x) (Some e) (entry_for x (y ∷ ys)) in
            let each : (o : Ordering) → Q o = elim [
              | Less ↦ λ k. ap (λ (t : Bool). cond t (Some e) (entry_for x (y ∷ ys))) (turned x d)
              | Equal ↦ λ k. absurd (true≢false k)
              | Greater ↦ λ k.
                  ap (λ (o : Option Entry). cond (bytes_eq x y.0) (Some y.1) o) (put-new ys found)
                  ∙ choices (bytes_eq x y.0) (bytes_eq d x) (Some y.1) (Some e) (entry_for x ys)
                  (λ a b. apart y.0 other a b)
            ] in
            each (slice_cmp nat_cmp d y.0) (is_eq-slice_cmp d y.0 ∙ other)
      ] in
      both (bytes_eq d y.0) refl none

pub seen-with : (d : Bytes) (height : ℕ) (b : Vote) (kept : VotesByDigest) (x : Bytes)
    → seen (with_vote d height b kept) x ≡ seen_with d height b (seen kept) x
seen-with d height b kept x = go (entry_for d kept) refl
  where
    go : (o : Option Entry) → entry_for d kept ≡ o
        → entry_for x (with_vote_to o d height b kept)
        ≡ cond (bytes_eq d x) (Some (entry_with height b o)) (entry_for x kept)
    go None e = put-new d (entry_with height b None) x kept e
    go (Some old) e = put-set d (entry_with height b (Some old)) x kept old e

-- ---- what holds of each entry

module _ (P : Bytes × Entry → Type 0) where
  -- it holds of one that is found
  pub all-found : (kept : VotesByDigest) (d : Bytes) (e : Entry) → AllByRecursion P kept
      → entry_for d kept ≡ Some e
      → P (d, e)
  all-found [] d e h is = absurd (let no : None ≡ Some e → ⊥ = λ k. cc in no is)
  all-found (x ∷ xs) d e h is =
      let Q : Bool → Type 0 =
      λ t. bytes_eq d x.0 ≡ t → cond t (Some x.1) (entry_for d xs) ≡ Some e → P (d, e) in
      let both : (t : Bool) → Q t = elim [
        | true ↦ λ same found. subst (λ (y : Entry). P (d, y))
            (ap (λ (o : Option Entry). unwrap_or o e) found)
            (subst (λ (k : Bytes). P (k, x.1)) (sym (same_bytes d x.0 same)) h.0)
        | false ↦ λ other found. all-found xs d e h.1 found
      ] in
      both (bytes_eq d x.0) refl is

  all-new : (kept : VotesByDigest) (d : Bytes) (e : Entry) → P (d, e) → AllByRecursion P kept
      → AllByRecursion P (insert_entry (slice_cmp nat_cmp) kept d e)
  all-new [] d e p h = (p, tt)
  all-new (x ∷ xs) d e p h =
      let Q : Ordering → Type 0 =
      λ o. slice_cmp nat_cmp d x.0 ≡ o
      → AllByRecursion P (match_ordering o ((d, e) ∷ x ∷ xs) ((x.0, e) ∷ xs)
      (x ∷ insert_entry (slice_cmp nat_cmp) xs d e)) in
      let each : (o : Ordering) → Q o = elim [
        | Less ↦ λ k. (p, h)
        | Equal ↦ λ k. (
          subst (λ (y : Bytes). P (y, e))
              (same_bytes d x.0 (sym (is_eq-slice_cmp d x.0) ∙ ap is_eq k)) p,
          h.1,
        )
        | Greater ↦ λ k. (h.0, all-new xs d e p h.1)
      ] in
      each (slice_cmp nat_cmp d x.0) refl

  all-set : (kept : VotesByDigest) (d : Bytes) (e : Entry) → P (d, e) → AllByRecursion P kept
      → AllByRecursion P (set_value (λ y. bytes_eq d y) kept e)
  all-set [] d e p h = tt
  all-set (x ∷ xs) d e p h =
      cond_both (bytes_eq d x.0) ((x.0, e) ∷ xs) (x ∷ set_value (λ y. bytes_eq d y) xs e)
      (λ (l : VotesByDigest). AllByRecursion P l)
      (λ same. (subst (λ (y : Bytes). P (y, e)) (same_bytes d x.0 same) p, h.1))
      (λ other. (h.0, all-set xs d e p h.1))

  pub all-with : (kept : VotesByDigest) (d : Bytes) (height : ℕ) (b : Vote)
      → P (d, entry_with height b (entry_for d kept)) → AllByRecursion P kept
      → AllByRecursion P (with_vote d height b kept)
  all-with kept d height b p h = go (entry_for d kept) p
    where
      go : (o : Option Entry) → P (d, entry_with height b o)
          → AllByRecursion P (with_vote_to o d height b kept)
      go None q = all-new kept d (entry_with height b None) q h
      go (Some old) q = all-set kept d (entry_with height b (Some old)) q h

  pub all-above : (Q : Bytes × Entry → Type 0) (height : ℕ)
      → ((e : Bytes × Entry) → P e → height < e.1.height → Q e) → (kept : VotesByDigest)
      → AllByRecursion P kept
      → AllByRecursion Q (kept_above height kept)
  all-above Q height f [] h = tt
  all-above Q height f (x ∷ xs) h =
      cond_both (nat_lt height x.1.height) (x ∷ kept_above height xs) (kept_above height xs)
      (λ (l : VotesByDigest). AllByRecursion Q l)
      (λ e. (f x h.0 (ltb-true height x.1.height e), all-above Q height f xs h.1))
      (λ e. all-above Q height f xs h.1)

  -- where entries of one digest are of one height, dropping by heights is dropping by digests
  module _ (one : (x y : Bytes × Entry) → P x → P y → x.0 ≡ y.0 → x.1.height ≡ y.1.height) (height : ℕ)
      (d : Bytes) where
    none-left : (x : Bytes × Entry) → P x → bytes_eq d x.0 ≡ true → nat_lt height x.1.height ≡ false
        → (kept : VotesByDigest) → AllByRecursion P kept → entry_for d (kept_above height kept) ≡ None
    none-left x p is low [] h = refl
    none-left x p is low (y ∷ ys) h =
        cond_both (nat_lt height y.1.height) (y ∷ kept_above height ys) (kept_above height ys)
        (λ (l : VotesByDigest). entry_for d l ≡ None)
        (λ high. cond_both (bytes_eq d y.0) (Some y.1) (entry_for d (kept_above height ys))
        (λ (o : Option Entry). o ≡ None)
        (λ same. absurd (true≢false (sym high
        ∙ ap (nat_lt height) (one y x h.0 p (sym (same_bytes d y.0 same) ∙ same_bytes d x.0 is))
        ∙ low)))
        (λ other. none-left x p is low ys h.1))
        (λ le. none-left x p is low ys h.1)

    pub seen-above : (kept : VotesByDigest) → AllByRecursion P kept
        → entry_for d (kept_above height kept) ≡ entry_above height (entry_for d kept)
    seen-above [] h = refl
    seen-above (y ∷ ys) h =
        let Q : Bool → Bool → Type 0 = λ t u. bytes_eq d y.0 ≡ t → nat_lt height y.1.height ≡ u
        → entry_for d (cond u (y ∷ kept_above height ys) (kept_above height ys))
        ≡ entry_above height (cond t (Some y.1) (entry_for d ys)) in
        let each : (t u : Bool) → Q t u = elim [
          | true ↦ elim [
            | true ↦
                λ same high. cond-true (bytes_eq d y.0) (Some y.1) (entry_for d (kept_above height ys)) same
                ∙ sym (cond-true (nat_lt height y.1.height) (Some y.1) None high)
            | false ↦
                λ same low. none-left y h.0 same low ys h.1
                ∙ sym (cond-false (nat_lt height y.1.height) (Some y.1) None low)
          ]
          | false ↦ elim [
            | true ↦
                λ other high. cond-false (bytes_eq d y.0) (Some y.1) (entry_for d (kept_above height ys))
                other ∙ seen-above ys h.1
            | false ↦ λ other low. seen-above ys h.1
          ]
        ] in
        each (bytes_eq d y.0) (nat_lt height y.1.height) refl refl

-- a look-up by order is one by bytes
pub found-by : (d : Bytes) (kept : VotesByDigest)
    → lookup (is_at (slice_cmp nat_cmp d)) kept ≡ entry_for d kept
found-by d kept = ap (λ (t : Bytes → Bool). lookup t kept) (λ i x. is_eq-slice_cmp d x i)

-- a value is put in by order as it is by bytes
pub put-by : (d : Bytes) (kept : VotesByDigest) (e : Entry)
    → set_value (is_at (slice_cmp nat_cmp d)) kept e ≡ set_value (λ x. bytes_eq d x) kept e
put-by d kept e = ap (λ (t : Bytes → Bool). set_value t kept e) (λ i x. is_eq-slice_cmp d x i)

-- ---- what the code finds and leaves

module _ (d : Bytes) (kept : VotesByDigest) where
  abbrev by_order : Bytes → Bool
  by_order = is_at (slice_cmp nat_cmp d)

  pub found-votes : (old : Entry) → Some old ≡ lookup by_order kept → old.votes ≡ votes_for d kept
  found-votes old is = ap votes_in (is ∙ found-by d kept)

  pub found-none : None ≡ lookup by_order kept → [] ≡ votes_for d kept
  found-none is = ap votes_in (is ∙ found-by d kept)

  pub written-more : (height : ℕ) (b : Vote) (old w : Entry) (new : VotesByDigest)
      → Some old ≡ lookup by_order kept
      → new ≡ set_value by_order kept w
      → w ≡ record { height = old.height; votes = insert_vote b old.votes } → new ≡ with_vote d height b kept
  written-more height b old w new is set e =
      set ∙ ap (set_value by_order kept) e
      ∙ put-by d kept (record { height = old.height; votes = insert_vote b old.votes })
      ∙ ap (λ (o : Option Entry). with_vote_to o d height b kept) (is ∙ found-by d kept)

  pub written-same : (old w : Entry) (new : VotesByDigest) → Some old ≡ lookup by_order kept
      → new ≡ set_value by_order kept w → w ≡ old → new ≡ kept
  written-same old w new is set e =
      set ∙ set_value_same by_order kept w (sym is ∙ ap (λ (x : Entry). Some x) (sym e))

  pub written-first : (height : ℕ) (b : Vote) (e : Entry) (new : VotesByDigest) → None ≡ lookup by_order kept
      → new ≡ insert_entry (slice_cmp nat_cmp) kept d e
      → e ≡ record { height = height; votes = b ∷ [] } → new ≡ with_vote d height b kept
  written-first height b e new is put same =
      put ∙ ap (insert_entry (slice_cmp nat_cmp) kept d) same
      ∙ ap (λ (o : Option Entry). with_vote_to o d height b kept) (is ∙ found-by d kept)

-- ---- votes at these sizes

module _ (sizes : Sizes) (kept : VotesByDigest) (all : AreVotesOf sizes kept) where
  abbrev Fit : Bytes × Entry → Type 0
  Fit e = AllByRecursion (IsVote sizes) e.1.votes

  fit-for : (d : Bytes) → AllByRecursion (IsVote sizes) (votes_for d kept)
  fit-for d = go (entry_for d kept) refl
    where
      go : (o : Option Entry) → entry_for d kept ≡ o → AllByRecursion (IsVote sizes) (votes_in o)
      go None e = tt
      go (Some x) e = all-found Fit kept d x all e

  pub fit-with : (d : Bytes) (height : ℕ) (b : Vote) → IsVote sizes b
      → AreVotesOf sizes (with_vote d height b kept)
  fit-with d height b hb = all-with Fit kept d height b
      (subst (λ (l : List Vote). AllByRecursion (IsVote sizes) l)
      (sym (votes-with height b (entry_for d kept)))
      (all-insert_vote (IsVote sizes) b (votes_for d kept) hb (fit-for d))) all

  pub fit-above : (height : ℕ) → AreVotesOf sizes (kept_above height kept)
  fit-above height = all-above Fit Fit height (λ e h l. h) kept all

  -- the votes of a certificate
  pub fit-made : (d : Bytes) (b : Vote) (bytes : Bytes) → IsVote sizes b
      → judged (quorum sizes) b.voter (votes_for d kept) ≡ Complete
      → bytes ≡ flat_map vote_bytes (insert_vote b (votes_for d kept))
      → AreVotes sizes (quorum sizes) bytes (insert_vote b (votes_for d kept))
  fit-made d b bytes hb judgement spelled =
      let told : Says (quorum sizes) b.voter (votes_for d kept) Complete =
      subst (Says (quorum sizes) b.voter (votes_for d kept)) judgement
      (judged-says (quorum sizes) b.voter (votes_for d kept)) in
      let full = told.1 in
      let n = length-insert_vote b (votes_for d kept) in
      (all-insert_vote (IsVote sizes) b (votes_for d kept) hb (fit-for d), omega (arith, n, full), spelled)

-- ---- outcomes

pub on_ok : {T E X Y : Type 0} (r : Result T E) → OnOk r X → (X → Y) → OnOk r Y
on_ok (Ok x) h f = f h
on_ok (Err y) h f = tt

pub on_err : {T E X Y : Type 0} (r : Result T E) → OnErr r X → (X → Y) → OnErr r Y
on_err (Ok x) h f = tt
on_err (Err y) h f = f h

-- what follows from either outcome
pub either : {T E X Y Z : Type 0} (r : Result T E) → OnOk r X → OnErr r Y → (X → Z) → (Y → Z) → Z
either (Ok x) a b f g = f a
either (Err y) a b f g = g b
