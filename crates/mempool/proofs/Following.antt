-- The pool after a step of its replica.
use Rattle.ids.specs.declared.limits.TheConstants.{MOST_COMMANDS}
use Rattle.std.proofs.Common.{sym, true≢false, arith, ◌≡◌, ℕ, max, nat_lt, nat_le, Bool, true, false, cond}
use Rattle.std.proofs.Common.{◌&&◌, ◌||◌, ◌==◌, not, List, [], ◌∷◌, ◌++◌, map, filter, take, refl, ap, ◌∙◌}
use Rattle.std.proofs.Common.{if◌then◌else◌}
use Rattle.std.proofs.lemmas.Bool.{and_parts}
use Rattle.std.proofs.lemmas.List.{append-nil}
use Rattle.std.proofs.lemmas.List.Elements.{filter-append}
use Rattle.std.specs.List.{list_any}
use Rattle.definitions.specs.Frames.{Command}
use Rattle.definitions.specs.Branches.{Branch}
use Rattle.definitions.specs.Lists.{greatest}
use Rattle.definitions.specs.Histories.{Entry, History, last_seq}
use Rattle.definitions.specs.Chronicles.{Chronicle, Step, Step.took_block, Step.noted, Note.got_vote}
use Rattle.definitions.specs.Chronicles.{Note.got_new_view, Note.got_request, Note.got_fetch, Note.timed_out}
use Rattle.definitions.specs.Chronicles.{Note.beat, Note.pruned, Note.seen_view, Note.led_from, history}
use Rattle.definitions.specs.Chronicles.{executed, decided, taken_blocks}
use Rattle.definitions.specs.States.{is_due, is_same_request, pending, picks, with_request}
use Rattle.mempool.specs.Laws.{unpruned, FollowsRequest, IsForgottenBy, IsLeftBy, IsNoLead, IsPicked}
use Rattle.mempool.specs.Pool.{is_up_to, left_after, first_beside}

pub filter-alike : {A : Type 0} (p q : A → Bool) → ((x : A) → p x ≡ q x) → (xs : List A)
    → filter p xs ≡ filter q xs
filter-alike p q h [] = refl
filter-alike p q h (x ∷ xs) = λ i. cond (h x i) (x ∷ filter-alike p q h xs i) (filter-alike p q h xs i)

-- what passed a test passes it again
filter-twice : {A : Type 0} (p : A → Bool) (xs : List A) → filter p (filter p xs) ≡ filter p xs
filter-twice p [] = refl
filter-twice p (x ∷ xs) = by (p x) refl (filter-twice p xs)
  where
    by : (b : Bool) → p x ≡ b → filter p (filter p xs) ≡ filter p xs
        → filter p (if b then x ∷ filter p xs else filter p xs)
        ≡ (if b then x ∷ filter p xs else filter p xs)
    by true e rest =
        ap (λ b. if b then x ∷ filter p (filter p xs) else filter p (filter p xs)) e ∙ ap (λ l. x ∷ l) rest
    by false e rest = rest

-- what is pending after a step that is no lead
pub pending-next : (s : Step) (c : Chronicle) → IsNoLead s
    → pending (s ∷ c) ≡ filter (is_due (history (s ∷ c))) (with_request s (pending c))
unfolding pending
pending-next (took_block a) c n = refl
pending-next (noted (got_vote voter v b)) c n = refl
pending-next (noted (got_new_view view sender q b)) c n = refl
pending-next (noted (got_request r)) c n = refl
pending-next (noted (got_fetch sender b)) c n = refl
pending-next (noted timed_out) c n = refl
pending-next (noted beat) c n = refl
pending-next (noted (pruned height)) c n = refl
pending-next (noted (seen_view view sender)) c n = refl
pending-next (noted (led_from b)) c n = absurd n

-- after a lead nothing is
pub pending-led : (c : Chronicle) (b : Branch) → IsForgottenBy c b
unfolding pending
pending-led c b = refl

due-next : (s : Step) (c : Chronicle) → IsNoLead s
    → filter (is_due (history (s ∷ c))) (pending (s ∷ c)) ≡ pending (s ∷ c)
due-next s c n =
    ap (filter (is_due (history (s ∷ c)))) (pending-next s c n)
    ∙ filter-twice (is_due (history (s ∷ c))) (with_request s (pending c)) ∙ sym (pending-next s c n)

due-led : (b : Branch) (c : Chronicle)
    → filter (is_due (history (noted (led_from b) ∷ c))) (pending (noted (led_from b) ∷ c))
    ≡ pending (noted (led_from b) ∷ c)
due-led b c =
    ap (filter (is_due (history (noted (led_from b) ∷ c)))) (pending-led c b) ∙ sym (pending-led c b)

-- the pending ones are due
pub pending-due : (c : Chronicle) → filter (is_due (history c)) (pending c) ≡ pending c
unfolding pending
pending-due [] = refl
pending-due (took_block a ∷ c) = due-next (took_block a) c tt
pending-due (noted (led_from b) ∷ c) = due-led b c
pending-due (noted (got_vote voter v b) ∷ c) = due-next (noted (got_vote voter v b)) c tt
pending-due (noted (got_new_view view sender q b) ∷ c) = due-next (noted (got_new_view view sender q b)) c tt
pending-due (noted (got_request r) ∷ c) = due-next (noted (got_request r)) c tt
pending-due (noted (got_fetch sender b) ∷ c) = due-next (noted (got_fetch sender b)) c tt
pending-due (noted timed_out ∷ c) = due-next (noted timed_out) c tt
pending-due (noted beat ∷ c) = due-next (noted beat) c tt
pending-due (noted (pruned height) ∷ c) = due-next (noted (pruned height)) c tt
pending-due (noted (seen_view view sender) ∷ c) = due-next (noted (seen_view view sender)) c tt

-- a number exceeds the greater of two
above-both : (a m s : ℕ) → nat_lt (max a m) s ≡ (nat_lt m s && not (nat_le s a))
above-both a m s = grind arith

and-true : (b : Bool) → b ≡ (b && true)
and-true true = refl
and-true false = refl

-- what is due after one more entry was due before, and isn't overtaken by it
due-after : (e : Entry) (h : History) (r : Command)
    → is_due (e ∷ h) r ≡ (is_due h r && not (is_up_to e.client e.seq r))
unfolding is_due last_seq greatest
due-after e h r = by (e.client == r.client)
  where
    by : (b : Bool)
        → nat_lt (greatest (map (λ x. x.seq) (if b then e
        ∷ filter (λ x. x.client == r.client) h else filter (λ x. x.client == r.client) h))) r.seq
        ≡ (nat_lt (greatest (map (λ x. x.seq) (filter (λ x. x.client == r.client) h))) r.seq && not
        (b && nat_le r.seq e.seq))
    by true = above-both e.seq (greatest (map (λ x. x.seq) (filter (λ x. x.client == r.client) h))) r.seq
    by false = and-true _

-- two tests in one
pub filter-both : {A : Type 0} (p q : A → Bool) (xs : List A)
    → filter (λ x. p x && q x) xs ≡ filter q (filter p xs)
filter-both p q [] = refl
filter-both p q (x ∷ xs) = by (p x) (filter-both p q xs)
  where
    by : (b : Bool) → filter (λ x. p x && q x) xs ≡ filter q (filter p xs)
        → (if b && q x then x ∷ filter (λ x. p x && q x) xs else filter (λ x. p x && q x) xs)
        ≡ filter q (if b then x ∷ filter p xs else filter p xs)
    by true rest = λ i. if q x then x ∷ rest i else rest i
    by false rest = rest

-- what is due after more entries
pub due-left : (new h : History) (rs : List Command)
    → filter (is_due (new ++ h)) rs ≡ left_after new (filter (is_due h) rs)
unfolding left_after
due-left [] h rs = refl
due-left (e ∷ earlier) h rs =
    filter-alike _ _ (due-after e (earlier ++ h)) rs
    ∙ filter-both (is_due (earlier ++ h)) (λ r. not (is_up_to e.client e.seq r)) rs
    ∙ ap (filter (λ r. not (is_up_to e.client e.seq r))) (due-left earlier h rs)

pub left_by : (c : Chronicle) (s : Step) (new : History) → IsLeftBy c s new
left_by c s new n w h =
    pending-next s c n ∙ ap (filter (is_due (history (s ∷ c)))) w ∙ ap (λ l. filter (is_due l) (pending c)) h
    ∙ due-left new (history c) (pending c)
    ∙ ap (left_after new) (pending-due c)

-- a request changes no history
pub request-history : (c : Chronicle) (r : Command) → history (noted (got_request r) ∷ c) ≡ history c
unfolding history executed decided taken_blocks
request-history c r = refl

same_branches : {A : Type 0} (b : Bool) (x : A) → (if b then x else x) ≡ x
same_branches true x = refl
same_branches false x = refl

module _ (c : Chronicle) (r : Command) where
  -- the new one passes or not, the others do
  last-kept : (b : Bool) → is_due (history c) r ≡ b
      → filter (is_due (history c)) (pending c ++ r ∷ []) ≡ (if b then pending c ++ r ∷ [] else pending c)
  last-kept true e =
      filter-append (is_due (history c)) (pending c) (r ∷ [])
      ∙ ap (λ l. l ++ filter (is_due (history c)) (r ∷ [])) (pending-due c)
      ∙ ap (λ b. pending c ++ (if b then r ∷ [] else [])) e
  last-kept false e =
      filter-append (is_due (history c)) (pending c) (r ∷ [])
      ∙ ap (λ l. l ++ filter (is_due (history c)) (r ∷ [])) (pending-due c)
      ∙ ap (λ b. pending c ++ (if b then r ∷ [] else [])) e ∙ append-nil (pending c)

  joined : (b : Bool) → is_due (history c) r ≡ b → (known : Bool)
      → filter (is_due (history c)) (if known then pending c else pending c ++ r ∷ [])
      ≡ (if known then pending c else (if b then pending c ++ r ∷ [] else pending c))
  joined b e true = pending-due c
  joined b e false = last-kept b e

  at_request : pending (noted (got_request r) ∷ c)
      ≡ filter (is_due (history c)) (with_request (noted (got_request r)) (pending c))
  unfolding pending
  at_request =
      ap (λ h. filter (is_due h) (with_request (noted (got_request r)) (pending c))) (request-history c r)

  pub follows_request : FollowsRequest c r
  follows_request = record {
    due = λ e. at_request ∙ joined true e (list_any (is_same_request r) (pending c));
    late =
        λ e. at_request ∙ joined false e (list_any (is_same_request r) (pending c))
        ∙ same_branches (list_any (is_same_request r) (pending c)) (pending c);
  }

pub any-mapped : {A B : Type 0} (f : A → B) (p : B → Bool) (xs : List A)
    → list_any p (map f xs) ≡ list_any (λ x. p (f x)) xs
any-mapped f p [] = refl
any-mapped f p (x ∷ xs) = ap (λ b. p (f x) || b) (any-mapped f p xs)

-- whether an entry has the client and number of a request
abbrev is_entry_of : Command → Entry → Bool
is_entry_of r e = (e.client == r.client) && (e.seq == r.seq)

picked-whole : (c : Chronicle) (on : Branch)
    → first_beside (map (λ e. (e.client, e.seq)) (unpruned c on)) (pending c) ≡ picks c on
unfolding picks
picked-whole c on = ap (take MOST_COMMANDS) (filter-alike _ _
    (λ r. ap not (any-mapped (λ (e : Entry). (e.client, e.seq)) (λ e. (e.0 == r.client) && (e.1 == r.seq))
    (unpruned c on))) (pending c))

-- a request that isn't overtaken by an entry is another one
apart : (a : Bool) (m n : ℕ) → not (a && nat_le n m) ≡ true → (a && (m == n)) ≡ false
apart true m n h = grind arith
apart false m n h = refl

-- a due request stands nowhere in the history
not-executed : (h : History) (r : Command) → is_due h r ≡ true → list_any (is_entry_of r) h ≡ false
not-executed [] r d = refl
not-executed (e ∷ h) r d =
    let two = and_parts (is_due h r) (not (is_up_to e.client e.seq r)) (sym (due-after e h r) ∙ d) in
    ap (λ b. b || list_any (is_entry_of r) h) (apart (e.client == r.client) e.seq r.seq two.1)
    ∙ not-executed h r two.0

any-appended : {A : Type 0} (p : A → Bool) (xs ys : List A) → list_any p ys ≡ false
    → list_any p (xs ++ ys) ≡ list_any p xs
any-appended p [] ys none = none
any-appended p (x ∷ xs) ys none = ap (λ b. p x || b) (any-appended p xs ys none)

any-first : {A : Type 0} (p : A → Bool) (xs ys : List A) → list_any p (xs ++ ys) ≡ false
    → list_any p xs ≡ false
any-first p [] ys none = refl
any-first p (x ∷ xs) ys none = by (p x) (any-first p xs ys) none
  where
    by : (b : Bool) → (list_any p (xs ++ ys) ≡ false → list_any p xs ≡ false)
        → (b || list_any p (xs ++ ys)) ≡ false → (b || list_any p xs) ≡ false
    by true rest h = absurd (true≢false h)
    by false rest h = rest h

-- tests that agree where a third one passes
filter-alike-where : {A : Type 0} (d p q : A → Bool) → ((x : A) → d x ≡ true → p x ≡ q x) → (xs : List A)
    → filter p (filter d xs) ≡ filter q (filter d xs)
filter-alike-where d p q h [] = refl
filter-alike-where d p q h (x ∷ xs) = by (d x) (h x) (filter-alike-where d p q h xs)
  where
    by : (b : Bool) → (b ≡ true → p x ≡ q x) → filter p (filter d xs) ≡ filter q (filter d xs)
        → filter p (if b then x ∷ filter d xs else filter d xs)
        ≡ filter q (if b then x ∷ filter d xs else filter d xs)
    by true same rest = λ i. cond (same refl i) (x ∷ rest i) (rest i)
    by false same rest = rest

picked-above : (c : Chronicle) (on : Branch) (new old older : History) → unpruned c on ≡ new ++ old
    → history c ≡ old ++ older
    → first_beside (map (λ e. (e.client, e.seq)) new) (pending c) ≡ picks c on
unfolding picks
picked-above c on new old older goes is =
    let beside : History → Command → Bool = λ h r. not (list_any (is_entry_of r) h) in
    ap (take MOST_COMMANDS) (filter-alike _ (beside new)
    (λ r. ap not
    (any-mapped (λ (e : Entry). (e.client, e.seq)) (λ e. (e.0 == r.client) && (e.1 == r.seq)) new))
    (pending c)
    ∙ ap (filter (beside new)) (sym (pending-due c))
    ∙ filter-alike-where (is_due (history c)) (beside new) (beside (new ++ old))
    (λ r d. ap not (sym (any-appended (is_entry_of r) new old (any-first (is_entry_of r) old older
    (ap (list_any (is_entry_of r)) (sym is) ∙ not-executed (history c) r d)))))
    (pending c)
    ∙ ap (filter (beside (new ++ old))) (pending-due c)
    ∙ ap (λ h. filter (beside h) (pending c)) (sym goes))

pub picked : (c : Chronicle) (on : Branch) → IsPicked c on
picked c on = record { whole = picked-whole c on; above = picked-above c on }
