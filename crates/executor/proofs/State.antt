-- The state of an executor after one more entry.
use Rattle.std.proofs.Common.{ℕ, zero, ◌≡◌, ◌≢◌, ◌==◌, Bool, true, false, List, [], ◌∷◌, ◌++◌, cond, refl}
use Rattle.std.proofs.Common.{sym, ap, ◌∙◌, Option, Some, None, length, suc}
use Rattle.std.proofs.lemmas.Bool.{cond-true, cond-false, eqb-true, eqb-false}
use Rattle.definitions.specs.Replies.{reply_text}
use Rattle.definitions.specs.Cache.{Cache, empty_cache, apply_payload}
use Rattle.definitions.specs.Histories.{Entry, History, Answer, is_fresh, last_seq, answer_in, last_answer}
use Rattle.definitions.specs.Histories.{answer_to, if_numbered, cache_after}
use Rattle.executor.specs.Rows.{row, numbered_after, number_in}
use Rattle.executor.specs.State.{Execution, IsStateOf, answer_at}
use Rattle.executor.proofs.Told.{fresh-is, number-is, first-answer, stale-answer, fresh-answer, others-answer}

-- a row more that nothing stands in
pub rows-more : (rows : List (Option Answer)) → ((client : ℕ) → row rows client ≡ None) → (client : ℕ)
    → row (rows ++ None ∷ []) client ≡ None
rows-more [] h zero = refl
rows-more [] h (suc client) = refl
rows-more (r ∷ rows) h zero = h zero
rows-more (r ∷ rows) h (suc client) = rows-more rows (λ c. h (suc c)) client

-- an entry's answer, made of its parts
pub answer-is : (most_keys : ℕ) (e : Entry) (h : History) (a : Answer) (place : ℕ) (text : List ℕ)
    → a ≡ record { client = e.client; seq = e.seq; place = place; text = text }
    → place ≡ suc (length h)
    → text ≡ reply_text (apply_payload (cache_after most_keys h) e.payload).1
    → a ≡ answer_in most_keys e h
answer-is most_keys e h a place text i p t = i
    ∙ (λ j. record { client = e.client; seq = e.seq; place = p j; text = t j })

-- the last answer is the one in the row
pub last-is :
    (x value : Execution) (cache : Cache) (rows : List (Option Answer)) (client : ℕ) (o : Option Answer)
    → IsStateOf x cache rows → x ≡ value → o ≡ row rows client
    → last_answer value.most_keys client value.history ≡ o
last-is x value cache rows client o s e r =
    ap (λ (y : Execution). last_answer y.most_keys client y.history) (sym e) ∙ sym (s.rows_are client) ∙ sym r

-- what is answered again
pub answer-none : (most_keys client seq : ℕ) (h : History) → last_answer most_keys client h ≡ None
    → answer_to most_keys client seq h ≡ None
unfolding answer_to
answer-none most_keys client seq h e = ap (if_numbered seq) e

pub answer-some : (most_keys client seq : ℕ) (h : History) (a : Answer) (b : Bool)
    → last_answer most_keys client h ≡ Some a → (a.seq == seq) ≡ b
    → answer_to most_keys client seq h ≡ cond b (Some a) None
unfolding answer_to
answer-some most_keys client seq h a b e k =
    ap (if_numbered seq) e ∙ ap (λ (t : Bool). cond t (Some a) None) k

-- what is answered to an entry
pub answered-fresh : (most_keys : ℕ) (e : Entry) (h : History) → is_fresh e h ≡ true
    → Some (answer_in most_keys e h) ≡ answer_at most_keys e h
answered-fresh most_keys e h k = sym (cond-true _ _ _ k)

pub answered-stale : (most_keys : ℕ) (e : Entry) (h : History) → is_fresh e h ≡ false
    → None ≡ answer_at most_keys e h
answered-stale most_keys e h k = sym (cond-false _ _ _ k)

-- at the start
pub first-state : (most_keys : ℕ) (rows : List (Option Answer)) → ((client : ℕ) → row rows client ≡ None)
    → IsStateOf (record { most_keys = most_keys; history = [] }) (empty_cache most_keys) rows
unfolding cache_after
first-state most_keys rows none = record {
  cache_is = refl;
  rows_are = λ client. none client ∙ sym (first-answer most_keys client);
}

module _ (x : Execution) (cache : Cache) (rows : List (Option Answer)) (s : IsStateOf x cache rows) where
  -- the execution with an entry more
  abbrev pub after : Entry → Execution
  after e = record x { history = e ∷ x.history }

  -- the row tells which entries are fresh
  pub fresh-by_row : (e : Entry) → is_fresh e x.history ≡ numbered_after e.seq (row rows e.client)
  fresh-by_row e = fresh-is x.most_keys e x.history ∙ ap (numbered_after e.seq) (sym (s.rows_are e.client))

  pub number-by_row : (client : ℕ) → number_in (row rows client) ≡ last_seq client x.history
  number-by_row client = ap number_in (s.rows_are client) ∙ sym (number-is x.most_keys client x.history)

  -- an entry that isn't fresh
  pub stale-state : (e : Entry) → is_fresh e x.history ≡ false → IsStateOf (after e) cache rows
  unfolding cache_after
  stale-state e k = record {
    cache_is = s.cache_is ∙ sym (cond-false _ _ _ k);
    rows_are = λ client. s.rows_are client ∙ sym (stale-answer x.most_keys client e x.history k);
  }

  -- what the payload does, and its reply
  pub fresh-reply : (e : Entry)
      → reply_text (apply_payload cache e.payload).1
      ≡ reply_text (apply_payload (cache_after x.most_keys x.history) e.payload).1
  fresh-reply e = ap (λ (c : Cache). reply_text (apply_payload c e.payload).1) s.cache_is

  -- a fresh entry
  pub fresh-state : (e : Entry) (rows' : List (Option Answer)) → is_fresh e x.history ≡ true
      → row rows' e.client ≡ Some (answer_in x.most_keys e x.history)
      → ((client : ℕ) → client ≢ e.client → row rows' client ≡ row rows client)
      → IsStateOf (after e) (apply_payload cache e.payload).0 rows'
  unfolding cache_after
  fresh-state e rows' k own others = record {
    cache_is = ap (λ (c : Cache). (apply_payload c e.payload).0) s.cache_is ∙ sym (cond-true _ _ _ k);
    rows_are = λ client. by client (client == e.client) refl;
  }
    where
      by : (client : ℕ) (b : Bool) → (client == e.client) ≡ b
          → row rows' client ≡ last_answer x.most_keys client (e ∷ x.history)
      by client true i =
          let j = eqb-true client e.client i in
          ap (row rows') j ∙ own ∙ sym (fresh-answer x.most_keys e x.history k)
          ∙ ap (λ c. last_answer x.most_keys c (e ∷ x.history)) (sym j)
      by client false i =
          let j = eqb-false client e.client i in
          others client j ∙ s.rows_are client ∙ sym (others-answer x.most_keys client e x.history j)
