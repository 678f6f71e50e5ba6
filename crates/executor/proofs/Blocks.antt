-- Executing a block, command by command.
use Rattle.std.proofs.Common.{ℕ, ◌≡◌, ◌-◌, ◌<◌, Bool, true, false, List, [], ◌∷◌, ◌++◌, cond, length}
use Rattle.std.proofs.Common.{length-append, take, reverse, map, refl, sym, ap, ◌∙◌, arith, append_assoc}
use Rattle.std.proofs.Common.{Option, Some, None, option_to_list}
use Rattle.std.proofs.lemmas.List.{reverse-append, map-append, append-nil}
use Rattle.std.proofs.Math.Seq.{take-append_seam}
use Rattle.definitions.specs.Frames.{Command}
use Rattle.definitions.specs.Histories.{Entry, entry_of, History, Answer, is_fresh, answer_in, answers}
use Rattle.executor.specs.State.{answer_at, with_commands, new_answers}

-- The commands so far were executed, and the others are left; what was told are the answers that were added.
pub record IsRun (most_keys : ℕ) (all left : List Command) (old now : History) (told : List Answer) : Type 0 where
  pub done : List Command
  pub all_are : done ++ left ≡ all
  pub now_is : now ≡ with_commands done old
  pub added : List Answer
  pub answers_are : answers most_keys now ≡ added ++ answers most_keys old
  pub told_are : told ≡ reverse added

-- at the start
pub run-starts : (most_keys : ℕ) (all : List Command) (old : History) (told : List Answer) → told ≡ []
    → IsRun most_keys all all old old told
run-starts most_keys all old told e = record {
  done = [];
  all_are = refl;
  now_is = refl;
  added = [];
  answers_are =
      refl;
  told_are = e;
}

-- one command more
with-one : (done : List Command) (c : Command) (old : History)
    → with_commands (done ++ c ∷ []) old ≡ entry_of c ∷ with_commands done old
with-one done c old = ap (λ (l : History). reverse l ++ old) (map-append entry_of done (c ∷ []))
    ∙ ap (λ (l : History). l ++ old) (reverse-append (map entry_of done) (entry_of c ∷ []))

-- the answers that its entry adds
added-one : (most_keys : ℕ) (e : Entry) (h : History) → answers most_keys (e ∷ h) ≡ option_to_list (answer_at most_keys e h) ++ answers most_keys h
unfolding answers
added-one most_keys e h = by (is_fresh e h)
  where
    by : (t : Bool)
        → cond t (answer_in most_keys e h ∷ answers most_keys h) (answers most_keys h)
        ≡ option_to_list (cond t (Some (answer_in most_keys e h)) None) ++ answers most_keys h
    by true = refl
    by false = refl

told-one : (o : Option Answer) (added : List Answer)
    → reverse added ++ option_to_list o ≡ reverse (option_to_list o ++ added)
told-one None added = append-nil (reverse added)
told-one (Some a) added = sym (reverse-append (a ∷ []) added)

pub run-goes_on :
    (most_keys : ℕ) (all left rest : List Command) (old now new : History) (told more : List Answer) (c : Command)
    → IsRun most_keys all left old now told
    → left ≡ c ∷ rest → new ≡ entry_of c ∷ now → more ≡ told ++ option_to_list (answer_at most_keys (entry_of c) now)
    → IsRun most_keys all rest old new more
run-goes_on most_keys all left rest old now new told more c r l n m =
    let o = answer_at most_keys (entry_of c) now in
    record {
      done = r.done ++ c ∷ [];
      all_are = append_assoc r.done (c ∷ []) rest ∙ ap (λ (x : List Command). r.done ++ x) (sym l)
          ∙ r.all_are;
      now_is = n ∙ ap (λ (h : History). entry_of c ∷ h) r.now_is ∙ sym (with-one r.done c old);
      added = option_to_list o ++ r.added;
      answers_are = ap (answers most_keys) n ∙ added-one most_keys (entry_of c) now
          ∙ ap (λ (x : List Answer). option_to_list o ++ x) r.answers_are
          ∙ sym (append_assoc (option_to_list o) r.added (answers most_keys old));
      told_are = m ∙ ap (λ (x : List Answer). x ++ option_to_list o) r.told_are ∙ told-one o r.added;
    }

-- ---- where it ends

-- all were executed
pub run-ends : (most_keys : ℕ) (all left : List Command) (old now : History) (told : List Answer)
    → IsRun most_keys all left old now told → left ≡ [] → now ≡ with_commands all old
run-ends most_keys all left old now told r e = r.now_is
    ∙ ap (λ (l : List Command). with_commands l old) (sym (append-nil r.done)
    ∙ ap (λ (x : List Command). r.done ++ x) (sym e) ∙ r.all_are)

-- what was told are the new answers
pub run-tells : (most_keys : ℕ) (all left : List Command) (old now : History) (told : List Answer)
    → IsRun most_keys all left old now told → told ≡ new_answers most_keys old now
run-tells most_keys all left old now told r =
    let size = length-append r.added (answers most_keys old) in
    let count : length (r.added ++ answers most_keys old) - length (answers most_keys old) ≡ length r.added =
    omega (arith, size) in
    r.told_are ∙ ap reverse (sym (take-append_seam r.added (answers most_keys old))
    ∙ ap (λ n. take n (r.added ++ answers most_keys old)) (sym count))
    ∙ ap (λ (l : List Answer). reverse (take (length l - length (answers most_keys old)) l)) (sym r.answers_are)

-- those before a command were executed, and no more changed
pub run-stops : (most_keys : ℕ) (all left rest : List Command) (c : Command) (old now held : History) (told : List Answer)
    → IsRun most_keys all left old now told → left ≡ c ∷ rest → held ≡ now
    → (k : ℕ) × (k < length all) × (held ≡ with_commands (take k all) old)
run-stops most_keys all left rest c old now held told r l e =
    let size = length-append r.done left in
    let some = ap length l in
    let whole = ap length r.all_are in
    let few : length r.done < length all = omega (arith, size, some, whole) in (
      length r.done,
      few,
      e ∙ r.now_is
          ∙ ap (λ (x : List Command). with_commands x old) (sym (take-append_seam r.done left)
          ∙ ap (take (length r.done)) r.all_are),
    )
