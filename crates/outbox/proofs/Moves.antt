-- One frame more is moved from the front of what waits to the end of a batch.
use Rattle.std.proofs.Common.{◌≡◌, ◌∙◌, ℕ, ◌+◌, ◌<◌, List, [], ◌∷◌, ◌++◌, length, take, drop, get_or, sym, ap}
use Rattle.std.proofs.Common.{append_assoc}
use Rattle.std.proofs.lemmas.List.{drop_more, take_more}
use Rattle.definitions.specs.Bytes.{Bytes}
use Rattle.outbox.specs.Waiting.{Waiting}

-- what is left, and what was moved
pub record Moved (old : Waiting) (new : Waiting) (batch moved : List Bytes) (i : ℕ) : Type 0 where
  pub left_is : new ≡ record old { frames = drop i old.frames }
  pub moved_is : moved ≡ batch ++ take i old.frames

pub one_moved : (old now new : Waiting) (batch before after : List Bytes) (i : ℕ) (frame : Bytes)
    → i < length old.frames → now ≡ record old { frames = drop i old.frames }
    → now.frames ≡ frame ∷ new.frames → new ≡ record now { frames = new.frames }
    → before ≡ batch ++ take i old.frames → after ≡ before ++ frame ∷ []
    → Moved old new batch after (i + 1)
one_moved old now new batch before after i frame lt left front kept moved pushed =
    let more = drop_more old.frames i frame lt in
    let parts : drop i old.frames ≡ frame ∷ new.frames = ap (λ (w : Waiting). w.frames) (sym left) ∙ front in
    let same : get_or old.frames i frame ≡ frame = cc in
    let rest : new.frames ≡ drop (i + 1) old.frames = cc in
    record {
      left_is = kept
          ∙ (ap (λ (w : Waiting). record w { frames = new.frames }) left
          ∙ ap (λ (l : List Bytes). record old { frames = l }) rest);
      moved_is = pushed
          ∙ (ap (λ (l : List Bytes). l ++ frame ∷ []) moved
          ∙ (append_assoc batch (take i old.frames) (frame ∷ [])
          ∙ ap (λ (l : List Bytes). batch ++ l)
          (sym (take_more old.frames i frame lt
          ∙ ap (λ (f : Bytes). take i old.frames ++ f ∷ []) same))));
    }
