-- Frames that are sent, one more at a time.
use Rattle.std.proofs.Common.{◌≡◌, ℕ, ◌+◌, List, [], ◌∷◌, ◌++◌, map, arith, sym, ap, ◌∙◌}
use Rattle.std.specs.List.{range_with_len}
use Rattle.std.proofs.lemmas.List.{append_assoc, map-append}
use Rattle.std.proofs.lemmas.List.FromFn.{map-range_with_len_more}
use Rattle.signed_frames.specs.Outs.{SentBytes, sent_of}
use Rattle.signed_frames.specs.declared.out.Sending.{Sending}

-- the next one of a list
pub one_more_of : {A B : Type 0} (g : A → B) (f : ℕ → B) (before now : List A) (n : ℕ) (x : A)
    → map g before ≡ map f (range_with_len 0 n) → now ≡ before ++ x ∷ [] → g x ≡ f n
    → map g now ≡ map f (range_with_len 0 (n + 1))
one_more_of g f before now n x so_far pushed is =
    ap (map g) pushed ∙ map-append g before (x ∷ [])
    ∙ rw (so_far, is) (sym (map-range_with_len_more f 0 n n (omega arith)))

-- the frame of the next place
pub one_more : (f : ℕ → SentBytes) (before now : List Sending) (n : ℕ) (sending : Sending)
    → map sent_of before ≡ map f (range_with_len 0 n) → now ≡ before ++ sending ∷ []
    → sent_of sending ≡ f n → map sent_of now ≡ map f (range_with_len 0 (n + 1))
one_more f before now n sending so_far pushed is =
    ap (map sent_of) pushed ∙ map-append sent_of before (sending ∷ [])
    ∙ rw (so_far, is) (sym (map-range_with_len_more f 0 n n (omega arith)))

-- the same behind others
pub one_more_behind : (f : ℕ → SentBytes) (first : List SentBytes) (before now : List Sending) (n : ℕ)
    (sending : Sending) → map sent_of before ≡ first ++ map f (range_with_len 0 n) → now ≡ before ++ sending ∷ []
    → sent_of sending ≡ f n → map sent_of now ≡ first ++ map f (range_with_len 0 (n + 1))
one_more_behind f first before now n sending so_far pushed is =
    ap (map sent_of) pushed ∙ (map-append sent_of before (sending ∷ [])
    ∙ ((λ i. so_far i ++ is i ∷ []) ∙ (append_assoc first (map f (range_with_len 0 n)) (f n ∷ [])
    ∙ ap (λ xs. first ++ xs) (sym (map-range_with_len_more f 0 n n (omega arith))))))
