-- Votes that are kept: where one more goes.
use Rattle.std.proofs.Common.{ℕ, suc, ◌≡◌, ◌+◌, Some, None, Bool, true, false, not, cond, List, [], ◌∷◌}
use Rattle.std.proofs.Common.{◌++◌, length, take, drop, refl, ap, ◌∙◌, arith, nat_lt, append_assoc}
use Rattle.std.specs.List.{insert, position, position_or_len, flat_map}
use Rattle.std.specs.Option.{unwrap_or}
use Rattle.std.proofs.lemmas.Bool.{ltb-false}
use Rattle.std.proofs.lemmas.List.Sums.{prefix_len-le-length}
use Rattle.definitions.specs.Bytes.{Bytes}
use Rattle.definitions.specs.Frames.{Vote, vote_bytes}
use Rattle.definitions.specs.States.{insert_vote}

module _ {X : Type 0} (p : X → Bool) (xs : List X) where
  pub place_or_end : unwrap_or (position p xs) (length xs) ≡ position_or_len p xs
  place_or_end =
      let n : ℕ = position_or_len p xs in
      let P : Bool → Type 0 =
      λ t. nat_lt n (length xs) ≡ t → unwrap_or (cond t (Some n) None) (length xs) ≡ n in
      let both : (t : Bool) → P t = elim [
        | true ↦ λ lt. refl
        | false ↦
            λ ge. omega (arith, ltb-false n (length xs) ge, prefix_len-le-length (λ (x : X). not (p x)) xs)
      ] in
      both (nat_lt n (length xs)) refl

-- the place of a voter's vote
abbrev pub place : ℕ → List Vote → ℕ
place voter ks = position_or_len (λ (x : Vote). nat_lt voter x.voter) ks

one_more : (n : ℕ) → 1 + n ≡ suc n
one_more n = omega arith

-- a vote at the place before the first greater voter's is put in by number of voter
pub inserted : (b : Vote) (bs : List Vote) → (insert bs (place b.voter bs) b) ≡ insert_vote (b) bs
unfolding insert_vote
inserted b [] = refl
inserted b (x ∷ xs) =
    let p : ℕ = place b.voter xs in
    let P : Bool → Type 0 =
    λ t. (insert (x ∷ xs) (cond (not t) (1 + p) 0) b) ≡ cond t (b ∷ x ∷ xs) (x ∷ insert_vote (b) (xs)) in
    elim (nat_lt b.voter x.voter) as P [
      | true ↦ refl
      | false ↦ rw (one_more p) (ap (λ (l : List Vote). x ∷ l) (inserted b xs))
    ]

-- so are its bytes, between those of the votes before and behind it
pub spelled_with : (b : Vote) (ks : List Vote)
    → (flat_map vote_bytes ((take (place b.voter ks) ks)) ++ vote_bytes b)
    ++ flat_map vote_bytes ((drop (place b.voter ks) ks))
    ≡ flat_map vote_bytes (insert_vote b ks)
unfolding insert_vote
spelled_with b [] = refl
spelled_with b (x ∷ xs) =
    let p : ℕ = place b.voter xs in
    let P : Bool → Type 0 =
    λ t. (flat_map vote_bytes ((take (cond (not t) (1 + p) 0) (x ∷ xs))) ++ vote_bytes b)
    ++ flat_map vote_bytes ((drop (cond (not t) (1 + p) 0) (x ∷ xs)))
    ≡ flat_map vote_bytes (cond t (b ∷ x ∷ xs) (x ∷ insert_vote b (xs))) in
    elim (nat_lt b.voter x.voter) as P [
      | true ↦ refl
      | false ↦ rw (one_more p) (joined (vote_bytes (x)) (flat_map vote_bytes ((take p xs))) (vote_bytes b)
          (flat_map vote_bytes ((drop p xs))) _ (spelled_with b xs))
    ]
  where
    joined : (a l m r whole : Bytes) → (l ++ m) ++ r ≡ whole → ((a ++ l) ++ m) ++ r ≡ a ++ whole
    joined a l m r whole e =
        ap (λ (y : Bytes). y ++ r) (append_assoc a l m) ∙ append_assoc a (l ++ m) r
        ∙ ap (λ (y : Bytes). a ++ y) e
