-- Writing the votes of a certificate that are passed on, one after the other.
use Rattle.std.proofs.Common.{ℕ, ◌≡◌, ◌+◌, List, [], ◌∷◌, ◌++◌, length, sym, ap, ◌∙◌, arith}
use Rattle.std.proofs.lemmas.List.{append_assoc, append-nil}
use Rattle.std.specs.List.{flat_map}
use Rattle.definitions.specs.Bytes.{Bytes}
use Rattle.definitions.specs.Frames.{Vote, Certificate, vote_bytes, certificate_text, certificate_bytes}
use Rattle.definitions.specs.Checks.{Identity, cut}

-- the bytes of a certificate that is passed on, from those of its votes
pub cut_text : (self : Identity) (q : Certificate) (digest : Bytes) (count : ℕ) (votes : List Vote)
    (bytes : Bytes) → digest ≡ q.digest → votes ≡ (cut self q).votes → count ≡ length votes
    → bytes ≡ flat_map vote_bytes votes
    → certificate_text digest count bytes ≡ certificate_bytes (cut self q)
unfolding cut
cut_text self q digest count votes bytes d v n b =
    (λ i. certificate_text (d i) (n i) (b i))
    ∙ ap (λ (l : List Vote). certificate_text q.digest (length l) (flat_map vote_bytes l)) v

module _ (v : Vote) (votes rest : List Vote) (left : votes ≡ v ∷ rest) where
  -- one more is counted
  pub count_more : (count total : ℕ) → count + length votes ≡ total → (count + 1) + length rest ≡ total
  count_more count total e =
      let len = ap (λ (l : List Vote). length l) left in omega (arith, e, len)

  -- and written
  pub bytes_more : (out new total : Bytes) → new ≡ out ++ vote_bytes v
      → out ++ flat_map vote_bytes votes ≡ total → new ++ flat_map vote_bytes rest ≡ total
  bytes_more out new total put e =
      ap (λ (l : Bytes). l ++ flat_map vote_bytes rest) put
      ∙ append_assoc out (vote_bytes v) (flat_map vote_bytes rest)
      ∙ ap (λ (l : List Vote). out ++ flat_map vote_bytes l) (sym left) ∙ e

-- all are written
pub bytes_all : (out total : Bytes) (votes : List Vote) → votes ≡ []
    → out ++ flat_map vote_bytes votes ≡ total → out ≡ total
bytes_all out total votes none e =
    sym (append-nil out) ∙ ap (λ (l : List Vote). out ++ flat_map vote_bytes l) (sym none) ∙ e
