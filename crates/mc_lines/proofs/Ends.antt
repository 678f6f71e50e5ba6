-- The end of the first line.
use Rattle.std.proofs.Common.{◌≡◌, ◌≢◌, ℕ, zero, suc, ◌+◌, ◌<◌, ◌≤◌, ◌∷◌, ◌++◌, length, get_or, take, drop}
use Rattle.std.proofs.Common.{sym, ap, ◌∙◌, inl, inr, arith, append_assoc}
use Rattle.std.specs.Prelude.{min, Option, Some, None, IfSome, IfNone, slice_index}
use Rattle.std.proofs.lemmas.Bool.{cases_lt}
use Rattle.std.proofs.lemmas.List.{get_or-take, get_or_past, length-take, take-append-drop, drop_more}
use Rattle.definitions.specs.Bytes.{Bytes}
use Rattle.definitions.specs.Requests.{crlf}
use Rattle.definitions.specs.Items.{HasNoEnd}
use Rattle.memchr.specs.Find.{OccursAt, Nowhere, FindsNeedle}

-- no CR LF stands among the first bytes of the text
abbrev pub NoEndBelow : Bytes → ℕ → Type 0
NoEndBelow text n = (k : ℕ) → k + 1 < n → slice_index text k ≡ 13 → slice_index text (k + 1) ≢ 10

-- the front of a text has no end where none stands below
pub HasNoEnd-take : (text : Bytes) (n m : ℕ) → ((k : ℕ) → k + 1 < n → k + 1 < length text → k + 1 < m)
    → NoEndBelow text m → HasNoEnd (take n text)
HasNoEnd-take text n m within below i e f =
    elim (cases_lt (i + 1) (length (take n text))) [
      | inl lt ↦
          let short : i + 1 < n = omega (arith, length-take n text) in
          below i (within i short (omega (arith, length-take n text)))
          (sym (get_or-take n text i 0 (omega arith)) ∙ e) (sym (get_or-take n text (i + 1) 0 short) ∙ f)
      | inr past ↦ omega (arith, f, get_or_past (take n text) (i + 1) 0 past)
    ]

-- CR LF is found in the front of a text where it stands there
occurs : (text : Bytes) (m k : ℕ) → m ≤ length text → k + 1 < m → slice_index text k ≡ 13
    → slice_index text (k + 1) ≡ 10 → OccursAt (take m text) crlf k
occurs text m k fits lt cr lf = record {
  fits = omega (arith, length-take m text);
  reads = elim [
    | zero ↦
        λ below. get_or-take m text (k + 0) 0 (omega arith) ∙ ap (λ (i : ℕ). slice_index text i) (omega arith)
        ∙ cr
    | suc zero ↦ λ below. get_or-take m text (k + 1) 0 lt ∙ lf
    | suc (suc n) ↦ λ below. omega (arith, below)
  ];
}

-- no CR LF stands where none is found
pub nowhere_below : (text : Bytes) (m n : ℕ) → m ≤ length text → n ≤ m
    → Nowhere (OccursAt (take m text) crlf) 0 n → NoEndBelow text n
nowhere_below text m n fits within nowhere k lt cr lf =
    nowhere k (omega arith) (omega arith) (occurs text m k fits (omega arith) cr lf)

-- what is found is the first end within the limit
pub end_found : (text : Bytes) (limit : ℕ) (r : Option ℕ)
    → FindsNeedle (take (min (length text) limit) text) crlf 0 r
    → IfSome r (λ i. (i + 2 ≤ length text) × (i + 2 ≤ limit) × (slice_index text i ≡ 13)
    × (slice_index text (i + 1) ≡ 10) × HasNoEnd (take i text))
end_found text limit None found = tt
end_found text limit (Some i) found =
    let m : ℕ = min (length text) limit in
    let inside : i + 2 ≤ m = omega (arith, found.1.fits, length-take m text) in
    let at : i + 0 ≡ i = omega arith in
    let cr : slice_index text i ≡ 13 =
    ap (λ (k : ℕ). slice_index text k) (sym at) ∙ sym (get_or-take m text (i + 0) 0 (omega arith))
    ∙ found.1.reads 0 (omega arith) in
    let lf : slice_index text (i + 1) ≡ 10 =
    sym (get_or-take m text (i + 1) 0 (omega arith)) ∙ found.1.reads 1 (omega arith) in (
      omega arith,
      omega arith,
      cr,
      lf,
      HasNoEnd-take text i i (λ k short within. short)
          (nowhere_below text m i (omega arith) (omega arith) found.0.before),
    )

-- where none is found within the limit, there is none
pub end_missing : (text : Bytes) (limit : ℕ) (r : Option ℕ)
    → FindsNeedle (take (min (length text) limit) text) crlf 0 r → IfNone r (HasNoEnd (take limit text))
end_missing text limit (Some i) found = tt
end_missing text limit None found =
    let m : ℕ = min (length text) limit in
    HasNoEnd-take text limit m (λ k short within. omega arith)
    (nowhere_below text m m (omega arith) (omega arith)
    (λ k low below. found k low (omega (arith, length-take m text))))

-- a text by its first line and the rest
pub split_at_end : (text : Bytes) (i : ℕ) → i + 2 ≤ length text → slice_index text i ≡ 13
    → slice_index text (i + 1) ≡ 10 → text ≡ take i text ++ crlf ++ drop (i + 2) text
split_at_end text i fits cr lf =
    let first : drop i text ≡ get_or text i 0 ∷ drop (i + 1) text = drop_more text i 0 (omega arith) in
    let next : drop (i + 1) text ≡ get_or text (i + 1) 0 ∷ drop (i + 1 + 1) text =
    drop_more text (i + 1) 0 (omega arith) in
    let two : i + 1 + 1 ≡ i + 2 = omega arith in
    let behind : drop i text ≡ crlf ++ drop (i + 2) text =
    first ∙ ap (λ (x : ℕ). x ∷ drop (i + 1) text) cr
    ∙ ap (λ (t : Bytes). 13 ∷ t)
    (next ∙ ap (λ (x : ℕ). x ∷ drop (i + 1 + 1) text) lf ∙ ap (λ (k : ℕ). 10 ∷ drop k text) two) in
    sym (take-append-drop i text) ∙ ap (λ (t : Bytes). take i text ++ t) behind
    ∙ sym (append_assoc (take i text) crlf (drop (i + 2) text))
