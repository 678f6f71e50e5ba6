-- Lines one behind the other, in one piece.
use Rattle.std.proofs.Common.{◌≡◌, ℕ, List, [], ◌∷◌, ◌++◌, refl, ap, ◌∙◌, append_assoc, decimal, codes}
use Rattle.std.specs.List.{flat_map}
use Rattle.definitions.specs.Bytes.{Bytes}
use Rattle.deployment.specs.Deployments.{line}
use Rattle.window_files.specs.declared.head.Head.{Head}
use Rattle.window_files.specs.Files.{head_text, digest_line}

-- a line, and then what is appended behind it
onto : (old now all words rest : Bytes) → now ≡ old ++ line words [] → all ≡ now ++ rest → all ≡ old ++ line words rest
onto old now all words rest first more =
    more ∙ ap (λ t. t ++ rest) first ∙ append_assoc old (line words []) rest
    ∙ ap (λ t. old ++ t) (append_assoc words (10 ∷ []) rest)

-- what stands behind a line, and more
line_more : (words rest whole more : Bytes) → rest ++ more ≡ whole → line words rest ++ more ≡ line words whole
line_more words rest whole more e = append_assoc words (10 ∷ rest) more ∙ ap (line words) e

pub head_pushed : (h : Head) (o a b c d e all : Bytes) (f g k n x l : ℕ)
    → f ≡ h.config.faults → g ≡ h.config.clients → k ≡ h.config.most_keys → n ≡ h.number → x ≡ h.height
    → l ≡ h.lowest
    → a ≡ o ++ line (codes "faults " ++ decimal f) [] → b ≡ a ++ line (codes "clients " ++ decimal g) []
    → c ≡ b ++ line (codes "keys-held " ++ decimal k) [] → d ≡ c ++ line (codes "window " ++ decimal n) []
    → e ≡ d ++ line (codes "executed " ++ decimal x) [] → all ≡ e ++ line (codes "from " ++ decimal l) []
    → all ≡ o ++ head_text h []
head_pushed h o a b c d e all f g k n x l is_f is_g is_k is_n is_x is_l one two three four five six =
    rw (← is_f, ← is_g, ← is_k, ← is_n, ← is_x, ← is_l)
    (onto o a all (codes "faults " ++ decimal f) _ one
    (onto a b all (codes "clients " ++ decimal g) _ two
    (onto b c all (codes "keys-held " ++ decimal k) _ three
    (onto c d all (codes "window " ++ decimal n) _ four
    (onto d e all (codes "executed " ++ decimal x) _ five six)))))

-- the first lines, and more
head_more : (h : Head) (more : Bytes) → head_text h [] ++ more ≡ head_text h more
head_more h more =
    line_more (codes "faults " ++ decimal h.config.faults) _ _ more
    (line_more (codes "clients " ++ decimal h.config.clients) _ _ more
    (line_more (codes "keys-held " ++ decimal h.config.most_keys) _ _ more
    (line_more (codes "window " ++ decimal h.number) _ _ more
    (line_more (codes "executed " ++ decimal h.height) _ _ more
    (line_more (codes "from " ++ decimal h.lowest) [] more more refl)))))

pub written : (h : Head) (ds : List Bytes) (none first all : Bytes) → none ≡ [] → first ≡ none ++ head_text h []
    → all ≡ first ++ flat_map digest_line ds → all ≡ head_text h (flat_map digest_line ds)
written h ds none first all empty head lines =
    lines ∙ ap (λ t. t ++ flat_map digest_line ds) (head ∙ ap (λ t. t ++ head_text h []) empty)
    ∙ head_more h (flat_map digest_line ds)
