-- What a text begins with is one thing alone: the same sizes, addresses and fronts, whoever reads them.
use Rattle.std.proofs.Common.{◌≡◌, ◌≢◌, ℕ, suc, ◌+◌, ◌^◌, ◌<◌, ◌≤◌, List, [], ◌∷◌, ◌++◌, length, arith, refl, sym}
use Rattle.std.proofs.Common.{ap, ◌∙◌, append_assoc, decimal, codes, None}
use Rattle.std.specs.Prelude.{sum}
use Rattle.std.specs.List.{AllByRecursion}
use Rattle.std.proofs.lemmas.List.{append_cancel_left}
use Rattle.std.proofs.lemmas.List.Sums.{sum_by-cons}
use Rattle.std.proofs.lemmas.Fmt.{decimal_injective}
use Rattle.ids.specs.Sizes.{Sizes, AreSizes, replicas}
use Rattle.definitions.specs.Bytes.{Bytes}
use Rattle.deployment.specs.Fields.{IsAddress, IsAt, IsBelow, numbered}
use Rattle.deployment.specs.Deployments.{Deployment, IsDeployment, sizes_text, replicas_text, fronts_text, text_of}
use Rattle.deployment.proofs.Reading.{first_line, decimal_line, address_is_line}

-- the same front, and then lines
behind_front : (front a b r s : Bytes) → (front ++ a) ++ 10 ∷ r ≡ (front ++ b) ++ 10 ∷ s
    → a ++ 10 ∷ r ≡ b ++ 10 ∷ s
behind_front front a b r s e =
    append_cancel_left front (a ++ 10 ∷ r) (b ++ 10 ∷ s)
    (sym (append_assoc front a (10 ∷ r)) ∙ e ∙ append_assoc front b (10 ∷ s))

pub same_number : (front : Bytes) (n m : ℕ) (r s : Bytes) → n < 2 ^ 64 → m < 2 ^ 64
    → (front ++ decimal n) ++ 10 ∷ r ≡ (front ++ decimal m) ++ 10 ∷ s → (n ≡ m) × (r ≡ s)
same_number front n m r s a b e =
    let both = first_line (decimal n) (decimal m) r s (decimal_line n a) (decimal_line m b)
    (behind_front front (decimal n) (decimal m) r s e) in
    (decimal_injective n m a b both.0, both.1)

same_address : (front a b r s : Bytes) → IsAddress a → IsAddress b
    → (front ++ a) ++ 10 ∷ r ≡ (front ++ b) ++ 10 ∷ s → (a ≡ b) × (r ≡ s)
same_address front a b r s p q e =
    first_line a b r s (address_is_line a p) (address_is_line b q) (behind_front front a b r s e)

-- ---- sizes

pub same_sizes : (s t : Sizes) (r q : Bytes) → AreSizes s → AreSizes t → sizes_text s r ≡ sizes_text t q
    → (s ≡ t) × (r ≡ q)
same_sizes s t r q a b e =
    let f = same_number (codes "faults ") s.faults t.faults _ _ (omega arith) (omega arith) e in
    let c = same_number (codes "clients ") s.clients t.clients _ _ (omega arith) (omega arith) f.1 in
    let k = same_number (codes "keys-held ") s.most_keys t.most_keys r q (omega (arith, a.4.1)) (omega (arith, b.4.1)) c.1 in
    (equal s t f.0 c.0 k.0, k.1)
  where
    equal : (s t : Sizes) → s.faults ≡ t.faults → s.clients ≡ t.clients → s.most_keys ≡ t.most_keys → s ≡ t
    equal s t f c k =
        ap (λ (x : ℕ). record s { faults = x }) f
        ∙ ap (λ (x : ℕ). record s { faults = t.faults; clients = x }) c
        ∙ ap (λ (x : ℕ). record s { faults = t.faults; clients = t.clients; most_keys = x }) k

-- a line of a replica, or of a front, with its front in one piece
regroup : (word number a r : Bytes) → (word ++ (number ++ a)) ++ 10 ∷ r ≡ ((word ++ number) ++ a) ++ 10 ∷ r
regroup word number a r = ap (λ t. t ++ 10 ∷ r) (sym (append_assoc word number a))

same_replica : (i : ℕ) (a b r s : Bytes) → IsAddress a → IsAddress b
    → (codes "replica " ++ (numbered i ++ a)) ++ 10 ∷ r ≡ (codes "replica " ++ (numbered i ++ b)) ++ 10 ∷ s
    → (a ≡ b) × (r ≡ s)
same_replica i a b r s p q e =
    same_address (codes "replica " ++ numbered i) a b r s p q
    (sym (regroup (codes "replica ") (numbered i) a r) ∙ e ∙ regroup (codes "replica ") (numbered i) b s)

pub same_front : (k n m : ℕ) (r s : Bytes) → n < 2 ^ 64 → m < 2 ^ 64
    → (codes "front " ++ (numbered k ++ decimal n)) ++ 10 ∷ r ≡ (codes "front " ++ (numbered k ++ decimal m)) ++ 10 ∷ s
    → (n ≡ m) × (r ≡ s)
same_front k n m r s p q e =
    same_number (codes "front " ++ numbered k) n m r s p q
    (sym (regroup (codes "front ") (numbered k) (decimal n) r) ∙ e
    ∙ regroup (codes "front ") (numbered k) (decimal m) s)

-- ---- replicas

pub same_replicas : (i : ℕ) (xs ys : List Bytes) (r s : Bytes) → length xs ≡ length ys
    → AllByRecursion IsAddress xs → AllByRecursion IsAddress ys → replicas_text i xs r ≡ replicas_text i ys s
    → (xs ≡ ys) × (r ≡ s)
same_replicas i [] [] r s len p q e = (refl, e)
same_replicas i [] (y ∷ ys) r s len p q e = absurd (omega (arith, len))
same_replicas i (x ∷ xs) [] r s len p q e = absurd (omega (arith, len))
same_replicas i (x ∷ xs) (y ∷ ys) r s len p q e =
    let both = same_replica i x y (replicas_text (i + 1) xs r) (replicas_text (i + 1) ys s) p.0 q.0 e in
    let more = same_replicas (i + 1) xs ys r s (omega (arith, len)) p.1 q.1 both.1 in
    let same : x ∷ xs ≡ y ∷ ys = cc (both.0, more.0) in
    (same, more.1)

-- where a replica's line isn't there, no more replicas are
pub no_replica : (i : ℕ) (xs found : List Bytes) (mid rest : Bytes) → AllByRecursion IsAddress xs
    → AllByRecursion IsAddress found → length xs < length found
    → IsAt (λ a. codes "replica " ++ (numbered (i + length xs) ++ a)) IsAddress mid None
    → replicas_text i xs mid ≡ replicas_text i found rest → ⊥
no_replica i xs [] mid rest p q fewer none e = omega (arith, fewer)
no_replica i [] (y ∷ ys) mid rest p q fewer none e =
    let here : i + 0 ≡ i = omega arith in
    none y (replicas_text (i + 1) ys rest) q.0 (rw here e)
no_replica i (x ∷ xs) (y ∷ ys) mid rest p q fewer none e =
    let both = same_replica i x y (replicas_text (i + 1) xs mid) (replicas_text (i + 1) ys rest) p.0 q.0 e in
    let place : i + suc (length xs) ≡ i + 1 + length xs = omega arith in
    no_replica (i + 1) xs ys mid rest p.1 q.1 (omega (arith, fewer)) (rw place at none) both.1

-- ---- fronts

-- the text begins with no line of this front that has clients, and no more than are left
abbrev pub HasNoFront : (k left : ℕ) → Bytes → Type 0
HasNoFront k left text =
    (n : ℕ) (rest : Bytes) → 1 ≤ n → n ≤ left → text ≡ (codes "front " ++ (numbered k ++ decimal n)) ++ 10 ∷ rest → ⊥

sum_more : (x : ℕ) (xs : List ℕ) → sum (x ∷ xs) ≡ x + sum xs
sum_more x xs = sum_by-cons (λ n. n) x xs

pub no_front : (k left : ℕ) (xs found : List ℕ) (mid : Bytes) → 0 < left → sum found < 256
    → AllByRecursion (λ n. 1 ≤ n) found → sum found ≡ sum xs + left → HasNoFront (k + length xs) left mid
    → fronts_text k xs mid ≡ fronts_text k found [] → ⊥
no_front k left [] [] mid some few all total none e = omega (arith, some, total)
no_front k left (x ∷ xs) [] mid some few all total none e = cc e
no_front k left [] (y ∷ ys) mid some few all total none e =
    let here : k + 0 ≡ k = omega arith in
    none y (fronts_text (k + 1) ys []) all.0 (omega (arith, total, sum_more y ys)) (rw here e)
no_front k left (x ∷ xs) (y ∷ ys) mid some few all total none e =
    let parts = sum_more y ys in
    let own = sum_more x xs in
    let both = same_front k x y (fronts_text (k + 1) xs mid) (fronts_text (k + 1) ys [])
    (omega (arith, few, total, own)) (omega (arith, few, parts)) e in
    let place : k + suc (length xs) ≡ k + 1 + length xs = omega arith in
    no_front (k + 1) left xs ys mid some (omega (arith, few, parts)) all.1
    (omega (arith, total, parts, own, both.0)) (rw place at none) both.1

pub nothing_more : (k : ℕ) (xs found : List ℕ) (mid : Bytes) → sum found < 256
    → AllByRecursion (λ n. 1 ≤ n) found → sum found ≡ sum xs → mid ≢ []
    → fronts_text k xs mid ≡ fronts_text k found [] → ⊥
nothing_more k [] [] mid few all total more e = more e
nothing_more k (x ∷ xs) [] mid few all total more e = cc e
nothing_more k [] (y ∷ ys) mid few all total more e = omega (arith, all.0, total, sum_more y ys)
nothing_more k (x ∷ xs) (y ∷ ys) mid few all total more e =
    let parts = sum_more y ys in
    let own = sum_more x xs in
    let both = same_front k x y (fronts_text (k + 1) xs mid) (fronts_text (k + 1) ys [])
    (omega (arith, few, total, own)) (omega (arith, few, parts)) e in
    nothing_more (k + 1) xs ys mid (omega (arith, few, parts)) all.1
    (omega (arith, total, parts, own, both.0)) more both.1

same_fronts : (k : ℕ) (xs ys : List ℕ) → sum xs < 256 → sum ys < 256 → fronts_text k xs [] ≡ fronts_text k ys []
    → xs ≡ ys
same_fronts k [] [] a b e = refl
same_fronts k [] (y ∷ ys) a b e = absurd (cc e)
same_fronts k (x ∷ xs) [] a b e = absurd (cc e)
same_fronts k (x ∷ xs) (y ∷ ys) a b e =
    let own = sum_more x xs in
    let other = sum_more y ys in
    let both = same_front k x y (fronts_text (k + 1) xs []) (fronts_text (k + 1) ys []) (omega (arith, a, own))
    (omega (arith, b, other)) e in
    let more = same_fronts (k + 1) xs ys (omega (arith, a, own)) (omega (arith, b, other)) both.1 in
    cc (both.0, more)

-- ---- deployments

pub one_deployment : (c d : Deployment) → IsDeployment c → IsDeployment d → text_of c ≡ text_of d → c ≡ d
one_deployment c d p q e =
    let s = same_sizes c.sizes d.sizes (replicas_text 0 c.addresses (fronts_text 0 c.fronts []))
    (replicas_text 0 d.addresses (fronts_text 0 d.fronts [])) p.0 q.0 e in
    let counts : replicas c.sizes ≡ replicas d.sizes = ap replicas s.0 in
    let clients : c.sizes.clients ≡ d.sizes.clients = ap (λ (x : Sizes). x.clients) s.0 in
    let a = same_replicas 0 c.addresses d.addresses (fronts_text 0 c.fronts []) (fronts_text 0 d.fronts [])
    (p.1.0 ∙ counts ∙ sym q.1.0) p.1.1 q.1.1 s.1 in
    let few = p.0 in
    let more = q.0 in
    let f = same_fronts 0 c.fronts d.fronts (omega (arith, p.2.1)) (omega (arith, q.2.1)) a.1 in
    ap (λ (x : Sizes). record c { sizes = x }) s.0
    ∙ ap (λ (x : List Bytes). record c { sizes = d.sizes; addresses = x }) a.0
    ∙ ap (λ (x : List ℕ). record c { sizes = d.sizes; addresses = d.addresses; fronts = x }) f
