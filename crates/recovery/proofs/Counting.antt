-- Votes that come to a replica, and the certificate that they complete.
use Rattle.std.proofs.Common.{ℕ, suc, ◌≡◌, ◌<◌, ◌≤◌, ◌⊎◌, ◌==◌, ◌&&◌, ◌||◌, not, Bool, true, false, cond}
use Rattle.std.proofs.Common.{List, [], ◌∷◌}
use Rattle.std.proofs.Common.{length, refl, sym, ap, subst, ◌∙◌, arith, inl, inr, nat_lt, Option, Some, None}
use Rattle.std.specs.List.{list_any}
use Rattle.std.proofs.lemmas.Bool.{cond-true, cond_both, cases_lt, and_parts, and_from, or_left, or_right, or_cases}
use Rattle.std.proofs.lemmas.Bool.{eqb-true, eq-eqb, ltb-true, ltb-false, lt-ltb, true≢false}
use Rattle.ids.specs.Sizes.{Sizes, quorum}
use Rattle.definitions.specs.Bytes.{Bytes}
use Rattle.definitions.specs.Lists.{Among}
use Rattle.definitions.specs.Branches.{Branch, branch_eq}
use Rattle.definitions.specs.Checks.{Identity}
use Rattle.definitions.specs.Chronicles.{Chronicle, Step.noted, Step.took_block, Note.got_vote, Note.led_from}
use Rattle.definitions.specs.Chronicles.{taken_blocks, voted_blocks, horizon, history}
use Rattle.definitions.specs.Digests.{digest_of}
use Rattle.definitions.specs.Frames.{Command, Vote}
use Rattle.definitions.specs.States.{Justified, view, votes, raised, by_voter, fills, higher, qc_high, leaf}
use Rattle.definitions.specs.States.{pending, is_due}
use Rattle.definitions.proofs.Lists.{Among-filter}
use Rattle.definitions.proofs.Branches.{branch_eq-decides}
use Rattle.definitions.proofs.Certificates.{length-by_voter}
use Rattle.definitions.proofs.Horizons.{higher-of, higher-rises}

-- a vote was counted for this voter, or there are enough without it
unfoldable pub IsCountedFor : Sizes → Branch → ℕ → Chronicle → Type 0
IsCountedFor s x r c =
    (list_any (λ z. z.voter == r) (votes s x c) ≡ true) ⊎ (quorum s ≤ length (votes s x c))

-- what a replica to which votes alone come keeps, while they don't make a certificate of x
pub record IsCounting (self : Identity) (x : Branch) (before c : Chronicle) : Type 0 where
  pub taken : taken_blocks c ≡ taken_blocks before
  pub voted : voted_blocks c ≡ voted_blocks before
  pub forgotten : horizon c ≡ horizon before
  pub in_view : view self.sizes c ≡ view self.sizes before
  pub waiting : (k : Command) → Among k (pending c) → Among k (pending before)
  pub few : length (votes self.sizes x c) ≤ quorum self.sizes
  -- the highest certificate is lower than x, or was made of votes
  pub made : (length (qc_high self.sizes c).block < length x) ⊎ (0 < length (qc_high self.sizes c).certificate.votes)
  -- there is no quorum for x yet, or it is as high
  pub enough : (length (votes self.sizes x c) < quorum self.sizes) ⊎ (length x ≤ length (qc_high self.sizes c).block)
  pub leaf_is : (leaf self c ≡ leaf self before) ⊎ (leaf self c ≡ (qc_high self.sizes c).block)

-- ---- one vote

-- the vote is kept, or not
vote-cases : (s : Sizes) (x y : Branch) (voter : ℕ) (v : Bytes) (c : Chronicle)
    → ((votes s x (noted (got_vote voter v y) ∷ c) ≡ record { voter = voter; vector = v } ∷ votes s x c) × (y ≡ x)
    × (length (votes s x c) < quorum s))
    ⊎ ((votes s x (noted (got_vote voter v y) ∷ c) ≡ votes s x c)
    × ((y ≡ x) → IsCountedFor s x voter c))
unfolding votes IsCountedFor
vote-cases s x y voter v c = by (branch_eq y x) refl (list_any (λ z. z.voter == voter) (votes s x c)) refl
    (nat_lt (length (votes s x c)) (quorum s)) refl
  where
    old : List Vote
    old = votes s x c

    one : Vote
    one = record { voter = voter; vector = v }

    by : (e : Bool) → branch_eq y x ≡ e → (a : Bool) → list_any (λ z. z.voter == voter) old ≡ a
        → (l : Bool) → nat_lt (length old) (quorum s) ≡ l
        → ((cond (e && (not a && l)) (one ∷ old) old ≡ one ∷ old) × (y ≡ x) × (length old < quorum s))
        ⊎ ((cond (e && (not a && l)) (one ∷ old) old ≡ old)
        × ((y ≡ x) → (list_any (λ z. z.voter == voter) old ≡ true) ⊎ (quorum s ≤ length old)))
    by true e false a true l = inl (refl, (branch_eq-decides y x).0 e, ltb-true (length old) (quorum s) l)
    by true e true a l m = inr (refl, λ i. inl a)
    by true e false a false l = inr (refl, λ i. inr (ltb-false (length old) (quorum s) l))
    by false e a b l m = inr (refl, λ i. absurd (true≢false (sym ((branch_eq-decides y x).1 i) ∙ e)))

-- who was counted stays so
pub counted-on : (s : Sizes) (x y : Branch) (r voter : ℕ) (v : Bytes) (c : Chronicle) → IsCountedFor s x r c
    → IsCountedFor s x r (noted (got_vote voter v y) ∷ c)
unfolding IsCountedFor
counted-on s x y r voter v c h = elim (vote-cases s x y voter v c) [
  | inr k ↦ subst (λ (l : List Vote). (list_any (λ z. z.voter == r) l ≡ true) ⊎ (quorum s ≤ length l)) (sym k.0) h
  | inl k ↦ subst (λ (l : List Vote). (list_any (λ z. z.voter == r) l ≡ true) ⊎ (quorum s ≤ length l)) (sym k.0)
      (elim h [
        | inl a ↦ inl (or_right (voter == r) _ a)
        | inr b ↦ inr (omega (arith, b))
      ])
]

-- its own vote is counted, or there are enough
pub counted-now : (s : Sizes) (x : Branch) (r : ℕ) (v : Bytes) (c : Chronicle)
    → IsCountedFor s x r (noted (got_vote r v x) ∷ c)
unfolding IsCountedFor
counted-now s x r v c = elim (vote-cases s x x r v c) [
  | inl k ↦ subst (λ (l : List Vote). (list_any (λ z. z.voter == r) l ≡ true) ⊎ (quorum s ≤ length l)) (sym k.0)
      (inl (or_left (r == r) (list_any (λ (z : Vote). z.voter == r) (votes s x c)) (eq-eqb r r refl)))
  | inr k ↦ subst (λ (l : List Vote). (list_any (λ z. z.voter == r) l ≡ true) ⊎ (quorum s ≤ length l)) (sym k.0)
      (k.1 refl)
]

-- what a vote raises has votes
raised-votes : (s : Sizes) (voter : ℕ) (v : Bytes) (y : Branch) (c : Chronicle) (p : Justified)
    → raised s (noted (got_vote voter v y)) c ≡ Some p → 0 < length p.certificate.votes
unfolding raised
raised-votes s voter v y c p e =
    let bs : List Vote = votes s y (noted (got_vote voter v y) ∷ c) in
    cond_both (nat_lt (length (votes s y c)) (quorum s) && (length bs == quorum s))
    (Some (record { block = y; certificate = record { digest = digest_of y; votes = by_voter bs } })) None
    (λ (o : Option Justified). o ≡ Some p → 0 < length p.certificate.votes)
    (λ t i.
    let k : record { block = y; certificate = record { digest = digest_of y; votes = by_voter bs } } ≡ p = cc in
    let n = eqb-true (length bs) (quorum s)
    (and_parts (nat_lt (length (votes s y c)) (quorum s)) (length bs == quorum s) t).1 in
    let l = length-by_voter bs in
    let m = ap (λ (j : Justified). length j.certificate.votes) k in
    omega (arith, n, l, m))
    (λ t i. absurd (none i)) e
  where
    none : None ≡ Some p → ⊥
    none k = cc

-- the last vote of a quorum raises
raised-full : (s : Sizes) (voter : ℕ) (v : Bytes) (y : Branch) (c : Chronicle)
    → length (votes s y c) < quorum s → length (votes s y (noted (got_vote voter v y) ∷ c)) ≡ quorum s
    → (p : Justified) × (raised s (noted (got_vote voter v y)) c ≡ Some p) × (p.block ≡ y)
unfolding raised
raised-full s voter v y c l e = (
  _,
  cond-true _ _ _ (and_from _ _ (lt-ltb (length (votes s y c)) (quorum s) l)
      (eq-eqb (length (votes s y (noted (got_vote voter v y) ∷ c))) (quorum s) e)),
  refl,
)

-- the higher of two, where votes alone come
pick-cases : (o : Option Justified) (q : Justified)
    → (higher false o q ≡ q)
    ⊎ ((p : Justified) × (o ≡ Some p) × (higher false o q ≡ p) × (length q.block < length p.block))
pick-cases None q = inl refl
pick-cases (Some p) q =
    cond_both (nat_lt (length q.block) (length p.block) || (false && fills p q)) p q
    (λ (j : Justified). (j ≡ q)
    ⊎ ((k : Justified) × (Some p ≡ Some k) × (j ≡ k) × (length q.block < length k.block)))
    (λ t. inr (
      p,
      refl,
      refl,
      elim (or_cases _ _ t) [
        | inl l ↦ ltb-true (length q.block) (length p.block) l
        | inr f ↦ absurd (true≢false (sym f))
      ],
    ))
    (λ t. inl refl)

vote-high : (s : Sizes) (voter : ℕ) (v : Bytes) (y : Branch) (c : Chronicle)
    → qc_high s (noted (got_vote voter v y) ∷ c)
    ≡ higher false (raised s (noted (got_vote voter v y)) c) (qc_high s c)
unfolding qc_high
vote-high s voter v y c = refl

-- a vote that is kept leaves no quorum, or raises the highest certificate
own-vote : (self : Identity) (x : Branch) (voter : ℕ) (v : Bytes) (c : Chronicle)
    → votes self.sizes x (noted (got_vote voter v x) ∷ c)
    ≡ record { voter = voter; vector = v } ∷ votes self.sizes x c
    → length (votes self.sizes x c) < quorum self.sizes
    → (length (votes self.sizes x (noted (got_vote voter v x) ∷ c)) < quorum self.sizes)
    ⊎ (length x ≤ length (qc_high self.sizes (noted (got_vote voter v x) ∷ c)).block)
own-vote self x voter v c e l =
    let s : Sizes = self.sizes in
    let n = ap (λ (z : List Vote). length z) e in
    elim (cases_lt (suc (length (votes s x c))) (quorum s)) [
      | inl k ↦ inl (omega (arith, n, k))
      | inr k ↦ inr (
          let p = raised-full s voter v x c l (omega (arith, n, k, l)) in
          let h = (higher-of false p.0 (qc_high s c)).1 in
          let b = ap (λ (z : Branch). length z) p.2 in
          let is = ap (λ (j : Justified). length j.block) (vote-high s voter v x c
          ∙ ap (λ (o : Option Justified). higher false o (qc_high s c)) p.1) in
          omega (arith, h, b, is))
    ]

full-vote : (self : Identity) (x y : Branch) (voter : ℕ) (v : Bytes) (c : Chronicle)
    → votes self.sizes x (noted (got_vote voter v y) ∷ c)
    ≡ record { voter = voter; vector = v } ∷ votes self.sizes x c → y ≡ x
    → length (votes self.sizes x c) < quorum self.sizes
    → (length (votes self.sizes x (noted (got_vote voter v y) ∷ c)) < quorum self.sizes)
    ⊎ (length x ≤ length (qc_high self.sizes (noted (got_vote voter v y) ∷ c)).block)
full-vote self x y voter v c e i l =
    subst (λ (z : Branch). votes self.sizes x (noted (got_vote voter v z) ∷ c)
    ≡ record { voter = voter; vector = v } ∷ votes self.sizes x c
    → (length (votes self.sizes x (noted (got_vote voter v z) ∷ c)) < quorum self.sizes)
    ⊎ (length x ≤ length (qc_high self.sizes (noted (got_vote voter v z) ∷ c)).block)) (sym i)
    (λ f. own-vote self x voter v c f l) e

-- a vote leaves all that
pub counting-on : (self : Identity) (x y : Branch) (voter : ℕ) (v : Bytes) (before c : Chronicle)
    → IsCounting self x before c → IsCounting self x before (noted (got_vote voter v y) ∷ c)
unfolding taken_blocks voted_blocks horizon view pending leaf
counting-on self x y voter v before c h =
    let s : Sizes = self.sizes in
    let q : Justified = qc_high s c in
    let d : Chronicle = noted (got_vote voter v y) ∷ c in
    let is = vote-high s voter v y c in
    let pick = pick-cases (raised s (noted (got_vote voter v y)) c) q in
    let rises : length q.block ≤ length (qc_high s d).block =
    (let r = higher-rises false (raised s (noted (got_vote voter v y)) c) q in
    let e = ap (λ (j : Justified). length j.block) is in omega (arith, r, e)) in
    let few = h.few in
    record {
      taken = h.taken;
      voted = h.voted;
      forgotten = h.forgotten;
      in_view = h.in_view;
      waiting = λ k m. h.waiting k (Among-filter (is_due (history d)) (pending c) k m).0;
      few = elim (vote-cases s x y voter v c) [
        | inl k ↦ (let n = ap (λ (l : List Vote). length l) k.0 in let l = k.2 in omega (arith, n, l))
        | inr k ↦ (let n = ap (λ (l : List Vote). length l) k.0 in omega (arith, n, few))
      ];
      made = elim pick [
        | inl e ↦ subst (λ (j : Justified). (length j.block < length x) ⊎ (0 < length j.certificate.votes))
            (sym (is ∙ e)) h.made
        | inr p ↦ inr (let n = raised-votes s voter v y c p.0 p.1 in
            let e = ap (λ (j : Justified). length j.certificate.votes) (is ∙ p.2) in omega (arith, n, e))
      ];
      enough = elim h.enough [
        | inr high ↦ inr (omega (arith, high, rises))
        | inl lacks ↦ (elim (vote-cases s x y voter v c) [
          | inr k ↦ inl (let n = ap (λ (l : List Vote). length l) k.0 in omega (arith, n, lacks))
          | inl k ↦ full-vote self x y voter v c k.0 k.1 lacks
        ])
      ];
      leaf_is = by (nat_lt (length q.block) (length (qc_high s d).block)) refl pick is h.leaf_is;
    }
  where
    s : Sizes
    s = self.sizes

    by : (t : Bool) → nat_lt (length (qc_high s c).block) (length (qc_high s (noted
        (got_vote voter v y) ∷ c)).block) ≡ t
        → ((higher false (raised s (noted (got_vote voter v y)) c) (qc_high s c) ≡ qc_high s c)
        ⊎ ((p : Justified) × (raised s (noted (got_vote voter v y)) c ≡ Some p)
        × (higher false (raised s (noted (got_vote voter v y)) c) (qc_high s c) ≡ p)
        × (length (qc_high s c).block < length p.block)))
        → qc_high s (noted (got_vote voter v y) ∷ c) ≡ higher false (raised s (noted (got_vote voter v y)) c)
        (qc_high s c)
        → (leaf self c ≡ leaf self before) ⊎ (leaf self c ≡ (qc_high s c).block)
        → (cond t (qc_high s (noted (got_vote voter v y) ∷ c)).block (leaf self c) ≡ leaf self before)
        ⊎ (cond t (qc_high s (noted (got_vote voter v y) ∷ c)).block (leaf self c)
        ≡ (qc_high s (noted (got_vote voter v y) ∷ c)).block)
    by true e pick is l = inr refl
    by false e pick is (inl l) = inl l
    by false e (inl same) is (inr l) = inr (l ∙ ap (λ (j : Justified). j.block) (sym (is ∙ same)))
    by false e (inr p) is (inr l) =
        absurd (let low = ltb-false _ _ e in let b = ap (λ (j : Justified). length j.block) (is ∙ p.2) in
        let up = p.3 in omega (arith, low, b, up))

-- at first nothing changed
pub votes-few : (s : Sizes) (x : Branch) (c : Chronicle) → length (votes s x c) ≤ quorum s
unfolding votes
votes-few s x [] = omega arith
votes-few s x (noted (got_vote voter v y) ∷ c) = by (branch_eq y x) (votes-few s x c)
  where
    old : List Vote
    old = votes s x c

    by : (t : Bool) → length old ≤ quorum s
        → length (cond (t && (not (list_any (λ z. z.voter == voter) old) && nat_lt (length old) (quorum s)))
        (record { voter = voter; vector = v } ∷ old) old) ≤ quorum s
    by true h = cond_both (not (list_any (λ z. z.voter == voter) old) && nat_lt (length old) (quorum s))
        (record { voter = voter; vector = v } ∷ old) old (λ (l : List Vote). length l ≤ quorum s)
        (λ t. let l = ltb-true (length old) (quorum s)
        (and_parts (not (list_any (λ z. z.voter == voter) old)) (nat_lt (length old) (quorum s)) t).1 in
        omega (arith, l)) (λ t. h)
    by false h = h
votes-few s x (noted (led_from b) ∷ c) = omega arith
votes-few s x (took_block a ∷ c) = votes-few s x c
votes-few s x (noted n ∷ c) = votes-few s x c

pub counting-first : (self : Identity) (x : Branch) (c : Chronicle) → length (qc_high self.sizes c).block < length x
    → length (votes self.sizes x c) < quorum self.sizes → IsCounting self x c c
counting-first self x c low lacks = record {
  taken = refl;
  voted = refl;
  forgotten = refl;
  in_view = refl;
  waiting = λ k m. m;
  few = votes-few self.sizes x c;
  made = inl low;
  enough = inl lacks;
  leaf_is = inl refl;
}
