-- The certificates of a chronicle: those that came in frames, and those that a quorum of votes completes.
use Rattle.std.proofs.Common.{Bool, ℕ, ◌≡◌, ◌<◌, ◌&&◌, ◌||◌, not, true, false, List, [], ◌∷◌, ◌++◌, length, refl, sym}
use Rattle.std.proofs.Common.{ap, subst, ◌∙◌, arith, inl, inr, Option, Some, None, true≢false, ◌==◌, nat_lt}
use Rattle.std.specs.List.{list_any, AllByRecursion}
use Rattle.std.specs.Bool.{⊤}
use Rattle.std.proofs.lemmas.Bool.{and_parts, eqb-true, eq-eqb, cond_both, cases_Bool, ltb-true}
use Rattle.std.proofs.lemmas.Bool.{not-true, or_parts, or_cases}
use Rattle.ids.specs.Sizes.{Sizes, quorum}
use Rattle.definitions.specs.Bytes.{Bytes}
use Rattle.definitions.specs.Frames.{Vote, genesis_core}
use Rattle.definitions.specs.FrameLimits.{IsVote, IsCertificate}
use Rattle.definitions.specs.Branches.{Branch, branch_eq}
use Rattle.definitions.specs.Digests.{digest, digest_of}
use Rattle.definitions.specs.Chronicles.{Step, Step.took_block, Step.noted, Note.got_vote}
use Rattle.definitions.specs.Chronicles.{Note.got_new_view, Chronicle, taken_blocks}
use Rattle.definitions.specs.Checks.{Identity, is_genesis, vote_verifies}
use Rattle.definitions.specs.States.{votes, by_voter, Justified, raised, fills, comes_whole, higher, led}
use Rattle.definitions.specs.States.{qc_high}
use Rattle.definitions.specs.Grounds.{IsKept}
use Rattle.definitions.proofs.Horizons.{qc_high-cases}
use Rattle.definitions.specs.Chronicles.{Note.led_from}
use Rattle.definitions.proofs.Certificates.{AreOfEach, IsDigest-digest, IsDigest-digest_of}
use Rattle.definitions.proofs.Certificates.{IsCertificate-by_voter, is_good-by_voter, all-implied}
use Rattle.linear_law.specs.Law.{HasCertificates}
use Rattle.definitions.proofs.Branches.{branch_eq-decides}
use Rattle.linear_law.proofs.StoredFrames.{AreStored, IsHigh}

-- ---- the votes that are kept

-- no vote of this voter was kept
not-kept : (voter : ℕ) (bs : List Vote) → list_any (λ x. x.voter == voter) bs ≡ false
    → AllByRecursion (λ x. x.voter ≡ voter → ⊥) bs
not-kept voter [] h = tt
not-kept voter (b ∷ bs) h = (
  (λ e. true≢false (sym (eq-eqb b.voter voter e) ∙ (or_parts _ _ h).0)),
  not-kept voter bs (or_parts _ _ h).1,
)

-- the votes for a block are of distinct voters
pub votes-each : (s : Sizes) (block : Branch) (c : Chronicle) → AreOfEach (votes s block c)
unfolding votes
votes-each s block [] = tt
votes-each s block (noted (got_vote voter v b) ∷ c) =
    cond_both (branch_eq b block
    && (not (list_any (λ x. x.voter == voter) (votes s block c)) && nat_lt (length (votes s block c))
    (quorum s))) _ _ AreOfEach
    (λ e. (
      not-kept voter (votes s block c) (not-true _ (and_parts _ _ (and_parts _ _ e).1).0),
      votes-each s block c,
    ))
    (λ e. votes-each s block c)
votes-each s block (noted (led_from b) ∷ c) = tt
votes-each s block (took_block a ∷ c) = votes-each s block c
votes-each s block (noted n ∷ c) = votes-each s block c

-- a vote of a frame that verifies
abbrev pub Counts : Identity → Bytes → Vote → Type 0
Counts self d b = IsVote self.sizes b × (vote_verifies self d b ≡ true)

-- each vote for a block is one of a frame, and verifies
pub votes-count : (self : Identity) (block : Branch) (c : Chronicle) → AreStored self c
    → AllByRecursion (Counts self (digest_of block)) (votes self.sizes block c)
unfolding votes
votes-count self block [] h = tt
votes-count self block (noted (got_vote voter v b) ∷ c) h =
    cond_both (branch_eq b block
    && (not (list_any (λ x. x.voter == voter) (votes self.sizes block c)) && nat_lt
    (length (votes self.sizes block c)) (quorum self.sizes))) _ _
    (AllByRecursion (Counts self (digest_of block)))
    (λ e. (
      (
        h.0.vote_is,
        subst (λ (y : Bytes). vote_verifies self y (record { voter = voter; vector = v }) ≡ true)
            (ap digest_of ((branch_eq-decides b block).0 (and_parts _ _ e).0)) h.0.verifies,
      ),
      votes-count self block c h.1,
    ))
    (λ e. votes-count self block c h.1)
votes-count self block (noted (led_from b) ∷ c) h = tt
votes-count self block (took_block a ∷ c) h = votes-count self block c h.1
votes-count self block (noted n ∷ c) h = votes-count self block c h.1

-- ---- the certificates that steps bring or complete

-- a certificate of its block; but for a certificate of genesis it is good for the replica
pub record IsRaised (self : Identity) (j : Justified) : Type 0 where
  pub certificate_is : IsCertificate self.sizes j.certificate
  pub kept : 0 < length j.block → IsKept self j.certificate
  pub justified : j.certificate.digest ≡ digest_of j.block

-- a lower block than genesis is none
above-genesis : (b : Branch) → b ≡ [] → 0 < length b → ⊥
above-genesis b e l = let k = ap (λ (x : Branch). length x) e in omega (arith, k, l)

-- the certificate that a quorum of votes completes
completed : (self : Identity) (voter : ℕ) (v : Bytes) (b : Branch) (c : Chronicle)
    → AreStored self (noted (got_vote voter v b) ∷ c)
    → length (votes self.sizes b (noted (got_vote voter v b) ∷ c)) ≡ quorum self.sizes
    → IsRaised self
    (record {
      block = b;
      certificate =
          record {
            digest = digest_of b;
            votes = by_voter (votes self.sizes b (noted (got_vote voter v b) ∷ c));
          };
    })
completed self voter v b c h enough =
    let bs : List Vote = votes self.sizes b (noted (got_vote voter v b) ∷ c) in
    let each : AllByRecursion (Counts self (digest_of b)) bs =
    votes-count self b (noted (got_vote voter v b) ∷ c) h in
    record {
      certificate_is = IsCertificate-by_voter self.sizes (digest_of b) bs (IsDigest-digest_of b)
          (all-implied (Counts self (digest_of b)) (IsVote self.sizes) (λ x k. k.0) bs each)
          (votes-each self.sizes b (noted (got_vote voter v b) ∷ c)) enough;
      kept = λ l. inl (is_good-by_voter self (digest_of b) bs
          (all-implied (Counts self (digest_of b)) (λ x. vote_verifies self (digest_of b) x ≡ true)
          (λ x k. k.1) bs each) enough
          (elim (cases_Bool (is_genesis (digest_of b)))
          [ inl t ↦ absurd (above-genesis b (h.0.genesis t) l) | inr f ↦ f ]));
      justified = refl;
    }

-- what a step may raise
abbrev AllRaised : Identity → Option Justified → Type 0
AllRaised self None = ⊤
AllRaised self (Some j) = IsRaised self j

-- each step of a chronicle whose steps came in frames
raised-all : (self : Identity) (st : Step) (c : Chronicle) → AreStored self (st ∷ c)
    → AllRaised self (raised self.sizes st c)
unfolding raised taken_blocks
raised-all self (took_block a) c h =
    cond_both a.new _ _ (AllRaised self)
    (λ e. record {
      certificate_is = h.0.certificate_is;
      kept = λ k. h.0.kept;
      justified = h.0.justified;
    })
    (λ e. tt)
raised-all self (noted (got_vote voter v b)) c h =
    cond_both (nat_lt (length (votes self.sizes b c)) (quorum self.sizes)
    && (length (votes self.sizes b (noted (got_vote voter v b) ∷ c)) == quorum self.sizes))
    _ _ (AllRaised self)
    (λ e. completed self voter v b c h (eqb-true _ _ (and_parts _ _ e).1))
    (λ e. tt)
raised-all self (noted (got_new_view w r q b)) c h =
    record {
      certificate_is = h.0.certificate_is;
      kept = λ k. inl h.0.good;
      justified = h.0.justified;
    }
raised-all self (noted n) c h = tt

-- the certificate that a step brings or completes
pub raised-is : (self : Identity) (st : Step) (c : Chronicle) (j : Justified) → AreStored self (st ∷ c)
    → raised self.sizes st c ≡ Some j → IsRaised self j
raised-is self st c j h e = subst (AllRaised self) e (raised-all self st c h)

-- ---- the highest certificate

-- the higher one of two
higher-high : (self : Identity) (whole : Bool) (o : Option Justified) (q : Justified) → AllRaised self o
    → IsHigh self q → IsHigh self (higher whole o q)
higher-high self whole None q r h = h
higher-high self whole (Some p) q r h =
    cond_both (nat_lt (length q.block) (length p.block) || (whole && fills p q)) p q (IsHigh self)
    (λ e. record {
      certificate_is = r.certificate_is;
      kept = r.kept (elim (or_cases _ _ e) [
        | inl t ↦ (let l = ltb-true (length q.block) (length p.block) t in omega (arith, l))
        | inr f ↦ (let g = and_parts _ _ (and_parts _ _ (and_parts _ _ f).1).0 in let l = ltb-true 0 (length q.block) g.0 in
            let k = ap (λ (x : Branch). length x) ((branch_eq-decides p.block q.block).0 g.1) in
            omega (arith, l, k))
      ]);
      justified = r.justified;
    })
    (λ e. h)

-- what a lead leaves
led-kept : (self : Identity) (b : Branch) (q : Justified) → IsHigh self q → IsHigh self (led b q)
led-kept self b q h =
    cond_both (branch_eq q.block b) q _ (IsHigh self) (λ e. h)
    (λ e. record {
      certificate_is = record { digest = IsDigest-digest_of b; count = inl refl; votes = tt; rising = tt };
      kept = inr refl;
      justified = refl;
    })

-- genesis's certificate has no votes
genesis-high : (self : Identity)
    → IsHigh self
    (record { block = []; certificate = record { digest = digest genesis_core; votes = [] } })
unfolding digest_of
genesis-high self = record {
  certificate_is =
      record { digest = IsDigest-digest genesis_core; count = inl refl; votes = tt; rising = tt };
  kept = inr refl;
  justified = refl;
}

-- after a lead
led-is : (self : Identity) (b : Branch) (c : Chronicle) → IsHigh self (qc_high self.sizes c)
    → IsHigh self (qc_high self.sizes (noted (led_from b) ∷ c))
unfolding qc_high
led-is self b c h = led-kept self b (qc_high self.sizes c) h

-- of a chronicle whose steps came in frames
pub qc_high-is : (self : Identity) (c : Chronicle) → AreStored self c → IsHigh self (qc_high self.sizes c)
unfolding qc_high
qc_high-is self [] h = genesis-high self
qc_high-is self (st ∷ c) h =
    elim (qc_high-cases self.sizes st c) [
      | inl l ↦ subst (λ (x : Step). IsHigh self (qc_high self.sizes (x ∷ c))) (sym l.1)
          (led-is self l.0 c (qc_high-is self c h.1))
      | inr e ↦ subst (IsHigh self) (sym e) (higher-high self (comes_whole st) (raised self.sizes st c) (qc_high self.sizes c)
          (raised-all self st c h) (qc_high-is self c h.1))
    ]

-- ---- all of a chronicle

-- the steps of a beginning are stored
stored-beginning : (self : Identity) (added c : Chronicle) → AreStored self (added ++ c) → AreStored self c
stored-beginning self [] c h = h
stored-beginning self (st ∷ added) c h = stored-beginning self added c h.1

-- the certificates of a chronicle whose steps came in frames
pub has-certificates : (self : Identity) (c : Chronicle) → AreStored self c → HasCertificates self c
has-certificates self c h =
    let high = qc_high-is self c h in
    record {
      each = λ st earlier j b e.
          let k : AreStored self (st ∷ earlier) =
          stored-beginning self b.0 (st ∷ earlier) (subst (AreStored self) (sym b.1) h) in
          let r = raised-is self st earlier j k e in
          record { certificate = r.certificate_is; digest = r.justified; kept = r.kept };
      highest = record { certificate = high.certificate_is; digest = high.justified; kept = λ n. high.kept };
      kept = high.kept;
    }
