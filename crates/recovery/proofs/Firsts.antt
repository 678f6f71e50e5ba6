-- A replica that never took a block stands on genesis, or on its own last proposal on it.
use Rattle.std.proofs.Common.{ℕ, ◌≡◌, ◌==◌, Bool, true, false, cond, List, [], ◌∷◌, map, length, refl, sym, ap, subst}
use Rattle.std.proofs.Common.{◌∙◌, arith, inl, inr, nat_lt, Option, Some, None, ◌⊎◌}
use Rattle.std.specs.Cmp.Lexicographic.{bytes_decides}
use Rattle.std.proofs.lemmas.Bool.{cond-true, cond-false, cond_both, eqb-true, eq-eqb, le-ltb}
use Rattle.std.proofs.lemmas.List.{nil_from_length}
use Rattle.ids.specs.Sizes.{Sizes}
use Rattle.definitions.specs.Lists.{Among}
use Rattle.definitions.specs.Branches.{Block, Branch}
use Rattle.definitions.specs.Checks.{Identity, is_good}
use Rattle.definitions.specs.Chronicles.{Admitted, Chronicle, Step, Step.took_block, Step.noted, Note.beat}
use Rattle.definitions.specs.Chronicles.{Note.led_from}
use Rattle.definitions.specs.Chronicles.{IsLawful, IsSound, AreKnown, taken_blocks, tree, stored_blocks, stored_block}
use Rattle.definitions.specs.Digests.{digest, digest_of, AllKnown, NoCollision}
use Rattle.definitions.specs.Frames.{Certificate, Core, genesis_core}
use Rattle.definitions.specs.Replicas.{MemorySupply, Replica, Reaction, step, Standing.running}
use Rattle.definitions.specs.Rulings.{Ruling, ruling}
use Rattle.definitions.specs.States.{Justified, leaf, proposed, made_with, child, or_else, picks, known_as, qc_high}
use Rattle.definitions.specs.Trees.{blocks}
use Rattle.definitions.specs.Worlds.{World, Event, Happening, self_of}
use Rattle.definitions.specs.Runs.{refusal}
use Rattle.definitions.specs.Events.{Effect, party_of, effect, happens, nothing, stepped, told, submitted}
use Rattle.definitions.proofs.Digests.{digest_of-one}
use Rattle.definitions.proofs.Sound.{Outcome, Outcome.unchanged, Outcome.refused, Outcome.lacks}
use Rattle.definitions.proofs.Sound.{Outcome.conflict, Outcome.stood, Outcome.cut, step-outcome}
use Rattle.linear_law.proofs.Effects.{ComesFramed, Effects, Effects.idle, Effects.step_by, Effects.hearing}
use Rattle.linear_law.proofs.Effects.{Effects.submitting, effects}
use Rattle.linear_law.proofs.KnownLeaves.{IsLeafKnown}
use Rattle.linear_law.proofs.Leaves.{child-is, known-block, known-before, high-known}
use Rattle.linear_law.proofs.Linear.{ground}
use Rattle.linear_law.proofs.MadeCertificates.{qc_high-is}
use Rattle.linear_law.proofs.Runs.{arises-checked}
use Rattle.linear_law.proofs.StoredFrames.{AreStored}
use Rattle.linear_law.proofs.WholeRuns.{IsWell}
use Rattle.recovery.specs.Correct.{OfCorrect}
use Rattle.recovery.proofs.SentVotes.{stopped-apart, cut-apart}

-- ---- genesis alone

-- who never took a block knows genesis alone
pub tree-empty : (c : Chronicle) → taken_blocks c ≡ [] → (x : Branch) → Among x (tree c) → x ≡ []
unfolding tree stored_blocks
tree-empty c e x m =
    one (subst (λ (l : List Admitted). Among x (blocks (map stored_block l))) e m)
  where
    one : Among x ([] ∷ []) → x ≡ []
    one (inl i) = i
    one (inr k) = absurd k

-- so its highest certificate is genesis's
pub high-empty : (s : Sizes) (c : Chronicle) → IsLawful s c → AreKnown c → taken_blocks c ≡ []
    → (qc_high s c).block ≡ []
high-empty s c law known e = tree-empty c e (qc_high s c).block (high-known s c law known)

-- a certificate of genesis
abbrev pub IsPlain : Certificate → Type 0
IsPlain q = (q.digest ≡ digest_of []) × (q.votes ≡ [])

pub plain-high : (self : Identity) (c : Chronicle) → AreStored self c → (qc_high self.sizes c).block ≡ []
    → IsPlain (qc_high self.sizes c).certificate
unfolding is_good digest_of
plain-high self c stored e =
    let q : Certificate = (qc_high self.sizes c).certificate in
    let is = qc_high-is self c stored in
    let d : q.digest ≡ digest_of [] = is.justified ∙ ap digest_of e in (
      d,
      elim is.kept [
        | inr none ↦ none
        | inl good ↦ nil_from_length q.votes (eqb-true (length q.votes) 0
            (sym (cond-true _ _ _ ((bytes_decides q.digest (digest genesis_core)).1 d)) ∙ good))
      ],
    )

-- ---- a first proposal that is lost

pub record IsLost (self : Identity) (c : Chronicle) : Type 0 where
  pub block : Block
  pub made : Justified
  pub leaf_is : leaf self c ≡ block ∷ []
  pub justify : block.justify ≡ 0
  pub proposed_is : proposed self c ≡ Some made
  pub block_is : made.block ≡ block ∷ []
  pub plain : IsPlain made.certificate

abbrev pub OnFirst : Identity → Chronicle → Type 0
OnFirst self c = taken_blocks c ≡ [] → (leaf self c ≡ []) ⊎ IsLost self c

lost-on : (self : Identity) (c d : Chronicle) → leaf self d ≡ leaf self c → proposed self d ≡ proposed self c
    → (leaf self c ≡ []) ⊎ IsLost self c → (leaf self d ≡ []) ⊎ IsLost self d
lost-on self c d l p (inl e) = inl (l ∙ e)
lost-on self c d l p (inr h) = inr (record {
  block = h.block;
  made = h.made;
  leaf_is = l ∙ h.leaf_is;
  justify = h.justify;
  proposed_is = p ∙ h.proposed_is;
  block_is = h.block_is;
  plain = h.plain;
})

taken-before : (st : Step) (c : Chronicle) → taken_blocks (st ∷ c) ≡ [] → taken_blocks c ≡ []
unfolding taken_blocks
taken-before (took_block a) c e = by a.new e
  where
    by : (t : Bool) → cond t (a ∷ taken_blocks c) (taken_blocks c) ≡ [] → taken_blocks c ≡ []
    by true k = absurd (apart k)
      where
        apart : a ∷ taken_blocks c ≡ [] → ⊥
        apart q = cc
    by false k = k
taken-before (noted n) c e = e

module _ (Known : Core → Type 0) (apart : NoCollision Known) (genesis : Known genesis_core) where
  -- a known block on genesis has another digest
  pub no-genesis : (b : Block) → AllKnown Known (b ∷ []) → digest_of [] ≡ digest_of (b ∷ []) → ⊥
  no-genesis b known e =
      let same = digest_of-one Known apart genesis ground [] (b ∷ []) tt known e in
      let n = ap (λ (x : Branch). length x) same in
      omega (arith, n)

  -- a step leaves it so
  first-step : (self : Identity) (st : Step) (c : Chronicle) → IsLawful self.sizes (st ∷ c) → AreKnown (st ∷ c)
      → AreStored self c → IsLeafKnown Known self c → OnFirst self c → OnFirst self (st ∷ c)
  unfolding leaf proposed
  first-step self (noted (led_from b)) c law known stored lk old none =
      inl (tree-empty c (taken-before (noted (led_from b)) c none) b known.0)
  first-step self (noted beat) c law known stored lk old none =
      by (child self c (leaf self c)) refl (old before)
    where
      before : taken_blocks c ≡ []
      before = taken-before (noted beat) c none

      by : (o : Option Branch) → child self c (leaf self c) ≡ o → (leaf self c ≡ []) ⊎ IsLost self c
          → (leaf self (noted beat ∷ c) ≡ []) ⊎ IsLost self (noted beat ∷ c)
      by None e h = lost-on self c (noted beat ∷ c) (ap (λ (o : Option Branch). or_else o (leaf self c)) e)
          (ap (λ (o : Option Branch). made_with o (qc_high self.sizes c).certificate (proposed self c)) e) h
      by (Some x) e (inl l) =
          let ch = child-is self c (leaf self c) x e in
          let high = high-empty self.sizes c law.1 (known-before (noted beat) c known) before in
          let b : Block =
          record { commands = picks c (known_as (leaf self c) c); justify = length (qc_high self.sizes c).block } in
          let is : x ≡ b ∷ [] = ch.is ∙ ap (λ (y : Branch). b ∷ y) l in
          inr (record {
            block = b;
            made = record { block = x; certificate = (qc_high self.sizes c).certificate };
            leaf_is = ap (λ (o : Option Branch). or_else o (leaf self c)) e ∙ is;
            justify = ap (λ (y : Branch). length y) high;
            proposed_is =
                ap (λ (o : Option Branch). made_with o (qc_high self.sizes c).certificate (proposed self c)) e;
            block_is = is;
            plain = plain-high self c stored high;
          })
      by (Some x) e (inr h) =
          let ch = child-is self c (leaf self c) x e in
          let y = known-block (digest_of (leaf self c)) c ch.known in
          let z = tree-empty c before y.0 y.1 in
          absurd (no-genesis h.block (subst (AllKnown Known) h.leaf_is lk.known)
          (ap digest_of (sym z) ∙ (y.2 ∙ ap digest_of h.leaf_is)))
  first-step self st c law known stored lk old none =
      let before = taken-before st c none in
      let low = high-empty self.sizes c law.1 (known-before st c known) before in
      let top = high-empty self.sizes (st ∷ c) law known none in
      let n = ap (λ (y : Branch). length y) low in
      let k = ap (λ (y : Branch). length y) top in
      lost-on self c (st ∷ c)
      (cond-false (nat_lt (length (qc_high self.sizes c).block) (length (qc_high self.sizes (st ∷ c)).block)) _ _
      (le-ltb (length (qc_high self.sizes c).block) (length (qc_high self.sizes (st ∷ c)).block) (omega (arith, n, k))))
      refl (old before)

  -- ---- along a run

  abbrev pub HasFirst : Identity → Replica → Type 0
  HasFirst self y = y.standing ≡ running → OnFirst self y.chronicle

  outcome-first : (self : Identity) (v : Ruling) (r : Replica) (x : Replica × Reaction)
      → Outcome self r.chronicle v r x → AreStored self r.chronicle
      → (r.standing ≡ running → IsLeafKnown Known self r.chronicle) → IsSound self.sizes x.0.chronicle
      → HasFirst self r → HasFirst self x.0
  outcome-first self v r x (unchanged n k) stored lk so h = h
  outcome-first self v r x (refused stopping n u k) stored lk so h = λ s. h u
  outcome-first self v r x (lacks sender d u) stored lk so h = λ s. h u
  outcome-first self v r x (conflict st u e k) stored lk so h = λ s. absurd (stopped-apart s)
  outcome-first self v r x (stood st u e k) stored lk so h =
      λ s. first-step self st r.chronicle so.lawful so.known stored (lk u) (h u)
  outcome-first self v r x (cut st n u e k) stored lk so h = λ s. absurd (cut-apart _ s)

  abbrev pub AllFirst : World → Type 0
  AllFirst w = OfCorrect w (λ r. HasFirst (self_of w r) (w.replica r))

  effect-first : (w : World) (e : Event) (m : MemorySupply) (f : Effect) → IsWell Known w
      → OfCorrect w (λ r. IsSound w.sizes (f.replica r).chronicle) → AllFirst w → Effects w e m f
      → OfCorrect w (λ r. HasFirst (self_of w r) (f.replica r))
  unfolding nothing stepped told submitted
  effect-first w e m f g so h (idle a n) = h
  effect-first w e m f g so h (step_by i c ar) = λ r d.
      let p : ℕ = party_of e in
      let self : Identity = self_of w p in
      let x = step self m i (w.replica p) in
      let out = step-outcome self m i (w.replica p) (arises-checked w e i ar) (g.good.run.row.sound p c) in
      let own : HasFirst self x.0 =
      outcome-first self (ruling self i (w.replica p).chronicle) (w.replica p) x out (g.framed.stored p c)
      (g.framed.leaves p c)
      (subst (λ (y : Replica). IsSound w.sizes y.chronicle) (cond-true (p == p) x.0 (w.replica p) (eq-eqb p p refl))
      (so p c)) (h p c) in
      cond_both (r == p) x.0 (w.replica r) (HasFirst (self_of w r))
      (λ t. subst (λ (j : ℕ). HasFirst (self_of w j) x.0) (sym (eqb-true r p t)) own) (λ t. h r d)
  effect-first w e m f g so h (hearing x b a n k l) = h
  effect-first w e m f g so h (submitting c payload n k) = h

  -- an event leaves it so
  pub happens-first : (w : World) (h : Happening) → IsWell Known w → IsWell Known (happens w h) → ComesFramed w h.0
      → refusal w h.0 ≡ None → AllFirst w → AllFirst (happens w h)
  unfolding happens
  happens-first w h g next framed ok all =
      effect-first w h.0 h.1 (effect w h) g (λ r c. next.good.run.row.sound r c) all (effects w h.0 h.1 framed ok)
