-- The fronts of judged chronicles: they exist, they are one, and a step behind one counts a vote that is
-- unbacked.
use Rattle.std.proofs.Common.{ℕ, ◌≡◌, ◌<◌, ◌⊎◌, Bool, true, false, length, refl, sym, ap, subst}
use Rattle.std.proofs.Common.{◌∙◌, arith, inl, inr, Option, Some, None, true≢false}
use Rattle.std.proofs.lemmas.Bool.{cases_lt, ltb-true, lt-ltb, and_parts, and_from, and_cases}
use lib.Dec.{ltb}
use Rattle.std.specs.List.{list_any}
use Rattle.definitions.specs.Lists.{beginning, Among}
use Rattle.definitions.specs.Bytes.{Bytes}
use Rattle.definitions.specs.Chronicles.{Step}
use Rattle.definitions.specs.Audit.{Cut, Turns, AreAllowed, steps_in, Judged, is_judged, chronicle_of}
use Rattle.definitions.specs.Audit.{gives_vote, counted_by, counted_for, takes, sent_by, sent_block}
use Rattle.definitions.specs.Audit.{step_after, has_vote, has_taken, is_backed, may_move, AreFronts}
use Rattle.definitions.specs.Audit.{IsUnbacked, IsUntaken}
use Rattle.audit_ground.specs.Law.{FrontsAreOne, MovingFindsTheFronts, NoneUnbacked, UnbackedVotesAreSeen}
use Rattle.audit_ground.specs.Law.{UntakenBlocksAreSeen}
use Rattle.audit_ground.proofs.Lists.{any-longer, step_after-some, step_after-none}
use Rattle.audit_ground.proofs.Lists.{step_after-within}
use Rattle.audit_ground.proofs.Turns.{greatest-from_stuck, greatest-one, greatest-stuck, Under, IsGrowing}
use Rattle.audit_ground.proofs.Turns.{IsBounded, IsStuck, stuck-exists, some-mover, reached-start}
use Rattle.audit_ground.proofs.Turns.{reached-moved, reached-short}
use Rattle.audit_ground.proofs.Members.{bound, steps-below, each_judged-weaker, each_judged-fails}

-- ---- the rule

-- a vote that stands in a cut stands in a longer one
has_vote-grows : (ks : Judged) (m k : Cut) (d : Bytes) (v : ℕ) → Under m k → has_vote ks m d v ≡ true
    → has_vote ks k d v ≡ true
unfolding has_vote
has_vote-grows ks m k d v l = any-longer (gives_vote d) (m v) (k v) (chronicle_of ks v) (l v)

-- so does a block that was taken
has_taken-grows : (ks : Judged) (m k : Cut) (d : Bytes) (v : ℕ) → Under m k → has_taken ks m d v ≡ true
    → has_taken ks k d v ≡ true
unfolding has_taken
has_taken-grows ks m k d v l = any-longer (takes d) (m v) (k v) (chronicle_of ks v) (l v)

-- a step that is backed by a cut is backed by a longer one
backed-grows : (ks : Judged) (m k : Cut) (s : Step) → Under m k → is_backed ks m s ≡ true
    → is_backed ks k s ≡ true
unfolding is_backed
backed-grows ks m k s l h =
    let p = and_parts _ _ h in
    and_from _ _
    (each_judged-weaker ks (has_vote ks m (counted_for s)) (has_vote ks k (counted_for s)) (counted_by s)
    (λ v. has_vote-grows ks m k (counted_for s) v l) p.0)
    (each_judged-weaker ks (has_taken ks m (sent_block s)) (has_taken ks k (sent_block s)) (sent_by s)
    (λ v. has_taken-grows ks m k (sent_block s) v l) p.1)

-- whether there is such a step, and it is backed
unfoldable pub is_backed_if : Judged → Cut → Option Step → Bool
is_backed_if ks k o = elim o [ None ↦ false | Some s ↦ is_backed ks k s ]

-- a replica may move where its next step is backed
pub may_move-is : (ks : Judged) (k : Cut) (u : ℕ)
    → may_move ks k u ≡ is_backed_if ks k (step_after (k u) (chronicle_of ks u))
unfolding may_move is_backed_if
may_move-is ks k u = refl

-- the same of a step, if there is one
backed_if-grows : (ks : Judged) (m k : Cut) (o : Option Step) → Under m k → is_backed_if ks m o ≡ true
    → is_backed_if ks k o ≡ true
unfolding is_backed_if
backed_if-grows ks m k None l h = h
backed_if-grows ks m k (Some s) l h = backed-grows ks m k s l h

-- more steps of the others keep a replica's leave to move
pub may_move-grows : (ks : Judged) → IsGrowing (may_move ks)
may_move-grows ks m k u l e h =
    may_move-is ks k u
    ∙ subst (λ (j : ℕ). is_backed_if ks k (step_after j (chronicle_of ks u)) ≡ true) e
    (backed_if-grows ks m k (step_after (m u) (chronicle_of ks u)) l (sym (may_move-is ks m u) ∙ h))

-- who may move has a step left
pub may_move-short : (ks : Judged) (k : Cut) (u : ℕ) → may_move ks k u ≡ true
    → k u < length (chronicle_of ks u)
unfolding is_backed_if
may_move-short ks k u h =
    elim (cases_lt (k u) (length (chronicle_of ks u))) [
      | inl l ↦ l
      | inr g ↦ absurd (true≢false (sym h
          ∙ (may_move-is ks k u ∙ ap (is_backed_if ks k) (step_after-none (k u) (chronicle_of ks u) g))))
    ]

-- how many steps each replica has
abbrev pub lengths : Judged → Cut
lengths ks u = length (chronicle_of ks u)

-- few may move, and none past its last step
pub may_move-bounded : (ks : Judged) → IsBounded (may_move ks) (bound ks) (lengths ks)
may_move-bounded ks = record {
  few = λ m u h. steps-below ks u
      (let s = may_move-short ks m u h in omega (arith, s));
  short = may_move-short ks;
}

-- ---- the fronts

-- the law of this name
pub moving-finds_the_fronts : MovingFindsTheFronts
moving-finds_the_fronts ks = record {
  start = reached-start (may_move ks);
  moved = reached-moved (may_move ks) (may_move-grows ks);
  left = may_move-short ks;
  within = reached-short (may_move ks) (bound ks) (lengths ks) (may_move-bounded ks);
  finish = greatest-from_stuck (may_move ks) (may_move-grows ks);
}

-- turns after which none may move any more lead to the fronts
pub fronts-from_turns : (ks : Judged) (turns : Turns) → AreAllowed (may_move ks) turns
    → ((u : ℕ) → may_move ks (steps_in turns) u ≡ false) → AreFronts ks (steps_in turns)
fronts-from_turns ks turns allowed stuck =
    greatest-from_stuck (may_move ks) (may_move-grows ks) (steps_in turns)
    (record { turns = turns; allowed = allowed; reached = λ i. refl }) stuck

-- there are fronts
pub fronts-exist : (ks : Judged) → (k : Cut) × AreFronts ks k
fronts-exist ks =
    let s : IsStuck (may_move ks) =
    stuck-exists (may_move ks) (bound ks) (lengths ks) (may_move-bounded ks) in
    (steps_in s.turns, fronts-from_turns ks s.turns s.allowed s.stuck)

-- two of them are the same
pub fronts-one : (ks : Judged) (k m : Cut) → AreFronts ks k → AreFronts ks m → (i : ℕ) → k i ≡ m i
fronts-one ks = greatest-one (may_move ks)

-- the law of this name
pub fronts-are_one : FrontsAreOne
fronts-are_one ks = let f = fronts-exist ks in (f.0, f.1, λ m g. fronts-one ks m f.0 g f.1)

-- a front is no longer than the chronicle
pub fronts-short : (ks : Judged) (k : Cut) → AreFronts ks k → Under k (lengths ks)
fronts-short ks k f = reached-short (may_move ks) (bound ks) (lengths ks) (may_move-bounded ks) k
    (record { turns = f.turns; allowed = f.allowed; reached = f.reached })

-- no replica may move from the fronts
pub fronts-stuck : (ks : Judged) (k : Cut) → AreFronts ks k → (u : ℕ) → may_move ks k u ≡ false
fronts-stuck ks = greatest-stuck (may_move ks) (may_move-grows ks)

-- ---- behind the fronts

-- a vote is unbacked, or a sender lacks the block that it sent
abbrev pub SomeUnbacked : Judged → Type 0
SomeUnbacked ks =
    ((u v : ℕ) × (d : Bytes) × IsUnbacked ks u v d) ⊎ ((u v : ℕ) × (d : Bytes) × IsUntaken ks u v d)

-- a step that is not backed counts a judged replica's vote that the cut lacks, or names a judged sender that
-- lacks the block there
not-backed : (ks : Judged) (k : Cut) (s : Step) → is_backed ks k s ≡ false
    → ((v : ℕ) × Among v (counted_by s) × (is_judged ks v ≡ true) × (has_vote ks k (counted_for s) v ≡ false))
    ⊎ ((v : ℕ) × Among v (sent_by s) × (is_judged ks v ≡ true) × (has_taken ks k (sent_block s) v ≡ false))
unfolding is_backed
not-backed ks k s e =
    elim (and_cases _ _ e) [
      | inl h ↦ inl (each_judged-fails ks (has_vote ks k (counted_for s)) (counted_by s) h)
      | inr h ↦ inr (each_judged-fails ks (has_taken ks k (sent_block s)) (sent_by s) h)
    ]

-- the step after a front is not backed
pub behind-not_backed : (ks : Judged) (k : Cut) → AreFronts ks k → (u : ℕ) (s : Step)
    → step_after (k u) (chronicle_of ks u) ≡ Some s → is_backed ks k s ≡ false
unfolding is_backed_if
behind-not_backed ks k f u s e =
    ap (is_backed_if ks k) (sym e) ∙ (sym (may_move-is ks k u) ∙ fronts-stuck ks k f u)

-- a step that stands behind a front gives a reason
behind-unbacked : (ks : Judged) (k : Cut) → AreFronts ks k → (u : ℕ) → k u < length (chronicle_of ks u)
    → SomeUnbacked ks
behind-unbacked ks k f u l =
    let next = step_after-some (k u) (chronicle_of ks u) l in
    elim (not-backed ks k next.0 (behind-not_backed ks k f u next.0 next.1)) [
      | inl r ↦ inl (
        u,
        r.0,
        counted_for next.0,
        record {
          fronts = k;
          are_fronts = f;
          step = next.0;
          behind = next.1;
          counted = r.1;
          digest = refl;
          judged = r.2;
          missing = r.3;
        },
      )
      | inr r ↦ inr (
        u,
        r.0,
        sent_block next.0,
        record {
          fronts = k;
          are_fronts = f;
          step = next.0;
          behind = next.1;
          sent = r.1;
          digest = refl;
          judged = r.2;
          missing = r.3;
        },
      )
    ]

-- the fronts are whole, or there is a reason
pub whole-or-unbacked : (ks : Judged) (k : Cut) → AreFronts ks k
    → ((u : ℕ) → k u ≡ length (chronicle_of ks u)) ⊎ SomeUnbacked ks
whole-or-unbacked ks k f =
    elim (some-mover (λ u. ltb (k u) (length (chronicle_of ks u))) (bound ks)) [
      | inl r ↦ inr (behind-unbacked ks k f r.0 (ltb-true _ _ r.2))
      | inr none ↦ inl (λ u. elim (cases_lt (k u) (length (chronicle_of ks u))) [
        | inl l ↦ absurd (true≢false (sym (lt-ltb _ _ l) ∙ none u (steps-below ks u (omega arith))))
        | inr g ↦ let s = fronts-short ks k f u in omega (arith, s)
      ])
    ]

-- no step stands behind whole fronts
whole-none_behind : (ks : Judged) (k : Cut) → AreFronts ks k → ((u : ℕ) → k u ≡ length (chronicle_of ks u))
    → (m : Cut) → AreFronts ks m → (u : ℕ) (s : Step) → step_after (m u) (chronicle_of ks u) ≡ Some s → ⊥
whole-none_behind ks k f whole m g u s e =
    let l = step_after-within (m u) (chronicle_of ks u) s e in
    let same = fronts-one ks m k g f u in
    let w = whole u in
    absurd (omega (arith, l, same, w))

-- where some fronts are whole, no vote is unbacked
pub whole-none_unbacked : (ks : Judged) (k : Cut) → AreFronts ks k
    → ((u : ℕ) → k u ≡ length (chronicle_of ks u)) → NoneUnbacked ks
whole-none_unbacked ks k f whole = record {
  votes = λ u v d r. whole-none_behind ks k f whole r.fronts r.are_fronts u r.step r.behind;
  takes = λ u v d r. whole-none_behind ks k f whole r.fronts r.are_fronts u r.step r.behind;
}

-- the law of this name
pub unbacked-votes_are_seen : UnbackedVotesAreSeen
unfolding has_vote
unbacked-votes_are_seen ks k u v d f r =
    let same = fronts-one ks r.fronts k r.are_fronts f in (
      r.step,
      subst (λ (j : ℕ). step_after j (chronicle_of ks u) ≡ Some r.step) (same u) r.behind,
      r.counted,
      r.digest,
      r.judged,
      subst (λ (j : ℕ). list_any (gives_vote d) (beginning j (chronicle_of ks v)) ≡ false) (same v) r.missing,
    )

-- the law of this name
pub untaken-blocks_are_seen : UntakenBlocksAreSeen
unfolding has_taken
untaken-blocks_are_seen ks k u v d f r =
    let same = fronts-one ks r.fronts k r.are_fronts f in (
      r.step,
      subst (λ (j : ℕ). step_after j (chronicle_of ks u) ≡ Some r.step) (same u) r.behind,
      r.sent,
      r.digest,
      r.judged,
      subst (λ (j : ℕ). list_any (takes d) (beginning j (chronicle_of ks v)) ≡ false) (same v) r.missing,
    )
